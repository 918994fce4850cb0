-- The promise of `read` leaves no choice: a text comes to one outcome, two results that meet the promise coincide,
-- and two results with the same number, place and values are the same.
use Rattle.std.proofs.Common.{◌≡◌, refl, sym, ap, subst, ◌∙◌, List, [], ℕ, get_or, Result, Ok, Err, arith}
use Rattle.automaton.specs.Answer.{Answer, answered}
use Rattle.automaton.specs.declared.Refusal.{Refusal}
use Rattle.automaton.proofs.One.{one-answered}
use Rattle.tokens.specs.declared.Token.{Token}
use Rattle.headers.specs.declared.Header.{Header}
use Rattle.headers.specs.declared.Wanted.TheVariants.{Format}
use Rattle.headers.specs.Header.{unsaid}
use Rattle.headers.specs.Walk as header
use Rattle.headers.proofs.One as header-one
use Rattle.bodies.specs.declared.Due.TheVariants.{Block}
use Rattle.bodies.specs.Body.{blank}
use Rattle.bodies.specs.Walk as body
use Rattle.bodies.proofs.One as body-one
use Rattle.text.specs.Calls.{Lent}
use Rattle.hanoi.specs.declared.Limits.{Limits}
use Rattle.hanoi.specs.declared.Reading.{Reading}
use Rattle.hanoi.specs.Answers.{of_reading}
use Rattle.hanoi.specs.Calls.{reading, Reads, too_long, read}
use Rattle.hanoi.specs.Reading.{Outcome, whole, refused, Comes, in_header, in_body, to_end}

-- ---- reading

-- what reading comes to behind a header, by what its body comes to
abbrev behind : Header → body.Outcome → Outcome
behind h (body.held sheet es) = whole (record { header = h; sheet = sheet; edges = es })
behind h (body.refused r) = refused r

module _ (T : ℕ → Token) where
  -- the same by what the header comes to
  abbrev After : header.Outcome → Outcome → Type 0
  After (Err r) o = refused r ≡ o
  After (Ok x) o = (b : body.Outcome) × body.Walk T x.header.states x.header.props Block blank [] x.next b × (behind x.header b ≡ o)

  after : {o : Outcome} → Comes T o → (r : header.Outcome) × header.Walk T Format unsaid 0 r × After r o
  after (in_header {r = r} w) = (Err r, w, refl)
  after (in_body {h = h} {j = j} {r = r} w v) = (header.held h j, w, (body.refused r, v, refl))
  after (to_end {h = h} {j = j} {sheet = s} {es = es} w v) = (header.held h j, w, (body.held s es, v, refl))

  after_one : {o o' : Outcome} (r : header.Outcome) → After r o → After r o' → o ≡ o'
  after_one (Err r) a b = sym a ∙ b
  after_one (Ok x) (b, w, e) (c, v, d) = sym e ∙ ap (behind x.header) (body-one.walk_one T x.header.states x.header.props w v) ∙ d

pub comes_one : {T : ℕ → Token} {o o' : Outcome} → Comes T o → Comes T o' → o ≡ o'
comes_one {T} {o} {o'} a b =
    let (r, w, k) = after T a in
    let (s, v, l) = after T b in
    after_one T r k (subst (λ (r : header.Outcome). After T r o') (header-one.walk_one T v w) l)

pub reads_one : {s : List ℕ} {b : Limits} {x : Lent} {a c : Answer} {l m : Lent} → Reads s b x a l → Reads s b x c m → (a ≡ c) × (l ≡ m)
reads_one (too_long h e d) (too_long k f g) = (e ∙ sym f, d ∙ sym g)
reads_one (too_long h e d) (read k w f g) = absurd (omega arith)
reads_one (read h w e d) (too_long k f g) = absurd (omega arith)
reads_one {b = b} {x = x} (read h w e d) (read k v f g) =
    let p = comes_one w v in
    (e ∙ ap (λ (o : Outcome). (reading b o x).answer) p ∙ sym f, d ∙ ap (λ (o : Outcome). (reading b o x).left) p ∙ sym g)

-- ---- results

-- the result that values stand for
value : Answer → ℕ → ℕ
value a i = get_or a.values i 0

held_by : Answer → Reading
held_by a = record { automaton = record { states = value a 0; letters = value a 1; start = value a 2 }; moves = value a 3 }

one-told : (r s : Reading) → of_reading r ≡ of_reading s → r ≡ s
unfolding held_by value
one-told r s e = ap held_by e

pub one-reading : (r s : Result Reading Refusal) → answered of_reading r ≡ answered of_reading s → r ≡ s
one-reading = one-answered of_reading (λ r. refl) one-told
