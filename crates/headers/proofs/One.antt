-- Reading comes to one answer.
use Rattle.std.proofs.Common.{◌≡◌, sym, ap, subst, ◌∙◌, ℕ, Option, Some, None, Err}
use Rattle.automaton.specs.declared.Refusal.TheVariants.{Foreign}
use Rattle.tokens.specs.declared.Token.{Token}
use Rattle.headers.specs.declared.Next.{Next}
use Rattle.headers.specs.declared.Next.TheVariants.{To, Body}
use Rattle.headers.specs.declared.Said.{Said}
use Rattle.headers.specs.declared.Wanted.{Wanted}
use Rattle.headers.specs.Stands.{step}
use Rattle.headers.specs.Walk.{Outcome, held, Walk, goes, over, stuck}

-- what reading comes to where a token leads
abbrev After : (ℕ → Token) → Option Next → (x : Token) → Outcome → Type 0
After T (Some (To v t)) x r = Walk T v t x.next r
After T (Some (Body h)) x r = held h x.next ≡ r
After T None x r = Err (Foreign x.at) ≡ r

module _ (T : ℕ → Token) where
  after : {w : Wanted} {s : Said} {i : ℕ} {r : Outcome} → Walk T w s i r → After T (step w s (T i).sort) (T i) r
  after {i = i} {r = r} (goes {v = v} {t = t} e n k) = subst (λ m. After T m (T i) r) (sym e) (subst (λ j. Walk T v t j r) (sym n) k)
  after {i = i} (over {h = h} {j = j} e n) = subst (λ m. After T m (T i) (held h j)) (sym e) (ap (held h) n)
  after {i = i} (stuck {p = p} e n) = subst (λ m. After T m (T i) (Err (Foreign p))) (sym e) (ap (λ q. Err (Foreign q)) n)

  pub walk_one : {w : Wanted} {s : Said} {i : ℕ} {r q : Outcome} → Walk T w s i r → Walk T w s i q → r ≡ q
  walk_one {i = i} {q = q} (goes {v = v} {t = t} e n k) l = walk_one k (subst (λ j. Walk T v t j q) n (subst (λ m. After T m (T i) q) e (after l)))
  walk_one {i = i} {q = q} (over {h = h} e n) l = ap (held h) (sym n) ∙ subst (λ m. After T m (T i) q) e (after l)
  walk_one {i = i} {q = q} (stuck e n) l = ap (λ p. Err (Foreign p)) (sym n) ∙ subst (λ m. After T m (T i) q) e (after l)
