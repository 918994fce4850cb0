-- What the survey knows at the end is what the definitions say of all lines.
use Rattle.std.proofs.Common.{◌≤◌, ◌≡◌, refl, sym, ap, ◌∙◌, Bool, true, false, ◌&&◌, ◌||◌, not, List, [], ◌∷◌, ◌++◌, append_assoc, append-nil, ℕ, zero, suc, ◌+◌, ◌*◌, ◌/◌, ◌%◌, ◌<◌, arith, ne_eqb, eq-eqb, lt-ltb, le-ltb, Option, Some, None, cond, eqb, ltb, leb, length, get_or, length-append, get_or-append-add}
use mathlib.Core.Bool.{not-not}
use lib.ListN.{get_or-append}
use lib.Seq.{get_or_at}
use Rattle.fields.proofs.Tests.{by_test}
use Rattle.automaton.specs.declared.Automaton.{Automaton}
use Rattle.automaton.specs.declared.Move.{Move}
use Rattle.automaton.specs.Board.{move_at, outside, unsorted}
use Rattle.automaton.specs.First.{first, first_below}
use Rattle.automaton.proofs.First.{first_more, first-lowest, first-same}
use Rattle.automaton.proofs.Sound.{leb_not}
use Rattle.lines.specs.declared.line.Line.{Line}
use Rattle.lines.specs.declared.line.Line.TheVariants as line
use Rattle.text.specs.declared.survey.Survey.{Survey}
use Rattle.text.specs.Survey.{at_fault, ascends, rises, within, accepted_by, moved_by}
use Rattle.text.specs.Text.{mode_after, accepts, moves, stray}
use Rattle.text.proofs.Form.{taken_all, Following}

-- the last of so many states named, and of so many moves
abbrev pub last_named : (count : ℕ) → (named : List ℕ) → Option ℕ
last_named zero qs = None
last_named (suc c) qs = Some (get_or qs c 0)

abbrev pub last_step : (count : ℕ) → (ms : List ℕ) → Option Move
last_step zero ms = None
last_step (suc c) ms = Some (move_at ms c)

-- the survey of an automaton line, a mode, the states named and the numbers of the moves
abbrev pub known : Automaton → (mode : ℕ) → (named moves : List ℕ) → Survey
known a m qs ms =
    let n = a.states in
    let c = length ms / 3 in
    record {
      automaton = a;
      mode = m;
      accepts = length qs;
      last_accept = last_named (length qs) qs;
      strayed = first_below (stray n qs) (length qs);
      moves = c;
      last_move = last_step c ms;
      outside = first_below (outside n a.letters ms) c;
      unsorted = first_below (unsorted ms) c;
    }

-- ---- a property of one thing more

-- the first at fault among one thing more, when the property of the others stays
fault-first : (p p' : ℕ → Bool) (c : ℕ) (fine : Bool) → ((i : ℕ) → i < c → p i ≡ p' i) → fine ≡ not (p' c) → at_fault (first_below p c) c fine ≡ first_below p' (suc c)
fault-first p p' c fine same f = by_test w c (ltb w c) refl
    (λ (inside : w < c).
    let n : eqb w c ≡ false = ne_eqb w c (λ x. omega arith) in
    let more : first p' 0 (suc c) ≡ w = first_more p' 0 c ∙ simp (z, n) in
    simp (e, more, lt-ltb w c inside, lt-ltb w (suc c) (omega arith)))
    (λ (past : c ≤ w).
    let here : w ≡ c = omega (arith, (first-lowest p' 0 c).most) in
    let more : first p' 0 (suc c) ≡ cond fine (suc c) c = first_more p' 0 c ∙ simp (z, here, eq-eqb c c refl, f) in
    simp (e, le-ltb w c past, more) (next fine))
  where
    w : ℕ
    w = first p' 0 c

    z : 0 + c ≡ c
    z = omega arith

    e : first p 0 c ≡ w
    e = first-same p p' 0 c (λ i l k. same i (omega arith))

    next : (t : Bool) → cond t None (Some c) ≡ cond (ltb (cond t (suc c) c) (suc c)) (Some (cond t (suc c) c)) None
    next true = simp (le-ltb (suc c) (suc c) (omega arith))
    next false = simp (lt-ltb c (suc c) (omega arith))

not_leb : (a b : ℕ) → not (leb a b) ≡ ltb b a
not_leb a b = ap not (leb_not a b) ∙ not-not (ltb b a)

not-or : (t u : Bool) → not (t || u) ≡ (not t && not u)
not-or true u = refl
not-or false u = refl

-- ---- one accept line more

module _ (n : ℕ) (qs : List ℕ) (q : ℕ) where
  stray-same : (i : ℕ) → i < length qs → stray n qs i ≡ stray n (qs ++ (q ∷ [])) i
  stray-same zero h = simp (get_or-append qs (q ∷ []) 0 0 h)
  stray-same (suc i) h = let b : i < length qs = omega arith in simp (get_or-append qs (q ∷ []) 0 (suc i) h, get_or-append qs (q ∷ []) 0 i b)

  seam : (c : ℕ) → length qs ≡ c → get_or (qs ++ (q ∷ [])) c 0 ≡ q
  seam c e = get_or_at qs q [] 0 c e

  stray-here : (c : ℕ) → length qs ≡ c → (ascends (last_named c qs) q && ltb q n) ≡ not (stray n (qs ++ (q ∷ [])) c)
  stray-here zero e = simp (seam 0 e) (sym (not_leb n q))
  stray-here (suc c) e =
      let b : c < length qs = omega arith in
      simp (seam (suc c) e, get_or-append qs (q ∷ []) 0 c b, not-or, not_leb)

accepted-known : (a : Automaton) (m : ℕ) (qs ms : List ℕ) (q : ℕ) → accepted_by (known a m qs ms) q ≡ known a m (qs ++ (q ∷ [])) ms
accepted-known a m qs ms q =
    let n = a.states in
    let long : length (qs ++ (q ∷ [])) ≡ suc (length qs) = omega (arith, length-append qs (q ∷ [])) in
    let last : last_named (length (qs ++ (q ∷ []))) (qs ++ (q ∷ [])) ≡ Some q = simp (long, seam n qs q (length qs) refl) in
    let first-stray : at_fault (first_below (stray n qs) (length qs)) (length qs) (ascends (last_named (length qs) qs) q && ltb q n) ≡ first_below (stray n (qs ++ (q ∷ []))) (length (qs ++ (q ∷ []))) =
    fault-first (stray n qs) (stray n (qs ++ (q ∷ []))) (length qs) _ (stray-same n qs q) (stray-here n qs q (length qs) refl) ∙ ap (first_below (stray n (qs ++ (q ∷ [])))) (sym long) in
    cc

-- ---- one move line more

module _ (ms : List ℕ) (p a q : ℕ) (whole : length ms % 3 ≡ 0) where
  abbrev longer : List ℕ
  longer = ms ++ (p ∷ a ∷ q ∷ [])

  long : length longer ≡ length ms + 3
  long = length-append ms (p ∷ a ∷ q ∷ [])

  -- the numbers of a move before the seam, and of the one behind it
  old : (x : ℕ) → x < length ms → get_or longer x 0 ≡ get_or ms x 0
  old x h = get_or-append ms (p ∷ a ∷ q ∷ []) 0 x h

  new : (d x : ℕ) → x ≡ length ms + d → get_or longer x 0 ≡ get_or (p ∷ a ∷ q ∷ []) d 0
  new d x e = simp e (get_or-append-add ms (p ∷ a ∷ q ∷ []) d 0)

  inside : (n k i : ℕ) → i < length ms / 3 → outside n k ms i ≡ outside n k longer i
  inside n k i h = simp (old (i * 3) (omega arith), old (i * 3 + 1) (omega arith), old (i * 3 + 2) (omega arith))

  ordered : (i : ℕ) → i < length ms / 3 → unsorted ms i ≡ unsorted longer i
  ordered zero h = refl
  ordered (suc i) h =
      simp (old (i * 3) (omega arith), old (i * 3 + 1) (omega arith), old (i * 3 + 2) (omega arith), old (suc i * 3) (omega arith), old (suc i * 3 + 1) (omega arith), old (suc i * 3 + 2) (omega arith))

  inside-here : (n k c : ℕ) → c ≡ length ms / 3 → (ltb p n && ltb a k && ltb q n) ≡ not (outside n k longer c)
  inside-here n k c e =
      simp (new 0 (c * 3) (omega arith), new 1 (c * 3 + 1) (omega arith), new 2 (c * 3 + 2) (omega arith)) (sym (not-not (ltb p n && ltb a k && ltb q n)))

  ordered_here : (c : ℕ) → c ≡ length ms / 3 → rises (last_step c ms) (record { from = p; letter = a; to = q }) ≡ not (unsorted longer c)
  ordered_here zero e = refl
  ordered_here (suc c) e =
      simp (old (c * 3) (omega arith), old (c * 3 + 1) (omega arith), old (c * 3 + 2) (omega arith), new 0 (suc c * 3) (omega arith), new 1 (suc c * 3 + 1) (omega arith), new 2 (suc c * 3 + 2) (omega arith)) (sym (not-not _))

moved_known : (a : Automaton) (m : ℕ) (qs ms : List ℕ) (p x q : ℕ) → length ms % 3 ≡ 0
    → moved_by (known a m qs ms) (record { from = p; letter = x; to = q }) ≡ known a m qs (ms ++ (p ∷ x ∷ q ∷ []))
moved_known a m qs ms p x q w =
    let n = a.states in
    let k = a.letters in
    let c = length ms / 3 in
    let l = ms ++ (p ∷ x ∷ q ∷ []) in
    let t : Move = record { from = p; letter = x; to = q } in
    let more : length l / 3 ≡ suc c = omega (arith, long ms p x q w) in
    let from : get_or l (c * 3) 0 ≡ p = new ms p x q w 0 (c * 3) (omega arith) in
    let letter : get_or l (c * 3 + 1) 0 ≡ x = new ms p x q w 1 (c * 3 + 1) (omega arith) in
    let to : get_or l (c * 3 + 2) 0 ≡ q = new ms p x q w 2 (c * 3 + 2) (omega arith) in
    let last : last_step (length l / 3) l ≡ Some t = simp (more, from, letter, to) in
    let first-outside : at_fault (first_below (outside n k ms) c) c (within t a) ≡ first_below (outside n k l) (length l / 3) =
    fault-first (outside n k ms) (outside n k l) c _ (inside ms p x q w n k) (inside-here ms p x q w n k c refl) ∙ ap (first_below (outside n k l)) (sym more) in
    let first-unsorted : at_fault (first_below (unsorted ms) c) c (rises (last_step c ms) t) ≡ first_below (unsorted l) (length l / 3) =
    fault-first (unsorted ms) (unsorted l) c _ (ordered ms p x q w) (ordered_here ms p x q w c refl) ∙ ap (first_below (unsorted l)) (sym more) in
    cc

-- ---- all lines

pub all_known : (a : Automaton) (m : ℕ) (qs ms : List ℕ) (ls : List (Option Line)) → length ms % 3 ≡ 0 → Following ls
    → taken_all (known a m qs ms) ls ≡ known a (mode_after m ls) (qs ++ accepts ls) (ms ++ moves ls)
all_known a m qs ms [] w f = let x : qs ++ [] ≡ qs = append-nil qs in let y : ms ++ [] ≡ ms = append-nil ms in simp (x, y)
all_known a m qs ms (Some (line.Automaton n k s) ∷ ls) w f = absurd (omega (arith, f.0))
all_known a m qs ms (Some (line.Mode m') ∷ ls) w f = all_known a m' qs ms ls w f.1
all_known a m qs ms (Some (line.Accept q) ∷ ls) w f =
    ap (λ (s : Survey). taken_all s ls) (accepted-known a m qs ms q) ∙
    all_known a m (qs ++ (q ∷ [])) ms ls w f.1 ∙
    ap (λ (x : List ℕ). known a (mode_after m ls) x (ms ++ moves ls)) (append_assoc qs (q ∷ []) (accepts ls))
all_known a m qs ms (Some (line.Move p x q) ∷ ls) w f =
    let three = p ∷ x ∷ q ∷ [] in
    let w' : length (ms ++ three) % 3 ≡ 0 = omega (arith, length-append ms three) in
    ap (λ (s : Survey). taken_all s ls) (moved_known a m qs ms p x q w) ∙
    all_known a m qs (ms ++ three) ls w' f.1 ∙
    ap (λ (y : List ℕ). known a (mode_after m ls) (qs ++ accepts ls) y) (append_assoc ms three (moves ls))
all_known a m qs ms (None ∷ ls) w f = absurd f
