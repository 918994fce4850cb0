-- What was gathered of a body is the file: the marked triples are its moves, and `finish` comes to what reading the file comes to.
use Rattle.std.proofs.Common.{◌≡◌, refl, sym, ap, ◌∙◌, Bool, cond, List, [], ◌∷◌, ℕ, ◌*◌, ◌/◌, ◌%◌, ◌≤◌, eqb, get_or}
use Rattle.automaton.specs.declared.Automaton.{Automaton}
use Rattle.automaton.specs.Answer.{Fault, none, fault, first_fault}
use Rattle.automaton.specs.Effect.{Effect, does}
use Rattle.automaton.specs.Limits.{most_states}
use Rattle.automaton.proofs.Fault.{all_none}
use Rattle.automaton.proofs.Sound.{states-line}
use Rattle.simulation.specs.Quotient.{triple_by}
use Rattle.simulation.proofs.Listed.{bit_is}
use Rattle.triples.proofs.Turns.{turn-same}
use Rattle.bodies.specs.Body.{leads}
use Rattle.bodies.specs.Reads.{Shown}
use Rattle.text.specs.Calls.{Lent}
use Rattle.hanoi.specs.declared.Limits.{Limits}
use Rattle.hanoi.specs.Calls.{faults_of, reading}
use Rattle.hanoi.specs.File.{File, letters_in, automaton_in, marks_in, moves_in}
use Rattle.hanoi.specs.Reading.{whole}
use Rattle.hanoi.specs.Writing.{moves_of, finishing, short, done}

module _ (f : File) (seen : List ℕ) where
  -- where there are no more states than an automaton has
  moves_are : f.header.states ≤ most_states → Shown f.header.states (letters_in f) f.edges seen → moves_of (automaton_in f) seen ≡ moves_in f
  moves_are few shown =
      let n = f.header.states in
      let k = letters_in f in
      let led : ℕ → Bool = λ x. leads f.edges (x / n / k) (x / n % k) (x % n) in
      turn-same (λ x. cond (eqb (get_or seen x 0) 1) (triple_by n k x) []) (λ x. cond (led x) (triple_by n k x) []) (n * k * n)
      (λ x l. ap (λ (s : Bool). cond s (triple_by n k x) []) (ap (λ (b : ℕ). eqb b 1) (shown.each few x l) ∙ bit_is (led x)))

  module _ (b : Limits) (x : Lent) (shown : Shown f.header.states (letters_in f) f.edges seen) where
    -- what the numbers decide is decided before the moves are looked at
    by_judgement : (g : Fault) → first_fault (faults_of b (automaton_in f)) ≡ g → finishing b (automaton_in f) (marks_in f) (moves_of (automaton_in f) seen) x ≡ finishing b (automaton_in f) (marks_in f) (moves_in f) x
    by_judgement none e =
        let few = ((states-line f.header.states).0 ((all_none (faults_of b (automaton_in f))).0 e).0).1 in
        ap (λ (ms : List ℕ). finishing b (automaton_in f) (marks_in f) ms x) (moves_are few shown)
    by_judgement (fault r) e =
        let by : List ℕ → Fault → Effect Lent = λ ms g. does (first_fault (g ∷ short (automaton_in f) (marks_in f) ms x ∷ [])) x (done (automaton_in f) (marks_in f) ms x) in
        ap (by (moves_of (automaton_in f) seen)) e ∙ sym (ap (by (moves_in f)) e)

    pub finished_file : finishing b (automaton_in f) (marks_in f) (moves_of (automaton_in f) seen) x ≡ reading b (whole f) x
    unfolding reading
    finished_file = by_judgement (first_fault (faults_of b (automaton_in f))) refl

  -- the same with the letters as they were counted
  pub finished : (b : Limits) (x : Lent) (k : ℕ) → k ≡ letters_in f → Shown f.header.states (letters_in f) f.edges seen
      → let a : Automaton = record { states = f.header.states; letters = k; start = f.header.start } in
      finishing b a (marks_in f) (moves_of a seen) x ≡ reading b (whole f) x
  finished b x k e shown =
      ap (λ (l : ℕ). let a : Automaton = record { states = f.header.states; letters = l; start = f.header.start } in finishing b a (marks_in f) (moves_of a seen) x) e
      ∙ finished_file b x shown
