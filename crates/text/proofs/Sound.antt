-- A text that nothing is at fault with gives a well-formed automaton within the limits of the programs, and its moves are bytes.
use Rattle.std.proofs.Common.{◌≡◌, refl, ◌∙◌, ◌↔◌, Bool, true, false, ◌||◌, not, true≢false, List, [], ◌∷◌, ℕ, zero, suc, ◌+◌, ◌*◌, ◌/◌, ◌%◌, ◌≤◌, ◌<◌, mod-eq_of_lt, arith, ltb-false, le-ltb, eq-eqb, eqb, ltb, length, get_or, set, replicate, ext_get_or, Option, Some, None}
use lib.ListN.{length-map, length-replicate, get_or-map}
use Rattle.automaton.specs.declared.Refusal.TheVariants.{Marks, Bytes, ProgramLimits}
use Rattle.automaton.specs.Answer.{none, fails, fails_at, first_fault}
use Rattle.automaton.specs.Board.{Formed}
use Rattle.automaton.specs.Check.{high, marks_fault, mode_fault, faults, automaton_fault}
use Rattle.automaton.proofs.Fault.{AllNone, all_none, fails-line, fails_at-line}
use Rattle.automaton.proofs.Sound.{automaton-line}
use Rattle.lines.specs.declared.line.Line.{Line}
use Rattle.lines.specs.declared.line.Line.TheVariants as line
use Rattle.text.specs.Fill.{bytes}
use Rattle.text.proofs.Filled.{marked_length}
use Rattle.text.specs.Text.{head, mode, accepts, moves, marked, marks, board_in, program_states, program_letters, line_faults}

-- ---- the marks

pub marks_length : (n : ℕ) (ls : List (Option Line)) → length (marks n ls) ≡ n
marks_length n ls = marked_length (accepts ls) (replicate n 0) ∙ length-replicate n 0

set_low : (ms : List ℕ) (q : ℕ) → ((i : ℕ) → get_or ms i 0 ≤ 1) → (i : ℕ) → get_or (set ms q 1) i 0 ≤ 1
set_low [] q low i = low i
set_low (x ∷ xs) zero low zero = omega arith
set_low (x ∷ xs) zero low (suc i) = low (suc i)
set_low (x ∷ xs) (suc q) low zero = low 0
set_low (x ∷ xs) (suc q) low (suc i) = set_low xs q (λ j. low (suc j)) i

marked-low : (qs ms : List ℕ) → ((i : ℕ) → get_or ms i 0 ≤ 1) → (i : ℕ) → get_or (marked qs ms) i 0 ≤ 1
marked-low [] ms low = low
marked-low (q ∷ qs) ms low = marked-low qs (set ms q 1) (set_low ms q low)

zeros-low : (n i : ℕ) → get_or (replicate n 0) i 0 ≤ 1
zeros-low zero i = omega arith
zeros-low (suc n) zero = omega arith
zeros-low (suc n) (suc i) = zeros-low n i

marks_fine : (ls : List (Option Line)) → marks_fault (board_in ls) ≡ none
marks_fine ls =
    let n = (head ls).states in
    let long : eqb (length (marks n ls)) n ≡ true = eq-eqb (length (marks n ls)) n (marks_length n ls) in
    let low : fails_at Marks (high (marks n ls)) n ≡ none =
    (fails_at-line Marks (high (marks n ls)) ((i : ℕ) → i < n → high (marks n ls) i ≡ false) n (λ a. a, λ a. a)).1
    (λ i h. le-ltb 1 (get_or (marks n ls) i 0) (marked-low (accepts ls) (replicate n 0) (zeros-low n) i)) in
    simp (long, low)

-- ---- the moves

pub moves-three : (ls : List (Option Line)) → length (moves ls) % 3 ≡ 0
moves-three [] = refl
moves-three (Some (line.Automaton n k q) ∷ ls) = moves-three ls
moves-three (Some (line.Mode m) ∷ ls) = moves-three ls
moves-three (Some (line.Accept q) ∷ ls) = moves-three ls
moves-three (Some (line.Move p a q) ∷ ls) = omega (arith, moves-three ls)
moves-three (None ∷ ls) = moves-three ls

bytes_fine : (ls : List (Option Line)) → fails (not (eqb (length (moves ls) % 3) 0)) Bytes ≡ none
bytes_fine ls = simp (moves-three ls)

-- ---- the text

-- two tests that both say no
pub neither : (a b x y : ℕ) → ((ltb a b || ltb x y) ≡ false) ↔ ((b ≤ a) × (y ≤ x))
neither a b x y = (λ e. go (ltb a b) refl e, λ h. simp (le-ltb a b h.0, le-ltb x y h.1))
  where
    go : (t : Bool) → ltb a b ≡ t → (t || ltb x y) ≡ false → (b ≤ a) × (y ≤ x)
    go true d e = absurd (true≢false e)
    go false d e = (ltb-false a b d, ltb-false x y e)

module _ (ls : List (Option Line)) (fine : first_fault (line_faults ls) ≡ none) where
  all : AllNone (line_faults ls)
  all = (all_none (line_faults ls)).0 fine

  pub text_automaton : automaton_fault (board_in ls) (head ls).start ≡ none
  text_automaton =
      let more = all.1.1.1.1.1 in
      (all_none (faults (board_in ls) (head ls).start)).1
      (all.1.0, (all.1.1.0, (marks_fine ls, (more.0, (bytes_fine ls, (more.1.0, (more.1.1.0, tt)))))))

  pub text_mode : mode_fault (mode ls) ≡ none
  text_mode = all.1.1.1.1.1.1.1.1.0

  pub text_formed : Formed (board_in ls) × ((head ls).start < (head ls).states)
  text_formed = (automaton-line (board_in ls) (head ls).start).0 text_automaton

  pub text_small : ((head ls).states ≤ program_states) × ((head ls).letters ≤ program_letters)
  text_small =
      (fails-line _ _ ProgramLimits (neither program_states (head ls).states program_letters (head ls).letters)).0 all.1.1.1.0

  -- each number of a move is a byte
  move_small : (j : ℕ) → j < length (moves ls) → get_or (moves ls) j 0 < 256
  move_small j h = by (j % 3) refl
    where
      i : ℕ
      i = j / 3

      held : (get_or (moves ls) (i * 3) 0 < (head ls).states) × (get_or (moves ls) (i * 3 + 1) 0 < (head ls).letters) × (get_or (moves ls) (i * 3 + 2) 0 < (head ls).states)
      held = text_formed.0.inside i (omega (arith, moves-three ls))

      at : (d : ℕ) → j % 3 ≡ d → j ≡ i * 3 + d
      at d e = omega arith

      by : (d : ℕ) → j % 3 ≡ d → get_or (moves ls) j 0 < 256
      by zero e = let x : j ≡ i * 3 = omega arith in rw x (omega (arith, held.0, text_small.0))
      by (suc zero) e = rw (at 1 e) (omega (arith, held.1, text_small.1))
      by (suc (suc zero)) e = rw (at 2 e) (omega (arith, held.2, text_small.0))
      by (suc (suc (suc d))) e = absurd (omega arith)

  pub moves-bytes : bytes (moves ls) ≡ moves ls
  moves-bytes = ext_get_or 0 (bytes (moves ls)) (moves ls) (length-map (moves ls) (λ x. x % 256)) λ j h.
      get_or-map (λ (x : ℕ). x % 256) (moves ls) j 0 ∙ mod-eq_of_lt (move_small j (omega (arith, length-map (moves ls) (λ x. x % 256))))
