-- What the programs print has room in 4,096 bytes.
use Rattle.std.proofs.Common.{None, ◌≡◌, refl, ◌≢◌, Bool, true, false, cond, List, [], ◌∷◌, ◌++◌, ℕ, zero, suc, ◌+◌, ◌*◌, ◌/◌, ◌%◌, ◌≤◌, ◌<◌, mul-le-mul, arith, length, length-append}
use Rattle.fields.specs.Numbers.{shown}
use Rattle.fields.proofs.Width.{shown-most}
use Rattle.automaton.specs.declared.Mode.{Mode}
use Rattle.automaton.specs.declared.Refusal.{Refusal}
use Rattle.automaton.specs.Answer.{number_of, place_of}
use Rattle.automaton.specs.Board.{Board}
use Rattle.automaton.specs.Limits.{name_of}
use Rattle.automaton.proofs.Fault.{refusal_numbered}
use Rattle.simulation.specs.Answers.{settled, below}
use Rattle.simulation.specs.Position.{number}
use Rattle.simulation.specs.Rules.{beginning}
use Rattle.simulation.proofs.Limits.{ceiling-within}
use Rattle.simulation.proofs.Relation.{settled-rest, settled-raises}
use Rattle.arena.specs.Job.{Job, mode_of, game_of}
use Rattle.arena.proofs.Begun.{red_lt, blue_lt}
use Rattle.printer.specs.Small.{Small}
use Rattle.fields.specs.Bytes.{bytes_of}
use Rattle.printer.specs.Printed.{line, tabbed, refusal_text, entry_at, pair_line, pair_lines_from, pair_lines, relation_text}
use Rattle.printer.proofs.Within.{few-pairs, few-positions}

-- ---- lines

-- the bytes of fields, each with its tab
abbrev width : (values : List ℕ) → ℕ
width [] = 0
width (v ∷ vs) = 1 + length (shown v) + width vs

tabbed_length : (values : List ℕ) → length (tabbed values) ≡ width values
unfolding tabbed
tabbed_length [] = refl
tabbed_length (v ∷ vs) = omega (arith, length-append (shown v) (tabbed vs), tabbed_length vs)

line_length : (word values : List ℕ) → length (line word values) ≡ length word + width values + 1
line_length word values = simp length-append (omega (arith, tabbed_length values))

-- ---- a refusal

pub refusal_fits : (r : Refusal) → place_of r ≤ 65535 → length (refusal_text r) ≤ 4096
refusal_fits r h =
    let n : length (shown (number_of r)) ≤ 2 = shown-most 1 (number_of r) (omega (arith, (refusal_numbered r).1)) in
    let p : length (shown (place_of r)) ≤ 5 = shown-most 4 (place_of r) (omega arith) in
    omega (arith, line_length (bytes_of "refused") (number_of r ∷ place_of r ∷ []))

-- ---- a relation

mode-most : (mode : ℕ) → name_of mode ≢ None → mode < 4
mode-most zero n = omega arith
mode-most (suc zero) n = omega arith
mode-most (suc (suc zero)) n = omega arith
mode-most (suc (suc (suc zero))) n = omega arith
mode-most (suc (suc (suc (suc m)))) n = absurd (n refl)

-- the line of a pair, or nothing
chosen-most : (s : Bool) (l : List ℕ) (w : ℕ) → length l ≤ w → length (cond s l []) ≤ w
chosen-most true l w h = h
chosen-most false l w h = omega arith

module _ (j : Job) (s : Small j) where
  abbrev B : Board
  B = j.board

  abbrev m : Mode
  m = mode_of j.mode

  abbrev t : List ℕ
  t = (settled j.board (mode_of j.mode)).table

  T-most : (game_of j).T ≤ 257
  T-most = ceiling-within B m 16 s.1.0

  -- two states of at most two digits, and an entry of at most three
  pair-most : (i : ℕ) → i < B.n * B.n → length (pair_line B m t i) ≤ 15
  pair-most i h =
      let q = i / B.n in
      let r = i % B.n in
      let e = entry_at B m t q r in
      let few = s.1.0 in
      let red : length (shown q) ≤ 2 = shown-most 1 q (omega (arith, red_lt B.n i h)) in
      let blue : length (shown r) ≤ 2 = shown-most 1 r (omega (arith, blue_lt B.n i h)) in
      let entry : length (shown e) ≤ 3 = shown-most 2 e (omega (arith, T-most, (settled-rest B m).capped (number B m (beginning B m q r)))) in
      omega (arith, line_length (bytes_of "pair") (q ∷ r ∷ e ∷ []))

  pairs-most : (i c : ℕ) → i + c ≤ B.n * B.n → length (pair_lines_from B m t i c) ≤ c * 15
  unfolding pair_lines_from
  pairs-most i zero h = omega arith
  pairs-most i (suc c) h =
      let chosen = below B m t (i / B.n) (i % B.n) in
      omega (
        arith,
        length-append (cond chosen (pair_line B m t i) []) (pair_lines_from B m t (suc i) c),
        chosen-most chosen (pair_line B m t i) 15 (pair-most i (omega arith)),
        pairs-most (suc i) c (omega arith),
      )

  pub relation_fits : length (relation_text j) ≤ 4096
  relation_fits =
      let raised = (settled B m).raised in
      let few = s.1.0 in
      let first = line (bytes_of "relation") (j.mode ∷ B.n ∷ []) in
      let last = line (bytes_of "raised") (raised ∷ []) in
      let mode : length (shown j.mode) ≤ 1 = shown-most 0 j.mode (omega (arith, mode-most j.mode s.0.2)) in
      let states : length (shown B.n) ≤ 2 = shown-most 1 B.n (omega arith) in
      let bounded : (game_of j).P * (game_of j).T ≤ 4608 * 257 = mul-le-mul {n₂ = 4608} {m₂ = 257} (few-positions j s) T-most in
      let raises : length (shown raised) ≤ 7 = shown-most 6 raised (omega (arith, settled-raises B m, bounded)) in
      omega (
        arith,
        length-append first (pair_lines j ++ last),
        length-append (pair_lines j) last,
        line_length (bytes_of "relation") (j.mode ∷ B.n ∷ []),
        line_length (bytes_of "raised") (raised ∷ []),
        pairs-most 0 (B.n * B.n) (omega arith),
        few-pairs j s,
      )
