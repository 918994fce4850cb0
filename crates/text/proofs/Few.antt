-- A text that nothing is at fault with has at most 2,048 moves: their numbers ascend, and are below 16 · 8 · 16.
use Rattle.std.proofs.Common.{◌≡◌, refl, ⊎_elim, Bool, true, false, List, ℕ, zero, suc, ◌+◌, ◌*◌, ◌≤◌, ◌<◌, arith, ltb-true, ltb-false, ltb, length, Option}
use Rattle.automaton.specs.Answer.{none, first_fault}
use Rattle.automaton.specs.Board.{from, letter, to, Above}
use Rattle.lines.specs.declared.line.Line.{Line}
use Rattle.text.specs.Text.{moves, line_faults}
use Rattle.text.proofs.Sound.{moves-three, text_formed, text_small}

-- the number of move i among all that the programs' limits allow
abbrev rank : (ms : List ℕ) → ℕ → ℕ
rank ms i = from ms i * 128 + letter ms i * 16 + to ms i

module _ (x y z x' y' z' : ℕ) (b : y < 8) (c : z < 16) where
  rises : Above x y z x' y' z' → x * 128 + y * 16 + z < x' * 128 + y' * 16 + z'
  rises u = ⊎_elim (λ (p : x < x'). below p) (λ p. ⊎_elim (λ (q : y < y'). omega (arith, p.0)) (λ q. omega (arith, p.0, q.0, q.1)) p.1) u
    where
      below : x < x' → x * 128 + y * 16 + z < x' * 128 + y' * 16 + z'
      below p = omega arith

module _ (ls : List (Option Line)) (fine : first_fault (line_faults ls) ≡ none) where
  abbrev ms : List ℕ
  ms = moves ls

  inside : (i : ℕ) → i * 3 + 2 < length ms → (from ms i < 16) × (letter ms i < 8) × (to ms i < 16)
  inside i h =
      let in-range = (text_formed ls fine).0.inside i h in
      let small = text_small ls fine in
      (omega (arith, in-range.0, small.0), omega (arith, in-range.1, small.1), omega (arith, in-range.2, small.0))

  least : (i : ℕ) → i * 3 + 2 < length ms → i ≤ rank ms i
  least zero h = omega arith
  least (suc i) h =
      let here = inside i (omega arith) in
      omega (arith, least i (omega arith), rises (from ms i) (letter ms i) (to ms i) (from ms (suc i)) (letter ms (suc i)) (to ms (suc i)) here.1 here.2 ((text_formed ls fine).0.order i (omega arith)))

  pub moves-few : length (moves ls) ≤ 6144
  moves-few = go (ltb 6144 (length ms)) refl
    where
      go : (t : Bool) → ltb 6144 (length ms) ≡ t → length ms ≤ 6144
      go true e =
          let long : 6144 < length ms = ltb-true 6144 (length ms) e in
          let h : 2048 * 3 + 2 < length ms = omega (arith, moves-three ls) in
          let here = inside 2048 h in
          absurd (omega (arith, least 2048 h, here.0, here.1, here.2))
      go false e = ltb-false 6144 (length ms) e
