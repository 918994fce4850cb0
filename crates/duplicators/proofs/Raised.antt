-- What raising one of Duplicator's entries makes of the table, or leaving it.
use Rattle.std.proofs.Common.{◌≡◌, List, ℕ, ◌≤◌, ◌<◌, max, arith, length, set, get_or-set_same}
use Rattle.games.specs.Game.{at}
use Rattle.automaton.specs.declared.Mode.{Mode}
use Rattle.automaton.specs.Board.{Board, Formed}
use Rattle.simulation.specs.Position.{duplicator, layers, positions, number}
use Rattle.halves.specs.Half.{low_at}
use Rattle.halves.proofs.Places.{duplicator-within}
use Rattle.duplicators.specs.Growing.{Growing, Answered, MarkedToo}
use Rattle.duplicators.specs.Rows.{Still}
use Rattle.duplicators.proofs.Part.{low_same, part_none, part-put}

module _ (B : Board) (m : Mode) (F : Formed B) (s : Growing) (b q r a e i : ℕ) (hb : b < layers m) (hq : q < B.n) (hr : r < B.n) (ha : a < B.k)
    (n : length s.table ≡ positions B m) (place : i ≡ number B m (duplicator b q r a))
    (asks : max (at s.table (number B m (duplicator b q r a))) e ≡ max (at s.table (number B m (duplicator b q r a))) (low_at B m s.table b q r a)) where
  pub raised : at s.table i < e → {grown columns : List ℕ} → MarkedToo B s.grown s.columns grown columns b q r a
      → Answered B m s (record { table = set s.table i e; grown = grown; columns = columns }) 1 × Still B m (set s.table i e) b q r a
  raised up {grown} {columns} also =
      let v = number B m (duplicator b q r a) in
      let up' : at s.table v < e = rw place at up in
      let low : e ≡ low_at B m s.table b q r a = omega arith in
      let p = part-put B m F s b q r a e hb hq hr ha grown columns n up' low also in
      let room : v < length s.table = omega (arith, (duplicator-within B m F b q r a hb hq hr ha).1) in
      let same = low_same B m F s.table (set s.table v e) p.others b q r a hb hq hr ha in
      let here = get_or-set_same s.table v e 0 room in
      rw place (p, omega arith)

  pub unraised : e ≤ at s.table i → Answered B m s s 0 × Still B m s.table b q r a
  unraised down = let down' : e ≤ at s.table (number B m (duplicator b q r a)) = rw place at down in (part_none B m s, omega arith)
