-- `verdicts::best::scan` meets its contract: the best so far and the moves from i on lead to what all moves lead to.
use Rattle.std.proofs.Common.{◌≡◌, List, ℕ, ◌*◌, drop, None}
use Rattle.simulation.specs.Answers.{entry_after}
use Rattle.arena.specs.declared.game.Game.{Game}
use Rattle.arena.specs.Game.{board}
use Rattle.verdicts.specs.Best.{best_of}
use Rattle.verdicts.proofs.Scanned.{goals}
use Rattle.verdicts.proofs.best.scan.Given as goal

-- the entry where Blue's move to a state leads, Red standing on q
abbrev pub entry : Game → (table : List ℕ) → (b q : ℕ) → ℕ → ℕ
entry g t b q = entry_after (board g) g.arena.mode t b q

abbrev pub invariant-loop-i : goal.invariant-loop-i
invariant-loop-i l =
    let f = entry l.game l.table l.b l.q in
    best_of f l.best (goals l.r l.a (drop (l.i * 3) l.game.moves.now)) ≡ best_of f None (goals l.r l.a l.game.moves.now)
