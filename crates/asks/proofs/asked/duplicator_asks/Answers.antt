-- `asks::asked::duplicator_asks` meets its contract: the stretch that is scanned leads to the positions one step on.
use Rattle.std.proofs.Common.{sym, ap, ◌∙◌, subst, ℕ, length, arith}
use Rattle.games.specs.Game.{at, ask, lowest}
use Rattle.simulation.specs.Position.{duplicator}
use Rattle.simulation.proofs.Limits.{positions-most}
use Rattle.asks.specs.declared.steps.Steps.{Steps}
use Rattle.arena.specs.Game.{board}
use Rattle.asks.specs.Asked.{onward}
use Rattle.asks.specs.Steps.{ahead, Leading}
use Rattle.asks.proofs.Ahead.{duplicator-ahead, duplicator_leading}
use Rattle.asks.proofs.asked.duplicator_asks.Goals as goal

pub low-requires : goal.low-requires
low-requires c =
    let a = c.args in
    let x = a.index.now in
    let R = c.requires.ready in
    record {
      table_len_bound = omega (arith, R.entries, positions-most _ R.formed x.game.arena.mode);
      leading =
          subst (λ (s : Steps). Leading s x.game.marks.now x.game.moves.now (length a.table.now)) (sym c.duplicator_steps.ensures)
          (duplicator_leading x a.table.now R a.pair c.requires.pair_in_arena a.a c.requires.letter_in_arena);
    }

pub returns : goal.returns
unfolding ask
returns c =
    let a = c.args in
    let x = a.index.now in
    let g = x.game.arena in
    let R = c.requires.ready in
    c.low.ensures
    ∙ ap (λ (s : Steps). lowest g.top (at a.table.now) (ahead s x.game.marks.now x.game.moves.now)) c.duplicator_steps.ensures
    ∙ ap (lowest g.top (at a.table.now)) (duplicator-ahead x a.table.now R a.pair c.requires.pair_in_arena a.a c.requires.letter_in_arena)
    ∙ ap (λ (T : ℕ). lowest T (at a.table.now) (onward (board x.game) g.mode (duplicator a.pair.bit a.pair.red a.pair.blue a.a))) R.topped
