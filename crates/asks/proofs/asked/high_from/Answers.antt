-- `asks::asked::high_from` meets its contract: the stretch that is scanned leads to the positions one step on.
use Rattle.std.proofs.Common.{sym, ap, ◌∙◌, subst, length, arith}
use Rattle.games.specs.Game.{at, highest}
use Rattle.simulation.proofs.Limits.{positions-most}
use Rattle.asks.specs.declared.steps.Steps.{Steps}
use Rattle.asks.specs.Steps.{ahead, Leading}
use Rattle.asks.proofs.Ahead.{spoiler-ahead, spoiler_leading}
use Rattle.asks.proofs.asked.high_from.Goals as goal

pub high-requires : goal.high-requires
high-requires c =
    let a = c.args in
    let x = a.index.now in
    let R = c.requires.ready in
    record {
      table_len_bound = omega (arith, R.entries, positions-most _ R.formed x.game.arena.mode);
      leading =
          subst (λ (s : Steps). Leading s x.game.marks.now x.game.moves.now (length a.table.now)) (sym c.spoiler_steps.ensures)
          (spoiler_leading x a.table.now R a.pair c.requires.pair_in_arena);
    }

pub returns : goal.returns
returns c =
    let a = c.args in
    let x = a.index.now in
    c.high.ensures
    ∙ ap (λ (s : Steps). highest (at a.table.now) (ahead s x.game.marks.now x.game.moves.now)) c.spoiler_steps.ensures
    ∙ ap (highest (at a.table.now)) (spoiler-ahead x a.table.now c.requires.ready a.pair c.requires.pair_in_arena)
