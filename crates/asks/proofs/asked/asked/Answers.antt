-- `asks::asked::asked` meets its contract: the parts that the code divides out of v are those of its position, and they are in range.
use Rattle.std.proofs.Common.{◌≡◌, sym, ap, ◌∙◌, ℕ, ◌-◌, ◌%◌, arith}
use Rattle.automaton.specs.Board.{Board}
use Rattle.simulation.specs.Position.{Position, spoiler, duplicator, duplicator_at, position, Fits}
use Rattle.simulation.proofs.Position.{spoilers_turn, duplicators_turn, position_fits}
use Rattle.arena.specs.Game.{board}
use Rattle.asks.specs.Asked.{asked_of}
use Rattle.asks.specs.declared.pair.Pair.{Pair}
use Rattle.asks.proofs.asked.asked.Goals as goal

pub spoiler_asks-requires : goal.spoiler_asks-requires
spoiler_asks-requires c =
    let x = c.args.index.now in
    let R = c.requires.ready in
    let fits = position_fits (board x.game) x.game.arena.mode R.formed c.args.v (omega (arith, R.entries)) in
    let spoilers = spoilers_turn (board x.game) x.game.arena.mode c.args.v (omega (arith, R.paired, c.if-v-pairs.true)) in
    record { ready = R; pair_in_arena = rw c.numbered.ensures (rw spoilers at fits) }

pub returns-then-v-pairs : goal.returns-then-v-pairs
returns-then-v-pairs c =
    let x = c.args.index.now in
    let asks : Position → ℕ = asked_of (board x.game) x.game.arena.mode c.args.table.now in
    let spoilers = spoilers_turn (board x.game) x.game.arena.mode c.args.v (omega (arith, c.requires.ready.paired, c.if-v-pairs.true)) in
    c.spoiler_asks.ensures ∙ ap (λ (p : Pair). asks (spoiler p.bit p.red p.blue)) c.numbered.ensures ∙ sym (ap asks spoilers)

pub duplicator_asks-requires : goal.duplicator_asks-requires
duplicator_asks-requires c =
    let x = c.args.index.now in
    let board : Board = board x.game in
    let here : Position = position board x.game.arena.mode c.args.v in
    let R = c.requires.ready in
    let fits : Fits board x.game.arena.mode here = position_fits board x.game.arena.mode R.formed c.args.v (omega (arith, R.entries)) in
    let duplicators : here ≡ duplicator_at board (c.args.v - x.game.arena.pairs) =
    let e = R.paired in
    rw e (duplicators_turn board x.game.arena.mode c.args.v (omega (arith, e, c.if-v-pairs.false))) in
    let f = rw duplicators at fits in
    record { ready = R; pair_in_arena = rw c.numbered-2.ensures (f.0, f.1, f.2); letter_in_arena = f.3 }

pub returns : goal.returns
returns c =
    let x = c.args.index.now in
    let board : Board = board x.game in
    let asks : Position → ℕ = asked_of board x.game.arena.mode c.args.table.now in
    let duplicators : position board x.game.arena.mode c.args.v ≡ duplicator_at board (c.args.v - x.game.arena.pairs) =
    let e = c.requires.ready.paired in
    rw e (duplicators_turn board x.game.arena.mode c.args.v (omega (arith, e, c.if-v-pairs.false))) in
    c.duplicator_asks.ensures
    ∙ ap (λ (p : Pair). asks (duplicator p.bit p.red p.blue ((c.args.v - x.game.arena.pairs) % x.game.arena.letters))) c.numbered-2.ensures
    ∙ sym (ap asks duplicators)
