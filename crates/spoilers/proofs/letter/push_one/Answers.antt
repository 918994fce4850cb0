-- `spoilers::letter::push_one` meets its contract: a small entry is heeded already, and another is put to those before x that have had less.
use Rattle.std.proofs.Common.{ap, ◌<◌, ◌≤◌, ◌+◌, ◌*◌, arith}
use Rattle.games.specs.Game.{at}
use Rattle.arena.specs.Game.{board}
use Rattle.spoilers.proofs.Bounds.{challenged-within, challenged_small, into_small}
use Rattle.spoilers.proofs.Parts.{pushed_none}
use Rattle.spoilers.proofs.Pushes.{small-heard, gift-hits, gift-done}
use Rattle.spoilers.proofs.letter.push_one.Goals.{Start}
use Rattle.spoilers.proofs.letter.push_one.Goals as goal

-- the word of the moves to x by a
word : (c : Start) → let n = c.args.game.now.arena.states in let k = c.args.game.now.arena.letters in (c.args.x * k + c.args.a < n * k) × (n * k ≤ 1024)
word c = let F = c.requires.shaped.known.formed in into_small _ _ _ _ F.few F.few_letters c.requires.move_in_game.1 c.requires.move_in_game.0

pub offset_bounds-table-source : goal.offset_bounds-table-source
offset_bounds-table-source c =
    omega (arith, c.source.ensures, challenged_small (board c.args.game.now) c.args.game.now.arena.mode c.requires.shaped.known.formed _ _ _ _ c.requires.shaped.bit c.requires.shaped.blue c.requires.move_in_game.1 c.requires.move_in_game.0)

pub bounds-table-source : goal.bounds-table-source
bounds-table-source c =
    omega (arith, c.source.ensures, c.requires.working.raising.ready.entries, challenged-within (board c.args.game.now) c.args.game.now.arena.mode c.requires.shaped.known.formed _ _ _ _ c.requires.shaped.bit c.requires.shaped.blue c.requires.move_in_game.1 c.requires.move_in_game.0)

pub returns-then-v-c : goal.returns-then-v-c
returns-then-v-c c =
    record {
      pushed = pushed_none (board c.args.game.now) c.args.game.now.arena.mode _;
      still_guarded = c.requires.guarded;
      heard = small-heard c.requires.working c.requires.shaped c.args.a c.args.x (omega (arith, c.if-v-c.true, ap (at c.args.table.now) c.source.ensures));
    }

pub bounds-into-x : goal.bounds-into-x
bounds-into-x c = omega (arith, word (goal.at.bounds-into-x c).Start, c.requires.into.room)

pub put-raised-requires-clause-hits : goal.put-raised-requires-clause-hits
put-raised-requires-clause-hits c =
    let p = c.requires in
    gift-hits p.working p.shaped c.args.a c.args.x c.gift-gift.result (ap (at c.args.table.now) c.source.ensures) c.gift-gift.ensures c.if-v-c.false c.fresh-hit.result
    (λ q i. p.into.move q c.args.a c.args.x p.move_in_game.1 p.move_in_game.0 (c.fresh-hit.ensures.sub q i))

pub returns : goal.returns
returns c =
    let p = c.requires in
    let pushed = c.put-raised.ensures.pushed in
    let (guarded, heard) = gift-done p.working p.shaped c.args.a c.args.x c.gift-gift.result (ap (at c.args.table.now) c.source.ensures) c.gift-gift.ensures c.if-v-c.false
    pushed (λ q move. p.into.held q c.args.a c.args.x move) p.guarded c.fresh-hit.ensures c.put-raised.ensures.holds c.add.ensures.greatest c.add.ensures.had in
    record { pushed = pushed; still_guarded = guarded; heard = heard }
