-- `halves::draw` meets its contract. The invariant: the moves so far are drawn in both lists of words, and nothing else is.
use Rattle.std.proofs.Common.{◌≡◌, ◌∙◌, refl, ◌<◌, ◌+◌, ◌*◌, ◌/◌, length, arith}
use lib.Arith.{digits_lt}
use Rattle.automaton.specs.Board.{from, letter, to}
use Rattle.arena.specs.Game.{board}
use Rattle.halves.proofs.Drawing.{drawn-none, drawn-more, chunk-at, into_drawn, onto-drawn}
use Rattle.halves.proofs.draw.Goals.{After-wide-to}
use Rattle.halves.proofs.draw.Goals as goal

pub loop-step-init : goal.loop-step-init
loop-step-init c =
    let ms = c.args.game.now.moves.now in
    let k = c.args.game.now.arena.letters in (
      refl,
      refl,
      drawn-none (λ j. to ms j * k + letter ms j) (from ms) c.args.into.now c.requires.empty.0,
      drawn-none (λ j. from ms j * k + letter ms j) (to ms) c.args.onto.now c.requires.empty.1,
    )

-- the numbers that are read are those of the next move
step-read : (c : After-wide-to) → let ms = c.args.game.now.moves.now in let i = c.loop-step.step-index in
    (c.wide-from.result ≡ from ms i) × (c.wide-letter.result ≡ letter ms i) × (c.wide-to.result ≡ to ms i)
step-read c =
    let ms = c.args.game.now.moves.now in
    let i = c.loop-step.step-index in
    let count = length ms / 3 in
    let below : i < count = omega (arith, c.loop-step-test.true, c.as_chunks.ensures.front_len) in (
      c.wide-from.ensures ∙ rw c.as_chunks.ensures.front (chunk-at count i 0 (i * 3) ms below (omega arith) (omega arith)),
      c.wide-letter.ensures ∙ rw c.as_chunks.ensures.front (chunk-at count i 1 (i * 3 + 1) ms below (omega arith) refl),
      c.wide-to.ensures ∙ rw c.as_chunks.ensures.front (chunk-at count i 2 (i * 3 + 2) ms below (omega arith) refl),
    )

-- and so they are within the limits
step-within : (c : After-wide-to) → (c.wide-from.result < c.args.game.now.arena.states) × (c.wide-letter.result < c.args.game.now.arena.letters) × (c.wide-to.result < c.args.game.now.arena.states)
step-within c = let (x, y, z) = step-read c in rw (x, y, z) (c.requires.formed.inside c.loop-step.step-index (omega (arith, c.loop-step-test.true, c.as_chunks.ensures.front_len)))

pub insert-requires : goal.insert-requires
insert-requires c =
    let (x, y, z) = step-within (goal.at.insert-requires c).After-wide-to in
    record { word_in_bounds = omega (arith, c.loop-step.invariant.0, digits_lt z y, c.requires.letters_in_bounds.0); member_fits = omega (arith, c.requires.formed.few) }

pub insert-requires-in-loop-step : goal.insert-requires-in-loop-step
insert-requires-in-loop-step c =
    let (x, y, z) = step-within (goal.at.insert-requires-in-loop-step c).After-wide-to in
    record { word_in_bounds = omega (arith, c.loop-step.invariant.1, digits_lt x y, c.requires.letters_in_bounds.1); member_fits = omega (arith, c.requires.formed.few) }

pub loop-step-preserved : goal.loop-step-preserved
loop-step-preserved c =
    let ms = c.args.game.now.moves.now in
    let k = c.args.game.now.arena.letters in
    let (x, y, z) = step-read (goal.at.loop-step-preserved c).After-wide-to in
    let (u, v, p, q) = c.loop-step.invariant in (
      c.insert.ensures.words ∙ u,
      c.insert-in-loop-step.ensures.words ∙ v,
      drawn-more (λ j. to ms j * k + letter ms j) (from ms) c.loop-step.step-index (c.wide-to.result * k + c.wide-letter.result) c.wide-from.result c.loop-step.into c.insert.new.sets (λ t. z t * k + y t) x p c.insert.ensures,
      drawn-more (λ j. from ms j * k + letter ms j) (to ms) c.loop-step.step-index (c.wide-from.result * k + c.wide-letter.result) c.wide-to.result c.loop-step.onto c.insert-in-loop-step.new.sets (λ t. x t * k + y t) z q c.insert-in-loop-step.ensures,
    )

pub returns : goal.returns
returns c =
    let B = board c.args.game.now in
    let (u, v, p, q) = c.loop-step.invariant in
    let all : c.loop-step.step-index ≡ length c.args.game.now.moves.now / 3 = omega (arith, c.loop-step-test.false, c.as_chunks.ensures.front_len) in
    record {
      into = into_drawn B c.requires.formed c.loop-step.into (omega (arith, u, c.requires.letters_in_bounds.0)) (rw all at p);
      onto = onto-drawn B c.requires.formed c.loop-step.onto (omega (arith, v, c.requires.letters_in_bounds.1)) (rw all at q);
    }
