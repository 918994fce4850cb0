-- `spoilers::column::rule_of` meets its contract: in each mode the tests tell the kinds of the column's positions.
use Rattle.std.proofs.Common.{◌≡◌, ap, inl, inr, true, false, ℕ, ◌+◌, arith}
use Rattle.words.proofs.Sets.{in_or-out}
use Rattle.automaton.specs.Board.{accepts}
use Rattle.simulation.proofs.Limits.{layers-most}
use Rattle.arena.specs.Game.{board}
use Rattle.spoilers.proofs.Members.{has_in, has-not}
use Rattle.spoilers.proofs.Asks.{accepting_in, accepting-out, asking-plain, asking_reset, asking-idle, asking-count, plain_kinds}
use Rattle.spoilers.proofs.column.rule_of.Goals.{After-has-accepts}
use Rattle.spoilers.proofs.column.rule_of.Goals as goal

-- what the test tells of Blue's state
blue : (c : After-has-accepts) → c.has-accepts.result ≡ true → accepts (board c.args.game.now) c.args.r ≡ true
blue c h = accepting_in (board c.args.game.now) _ c.requires.known.accepting _ c.requires.column_in_game.1 (has_in _ _ c.has-accepts.ensures h)

not_blue : (c : After-has-accepts) → c.has-accepts.result ≡ false → accepts (board c.args.game.now) c.args.r ≡ false
not_blue c h = accepting-out (board c.args.game.now) _ c.requires.known.accepting _ c.requires.column_in_game.1 (has-not _ _ c.has-accepts.ensures h)

pub returns-in-Ordinary : goal.returns-in-Ordinary
returns-in-Ordinary c = let a = c.args in asking-plain (board a.game.now) a.game.now.arena.mode a.b a.r (λ q. plain_kinds a.game.now.arena.mode c.in-Ordinary.is a.b _ _)

pub returns-in-Delayed : goal.returns-in-Delayed
returns-in-Delayed c = let a = c.args in asking_reset (board a.game.now) a.game.now.arena.mode a.b a.r a.game.now.arena.top c.requires.known.topped (λ q. simp (c.in-Delayed.is, c.if-b-eq0.true))

pub returns-in-Delayed-2 : goal.returns-in-Delayed-2
returns-in-Delayed-2 c =
    let a = c.args in
    let one : a.b ≡ 1 = omega (arith, layers-most a.game.now.arena.mode, c.requires.column_in_game.0, c.if-b-eq0.false) in
    let accepts-r = blue (goal.at.returns-in-Delayed-2 c).After-has-accepts c.if-accepts.true in
    asking-idle (board a.game.now) a.game.now.arena.mode a.b a.r _ (ap (λ (t : ℕ). t + 1) c.requires.known.topped) (λ q. simp (c.in-Delayed.is, one, accepts-r))

pub returns-in-Delayed-3 : goal.returns-in-Delayed-3
returns-in-Delayed-3 c =
    let a = c.args in
    let one : a.b ≡ 1 = omega (arith, layers-most a.game.now.arena.mode, c.requires.column_in_game.0, c.if-b-eq0.false) in
    let accepts-r = not_blue (goal.at.returns-in-Delayed-3 c).After-has-accepts c.if-accepts.false in
    asking-count (board a.game.now) a.game.now.arena.mode a.b a.r _ (λ q h. inl (simp (c.in-Delayed.is, one, accepts-r), c.below.ensures.each q h))

pub returns-in-Fair : goal.returns-in-Fair
returns-in-Fair c =
    let a = c.args in
    let accepts-r = blue (goal.at.returns-in-Fair c).After-has-accepts c.if-accepts-2.true in
    asking_reset (board a.game.now) a.game.now.arena.mode a.b a.r a.game.now.arena.top c.requires.known.topped (λ q. simp (c.in-Fair.is, accepts-r))

pub returns-in-Fair-2 : goal.returns-in-Fair-2
returns-in-Fair-2 c =
    let a = c.args in
    let B = board a.game.now in
    let sure = c.requires.known.accepting in
    let accepts-r = not_blue (goal.at.returns-in-Fair-2 c).After-has-accepts c.if-accepts-2.false in
    asking-count B a.game.now.arena.mode a.b a.r a.acc (λ q h.
    elim (in_or-out a.acc q) [
      | inl i ↦ inl (simp (c.in-Fair.is, accepts-r, accepting_in B a.acc sure q h i), i)
      | inr o ↦ inr (simp (c.in-Fair.is, accepts-r, accepting-out B a.acc sure q h o), o)
    ])
