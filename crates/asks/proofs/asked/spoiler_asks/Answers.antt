-- `asks::asked::spoiler_asks` meets its contract: the turn that the code went by is the position's kind, and each case is what that kind asks for.
use Rattle.std.proofs.Common.{◌≡◌, sym, ap, ◌∙◌, inl, inr, List, ℕ, arith}
use Rattle.games.specs.Game.{at, ask, highest}
use Rattle.games.proofs.Asked.{Full, full-cases}
use Rattle.simulation.specs.Position.{spoiler}
use Rattle.simulation.specs.Rules.{kind_of}
use Rattle.arena.specs.Game.{board, Playable}
use Rattle.asks.specs.declared.asked.Turn.{Turn}
use Rattle.asks.specs.declared.asked.Turn.TheVariants.{Resetting}
use Rattle.asks.specs.declared.index.Index.{Index}
use Rattle.asks.specs.declared.pair.Pair.{Pair}
use Rattle.asks.specs.Asked.{onward, asked_of, kind_in}
use Rattle.asks.proofs.asked.spoiler_asks.Goals as goal

-- a turn that stands for the kind of Spoiler's pair
abbrev IsKind : Index → Pair → Turn → Type 0
IsKind x p u = kind_in u ≡ kind_of (board x.game) x.game.arena.mode (spoiler p.bit p.red p.blue)

-- what Spoiler's pair asks for, by a turn that stands for its kind
module _ (x : Index) (t : List ℕ) (R : Playable x.game t) (p : Pair) where
  abbrev ahead : List ℕ
  ahead = onward (board x.game) x.game.arena.mode (spoiler p.bit p.red p.blue)

  abbrev asked : ℕ
  asked = asked_of (board x.game) x.game.arena.mode t (spoiler p.bit p.red p.blue)

  asked-by : (went turn : Turn) → went ≡ turn → IsKind x p went
      → asked ≡ ask (kind_in turn) x.game.arena.top (at t) ahead
  asked-by went turn e k = let kind = sym k ∙ ap kind_in e in simp (kind, R.topped)

  resetting-asks : (went : Turn) → went ≡ Resetting → IsKind x p went
      → Full x.game.arena.top (highest (at t) ahead) asked
  unfolding ask
  resetting-asks went e k = rw (asked-by went Resetting e k) (full-cases x.game.arena.top (highest (at t) ahead))

pub returns-in-Idle : goal.returns-in-Idle
unfolding ask
returns-in-Idle c =
    let a = c.args in
    let kind : IsKind a.index.now a.pair c.turn_at-turn.result = c.turn_at-turn.ensures ∙ simp (c.accepts.ensures, c.accepts-2.ensures) in
    sym (asked-by a.index.now a.table.now c.requires.ready a.pair c.turn_at-turn.result _ c.in-Idle.is kind)

pub returns-in-Lost : goal.returns-in-Lost
unfolding ask
returns-in-Lost c =
    let a = c.args in
    let kind : IsKind a.index.now a.pair c.turn_at-turn.result = c.turn_at-turn.ensures ∙ simp (c.accepts.ensures, c.accepts-2.ensures) in
    sym (asked-by a.index.now a.table.now c.requires.ready a.pair c.turn_at-turn.result _ c.in-Lost.is kind)

pub returns-in-High : goal.returns-in-High
unfolding ask
returns-in-High c =
    let a = c.args in
    let kind : IsKind a.index.now a.pair c.turn_at-turn.result = c.turn_at-turn.ensures ∙ simp (c.accepts.ensures, c.accepts-2.ensures) in
    c.high_from.ensures ∙ sym (asked-by a.index.now a.table.now c.requires.ready a.pair c.turn_at-turn.result _ c.in-High.is kind)

pub returns-then-h-top : goal.returns-then-h-top
unfolding ask
returns-then-h-top c =
    let a = c.args in
    let kind : IsKind a.index.now a.pair c.turn_at-turn.result = c.turn_at-turn.ensures ∙ simp (c.accepts.ensures, c.accepts-2.ensures) in
    omega (arith, asked-by a.index.now a.table.now c.requires.ready a.pair c.turn_at-turn.result _ c.in-Counting.is kind, c.high_from-h.ensures)

pub returns-else-h-top : goal.returns-else-h-top
unfolding ask
returns-else-h-top c =
    let a = c.args in
    let kind : IsKind a.index.now a.pair c.turn_at-turn.result = c.turn_at-turn.ensures ∙ simp (c.accepts.ensures, c.accepts-2.ensures) in
    omega (arith, asked-by a.index.now a.table.now c.requires.ready a.pair c.turn_at-turn.result _ c.in-Counting.is kind, c.high_from-h.ensures)

pub returns-then-h-top-2 : goal.returns-then-h-top-2
unfolding ask
returns-then-h-top-2 c =
    let a = c.args in
    let kind : IsKind a.index.now a.pair c.turn_at-turn.result = c.turn_at-turn.ensures ∙ simp (c.accepts.ensures, c.accepts-2.ensures) in
    elim (resetting-asks a.index.now a.table.now c.requires.ready a.pair c.turn_at-turn.result c.in-Resetting.is kind) [
      | inl w ↦ omega (arith, c.high_from-h-in-Resetting.ensures)
      | inr w ↦ omega (arith, c.high_from-h-in-Resetting.ensures)
    ]

pub returns-else-h-top-2 : goal.returns-else-h-top-2
unfolding ask
returns-else-h-top-2 c =
    let a = c.args in
    let kind : IsKind a.index.now a.pair c.turn_at-turn.result = c.turn_at-turn.ensures ∙ simp (c.accepts.ensures, c.accepts-2.ensures) in
    elim (resetting-asks a.index.now a.table.now c.requires.ready a.pair c.turn_at-turn.result c.in-Resetting.is kind) [
      | inl w ↦ omega (arith, c.high_from-h-in-Resetting.ensures)
      | inr w ↦ omega (arith, c.high_from-h-in-Resetting.ensures)
    ]
