-- `automaton::limits` meets its contract: each `or` of two comparisons is that of their tests.
use Rattle.std.proofs.Common.{inl, inr, lt-ltb, le-ltb}
use Rattle.automaton.specs.Check.{limited}
use Rattle.automaton.proofs.limits.Goals as goal

pub returns-then-states-lt1 : goal.returns-then-states-lt1
unfolding limited
returns-then-states-lt1 c =
    elim c.then-states-lt1.either [
      | inl w ↦ simp (lt-ltb _ _ w)
      | inr w ↦ simp (le-ltb _ _ w.0, lt-ltb _ _ w.1)
    ]

pub returns-then-letters-lt1 : goal.returns-then-letters-lt1
unfolding limited
returns-then-letters-lt1 c =
    elim c.then-letters-lt1.either [
      | inl w ↦ simp (le-ltb _ _ c.if-states-lt1.false, le-ltb _ _ c.if-states-gt-STATES.false, lt-ltb _ _ w)
      | inr w ↦
          simp (le-ltb _ _ c.if-states-lt1.false, le-ltb _ _ c.if-states-gt-STATES.false, le-ltb _ _ w.0, lt-ltb _ _ w.1)
    ]

pub returns : goal.returns
unfolding limited
returns c =
    simp (le-ltb _ _ c.if-states-lt1.false, le-ltb _ _ c.if-states-gt-STATES.false, le-ltb _ _ c.if-letters-lt1.false, le-ltb _ _ c.if-letters-gt-LETTERS.false)
