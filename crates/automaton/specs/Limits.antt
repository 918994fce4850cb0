-- The limits of an automaton and the numbers of the modes. The code has them as constants of `Automaton` and `Mode`;
-- the promises of `check` and of the conversion of a number to a `Mode` hold the two together.
use Rattle.std.specs.Prelude.{Bool, true, false, ℕ, zero, suc, Option, Some, None}
use Rattle.automaton.specs.declared.Mode.{Mode}
use Rattle.automaton.specs.declared.Mode.TheVariants.{Ordinary, Direct, Delayed, Fair}

-- "States 0 to n-1, n from 1 to 64."
abbrev pub most_states : ℕ
most_states = 64

-- "Letters 0 to k-1, k from 1 to 16."
abbrev pub most_letters : ℕ
most_letters = 16

-- "Modes: 0 ordinary, 1 direct, 2 delayed, 3 fair."
abbrev pub name_of : ℕ → Option Mode
name_of zero = Some Ordinary
name_of (suc zero) = Some Direct
name_of (suc (suc zero)) = Some Delayed
name_of (suc (suc (suc zero))) = Some Fair
name_of (suc (suc (suc (suc m)))) = None

-- has no mode this name?
abbrev pub is_unknown : Option Mode → Bool
is_unknown (Some m) = false
is_unknown None = true
