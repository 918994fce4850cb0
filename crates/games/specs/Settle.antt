-- "Settle: clear, then sweep positions in ascending order until a whole sweep raises nothing; value is the number of raises."
use Rattle.std.specs.Prelude.{List, [], ◌∷◌, ℕ, zero, suc, ◌+◌}
use Rattle.games.specs.Game.{Game}
use Rattle.games.specs.Lift.{cleared, lifts, raises, bound}

-- the c numbers from v on, ascending
abbrev pub ascending : (v c : ℕ) → List ℕ
ascending v zero = []
ascending v (suc c) = v ∷ ascending (suc v) c

-- the positions, as one sweep lifts them
abbrev pub sweep : Game → List ℕ
sweep g = ascending 0 g.P

-- a table, and how many lifts raised an entry on the way to it
pub record Outcome : Type 0 where
  pub table : List ℕ
  pub raised : ℕ

-- after a sweep of t with s raises: the end if there were none, else what follows. What follows is computed only where it is wanted.
abbrev pub after : (s : ℕ) → (table : List ℕ) → (Unit {0} → Outcome) → Outcome
after zero t rest = record { table = t; raised = 0 }
after (suc s) t rest = let r = rest tt in record { table = r.table; raised = suc s + r.raised }

-- sweeps of t until one raises nothing, c of them at most
abbrev pub sweeps : Game → (c : ℕ) → (table : List ℕ) → Outcome
sweeps g zero t = record { table = t; raised = 0 }
sweeps g (suc c) t = after (raises g t (sweep g)) t (λ _. sweeps g c (lifts g t (sweep g)))

-- No more than P times T sweeps can raise something.
abbrev pub enough : Game → ℕ
enough g = bound g

abbrev pub settle : Game → Outcome
settle g = sweeps g (enough g) (cleared g)
