-- The calls on a table, for every input: what each answers, and the table after it.
use Rattle.std.specs.Prelude.{cond, List, [], ◌∷◌, ℕ, ltb, leb, length}
use Rattle.games.specs.Game.{Game}
use Rattle.games.specs.Lift.{cleared, lift, rise}
use Rattle.games.specs.Settle.{settle}
use Rattle.automaton.specs.declared.Refusal.TheVariants.{AboveCeiling, PositionNumber}
use Rattle.automaton.specs.Answer.{Answer, accepted, valued, placed, Fault, fails, fails_at, first_fault, unless}
use Rattle.automaton.specs.First.{first}
use Rattle.arena.specs.Job.{Job, game_of}
use Rattle.automaton.specs.Effect.{Effect, does}
use Rattle.arena.specs.Refusals.{open_fault, opening}
use Rattle.entries.specs.Found.{above, restless}

-- ---- the refusals 10 and 11

-- 10: "an entry above T" at "first such entry"
abbrev pub entry_fault : Game → (table : List ℕ) → Fault
entry_fault g t = fails_at AboveCeiling (above g.T t) (length t)

-- 11: "position not below P"
abbrev pub position_fault : Game → ℕ → Fault
position_fault g v = fails (leb g.P v) PositionNumber

-- ---- the four calls

-- "Clear: fill the table with 0."
unfoldable pub clearing : Job → (table : List ℕ) → Effect (List ℕ)
clearing j t = opening j (length t) t (record { answer = accepted; left = cleared (game_of j) })

-- "Lift one position: value 1 if the entry rose, else 0; no other entry changes."
unfoldable pub lifted : Game → (table : List ℕ) → ℕ → Effect (List ℕ)
lifted g t v = does (first_fault (entry_fault g t ∷ position_fault g v ∷ [])) t (record { answer = valued (rise g t v); left = lift g t v })

unfoldable pub lifting : Job → (table : List ℕ) → ℕ → Effect (List ℕ)
lifting j t v = opening j (length t) t (lifted (game_of j) t v)

-- "Rest: value 1 if the table is at rest, else 0 with the lowest position not at rest as place."
abbrev pub rest_at : (P lowest : ℕ) → Answer
rest_at P v = cond (ltb v P) (placed v) (valued 1)

unfoldable pub rested : Game → (table : List ℕ) → Answer
rested g t = unless (entry_fault g t) (rest_at g.P (first (restless g t) 0 g.P))

unfoldable pub resting : Job → (table : List ℕ) → Answer
resting j t = unless (open_fault j (length t)) (rested (game_of j) t)

-- "Settle: clear, then sweep positions in ascending order until a whole sweep raises nothing; value is the number of raises."
unfoldable pub settling : Job → (table : List ℕ) → Effect (List ℕ)
settling j t = let o = settle (game_of j) in opening j (length t) t (record { answer = valued o.raised; left = o.table })
