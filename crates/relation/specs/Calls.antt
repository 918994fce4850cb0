-- The calls that read a table at rest, for every input: what each answers, and the bytes that `relation` leaves.
use Rattle.std.specs.Prelude.{◌≡◌, not, List, [], ◌∷◌, ℕ, ◌*◌, ◌≤◌, ◌<◌, eqb, length}
use Rattle.games.specs.Game.{Game, at}
use Rattle.games.specs.Lift.{AtRest}
use Rattle.automaton.specs.declared.Refusal.TheVariants.{NotAtRest, OutputLength}
use Rattle.automaton.specs.Answer.{Answer, valued, Fault, fails, fails_at, first_fault, unless}
use Rattle.automaton.specs.Board.{Board}
use Rattle.automaton.specs.Effect.{Effect, does}
use Rattle.simulation.specs.Answers.{relation, related, reply_at}
use Rattle.arena.specs.Job.{Job, mode_of, game_of}
use Rattle.simulation.specs.Position.{pairs}
use Rattle.arena.specs.Refusals.{open_fault, Proper, opening}
use Rattle.entries.specs.Found.{restless}
use Rattle.table.specs.Calls.{entry_fault, position_fault}

-- ---- the refusals 12 and 16

-- 12: "not at rest" at "lowest position"
abbrev pub rest_fault : Game → (table : List ℕ) → Fault
rest_fault g t = fails_at NotAtRest (restless g t) g.P

-- 16: "an output length is wrong"
abbrev pub output_fault : Board → (bytes : ℕ) → Fault
output_fault B bytes = fails (not (eqb bytes (B.n * B.n))) OutputLength

-- ---- the two calls

-- "Relation: from a table at rest, n² bytes, 1 where the pair's beginning is below T; value is the count of ones."
unfoldable pub relating : Job → (table bytes : List ℕ) → Effect (List ℕ)
relating j t out =
    let m = mode_of j.mode in
    opening j (length t) out
    (does (first_fault (entry_fault (game_of j) t ∷ rest_fault (game_of j) t ∷ output_fault j.board (length out) ∷ [])) out
    (record { answer = valued (related j.board m t); left = relation j.board m t }))

-- "Reply: value is the state for Blue."
unfoldable pub replying : Job → (table : List ℕ) → (v : ℕ) → Answer
replying j t v =
    unless (open_fault j (length t))
    (unless (first_fault (entry_fault (game_of j) t ∷ position_fault (game_of j) v ∷ rest_fault (game_of j) t ∷ [])) (reply_at j.board (mode_of j.mode) t v))

-- ---- what a call must be given for no refusal to apply

-- "n² bytes"
abbrev pub Sized : Board → (bytes : List ℕ) → Type 0
Sized B out = length out ≡ B.n * B.n

-- a well-formed automaton and a mode, and "On a table at rest, the reply at a Duplicator position that is not lost"
abbrev pub Answerable : Job → (table : List ℕ) → (v : ℕ) → Type 0
Answerable j t v = Proper j × (AtRest (game_of j) t × ((v < (game_of j).P) × ((pairs j.board (mode_of j.mode) ≤ v) × (at t v < (game_of j).T))))
