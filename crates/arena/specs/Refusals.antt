-- The refusals 1 to 9 that the calls on a table share, and the two numbers of a table: P and T.
use Rattle.std.specs.Prelude.{◌≡◌, ◌≢◌, not, List, [], ◌∷◌, ℕ, ◌<◌, eqb, length, None}
use Rattle.automaton.specs.declared.Automaton.{Automaton}
use Rattle.automaton.specs.declared.Refusal.TheVariants.{TableLength}
use Rattle.automaton.specs.Answer.{Answer, valued, Fault, fails, first_fault, unless}
use Rattle.automaton.specs.Effect.{Effect, does}
use Rattle.automaton.specs.Board.{board_of, Formed}
use Rattle.automaton.specs.Check.{states_fault, letters_fault, automaton_fault, mode_fault}
use Rattle.automaton.specs.Limits.{name_of}
use Rattle.simulation.specs.Position.{positions}
use Rattle.arena.specs.Job.{Job, mode_of, game_of}

-- 1 to 8
abbrev pub job_fault : Job → Fault
job_fault j = first_fault (automaton_fault j.board j.start ∷ mode_fault j.mode ∷ [])

-- 9: "table length not P"
abbrev pub length_fault : (P entries : ℕ) → Fault
length_fault P entries = fails (not (eqb entries P)) TableLength

-- 1 to 9
abbrev pub open_fault : Job → (entries : ℕ) → Fault
open_fault j entries = first_fault (job_fault j ∷ length_fault (game_of j).P entries ∷ [])

-- a call on a table of so many entries: first the refusals 1 to 9, then what it does in the game
abbrev pub opening : {X : Type 0} → Job → (entries : ℕ) → (lent : X) → Effect X → Effect X
opening j entries x e = does (open_fault j entries) x e

-- ---- what a call must be given, for none of them to apply

-- 1 to 8: a well-formed automaton whose start is one of its states, and the number of a mode
abbrev pub Proper : Job → Type 0
Proper j = Formed j.board × (j.start < j.board.n) × (name_of j.mode ≢ None)

-- 1 to 9: and a table of P entries
abbrev pub Fitting : Job → (table : List ℕ) → Type 0
Fitting j t = Proper j × (length t ≡ (game_of j).P)

-- ---- the two numbers of a table

-- P, after refusals 1, 2 and 8
abbrev pub sizing : Automaton → (mode : ℕ) → Answer
sizing a mode =
    unless (first_fault (states_fault a.states ∷ letters_fault a.letters ∷ mode_fault mode ∷ [])) (valued (positions (board_of a [] []) (mode_of mode)))

-- T, after refusals 1 to 8
abbrev pub topping : Job → Answer
topping j = unless (job_fault j) (valued (game_of j).T)
