-- When P and T are given.
use mathlib.Core.Path.{◌≡◌, refl}
use mathlib.Core.Logic.Iff
use mathlib.Core.Logic.{◌≢◌, ◌↔◌}
use mathlib.Core.List.{[], ◌∷◌}
use Prim.Native.Nat.{ℕ, ◌≤◌, ◌<◌}
use Rattle.automaton.specs.declared.Automaton.{Automaton}
use Rattle.std.proofs.Common.{None}
use Rattle.automaton.specs.Answer.{valued, first_fault}
use Rattle.automaton.specs.Board.{board_of}
use Rattle.automaton.specs.Check.{states_fault, letters_fault, mode_fault}
use Rattle.automaton.specs.Limits.{most_states, most_letters, name_of}
use Rattle.automaton.proofs.Fault.{◌then◌, end, table-line, unless-number}
use Rattle.automaton.proofs.Sound.{states-line, letters-line, mode-line}
use Rattle.simulation.specs.Position.{positions}
use Rattle.arena.specs.Job.{Job, mode_of, game_of}
use Rattle.arena.specs.Refusals.{job_fault, Proper, sizing, topping}
use Rattle.arena.proofs.Open.{job_line}

pub positions-accepted : (a : Automaton) (mode : ℕ)
    → ((sizing a mode).number ≡ 0) ↔ (((0 < a.states) × (a.states ≤ most_states)) × ((0 < a.letters) × (a.letters ≤ most_letters)) × (name_of mode ≢ None))
positions-accepted a mode =
    Iff.trans (unless-number (first_fault (states_fault a.states ∷ letters_fault a.letters ∷ mode_fault mode ∷ [])) (valued (positions (board_of a [] []) (mode_of mode))) refl)
    (Iff.trans (table-line (states-line a.states then letters-line a.letters then mode-line mode then end)) (λ h. (h.0, h.1.0, h.1.1.0), λ h. (h.0, (h.1, (h.2, tt)))))

pub ceiling-accepted : (j : Job) → ((topping j).number ≡ 0) ↔ Proper j
ceiling-accepted j = Iff.trans (unless-number (job_fault j) (valued (game_of j).T) refl) (job_line j)
