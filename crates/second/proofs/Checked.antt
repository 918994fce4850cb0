-- An automaton that `check` accepts is well formed.
use Rattle.std.proofs.Common.{◌≡◌, refl, ℕ, Ok}
use Rattle.automaton.specs.Answer.{accepted}
use Rattle.automaton.specs.Board.{Board, Formed}
use Rattle.automaton.specs.Check.{checked}
use Rattle.automaton.proofs.One.{checked-none}
use Rattle.automaton.proofs.Sound.{automaton-line}

pub formed : (B : Board) (start : ℕ) → accepted ≡ checked B start → Formed B
unfolding checked
formed B start told = ((automaton-line B start).0 (checked-none _ (Ok tt) refl told)).0
