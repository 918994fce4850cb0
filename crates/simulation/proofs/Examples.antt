-- The definitions are neither empty nor full: automata of document 01 are well formed, and pairs of theirs are won and lost by its words.
use mathlib.Core.Path.{refl}
use native.Mathlib.Nat.{lt_irrefl}
use lib.Dec.{lit<}
use Rattle.games.specs.Game.{ask, lowest, highest, full}
use Rattle.games.specs.Lift.{lift}
use Rattle.automaton.specs.declared.Mode.TheVariants.{Direct, Delayed, Fair}
use Rattle.automaton.specs.Board.{Formed}
use Rattle.automaton.specs.Check.{checked}
use Rattle.automaton.specs.First.{first}
use Rattle.automaton.proofs.Sound.{sound}
use Rattle.simulation.specs.Won.{WonPair}
use Rattle.simulation.specs.Answers.{settled}
use Rattle.simulation.specs.Cases.{board_a, board_c}
use Rattle.simulation.proofs.Relation.{settled-least, least_won}

-- `check` accepts A and C, so they are well formed
pub formed_A : Formed board_a
unfolding checked first
formed_A = ((sound board_a 0).0 refl).0

pub formed_C : Formed board_c
unfolding checked first
formed_C = ((sound board_c 0).0 refl).0

-- A: 0 simulates 1 with delay, and not directly
pub A_delayed : WonPair board_a Delayed 1 0
unfolding lift ask lowest highest full
A_delayed = (least_won board_a formed_A Delayed (settled board_a Delayed).table 1 0 (lit< tt) (lit< tt) (settled-least board_a Delayed)).0 (lit< tt)

pub A_direct : WonPair board_a Direct 1 0 → ⊥
unfolding lift ask lowest highest full
A_direct w = lt_irrefl 1 ((least_won board_a formed_A Direct (settled board_a Direct).table 1 0 (lit< tt) (lit< tt) (settled-least board_a Direct)).1 w)

-- C: 1 simulates 0 fairly, and not with delay
pub C_fair : WonPair board_c Fair 0 1
unfolding lift ask lowest highest full
C_fair = (least_won board_c formed_C Fair (settled board_c Fair).table 0 1 (lit< tt) (lit< tt) (settled-least board_c Fair)).0 (lit< tt)

pub C_delayed : WonPair board_c Delayed 0 1 → ⊥
unfolding lift ask lowest highest full
C_delayed w = lt_irrefl 3 ((least_won board_c formed_C Delayed (settled board_c Delayed).table 0 1 (lit< tt) (lit< tt) (settled-least board_c Delayed)).1 w)
