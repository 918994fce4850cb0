-- What a position asks for, by its parts, and the kinds of Spoiler's positions as the code names them.
-- Functions below the calls promise it to each other; no public promise cites it.
use Rattle.std.specs.Prelude.{List, map, ℕ}
use Rattle.games.specs.Game.{ask, at}
use Rattle.games.specs.Game as games
use Rattle.automaton.specs.declared.Mode.{Mode}
use Rattle.automaton.specs.Board.{Board}
use Rattle.simulation.specs.Position.{Position, number}
use Rattle.simulation.specs.Rules.{steps, kind_of, ceiling}
use Rattle.asks.specs.declared.asked.Turn.{Turn}
use Rattle.asks.specs.declared.asked.Turn.TheVariants.{High, Counting, Resetting, Idle, Lost}

-- the numbers of the positions one step on, and what a position asks for
abbrev pub onward : Board → Mode → Position → List ℕ
onward B m p = map (number B m) (steps B m p)

abbrev pub asked_of : Board → Mode → (table : List ℕ) → Position → ℕ
asked_of B m t p = ask (kind_of B m p) (ceiling B m) (at t) (onward B m p)

-- the kind that a turn of the code stands for
abbrev pub kind_in : Turn → games.Kind
kind_in High = games.high
kind_in Counting = games.counting
kind_in Resetting = games.resetting
kind_in Idle = games.idle
kind_in Lost = games.lost
