-- What one line more adds to what is known of a text, and what is known at its end.
-- Functions below the call promise it to each other; no public promise cites it.
use Rattle.std.specs.Prelude.{Bool, true, ◌&&◌, cond, List, [], ◌∷◌, ℕ, suc, ◌≤◌, ltb, leb, Option, Some, None, Result, Ok, Err}
use Rattle.automaton.specs.declared.Automaton.{Automaton}
use Rattle.automaton.specs.declared.Move.{Move}
use Rattle.automaton.specs.declared.Refusal.{Refusal}
use Rattle.automaton.specs.declared.Refusal.TheVariants.{Marks, Start, Outside, Unsorted, LineForm}
use Rattle.automaton.specs.Answer.{Fault, none, fault, fails}
use Rattle.automaton.specs.Board.{above}
use Rattle.automaton.specs.Check.{states_fault, letters_fault, mode_fault}
use Rattle.lines.specs.declared.line.Line.{Line}
use Rattle.lines.specs.declared.line.Line.TheVariants as line
use Rattle.text.specs.declared.survey.Survey.{Survey}
use Rattle.text.specs.Order.{stands}
use Rattle.text.specs.Text.{unsaid, limits_fault}

-- no text within the limit of bytes has more lines than this
abbrev pub most : ℕ
most = 65535

-- at most c accept lines and c move lines
abbrev pub Few : Survey → (c : ℕ) → Type 0
Few s c = (s.accepts ≤ c) × (s.moves ≤ c)

-- the number of the first at fault, when the next one, of this number, is fine or not
abbrev pub at_fault : (first : Option ℕ) → (number : ℕ) → (fine : Bool) → Option ℕ
at_fault (Some i) number fine = Some i
at_fault None number fine = cond fine None (Some number)

-- is a state above that of the accept line before, and a move above the one before? The first has none before it.
abbrev pub ascends : (before : Option ℕ) → (state : ℕ) → Bool
ascends None q = true
ascends (Some p) q = ltb p q

abbrev pub rises : (before : Option Move) → Move → Bool
rises None t = true
rises (Some s) t = above s.from s.letter s.to t.from t.letter t.to

abbrev pub within : Move → Automaton → Bool
within t a = ltb t.from a.states && ltb t.letter a.letters && ltb t.to a.states

abbrev pub blank : Survey
blank =
    record {
      automaton = unsaid;
      mode = 1;
      accepts = 0;
      last_accept = None;
      strayed = None;
      moves = 0;
      last_move = None;
      outside = None;
      unsorted = None;
    }

abbrev pub accepted_by : Survey → (state : ℕ) → Survey
accepted_by s q =
    record s {
      accepts = suc s.accepts;
      last_accept = Some q;
      strayed = at_fault s.strayed s.accepts (ascends s.last_accept q && ltb q s.automaton.states);
    }

abbrev pub moved_by : Survey → Move → Survey
moved_by s t =
    record s {
      moves = suc s.moves;
      last_move = Some t;
      outside = at_fault s.outside s.moves (within t s.automaton);
      unsorted = at_fault s.unsorted s.moves (rises s.last_move t);
    }

-- what is known after one line more
abbrev pub taken : Survey → Line → Survey
taken s (line.Automaton n k q) = record s { automaton = record { states = n; letters = k; start = q } }
taken s (line.Mode m) = record s { mode = m }
taken s (line.Accept q) = accepted_by s q
taken s (line.Move p a q) = moved_by s (record { from = p; letter = a; to = q })

-- after all lines: there must be one
abbrev pub ended : (last : Option Line) → (number : ℕ) → Survey → Result Survey Refusal
ended None i s = Err (LineForm i)
ended (Some l) i s = Ok s

-- the lines that are left, after one or at the start: the survey at their end, or a refusal at the first that may not stand
unfoldable pub surveyed : (before : Option Line) → (number : ℕ) → Survey → List (Option Line) → Result Survey Refusal
surveyed before i s [] = ended before i s
surveyed before i s (None ∷ ls) = Err (LineForm i)
surveyed before i s (Some l ∷ ls) = cond (stands before l) (surveyed (Some l) (suc i) (taken s l) ls) (Err (LineForm i))

-- a refusal at the first at fault, if one is
abbrev pub fails_with : (ℕ → Refusal) → (first : Option ℕ) → Fault
fails_with r None = none
fails_with r (Some i) = fault (r i)

-- the refusals that a survey decides, in the order of the program
abbrev pub judgements : Survey → List Fault
judgements s =
    states_fault s.automaton.states
    ∷ letters_fault s.automaton.letters
    ∷ limits_fault s.automaton
    ∷ fails_with Marks s.strayed
    ∷ fails (leb s.automaton.states s.automaton.start) Start
    ∷ fails_with Outside s.outside
    ∷ fails_with Unsorted s.unsorted
    ∷ mode_fault s.mode
    ∷ []
