-- A Hanoi file: what it is, and the automaton that it gives.
use Rattle.std.specs.Prelude.{cond, List, [], map, ℕ, ◌*◌, ◌/◌, ◌%◌, ◌^◌, get_or}
use Rattle.games.specs.Settle.{ascending}
use Rattle.automaton.specs.declared.Automaton.{Automaton}
use Rattle.automaton.specs.Board.{Board, board_of}
use Rattle.simulation.specs.Rules.{bit}
use Rattle.simulation.specs.Quotient.{triple_by, in_turn}
use Rattle.tokens.specs.declared.Token.{Token}
use Rattle.headers.specs.declared.Header.{Header}
use Rattle.headers.specs.Header.{IsHeader}
use Rattle.bodies.specs.declared.Entry.{Entry}
use Rattle.bodies.specs.Body.{Edge, leads, unlisted, is_accepting, IsBody}

-- ---- what is read

-- what a file says: its header, what the sheet has of each state, and the edges
pub record File : Type 0 where
  pub header : Header
  pub sheet : List Entry
  pub edges : List Edge

-- T gives the token at or after a place: they are those of a header and of a body behind it.
pub record IsFile (T : ℕ → Token) (f : File) : Type 0 where
  pub after_header : ℕ
  pub header_is : IsHeader T f.header after_header
  pub body_is : IsBody T f.header.states f.header.props after_header f.sheet f.edges

-- ---- what it gives

-- "The letter is the number whose bit i tells proposition i": p propositions have 2^p letters.
abbrev pub letters_in : File → ℕ
letters_in f = 2 ^ f.header.props

abbrev pub automaton_in : File → Automaton
automaton_in f = record { states = f.header.states; letters = letters_in f; start = f.header.start }

-- "marks on states only": 1 for a state that is listed with the mark `{0}`
abbrev pub marks_in : File → List ℕ
marks_in f = map (λ q. bit (is_accepting (get_or f.sheet q unlisted))) (ascending 0 f.header.states)

-- "The moves read are exactly those whose letter makes the label true, sorted, each once."
abbrev pub moves_in : File → List ℕ
moves_in f =
    let n = f.header.states in
    let k = letters_in f in
    in_turn (λ x. cond (leads f.edges (x / n / k) (x / n % k) (x % n)) (triple_by n k x) []) (n * k * n)

abbrev pub board_in : File → Board
board_in f = board_of (automaton_in f) (marks_in f) (moves_in f)
