-- What the programs print, as bytes: a refusal, or a relation.
use Rattle.std.specs.Prelude.{cond, List, [], ◌∷◌, ◌++◌, ℕ, zero, suc, ◌*◌, ◌/◌, ◌%◌}
use Rattle.fields.specs.Bytes.{bytes_of, newline, tab}
use Rattle.fields.specs.Numbers.{shown}
use Rattle.games.specs.Game.{at}
use Rattle.automaton.specs.declared.Mode.{Mode}
use Rattle.automaton.specs.declared.Refusal.{Refusal}
use Rattle.automaton.specs.Answer.{number_of, place_of, Fault, none, fault}
use Rattle.automaton.specs.Board.{Board}
use Rattle.simulation.specs.Answers.{settled, below}
use Rattle.simulation.specs.Position.{number}
use Rattle.simulation.specs.Rules.{beginning}
use Rattle.arena.specs.Job.{Job, mode_of}

-- ---- lines

-- each field after a tab
unfoldable pub tabbed : (values : List ℕ) → List ℕ
tabbed [] = []
tabbed (v ∷ vs) = tab ∷ (shown v ++ tabbed vs)

-- "Lines end in a newline; fields are parted by tabs"
abbrev pub line : (word values : List ℕ) → List ℕ
line word values = word ++ (tabbed values ++ (newline ∷ []))

-- ---- a refusal

-- "It prints `refused`, number, place."
abbrev pub refusal_text : Refusal → List ℕ
refusal_text r = line (bytes_of "refused") (number_of r ∷ place_of r ∷ [])

-- ---- a relation

-- "entry at the beginning"
abbrev pub entry_at : Board → Mode → (table : List ℕ) → (q r : ℕ) → ℕ
entry_at B m t q r = at t (number B m (beginning B m q r))

-- "q, q', entry at the beginning": the line of pair q·n + q'
abbrev pub pair_line : Board → Mode → (table : List ℕ) → (i : ℕ) → List ℕ
pair_line B m t i = line (bytes_of "pair") (i / B.n ∷ i % B.n ∷ entry_at B m t (i / B.n) (i % B.n) ∷ [])

-- "related pairs only, ascending": of the c pairs from i on
unfoldable pub pair_lines_from : Board → Mode → (table : List ℕ) → (i c : ℕ) → List ℕ
pair_lines_from B m t i zero = []
pair_lines_from B m t i (suc c) = cond (below B m t (i / B.n) (i % B.n)) (pair_line B m t i) [] ++ pair_lines_from B m t (suc i) c

-- all pairs of the settled table
abbrev pub pair_lines : Job → List ℕ
pair_lines j =
    let B = j.board in
    let m = mode_of j.mode in
    pair_lines_from B m (settled B m).table 0 (B.n * B.n)

-- "Fields: mode and n; q, q', entry ..; raises of the settle."
abbrev pub relation_text : Job → List ℕ
relation_text j =
    line (bytes_of "relation") (j.mode ∷ j.board.n ∷ [])
    ++ (pair_lines j
    ++ line (bytes_of "raised") ((settled j.board (mode_of j.mode)).raised ∷ []))

-- ---- either

-- the line of a refusal, or the relation
abbrev pub told : Fault → (relation : List ℕ) → List ℕ
told none l = l
told (fault r) l = refusal_text r
