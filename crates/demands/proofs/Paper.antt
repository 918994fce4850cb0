-- Demand 2 in the paper's own words: what Demands.antt and Hanoi.antt say of won pairs, said of simulation as document 001 defines it.
-- `Simulates` (Plays.antt of `plays`) has strategies that remember the whole play, and infinite plays; `WonPair` has one choice a position, and finite walks.
-- They are the same pairs, so a reader chooses which of the two to read.
use Rattle.std.proofs.Common.{◌≡◌, ◌↔◌, true, List, ℕ, ◌+◌, ◌*◌, ◌<◌, get_or}
use mathlib.Core.Logic.Iff
use Rattle.automaton.specs.declared.Mode.{Mode}
use Rattle.automaton.specs.declared.Mode.TheVariants.{Delayed}
use Rattle.automaton.specs.Board.{Board, Formed}
use Rattle.simulation.specs.Answers.{below, settled}
use Rattle.simulation.specs.Won.{WonPair}
use Rattle.plays.specs.Plays.{Simulates}
use Rattle.arena.specs.Job.{Job, mode_of}
use Rattle.table.specs.Calls.{settling}
use Rattle.relation.specs.Calls.{relating}
use Rattle.relation.specs.Calls as of-relation
use Rattle.quotient.specs.Calls.{Buffers, quotienting}
use Rattle.lines.specs.Lines.{lines_of}
use Rattle.text.specs.Text.{mode, board_in, Legible}
use Rattle.hanoi.specs.Calls as of-hanoi
use Rattle.hanoi.specs.File as of-file
use Rattle.hanoi_report.specs.Report.{program}
-- the proofs
use Rattle.plays.proofs.Agreed.{won_is_simulated}
use Rattle.relation.proofs.Accepted.{relation-accepted}
use Rattle.quotient.proofs.Accepted.{quotient-accepted}
use Rattle.hanoi.proofs.Accepted.{legible_formed}
use Rattle.demands.proofs.Played.{settled_proper, below-settled}
use Rattle.demands.proofs.Demands.{reported, reported_won, merged_won}

-- q' simulates q exactly if the pair (q,q') is won.
pub simulated : (B : Board) → Formed B → (m : Mode) (q r : ℕ) → q < B.n → r < B.n → WonPair B m q r ↔ Simulates B m q r
simulated = won_is_simulated

below_simulates : (B : Board) → Formed B → (m : Mode) (q r : ℕ) → q < B.n → r < B.n → (below B m (settled B m).table q r ≡ true) ↔ Simulates B m q r
below_simulates B F m q r h l = Iff.trans (below-settled B F m q r h l) (simulated B F m q r h l)

-- "From a settled table a pair is reported in ordinary, direct, delayed or fair mode exactly if Duplicator wins that mode's game,
-- as the 2005 SIAM paper by Etessami, Wilke and Schuller gives it."
pub reported_simulates : (j : Job) (lent out : List ℕ) → (settling j lent).answer.number ≡ 0 → of-relation.Sized j.board out → (q r : ℕ) → q < j.board.n → r < j.board.n
    → (get_or (relating j (settling j lent).left out).left (q * j.board.n + r) 0 ≡ 1) ↔ Simulates j.board (mode_of j.mode) q r
reported_simulates j lent out settled sized q r h l =
    Iff.trans (reported j lent out settled sized q r h l) (simulated j.board (settled_proper j lent settled).0 (mode_of j.mode) q r h l)

-- From any table at rest, whoever filled it, of each pair reported the second simulates the first.
pub reported_simulated : (j : Job) (t out : List ℕ) → (relating j t out).answer.number ≡ 0 → (q r : ℕ) → q < j.board.n → r < j.board.n
    → get_or (relating j t out).left (q * j.board.n + r) 0 ≡ 1 → Simulates j.board (mode_of j.mode) q r
reported_simulated j t out told q r h l e =
    (simulated j.board ((relation-accepted j t out).0 told).0.0 (mode_of j.mode) q r h l).0 (reported_won j t out told q r h l e)

-- What the stamp is set on: an accepted `quotient` merges exactly the states that simulate each other.
pub merged_simulates : (j : Job) (x : Buffers) → (quotienting j x).answer.number ≡ 0 → (q r : ℕ) → q < j.board.n → r < j.board.n
    → (get_or (quotienting j x).left.classes q 0 ≡ get_or (quotienting j x).left.classes r 0)
    ↔ (Simulates j.board (mode_of j.mode) q r × Simulates j.board (mode_of j.mode) r q)
merged_simulates j x told q r h l =
    let formed = ((quotient-accepted j x).0 told).0.0.0 in
    let there = simulated j.board formed (mode_of j.mode) q r h l in
    let back = simulated j.board formed (mode_of j.mode) r q l h in
    let merged = merged_won j x told q r h l in (
      λ e. let (w, v) = merged.0 e in (there.0 w, back.0 v),
      λ s. merged.1 (there.1 s.0, back.1 s.1),
    )

-- What the programs print: of a legible text, and of a legible Hanoi file, a pair has a line (it is below T on the settled table) exactly if
-- the second state simulates the first.
pub printed_simulates : (text : List ℕ) → Legible text → let B = board_in (lines_of text) in let m = mode_of (mode (lines_of text)) in
    (q r : ℕ) → q < B.n → r < B.n → (below B m (settled B m).table q r ≡ true) ↔ Simulates B m q r
printed_simulates text l = below_simulates (board_in (lines_of text)) l.formed (mode_of (mode (lines_of text)))

pub hanoi_simulates : (file : List ℕ) (f : of-file.File) → of-hanoi.Legible file program f → let B = of-file.board_in f in
    (q r : ℕ) → q < B.n → r < B.n → (below B Delayed (settled B Delayed).table q r ≡ true) ↔ Simulates B Delayed q r
hanoi_simulates file f l = below_simulates (of-file.board_in f) (legible_formed l) Delayed
