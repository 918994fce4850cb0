-- Pairs are read off a table in an opened arena, without the moves, as on the job's board.
use Rattle.std.proofs.Common.{Ok, ◌≡◌, refl, sym, ap, ◌∙◌, Bool, cond, List, [], ◌++◌, ℕ, zero, suc, ◌*◌, ◌/◌, ◌%◌, length}
use Rattle.simulation.specs.Answers.{below, relation}
use Rattle.arena.specs.declared.Arena.{Arena}
use Rattle.arena.specs.Arena.{board_in, opened}
use Rattle.arena.specs.Job.{Job, mode_of}
use Rattle.arena.specs.Seats.{bare}
use Rattle.arena.proofs.Open.{open_is}
use Rattle.arena.proofs.Seats.{bare-below}
use Rattle.relation.proofs.Bare.{bare-relation}
use Rattle.printer.specs.Printed.{pair_line, pair_lines_from}

bare-lines : (g : Arena) (marks moves t : List ℕ) (i c : ℕ) → pair_lines_from (bare g marks) g.mode t i c ≡ pair_lines_from (board_in g marks moves) g.mode t i c
unfolding pair_lines_from
bare-lines g marks moves t i zero = refl
bare-lines g marks moves t i (suc c) =
    let B = board_in g marks moves in
    let q = i / g.states in
    let r = i % g.states in
    ap (λ (b : ℕ → ℕ → Bool). cond (b q r) (pair_line B g.mode t i) [] ++ pair_lines_from (bare g marks) g.mode t (suc i) c) (bare-below g marks moves t g.mode)
    ∙ ap (λ (l : List ℕ). cond (below B g.mode t q r) (pair_line B g.mode t i) [] ++ l) (bare-lines g marks moves t (suc i) c)

module _ (j : Job) (t : List ℕ) (g : Arena) (o : opened j (length t) ≡ Ok g) where
  pub open_lines : pair_lines_from (bare g j.board.marks) g.mode t 0 (g.states * g.states) ≡ pair_lines_from j.board (mode_of j.mode) t 0 (j.board.n * j.board.n)
  open_lines =
      bare-lines g j.board.marks j.board.moves t 0 (g.states * g.states)
      ∙ ap (λ (h : Arena). pair_lines_from (board_in h j.board.marks j.board.moves) h.mode t 0 (h.states * h.states)) (sym (open_is j t g o).1)

  pub open_relation : relation (bare g j.board.marks) g.mode t ≡ relation j.board (mode_of j.mode) t
  open_relation =
      bare-relation g j.board.marks j.board.moves t
      ∙ ap (λ (h : Arena). relation (board_in h j.board.marks j.board.moves) h.mode t) (sym (open_is j t g o).1)
