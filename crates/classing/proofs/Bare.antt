-- The classes are read off a table in the same way whatever the moves.
use Rattle.std.proofs.Common.{◌≡◌, ap, Bool, ◌&&◌, List, map, ℕ}
use Rattle.games.specs.Play.{count}
use Rattle.games.specs.Settle.{ascending}
use Rattle.simulation.specs.Quotient.{leads, class_by, class_count, class_bytes}
use Rattle.arena.specs.declared.Arena.{Arena}
use Rattle.arena.specs.Arena.{board_in}
use Rattle.arena.specs.Seats.{bare}
use Rattle.arena.proofs.Seats.{bare-below}

module _ (g : Arena) (marks moves t : List ℕ) where
  -- which states are equal, from which pairs are below T
  abbrev both : (ℕ → ℕ → Bool) → ℕ → ℕ → Bool
  both b q r = b q r && b r q

  pub bare-count : class_count (bare g marks) g.mode t ≡ class_count (board_in g marks moves) g.mode t
  bare-count = ap (λ (b : ℕ → ℕ → Bool). count (leads (both b)) g.states) (bare-below g marks moves t g.mode)

  pub bare-bytes : class_bytes (bare g marks) g.mode t ≡ class_bytes (board_in g marks moves) g.mode t
  bare-bytes = ap (λ (b : ℕ → ℕ → Bool). map (class_by (both b)) (ascending 0 g.states)) (bare-below g marks moves t g.mode)
