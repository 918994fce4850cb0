-- The relation is read off a table in the same way whatever the moves.
use Rattle.std.proofs.Common.{◌≡◌, ap, Bool, List, map, ℕ, ◌*◌, ◌/◌, ◌%◌}
use Rattle.games.specs.Play.{count}
use Rattle.games.specs.Settle.{ascending}
use Rattle.simulation.specs.Answers.{relation, related}
use Rattle.simulation.specs.Rules.{bit}
use Rattle.arena.specs.declared.Arena.{Arena}
use Rattle.arena.specs.Arena.{board_in}
use Rattle.arena.specs.Seats.{bare}
use Rattle.arena.proofs.Seats.{bare-below}

module _ (g : Arena) (marks moves t : List ℕ) where
  -- the bytes, from which pairs are below T
  abbrev byte : (ℕ → ℕ → Bool) → ℕ → ℕ
  byte b i = bit (b (i / g.states) (i % g.states))

  pub bare-relation : relation (bare g marks) g.mode t ≡ relation (board_in g marks moves) g.mode t
  bare-relation = ap (λ (b : ℕ → ℕ → Bool). map (byte b) (ascending 0 (g.states * g.states))) (bare-below g marks moves t g.mode)

  pub bare-related : related (bare g marks) g.mode t ≡ related (board_in g marks moves) g.mode t
  bare-related = ap (λ (b : ℕ → ℕ → Bool). count (byte b) (g.states * g.states)) (bare-below g marks moves t g.mode)
