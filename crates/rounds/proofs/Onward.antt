-- The sweeps as a function makes them: one that gives r and leaves u, where the defined sweep raises r entries of t and leaves u.
use Rattle.std.proofs.Common.{◌≡◌, refl, ◌∙◌, List, ℕ, zero, suc, ◌+◌, ◌*◌, ◌-◌, ◌≤◌, ◌<◌, min, arith, mul-le-mul}
use Rattle.games.specs.Game.{Game}
use Rattle.games.specs.Lift.{lifts, raises, bound}
use Rattle.games.specs.Settle.{settle, sweep}
use Rattle.games.proofs.Raises.{total, total_lifts}
use Rattle.games.proofs.Sweeping.{Sweeping, sweeping_more, sweeping_done, sweeping_less}
use Rattle.automaton.specs.declared.Mode.{Mode}
use Rattle.automaton.specs.Board.{Board, Formed}
use Rattle.simulation.specs.Rules.{game}
use Rattle.simulation.proofs.Limits.{positions-most, ceiling-most}

-- The last sweep gave r and left u, and those before it gave n: the defined settle goes on from u, or it is done.
pub record Onward (g : Game) (n r : ℕ) (u : List ℕ) : Type 0 where
  pub more : 0 < r → Sweeping g (n + r) u
  pub done : r ≡ 0 → (n ≡ (settle g).raised) × (u ≡ (settle g).table)

-- what is left to raise, and a sweep that raises nothing
abbrev pub remaining : (g : Game) → (r : ℕ) → (u : List ℕ) → ℕ
remaining g r u = bound g - total u + min 1 r

module _ (g : Game) {n r : ℕ} {t : List ℕ} (u : List ℕ) (s : Sweeping g n t) (e : r ≡ raises g t (sweep g)) (f : u ≡ lifts g t (sweep g)) where
  pub onward : Onward g n r u
  onward = record { more = λ h. rw (e, f) (sweeping_more g n t s (omega arith)); done = λ z. done (sweeping_done g n t s (omega arith)) }
    where
      done : (n ≡ (settle g).raised) × (lifts g t (sweep g) ≡ (settle g).table) → (n ≡ (settle g).raised) × (u ≡ (settle g).table)
      done (a, b) = (a, f ∙ b)

  pub onward-less : {d : ℕ} → 0 < d → remaining g r u < remaining g d t
  onward-less {d} h = rw (e, f) (less (raises g t (sweep g)) refl)
    where
      less : (k : ℕ) → raises g t (sweep g) ≡ k → remaining g (raises g t (sweep g)) (lifts g t (sweep g)) < remaining g d t
      less zero z = omega (arith, total_lifts g (sweep g) t)
      less (suc k) z = omega (arith, sweeping_less g n t s (omega arith))

-- no settle raises more than that
pub bound-most : (B : Board) (m : Mode) → Formed B → bound (game B m) ≤ 139264 * 4097
bound-most B m F = mul-le-mul (positions-most B F m) (ceiling-most B F m)
