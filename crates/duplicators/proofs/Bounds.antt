-- Numbers of entries and of words are far below what a machine number holds.
use Rattle.std.proofs.Common.{◌≡◌, List, ℕ, ◌+◌, ◌*◌, ◌≤◌, ◌<◌, length, arith, mul-le-mul}
use lib.Arith.{digits_lt}
use Rattle.automaton.specs.declared.Mode.{Mode}
use Rattle.simulation.specs.Position.{duplicator, layers, number}
use Rattle.simulation.proofs.Limits.{layers-most, positions-most}
use Rattle.arena.specs.declared.game.Game.{Game}
use Rattle.arena.specs.Game.{board, Playable}
use Rattle.halves.proofs.Places.{duplicator-within}
use Rattle.duplicators.specs.declared.seats.Row.{Row}
use Rattle.duplicators.specs.Rows.{Rowed}

-- where a row of b and q begins, piece by piece
pub start-few : (m : Mode) {b q n : ℕ} → n ≤ 64 → b < layers m → q < n → (n * n ≤ 4096) × (b * (n * n) ≤ 8192) × (q * n ≤ 4096)
start-few m {b} {q} {n} h l k =
    let square : n * n ≤ 4096 = mul-le-mul {n₁ = n} {m₁ = n} {n₂ = 64} {m₂ = 64} h h in
    (square, mul-le-mul {n₁ = b} {m₁ = n * n} {n₂ = 2} {m₂ = 4096} (omega (arith, layers-most m)) square, mul-le-mul {n₁ = q} {m₁ = n} {n₂ = 64} {m₂ = 64} (omega arith) h)

-- the words of rows
pub row-few : (m : Mode) {b q n : ℕ} → n ≤ 64 → b < layers m → q < n → (b * n + q < layers m * n) × (layers m * n ≤ 128)
row-few m {b} {q} {n} hn hb hq = (digits_lt hb hq, mul-le-mul {n₁ = layers m} {m₁ = n} {n₂ = 2} {m₂ = 64} (layers-most m) hn)

-- and of columns
pub column-few : (m : Mode) {b r a n k : ℕ} → n ≤ 64 → k ≤ 16 → b < layers m → r < n → a < k
    → (b * n + r < layers m * n) × (layers m * n ≤ 128) × ((b * n + r) * k + a < layers m * n * k) × (layers m * n * k ≤ 2048)
column-few m {b} {r} {a} {n} {k} hn hk hb hr ha =
    let (below, rows) = row-few m {b = b} {q = r} {n = n} hn hb hr in
    (below, rows, digits_lt below ha, mul-le-mul {n₁ = layers m * n} {m₁ = k} {n₂ = 128} {m₂ = 16} rows hk)

-- each of Duplicator's positions in a row has an entry
pub entry-within : (g : Game) (table : List ℕ) (w : Row) → Playable g table → Rowed g.arena.states g.arena.mode w → (r a : ℕ) → r < g.arena.states → a < g.arena.letters → (i : ℕ)
    → i ≡ number (board g) g.arena.mode (duplicator w.b w.q r a) → (i < length table) × (length table ≤ 139264)
entry-within g table w p o r a hr ha i e = (
  omega (arith, (duplicator-within (board g) g.arena.mode p.formed w.b w.q r a o.bit o.red hr ha).1, p.entries),
  omega (arith, p.entries, positions-most (board g) p.formed g.arena.mode),
)
