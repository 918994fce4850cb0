-- Numbers as bytes.
-- Functions below the call promise it to each other; no public promise cites it.
use Rattle.std.specs.Prelude.{List, map, ℕ, ◌%◌}

-- the numbers of a legal move are below 256 and stay what they are
abbrev pub bytes : List ℕ → List ℕ
bytes = map (λ x. x % 256)
