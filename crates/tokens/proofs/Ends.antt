-- How far a quoted text goes: one byte more, or the end.
use Rattle.std.proofs.Common.{◌≡◌, ℕ, ◌+◌, ◌<◌, List, length, drop, get_or, Some, None, eq-eqb, ne_eqb}
use Rattle.std.proofs.Math.Seq.{drop-length}
use Rattle.tokens.specs.Tokens.{unquoted}
use Rattle.tokens.proofs.Front.{front_two, front_second, front_last}

-- the inside of a quoted text
module _ (s : List ℕ) (i : ℕ) where
  pub quote_ends : i + 1 < length s → get_or s i 0 ≡ 34 → unquoted (drop i s) i ≡ Some (i + 1)
  unfolding unquoted
  quote_ends h e = simp (front_two s i h, eq-eqb _ _ e)

  pub quote_escapes : i + 1 < length s → (get_or s i 0 ≡ 34 → ⊥) → get_or s i 0 ≡ 92 → unquoted (drop i s) i ≡ unquoted (drop (i + 2) s) (i + 2)
  unfolding unquoted
  quote_escapes h n e = simp (front_two s i h, ne_eqb _ _ n, eq-eqb _ _ e)

  pub quote_more : i + 1 < length s → (get_or s i 0 ≡ 34 → ⊥) → (get_or s i 0 ≡ 92 → ⊥) → unquoted (drop i s) i ≡ unquoted (drop (i + 1) s) (i + 1)
  unfolding unquoted
  quote_more h n m = simp (front_two s i h, front_second s i h, ne_eqb _ _ n, ne_eqb _ _ m)

  pub quote_last : i + 1 ≡ length s → get_or s i 0 ≡ 34 → unquoted (drop i s) i ≡ Some (i + 1)
  unfolding unquoted
  quote_last h e = simp (front_last s i h, eq-eqb _ _ e)

  pub quote_cut : i + 1 ≡ length s → (get_or s i 0 ≡ 34 → ⊥) → unquoted (drop i s) i ≡ None
  unfolding unquoted
  quote_cut h n = simp (front_last s i h, ne_eqb _ _ n)

  pub quote_none : i ≡ length s → unquoted (drop i s) i ≡ None
  unfolding unquoted
  quote_none h = simp (h, drop-length)
