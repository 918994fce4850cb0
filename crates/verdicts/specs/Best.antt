-- The best reply so far, as the scan of the moves keeps it: none before the first move.
-- Functions below the calls promise it to each other; no promise of the calls cites it.
use Rattle.std.specs.Prelude.{cond, Option, None, Some, List, [], ◌∷◌, ℕ, ltb}
use Rattle.verdicts.specs.declared.best.Best.{Best}

-- after a move to the state s, with the entry e one step on: an earlier move stays if its entry is as small
abbrev pub improved : Option Best → (s e : ℕ) → Best
improved None s e = record { state = s; entry = e }
improved (Some b) s e = cond (ltb e b.entry) (record { state = s; entry = e }) b

-- after moves to each of these states in turn
abbrev pub best_of : (entry : ℕ → ℕ) → Option Best → List ℕ → Option Best
best_of f best [] = best
best_of f best (s ∷ ss) = best_of f (Some (improved best s (f s))) ss
