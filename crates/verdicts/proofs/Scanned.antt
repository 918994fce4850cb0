-- What a scan with the best so far finds: the first of the least, if there is a move at all.
use Rattle.std.proofs.Common.{◌≡◌, refl, sym, ap, ◌∙◌, Bool, true, false, ◌&&◌, cond, Option, None, Some, List, [], ◌∷◌, ◌++◌, ℕ, ◌+◌, ◌*◌, ◌<◌, eqb, ltb, length, drop, ltb-true, ltb-false}
use Rattle.games.specs.Reply.{first_least, pick}
use Rattle.games.proofs.Replies.{first_least_later, first_least_stays}
use Rattle.automaton.specs.declared.Refusal.TheVariants.{NoMove}
use Rattle.automaton.specs.Answer.{Answer, valued, refused, first_fault, unless}
use Rattle.automaton.specs.Board.{from, letter, to}
use Rattle.simulation.specs.Answers.{move_fault}
use Rattle.simulation.specs.Moves.{only, gather}
use Rattle.simulation.proofs.Moves.{gather-from}
use Rattle.verdicts.specs.declared.best.Best.{Best}
use Rattle.verdicts.specs.Best.{improved, best_of}

-- a move to the state s as the best so far
abbrev held : (entry : ℕ → ℕ) → ℕ → Best
held f s = record { state = s; entry = f s }

best_held : (f : ℕ → ℕ) (s : ℕ) (ss : List ℕ) → best_of f (Some (held f s)) ss ≡ Some (held f (first_least f s ss))
unfolding first_least
best_held f s [] = refl
best_held f s (w ∷ ws) = go (ltb (f w) (f s)) refl (best_held f w ws) (best_held f s ws)
  where
    go : (d : Bool) → ltb (f w) (f s) ≡ d → best_of f (Some (held f w)) ws ≡ Some (held f (first_least f w ws)) → best_of f (Some (held f s)) ws ≡ Some (held f (first_least f s ws))
        → best_of f (Some (cond d (held f w) (held f s))) ws ≡ Some (held f (first_least f s (w ∷ ws)))
    go true e later earlier = later ∙ ap (λ n. Some (held f n)) (sym (first_least_later f s w ws (ltb-true (f w) (f s) e)))
    go false e later earlier = earlier ∙ ap (λ n. Some (held f n)) (sym (first_least_stays f s w ws (ltb-false (f w) (f s) e)))

-- what a best move answers
abbrev pub chosen : Option Best → Answer
chosen None = refused NoMove
chosen (Some b) = valued b.state

pub scanned : (f : ℕ → ℕ) (ss : List ℕ) → unless (first_fault (move_fault ss ∷ [])) (valued (pick f ss)) ≡ chosen (best_of f None ss)
scanned f [] = refl
scanned f (s ∷ ss) = sym (ap chosen (best_held f s ss))

-- ---- move by move

-- the states to which the moves from r by the letter a lead
abbrev pub goals : (r a : ℕ) → (moves : List ℕ) → List ℕ
goals r a ms = gather (λ x y z. only (eqb x r && eqb y a) z) ms

module _ (f : ℕ → ℕ) (best : Option Best) (r a : ℕ) (ms : List ℕ) (i : ℕ) (h : i * 3 + 2 < length ms) where
  -- what is left of the scan before move i, by whether that one leaves r by a
  scan-from : (d : Bool) → (eqb (from ms i) r && eqb (letter ms i) a) ≡ d
      → best_of f best (goals r a (drop (i * 3) ms)) ≡ best_of f best (only d (to ms i) ++ goals r a (drop ((i + 1) * 3) ms))
  scan-from d e =
      ap (best_of f best) (gather-from (λ x y z. only (eqb x r && eqb y a) z) ms i h ∙ ap (λ (b : Bool). only b (to ms i) ++ goals r a (drop ((i + 1) * 3) ms)) e)

  pub scan-taken : (eqb (from ms i) r && eqb (letter ms i) a) ≡ true
      → best_of f (Some (improved best (to ms i) (f (to ms i)))) (goals r a (drop ((i + 1) * 3) ms)) ≡ best_of f best (goals r a (drop (i * 3) ms))
  scan-taken e = sym (scan-from true e)

  pub scan_passed : (eqb (from ms i) r && eqb (letter ms i) a) ≡ false → best_of f best (goals r a (drop ((i + 1) * 3) ms)) ≡ best_of f best (goals r a (drop (i * 3) ms))
  scan_passed e = sym (scan-from false e)
