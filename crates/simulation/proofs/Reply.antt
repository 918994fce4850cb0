-- The replies of a table at rest are least replies, each the lowest numbered of the least, and there is one wherever the entry is below T.
use mathlib.Core.Path.{◌≡◌, refl, ap, ◌∙◌, subst}
use mathlib.Core.Logic.{◌≢◌, ◌⊎◌, inl, inr}
use mathlib.Core.Bool.{Bool, true, false}
use mathlib.Core.List.Memᴰ
use mathlib.Core.List.{List, [], ◌∷◌, map, Memᴰ}
use Prim.Native.Nat.{ℕ, suc, ◌≤◌, ◌<◌}
use native.Mathlib.Omega.{arith}
use lib.Dec.{leb, nleb→lt}
use borrow.Author.Tests.{lt-leb}
use Rattle.games.specs.Game.{low, at}
use Rattle.games.specs.Lift.{AtRest}
use Rattle.games.specs.Reply.{LeastReplies, better, first_least, pick}
use Rattle.games.proofs.Replies.{pick_in, pick_le, replies_win}
use Rattle.automaton.specs.declared.Mode.{Mode}
use Rattle.automaton.specs.Board.{Board, accepts, Formed}
use Rattle.simulation.specs.Moves.{targets}
use Rattle.simulation.specs.Position.{Position, spoiler, duplicator, number, position, Fits}
use Rattle.simulation.specs.Rules.{reply, steps, kind_of, ceiling, game}
use Rattle.simulation.specs.Won.{Chosen, here, WonBy}
use Rattle.automaton.specs.Answer.{valued, none}
use Rattle.simulation.specs.Answers.{entry_after, replies, move_fault, reply_on, reply_at}
use Rattle.simulation.specs.Meaning.{LowestLeast}
use Rattle.simulation.proofs.Moves.{targets-moves}
use Rattle.simulation.proofs.Rising.{Rising, rising_ge, targets-rising}
use Rattle.simulation.proofs.Position.{number_lt, position-number}
use Rattle.simulation.proofs.Inward.{inward}
use Rattle.simulation.proofs.Turns.{is_low, turn_low}
use Rattle.simulation.proofs.Walks.{Good}
use Rattle.simulation.proofs.Same.{follow, by_number, by_number_agrees, by_number_choice, wins_literally}

-- ---- the first of the least, of an ascending list, is the lowest numbered

first_least-lowest : (f : ℕ → ℕ) (v : ℕ) (vs : List ℕ) → Rising (suc v) vs → (w : ℕ) → Memᴰ w (v ∷ vs) → f w ≤ f (first_least f v vs) → first_least f v vs ≤ w
unfolding first_least
first_least-lowest f v [] r w m h = rising_ge v (v ∷ []) (omega arith, tt) m
first_least-lowest f v (x ∷ xs) r w m h = go (leb (f v) (f (first_least f x xs))) refl (Memᴰ.cases_cons m) (λ n k. first_least-lowest f x xs r.1 w n k) h
  where
    go : (d : Bool) → leb (f v) (f (first_least f x xs)) ≡ d → (w ≡ v) ⊎ Memᴰ w (x ∷ xs)
        → (Memᴰ w (x ∷ xs) → f w ≤ f (first_least f x xs) → first_least f x xs ≤ w)
        → f w ≤ f (better d v (first_least f x xs)) → better d v (first_least f x xs) ≤ w
    go true e (inl g) rec h = omega arith
    go true e (inr n) rec h = omega (arith, rising_ge (suc v) (x ∷ xs) r n)
    go false e (inl g) rec h = absurd (omega (arith, nleb→lt (f v) (f (first_least f x xs)) (rw e tt), ap f g))
    go false e (inr n) rec h = rec n h

pick-lowest : (f : ℕ → ℕ) (vs : List ℕ) → Rising 0 vs → (w : ℕ) → Memᴰ w vs → f w ≤ f (pick f vs) → pick f vs ≤ w
pick-lowest f [] o w i h = absurd (Memᴰ.not-nil i)
pick-lowest f (x ∷ xs) o w i h = first_least-lowest f x xs o.1 w i h

module _ (B : Board) (F : Formed B) (m : Mode) (t : List ℕ) where
  pub reply-lowest-least : (b q r a : ℕ) → targets B r a ≢ [] → LowestLeast B m t b q r a (replies B m t b q r a)
  reply-lowest-least b q r a ne = record {
    move = (targets-moves B r a (replies B m t b q r a)).0 (pick_in (entry_after B m t b q) (targets B r a) ne);
    least = λ r' k. pick_le (entry_after B m t b q) (targets B r a) ((targets-moves B r a r').1 k);
    lowest = λ r' k h. pick-lowest (entry_after B m t b q) (targets B r a) (targets-rising B F r a) r' ((targets-moves B r a r').1 k) h;
  }

  -- ---- by numbers they are least replies

  pub replies-chosen : Chosen B m (replies B m t)
  replies-chosen b q r a h ne = pick_in (entry_after B m t b q) (targets B r a) ne

  follow_least : (p : Position) → kind_of B m p ≡ low → {w : ℕ} → Memᴰ w (map (number B m) (steps B m p)) → at t (follow B m (replies B m t) p) ≤ at t w
  follow_least (spoiler b q r) e i = absurd (omega (arith, turn_low m b (accepts B q) (accepts B r), ap is_low e))
  follow_least (duplicator b q r a) e {w} i =
      let (p', x, y) = Memᴰ.of_map (number B m) (steps B m (duplicator b q r a)) i in
      let (s, k, j) = Memᴰ.of_map (reply B m b q) (targets B r a) x in
      subst (λ z. at t (follow B m (replies B m t) (duplicator b q r a)) ≤ at t z) (ap (number B m) j ∙ y) (pick_le (entry_after B m t b q) (targets B r a) k)

  pub replies-least : LeastReplies (game B m) t (by_number B m (replies B m t))
  replies-least = record {
    choice = by_number_choice B F m (replies B m t) replies-chosen;
    least = λ v i e w k. follow_least (position B m v) e k;
  }

  -- ---- on a table at rest they win, so there is always one

  module _ (rest : AtRest (game B m) t) where
    pub replies_won : (p : Position) → Good B m p → at t (number B m p) < ceiling B m → WonBy B m (replies B m t) p
    replies_won p g h =
        wins_literally B F m (by_number B m (replies B m t)) (replies B m t) (by_number_agrees B F m (replies B m t) replies-chosen) p g
        (replies_win (game B m) (inward B F m) t rest (by_number B m (replies B m t)) replies-least (number_lt B m p g.0) h)

    -- where the entry is below T Blue has a move, so refusal 15 never comes
    pub has_move : (b q r a : ℕ) → Fits B m (duplicator b q r a) → at t (number B m (duplicator b q r a)) < ceiling B m → targets B r a ≢ []
    has_move b q r a h l = (replies_won (duplicator b q r a) (h, refl) l).alive (duplicator b q r a) (here refl)

    -- so the answer at a Duplicator's position below T is the state for Blue
    pub reply-answers : (b q r a : ℕ) → Fits B m (duplicator b q r a) → at t (number B m (duplicator b q r a)) < ceiling B m
        → reply_at B m t (number B m (duplicator b q r a)) ≡ valued (replies B m t b q r a)
    reply-answers b q r a h l =
        ap (reply_on B m t (number B m (duplicator b q r a))) (position-number B m (duplicator b q r a) h)
        ∙ simp (lt-leb _ _ l, moved (targets B r a) (has_move b q r a h l))
      where
        moved : (l : List ℕ) → l ≢ [] → move_fault l ≡ none
        moved [] n = absurd (n refl)
        moved (x ∷ xs) n = refl
