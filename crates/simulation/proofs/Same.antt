-- A pair is won, as document 01 words it, exactly if its beginning is won in the game that lifting decides.
use mathlib.Core.Path.{◌≡◌, refl, sym, ap, ◌∙◌, subst}
use mathlib.Core.Logic.{◌≢◌, ◌↔◌}
use mathlib.Core.List.{List, [], map, map-eq-nil_iff, Memᴰ}
use Prim.Native.Nat.{ℕ, ◌<◌}
use native.Mathlib.Omega.{arith}
use Rattle.games.specs.Game.{low}
use Rattle.games.specs.Play.{is_counting, is_resetting, Step, Walk, stop, more, counts, resets, Choice, Wins, Won}
use Rattle.automaton.specs.declared.Mode.{Mode}
use Rattle.automaton.specs.Board.{Board, accepts, Formed}
use Rattle.simulation.specs.Moves.{targets}
use Rattle.simulation.specs.Position.{Position, spoiler, duplicator, positions, number, position, Fits}
use Rattle.simulation.specs.Rules.{reply, steps, kind_of, game, beginning}
use Rattle.simulation.specs.Won.{Choices, Chosen, Follows, Keeps, Walks, here, onward, Stuck, Returning, WonBy, WonPair}
use Rattle.simulation.specs.Meaning.{tally}
use Rattle.simulation.proofs.Position.{number_lt, position-number, position_fits}
use Rattle.simulation.proofs.Inward.{steps-fit, inward}
use Rattle.simulation.proofs.Turns.{is_low, is_idle, turn_low, Trigger, Relief, counting_at, resetting_at, counting_trigger, trigger_counting, resetting_relief, relief_resetting}
use Rattle.simulation.proofs.Walks.{Good, beginning-good, walk_good, tally-long, tally_meets, returning_tally, obey, obeys-kept, obeys_returning}

-- ---- positions by their numbers

pub nonempty : {X : Type 0} {w : X} {l : List X} → Memᴰ w l → l ≢ []
nonempty m e = mathlib.Core.List.Memᴰ.not-nil (rw e at m)

module _ (B : Board) (m : Mode) where
  pub next-is : (p : Position) → Fits B m p → (game B m).next (number B m p) ≡ map (number B m) (steps B m p)
  next-is p h = ap (λ (z : Position). map (number B m) (steps B m z)) (position-number B m p h)

  pub kind-is : (p : Position) → Fits B m p → (game B m).kind (number B m p) ≡ kind_of B m p
  kind-is p h = ap (kind_of B m) (position-number B m p h)

  stuck-next : (p : Position) → Stuck B p → (kind_of B m p ≡ low) × (map (number B m) (steps B m p) ≡ [])
  stuck-next (spoiler b q r) s = absurd s
  stuck-next (duplicator b q r a) s = (refl, rw s)

  next-stuck : (p : Position) → kind_of B m p ≡ low → map (number B m) (steps B m p) ≡ [] → Stuck B p
  next-stuck (spoiler b q r) e n = absurd (omega (arith, turn_low m b (accepts B q) (accepts B r), ap is_low e))
  next-stuck (duplicator b q r a) e n = (map-eq-nil_iff (reply B m b q)).0 ((map-eq-nil_iff (number B m)).0 n)

-- ---- walks by numbers, for two choices that agree

-- σ chooses moves, and σ' the same by numbers
abbrev pub Agrees : Board → Mode → (ℕ → ℕ) → Choices → Type 0
Agrees B m σ' σ = (b q r a : ℕ) → Fits B m (duplicator b q r a) → targets B r a ≢ []
    → Memᴰ (σ b q r a) (targets B r a) × (σ' (number B m (duplicator b q r a)) ≡ number B m (reply B m b q (σ b q r a)))

module _ (B : Board) (F : Formed B) (m : Mode) (σ' : ℕ → ℕ) (σ : Choices) (ok : Agrees B m σ' σ) where
  by-choice : (u w : Position) → Fits B m u → Keeps B m σ u w → is_low (kind_of B m u) ≡ 1 → number B m w ≡ σ' (number B m u)
  by-choice (spoiler b q r) w h s l = absurd (omega (arith, turn_low m b (accepts B q) (accepts B r)))
  by-choice (duplicator b q r a) w h s l =
      let (z, i, j) = mathlib.Core.List.Memᴰ.of_map (reply B m b q) (targets B r a) s.step in
      ap (number B m) s.follows ∙ sym (ok b q r a h (nonempty i)).1

  to_step : (u w : Position) → Good B m u → Keeps B m σ u w → Step (game B m) σ' (number B m u) (number B m w)
  to_step u w g s = record {
    edge = subst (Memᴰ (number B m w)) (sym (next-is B m u g.0)) (mathlib.Core.List.Memᴰ.map (number B m) s.step);
    chosen = λ e. by-choice u w g.0 s (ap is_low (sym (kind-is B m u g.0) ∙ e));
    live = λ e. omega (arith, g.1, ap is_idle (sym (kind-is B m u g.0) ∙ e));
  }

  pub to_walk : {p u : Position} → Good B m p → (c : Walks B m σ p u)
      → (d : Walk (game B m) σ' (number B m p) (number B m u)) × (counts d ≡ tally (counting_at B m) c) × (resets d ≡ tally (resetting_at B m) c)
  to_walk g (here e) = (stop (ap (number B m) e), refl, refl)
  to_walk g (onward {u = v} {w = w} c s) =
      let (d, x, y) = to_walk g c in
      let h = walk_good B F m g c in
      (more d (to_step v w h s), omega (arith, ap is_counting (kind-is B m v h.0)), omega (arith, ap is_resetting (kind-is B m v h.0)))

  -- a choice that wins by numbers wins by document 01's words
  pub wins_literally : (p : Position) → Good B m p → Wins (game B m) σ' (number B m p) → WonBy B m σ p
  wins_literally p g w = record {
    chosen = λ b q r a h ne. (ok b q r a h ne).0;
    alive = λ u c s.
        let h = (walk_good B F m g c).0 in
        let (x, y) = stuck-next B m u s in
        w.alive (number B m u) (to_walk g c).0 (kind-is B m u h ∙ x) (next-is B m u h ∙ y);
    obeys = obey B m σ p (λ u c e. w.kept (number B m u) (to_walk g c).0 (kind-is B m u (walk_good B F m g c).0 ∙ e)) returning;
  }
    where
      returning : Returning B m σ p (Trigger B m) (Relief B m)
      returning u c l o t =
          let h = walk_good B F m g c in
          let (d, x, y) = to_walk h l in
          let b : 0 < tally (counting_at B m) l = returning_tally (Trigger B m) (counting_at B m) F (λ v k. trigger_counting B m v k.1) h l o t in
          tally_meets (Relief B m) (resetting_at B m) (resetting_relief B m) l (omega (arith, w.fair (number B m u) (to_walk g c).0 d (omega arith)))

-- ---- a choice by numbers, as one of moves

abbrev blue_of : Position → ℕ
blue_of (spoiler b q r) = r
blue_of (duplicator b q r a) = r

module _ (B : Board) (F : Formed B) (m : Mode) (σ' : ℕ → ℕ) (ch : Choice (game B m) σ') where
  by_moves : Choices
  by_moves b q r a = blue_of (position B m (σ' (number B m (duplicator b q r a))))

  by_moves_agrees : Agrees B m σ' by_moves
  unfolding by_moves
  by_moves_agrees b q r a h ne =
      let p = duplicator b q r a in
      let v = number B m p in
      let mem : Memᴰ (σ' v) (map (number B m) (steps B m p)) = subst (Memᴰ (σ' v)) (next-is B m p h) (ch v (number_lt B m p h) (kind-is B m p h) (λ e. ne (next-stuck B m p refl (sym (next-is B m p h) ∙ e)))) in
      let (p', x, y) = mathlib.Core.List.Memᴰ.of_map (number B m) (steps B m p) mem in
      let (s, i, j) = mathlib.Core.List.Memᴰ.of_map (reply B m b q) (targets B r a) x in
      let d : position B m (σ' v) ≡ p' = ap (position B m) (sym y) ∙ position-number B m p' (steps-fit B F m p h x) in
      let e : by_moves b q r a ≡ s = ap blue_of (d ∙ sym j) in
      (mathlib.Core.List.Memᴰ.cast e i, sym y ∙ ap (number B m) (sym j) ∙ ap (λ (z : ℕ). number B m (reply B m b q z)) (sym e))

-- ---- a choice of moves, by numbers

abbrev pub follow : Board → Mode → Choices → Position → ℕ
follow B m σ (spoiler b q r) = 0
follow B m σ (duplicator b q r a) = number B m (reply B m b q (σ b q r a))

abbrev pub by_number : Board → Mode → Choices → ℕ → ℕ
by_number B m σ v = follow B m σ (position B m v)

module _ (B : Board) (F : Formed B) (m : Mode) (σ : Choices) (ch : Chosen B m σ) where
  pub by_number_agrees : Agrees B m (by_number B m σ) σ
  by_number_agrees b q r a h ne = (ch b q r a h ne, ap (follow B m σ) (position-number B m (duplicator b q r a) h))

  follow_in : (p : Position) → Fits B m p → kind_of B m p ≡ low → map (number B m) (steps B m p) ≢ [] → Memᴰ (follow B m σ p) (map (number B m) (steps B m p))
  follow_in (spoiler b q r) h l ne = absurd (omega (arith, turn_low m b (accepts B q) (accepts B r), ap is_low l))
  follow_in (duplicator b q r a) h l ne =
      mathlib.Core.List.Memᴰ.map (number B m) (mathlib.Core.List.Memᴰ.map (reply B m b q) (ch b q r a h (λ e. ne (ap (λ z. map (number B m) (map (reply B m b q) z)) e))))

  pub by_number_choice : Choice (game B m) (by_number B m σ)
  by_number_choice v i l ne = follow_in (position B m v) (position_fits B m F v i) l ne

  follows : (p : Position) → Fits B m p → (y : ℕ) → Memᴰ y (map (number B m) (steps B m p)) → (kind_of B m p ≡ low → y ≡ follow B m σ p) → Follows B m σ p (position B m y)
  follows (spoiler b q r) h y i f = tt
  follows (duplicator b q r a) h y i f =
      let p = duplicator b q r a in
      let (p', x, e) = mathlib.Core.List.Memᴰ.of_map (number B m) (steps B m p) i in
      let (s, k, j) = mathlib.Core.List.Memᴰ.of_map (reply B m b q) (targets B r a) x in
      ap (position B m) (f refl) ∙ position-number B m (reply B m b q (σ b q r a)) (steps-fit B F m p h (mathlib.Core.List.Memᴰ.map (reply B m b q) (ch b q r a h (nonempty k))))

  from_step : (u w : ℕ) → u < positions B m → Step (game B m) (by_number B m σ) u w → Keeps B m σ (position B m u) (position B m w)
  from_step u w h s =
      let p = position B m u in
      let k = position_fits B m F u h in
      let (p', x, e) = mathlib.Core.List.Memᴰ.of_map (number B m) (steps B m p) s.edge in
      record {
        step = mathlib.Core.List.Memᴰ.cast (ap (position B m) (sym e) ∙ position-number B m p' (steps-fit B F m p k x)) x;
        follows = follows p k w s.edge s.chosen;
      }

  from_walk : {v w : ℕ} → v < positions B m → (d : Walk (game B m) (by_number B m σ) v w)
      → (w < positions B m) × (c : Walks B m σ (position B m v) (position B m w)) × (tally (counting_at B m) c ≡ counts d) × (tally (resetting_at B m) c ≡ resets d)
  from_walk h (stop e) = (subst (λ (x : ℕ). x < positions B m) e h, here (ap (position B m) e), refl, refl)
  from_walk h (more {u = u} {w = w} d s) =
      let (l, c, x, y) = from_walk h d in
      (inward B F m u l w s.edge, onward c (from_step u w l s), omega arith, omega arith)

  -- a choice that wins by document 01's words wins by numbers
  wins_by-number : (p : Position) → Good B m p → WonBy B m σ p → Wins (game B m) (by_number B m σ) (number B m p)
  wins_by-number p g w = record {
    choice = by_number_choice;
    alive = λ u d l n. w.alive (position B m u) (walk d) (next-stuck B m (position B m u) l n);
    kept = λ u d e. obeys-kept B m σ p w.obeys (position B m u) (walk d) e;
    fair = λ u d c b.
        let k = (from_walk start d).0 in
        let (l, o, x, y) = from_walk k c in
        let h = walk_good B F m g (walk d) in
        let t : 0 < tally (counting_at B m) o = omega arith in
        let z = tally-long (Trigger B m) (counting_at B m) o t in
        let r = obeys_returning B m σ p w.obeys (position B m u) (walk d) o z (tally_meets (Trigger B m) (counting_at B m) (counting_trigger B m) o t) in
        omega (arith, returning_tally (Relief B m) (resetting_at B m) F (λ v j. relief_resetting B m v) h o z r);
  }
    where
      start : number B m p < positions B m
      start = number_lt B m p g.0

      walk : {u : ℕ} → Walk (game B m) (by_number B m σ) (number B m p) u → Walks B m σ p (position B m u)
      walk {u} d = subst (λ (z : Position). Walks B m σ z (position B m u)) (position-number B m p g.0) (from_walk start d).1

-- ---- the two readings agree

pub won_same : (B : Board) → Formed B → (m : Mode) (q r : ℕ) → q < B.n → r < B.n
    → WonPair B m q r ↔ Won (game B m) (number B m (beginning B m q r))
won_same B F m q r h l = (there, back)
  where
    p : Position
    p = beginning B m q r

    good : Good B m p
    good = beginning-good B F m q r h l

    there : WonPair B m q r → Won (game B m) (number B m p)
    there (σ, w) = (by_number B m σ, wins_by-number B F m σ w.chosen p good w)

    back : Won (game B m) (number B m p) → WonPair B m q r
    back (σ', w) =
        let σ = by_moves B F m σ' w.choice in
        (σ, wins_literally B F m σ' σ (by_moves_agrees B F m σ' w.choice) p good w)
