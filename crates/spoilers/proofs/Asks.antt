-- How a column asks, by the kinds of its positions.
use Rattle.std.proofs.Common.{◌≡◌, refl, sym, ap, ◌∙◌, ◌⊎◌, inl, inr, Bool, true, false, cond, ℕ, suc, ◌+◌, ◌≤◌, ◌<◌, min, max, le_refl, arith, eq-eqb, ne_eqb}
use Rattle.games.specs.Game.{Kind, high, counting, resetting, idle, lost, full}
use Rattle.games.specs.Half.{rule}
use Rattle.games.proofs.Asked.{Full, full-cases}
use Rattle.words.specs.Word.{dig, In}
use Rattle.words.proofs.Digits.{dig-zero}
use Rattle.automaton.specs.declared.Mode.{Mode}
use Rattle.automaton.specs.declared.Mode.TheVariants.{Ordinary, Direct}
use Rattle.automaton.specs.Board.{Board, accepts}
use Rattle.simulation.specs.Rules.{bit, turn, ceiling}
use Rattle.simulation.proofs.Listed.{bit-one}
use Rattle.halves.specs.Drawn.{Accepting}
use Rattle.spoilers.specs.Work.{given, gives}
use Rattle.spoilers.specs.Shape.{Asking}

-- ---- what a state gets

pub given_in : (bump v w q : ℕ) → In q bump → given bump v w q ≡ w
given_in bump v w q i = ap (λ (t : Bool). cond t w v) (eq-eqb (dig bump q) 1 i)

pub given_out : (bump v w q : ℕ) → dig bump q ≡ 0 → given bump v w q ≡ v
given_out bump v w q o = ap (λ (t : Bool). cond t w v) (ne_eqb (dig bump q) 1 (λ e. omega arith))

-- ---- accepting states

pub accepting_in : (B : Board) (acc : ℕ) → Accepting B acc → (q : ℕ) → q < B.n → In q acc → accepts B q ≡ true
accepting_in B acc a q h i = (bit-one (accepts B q)).0 (sym (a.each q h) ∙ i)

pub accepting-out : (B : Board) (acc : ℕ) → Accepting B acc → (q : ℕ) → q < B.n → dig acc q ≡ 0 → accepts B q ≡ false
accepting-out B acc a q h o = go (accepts B q) (sym (a.each q h) ∙ o)
  where
    go : (t : Bool) → bit t ≡ 0 → t ≡ false
    go true e = absurd (omega arith)
    go false e = refl

-- ---- by kinds

-- what `Asking` says of one position and one entry
abbrev Fits : (T : ℕ) → Kind → (from h gift : ℕ) → Type 0
Fits T k from h gift = (h < from → rule k T h ≤ rule k T 0) × (from ≤ h → gift ≤ rule k T h) × (from ≤ h → rule k T h ≤ max gift (rule k T 0))

module _ (T h : ℕ) (cap : h ≤ T) where
  fits_high : Fits T high 0 h h
  unfolding rule
  fits_high = (λ l. absurd (omega arith), λ l. le_refl h, λ l. omega arith)

  fits_lost : Fits T lost 0 h h
  unfolding rule
  fits_lost = (λ l. le_refl T, λ l. cap, λ l. omega arith)

  fits_counting : Fits T counting 0 h (min (suc h) T)
  unfolding rule
  fits_counting = (λ l. absurd (omega arith), λ l. le_refl (min (suc h) T), λ l. omega arith)

  fits_idle : Fits T idle (T + 1) h h
  unfolding rule
  fits_idle = (λ l. le_refl 0, λ l. absurd (omega arith), λ l. absurd (omega arith))

  fits_resetting : Fits T resetting T h h
  unfolding rule
  fits_resetting = go (full-cases T h)
    where
      go : Full T h (full T h) → (h < T → full T h ≤ full T 0) × (T ≤ h → h ≤ full T h) × (T ≤ h → full T h ≤ max h (full T 0))
      go (inl p) = (λ l. absurd (omega (arith, p.0)), λ l. omega (arith, p.1), λ l. omega (arith, p.1))
      go (inr p) = (λ l. omega (arith, p.1), λ l. absurd (omega (arith, p.0)), λ l. absurd (omega (arith, p.0)))

module _ (B : Board) (m : Mode) (b r : ℕ) where
  abbrev kind : ℕ → Kind
  kind q = turn m b (accepts B q) (accepts B r)

  asking_made : (from bump : ℕ) → ((q h : ℕ) → q < B.n → h ≤ ceiling B m → Fits (ceiling B m) (kind q) from h (gives bump (ceiling B m) h q)) → Asking B m b r from bump
  asking_made from bump fits = record {
    idle = λ q h i j. (fits q h i j).0;
    due = λ q h i j. (fits q h i j).1;
    enough = λ q h i j. (fits q h i j).2;
  }

  -- the empty set bumps none
  none : (h q : ℕ) → gives 0 (ceiling B m) h q ≡ h
  none h q = given_out 0 h (min (suc h) (ceiling B m)) q (dig-zero q)

  -- every position asks for High, or for T
  pub asking-plain : ((q : ℕ) → (kind q ≡ high) ⊎ (kind q ≡ lost)) → Asking B m b r 0 0
  asking-plain each = asking_made 0 0 (λ q h i j. rw (none h q) (go q h j (each q)))
    where
      go : (q h : ℕ) → h ≤ ceiling B m → (kind q ≡ high) ⊎ (kind q ≡ lost) → Fits (ceiling B m) (kind q) 0 h h
      go q h j (inl e) = rw e (fits_high (ceiling B m) h j)
      go q h j (inr e) = rw e (fits_lost (ceiling B m) h j)

  -- every position resets
  pub asking_reset : (from : ℕ) → from ≡ ceiling B m → ((q : ℕ) → kind q ≡ resetting) → Asking B m b r from 0
  asking_reset from e each = asking_made from 0 (λ q h i j. rw (none h q, each q, e) (fits_resetting (ceiling B m) h j))

  -- every position is idle
  pub asking-idle : (from : ℕ) → from ≡ ceiling B m + 1 → ((q : ℕ) → kind q ≡ idle) → Asking B m b r from 0
  asking-idle from e each = asking_made from 0 (λ q h i j. rw (none h q, each q, e) (fits_idle (ceiling B m) h j))

  -- the positions of the set count, and the others ask for High
  pub asking-count : (bump : ℕ) → ((q : ℕ) → q < B.n → ((kind q ≡ counting) × In q bump) ⊎ ((kind q ≡ high) × (dig bump q ≡ 0))) → Asking B m b r 0 bump
  asking-count bump each = asking_made 0 bump (λ q h i j. go q h j (each q i))
    where
      go : (q h : ℕ) → h ≤ ceiling B m → ((kind q ≡ counting) × In q bump) ⊎ ((kind q ≡ high) × (dig bump q ≡ 0)) → Fits (ceiling B m) (kind q) 0 h (gives bump (ceiling B m) h q)
      go q h j (inl (e, k)) = rw (e, given_in bump h (min (suc h) (ceiling B m)) q k) (fits_counting (ceiling B m) h j)
      go q h j (inr (e, k)) = rw (e, given_out bump h (min (suc h) (ceiling B m)) q k) (fits_high (ceiling B m) h j)

-- ---- the kinds of ordinary and direct mode

direct_kinds : (m : Mode) → m ≡ Direct → (b : ℕ) (x y : Bool) → (turn m b x y ≡ high) ⊎ (turn m b x y ≡ lost)
direct_kinds m e b x y = rw e (go x y)
  where
    go : (x y : Bool) → (turn Direct b x y ≡ high) ⊎ (turn Direct b x y ≡ lost)
    go true true = inl refl
    go true false = inr refl
    go false y = inl refl

pub plain_kinds : (m : Mode) → (m ≡ Ordinary) ⊎ (m ≡ Direct) → (b : ℕ) (x y : Bool) → (turn m b x y ≡ high) ⊎ (turn m b x y ≡ lost)
plain_kinds m (inl e) b x y = inl (rw e refl)
plain_kinds m (inr e) b x y = direct_kinds m e b x y
