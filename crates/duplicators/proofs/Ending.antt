-- Dead ends as they are found letter by letter, and as they are raised row by row.
use Rattle.std.proofs.Common.{◌≡◌, ◌⊎◌, inl, inr, List, ℕ, ◌+◌, ◌*◌, ◌<◌, arith, length}
use Rattle.games.specs.Game.{at}
use Rattle.words.specs.Word.{In}
use Rattle.words.proofs.Sets.{empty, with_cases, with_old}
use Rattle.automaton.specs.declared.Mode.{Mode}
use Rattle.automaton.specs.Board.{Board, Formed}
use Rattle.simulation.specs.Moves.{Moves}
use Rattle.simulation.specs.Position.{layers, positions}
use Rattle.halves.specs.Drawn.{Onto}
use Rattle.levels.specs.Candidates.{AllIn}
use Rattle.levels.specs.Lows.{AllWithin}
use Rattle.levels.proofs.Stored.{below_one}
use Rattle.duplicators.specs.Ends.{WithDead, Dead, AllDead, LayerFound, EachFound}
use Rattle.duplicators.specs.Growing.{Growing, Answered}
use Rattle.duplicators.specs.Rows.{Still, FoundStill, AllEnded}
use Rattle.duplicators.proofs.Part.{part_none, part_still, part_join}

-- ---- the states without a move by a letter

module _ (onto : List ℕ) (k a : ℕ) where
  abbrev Step : (r : ℕ) → Type 0
  Step r = (x : ℕ) × In x (at onto (r * k + a))

  pub dead_start : Dead onto k a 0 0
  dead_start = record { within = λ r i. absurd (empty r i); all = λ r h. absurd (omega arith) }

  pub dead_more : {n set more : ℕ} → Dead onto k a n set → WithDead set n (at onto (n * k + a)) more → Dead onto k a (n + 1) more
  dead_more {n} {set} {more} d (inl (none, w)) = record {
    within = λ r i. within r (with_cases w r i);
    all = below_one (λ r. In r more ⊎ Step r) n (λ r h. old r (d.all r h)) (inl w.here);
  }
    where
      within : (r : ℕ) → In r set ⊎ (r ≡ n) → (r < n + 1) × (at onto (r * k + a) ≡ 0)
      within r (inl i) = (omega (arith, (d.within r i).0), (d.within r i).1)
      within r (inr e) = (omega arith, rw e none)

      old : (r : ℕ) → In r set ⊎ Step r → In r more ⊎ Step r
      old r (inl i) = inl (with_old w r i)
      old r (inr x) = inr x
  dead_more {n} {set} {more} d (inr (step, e)) = rw e (record {
    within = λ r i. (omega (arith, (d.within r i).0), (d.within r i).1);
    all = below_one (λ r. In r set ⊎ Step r) n d.all (inr step);
  })

-- they are states
pub dead_within : (onto : List ℕ) (k n : ℕ) (found : List ℕ) → AllDead onto k n found → AllWithin k n found
dead_within onto k n found dead a h r i = ((dead a h).within r i).0

-- ---- the rows of a layer, and the layers

module _ (B : Board) (m : Mode) (found : List ℕ) where
  -- the candidates in the rows before q are at rest
  pub record Ending (b : ℕ) (s u : Growing) (q c : ℕ) : Type 0 where
    pub part : Answered B m s u c
    pub rest : (i : ℕ) → i < q → FoundStill B m u.table b i B.k found

  pub ending-start : (b : ℕ) (s : Growing) → Ending b s s 0 0
  ending-start b s = record { part = part_none B m s; rest = λ i h. absurd (omega arith) }

  -- the candidates in the layers before b are at rest
  pub record Ended (s u : Growing) (b c : ℕ) : Type 0 where
    pub part : Answered B m s u c
    pub rest : (i : ℕ) → i < b → LayerFound B m u.table i found

  pub ended-start : (s : Growing) → Ended s s 0 0
  ended-start s = record { part = part_none B m s; rest = λ i h. absurd (omega arith) }

  module _ (F : Formed B) (within : AllWithin B.k B.n found) {u w : Growing} {d : ℕ} (o : Answered B m u w d) where
    -- who is at rest remains so
    again : (b q : ℕ) → b < layers m → q < B.n → FoundStill B m u.table b q B.k found → FoundStill B m w.table b q B.k found
    again b q hb hq still a ha r i = part_still o F b q r a hb hq (within a ha r i) ha (still a ha r i)

    module _ {s : Growing} {c : ℕ} (n : length s.table ≡ positions B m) where
      pub ending-more : {b q : ℕ} → b < layers m → q < B.n → Ending b s u q c → FoundStill B m w.table b q B.k found → Ending b s w (q + 1) (c + d)
      ending-more {b} {q} hb hq l still = record {
        part = part_join F n l.part o;
        rest = below_one (λ i. FoundStill B m w.table b i B.k found) q (λ i h. again b i hb (omega arith) (l.rest i h)) still;
      }

      pub ended-more : {b : ℕ} → b < layers m → Ended s u b c → LayerFound B m w.table b found → Ended s w (b + 1) (c + d)
      ended-more {b} hb l still = record {
        part = part_join F n l.part o;
        rest = below_one (λ i. LayerFound B m w.table i found) b (λ i h q hq. again i q (omega arith) hq (l.rest i h q hq)) still;
      }

-- ---- a position has a step, or is at rest

module _ (B : Board) (m : Mode) (onto found : List ℕ) (drawn : Onto B onto) (dead : AllDead onto B.k B.n found) where
  dead_or-move : (r a : ℕ) → r < B.n → a < B.k → ((x : ℕ) × Moves B r a x) ⊎ In r (at found a)
  dead_or-move r a hr ha = go ((dead a ha).all r hr)
    where
      go : In r (at found a) ⊎ ((x : ℕ) × In x (at onto (r * B.k + a))) → ((x : ℕ) × Moves B r a x) ⊎ In r (at found a)
      go (inl i) = inr i
      go (inr (x, i)) = inl (x, drawn.move r a x hr ha i)

  pub ended-all : (t : List ℕ) → EachFound B m t found → AllEnded B m t
  ended-all t still b q r a hb hq hr ha = go (dead_or-move r a hr ha)
    where
      go : ((x : ℕ) × Moves B r a x) ⊎ In r (at found a) → ((x : ℕ) × Moves B r a x) ⊎ Still B m t b q r a
      go (inl v) = inl v
      go (inr i) = inr (still b hb q hq a ha r i)

  -- no letter has a dead end
  pub ended-none : (t : List ℕ) (any : ℕ) → AllIn B.k found any → any ≡ 0 → AllEnded B m t
  ended-none t any all none = ended-all t (λ b hb q hq a ha r i. absurd (empty r (rw none at (all a r ha i))))
