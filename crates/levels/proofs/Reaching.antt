-- The candidates of a letter, member by member of the set that they lead to.
use Rattle.std.proofs.Common.{◌≡◌, ◌⊎◌, inl, inr, List, ℕ, ◌+◌, ◌*◌, arith}
use Rattle.games.specs.Game.{at}
use Rattle.words.specs.Word.{In, Pop, Minus, Joined}
use Rattle.words.proofs.Sets.{empty, pop_cases, pop_sub, minus-cases, minus-sub, minus-off, joined_in_left, joined_in_right, joined-cases}
use Rattle.levels.specs.Candidates.{Leads, Reach, Spared}

module _ (into : List ℕ) (k set a : ℕ) where
  -- those with a move to a member that is not left to look at
  pub record Reaching (left found : ℕ) : Type 0 where
    pub sub : (x : ℕ) → In x left → In x set
    pub from : (r : ℕ) → In r found → (x : ℕ) × In x set × Leads into k r a x
    pub all : (r x : ℕ) → In x set → Leads into k r a x → In x left ⊎ In r found

  pub reach-start : Reaching set 0
  reach-start = record { sub = λ x i. i; from = λ r i. absurd (empty r i); all = λ r x i l. inl i }

  pub reach-more : {left x rest found more : ℕ} → Pop left x rest → Reaching left found → Joined found (at into (x * k + a)) more → Reaching rest more
  reach-more {left} {x} {rest} {found} {more} p s j = record {
    sub = λ z i. s.sub z (pop_sub p z i);
    from = λ r i. from r (joined-cases j r i);
    all = λ r z i l. all r z l (s.all r z i l);
  }
    where
      from : (r : ℕ) → In r found ⊎ Leads into k r a x → (x : ℕ) × In x set × Leads into k r a x
      from r (inl i) = s.from r i
      from r (inr l) = (x, s.sub x p.here, l)

      next : (r z : ℕ) → Leads into k r a z → (z ≡ x) ⊎ In z rest → In z rest ⊎ In r more
      next r z l (inl q) = inr (joined_in_right j r (rw q at l))
      next r z l (inr i) = inl i

      all : (r z : ℕ) → Leads into k r a z → In z left ⊎ In r found → In z rest ⊎ In r more
      all r z l (inl i) = next r z l (pop_cases p z i)
      all r z l (inr i) = inr (joined_in_left j r i)

  pub reach-end : {left found : ℕ} → left ≡ 0 → Reaching left found → Reach into k set a found
  reach-end {left} {found} z s = record { from = s.from; all = λ r x i l. all r x (s.all r x i l) }
    where
      all : (r x : ℕ) → In x left ⊎ In r found → In r found
      all r x (inl i) = absurd (empty x (rw z at i))
      all r x (inr i) = i

  -- those of the candidates with no move to a member that is not left to look at
  pub record Sparing (candidates left found : ℕ) : Type 0 where
    pub ahead : (x : ℕ) → In x left → In x set
    pub sub : (r : ℕ) → In r found → In r candidates
    pub off : (r x : ℕ) → In r found → In x set → Leads into k r a x → In x left
    pub gone : (r : ℕ) → In r candidates → In r found ⊎ ((x : ℕ) × In x set × Leads into k r a x)

  pub spare-start : (candidates : ℕ) → Sparing candidates set candidates
  spare-start candidates = record { ahead = λ x i. i; sub = λ r i. i; off = λ r x i h l. h; gone = λ r i. inl i }

  pub spare_more : {candidates left x rest found less : ℕ} → Pop left x rest → Sparing candidates left found → Minus found (at into (x * k + a)) less
      → Sparing candidates rest less
  spare_more {candidates} {left} {x} {rest} {found} {less} p s m = record {
    ahead = λ z i. s.ahead z (pop_sub p z i);
    sub = λ r i. s.sub r (minus-sub m r i);
    off = λ r z i h l. off r z i l (pop_cases p z (s.off r z (minus-sub m r i) h l));
    gone = λ r i. gone r (s.gone r i);
  }
    where
      off : (r z : ℕ) → In r less → Leads into k r a z → (z ≡ x) ⊎ In z rest → In z rest
      off r z i l (inl q) = absurd (let h : Leads into k r a x = rw q at l in omega (arith, minus-off m r i))
      off r z i l (inr h) = h

      taken : (r : ℕ) → Leads into k r a x ⊎ In r less → In r less ⊎ ((x : ℕ) × In x set × Leads into k r a x)
      taken r (inl l) = inr (x, s.ahead x p.here, l)
      taken r (inr i) = inl i

      gone : (r : ℕ) → In r found ⊎ ((x : ℕ) × In x set × Leads into k r a x) → In r less ⊎ ((x : ℕ) × In x set × Leads into k r a x)
      gone r (inl i) = taken r (minus-cases m r i)
      gone r (inr o) = inr o

  -- nothing is left to look at, or nothing is left of the candidates
  pub spare-end : {candidates left found : ℕ} → (left ≡ 0) ⊎ (found ≡ 0) → Sparing candidates left found → Spared into k set a candidates found
  spare-end {candidates} {left} {found} z s = record { sub = s.sub; off = λ r x i h l. off r x i (s.off r x i h l) z; gone = s.gone }
    where
      off : (r x : ℕ) → In r found → In x left → (left ≡ 0) ⊎ (found ≡ 0) → ⊥
      off r x i h (inl e) = empty x (rw e at h)
      off r x i h (inr e) = empty r (rw e at i)
