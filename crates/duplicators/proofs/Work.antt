-- The work on a row, member by member and letter by letter: what has been raised, and who is at rest so far.
use Rattle.std.proofs.Common.{◌≡◌, ◌⊎◌, inl, inr, List, ℕ, ◌+◌, ◌<◌, arith, length}
use Rattle.games.specs.Game.{at}
use Rattle.words.specs.Word.{In, Pop}
use Rattle.words.proofs.Sets.{empty, pop_cases, pop_sub}
use Rattle.automaton.specs.declared.Mode.{Mode}
use Rattle.automaton.specs.Board.{Board, Formed}
use Rattle.simulation.specs.Position.{layers, positions}
use Rattle.arena.specs.declared.game.Game.{Game}
use Rattle.arena.proofs.Open.{ready-again}
use Rattle.halves.specs.Rising.{Spacious}
use Rattle.levels.specs.Lows.{Within}
use Rattle.levels.proofs.Stored.{below_one}
use Rattle.duplicators.specs.declared.seats.Row.{Row}
use Rattle.duplicators.specs.Growing.{Growing, Answered, AnsweredIn}
use Rattle.duplicators.specs.Rows.{Still, LetterStill, Working}
use Rattle.duplicators.proofs.Part.{part_none, part_still, part_join}

-- ---- what the work asks for holds after a part of it

pub spacious-again : {B : Board} {m : Mode} {s u : Growing} {c : ℕ} → Answered B m s u c → Spacious B m s.grown s.columns → Spacious B m u.grown u.columns
spacious-again p o = record { words = omega (arith, p.words, o.words); sets = omega (arith, p.sets, o.sets) }

pub working_again : (g : Game) (w : Row) (s u : Growing) {c : ℕ} → AnsweredIn g s u c
    → Working g s.table s.grown s.columns w → Working g u.table u.grown u.columns w
working_again g w s u p o = record {
  ready = ready-again g.arena g.marks.now g.moves.now s.table u.table o.ready p.entries;
  spacious = spacious-again p o.spacious;
  rowed = o.rowed;
}

-- ---- the candidates of a letter

module _ (B : Board) (m : Mode) (b q a candidates : ℕ) where
  -- those that are not left are at rest
  pub record Letter (s u : Growing) (left c : ℕ) : Type 0 where
    pub part : Answered B m s u c
    pub sub : (r : ℕ) → In r left → In r candidates
    pub rest : (r : ℕ) → In r candidates → In r left ⊎ Still B m u.table b q r a

  pub letter-start : (s : Growing) → Letter s s candidates 0
  letter-start s = record { part = part_none B m s; sub = λ r i. i; rest = λ r i. inl i }

  pub letter-more : Formed B → {s u w : Growing} {left r rest c d : ℕ} → length s.table ≡ positions B m → b < layers m → q < B.n → a < B.k → Within candidates B.n
      → Pop left r rest → Letter s u left c → Answered B m u w d → Still B m w.table b q r a → Letter s w rest (c + d)
  letter-more F {s} {u} {w} {left} {r} {rest} n hb hq ha within p l o still = record {
    part = part_join F n l.part o;
    sub = λ z i. l.sub z (pop_sub p z i);
    rest = λ z i. go z i (l.rest z i);
  }
    where
      next : (z : ℕ) → (z ≡ r) ⊎ In z rest → In z rest ⊎ Still B m w.table b q z a
      next z (inl e) = inr (rw e still)
      next z (inr i) = inl i

      go : (z : ℕ) → In z candidates → In z left ⊎ Still B m u.table b q z a → In z rest ⊎ Still B m w.table b q z a
      go z i (inl k) = next z (pop_cases p z k)
      go z i (inr k) = inr (part_still o F b q z a hb hq (within z i) ha k)

  pub letter-end : {s u : Growing} {left c : ℕ} → left ≡ 0 → Letter s u left c → Answered B m s u c × LetterStill B m u.table b q a candidates
  letter-end {s} {u} {left} e l = (l.part, λ r i. go r (l.rest r i))
    where
      go : (r : ℕ) → In r left ⊎ Still B m u.table b q r a → Still B m u.table b q r a
      go r (inl i) = absurd (empty r (rw e at i))
      go r (inr h) = h

-- ---- the letters

module _ (B : Board) (m : Mode) (b q : ℕ) (found : List ℕ) where
  -- the candidates of the letters before a are at rest
  pub record Letters (s u : Growing) (a c : ℕ) : Type 0 where
    pub part : Answered B m s u c
    pub rest : (i : ℕ) → i < a → LetterStill B m u.table b q i (at found i)

  pub letters-start : (s : Growing) → Letters s s 0 0
  letters-start s = record { part = part_none B m s; rest = λ i h. absurd (omega arith) }

  pub letters-more : Formed B → {s u w : Growing} {a c d : ℕ} → length s.table ≡ positions B m → b < layers m → q < B.n → a < B.k
      → ((i : ℕ) → i < B.k → Within (at found i) B.n) → Letters s u a c → Answered B m u w d → LetterStill B m w.table b q a (at found a) → Letters s w (a + 1) (c + d)
  letters-more F {s} {u} {w} {a} n hb hq ha within l o still = record {
    part = part_join F n l.part o;
    rest = below_one (λ i. LetterStill B m w.table b q i (at found i)) a (λ i h r k. part_still o F b q r i hb hq (within i (omega arith) r k) (omega arith) (l.rest i h r k)) still;
  }
