-- The laws of a table of refusals: when a line finds no fault, when none does, and what the answer's number tells of it.
use Rattle.std.proofs.Common.{◌≡◌, refl, sym, ap, ◌↔◌, Bool, true, false, true≢false, List, [], ◌∷◌, ◌++◌, ℕ, ◌≤◌, ◌<◌, arith, ltb, ltb-false, le-ltb, Some, None}
use mathlib.Core.Logic.Iff
use Rattle.automaton.specs.Answer.{Answer, number_of, Fault, none, fault, fails, fails_at, first_fault, unless}
use Rattle.automaton.specs.First.{first, first_below}
use Rattle.automaton.specs.declared.Refusal.{Refusal}
use Rattle.automaton.specs.declared.Refusal.TheVariants.{States, Letters, Marks, Start, Bytes, Outside, Unsorted, ModeNumber, TableLength, AboveCeiling, PositionNumber, NotAtRest, SpoilerPosition, LostPosition, NoMove, OutputLength, WrongMode, LineForm, ProgramLimits, TooLong, Foreign, TooDeep}
use Rattle.automaton.proofs.First.{first-lowest, first-none, first_below-Some, first_below-None}

-- the refusals have numbers from 1 to 24
pub refusal_numbered : (r : Refusal) → (0 < number_of r) × (number_of r ≤ 24)
refusal_numbered States = (omega arith, omega arith)
refusal_numbered Letters = (omega arith, omega arith)
refusal_numbered (Marks i) = (omega arith, omega arith)
refusal_numbered Start = (omega arith, omega arith)
refusal_numbered Bytes = (omega arith, omega arith)
refusal_numbered (Outside i) = (omega arith, omega arith)
refusal_numbered (Unsorted i) = (omega arith, omega arith)
refusal_numbered ModeNumber = (omega arith, omega arith)
refusal_numbered TableLength = (omega arith, omega arith)
refusal_numbered (AboveCeiling i) = (omega arith, omega arith)
refusal_numbered PositionNumber = (omega arith, omega arith)
refusal_numbered (NotAtRest v) = (omega arith, omega arith)
refusal_numbered SpoilerPosition = (omega arith, omega arith)
refusal_numbered LostPosition = (omega arith, omega arith)
refusal_numbered NoMove = (omega arith, omega arith)
refusal_numbered OutputLength = (omega arith, omega arith)
refusal_numbered WrongMode = (omega arith, omega arith)
refusal_numbered (LineForm line) = (omega arith, omega arith)
refusal_numbered ProgramLimits = (omega arith, omega arith)
refusal_numbered TooLong = (omega arith, omega arith)
refusal_numbered (Foreign at) = (omega arith, omega arith)
refusal_numbered (TooDeep at) = (omega arith, omega arith)

-- a line of the table that finds no fault exactly if P holds
abbrev pub Line : Fault → Type 0 → Type 0
Line f P = (f ≡ none) ↔ P

pub found : {r : Refusal} → fault r ≡ none → ⊥
found e = let z : ◌≡◌ {A = ℕ} 0 1 = cc in omega arith

pub always-line : (r : Refusal) → Line (fault r) ⊥
always-line r = (found, λ x. absurd x)

pub fails-line : (b : Bool) (P : Type 0) (r : Refusal) → (b ≡ false) ↔ P → Line (fails b r) P
fails-line b P r q = Iff.trans (none_is b) q
  where
    none_is : (s : Bool) → (fails s r ≡ none) ↔ (s ≡ false)
    none_is true = (λ e. absurd (found e), λ e. absurd (true≢false e))
    none_is false = (λ e. refl, λ e. refl)

pub fails_at-line : (r : ℕ → Refusal) (p : ℕ → Bool) (P : Type 0) (c : ℕ) → ((i : ℕ) → i < c → p i ≡ false) ↔ P → Line (fails_at r p c) P
fails_at-line r p P c q = fails-line (ltb (first p 0 c) c) P (r (first p 0 c)) (Iff.trans none_is q)
  where
    none_is : (ltb (first p 0 c) c ≡ false) ↔ ((i : ℕ) → i < c → p i ≡ false)
    none_is = (
      λ e i l. (first-lowest p 0 c).before i (omega arith) (omega (arith, ltb-false (first p 0 c) c e)),
      λ a. le-ltb (first p 0 c) c (omega (arith, (first-none p 0 c).1 λ u l k. a u (omega arith))),
    )

-- what the first thing at fault makes of a line that looks for it
pub fails_at-first : (r : ℕ → Refusal) (p : ℕ → Bool) (c w : ℕ) → Some w ≡ first_below p c → fails_at r p c ≡ fault (r w)
fails_at-first r p c w e = let q = first_below-Some p c w e in simp q.1 (ap (λ u. fault (r u)) q.0)

pub fails_at-none : (r : ℕ → Refusal) (p : ℕ → Bool) (c : ℕ) → None ≡ first_below p c → fails_at r p c ≡ none
fails_at-none r p c e = simp (first_below-None p c e)

-- the lines of a table in their order, none of which finds a fault exactly if all of P holds
infixr 5 ◌then◌
pub data Table : List Fault → Type 0 → Type 1 where
  end : Table [] (Unit {0})
  ◌then◌ : {f : Fault} {fs : List Fault} {P Q : Type 0} → Line f P → Table fs Q → Table (f ∷ fs) (P × Q)

-- none of its lines finds a fault exactly if all that they ask for holds
pub table-line : {fs : List Fault} {P : Type 0} → Table fs P → Line (first_fault fs) P
table-line end = (λ e. tt, λ e. refl)
table-line (◌then◌ {f} {fs} {P} {Q} l t) = go f l (table-line t)
  where
    go : (g : Fault) → Line g P → Line (first_fault fs) Q → Line (first_fault (g ∷ fs)) (P × Q)
    go none r q = (λ e. (r.0 refl, q.0 e), λ h. q.1 h.1)
    go (fault x) r q = (λ e. absurd (found e), λ h. absurd (found (r.1 h.0)))

-- each of its lines finds none
abbrev pub AllNone : List Fault → Type 0
AllNone [] = Unit {0}
AllNone (f ∷ fs) = (f ≡ none) × AllNone fs

pub all_none : (fs : List Fault) → (first_fault fs ≡ none) ↔ AllNone fs
all_none [] = (λ e. tt, λ a. refl)
all_none (none ∷ fs) = (λ e. (refl, (all_none fs).0 e), λ a. (all_none fs).1 a.1)
all_none (fault r ∷ fs) = (λ e. absurd (found e), λ a. absurd (found a.0))

-- after lines that find no fault, and after one that finds one
pub faults_passed : (fs gs : List Fault) → first_fault fs ≡ none → first_fault (fs ++ gs) ≡ first_fault gs
faults_passed [] gs e = refl
faults_passed (none ∷ fs) gs e = faults_passed fs gs e
faults_passed (fault r ∷ fs) gs e = absurd (found e)

pub faults_stopped : (fs gs : List Fault) (r : Refusal) → first_fault fs ≡ fault r → first_fault (fs ++ gs) ≡ fault r
faults_stopped [] gs r e = absurd (found (sym e))
faults_stopped (none ∷ fs) gs r e = faults_stopped fs gs r e
faults_stopped (fault x ∷ fs) gs r e = e

-- a table of one line
pub fault-alone : (f : Fault) → f ≡ first_fault (f ∷ [])
fault-alone none = refl
fault-alone (fault r) = refl

-- ---- from an answer back to what was at fault

pub unless-number : (f : Fault) (a : Answer) → a.number ≡ 0 → ((unless f a).number ≡ 0) ↔ (f ≡ none)
unless-number none a z = (λ e. refl, λ e. z)
unless-number (fault x) a z = (λ e. absurd (omega (arith, refusal_numbered x)), λ e. absurd (found e))

-- ---- which numbers, or which places, the lines of a table have

module _ (of : Refusal → ℕ) where
  -- the number, or the place, of what a line finds is at most k
  abbrev pub UpTo : (k : ℕ) → Fault → Type 0
  UpTo k f = (r : Refusal) → f ≡ fault r → of r ≤ k

  pub none-to : (k : ℕ) → UpTo k none
  none-to k r e = absurd (found (sym e))

  pub fault-to : (k : ℕ) (r : Refusal) → of r ≤ k → UpTo k (fault r)
  fault-to k r h s e = let same : of r ≡ of s = ap (found-by 0) e in omega arith
    where
      found-by : ℕ → Fault → ℕ
      found-by z none = z
      found-by z (fault x) = of x

  pub fails-to : (k : ℕ) (b : Bool) (r : Refusal) → of r ≤ k → UpTo k (fails b r)
  fails-to k true r h = fault-to k r h
  fails-to k false r h = none-to k

  pub fails_at-to : (k : ℕ) (r : ℕ → Refusal) (p : ℕ → Bool) (c : ℕ) → ((i : ℕ) → i ≤ c → of (r i) ≤ k) → UpTo k (fails_at r p c)
  fails_at-to k r p c h = fails-to k (ltb (first p 0 c) c) (r (first p 0 c)) (h (first p 0 c) (omega (arith, (first-lowest p 0 c).most)))

  -- all lines of a table
  abbrev pub AllTo : (k : ℕ) → List Fault → Type 0
  AllTo k [] = Unit {0}
  AllTo k (f ∷ fs) = UpTo k f × AllTo k fs

  pub table_to : (k : ℕ) (fs : List Fault) → AllTo k fs → UpTo k (first_fault fs)
  table_to k [] a = none-to k
  table_to k (none ∷ fs) a = table_to k fs a.1
  table_to k (fault r ∷ fs) a = a.0
