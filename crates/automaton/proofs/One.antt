-- An answer leaves no choice: a refusal is told by its number and place, and two results of `check` with the same answer are the same.
use Rattle.std.proofs.Common.{◌≡◌, refl, sym, ap, ◌∙◌, cond, ℕ, arith, eqb, Result, Ok, Err}
use Rattle.automaton.specs.Answer.{Answer, accepted, done, answered, refused, number_of, place_of, Fault, none, fault, unless}
use Rattle.automaton.specs.declared.Refusal.{Refusal}
use Rattle.automaton.specs.declared.Refusal.TheVariants.{States, Letters, Marks, Start, Bytes, Outside, Unsorted, ModeNumber, TableLength, AboveCeiling, PositionNumber, NotAtRest, SpoilerPosition, LostPosition, NoMove, OutputLength, WrongMode, LineForm, ProgramLimits, TooLong, Foreign, TooDeep}
use Rattle.automaton.proofs.Fault.{refusal_numbered, unless-number}

-- the refusal with a given number and place, and any for a number that none has
refusal_at : (number place : ℕ) → Refusal
refusal_at n p =
    cond (eqb n 1) States
    (cond (eqb n 2) Letters
    (cond (eqb n 3) (Marks p)
    (cond (eqb n 4) Start
    (cond (eqb n 5) Bytes
    (cond (eqb n 6) (Outside p)
    (cond (eqb n 7) (Unsorted p)
    (cond (eqb n 8) ModeNumber
    (cond (eqb n 9) TableLength
    (cond (eqb n 10) (AboveCeiling p)
    (cond (eqb n 11) PositionNumber
    (cond (eqb n 12) (NotAtRest p)
    (cond (eqb n 13) SpoilerPosition
    (cond (eqb n 14) LostPosition
    (cond (eqb n 15) NoMove
    (cond (eqb n 16) OutputLength
    (cond (eqb n 17) WrongMode
    (cond (eqb n 20) (LineForm p)
    (cond (eqb n 21) ProgramLimits
    (cond (eqb n 22) TooLong
    (cond (eqb n 23) (Foreign p)
    (TooDeep p)))))))))))))))))))))

refusal_at_is : (r : Refusal) → refusal_at (number_of r) (place_of r) ≡ r
unfolding refusal_at
refusal_at_is States = refl
refusal_at_is Letters = refl
refusal_at_is (Marks i) = refl
refusal_at_is Start = refl
refusal_at_is Bytes = refl
refusal_at_is (Outside i) = refl
refusal_at_is (Unsorted i) = refl
refusal_at_is ModeNumber = refl
refusal_at_is TableLength = refl
refusal_at_is (AboveCeiling i) = refl
refusal_at_is PositionNumber = refl
refusal_at_is (NotAtRest v) = refl
refusal_at_is SpoilerPosition = refl
refusal_at_is LostPosition = refl
refusal_at_is NoMove = refl
refusal_at_is OutputLength = refl
refusal_at_is WrongMode = refl
refusal_at_is (LineForm line) = refl
refusal_at_is ProgramLimits = refl
refusal_at_is TooLong = refl
refusal_at_is (Foreign at) = refl
refusal_at_is (TooDeep at) = refl

pub one-refusal : (r s : Refusal) → refused r ≡ refused s → r ≡ s
one-refusal r s e = sym (refusal_at_is r) ∙ ap (λ (a : Answer). refusal_at a.number a.place) e ∙ refusal_at_is s

pub refused-not : (r : Refusal) (a : Answer) → a.number ≡ 0 → refused r ≡ a → ⊥
refused-not r a z e = let n : number_of r ≡ a.number = ap (λ (x : Answer). x.number) e in omega (arith, (refusal_numbered r).0)

-- what was at fault, from the answer of a call
pub unless-refused : (f : Fault) (a : Answer) (r : Refusal) → a.number ≡ 0 → refused r ≡ unless f a → f ≡ fault r
unless-refused none a r z e = absurd (refused-not r a z e)
unless-refused (fault s) a r z e = ap fault (sym (one-refusal r s e))

unless-accepted : (f : Fault) (a : Answer) → a.number ≡ 0 → accepted ≡ unless f a → f ≡ none
unless-accepted f a z e = (unless-number f a z).0 (sym (ap (λ (x : Answer). x.number) e))

-- the same, from a result that was told apart
pub checked-none : (f : Fault) (r : Result (Unit {0}) Refusal) {x : Unit {0}} → r ≡ Ok x → answered done r ≡ unless f accepted → f ≡ none
checked-none f r e a = unless-accepted f accepted refl (sym (ap (answered done) e) ∙ a)

pub checked-fault : (f : Fault) (r : Result (Unit {0}) Refusal) (x : Refusal) → r ≡ Err x → answered done r ≡ unless f accepted → f ≡ fault x
checked-fault f r x e a = unless-refused f accepted x refl (sym (ap (answered done) e) ∙ a)

-- two results with the same answer are the same, if the values are that are told alike and each value is accepted
pub one-answered : {T : Type 0} (told : T → Answer) → ((x : T) → (told x).number ≡ 0) → ((x y : T) → told x ≡ told y → x ≡ y)
    → (r s : Result T Refusal) → answered told r ≡ answered told s → r ≡ s
one-answered told z one (Ok x) (Ok y) e = ap Ok (one x y e)
one-answered told z one (Ok x) (Err s) e = absurd (refused-not s (told x) (z x) (sym e))
one-answered told z one (Err r) (Ok y) e = absurd (refused-not r (told y) (z y) e)
one-answered told z one (Err r) (Err s) e = ap Err (one-refusal r s e)

pub one_result : (r s : Result (Unit {0}) Refusal) → answered done r ≡ answered done s → r ≡ s
one_result = one-answered done (λ x. refl) (λ x y e. refl)
