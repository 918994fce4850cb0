-- The bits of the masks: those of the parts of a label give those of the label.
use Rattle.std.proofs.Common.{◌≡◌, refl, ap, ◌∙◌, Bool, true, false, ◌&&◌, ◌||◌, not as flip, ℕ, zero, suc, ◌/◌, ◌%◌, ◌^◌, ◌<◌, ◌≤◌, min, max, arith, eqb, bit_and, bit_or, bit_xor, below_more, eqb-true}
use Rattle.std.proofs.Math.Bool.{and-eq-true_iff}
use lib.Bits.{differ, and_shr, or_shr, xor_shr, and_step, or_step, xor_step}
use Rattle.labels.specs.Label.{Label, always, never, not, holds}
use Rattle.labels.specs.Letters.{flag, bit, Agrees}

-- ---- bits of a number

and_half : (x y : ℕ) → bit_and x y % 2 ≡ min (x % 2) (y % 2)
and_half x y = omega (arith, and_step x y)

or_half : (x y : ℕ) → bit_or x y % 2 ≡ max (x % 2) (y % 2)
or_half x y = omega (arith, or_step x y)

pub bit-and : (x y a : ℕ) → bit (bit_and x y) a ≡ min (bit x a) (bit y a)
bit-and x y a = ap (λ (z : ℕ). z % 2) (and_shr x y a) ∙ and_half (x / 2 ^ a) (y / 2 ^ a)

pub bit-or : (x y a : ℕ) → bit (bit_or x y) a ≡ max (bit x a) (bit y a)
bit-or x y a = ap (λ (z : ℕ). z % 2) (or_shr x y a) ∙ or_half (x / 2 ^ a) (y / 2 ^ a)

-- ---- bits that tell a truth

pub flag_small : (b : Bool) → flag b ≤ 1
flag_small true = omega arith
flag_small false = omega arith

pub flag-and : (b c : Bool) → min (flag b) (flag c) ≡ flag (b && c)
flag-and true true = refl
flag-and true false = refl
flag-and false true = refl
flag-and false false = refl

pub flag-or : (b c : Bool) → max (flag b) (flag c) ≡ flag (b || c)
flag-or true true = refl
flag-or true false = refl
flag-or false true = refl
flag-or false false = refl

xor_half : (x y : ℕ) (b : Bool) → x % 2 ≡ flag b → y % 2 ≡ 1 → bit_xor x y % 2 ≡ flag (flip b)
xor_half x y true p q =
    let e : differ (x % 2) (y % 2) ≡ 0 = ap (λ (u : ℕ). differ u (y % 2)) p ∙ ap (λ (u : ℕ). differ 1 u) q in
    omega (arith, xor_step x y)
xor_half x y false p q =
    let e : differ (x % 2) (y % 2) ≡ 1 = ap (λ (u : ℕ). differ u (y % 2)) p ∙ ap (λ (u : ℕ). differ 0 u) q in
    omega (arith, xor_step x y)

-- ---- masks of labels

-- does the mask have the letters of the label, as far as those below n go?
unfoldable pub agree : (mask : ℕ) → Label → (n : ℕ) → Bool
agree m l zero = true
agree m l (suc n) = agree m l n && eqb (bit m n) (flag (holds l n))

agree_so : (m : ℕ) (l : Label) (n : ℕ) → agree m l n ≡ true → (a : ℕ) → a < n → bit m a ≡ flag (holds l a)
unfolding agree
agree_so m l zero e a h = absurd (omega arith)
agree_so m l (suc n) e a h =
    let w = (and-eq-true_iff (agree m l n) (eqb (bit m n) (flag (holds l n)))).0 e in
    below_more (λ k. bit m k ≡ flag (holds l k)) n (agree_so m l n w.0) (eqb-true _ _ w.1) a (omega arith)

-- a mask has the letters of a label if the 16 tests say so
pub agrees-by : (m : ℕ) (l : Label) → agree m l 16 ≡ true → Agrees m l
agrees-by m l e = agree_so m l 16 e

pub agrees-true : Agrees 65535 always
unfolding holds agree
agrees-true = agrees-by 65535 always refl

pub agrees-false : Agrees 0 never
unfolding holds agree
agrees-false = agrees-by 0 never refl

pub agrees-not : (m : ℕ) (l : Label) → Agrees m l → Agrees (bit_xor m 65535) (not l)
unfolding holds
agrees-not m l p a h = ap (λ (x : ℕ). x % 2) (xor_shr m 65535 a) ∙ xor_half (m / 2 ^ a) (65535 / 2 ^ a) (holds l a) (p a h) (agrees-true a h)
