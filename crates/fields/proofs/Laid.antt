-- Bytes laid into a buffer: lengths, what is past its end, and bytes laid behind others.
use Rattle.std.proofs.Common.{◌≡◌, refl, sym, ap, ◌∙◌, List, [], ◌∷◌, ◌++◌, ℕ, suc, ◌+◌, ◌≤◌, ◌<◌, arith, ltb, length, set, take, drop, length-set, length-append}
use lib.Seq.{set_out, length-sets, sets-eq}
use Rattle.fields.specs.Bytes.{laid, stop}
use Rattle.fields.proofs.Tests.{by_test}

pub laid_length : (at : ℕ) (l out : List ℕ) → length (laid at l out) ≡ length out
unfolding laid
laid_length at l out = length-sets out at l

pub laid-past : (at : ℕ) (l out : List ℕ) → length out ≤ at → laid at l out ≡ out
unfolding laid
laid-past at [] out h = refl
laid-past at (x ∷ l) out h = ap (laid (suc at) l) (set_out out at x h) ∙ laid-past (suc at) l out (omega arith)

pub laid_none : (at : ℕ) (out : List ℕ) → laid at [] out ≡ out
unfolding laid
laid_none at out = refl

pub stop-none : (at : ℕ) (out : List ℕ) → stop at [] out ≡ at
unfolding stop
stop-none at out = omega arith

pub stop-one : (at x : ℕ) (out : List ℕ) → at < length out → stop at (x ∷ []) out ≡ at + 1
unfolding stop
stop-one at x out h = omega arith

pub stop-past : (at : ℕ) (l out : List ℕ) → length out ≤ at → stop at l out ≡ at
unfolding stop
stop-past at l out h = omega arith

-- bytes put from the front end where they do, if there is room for all
pub stop-whole : (l out : List ℕ) → length l ≤ length out → stop 0 l out ≡ length l
unfolding stop
stop-whole l out h = omega arith

pub laid_one : (at x : ℕ) (out : List ℕ) → laid at (x ∷ []) out ≡ set out at x
unfolding laid
laid_one at x out = refl

-- ---- one after the other

module _ (at : ℕ) (l l' out : List ℕ) where
  -- bytes laid from where the first end lie behind them
  pub stop-more : stop (stop at l out) l' (laid at l out) ≡ stop at (l ++ l') out
  unfolding stop
  stop-more = omega (arith, laid_length at l out, length-append l l')

pub laid_more : (at : ℕ) (l l' out : List ℕ) → laid (stop at l out) l' (laid at l out) ≡ laid at (l ++ l') out
unfolding laid stop
laid_more at [] l' out = ap (λ (i : ℕ). laid i l' out) (omega arith)
laid_more at (x ∷ l) l' out =
    let y = set out at x in
    let same : length y ≡ length out = length-set out at x in
    by_test at (length out) (ltb at (length out)) refl
    (λ (inside : at < length out).
    ap (λ (i : ℕ). laid i l' (laid (suc at) l y)) (omega (arith, same)) ∙ laid_more (suc at) l l' y)
    (λ (past : length out ≤ at).
    laid-past (stop at (x ∷ l) out) l' (laid (suc at) l y) (omega (arith, same, laid_length (suc at) l y)) ∙
    laid-past (suc at) l y (omega (arith, same)) ∙
    sym (laid-past (suc at) (l ++ l') y (omega (arith, same))))

-- the same, for a place and a buffer that are told to be these
module _ (at : ℕ) (l l' out : List ℕ) (place : ℕ) (now : List ℕ) (p : place ≡ stop at l out) (n : now ≡ laid at l out) where
  pub then_stop : stop place l' now ≡ stop at (l ++ l') out
  then_stop = ap (λ (i : ℕ). stop i l' now) p ∙ ap (stop (stop at l out) l') n ∙ stop-more at l l' out

  pub then_laid : laid place l' now ≡ laid at (l ++ l') out
  then_laid = ap (λ (i : ℕ). laid i l' now) p ∙ ap (laid (stop at l out) l') n ∙ laid_more at l l' out

-- ---- from the front

-- bytes laid from the front, into a buffer that holds them all
pub laid-whole : (l out : List ℕ) → length l ≤ length out → laid 0 l out ≡ l ++ drop (length l) out
unfolding laid
laid-whole l out h =
    let z : 0 + length l ≡ length l = omega arith in
    sets-eq l out 0 (omega arith) ∙ ap (λ (k : ℕ). take 0 out ++ l ++ drop k out) z
