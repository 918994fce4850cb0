-- `report::input::fill` meets its contract: a turn puts what the reader gave behind what it had given before.
use Rattle.std.proofs.Common.{◌≡◌, ℕ, ◌+◌, ◌-◌, ◌≤◌, List, ◌++◌, rules, length, take, drop, ap, ◌∙◌, sym, subst, le_refl, drop_at, length-take-le, take-add}
use borrow.Rule.Slice.PartMut.{put_mid, post_of}
use lib.Seq.{take-append-le}
use Rattle.std.proofs.lemmas.Slice.{take-put_mid_below}
use Rattle.std.specs.Io.KnownBytes.{Consumes}
use Rattle.std.proofs.KnownBytes.{Consumes-trans}
use Rattle.report.proofs.input.fill.Goals as goal

-- the front of a list whose bytes from a on were written anew
front : (a k n : ℕ) (xs ys : List ℕ) → a ≤ length xs → n ≤ length ys → take a xs ++ take n ys ≡ take (a + n) (put_mid a k xs ys)
front a k n xs ys within fits =
    let after = post_of a k xs in
    let kept : take a (put_mid a k xs ys) ≡ take a xs = take-put_mid_below _ _ _ _ _ (le_refl _) within in
    let behind = ap (take n) (drop_at (take a xs) (ys ++ after) a (length-take-le a xs within)) ∙ take-append-le n ys after fits in
    sym (take-add a n (put_mid a k xs ys) ∙ ap (λ (l : List ℕ). l ++ take n (drop a (put_mid a k xs ys))) kept ∙ ap (λ (l : List ℕ). take a xs ++ l) behind)

pub loop-count-preserved : goal.loop-count-preserved
loop-count-preserved g c =
    let from = c.loop-count.count in
    let buffer = c.loop-count.buffer in
    let joined = front from (length buffer - from) c.in_ok-more.more buffer c.read.new.buf c.loop-count.invariant.1 c.in_ok-more.ensures.bound.0 in
    (search rules, search rules, subst (Consumes _ _) joined (Consumes-trans _ _ _ _ _ c.loop-count.invariant.2 c.in_ok-more.ensures.bytes.0))
