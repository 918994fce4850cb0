-- `fields::put_bytes` meets its contract: the bytes left, put from here on, end and lie where all of them do.
use Rattle.std.proofs.Common.{◌≡◌, ◌∙◌, [], ◌∷◌, List, ℕ, ◌+◌, add-one, ap, drop, drop-cons, drop_of_length-le, get_or, sym}
use Rattle.fields.specs.Bytes.{laid, stop}
use Rattle.fields.proofs.Laid.{laid_none, stop-none, then_laid, then_stop}
use Rattle.fields.proofs.put_bytes.Goals as goal

pub loop-byte-preserved : goal.loop-byte-preserved
loop-byte-preserved c =
    let l = c.args.bytes.now in let i = c.loop-byte.byte-index in
    let split : drop i l ≡ get_or l i 0 ∷ drop (i + 1) l = simp (drop-cons l i 0 c.loop-byte-test.true, add-one) in
    let one = get_or l i 0 ∷ [] in
    let more = drop (i + 1) l in
    record {
      stop_left = then_stop c.loop-byte.to one more c.loop-byte.out c.put-to.result c.put-to.new.out c.put-to.ensures.value c.put-to.ensures.out_after ∙
          ap (λ (x : List ℕ). stop c.loop-byte.to x c.loop-byte.out) (sym split) ∙ c.loop-byte.invariant.stop_left;
      laid_left = then_laid c.loop-byte.to one more c.loop-byte.out c.put-to.result c.put-to.new.out c.put-to.ensures.value c.put-to.ensures.out_after ∙
          ap (λ (x : List ℕ). laid c.loop-byte.to x c.loop-byte.out) (sym split) ∙ c.loop-byte.invariant.laid_left;
    }

pub returns : goal.returns
returns c =
    let l = c.args.bytes.now in
    let none : drop c.loop-byte.byte-index l ≡ [] = drop_of_length-le l {i = c.loop-byte.byte-index} c.loop-byte-test.false in
    let ends = stop-none c.loop-byte.to c.loop-byte.out in
    let lies = laid_none c.loop-byte.to c.loop-byte.out in
    record { value = cc; out_after = cc }
