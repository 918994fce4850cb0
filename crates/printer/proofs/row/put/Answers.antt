-- `row::put` meets its contract: the fields left and the newline, put from here on, end and lie where the whole line does.
use Rattle.std.proofs.Common.{◌≡◌, refl, List, [], ◌∷◌, ◌++◌, append_assoc, ℕ, ◌+◌, ◌≤◌, ◌<◌, add-one, length, get_or, drop, drop_of_length-le, drop-cons}
use Rattle.fields.specs.Bytes.{newline, tab}
use Rattle.fields.specs.Numbers.{shown}
use Rattle.printer.specs.Printed.{line, tabbed}
use Rattle.printer.proofs.Left.{left-all, left-next, left_then, left-none}
use Rattle.printer.proofs.row.put.Goals as goal

abbrev rest : (values : List ℕ) → ℕ → List ℕ
rest values i = tabbed (drop i values) ++ (newline ∷ [])

rest_more : (values : List ℕ) (i : ℕ) → i < length values → rest values i ≡ (tab ∷ []) ++ (shown (get_or values i 0) ++ rest values (i + 1))
unfolding tabbed
rest_more values i h = simp (drop-cons values i 0 h, add-one, append_assoc)

rest-done : (values : List ℕ) (i : ℕ) → length values ≤ i → rest values i ≡ newline ∷ []
unfolding tabbed
rest-done values i h = simp (drop_of_length-le values {i = i} h)

pub loop-value-init : goal.loop-value-init
loop-value-init c = left-all c.put_bytes-to.result (rest c.args.values.now 0) c.put_bytes-to.new.out

pub loop-value-preserved : goal.loop-value-preserved
loop-value-preserved c =
    let values = c.args.values.now in
    let after = rest values (c.loop-value.value-index + 1) in
    let field = shown (get_or values c.loop-value.value-index 0) in
    let parted =
    left-next c.loop-value.invariant (tab ∷ []) (field ++ after) (rest_more values c.loop-value.value-index c.loop-value-test.true) c.put-past.result c.put-past.new.out c.put-past.ensures.value c.put-past.ensures.out_after in
    left-next parted field after refl c.put_number-to.result c.put_number-to.new.out c.put_number-to.ensures.value c.put_number-to.ensures.out_after

pub returns : goal.returns
returns c =
    let a = c.args in
    let fields = rest a.values.now 0 in
    let begun =
    left-next (left-all a.at (line a.word.now a.values.now) a.out.now) a.word.now fields refl c.put_bytes-to.result c.put_bytes-to.new.out c.put_bytes-to.ensures.value c.put_bytes-to.ensures.out_after in
    let done = rest-done a.values.now c.loop-value.value-index c.loop-value-test.false in
    let both = left-none (left-next (left_then begun c.loop-value.invariant) (newline ∷ []) [] done c.put.result c.put.new.out c.put.ensures.value c.put.ensures.out_after) refl in
    record { value = both.0; out_after = both.1 }
