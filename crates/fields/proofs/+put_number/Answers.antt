-- `fields::put_number` meets its contract: the digits of v / 10, and the last one behind them. The number falls at each call.
use Rattle.std.proofs.Common.{sym, ap, ◌∙◌, List, [], ◌∷◌, ℕ, ◌+◌, ◌/◌, ◌%◌}
use Rattle.fields.specs.Bytes.{laid, stop}
use Rattle.fields.specs.Numbers.{shown}
use Rattle.fields.proofs.Laid.{then_stop, then_laid}
use Rattle.fields.proofs.Shown.{shown-one, shown-more}
use Rattle.fields.proofs.+put_number.Goals as goal

pub returns-then-v-lt10 : goal.returns-then-v-lt10
returns-then-v-lt10 t c =
    let a = c.args in
    let one = shown-one a.v c.if-v-lt10.true in
    record { value = c.put.ensures.value ∙ ap (λ (l : List ℕ). stop a.at l a.out.now) (sym one); out_after = c.put.ensures.out_after ∙ ap (λ (l : List ℕ). laid a.at l a.out.now) (sym one) }

pub returns : goal.returns
returns t c =
    let a = c.args in
    let last = (48 + a.v % 10) ∷ [] in
    let more = shown-more a.v c.if-v-lt10.false in
    record {
      value = c.put-2.ensures.value ∙ then_stop a.at (shown (a.v / 10)) last a.out.now c.put_number-past.result c.put_number-past.new.out c.put_number-past.ensures.value c.put_number-past.ensures.out_after ∙
          ap (λ (l : List ℕ). stop a.at l a.out.now) (sym more);
      out_after = c.put-2.ensures.out_after ∙ then_laid a.at (shown (a.v / 10)) last a.out.now c.put_number-past.result c.put_number-past.new.out c.put_number-past.ensures.value c.put_number-past.ensures.out_after ∙
          ap (λ (l : List ℕ). laid a.at l a.out.now) (sym more);
    }
