-- `fill::lay` meets its contract: the bytes of a move lie one behind another, and another line lays nothing.
use Rattle.std.proofs.Common.{◌∙◌, Option, Some, ◌≡◌, [], rules, ◌∷◌, ◌++◌, ◌%◌, ap, sym}
use Rattle.fields.specs.Bytes.{laid, stop}
use Rattle.fields.proofs.Laid.{then_laid, then_stop}
use Rattle.lines.specs.declared.line.Line.{Line}
use Rattle.lines.specs.declared.line.Line.TheVariants as line
use Rattle.text.specs.Text.{moves_in}
use Rattle.text.specs.Fill.{bytes}
use Rattle.text.proofs.Filled.{unmoved}
use Rattle.text.proofs.fill.lay.Goals as goal

pub returns : goal.returns
returns c =
    let a = c.args in
    let m = c.in-Some-Move in
    let p = m.from % 256 ∷ [] in
    let l = m.letter % 256 ∷ [] in
    let q = m.to % 256 ∷ [] in
    let move : a.line ≡ Some (line.Move m.from m.letter m.to) = m.is ∙ ap Some (rw m.is at m.field-0-is) in
    record {
      value = c.put.ensures.value ∙ then_stop c.put-first.result l q c.put-first.new.out c.put-second.result c.put-second.new.out c.put-second.ensures.value c.put-second.ensures.out_after ∙
          then_stop a.at p (l ++ q) a.moves.now c.put-first.result c.put-first.new.out c.put-first.ensures.value c.put-first.ensures.out_after ∙
          ap (λ (x : Option Line). stop a.at (bytes (moves_in x)) a.moves.now) (sym move);
      moves_after = c.put.ensures.out_after ∙ then_laid c.put-first.result l q c.put-first.new.out c.put-second.result c.put-second.new.out c.put-second.ensures.value c.put-second.ensures.out_after ∙
          then_laid a.at p (l ++ q) a.moves.now c.put-first.result c.put-first.new.out c.put-first.ensures.value c.put-first.ensures.out_after ∙
          ap (λ (x : Option Line). laid a.at (bytes (moves_in x)) a.moves.now) (sym move);
    }

pub returns-in_default : goal.returns-in_default
returns-in_default c =
    let none : moves_in c.args.line ≡ [] = search rules in
    let both = unmoved c.args.at c.args.line c.args.moves.now none in
    record { value = both.0; moves_after = both.1 }

pub returns-in_default-2 : goal.returns-in_default-2
returns-in_default-2 c = let both = unmoved c.args.at c.args.line c.args.moves.now (ap moves_in c.in_default.is) in
    record { value = both.0; moves_after = both.1 }
