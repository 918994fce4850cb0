-- The worked texts hold of the definitions, by computing them.
use Rattle.std.proofs.Common.{refl}
use Rattle.automaton.specs.First.{first}
use Rattle.fields.specs.Numbers.{digits, number_of}
use Rattle.lines.specs.Lines.{cut, word_of, meaning, lines_in, lines_of}
use Rattle.text.specs.Text.{text_fault}
use Rattle.text.specs.Cases.{AllHold, cases}

pub worked : AllHold cases
unfolding cut word_of meaning lines_in lines_of digits number_of first text_fault
worked = ((refl, refl), ((refl, refl), ((refl, refl), ((refl, refl), (refl, (refl, (refl, (refl, (refl, (refl, (refl, (refl, (refl, (refl, (refl, (refl, (refl, (refl, (refl, (refl, (refl, (refl, (refl, (refl, (refl, (refl, (refl, (refl, (refl, (refl, (refl, (refl, (refl, (refl, (refl, (refl, (refl, (refl, (refl, (refl, tt))))))))))))))))))))))))))))))))))))))))
