-- The worked tokens hold of the definitions, by computing them.
use Rattle.std.proofs.Common.{refl}
use Rattle.fields.specs.Numbers.{digits, number_of}
use Rattle.tokens.specs.Cases.{AllHold, cases}
use Rattle.tokens.specs.Tokens.{gap, unquoted, token_at, token_from}

pub worked : AllHold cases
unfolding gap unquoted token_at token_from digits number_of
worked = (refl, (refl, (refl, (refl, (refl, (refl, (refl, (refl, (refl, (refl, (refl, (refl, (refl, (refl, (refl, (refl, (refl, (refl, (refl, (refl, (refl, (refl, (refl, (refl, (refl, (refl, (refl, tt)))))))))))))))))))))))))))
