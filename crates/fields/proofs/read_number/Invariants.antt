-- `fields::read_number` meets its contract: the digits left, read after the value so far, say what the whole field says.
use Rattle.std.proofs.Common.{◌≡◌, ◌≤◌, drop}
use Rattle.fields.specs.Numbers.{digits, number_of}
use Rattle.fields.proofs.read_number.Given as goal

abbrev pub invariant-loop-byte : goal.invariant-loop-byte
invariant-loop-byte l = record { small : l.v ≤ 65535; left : digits l.v (drop l.byte-index l.field) ≡ number_of l.field }
