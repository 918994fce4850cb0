-- `fields::put_bytes` meets its contract: the bytes left, put from here on, end and lie where all of them do.
use Rattle.std.proofs.Common.{◌≡◌, drop}
use Rattle.fields.specs.Bytes.{laid, stop}
use Rattle.fields.proofs.put_bytes.Given as goal

abbrev pub invariant-loop-byte : goal.invariant-loop-byte
invariant-loop-byte l = record {
  stop_left : stop l.to (drop l.byte-index l.bytes) l.out ≡ stop l.at l.bytes l.initial.out;
  laid_left : laid l.to (drop l.byte-index l.bytes) l.out ≡ laid l.at l.bytes l.initial.out;
}
