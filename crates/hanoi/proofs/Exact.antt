-- Reading comes to a file exactly where the format writes it.
use Rattle.std.proofs.Common.{◌↔◌, ℕ}
use Rattle.tokens.specs.declared.Token.{Token}
use Rattle.headers.proofs.Exact.{header_read, read-header}
use Rattle.bodies.proofs.Exact.{body-read, read-body}
use Rattle.hanoi.specs.File.{File, IsFile}
use Rattle.hanoi.specs.Reading.{whole, Comes, to_end}

module _ {T : ℕ → Token} {f : File} where
  file_read : IsFile T f → Comes T (whole f)
  file_read F = to_end (header_read T F.header_is) (body-read F.body_is)

  read_file : Comes T (whole f) → IsFile T f
  read_file (to_end {j = j} w v) = record { after_header = j; header_is = read-header T w; body_is = read-body v }

  pub comes_file : Comes T (whole f) ↔ IsFile T f
  comes_file = (read_file, file_read)
