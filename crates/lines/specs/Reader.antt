-- The line from a place of a text on, and the place past it.
-- The functions of `reader` promise it to those above them; the promise of `text::read` does not cite it.
use Rattle.std.specs.Prelude.{cond, List, ℕ, suc, ◌+◌, ltb, length, take, drop, None}
use Rattle.lines.specs.Search.{index_of}
use Rattle.fields.specs.Bytes.{newline}
use Rattle.lines.specs.declared.reader.Read.{Read}
use Rattle.lines.specs.Lines.{line_of}

-- how far the newline is from a place on
abbrev pub far : (text : List ℕ) → (at : ℕ) → ℕ
far text at = index_of newline (drop at text)

-- the line up to the newline; without one, a line of no form up to the end
unfoldable pub read_at : (text : List ℕ) → (at : ℕ) → Read
read_at text at =
    cond (ltb (at + far text at) (length text))
    (record { line = line_of (take (far text at) (drop at text)); past = suc (at + far text at) })
    (record { line = None; past = length text })
