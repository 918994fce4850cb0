-- What one line more marks and lays, and what the lines that are left do.
use Rattle.std.proofs.Common.{◌≡◌, refl, sym, ap, ◌∙◌, List, [], ◌∷◌, ◌++◌, ℕ, ◌-◌, ◌%◌, ◌≤◌, ◌<◌, arith, length, take, drop, set, replicate, length-set, take_at, drop_at, Option}
use mathlib.Core.List.{map-append}
use lib.ListN.{length-replicate}
use borrow.Rule.Slice.PartMut.{mid_of, post_of, put_mid, Post-is, mid_len}
use Rattle.fields.specs.Bytes.{laid, stop}
use Rattle.fields.proofs.Laid.{laid_none, stop-none, then_laid}
use Rattle.lines.specs.declared.line.Line.{Line}
use Rattle.lines.specs.declared.reader.Read.{Read}
use Rattle.lines.specs.Lines.{lines_of}
use Rattle.lines.specs.Reader.{read_at}
use Rattle.lines.proofs.Pieces.{lines_end}
use Rattle.text.specs.Text.{accepts, accepts_in, moves, moves_in, marked}
use Rattle.text.specs.Calls.{before}
use Rattle.text.specs.Fill.{bytes}
use Rattle.text.proofs.Steps.{lines-read}

-- a line that is no move lays nothing
pub unmoved : (at : ℕ) (l : Option Line) (out : List ℕ) → moves_in l ≡ [] → (at ≡ stop at (bytes (moves_in l)) out) × (out ≡ laid at (bytes (moves_in l)) out)
unmoved at l out e = (
  sym (ap (λ (x : List ℕ). stop at (bytes x) out) e ∙ stop-none at out),
  sym (ap (λ (x : List ℕ). laid at (bytes x) out) e ∙ laid_none at out),
)

pub marked_length : (named marks : List ℕ) → length (marked named marks) ≡ length marks
marked_length [] marks = refl
marked_length (q ∷ qs) marks = marked_length qs (set marks q 1) ∙ length-set marks q 1

marked_more : (named more marks : List ℕ) → marked more (marked named marks) ≡ marked (named ++ more) marks
marked_more [] more marks = refl
marked_more (q ∷ qs) more marks = marked_more qs more (set marks q 1)

-- ---- the lines from a place on: one more, and none

module _ (text : List ℕ) (at : ℕ) (read : Read) (e : read ≡ read_at text at) (h : at < length text) where
  pub marked-on : (marks marks' : List ℕ) → marks' ≡ marked (accepts_in read.line) marks
      → marked (accepts (lines_of (drop read.past text))) marks' ≡ marked (accepts (lines_of (drop at text))) marks
  marked-on marks marks' m =
      let rest = lines_of (drop read.past text) in
      ap (marked (accepts rest)) m ∙ marked_more (accepts_in read.line) (accepts rest) marks ∙
      ap (λ (ls : List (Option Line)). marked (accepts ls) marks) (sym (lines-read text at read e h))

  pub laid_on : (to to' : ℕ) (out out' : List ℕ) → to' ≡ stop to (bytes (moves_in read.line)) out → out' ≡ laid to (bytes (moves_in read.line)) out
      → laid to' (bytes (moves (lines_of (drop read.past text)))) out' ≡ laid to (bytes (moves (lines_of (drop at text)))) out
  laid_on to to' out out' p n =
      let rest = lines_of (drop read.past text) in
      then_laid to (bytes (moves_in read.line)) (bytes (moves rest)) out to' out' p n ∙
      ap (λ (x : List ℕ). laid to x out) (sym (map-append (λ (x : ℕ). x % 256) (moves_in read.line) (moves rest))) ∙
      ap (λ (ls : List (Option Line)). laid to (bytes (moves ls)) out) (sym (lines-read text at read e h))

module _ (text : List ℕ) (at : ℕ) (h : length text ≤ at) where
  pub marked-end : (marks : List ℕ) → marks ≡ marked (accepts (lines_of (drop at text))) marks
  marked-end marks = sym (ap (λ (ls : List (Option Line)). marked (accepts ls) marks) (lines_end text at h))

  pub laid_end : (to : ℕ) (out : List ℕ) → out ≡ laid to (bytes (moves (lines_of (drop at text)))) out
  laid_end to out = sym (ap (λ (ls : List (Option Line)). laid to (bytes (moves ls)) out) (lines_end text at h) ∙ laid_none to out)

-- ---- the marks of all states, at the front of their buffer: the front cleared first, then marked

module _ (n : ℕ) (named out cleared filled : List ℕ) (h : n ≤ length out) where
  abbrev front_cleared : List ℕ
  front_cleared = put_mid 0 (n - 0) out cleared

  pub marks-written : cleared ≡ replicate (length (mid_of 0 (n - 0) out)) 0 → filled ≡ marked named (mid_of 0 (n - 0) front_cleared)
      → put_mid 0 (n - 0) front_cleared filled ≡ before (marked named (replicate n 0)) out
  marks-written c f =
      let all : n - 0 ≡ n = omega arith in
      let zeros : cleared ≡ replicate n 0 = c ∙ ap (λ (k : ℕ). replicate k 0) (mid_len 0 n out h ∙ all) in
      let count : length cleared ≡ n = ap length zeros ∙ length-replicate n 0 in
      let front : mid_of 0 (n - 0) front_cleared ≡ replicate n 0 = ap (λ (k : ℕ). take k front_cleared) all ∙ take_at cleared (post_of 0 (n - 0) out) n count ∙ zeros in
      let rest : post_of 0 (n - 0) front_cleared ≡ drop n out = ap (λ (k : ℕ). drop k front_cleared) all ∙ drop_at cleared (post_of 0 (n - 0) out) n count ∙ Post-is 0 n out (omega arith) in
      ap (λ (x : List ℕ). x ++ post_of 0 (n - 0) front_cleared) (f ∙ ap (marked named) front) ∙
      ap (λ (x : List ℕ). marked named (replicate n 0) ++ x) (rest ∙ ap (λ (k : ℕ). drop k out) (sym (marked_length named (replicate n 0) ∙ length-replicate n 0)))
