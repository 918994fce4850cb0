-- One line more: what the survey of the lines that are left says before and after it.
use Rattle.std.proofs.Common.{◌≡◌, sym, ap, ◌∙◌, true, false, List, ◌∷◌, ℕ, ◌+◌, ◌≤◌, ◌<◌, add-one, arith, length, drop, Option, Some, None, Err}
use Rattle.lines.specs.declared.line.Line.{Line}
use Rattle.lines.specs.declared.line.Line.TheVariants as line
use Rattle.lines.specs.declared.reader.Read.{Read}
use Rattle.lines.specs.Lines.{lines_of}
use Rattle.lines.specs.Reader.{read_at}
use Rattle.lines.proofs.Pieces.{lines_next, lines_end, past_more, past-most}
use Rattle.text.specs.declared.survey.Survey.{Survey}
use Rattle.automaton.specs.declared.Refusal.TheVariants.{LineForm}
use Rattle.text.specs.Order.{stands}
use Rattle.text.specs.Survey.{Few, ended, taken, surveyed}

-- a line adds at most one accept line and one move line
pub few-more : (s : Survey) (l : Line) (c c' : ℕ) → Few s c → c < c' → Few (taken s l) c'
few-more s (line.Automaton n k q) c c' f h = omega arith
few-more s (line.Mode m) c c' f h = omega arith
few-more s (line.Accept q) c c' f h = omega arith
few-more s (line.Move p a q) c c' f h = omega arith

-- ---- the lines from a place on

-- the line at a place, those past it, and the place past it
module _ (text : List ℕ) (at : ℕ) (read : Read) (e : read ≡ read_at text at) (h : at < length text) where
  pub lines-read : lines_of (drop at text) ≡ read.line ∷ lines_of (drop read.past text)
  lines-read = lines_next text at h ∙ ap (λ (r : Read). r.line ∷ lines_of (drop r.past text)) (sym e)

  pub past_further : (at < read.past) × (read.past ≤ length text)
  past_further = let p = ap (λ (r : Read). r.past) e in omega (arith, past_more text at h, past-most text at)

-- their survey, where the first of them has no form, where it stands and where it does not, and where there is none
module _ (before : Option Line) (number : ℕ) (known : Survey) (text : List ℕ) (at : ℕ) where
  module _ (read : Read) (e : read ≡ read_at text at) (h : at < length text) where
    surveyed-read : surveyed before number known (lines_of (drop at text)) ≡ surveyed before number known (read.line ∷ lines_of (drop read.past text))
    surveyed-read = ap (surveyed before number known) (lines-read text at read e h)

    pub surveyed-formless : read.line ≡ None → Err (LineForm number) ≡ surveyed before number known (lines_of (drop at text))
    unfolding surveyed
    surveyed-formless n = sym (surveyed-read ∙ simp n)

    pub surveyed-on : (l : Line) → read.line ≡ Some l → stands before l ≡ true
        → surveyed (Some l) (number + 1) (taken known l) (lines_of (drop read.past text)) ≡ surveyed before number known (lines_of (drop at text))
    unfolding surveyed
    surveyed-on l i s = sym (surveyed-read ∙ simp (i, s, add-one))

    pub surveyed-stop : (l : Line) → read.line ≡ Some l → stands before l ≡ false → Err (LineForm number) ≡ surveyed before number known (lines_of (drop at text))
    unfolding surveyed
    surveyed-stop l i s = sym (surveyed-read ∙ simp (i, s))

  pub surveyed-none : length text ≤ at → ended before number known ≡ surveyed before number known (lines_of (drop at text))
  unfolding surveyed
  surveyed-none h = sym (ap (surveyed before number known) (lines_end text at h))
