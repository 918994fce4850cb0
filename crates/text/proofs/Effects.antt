-- What `read` answers and leaves, by what is at fault.
use Rattle.std.proofs.Common.{◌≡◌, refl, ap, ◌∙◌, Bool, true, ◌||◌, List, [], ◌∷◌, ℕ, ◌/◌, ◌≤◌, ◌<◌, lt-ltb, le-ltb, ltb, length}
use mathlib.Core.Bool.{or-true}
use Rattle.automaton.specs.declared.Refusal.{Refusal}
use Rattle.automaton.specs.declared.Refusal.TheVariants.{OutputLength, TooLong}
use Rattle.automaton.specs.Answer.{Fault, none, fault, fails, first_fault, refused}
use Rattle.automaton.specs.Effect.{Effect, does}
use Rattle.lines.specs.Lines.{lines_of}
use Rattle.text.specs.Calls.{Lent, short_fault, before, held, reading}
use Rattle.text.specs.Text.{head, marks, moves, program_bytes, line_faults, text_fault}

module _ (text : List ℕ) where
  pub long-fault : program_bytes < length text → text_fault text ≡ fault TooLong
  unfolding text_fault
  long-fault h = simp (lt-ltb program_bytes (length text) h)

  pub lines-fault : length text ≤ program_bytes → text_fault text ≡ first_fault (line_faults (lines_of text))
  unfolding text_fault
  lines-fault h = simp (le-ltb program_bytes (length text) h)

  module _ (x : Lent) where
    abbrev pub done : Effect Lent
    done =
        let ls = lines_of text in
        record { answer = held ls; left = record { marks = before (marks (head ls).states ls) x.marks; moves = before (moves ls) x.moves } }

    by-faults : (f g : Fault) → text_fault text ≡ f → short_fault (lines_of text) x ≡ g → reading text x ≡ does (first_fault (f ∷ g ∷ [])) x done
    unfolding reading
    by-faults f g e d = simp (e, d)

    pub reading-refused : (r : Refusal) → text_fault text ≡ fault r → reading text x ≡ record { answer = refused r; left = x }
    reading-refused r e = by-faults (fault r) (short_fault (lines_of text) x) e refl

    module _ (fine : text_fault text ≡ none) where
      pub reading-few-marks : length x.marks < (head (lines_of text)).states → reading text x ≡ record { answer = refused OutputLength; left = x }
      reading-few-marks h = by-faults none (fault OutputLength) fine (simp (lt-ltb (length x.marks) (head (lines_of text)).states h))

      pub reading-few-moves : length x.moves / 3 < length (moves (lines_of text)) / 3 → reading text x ≡ record { answer = refused OutputLength; left = x }
      reading-few-moves h =
          let t = ltb (length x.marks) (head (lines_of text)).states in
          let u = ltb (length x.moves / 3) (length (moves (lines_of text)) / 3) in
          let both : (t || u) ≡ true = ap (λ (b : Bool). t || b) (lt-ltb (length x.moves / 3) (length (moves (lines_of text)) / 3) h) ∙ or-true t in
          by-faults none (fault OutputLength) fine (ap (λ (b : Bool). fails b OutputLength) both)

      pub reading-done : (head (lines_of text)).states ≤ length x.marks → length (moves (lines_of text)) / 3 ≤ length x.moves / 3 → reading text x ≡ done
      reading-done h k =
          by-faults none none fine (simp (le-ltb (length x.marks) (head (lines_of text)).states h, le-ltb (length x.moves / 3) (length (moves (lines_of text)) / 3) k))
