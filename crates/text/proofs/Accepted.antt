-- When `read` accepts: a legible text, and room for its marks and moves.
use Rattle.std.proofs.Common.{◌≡◌, refl, sym, ◌∙◌, ◌≢◌, ◌↔◌, Bool, true, false, cond, List, [], ◌∷◌, ℕ, suc, ◌/◌, ◌<◌, arith, ne_eqb, ltb-true, ltb-false, eqb, ltb, length, Option}
use borrow.Author.Tests.{eqb-false}
use mathlib.Core.Logic.Iff
use Rattle.automaton.specs.declared.Refusal.TheVariants.{LineForm, Marks, OutputLength, ProgramLimits}
use Rattle.automaton.specs.Answer.{none, fault, fails_at, first_fault}
use Rattle.automaton.specs.Check.{faults}
use Rattle.automaton.specs.Effect.{Refuses}
use Rattle.automaton.proofs.Effects.{does-number, does-refuse, always, alone}
use Rattle.automaton.proofs.Fault.{Line as LineOf, found, AllNone, all_none, fails-line, fails_at-line, ◌then◌, end, table-line}
use Rattle.automaton.proofs.Sound.{automaton-line, mode-line}
use Rattle.lines.specs.declared.line.Line.{Line}
use Rattle.lines.specs.Lines.{lines_of}
use Rattle.text.specs.Calls.{Lent, short_fault, held, reading, Roomy}
use Rattle.text.specs.Order.{misplaced, form_fault}
use Rattle.text.specs.Text.{head, mode, accepts, moves, board_in, stray, program_states, program_letters, program_bytes, line_faults, text_fault, Legible}
use Rattle.text.proofs.Effects.{lines-fault, long-fault}
use Rattle.text.proofs.Sound.{neither, text_formed, text_mode, text_small}

form_line : (ls : List (Option Line)) → LineOf (form_fault ls) ((0 < length ls) × ((i : ℕ) → i < length ls → misplaced ls i ≡ false))
form_line ls = (λ e. go (eqb (length ls) 0) refl e, λ h. simp (ne_eqb (length ls) 0 (λ z. omega (arith, h.0))) (placed.1 h.1))
  where
    placed : LineOf (fails_at (λ i. LineForm (suc i)) (misplaced ls) (length ls)) ((i : ℕ) → i < length ls → misplaced ls i ≡ false)
    placed = fails_at-line (λ i. LineForm (suc i)) (misplaced ls) _ (length ls) (λ a. a, λ a. a)

    go : (t : Bool) → eqb (length ls) 0 ≡ t → cond t (fault (LineForm 1)) (fails_at (λ i. LineForm (suc i)) (misplaced ls) (length ls)) ≡ none
        → (0 < length ls) × ((i : ℕ) → i < length ls → misplaced ls i ≡ false)
    go true d e = absurd (found e)
    go false d e = let some = eqb-false (length ls) 0 d in (omega (arith, some), placed.0 e)

-- nothing is at fault exactly with a legible text
pub text_line : (text : List ℕ) → LineOf (text_fault text) (Legible text)
text_line text = (legible, faultless)
  where
    ls : List (Option Line)
    ls = lines_of text

    legible : text_fault text ≡ none → Legible text
    legible e = go (ltb program_bytes (length text)) refl
      where
        go : (t : Bool) → ltb program_bytes (length text) ≡ t → Legible text
        go true d = absurd (found (sym (long-fault text (ltb-true program_bytes (length text) d)) ∙ e))
        go false d =
            let short = ltb-false program_bytes (length text) d in
            let fine : first_fault (line_faults ls) ≡ none = sym (lines-fault text short) ∙ e in
            let all : AllNone (line_faults ls) = (all_none (line_faults ls)).0 fine in
            let form = (form_line ls).0 all.0 in
            record {
              short = short;
              some = form.0;
              placed = form.1;
              ascending = (fails_at-line Marks (stray (head ls).states (accepts ls)) _ (length (accepts ls)) (λ a. a, λ a. a)).0 all.1.1.1.1.0;
              few = (text_small ls fine).0;
              few_letters = (text_small ls fine).1;
              formed = (text_formed ls fine).0;
              started = (text_formed ls fine).1;
              known = (mode-line (mode ls)).0 (text_mode ls fine);
            }

    faultless : Legible text → text_fault text ≡ none
    faultless l =
        let of-board : AllNone (faults (board_in ls) (head ls).start) = (all_none (faults (board_in ls) (head ls).start)).0 ((automaton-line (board_in ls) (head ls).start).1 (l.formed, l.started)) in
        let limits = (fails-line _ _ ProgramLimits (neither program_states (head ls).states program_letters (head ls).letters)).1 (l.few, l.few_letters) in
        let named = (fails_at-line Marks (stray (head ls).states (accepts ls)) _ (length (accepts ls)) (λ a. a, λ a. a)).1 l.ascending in
        let moved = of-board.1.1.1 in
        lines-fault text l.short ∙ (all_none (line_faults ls)).1
        ((form_line ls).1 (l.some, l.placed), (of-board.0, (of-board.1.0, (limits, (named, (moved.0, (moved.1.1.0, (moved.1.1.1.0, ((mode-line (mode ls)).1 l.known, tt)))))))))

module _ (text : List ℕ) (x : Lent) where
  room-line : LineOf (short_fault (lines_of text) x) (Roomy text x)
  room-line = fails-line _ _ OutputLength (neither (length x.marks) (head (lines_of text)).states (length x.moves / 3) (length (moves (lines_of text)) / 3))

  faults-line : LineOf (first_fault (text_fault text ∷ short_fault (lines_of text) x ∷ [])) (Legible text × Roomy text x)
  faults-line = Iff.trans (table-line (text_line text then room-line then end)) (λ h. (h.0, h.1.0), λ h. (h.0, (h.1, tt)))

  pub read-accepted : ((reading text x).answer.number ≡ 0) ↔ (Legible text × Roomy text x)
  unfolding reading
  read-accepted = Iff.trans (does-number (first_fault (text_fault text ∷ short_fault (lines_of text) x ∷ [])) x _ _ _ faults-line (always (held (lines_of text)) refl)) alone

  pub read-refused : (reading text x).answer.number ≢ 0 → Refuses x (reading text x)
  unfolding reading
  read-refused = does-refuse (first_fault (text_fault text ∷ short_fault (lines_of text) x ∷ [])) x _ (λ n. absurd (n refl))
