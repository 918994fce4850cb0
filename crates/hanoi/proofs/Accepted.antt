-- When `read` accepts: a text of the grammar within the limits, and room for its marks and moves. What it then gives, and what a refused call leaves.
use Rattle.std.proofs.Common.{◌≡◌, refl, sym, ap, ◌∙◌, ◌≢◌, ◌↔◌, List, [], ◌∷◌, ℕ, ◌≤◌, ◌<◌, arith, leb-false, length}
use mathlib.Core.Logic.Iff
use Rattle.std.proofs.lemmas.Bool.{lt-leb}
use Rattle.automaton.specs.declared.Refusal.{Refusal}
use Rattle.automaton.specs.declared.Refusal.TheVariants.{Start, OutputLength, ProgramLimits, TooLong}
use Rattle.automaton.specs.Answer.{Answer, Fault, first_fault}
use Rattle.automaton.specs.Answer as answer
use Rattle.automaton.specs.Board.{Formed}
use Rattle.automaton.specs.Effect.{Effect, does}
use Rattle.automaton.specs.Limits.{most_states, most_letters}
use Rattle.automaton.proofs.Effects.{both, does-number, does-refuse, always}
use Rattle.automaton.proofs.Fault.{Line, refusal_numbered, fails-line, ◌then◌, end, table-line}
use Rattle.automaton.proofs.Sound.{states-line, letters-line}
use Rattle.tokens.specs.Tokens.{token_from}
use Rattle.headers.specs.Header.{most_props}
use Rattle.headers.proofs.Exact.{header_read}
use Rattle.headers.proofs.Reach.{few-props}
use Rattle.text.specs.Calls.{Lent, lent_of, before}
use Rattle.text.proofs.Sound.{neither}
use Rattle.hanoi.specs.declared.Limits.{Limits}
use Rattle.hanoi.specs.Calls.{judgements, short_fault, held, reading, Reads, too_long, read, Legible, Roomy}
use Rattle.hanoi.specs.File.{File, letters_in, marks_in, moves_in, board_in}
use Rattle.hanoi.specs.Reading.{Outcome, whole, refused}
use Rattle.hanoi.proofs.Exact.{comes_file}
use Rattle.hanoi.proofs.Formed.{letters-some, letters-few, board-formed}
use Rattle.hanoi.proofs.One.{comes_one}

-- ---- a file that was read

module _ (b : Limits) (f : File) where
  -- none of its numbers is refused
  abbrev pub Judged : Type 0
  Judged =
      ((0 < f.header.states) × (f.header.states ≤ most_states))
      × ((0 < letters_in f) × (letters_in f ≤ most_letters))
      × ((f.header.states ≤ b.states) × (letters_in f ≤ b.letters))
      × (f.header.start < f.header.states)

  pub judged_line : Line (first_fault (judgements b f)) Judged
  judged_line =
      let n = f.header.states in
      let start = f.header.start in
      let table =
      states-line n then
      letters-line (letters_in f) then
      fails-line _ _ ProgramLimits (neither b.states n b.letters (letters_in f)) then
      fails-line _ _ Start (leb-false n start, lt-leb n start) then
      end in
      Iff.trans (table-line table) (λ h. (h.0, h.1.0, h.1.1.0, h.1.1.1.0), λ h. (h.0, (h.1, (h.2, (h.3, tt)))))

  module _ (x : Lent) where
    -- what an accepted call answers and leaves
    abbrev pub done : Effect Lent
    done = record { answer = held f; left = lent_of (before (marks_in f) x.marks) (before (moves_in f) x.moves) }

    abbrev faults : Fault
    faults = first_fault (first_fault (judgements b f) ∷ short_fault f x ∷ [])

    faults-line : Line faults (Judged × Roomy f x)
    faults-line =
        let room = fails-line _ _ OutputLength (neither (length x.marks) f.header.states (length x.moves) (length (moves_in f))) in
        Iff.trans (table-line (judged_line then room then end)) (λ h. (h.0, h.1.0), λ h. (h.0, (h.1, tt)))

    pub reading-done : Judged → Roomy f x → reading b (whole f) x ≡ done
    unfolding reading
    reading-done j r = ap (λ (g : Fault). does g x done) (faults-line.1 (j, r))

    reading-accepted : (reading b (whole f) x).answer.number ≡ 0 → Judged × Roomy f x
    unfolding reading
    reading-accepted z = ((does-number faults x done _ _ faults-line (always (held f) refl)).0 z).0

    reading-refused : (reading b (whole f) x).answer.number ≢ 0 → (r : Refusal) × (reading b (whole f) x ≡ record { answer = answer.refused r; left = x })
    unfolding reading
    reading-refused = does-refuse faults x done (λ n. absurd (n refl))

-- ---- the call

module _ {text : List ℕ} {b : Limits} {f : File} (L : Legible text b f) where
  -- a header has no more than four propositions
  legible_props : f.header.props ≤ most_props
  legible_props = few-props (token_from text) (header_read (token_from text) L.is_file.header_is)

  pub legible_judged : Judged b f
  legible_judged = ((L.some, L.few), (letters-some f, letters-few f legible_props), (L.states_within, L.letters_within), L.started)

  -- the automaton of a legible text is well formed
  pub legible_formed : Formed (board_in f)
  legible_formed = board-formed f L.some L.few legible_props

module _ {text : List ℕ} {b : Limits} {x : Lent} {a : Answer} {l : Lent} where
  -- the automaton of the file, its marks and its moves
  pub read-gives : {f : File} → Reads text b x a l → Legible text b f → Roomy f x → (a ≡ held f) × (l ≡ lent_of (before (marks_in f) x.marks) (before (moves_in f) x.moves))
  read-gives (too_long h e d) L R = absurd (omega (arith, L.short))
  read-gives {f = f} (read h w e d) L R =
      let p = ap (λ (o : Outcome). reading b o x) (comes_one w (comes_file.1 L.is_file)) ∙ reading-done b f x (legible_judged L) R in
      (e ∙ (both p).0, d ∙ (both p).1)

  accepts : Reads text b x a l → a.number ≡ 0 → (f : File) × Legible text b f × Roomy f x
  unfolding reading
  accepts (too_long h e d) z = absurd (omega (arith, ap (λ (y : Answer). y.number) e))
  accepts (read {o = refused r} h w e d) z = absurd (omega (arith, ap (λ (y : Answer). y.number) e, (refusal_numbered r).0))
  accepts (read {o = whole f} h w e d) z =
      let (j, r) = reading-accepted b f x (sym (ap (λ (y : Answer). y.number) e) ∙ z) in
      let L : Legible text b f = record {
        short = h;
        is_file = comes_file.0 w;
        some = j.0.0;
        few = j.0.1;
        states_within = j.2.0;
        letters_within = j.2.1;
        started = j.3;
      } in
      (f, L, r)

  -- exactly the texts of the grammar within the limits are accepted, where there is room
  pub read-accepted : Reads text b x a l → (a.number ≡ 0) ↔ ((f : File) × Legible text b f × Roomy f x)
  read-accepted R = (accepts R, λ h. ap (λ (y : Answer). y.number) (read-gives R h.1 h.2).0)

  -- a refused call writes nothing
  pub read-refused : Reads text b x a l → a.number ≢ 0 → (r : Refusal) × (a ≡ answer.refused r) × (l ≡ x)
  unfolding reading
  read-refused (too_long h e d) n = (TooLong, e, d)
  read-refused (read {o = refused r} h w e d) n = (r, e, d)
  read-refused (read {o = whole f} h w e d) n =
      let (r, p) = reading-refused b f x (λ z. n (ap (λ (y : Answer). y.number) e ∙ z)) in
      (r, e ∙ (both p).0, d ∙ (both p).1)
