-- The place that `read` answers lies in the text or at its end.
use Rattle.std.proofs.Common.{refl, ap, ◌||◌, List, [], ◌∷◌, ℕ, ◌≤◌, arith, ltb, leb, length}
use Rattle.automaton.specs.declared.Refusal.{Refusal}
use Rattle.automaton.specs.declared.Refusal.TheVariants.{States, Letters, Start, OutputLength, ProgramLimits}
use Rattle.automaton.specs.Answer.{Answer, place_of, Fault, none, fault, first_fault}
use Rattle.automaton.specs.Answer as answer
use Rattle.automaton.specs.Effect.{Effect, does}
use Rattle.automaton.specs.Limits.{most_states, most_letters}
use Rattle.automaton.proofs.Fault.{UpTo, fails-to, table_to}
use Rattle.tokens.specs.Tokens.{token_from}
use Rattle.headers.proofs.Reach as header
use Rattle.bodies.proofs.Reach as body
use Rattle.text.specs.Calls.{Lent}
use Rattle.hanoi.specs.declared.Limits.{Limits}
use Rattle.hanoi.specs.Calls.{judgements, short_fault, reading, Reads, too_long, read}
use Rattle.hanoi.specs.File.{File, letters_in, moves_in}
use Rattle.hanoi.specs.Reading.{whole, refused, Comes, in_header, in_body}

-- a token that cannot stand there begins in the text, or is its end
pub comes_within : (text : List ℕ) {r : Refusal} → Comes (token_from text) (refused r) → place_of r ≤ length text
comes_within text (in_header w) = header.refused-within text w
comes_within text (in_body w v) = body.refused-within text v (header.held-within text w)

-- the refusals behind it name no place
module _ (b : Limits) (f : File) where
  pub judged_to : UpTo place_of 0 (first_fault (judgements b f))
  judged_to =
      let n = f.header.states in
      let k = letters_in f in
      table_to place_of 0 (judgements b f) (
        fails-to place_of 0 (ltb n 1 || ltb most_states n) States (omega arith),
        (
          fails-to place_of 0 (ltb k 1 || ltb most_letters k) Letters (omega arith),
          (
            fails-to place_of 0 (ltb b.states n || ltb b.letters k) ProgramLimits (omega arith),
            (fails-to place_of 0 (leb n f.header.start) Start (omega arith), tt),
          ),
        ),
      )

module _ (b : Limits) (f : File) (x : Lent) where
  faults-to : UpTo place_of 0 (first_fault (first_fault (judgements b f) ∷ short_fault f x ∷ []))
  faults-to =
      table_to place_of 0 (first_fault (judgements b f) ∷ short_fault f x ∷ [])
      (judged_to b f, (fails-to place_of 0 (ltb (length x.marks) f.header.states || ltb (length x.moves) (length (moves_in f))) OutputLength (omega arith), tt))

  reading-to : (reading b (whole f) x).answer.place ≤ 0
  unfolding reading
  reading-to = go (first_fault (first_fault (judgements b f) ∷ short_fault f x ∷ [])) faults-to _ (omega arith)
    where
      go : (g : Fault) → UpTo place_of 0 g → (e : Effect Lent) → e.answer.place ≤ 0 → (does g x e).answer.place ≤ 0
      go none u e h = h
      go (fault r) u e h = u r refl

pub answer-within : {text : List ℕ} {b : Limits} {x : Lent} {a : Answer} {l : Lent} → Reads text b x a l → a.place ≤ length text
unfolding reading
answer-within (too_long h e d) = omega (arith, ap (λ (y : Answer). y.place) e)
answer-within {text = text} (read {o = refused r} h w e d) = omega (arith, ap (λ (y : Answer). y.place) e, comes_within text w)
answer-within {b = b} {x = x} (read {o = whole f} h w e d) = omega (arith, ap (λ (y : Answer). y.place) e, reading-to b f x)

pub place-within : {text : List ℕ} {b : Limits} {x : Lent} {l : Lent} (r : Refusal) → Reads text b x (answer.refused r) l → place_of r ≤ length text
place-within r R = answer-within R
