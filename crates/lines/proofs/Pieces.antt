-- Laws of cutting: the first piece ends at the first byte that parts, and the rest is cut as it stands.
use Rattle.std.proofs.Common.{None, Option, ◌≡◌, refl, sym, ap, ◌∙◌, Bool, true, false, cond, List, [], ◌∷◌, ℕ, suc, ◌+◌, ◌-◌, ◌≤◌, ◌<◌, add-one, arith, ne_eqb, lt-ltb, le-ltb, eqb, ltb, length, take, drop, length-take, length-drop, drop_of_length-le, drop-cons, drop-drop}
use lib.Seq.{take-length}
use Rattle.lines.specs.Search.{slice, index_after, index_of}
use Rattle.fields.proofs.Tests.{by_test}
use Rattle.fields.specs.Bytes.{newline}
use Rattle.lines.specs.declared.line.Line.{Line}
use Rattle.lines.specs.declared.reader.Read.{Read}
use Rattle.lines.specs.Lines.{onto, cut, line_of, lines_in, lines_of}
use Rattle.lines.specs.Reader.{far, read_at}

-- ---- one piece

-- the pieces behind the first, of bytes that begin where it ends
unfoldable pub behind : (b : ℕ) → List ℕ → List (List ℕ)
behind b [] = []
behind b (x ∷ xs) = cut b xs

cut-more : (b x : ℕ) (xs : List ℕ) (t : Bool) → cut b xs ≡ take (index_of b xs) xs ∷ behind b (drop (index_of b xs) xs)
    → cond t ([] ∷ cut b xs) (onto x (cut b xs)) ≡
    take (index_after t (index_of b xs)) (x ∷ xs) ∷ behind b (drop (index_after t (index_of b xs)) (x ∷ xs))
unfolding behind index_after
cut-more b x xs true e = refl
cut-more b x xs false e = ap (onto x) e

pub cut-first : (b : ℕ) (l : List ℕ) → cut b l ≡ take (index_of b l) l ∷ behind b (drop (index_of b l) l)
unfolding cut index_of behind
cut-first b [] = refl
cut-first b (x ∷ xs) = cut-more b x xs (eqb x b) (cut-first b xs)

-- a byte looked for up to the end
pub to_end : (b at : ℕ) (s : List ℕ) → index_of b (slice at (length s) s) ≡ index_of b (drop at s)
unfolding slice
to_end b at s = simp take-length

-- the first piece from a place on, when the byte that parts was looked for and found at e
module _ (b at e : ℕ) (s : List ℕ) (f : e ≡ at + index_of b (slice at (length s) s)) where
  piece : cut b (drop at s) ≡ take (e - at) (drop at s) ∷ behind b (drop e s)
  piece =
      let i : index_of b (drop at s) ≡ e - at = omega (arith, to_end b at s) in
      let past : at + (e - at) ≡ e = omega arith in
      let rest : drop (e - at) (drop at s) ≡ drop e s = drop-drop (e - at) at s ∙ ap (λ (n : ℕ). drop n s) past in
      cut-first b (drop at s) ∙ simp (i, rest)

  pub cut_last : length s ≤ e → cut b (drop at s) ≡ take (e - at) (drop at s) ∷ []
  unfolding behind
  cut_last h = piece ∙ simp (drop_of_length-le s {i = e} h)

  pub cut-next : e < length s → cut b (drop at s) ≡ take (e - at) (drop at s) ∷ cut b (drop (e + 1) s)
  unfolding behind
  cut-next h = piece ∙ simp (drop-cons s e 0 h, add-one)

-- ---- the lines of a text

lines-first : (p xs : List ℕ) → lines_in (p ∷ cut newline xs) ≡ line_of p ∷ lines_in (cut newline xs)
unfolding lines_in
lines-first p xs = rw (cut-first newline xs) refl

module _ (s : List ℕ) (at : ℕ) where
  pub read-ended : at + far s at < length s → read_at s at ≡ record { line = line_of (take (far s at) (drop at s)); past = suc (at + far s at) }
  unfolding read_at
  read-ended h = simp (lt-ltb _ _ h)

  pub read_open : length s ≤ at + far s at → read_at s at ≡ record { line = None; past = length s }
  unfolding read_at
  read_open h = simp (le-ltb _ _ h)

  far_found : at + far s at ≡ at + index_of newline (slice at (length s) s)
  far_found = ap (λ (i : ℕ). at + i) (sym (to_end newline at s))

  lines-ended : at + far s at < length s → lines_of (drop at s) ≡ line_of (take (far s at) (drop at s)) ∷ lines_of (drop (suc (at + far s at)) s)
  unfolding lines_of
  lines-ended h =
      let wide : at + far s at - at ≡ far s at = omega arith in
      ap lines_in (cut-next newline at (at + far s at) s far_found h ∙ simp (wide, add-one)) ∙
      lines-first (take (far s at) (drop at s)) (drop (suc (at + far s at)) s)

  lines_open : at < length s → length s ≤ at + far s at → lines_of (drop at s) ≡ None ∷ []
  unfolding lines_of lines_in
  lines_open some h =
      let wide : length (take (at + far s at - at) (drop at s)) ≡ length s - at = simp (length-take, length-drop) (omega arith) in
      let more : eqb (length s - at) 0 ≡ false = ne_eqb (length s - at) 0 (λ none. omega arith) in
      simp (cut_last newline at (at + far s at) s far_found h, wide, more)

pub lines_end : (s : List ℕ) (at : ℕ) → length s ≤ at → lines_of (drop at s) ≡ []
unfolding lines_of lines_in cut
lines_end s at h = simp (drop_of_length-le s {i = at} h)

-- a newline ends the line at a place, or the line goes on to the end
by-newline : {A : Type 0} (s : List ℕ) (at : ℕ) → (at + far s at < length s → A) → (length s ≤ at + far s at → A) → A
by-newline s at = by_test (at + far s at) (length s) (ltb (at + far s at) (length s)) refl

pub lines_next : (s : List ℕ) (at : ℕ) → at < length s → lines_of (drop at s) ≡ (read_at s at).line ∷ lines_of (drop (read_at s at).past s)
lines_next s at some =
    by-newline s at
    (λ h. lines-ended s at h ∙ ap (λ (r : Read). r.line ∷ lines_of (drop r.past s)) (sym (read-ended s at h)))
    (λ h.
    lines_open s at some h ∙
    ap (λ (ls : List (Option Line)). None ∷ ls) (sym (lines_end s (length s) (omega arith))) ∙
    ap (λ (r : Read). r.line ∷ lines_of (drop r.past s)) (sym (read_open s at h)))

pub past_more : (s : List ℕ) (at : ℕ) → at < length s → at < (read_at s at).past
past_more s at some =
    by-newline s at
    (λ h. omega (arith, ap (λ (r : Read). r.past) (read-ended s at h)))
    (λ h. omega (arith, ap (λ (r : Read). r.past) (read_open s at h)))

pub past-most : (s : List ℕ) (at : ℕ) → (read_at s at).past ≤ length s
past-most s at =
    by-newline s at
    (λ h. omega (arith, ap (λ (r : Read). r.past) (read-ended s at h)))
    (λ h. omega (arith, ap (λ (r : Read). r.past) (read_open s at h)))
