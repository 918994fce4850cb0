-- "Lines end in a newline; fields are parted by tabs": the lines of a text, and what each says.
use Rattle.std.specs.Prelude.{cond, List, [], ◌∷◌, ℕ, eqb, length, Option, Some, None, option_and_then, bytes_eq}
use Rattle.fields.specs.Bytes.{bytes_of, newline, tab}
use Rattle.fields.specs.Numbers.{number_of}
use Rattle.lines.specs.declared.line.Word.{Word}
use Rattle.lines.specs.declared.line.Word.TheVariants as word
use Rattle.lines.specs.declared.line.Line.{Line}
use Rattle.lines.specs.declared.line.Line.TheVariants as line

-- ---- bytes cut into pieces

-- a byte before the first piece
abbrev pub onto : ℕ → List (List ℕ) → List (List ℕ)
onto x [] = (x ∷ []) ∷ []
onto x (p ∷ ps) = (x ∷ p) ∷ ps

-- bytes cut at each b: one piece more than there are b's
unfoldable pub cut : (b : ℕ) → List ℕ → List (List ℕ)
cut b [] = [] ∷ []
cut b (x ∷ xs) = cond (eqb x b) ([] ∷ cut b xs) (onto x (cut b xs))

-- ---- a line

-- the fields behind the first: those of what stands behind a tab, or none
abbrev pub fields_of : (rest : Option (List ℕ)) → List (List ℕ)
fields_of None = []
fields_of (Some rest) = cut tab rest

-- the word that a field is: `automaton`, `mode`, `accept` or `move`
unfoldable pub word_of : (field : List ℕ) → Option Word
word_of f =
    cond (bytes_eq f (bytes_of "automaton")) (Some word.Automaton)
    (cond (bytes_eq f (bytes_of "mode")) (Some word.Mode)
    (cond (bytes_eq f (bytes_of "accept")) (Some word.Accept)
    (cond (bytes_eq f (bytes_of "move")) (Some word.Move)
    None)))

-- "`mode`, m"; "`accept`, q"
abbrev pub one : Word → (x : ℕ) → Option Line
one word.Automaton x = None
one word.Mode m = Some (line.Mode m)
one word.Accept q = Some (line.Accept q)
one word.Move x = None

-- "`automaton`, n, k, start"; "`move`, from, letter, to"
abbrev pub three : Word → (x y z : ℕ) → Option Line
three word.Automaton x y z = Some (line.Automaton x y z)
three word.Mode x y z = None
three word.Accept x y z = None
three word.Move x y z = Some (line.Move x y z)

-- what follows from a word and the numbers of fields, if they are a word and numbers
abbrev pub worded : (w : List ℕ) → (Word → Option Line) → Option Line
worded w f = option_and_then f (word_of w)

abbrev pub numbered : (x : List ℕ) → (ℕ → Option Line) → Option Line
numbered x f = option_and_then f (number_of x)

-- what a line says, by its fields: none if it has no form that a line may have
unfoldable pub meaning : (fields : List (List ℕ)) → Option Line
meaning [] = None
meaning (w ∷ []) = None
meaning (w ∷ x ∷ []) = worded w (λ v. numbered x (one v))
meaning (w ∷ x ∷ y ∷ []) = None
meaning (w ∷ x ∷ y ∷ z ∷ []) = worded w (λ v. numbered x (λ a. numbered y (λ b. numbered z (three v a b))))
meaning (w ∷ x ∷ y ∷ z ∷ f ∷ fs) = None

abbrev pub line_of : (bytes : List ℕ) → Option Line
line_of bytes = meaning (cut tab bytes)

-- ---- the lines of a text

-- The last piece is what follows the last newline: nothing, or a line that is not ended and so has no form.
unfoldable pub lines_in : (pieces : List (List ℕ)) → List (Option Line)
lines_in [] = []
lines_in (p ∷ []) = cond (eqb (length p) 0) [] (None ∷ [])
lines_in (p ∷ p' ∷ ps) = line_of p ∷ lines_in (p' ∷ ps)

unfoldable pub lines_of : (text : List ℕ) → List (Option Line)
lines_of text = lines_in (cut newline text)
