-- The tokens of a Hanoi file: white space and comments, and what stands at or after a place.
use Rattle.std.specs.Prelude.{Bool, cond, ◌&&◌, ◌||◌, List, [], ◌∷◌, ℕ, zero, suc, ◌+◌, ◌-◌, eqb, ltb, leb, length, drop, take, get_or, Option, Some, None, bytes_eq}
use Rattle.std.specs.List.{prefix_len}
use Rattle.fields.specs.Bytes.{bytes_of}
use Rattle.fields.specs.Numbers.{number_of}
use Rattle.tokens.specs.declared.Token.{Token}
use Rattle.tokens.specs.declared.Sort.{Sort}
use Rattle.tokens.specs.declared.Sort.TheVariants as sort

-- ---- bytes

-- white space: space, tab, newline, carriage return
abbrev pub blank : ℕ → Bool
blank b = eqb b 32 || (eqb b 9 || (eqb b 10 || eqb b 13))

-- 0 to 9
abbrev pub digit : ℕ → Bool
digit b = ltb 47 b && ltb b 58

-- a to z
abbrev pub lower : ℕ → Bool
lower b = ltb 96 b && ltb b 123

-- what a word begins with: a letter or _
abbrev pub letter : ℕ → Bool
letter b = lower b || ((ltb 64 b && ltb b 91) || eqb b 95)

-- what goes on a word: also digits and -
abbrev pub wordly : ℕ → Bool
wordly b = letter b || (digit b || eqb b 45)

-- `/*` and `*/`
abbrev pub opens : (a b : ℕ) → Bool
opens a b = eqb a 47 && eqb b 42

abbrev pub shuts : (a b : ℕ) → Bool
shuts a b = eqb a 42 && eqb b 47

-- the bytes from one place to another
abbrev pub piece : (text : List ℕ) → (i j : ℕ) → List ℕ
piece s i j = take (j - i) (drop i s)

-- ---- between tokens

-- Where white space and comments end, from place i on and inside c comments; comments nest. None if the text ends inside one.
unfoldable pub gap : List ℕ → (c i : ℕ) → Option ℕ
gap [] zero i = Some i
gap [] (suc c) i = None
gap (a ∷ []) zero i = Some (cond (blank a) (i + 1) i)
gap (a ∷ []) (suc c) i = None
gap (a ∷ b ∷ bs) zero i =
    cond (opens a b) (gap bs 1 (i + 2))
    (cond (blank a) (gap (b ∷ bs) 0 (i + 1))
    (Some i))
gap (a ∷ b ∷ bs) (suc c) i =
    cond (opens a b) (gap bs (suc (suc c)) (i + 2))
    (cond (shuts a b) (gap bs c (i + 2))
    (gap (b ∷ bs) (suc c) (i + 1)))

-- ---- how far a token goes

-- the place behind the bytes of one kind that follow place i
abbrev pub past : (ℕ → Bool) → (text : List ℕ) → (i : ℕ) → ℕ
past p s i = i + prefix_len p (drop i s)

-- The place behind the quote that ends a text, whose inside follows place i; a byte behind a backslash ends nothing. None if no quote does.
unfoldable pub unquoted : List ℕ → (i : ℕ) → Option ℕ
unquoted [] i = None
unquoted (a ∷ []) i = cond (eqb a 34) (Some (i + 1)) None
unquoted (a ∷ b ∷ bs) i =
    cond (eqb a 34) (Some (i + 1))
    (cond (eqb a 92) (unquoted bs (i + 2))
    (unquoted (b ∷ bs) (i + 1)))

-- ---- what a token is

-- of a word that no colon follows
abbrev pub word_sort : (word : List ℕ) → Sort
word_sort w =
    cond (bytes_eq w (bytes_of "t")) sort.True
    (cond (bytes_eq w (bytes_of "f")) sort.False
    (cond (bytes_eq w (bytes_of "v1")) sort.Version
    (cond (bytes_eq w (bytes_of "Inf")) sort.Inf
    sort.Name)))

-- of a word that a colon follows
abbrev pub head_sort : (word : List ℕ) → Sort
head_sort w =
    cond (bytes_eq w (bytes_of "HOA")) sort.Hoa
    (cond (bytes_eq w (bytes_of "States")) sort.States
    (cond (bytes_eq w (bytes_of "Start")) sort.Start
    (cond (bytes_eq w (bytes_of "AP")) sort.Ap
    (cond (bytes_eq w (bytes_of "Acceptance")) sort.Acceptance
    (cond (bytes_eq w (bytes_of "State")) sort.State
    (cond (lower (get_or w 0 0)) sort.Minor
    sort.Wrong))))))

-- of a byte that begins no number, word, text or dashes
abbrev pub sign_sort : (byte : ℕ) → Sort
sign_sort b =
    cond (eqb b 33) sort.Not
    (cond (eqb b 38) sort.And
    (cond (eqb b 124) sort.Or
    (cond (eqb b 40) sort.Group
    (cond (eqb b 41) sort.GroupEnd
    (cond (eqb b 91) sort.Label
    (cond (eqb b 93) sort.LabelEnd
    (cond (eqb b 123) sort.Marks
    (cond (eqb b 125) sort.MarksEnd
    sort.Wrong))))))))

-- ---- the token

-- a token of a sort
abbrev pub sorted : Sort → (at next : ℕ) → Token
sorted k i j = record { sort = k; at = i; next = j }

-- nothing that may stand at i
abbrev pub wrong_at : (at : ℕ) → Token
wrong_at i = sorted sort.Wrong i i

-- digits from i to j
abbrev pub numeral : Option ℕ → (i j : ℕ) → Token
numeral (Some v) i j = sorted (sort.Number v) i j
numeral None i j = wrong_at i

-- a word from i to j, or a header word with its colon at j
abbrev pub worded : (text : List ℕ) → (i j : ℕ) → Token
worded s i j =
    cond (eqb (get_or s j 0) 58) (sorted (head_sort (piece s i j)) i (j + 1))
    (sorted (word_sort (piece s i j)) i j)

-- a text in quotes, by the place behind its end
abbrev pub quoted_to : (i : ℕ) → Option ℕ → Token
quoted_to i (Some j) = sorted sort.Quoted i j
quoted_to i None = wrong_at i

-- do these bytes stand at i?
abbrev pub begins : (text : List ℕ) → (i : ℕ) → (bytes : List ℕ) → Bool
begins s i bs = bytes_eq bs (take (length bs) (drop i s))

-- `--BODY--` or `--END--` at i
abbrev pub dashed : (text : List ℕ) → (i : ℕ) → Token
dashed s i =
    cond (begins s i (bytes_of "--BODY--")) (sorted sort.Body i (i + 8))
    (cond (begins s i (bytes_of "--END--")) (sorted sort.End i (i + 7))
    (wrong_at i))

-- the token whose first byte is at i
unfoldable pub token_at : (text : List ℕ) → (i : ℕ) → Token
token_at s i =
    cond (leb (length s) i) (sorted sort.Nothing i i)
    (cond (digit (get_or s i 0)) (numeral (number_of (piece s i (past digit s i))) i (past digit s i))
    (cond (letter (get_or s i 0)) (worded s i (past wordly s i))
    (cond (eqb (get_or s i 0) 34) (quoted_to i (unquoted (drop (i + 1) s) (i + 1)))
    (cond (eqb (get_or s i 0) 45) (dashed s i)
    (sorted (sign_sort (get_or s i 0)) i (i + 1))))))

-- past white space and comments; a comment left open ends the text, and nothing may stand there
abbrev pub behind : (text : List ℕ) → Option ℕ → Token
behind s (Some i) = token_at s i
behind s None = wrong_at (length s)

-- the token at or after i
unfoldable pub token_from : (text : List ℕ) → (i : ℕ) → Token
token_from s i = behind s (gap (drop i s) 0 i)
