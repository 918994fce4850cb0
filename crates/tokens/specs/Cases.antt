-- Tokens worked out: at or after a place of a text, the sort, the first byte and the place behind it.
use Rattle.std.specs.Prelude.{◌≡◌, List, [], ◌∷◌, ℕ}
use Prim.Native.String.{String}
use Rattle.fields.specs.Bytes.{bytes_of}
use Rattle.tokens.specs.declared.Sort.{Sort}
use Rattle.tokens.specs.declared.Sort.TheVariants as sort
use Rattle.tokens.specs.Tokens.{token_from}

pub data Case : Type 0 where
  stands : (text : String) → (from : ℕ) → Sort → (at next : ℕ) → Case

abbrev pub Holds : Case → Type 0
Holds (stands text i k at next) = token_from (bytes_of text) i ≡ record { sort = k; at = at; next = next }

abbrev pub AllHold : List Case → Type 0
AllHold [] = Unit {0}
AllHold (c ∷ cs) = Holds c × AllHold cs

abbrev pub cases : List Case
cases =
    -- header words, with their colons, and words
    stands "HOA: v1" 0 sort.Hoa 0 4
    ∷ stands "HOA: v1" 4 sort.Version 5 7
    ∷ stands "States:2" 0 sort.States 0 7
    ∷ stands "State: 2" 0 sort.State 0 6
    ∷ stands "acc-name: Buchi" 0 sort.Minor 0 9
    ∷ stands "acc-name: Buchi" 9 sort.Name 10 15
    ∷ stands "Alias: @a" 0 sort.Wrong 0 6
    ∷ stands "Alias: @a" 6 sort.Wrong 7 8
    ∷ stands "_x:" 0 sort.Wrong 0 3
    ∷ stands "Start :0" 0 sort.Name 0 5
    ∷ stands "t&f" 0 sort.True 0 1
    ∷ stands "t&f" 1 sort.And 1 2
    ∷ stands "t1" 0 sort.Name 0 2
    -- numbers: no zero before another digit, at most 65535
    ∷ stands "65535]" 0 (sort.Number 65535) 0 5
    ∷ stands "65536" 0 sort.Wrong 0 0
    ∷ stands "0" 0 (sort.Number 0) 0 1
    ∷ stands "01" 0 sort.Wrong 0 0
    -- comments nest; one that does not end is refused at the length
    ∷ stands "/* a /* b */ c */ t" 0 sort.True 18 19
    ∷ stands "/* a /* b */ t" 0 sort.Wrong 14 14
    ∷ stands "/*/ t" 0 sort.Wrong 5 5
    ∷ stands " /**/ " 0 sort.Nothing 6 6
    -- texts in quotes; one that does not end is refused at its quote
    ∷ stands " \"a\\\"b\"c" 0 sort.Quoted 1 7
    ∷ stands "\"a\\\"" 0 sort.Wrong 0 0
    -- `--BODY--`, `--END--` and nothing like them
    ∷ stands "--BODY--" 0 sort.Body 0 8
    ∷ stands "--END--1" 0 sort.End 0 7
    ∷ stands "--END-" 0 sort.Wrong 0 0
    ∷ stands "--ABORT--" 0 sort.Wrong 0 0
    ∷ []
