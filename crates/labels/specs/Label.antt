-- "A label is `t`, `f`, a proposition number, `!`, `&`, `|` and brackets": labels, what they mean, and how they are written.
use Rattle.std.specs.Prelude.{◌≡◌, Bool, true, false, ◌&&◌, ◌||◌, not as flip, ℕ, ◌+◌, ◌/◌, ◌%◌, ◌^◌, ◌<◌, eqb}
use Rattle.tokens.specs.declared.Token.{Token}
use Rattle.tokens.specs.Here.{Here, Number}
use Rattle.tokens.specs.declared.Sort.TheVariants as sort

-- ---- meaning

pub data Label : Type 0 where
  always : Label
  never : Label
  prop : ℕ → Label
  not : Label → Label
  both : Label → Label → Label
  either : Label → Label → Label

-- "The letter is the number whose bit i tells proposition i."
abbrev pub tells : (letter i : ℕ) → Bool
tells a i = eqb (a / 2 ^ i % 2) 1

-- does a letter make a label true?
unfoldable pub holds : Label → (letter : ℕ) → Bool
holds always a = true
holds never a = false
holds (prop i) a = tells a i
holds (not l) a = flip (holds l a)
holds (both l m) a = holds l a && holds m a
holds (either l m) a = holds l a || holds m a

-- ---- grammar

-- "binding is as the format says": a unit binds most, then units joined by `&`, then those joined by `|`
pub data Level : Type 0 where
  unit : Level
  chain : Level
  whole : Level

-- From i to j stands a label, of p propositions and with brackets nested d deep at most. T gives the token at or after a place.
pub data Is (T : ℕ → Token) (p : ℕ) : Level → (d i : ℕ) → Label → (j : ℕ) → Type 0 where
  is_true : {d i j : ℕ} → Here T i sort.True j → Is T p unit d i always j
  is_false : {d i j : ℕ} → Here T i sort.False j → Is T p unit d i never j
  is_prop : {d i j v : ℕ} → Number T i v j → v < p → Is T p unit d i (prop v) j
  is_not : {d i h j : ℕ} {l : Label} → Here T i sort.Not h → Is T p unit d h l j → Is T p unit d i (not l) j
  -- "the bracketed label being a label again, nested 16 deep at most"
  is_group : {d e i g h j : ℕ} {l : Label} → e + 1 ≡ d → Here T i sort.Group g → Is T p whole e g l h → Here T h sort.GroupEnd j → Is T p unit d i l j
  is_unit : {d i j : ℕ} {l : Label} → Is T p unit d i l j → Is T p chain d i l j
  is_and : {d i g h j : ℕ} {l m : Label} → Is T p unit d i l g → Here T g sort.And h → Is T p chain d h m j → Is T p chain d i (both l m) j
  is_chain : {d i j : ℕ} {l : Label} → Is T p chain d i l j → Is T p whole d i l j
  is_or : {d i g h j : ℕ} {l m : Label} → Is T p chain d i l g → Here T g sort.Or h → Is T p whole d h m j → Is T p whole d i (either l m) j

-- "nested 16 deep at most"
abbrev pub deepest : ℕ
deepest = 16

-- A label and the `]` that ends it, from i to j.
pub record Labelled (T : ℕ → Token) (p i : ℕ) (l : Label) (j : ℕ) : Type 0 where
  pub end : ℕ
  pub is : Is T p whole deepest i l end
  pub ended : Here T end sort.LabelEnd j
