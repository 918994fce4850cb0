-- The header of a Hanoi file as the format writes it: `HOA: v1`, then headers in any order, then `--BODY--`.
use Rattle.std.specs.Prelude.{◌≡◌, true, false, ℕ, zero, suc, ◌≤◌, Some, None, is_some}
use Rattle.std.specs.Option.{unwrap_or}
use Rattle.tokens.specs.declared.Token.{Token}
use Rattle.tokens.specs.declared.Sort.TheVariants as sort
use Rattle.tokens.specs.Sorts as sorts
use Rattle.tokens.specs.Here.{Here, Number}
use Rattle.headers.specs.declared.Header.{Header}
use Rattle.headers.specs.declared.Said.{Said}

-- what a header has said that has said nothing yet
abbrev pub unsaid : Said
unsaid = record { states = None; start = None; props = None; accepting = false }

-- the same with one thing more
abbrev pub with_states : Said → (n : ℕ) → Said
with_states s n = record s { states = Some n }

abbrev pub with_start : Said → (q : ℕ) → Said
with_start s q = record s { start = Some q }

abbrev pub with_props : Said → (p : ℕ) → Said
with_props s p = record s { props = Some p }

abbrev pub with_acceptance : Said → Said
with_acceptance s = record s { accepting = true }

-- "at most four propositions"
abbrev pub most_props : ℕ
most_props = 4

-- "`States:`, one `Start:`, `Acceptance: 1 Inf(0)`": all that is required was said, and so the header says h, with whether `AP:` stood; without it there are no propositions
pub record Whole (s : Said) (h : Header) : Type 0 where
  pub states : s.states ≡ Some h.states
  pub start : s.start ≡ Some h.start
  pub props : unwrap_or s.props 0 ≡ h.props
  pub named : is_some s.props ≡ h.named
  pub acceptance : s.accepting ≡ true

module _ (T : ℕ → Token) where
  -- c names in quotes stand from i to j
  pub data Names : (c i j : ℕ) → Type 0 where
    no_name : {i : ℕ} → Names zero i i
    name : {c i h j : ℕ} → Here T i sort.Quoted h → Names c h j → Names (suc c) i j

  -- a value of a header that is skipped: a number, a text in quotes, a word
  pub record Value (i j : ℕ) : Type 0 where
    pub plain : sorts.plain (T i).sort ≡ true
    pub next : (T i).next ≡ j

  pub data Values : (i j : ℕ) → Type 0 where
    no_value : {i : ℕ} → Values i i
    value : {i h j : ℕ} → Value i h → Values h j → Values i j

  -- `1 Inf(0)` from i to j
  pub record Acceptance (i j : ℕ) : Type 0 where
    pub after-sets : ℕ
    pub after-inf : ℕ
    pub after_open : ℕ
    pub after-zero : ℕ
    pub sets : Number T i 1 after-sets
    pub inf : Here T after-sets sort.Inf after-inf
    pub opens : Here T after-inf sort.Group after_open
    pub zero : Number T after_open 0 after-zero
    pub closes : Here T after-zero sort.GroupEnd j

  -- One header from i to j makes t of what was said before it. Each of the four that are read may stand once; the names of propositions are skipped,
  -- and so is a header whose word begins with a lower-case letter, with its values.
  pub data Item : Said → (i : ℕ) → Said → (j : ℕ) → Type 0 where
    states : {s : Said} {i g j n : ℕ} → s.states ≡ None → Here T i sort.States g → Number T g n j → Item s i (with_states s n) j
    start : {s : Said} {i g j q : ℕ} → s.start ≡ None → Here T i sort.Start g → Number T g q j → Item s i (with_start s q) j
    props : {s : Said} {i g f j p : ℕ} → s.props ≡ None → Here T i sort.Ap g → Number T g p f → p ≤ most_props → Names p f j → Item s i (with_props s p) j
    acceptance : {s : Said} {i g j : ℕ} → s.accepting ≡ false → Here T i sort.Acceptance g → Acceptance g j → Item s i (with_acceptance s) j
    skipped : {s : Said} {i g j : ℕ} → Here T i sort.Minor g → Values g j → Item s i s j

  pub data Items : Said → (i : ℕ) → Said → (j : ℕ) → Type 0 where
    no_item : {s : Said} {i : ℕ} → Items s i s i
    item : {s t u : Said} {i g j : ℕ} → Item s i t g → Items t g u j → Items s i u j

  -- The whole header says h, and j is behind `--BODY--`.
  pub record IsHeader (h : Header) (j : ℕ) : Type 0 where
    pub after-format : ℕ
    pub after-version : ℕ
    pub after_items : ℕ
    pub said : Said
    pub format : Here T 0 sort.Hoa after-format
    pub version : Here T after-format sort.Version after-version
    pub items : Items unsaid after-version said after_items
    pub whole : Whole said h
    pub body : Here T after_items sort.Body j
