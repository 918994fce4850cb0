-- The body of a Hanoi file as the format writes it: blocks of a state and its edges, then `--END--` and nothing more.
use Rattle.std.specs.Prelude.{◌≡◌, Bool, true, false, ◌&&◌, ◌||◌, List, [], ◌∷◌, ℕ, ◌<◌, eqb, get_or, replicate, set}
use Rattle.tokens.specs.declared.Token.{Token}
use Rattle.tokens.specs.Here.{Here, Number}
use Rattle.tokens.specs.declared.Sort.TheVariants as sort
use Rattle.bodies.specs.declared.Entry.{Entry}
use Rattle.bodies.specs.declared.Entry.TheVariants.{Unlisted, Listed, Accepting}
use Rattle.labels.specs.Label.{Label, holds, Labelled}

-- ---- what a body says

-- An edge from a state under a label to a state.
pub record Edge : Type 0 where
  pub from : ℕ
  pub label : Label
  pub to : ℕ

-- "The moves read are exactly those whose letter makes the label true": does an edge lead from q under the letter a to r? Does one of several?
abbrev pub leads_by : Edge → (q a r : ℕ) → Bool
leads_by e q a r = eqb e.from q && (eqb e.to r && holds e.label a)

unfoldable pub leads : List Edge → (q a r : ℕ) → Bool
leads [] q a r = false
leads (e ∷ es) q a r = leads_by e q a r || leads es q a r

-- The sheet has an entry for each number that a state can have: for one that is not listed, one that is, and one that is listed with the mark `{0}`.
abbrev pub unlisted : Entry
unlisted = Unlisted

abbrev pub listed : Entry
listed = Listed

abbrev pub accepting : Entry
accepting = Accepting

abbrev pub is_unlisted : Entry → Bool
is_unlisted Unlisted = true
is_unlisted _ = false

abbrev pub is_accepting : Entry → Bool
is_accepting Accepting = true
is_accepting _ = false

-- the sheet of a body that has said nothing yet
abbrev pub blank : List Entry
blank = replicate 65536 unlisted

-- ---- how it is written: with n states and p propositions

module _ (T : ℕ → Token) where
  -- the name of a state may stand, and is skipped
  pub data Name : (i j : ℕ) → Type 0 where
    no_name : {i : ℕ} → Name i i
    name : {i j : ℕ} → Here T i sort.Quoted j → Name i j

  -- "marks on states only, `{0}` or `{}`": from i to j, with what the sheet then says
  pub data Marks : (i : ℕ) → Entry → (j : ℕ) → Type 0 where
    no_marks : {i : ℕ} → Marks i listed i
    empty : {i h j : ℕ} → Here T i sort.Marks h → Here T h sort.MarksEnd j → Marks i listed j
    marked : {i h g j : ℕ} → Here T i sort.Marks h → Number T h 0 g → Here T g sort.MarksEnd j → Marks i accepting j

  module _ (n p : ℕ) where
    -- `[`, a label, `]` and a target below n: an edge of the state q from i to j
    pub data IsEdge (q i : ℕ) : Edge → (j : ℕ) → Type 0 where
      edge : {h g r j : ℕ} {l : Label} → Here T i sort.Label h → Labelled T p h l g → Number T g r j → r < n
          → IsEdge q i (record { from = q; label = l; to = r }) j

    -- edges of q from i to j, which make the list after of those before
    pub data Edges (q : ℕ) : (before : List Edge) → (i : ℕ) → (after : List Edge) → (j : ℕ) → Type 0 where
      no_edge : {es : List Edge} {i : ℕ} → Edges q es i es i
      edges : {es fs : List Edge} {e : Edge} {i h j : ℕ} → IsEdge q i e h → Edges q (e ∷ es) h fs j → Edges q es i fs j

    -- Blocks from i to j, with the sheet and the edges before and after them. A state is below n and listed once.
    pub data Blocks : (sheet : List Entry) → (before : List Edge) → (i : ℕ) → (sheet' : List Entry) → (after : List Edge) → (j : ℕ) → Type 0 where
      no_block : {s : List Entry} {es : List Edge} {i : ℕ} → Blocks s es i s es i
      block : {s t : List Entry} {es fs gs : List Edge} {i h g f e d j q : ℕ} {m : Entry}
          → Here T i sort.State h → Number T h q g → q < n → get_or s q unlisted ≡ unlisted
          → Name g f → Marks f m e → Edges q es e fs d
          → Blocks (set s q m) fs d t gs j → Blocks s es i t gs j

    -- The whole body from i on: it leaves a sheet and edges.
    pub record IsBody (i : ℕ) (sheet : List Entry) (es : List Edge) : Type 0 where
      pub after_blocks : ℕ
      pub after-end : ℕ
      pub blocks : Blocks blank [] i sheet es after_blocks
      pub end : Here T after_blocks sort.End after-end
      pub nothing : (T after-end).sort ≡ sort.Nothing
