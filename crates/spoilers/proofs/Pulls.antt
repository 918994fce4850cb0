-- High over Red's moves, member by member and letter by letter, and a position raised to what it asks for: after it every move is heeded.
use Rattle.std.proofs.Common.{refl, ◌≡◌, subst, ◌⊎◌, inl, inr, List, ℕ, ◌+◌, ◌*◌, ◌≤◌, ◌<◌, max, le_trans, arith}
use native.Mathlib.Decide.{dec_le, dec_lt}
use Rattle.games.specs.Game.{asked, at}
use Rattle.games.proofs.Rule.{rule_mono, rule-floor}
use Rattle.words.specs.Word.{In, Pop}
use Rattle.words.proofs.Sets.{empty, pop_cases, pop_sub}
use Rattle.automaton.specs.declared.Mode.{Mode}
use Rattle.automaton.specs.Board.{Board, accepts, Formed}
use Rattle.simulation.specs.Moves.{Moves}
use Rattle.simulation.specs.Position.{layers, pairs, pair}
use Rattle.simulation.specs.Rules.{turn, ceiling, game}
use Rattle.simulation.proofs.Moves.{move-within}
use Rattle.arena.specs.declared.game.Game.{Game}
use Rattle.arena.specs.Game.{board}
use Rattle.halves.specs.Drawn.{Onto}
use Rattle.halves.specs.Half.{ruled, challenged}
use Rattle.halves.specs.Rising.{Rising, Pushed}
use Rattle.halves.proofs.Steps.{turn-not-low, spoiler-kind}
use Rattle.spoilers.specs.declared.column.Column.{Column}
use Rattle.spoilers.specs.Work.{gives, Working}
use Rattle.spoilers.specs.Shape.{Asking, ColumnOf, Shaped}
use Rattle.spoilers.specs.Floor.{AllFloored}
use Rattle.spoilers.specs.Pull.{HighBy, HighTo, Heeds, ColumnHeeds, AllHeed}
use Rattle.spoilers.proofs.Pushes.{source_asks, heeded_kept}
use Rattle.spoilers.proofs.Calms.{steps_covered}

-- ---- the moves by one letter

-- h is the greatest of `high` and of f over the members of the set that are not left to look at
pub record Climbing (f : ℕ → ℕ) (set high left h : ℕ) : Type 0 where
  pub sub : (x : ℕ) → In x left → In x set
  pub least : high ≤ h
  pub each : (x : ℕ) → In x set → In x left ⊎ (f x ≤ h)
  pub some : (h ≡ high) ⊎ ((x : ℕ) × In x set × (f x ≡ h))

module _ (f : ℕ → ℕ) (set high : ℕ) where
  pub climb_more : {left x rest h v e : ℕ} → Pop left x rest → Climbing f set high left h → v ≡ f x → e ≡ max v h → Climbing f set high rest e
  climb_more {left} {x} {rest} {h} {v} {e} p c here greater = record {
    sub = λ z i. c.sub z (pop_sub p z i);
    least = omega (arith, c.least);
    each = λ z i. each z (c.each z i);
    some = some (dec_le v h) c.some;
  }
    where
      left_or : (z : ℕ) → (z ≡ x) ⊎ In z rest → In z rest ⊎ (f z ≤ e)
      left_or z (inl q) = inr (rw q (omega arith))
      left_or z (inr i) = inl i

      each : (z : ℕ) → In z left ⊎ (f z ≤ h) → In z rest ⊎ (f z ≤ e)
      each z (inl i) = left_or z (pop_cases p z i)
      each z (inr l) = inr (omega arith)

      some : Dec (v ≤ h) → (h ≡ high) ⊎ ((z : ℕ) × In z set × (f z ≡ h)) → (e ≡ high) ⊎ ((z : ℕ) × In z set × (f z ≡ e))
      some (yes l) (inl q) = inl (omega arith)
      some (yes l) (inr (z, i, q)) = inr (z, i, omega arith)
      some (no l) o = inr (x, c.sub x p.here, omega arith)

module _ (B : Board) (m : Mode) (t : List ℕ) (b q r : ℕ) where
  pub climb_end : (onto : List ℕ) (a high : ℕ) {left h : ℕ} → Onto B onto → q < B.n → a < B.k → left ≡ 0
      → Climbing (λ x. at t (challenged B m b r x a)) (at onto (q * B.k + a)) high left h → HighBy B m t b q r a high h
  climb_end onto a high {left} {h} drawn hq ha none c = record {
    least = c.least;
    each = λ x move. each x (c.each x (drawn.held q a x move));
    some = some c.some;
  }
    where
      each : (x : ℕ) → In x left ⊎ (at t (challenged B m b r x a) ≤ h) → at t (challenged B m b r x a) ≤ h
      each x (inl i) = absurd (empty x (rw none at i))
      each x (inr l) = l

      some : (h ≡ high) ⊎ ((x : ℕ) × In x (at onto (q * B.k + a)) × (at t (challenged B m b r x a) ≡ h))
          → (h ≡ high) ⊎ ((x : ℕ) × Moves B q a x × (at t (challenged B m b r x a) ≡ h))
      some (inl e) = inl e
      some (inr (x, i, e)) = inr (x, drawn.move q a x hq ha i, e)

  -- ---- letter by letter

  pub high-none : HighTo B m t b q r 0 0
  high-none = record { each = λ i x l. absurd (omega arith); some = inl refl }

  pub high-more : (a h e : ℕ) → HighTo B m t b q r a h → HighBy B m t b q r a h e → HighTo B m t b q r (a + 1) e
  high-more a h e s n = record { each = λ i x l move. each i x l move (dec_lt i a); some = some n.some s.some }
    where
      each : (i x : ℕ) → i < a + 1 → Moves B q i x → Dec (i < a) → at t (challenged B m b r x i) ≤ e
      each i x l move (yes k) = le_trans (s.each i x k move) n.least
      each i x l move (no k) = let same : i ≡ a = omega arith in rw same (n.each x (rw same at move))

      some : (e ≡ h) ⊎ ((x : ℕ) × Moves B q a x × (at t (challenged B m b r x a) ≡ e))
          → (h ≡ 0) ⊎ ((i : ℕ) × (x : ℕ) × Moves B q i x × (at t (challenged B m b r x i) ≡ h))
          → (e ≡ 0) ⊎ ((i : ℕ) × (x : ℕ) × Moves B q i x × (at t (challenged B m b r x i) ≡ e))
      some (inl d) (inl k) = inl (omega arith)
      some (inl d) (inr (i, x, move, k)) = inr (i, x, move, omega arith)
      some (inr (x, move, d)) o = inr (a, x, move, d)

-- ---- one position

module _ {g : Game} {s : Rising} {c : Column} (works : Working g s) (shape : Shaped g c) (q : ℕ) (hq : q < g.arena.states) (h : ℕ)
    (high : HighTo (board g) g.arena.mode s.table c.bit q c.blue g.arena.letters h) where
  abbrev B : Board
  B = board g

  abbrev m : Mode
  m = g.arena.mode

  abbrev b : ℕ
  b = c.bit

  abbrev r : ℕ
  r = c.blue

  abbrev t : List ℕ
  t = s.table

  abbrev F : Formed B
  F = shape.known.formed

  abbrev ask : Asking B m b r c.rule.from c.rule.bump
  ask = shape.asking

  floor : ruled B m b q r 0 ≤ at t (pair B b q r)
  floor = works.floor b q r shape.bit hq shape.blue

  under : (a x : ℕ) → Moves B q a x → at t (challenged B m b r x a) ≤ h
  under a x move = high.each a x (move-within B F q a x move).1 move

  entry-most : (a x : ℕ) → at t (challenged B m b r x a) ≤ ceiling B m
  entry-most a x = works.capped (challenged B m b r x a) (omega arith)

  most : h ≤ ceiling B m
  most = go high.some
    where
      go : (h ≡ 0) ⊎ ((a : ℕ) × (x : ℕ) × Moves B q a x × (at t (challenged B m b r x a) ≡ h)) → h ≤ ceiling B m
      go (inl e) = omega arith
      go (inr (a, x, move, e)) = omega (arith, entry-most a x)

  -- it asks for what the rule makes of High
  asks : ruled B m b q r h ≤ asked (game B m) (at t) (pair B b q r)
  asks = go high.some
    where
      go : (h ≡ 0) ⊎ ((a : ℕ) × (x : ℕ) × Moves B q a x × (at t (challenged B m b r x a) ≡ h)) → ruled B m b q r h ≤ asked (game B m) (at t) (pair B b q r)
      go (inl e) =
          rw (e, spoiler-kind B m F b q r shape.bit hq shape.blue)
          (rule-floor (turn m b (accepts B q) (accepts B r)) (turn-not-low m b (accepts B q) (accepts B r)) (ceiling B m) (at t) _)
      go (inr (a, x, move, e)) = subst (λ (n : ℕ). ruled B m b q r n ≤ asked (game B m) (at t) (pair B b q r)) e (source_asks B m F b q r a x shape.bit shape.blue move t)

  -- High too small to raise anything is heeded
  pub pull-below : h < c.rule.from → Heeds B m b r t q
  pull-below l a x move = le_trans (ask.idle q (at t (challenged B m b r x a)) hq (entry-most a x) (omega (arith, under a x move))) floor

  -- from there on, what the position is given is due, and enough
  module _ {e : ℕ} (gift : e ≡ gives c.rule.bump g.arena.top h q) (l : c.rule.from ≤ h) where
    is : e ≡ gives c.rule.bump (ceiling B m) h q
    is = rw (← shape.known.topped) gift

    pub pull-due : e ≤ asked (game B m) (at t) (pair B b q r)
    pull-due = rw is (le_trans (ask.due q h hq most l) asks)

    pub pull-done : (u : List ℕ) → ((v : ℕ) → at t v ≤ at u v) → ((v : ℕ) → pairs B m ≤ v → at u v ≡ at t v) → e ≤ at u (pair B b q r) → Heeds B m b r u q
    pull-done u grown others have a x move =
        let v = at t (challenged B m b r x a) in
        rw (others (challenged B m b r x a) (omega arith))
        (omega (arith, rule_mono (turn m b (accepts B q) (accepts B r)) (ceiling B m) v h (under a x move), ask.enough q h hq most l, is, have, floor, grown (pair B b q r)))

-- ---- a column

pub heeds_column : {g : Game} {b r : ℕ} {c : Column} (t : List ℕ) → ColumnOf g b r c
    → ((q : ℕ) → q < g.arena.states → Heeds (board g) g.arena.mode c.bit c.blue t q) → ColumnHeeds (board g) g.arena.mode b t r
heeds_column t (shape, e, d) all = rw (← e, ← d) all

-- ---- what heeds its moves stays so

module _ (B : Board) (m : Mode) {s u : Rising} {c : ℕ} (p : Pushed B m s u c) where
  pub heeds_kept : (b r q : ℕ) → Heeds B m b r s.table q → Heeds B m b r u.table q
  heeds_kept b r q h a x move = heeded_kept B m p b q r a x (h a x move)

  pub column_heeds_kept : (b r : ℕ) → ColumnHeeds B m b s.table r → ColumnHeeds B m b u.table r
  column_heeds_kept b r h q hq = heeds_kept b r q (h q hq)

  pub all_heed_kept : (b : ℕ) → AllHeed B m s.table b → AllHeed B m u.table b
  all_heed_kept b h r hr = column_heeds_kept b r (h r hr)

  -- where all heed their moves, every position has what it asks for
  pub pull_covered : Formed B → ((b : ℕ) → b < layers m → AllFloored B m s.table b) → ((b : ℕ) → b < layers m → AllHeed B m u.table b)
      → (b q r : ℕ) → b < layers m → q < B.n → r < B.n → asked (game B m) (at s.table) (pair B b q r) ≤ at u.table (pair B b q r)
  pull_covered F floor heed b q r hb hq hr =
      steps_covered B m F s.table u.table b q r hb hq hr (le_trans (floor b hb r hr q hq) (p.grown (pair B b q r)))
      (λ a x move. rw (p.others (challenged B m b r x a) (omega arith)) at (heed b hb r hr q hq a x move))
