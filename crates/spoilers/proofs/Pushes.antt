-- One entry pushed into a column: who is hit asks for it, and after it every move to its state is heeded.
use Rattle.std.proofs.Common.{refl, sym, subst, ◌∙◌, ◌≡◌, ◌⊎◌, inl, inr, List, ℕ, suc, ◌≤◌, ◌<◌, min, max, le_trans, arith}
use Rattle.games.specs.Game.{asked, at}
use Rattle.games.proofs.Rule.{rule-under}
use Rattle.words.specs.Word.{dig, In}
use Rattle.words.proofs.Sets.{in_or-out}
use Rattle.automaton.specs.declared.Mode.{Mode}
use Rattle.automaton.specs.Board.{Board, accepts, Formed}
use Rattle.simulation.specs.Moves.{Moves}
use Rattle.simulation.specs.Position.{layers, pair, pairs}
use Rattle.simulation.specs.Rules.{turn, ceiling, game}
use Rattle.simulation.proofs.Moves.{move-within}
use Rattle.arena.specs.declared.game.Game.{Game}
use Rattle.arena.specs.Game.{board}
use Rattle.halves.specs.Half.{ruled, challenged}
use Rattle.halves.specs.Rising.{Rising, Pushed}
use Rattle.halves.proofs.Steps.{turn-not-low, spoiler-kind, spoiler-step}
use Rattle.spoilers.specs.declared.column.Column.{Column}
use Rattle.spoilers.specs.declared.front.Front.{Front}
use Rattle.spoilers.specs.declared.gift.Gift.{Gift}
use Rattle.spoilers.specs.Work.{dealt, gives, Hits, Holds, Heeded, Working}
use Rattle.spoilers.specs.Shape.{Asking, ColumnOf, Shaped}
use Rattle.spoilers.specs.Front.{Fresh, Cover, Guarded, Heard, Lettered, Columned, Layered}
use Rattle.spoilers.proofs.Asks.{given_in, given_out}

pub gives_mono : (bump T v w q : ℕ) → v ≤ w → gives bump T v q ≤ gives bump T w q
gives_mono bump T v w q h = go (in_or-out bump q)
  where
    go : In q bump ⊎ (dig bump q ≡ 0) → gives bump T v q ≤ gives bump T w q
    go (inl i) = rw (given_in bump v (min (suc v) T) q i, given_in bump w (min (suc w) T) q i) (omega arith)
    go (inr o) = rw (given_out bump v (min (suc v) T) q o, given_out bump w (min (suc w) T) q o) h

-- a position asks for what the rule makes of any entry that a move of Red's leads to
pub source_asks : (B : Board) (m : Mode) → Formed B → (b q r a x : ℕ) → b < layers m → r < B.n → Moves B q a x → (t : List ℕ)
    → ruled B m b q r (at t (challenged B m b r x a)) ≤ asked (game B m) (at t) (pair B b q r)
source_asks B m F b q r a x hb hr move t =
    let hq = (move-within B F q a x move).0 in
    rw (spoiler-kind B m F b q r hb hq hr)
    (rule-under (turn m b (accepts B q) (accepts B r)) (turn-not-low m b (accepts B q) (accepts B r)) (ceiling B m) (at t) _ (challenged B m b r x a) (spoiler-step B m F b q r hb hq hr a x move))

module _ (B : Board) (m : Mode) (F : Formed B) (b r a x : ℕ) (hb : b < layers m) (hr : r < B.n) {from bump : ℕ} (ask : Asking B m b r from bump)
    (t : List ℕ) (cap : at t (challenged B m b r x a) ≤ ceiling B m) (floor : (q : ℕ) → q < B.n → ruled B m b q r 0 ≤ at t (pair B b q r)) where
  abbrev v : ℕ
  v = at t (challenged B m b r x a)

  abbrev gift : ℕ → ℕ → ℕ
  gift h = gives bump (ceiling B m) h

  -- an entry too small to raise anything is heeded
  pub heard_below : v < from → Heard B m b r a t x
  heard_below l q move = let hq = (move-within B F q a x move).0 in le_trans (ask.idle q v hq cap l) (floor q hq)

  -- another is asked for by all that it may hit
  hits-asked : from ≤ v → (hit : ℕ) → ((q : ℕ) → In q hit → Moves B q a x) → Hits B m t b r hit (gift v)
  hits-asked l hit all q i =
      let hq = (move-within B F q a x (all q i)).0 in
      (hq, le_trans (ask.due q v hq cap l) (source_asks B m F b q r a x hb hr (all q i) t))

  module _ (u : List ℕ) (grown : (w : ℕ) → at t w ≤ at u w) (before done cur : ℕ) (guard : Holds B t b r done (gift cur)) where
    -- those that are not hit have had as much
    holds-all : (hit : ℕ) → Fresh before done v cur hit → Holds B u b r hit (gift v) → Holds B u b r before (gift v)
    holds-all hit f h q i = go (f.all q i)
      where
        go : In q hit ⊎ ((v ≤ cur) × In q done) → gift v q ≤ at u (pair B b q r)
        go (inl k) = h q k
        go (inr (l, k)) = le_trans (gives_mono bump (ceiling B m) v cur q l) (le_trans (guard q k) (grown _))

    heard_from : from ≤ v → at u (challenged B m b r x a) ≡ v → ((q : ℕ) → Moves B q a x → In q before) → Holds B u b r before (gift v) → Heard B m b r a u x
    heard_from l same all h q move =
        let hq = (move-within B F q a x move).0 in
        rw same (omega (arith, ask.enough q v hq cap l, h q (all q move), floor q hq, grown (pair B b q r)))

    guard_more : (d : ℕ) → Cover before done v cur d → Holds B u b r before (gift v) → (top : ℕ) → top ≡ max v cur → Holds B u b r d (gift top)
    guard_more d c h top e q i = go (c.each q i)
      where
        go : ((v ≤ cur) × In q done) ⊎ ((cur ≤ v) × In q before) → gift top q ≤ at u (pair B b q r)
        go (inl (l, k)) = let z : top ≡ cur = omega arith in rw z (le_trans (guard q k) (grown _))
        go (inr (l, k)) = let z : top ≡ v = omega arith in rw z (h q k)

-- ---- in a half under way

module _ {g : Game} {s : Rising} {c : Column} (works : Working g s) (shape : Shaped g c) (a x : ℕ) where
  abbrev lead : ℕ
  lead = challenged (board g) g.arena.mode c.bit c.blue x a

  most : at s.table lead ≤ ceiling (board g) g.arena.mode
  most = works.capped lead (omega arith)

  floors : (q : ℕ) → q < g.arena.states → ruled (board g) g.arena.mode c.bit q c.blue 0 ≤ at s.table (pair (board g) c.bit q c.blue)
  floors q h = works.floor c.bit q c.blue shape.bit h shape.blue

  -- an entry too small for the column is heeded
  pub small-heard : at s.table lead < c.rule.from → Heard (board g) g.arena.mode c.bit c.blue a s.table x
  small-heard = heard_below (board g) g.arena.mode shape.known.formed c.bit c.blue a x shape.bit shape.blue shape.asking s.table most floors

  -- another is given to those before x that have had less
  module _ {v : ℕ} (f : Gift) (read : v ≡ at s.table lead) (gift : dealt f ≡ gives c.rule.bump g.arena.top v) (enough : c.rule.from ≤ v) where
    is : dealt f ≡ gives c.rule.bump (ceiling (board g) g.arena.mode) (at s.table lead)
    is = gift ∙ rw (shape.known.topped, read) refl

    pub gift-hits : (hit : ℕ) → ((q : ℕ) → In q hit → Moves (board g) q a x) → Hits (board g) g.arena.mode s.table c.bit c.blue hit (dealt f)
    gift-hits hit all =
        subst (Hits (board g) g.arena.mode s.table c.bit c.blue hit) (sym is) (hits-asked (board g) g.arena.mode shape.known.formed c.bit c.blue a x shape.bit shape.blue shape.asking s.table most floors (rw read at enough) hit all)

    -- after which every move to x by a is heeded, and those that have had the greatest entry still have what it gives
    pub gift-done : {u : Rising} {n before hit : ℕ} {front front' : Front} → Pushed (board g) g.arena.mode s u n → ((q : ℕ) → Moves (board g) q a x → In q before)
        → Guarded (board g) g.arena.mode s.table c front → Fresh before front.had v front.greatest hit → Holds (board g) u.table c.bit c.blue hit (dealt f)
        → front'.greatest ≡ max v front.greatest → Cover before front.had v front.greatest front'.had
        → Guarded (board g) g.arena.mode u.table c front' × Heard (board g) g.arena.mode c.bit c.blue a u.table x
    gift-done {u} {n} {before} {hit} {front} {front'} pushed all guard fresh holds greatest cover =
        let F = shape.known.formed in
        let l = rw read at enough in
        let have = holds-all (board g) g.arena.mode F c.bit c.blue a x shape.bit shape.blue shape.asking s.table most floors u.table pushed.grown before front.had front.greatest guard hit (rw read at fresh) (subst (Holds (board g) u.table c.bit c.blue hit) is holds) in (
          guard_more (board g) g.arena.mode F c.bit c.blue a x shape.bit shape.blue shape.asking s.table most floors u.table pushed.grown before front.had front.greatest guard front'.had (rw read at cover) have front'.greatest (rw read at greatest),
          heard_from (board g) g.arena.mode F c.bit c.blue a x shape.bit shape.blue shape.asking s.table most floors u.table pushed.grown before front.had front.greatest guard l (pushed.others lead (omega arith)) all have,
        )

-- ---- a column

-- one that no entry raises
pub column_still : (B : Board) (m : Mode) {b r from bump : ℕ} (t : List ℕ) → Formed B → ((v : ℕ) → pairs B m ≤ v → at t v ≤ ceiling B m)
    → ((b q r : ℕ) → b < layers m → q < B.n → r < B.n → ruled B m b q r 0 ≤ at t (pair B b q r))
    → b < layers m → r < B.n → Asking B m b r from bump → ceiling B m < from → (a x : ℕ) → Heard B m b r a t x
column_still B m {b} {r} t F cap floor hb hr asking high a x =
    heard_below B m F b r a x hb hr asking t (cap _ (omega arith)) (λ q hq. floor b q r hb hq hr)
    (omega (arith, high, cap (challenged B m b r x a) (omega arith)))

module _ {g : Game} {b r : ℕ} {c : Column} where
  pub column-done : (t grown : List ℕ) → ColumnOf g b r c → ((a : ℕ) → a < g.arena.letters → Lettered (board g) g.arena.mode grown c.bit c.blue t a) → Columned (board g) g.arena.mode grown b t r
  column-done t grown (shape, e, d) all = rw (← e, ← d) all

  -- such a one in a half under way
  pub column-calm : {s : Rising} → Working g s → ColumnOf g b r c → g.arena.top < c.rule.from → (a x : ℕ) → Heard (board g) g.arena.mode b r a s.table x
  column-calm {s} works (shape, e, d) high a x =
      rw (← e, ← d) (column_still (board g) g.arena.mode s.table shape.known.formed works.capped works.floor shape.bit shape.blue shape.asking (omega (arith, high, shape.known.topped)) a x)

-- ---- what is heeded stays so

module _ (B : Board) (m : Mode) {s u : Rising} {c : ℕ} (p : Pushed B m s u c) where
  pub heeded_kept : (b q r a x : ℕ) → Heeded B m s.table b q r a x → Heeded B m u.table b q r a x
  heeded_kept b q r a x h = rw (p.others (challenged B m b r x a) (omega arith)) (le_trans h (p.grown (pair B b q r)))

  pub heard_kept : (b r a x : ℕ) → Heard B m b r a s.table x → Heard B m b r a u.table x
  heard_kept b r a x h q move = heeded_kept b q r a x (h q move)

  pub lettered_kept : (grown : List ℕ) (b r a : ℕ) → Lettered B m grown b r s.table a → Lettered B m grown b r u.table a
  lettered_kept grown b r a h x hx i = heard_kept b r a x (h x hx i)

  pub columned_kept : (grown : List ℕ) (b r : ℕ) → Columned B m grown b s.table r → Columned B m grown b u.table r
  columned_kept grown b r h a ha = lettered_kept grown b r a (h a ha)

  pub layered_kept : (grown columns : List ℕ) (b : ℕ) → Layered B m grown columns s.table b → Layered B m grown columns u.table b
  layered_kept grown columns b h r a x q hr i move = heeded_kept b q r a x (h r a x q hr i move)
