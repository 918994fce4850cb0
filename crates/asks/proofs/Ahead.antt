-- The stretch of moves that the code works out for a position leads to the positions one step on, and to no others.
use mathlib.Core.Path.{◌≡◌, refl, sym, ap, ◌∙◌}
use mathlib.Core.Bool.{Bool, true, false, cond}
use mathlib.Core.List.{List, map, map-map}
use Prim.Native.Nat.{ℕ, ◌+◌, ◌*◌, ◌-◌, ◌<◌}
use native.Mathlib.Nat.{add-mul, mul_assoc, mul-one}
use native.Mathlib.Omega.{arith}
use lib.ListN.{length}
use Rattle.games.specs.Settle.{ascending}
use Rattle.automaton.specs.declared.Mode.{Mode}
use Rattle.automaton.specs.declared.Mode.TheVariants.{Ordinary, Direct, Delayed, Fair}
use Rattle.automaton.specs.Board.{Board, accepts, letter, to, Formed}
use Rattle.simulation.specs.Moves.{Arrow}
use Rattle.simulation.specs.Position.{Position, spoiler, duplicator, number}
use Rattle.simulation.specs.Rules.{pended, eased, challenge, reply}
use Rattle.simulation.proofs.Inward.{pended_lt, eased_lt}
use Rattle.simulation.proofs.Position.{number_lt}
use Rattle.simulation.proofs.Ranges.{arrows_range, targets_range}
use Rattle.arena.specs.declared.Arena.{Arena}
use Rattle.arena.specs.Game.{board, Playable}
use Rattle.asks.specs.Asked.{onward}
use Rattle.asks.specs.Index.{Indexed}
use Rattle.asks.specs.Pair.{Within}
use Rattle.asks.specs.declared.index.Index.{Index}
use Rattle.asks.specs.declared.pair.Pair.{Pair}
use Rattle.asks.specs.Steps.{spot_of, ahead, Leading, spoiler_steps, duplicator_steps}
use Rattle.asks.proofs.Keys.{leaving, leaving_order, leaving_inside, answering, answering-order, answering-inside}

pended_stays : (m : Mode) (b : ℕ) → pended m false b ≡ b
pended_stays Ordinary b = refl
pended_stays Direct b = refl
pended_stays Delayed b = refl
pended_stays Fair b = refl

eased_stays : (m : Mode) (b : ℕ) → eased m false b ≡ b
eased_stays Ordinary b = refl
eased_stays Direct b = refl
eased_stays Delayed b = refl
eased_stays Fair b = refl

module _ (x : Index) (table : List ℕ) (R : Playable x.game table) (p : Pair) (W : Within x.game.arena p) where
  abbrev g : Arena
  g = x.game.arena

  abbrev marks : List ℕ
  marks = x.game.marks.now

  abbrev moves : List ℕ
  moves = x.game.moves.now

  abbrev begins : List ℕ
  begins = x.begins.now

  abbrev b : ℕ
  b = p.bit

  abbrev q : ℕ
  q = p.red

  abbrev r : ℕ
  r = p.blue

  abbrev B : Board
  B = board x.game

  I : Indexed g.states g.letters moves begins
  I = x.indexed

  F : Formed B
  F = R.formed

  -- ---- from Spoiler's (b,q,r)

  -- the position that move i from q leads to, and its number
  abbrev challenged : ℕ → Position
  challenged i = challenge B g.mode b r (record { by = letter moves i; goal = to moves i })

  spoiler-spot : (i : ℕ) → spot_of (spoiler_steps g begins b q r) marks moves i ≡ number B g.mode (challenged i)
  spoiler-spot i = go (accepts B (to moves i))
    where
      go : (y : Bool)
          → cond y (spoiler_steps g begins b q r).marked (spoiler_steps g begins b q r).plain + to moves i * (g.states * g.letters) + letter moves i * 1
          ≡ number B g.mode (duplicator (pended g.mode y b) (to moves i) r (letter moves i))
      go true = simp (add-mul, mul_assoc, mul-one, R.paired) (omega arith)
      go false = simp (pended_stays, add-mul, mul_assoc, mul-one, R.paired) (omega arith)

  pub spoiler-ahead : ahead (spoiler_steps g begins b q r) marks moves ≡ onward (B) g.mode (spoiler b q r)
  spoiler-ahead =
      let s = spoiler_steps g begins b q r in
      let is = ascending s.lo (s.hi - s.lo) in
      let arrow : ℕ → Arrow = λ i. record { by = letter moves i; goal = to moves i } in
      (λ k. map (λ i. spoiler-spot i k) is)
      ∙ sym (map-map (number B g.mode) challenged is)
      ∙ sym (ap (map (number B g.mode)) (map-map (challenge B g.mode b r) arrow is))
      ∙ sym (ap (λ (l : List Arrow). map (number B g.mode) (map (challenge B g.mode b r) l)) (arrows_range B q s.lo (s.hi - s.lo) (leaving B F begins I q W.1)))

  pub spoiler_leading : Leading (spoiler_steps g begins b q r) marks moves (length table)
  spoiler_leading = record {
    order = leaving_order B F begins I q W.1;
    inside = leaving_inside B F begins I q W.1;
    goals = λ i l h. rw F.marked (F.inside i (within i h)).2;
    spots = λ i l h.
        let (u, y, z) = F.inside i (within i h) in
        rw (R.entries, spoiler-spot i) (number_lt B g.mode (challenged i) (pended_lt g.mode (accepts B (to moves i)) b W.0, z, W.2, y));
  }
    where
      within : (i : ℕ) → i < (spoiler_steps g begins b q r).hi → i * 3 + 2 < length moves
      within i h = omega (arith, leaving_inside B F begins I q W.1)

  -- ---- from Duplicator's (b,q,r,a)

  -- the position that move i from r leads to, and its number
  abbrev replied : ℕ → Position
  replied i = reply B g.mode b q (to moves i)

  module _ (a : ℕ) (ha : a < g.letters) where
    duplicator-spot : (i : ℕ) → spot_of (duplicator_steps g begins b q r a) marks moves i ≡ number B g.mode (replied i)
    duplicator-spot i = go (accepts B (to moves i))
      where
        go : (y : Bool)
            → cond y (duplicator_steps g begins b q r a).marked (duplicator_steps g begins b q r a).plain + to moves i * 1 + letter moves i * 0
            ≡ number B g.mode (spoiler (eased g.mode y b) q (to moves i))
        go true = omega arith
        go false = rw (eased_stays g.mode b) (omega arith)

    pub duplicator-ahead : ahead (duplicator_steps g begins b q r a) marks moves ≡ onward (B) g.mode (duplicator b q r a)
    duplicator-ahead =
        let s = duplicator_steps g begins b q r a in
        let is = ascending s.lo (s.hi - s.lo) in
        (λ k. map (λ i. duplicator-spot i k) is)
        ∙ sym (map-map (number B g.mode) replied is)
        ∙ sym (ap (map (number B g.mode)) (map-map (reply B g.mode b q) (to moves) is))
        ∙ sym (ap (λ (l : List ℕ). map (number B g.mode) (map (reply B g.mode b q) l)) (targets_range B r a s.lo (s.hi - s.lo) (answering B F begins I r W.2 a ha)))

    pub duplicator_leading : Leading (duplicator_steps g begins b q r a) marks moves (length table)
    duplicator_leading = record {
      order = answering-order B F begins I r W.2 a ha;
      inside = answering-inside B F begins I r W.2 a ha;
      goals = λ i l h. rw F.marked (F.inside i (within i h)).2;
      spots = λ i l h.
          let (u, y, z) = F.inside i (within i h) in
          rw (R.entries, duplicator-spot i) (number_lt B g.mode (replied i) (eased_lt g.mode (accepts B (to moves i)) b W.0, W.1, z));
    }
      where
        within : (i : ℕ) → i < (duplicator_steps g begins b q r a).hi → i * 3 + 2 < length moves
        within i h = omega (arith, answering-inside B F begins I r W.2 a ha)
