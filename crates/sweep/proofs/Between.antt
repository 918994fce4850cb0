-- From two halves to a sweep, and from one sweep to the next.
use Rattle.std.proofs.Common.{◌≡◌, sym, ◌∙◌, ◌⊎◌, inl, inr, List, ℕ, ◌+◌, ◌*◌, ◌≤◌, arith, length}
use Rattle.games.specs.Game.{at}
use Rattle.games.specs.Lift.{Capped, lifts, raises}
use Rattle.games.specs.Half.{rose, Halved}
use Rattle.games.specs.Settle.{sweep}
use Rattle.games.proofs.Half.{round, half_capped, half_rest}
use Rattle.games.proofs.Rose.{rose-most}
use Rattle.words.specs.Word.{dig, In}
use Rattle.automaton.specs.declared.Mode.{Mode}
use Rattle.automaton.specs.Board.{Board, Formed}
use Rattle.simulation.specs.Position.{pairs, positions}
use Rattle.simulation.specs.Rules.{game}
use Rattle.simulation.proofs.Limits.{positions-most}
use Rattle.simulation.proofs.Position.{positions_are}
use Rattle.arena.specs.declared.game.Game.{Game}
use Rattle.arena.specs.Game.{board, played, Playable}
use Rattle.halves.specs.Rising.{Rising, Noted, AllNoted, AllMarked, Blank}
use Rattle.halves.proofs.Apart.{spoilers_apart, duplicators_apart}
use Rattle.halves.proofs.Rest.{calm-again}
use Rattle.sweep.specs.Poised.{Covered, Poised}

-- what is noted is covered
pub noted_covered : (B : Board) (m : Mode) (t : List ℕ) (s : Rising) → AllNoted B m t s → Covered B m s.risen s.rows
noted_covered B m t s noted b q r hb hq hr = go (noted b q r hb hq hr)
  where
    go : Noted B t s b q r → (dig (at s.risen (b * B.n + q)) r ≡ 0) ⊎ In q (at s.rows b)
    go (inl h) = inl h.0
    go (inr h) = inr h.1

module _ (B : Board) (m : Mode) (F : Formed B) where
  pub pairs-within : pairs B m ≤ positions B m
  pairs-within = rw (positions_are B m) (omega arith)

  -- t before the sweep, u after Spoiler's half and w after Duplicator's
  module _ (t u w : List ℕ) (l : length t ≡ positions B m) (x : Halved (game B m) 0 (pairs B m) t u) (y : Halved (game B m) (pairs B m) (positions B m) u w) where
    pub swept : (lifts (game B m) t (sweep (game B m)) ≡ w) × (raises (game B m) t (sweep (game B m)) ≡ rose t u (positions B m) + rose u w (positions B m))
    swept = round (game B m) (pairs B m) t u w pairs-within l (spoilers_apart B m F) (duplicators_apart B m F) x y

    pub poised_again : (risen grown columns : List ℕ) → Capped (game B m) t → AllMarked B m u w grown columns → Blank B m risen → Poised B m w risen grown columns
    poised_again risen grown columns c marked blank = record {
      capped = half_capped y (x.entries ∙ l) (half_capped x l c pairs-within) (omega arith);
      rested = λ v a b. half_rest (duplicators_apart B m F) y v a b;
      calm = calm-again B m F t u w grown columns x marked (λ v h. y.outside v (inl h));
      blank = blank;
    }

-- ---- the same of an arena and the lent bytes

module _ (g : Game) {t : List ℕ} (ready : Playable g t) where
  -- a half of a sweep raises no more than the entries that there are
  pub rose-few : (u : List ℕ) → rose t u (length t) ≤ 139264
  rose-few u = omega (arith, rose-most t u (length t), ready.entries, positions-most (board g) ready.formed g.arena.mode)

  pub spoilers_half : {u : List ℕ} → Halved (played g) 0 g.arena.pairs t u → Halved (played g) 0 (pairs (board g) g.arena.mode) t u
  spoilers_half x = rw ready.paired at x

  pub duplicators_half : {u : List ℕ} → Halved (played g) g.arena.pairs (length t) t u
      → Halved (played g) (pairs (board g) g.arena.mode) (positions (board g) g.arena.mode) t u
  duplicators_half y = rw (ready.paired, ready.entries) at y

  -- Spoiler's half raises c entries and leaves u, and Duplicator's raises d and leaves w
  pub sweep-done : (u w risen grown columns : List ℕ) {c d : ℕ} → Halved (played g) 0 (pairs (board g) g.arena.mode) t u
      → Halved (played g) (pairs (board g) g.arena.mode) (positions (board g) g.arena.mode) u w
      → c ≡ rose t u (length t) → d ≡ rose u w (length u) → Capped (played g) t
      → AllMarked (board g) g.arena.mode u w grown columns → Blank (board g) g.arena.mode risen
      → (c + d ≡ raises (played g) t (sweep (played g)))
      × ((w ≡ lifts (played g) t (sweep (played g))) × Poised (board g) g.arena.mode w risen grown columns)
  sweep-done u w risen grown columns x y e f capped marked blank =
      let B = board g in
      let (a, b) = swept B g.arena.mode ready.formed t u w ready.entries x y in (
        omega (arith, b, rw ready.entries at e, rw (x.entries ∙ ready.entries) at f),
        (sym a, poised_again B g.arena.mode ready.formed t u w ready.entries x y risen grown columns capped marked blank),
      )
