-- On the least table at rest an entry is below T exactly if its position is won; so winning is decided.
use mathlib.Core.Logic.{◌↔◌}
use mathlib.Core.List.{List}
use Prim.Native.Nat.{ℕ, ◌<◌}
use native.Mathlib.Decide.{dec_lt}
use Rattle.games.specs.Game.{Game, Inward, at}
use Rattle.games.specs.Lift.{Least}
use Rattle.games.specs.Settle.{settle}
use Rattle.games.specs.Play.{Won, counting_in}
use Rattle.games.proofs.Settle.{least-one, settle-least, settle-by}
use Rattle.games.proofs.Replies.{below_won}
use Rattle.games.proofs.Complete.{won_below}

pub verdict : (g : Game) → Inward g → counting_in g < g.T → (t : List ℕ) → Least g t → (v : ℕ) → v < g.P → at t v < g.T ↔ Won g v
verdict g ins enough t l v i = (below_won g ins t l.at_rest v i, back)
  where
    back : Won g v → at t v < g.T
    back w =
        let (vs, e) = settle-by g in
        rw (e, ← (least-one g t (settle g).table l (settle-least g))) at (won_below g ins enough v i w vs)

pub won_decided : (g : Game) → Inward g → counting_in g < g.T → (v : ℕ) → v < g.P → Dec (Won g v)
won_decided g ins enough v i = go (dec_lt (at (settle g).table v) g.T)
  where
    judge : at (settle g).table v < g.T ↔ Won g v
    judge = verdict g ins enough (settle g).table (settle-least g) v i

    go : Dec (at (settle g).table v < g.T) → Dec (Won g v)
    go (yes h) = yes (judge.0 h)
    go (no n) = no (λ w. n (judge.1 w))
