-- What the game of a job is: the theory's game of the job, and playable on the table that it was opened for.
use Rattle.std.proofs.Common.{◌≡◌, ℕ, List, length, Ok}
use Rattle.arena.specs.declared.game.Game.{Game}
use Rattle.arena.specs.Job.{Job, game_of}
use Rattle.arena.specs.Game.{played, Playable, Opens}
use Rattle.arena.proofs.Open.{open_game, open_ready}

module _ (j : Job) (t : List ℕ) (g : Game) (o : Opens j (length t) (Ok g)) where
  pub opens_played : game_of j ≡ played g
  opens_played = rw (o.1, o.2) (open_game j t g.arena o.0)

  pub opens_playable : Playable g t
  opens_playable = rw (o.1, o.2) (open_ready j t g.arena o.0)
