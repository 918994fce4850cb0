-- What `relation` and `reply` do, by what is at fault.
use Rattle.std.proofs.Common.{◌≡◌, ◌≢◌, List, ℕ, ◌*◌, ◌≤◌, ◌<◌, eq-eqb, ne_eqb, le-leb, length}
use borrow.Author.Tests.{lt-leb}
use Rattle.automaton.specs.declared.Refusal.{Refusal}
use Rattle.automaton.specs.declared.Refusal.TheVariants.{PositionNumber, OutputLength}
use Rattle.automaton.specs.Answer.{valued, refused, none, fault}
use Rattle.simulation.specs.Answers.{relation, related, reply_at}
use Rattle.arena.specs.Job.{Job, mode_of, game_of}
use Rattle.arena.specs.Refusals.{open_fault}
use Rattle.table.specs.Calls.{entry_fault}
use Rattle.relation.specs.Calls.{rest_fault, relating, replying}

pub replying_shut : (j : Job) (t : List ℕ) (v : ℕ) (r : Refusal) → open_fault j (length t) ≡ fault r → replying j t v ≡ refused r
unfolding replying
replying_shut j t v r e = simp e

module _ (j : Job) (t : List ℕ) (o : open_fault j (length t) ≡ none) where
  -- an entry is above T, or none is and the table is not at rest, or it is
  abbrev pub Above : Refusal → Type 0
  Above r = entry_fault (game_of j) t ≡ fault r

  abbrev pub Restless : Refusal → Type 0
  Restless r = (entry_fault (game_of j) t ≡ none) × (rest_fault (game_of j) t ≡ fault r)

  abbrev pub Resting : Type 0
  Resting = (entry_fault (game_of j) t ≡ none) × (rest_fault (game_of j) t ≡ none)

  module _ (out : List ℕ) where
    pub relating-above : (r : Refusal) → Above r → relating j t out ≡ record { answer = refused r; left = out }
    unfolding relating
    relating-above r e = simp (o, e)

    pub relating-restless : (r : Refusal) → Restless r → relating j t out ≡ record { answer = refused r; left = out }
    unfolding relating
    relating-restless r e = simp (o, e.0, e.1)

    pub relating_misfit : Resting → length out ≢ j.board.n * j.board.n → relating j t out ≡ record { answer = refused OutputLength; left = out }
    unfolding relating
    relating_misfit e n = simp (o, e.0, e.1, ne_eqb (length out) (j.board.n * j.board.n) n)

    pub relating-does : Resting → length out ≡ j.board.n * j.board.n
        → relating j t out ≡ record { answer = valued (related j.board (mode_of j.mode) t); left = relation j.board (mode_of j.mode) t }
    unfolding relating
    relating-does e n = simp (o, e.0, e.1, eq-eqb (length out) (j.board.n * j.board.n) n)

  module _ (v : ℕ) where
    pub replying-above : (r : Refusal) → Above r → replying j t v ≡ refused r
    unfolding replying
    replying-above r e = simp (o, e)

    pub replying-beyond : entry_fault (game_of j) t ≡ none → (game_of j).P ≤ v → replying j t v ≡ refused PositionNumber
    unfolding replying
    replying-beyond e h = simp (o, e, le-leb (game_of j).P v h)

    pub replying-restless : (r : Refusal) → Restless r → v < (game_of j).P → replying j t v ≡ refused r
    unfolding replying
    replying-restless r e h = simp (o, e.0, e.1, lt-leb (game_of j).P v h)

    pub replying-does : Resting → v < (game_of j).P → replying j t v ≡ reply_at j.board (mode_of j.mode) t v
    unfolding replying
    replying-does e h = simp (o, e.0, e.1, lt-leb (game_of j).P v h)
