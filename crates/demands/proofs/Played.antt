-- What demand 2 needs of the calls: the bytes that an accepted `relation` leaves, and that a choice which takes the replies follows them.
use Rattle.std.proofs.Common.{◌≡◌, sym, ap, subst, ◌↔◌, true, List, ℕ, ◌<◌, ltb-true, lt-ltb}
use Rattle.games.specs.Game.{at}
use Rattle.games.specs.Lift.{AtRest, Least}
use Rattle.games.proofs.Settle.{settle-least}
use Rattle.automaton.specs.declared.Mode.{Mode}
use Rattle.automaton.specs.Board.{Board, Formed}
use Rattle.automaton.specs.Effect.{Effect}
use Rattle.simulation.specs.Answers.{settled, below, relation, replies}
use Rattle.simulation.specs.Meaning.{Heeds}
use Rattle.simulation.specs.Position.{number}
use Rattle.simulation.specs.Rules.{beginning, ceiling, game}
use Rattle.simulation.specs.Won.{Choices, WonPair}
use Rattle.simulation.proofs.Relation.{least_won}
use Rattle.arena.specs.Job.{Job, mode_of, game_of}
use Rattle.arena.specs.Refusals.{Proper}
use Rattle.table.specs.Calls.{settling}
use Rattle.table.proofs.Accepted.{settle-accepted, settle-does}
use Rattle.relation.specs.Calls.{relating}
use Rattle.relation.proofs.Accepted.{relation-accepted, relation-does, reply-does}
use Rattle.demands.specs.Replies.{TakesReplies}

-- the table that an accepted `settle` leaves is the settled one, which is the least at rest
module _ (j : Job) (lent : List ℕ) (accepted : (settling j lent).answer.number ≡ 0) where
  settled_is : (settling j lent).left ≡ (settled j.board (mode_of j.mode)).table
  settled_is = ap (λ (x : Effect (List ℕ)). x.left) (settle-does j lent ((settle-accepted j lent).0 accepted))

  pub settled_proper : Proper j
  settled_proper = ((settle-accepted j lent).0 accepted).0

  pub settled-least : Least (game_of j) (settling j lent).left
  settled-least = subst (Least (game_of j)) (sym settled_is) (settle-least (game_of j))

-- the bytes of an accepted `relation`
pub relation-left : (j : Job) (t out : List ℕ) → (relating j t out).answer.number ≡ 0 → (relating j t out).left ≡ relation j.board (mode_of j.mode) t
relation-left j t out accepted =
    let (p, (r, s)) = (relation-accepted j t out).0 accepted in
    ap (λ (x : Effect (List ℕ)). x.left) (relation-does j t out p r s)

-- whoever takes the replies of a table at rest follows them
pub takes_heeds : (j : Job) (t : List ℕ) → Proper j → AtRest (game_of j) t → (σ : Choices) → TakesReplies j t σ → Heeds j.board (mode_of j.mode) t σ
takes_heeds j t p s σ takes b q r a h l =
    takes b q r a h (replies j.board (mode_of j.mode) t b q r a) (reply-does j t p s b q r a h l)

-- the pairs below T on the settled table are those won
pub below-settled : (B : Board) → Formed B → (m : Mode) (q r : ℕ) → q < B.n → r < B.n → (below B m (settled B m).table q r ≡ true) ↔ WonPair B m q r
below-settled B F m q r h l =
    let w = least_won B F m (settled B m).table q r h l (settle-least (game B m)) in
    (λ e. w.0 (ltb-true (at (settled B m).table (number B m (beginning B m q r))) (ceiling B m) e), λ x. lt-ltb (at (settled B m).table (number B m (beginning B m q r))) (ceiling B m) (w.1 x))
