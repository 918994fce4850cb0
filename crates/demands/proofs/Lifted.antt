-- What calls of `lift` after an accepted `clear` do, whatever their order: the lifts of the positions that were due.
use Rattle.std.proofs.Common.{◌≡◌, sym, ap, ◌∙◌, subst, ◌⊎◌, List, ℕ, ◌*◌, ◌≤◌, ◌<◌}
use Rattle.games.specs.Game.{at}
use Rattle.games.specs.Lift.{cleared, lifts, raises, Covers, AtRest, Least}
use Rattle.games.proofs.Lift.{cleared-entries, cleared-capped}
use Rattle.games.proofs.Lift as lifting-laws
use Rattle.games.proofs.Raises as raising-laws
use Rattle.games.proofs.Settle as settling-laws
use Rattle.arena.specs.Job.{Job, game_of}
use Rattle.automaton.specs.Effect.{Effect}
use Rattle.table.specs.Calls.{clearing}
use Rattle.table.proofs.Accepted.{clear-accepted, clear-does}
use Rattle.demands.specs.Order.{Call, AllOrderly, after, raised, due_positions}
use Rattle.demands.proofs.Order.{Held, after-lifts, held_after}

-- An accepted `clear` of a lent table,
module _ (j : Job) (lent : List ℕ) (accepted : (clearing j lent).answer.number ≡ 0) where
  start : (clearing j lent).left ≡ cleared (game_of j)
  start = ap (λ (x : Effect (List ℕ)). x.left) (clear-does j lent ((clear-accepted j lent).0 accepted))

  held : Held j (clearing j lent).left
  held = subst (Held j) (sym start) (record { proper = ((clear-accepted j lent).0 accepted).0; entries = cleared-entries (game_of j); capped = cleared-capped (game_of j) })

  -- and orderly calls of `lift` after it.
  module _ (cs : List Call) (orderly : AllOrderly j (clearing j lent).left cs) where
    -- the table after the calls, and how many of them raised an entry
    abbrev table : List ℕ
    table = after j (clearing j lent).left cs

    abbrev raises_so_far : ℕ
    raises_so_far = raised j (clearing j lent).left cs

    table_is : table ≡ lifts (game_of j) (cleared (game_of j)) (due_positions cs)
    table_is = (after-lifts j cs (clearing j lent).left held orderly).0 ∙ ap (λ (t : List ℕ). lifts (game_of j) t (due_positions cs)) start

    raises_are : raises_so_far ≡ raises (game_of j) (cleared (game_of j)) (due_positions cs)
    raises_are = (after-lifts j cs (clearing j lent).left held orderly).1 ∙ ap (λ (t : List ℕ). raises (game_of j) t (due_positions cs)) start

    now_held : Held j table
    now_held = held_after j cs (clearing j lent).left held orderly

    pub never-past : (least : List ℕ) → Least (game_of j) least → (v : ℕ) → at table v ≤ at least v
    never-past least l v = rw table_is (lifting-laws.never-past (game_of j) (due_positions cs) least l.at_rest v)

    pub one_table : (least : List ℕ) → Least (game_of j) least → AtRest (game_of j) table → table ≡ least
    one_table least l r = table_is ∙ settling-laws.one_table (game_of j) least (due_positions cs) l (subst (AtRest (game_of j)) table_is r)

    pub all-lifted : (ds : List Call) → AllOrderly j table ds → Covers (game_of j) (due_positions ds) → AtRest (game_of j) table ⊎ (0 < raised j table ds)
    all-lifted ds o c =
        rw (after-lifts j ds table now_held o).1 (raising-laws.rest-or-raised (game_of j) table (due_positions ds) now_held.entries now_held.capped c)

    pub raises-most : raises_so_far ≤ (game_of j).P * (game_of j).T
    raises-most = rw raises_are (raising-laws.raises-most (game_of j) (due_positions cs))
