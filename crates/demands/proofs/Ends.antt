-- Calls that are lent no buffer end properly as well, and results that meet a promise are the same.
use Rattle.std.proofs.Common.{◌≡◌, refl, sym, ◌∙◌, ◌≢◌, ◌↔◌, List, [], ◌∷◌, ℕ, ◌≤◌, ◌<◌, length}
use mathlib.Core.Logic.Iff
use Rattle.games.specs.Game.{at}
use Rattle.automaton.specs.declared.Mode.{Mode}
use Rattle.automaton.specs.declared.Refusal.TheVariants.{NotAtRest}
use Rattle.automaton.specs.Answer.{Answer, accepted, valued, placed, Fault, none, fault, first_fault, unless}
use Rattle.automaton.specs.declared.Automaton.{Automaton}
use Rattle.automaton.specs.Board.{Board, board_of}
use Rattle.automaton.specs.Limits.{most_states, most_letters}
use Rattle.automaton.proofs.Fault.{unless-number}
use Rattle.automaton.proofs.Sound.{limits-line}
use Rattle.automaton.specs.Check.{states_fault, letters_fault, automaton_fault, mode_fault, limited, checked}
use Rattle.automaton.specs.First.{first}
use Rattle.simulation.specs.Answers.{blue_moves, blue_reply, turn_fault, lost_fault, move_fault, reply_on}
use Rattle.simulation.specs.Position.{Position, positions, position}
use Rattle.simulation.specs.Rules.{ceiling}
use Rattle.arena.specs.Job.{Job, mode_of, game_of}
use Rattle.arena.specs.Refusals.{job_fault, open_fault, Fitting, sizing, topping}
use Rattle.arena.proofs.Open.{open_line}
use Rattle.entries.specs.Found.{restless}
use Rattle.table.specs.Calls.{entry_fault, position_fault, rested, resting}
use Rattle.table.proofs.Accepted.{rest-number}
use Rattle.table.proofs.AtRest.{rest-lowest}
use Rattle.relation.specs.Calls.{rest_fault, replying}
use Rattle.relation.proofs.Tested.{rest-placed}
use Rattle.relation.proofs.Effects.{relating-restless, replying-restless}
use Rattle.automaton.specs.Effect.{Effect, Refuses}
use Rattle.demands.specs.Ends.{answering, One, TurnsAway}

-- a refusal, or what comes after the refusals
unless_refuses : (f : Fault) (a : Answer) → (a.number ≢ 0 → Refuses tt (answering a)) → (unless f a).number ≢ 0 → Refuses tt (answering (unless f a))
unless_refuses none a k n = k n
unless_refuses (fault r) a k n = (r, refl)

pub limits-accepted : (n k : ℕ) → ((limited n k).number ≡ 0) ↔ (((0 < n) × (n ≤ most_states)) × ((0 < k) × (k ≤ most_letters)))
unfolding limited
limits-accepted n k = Iff.trans (unless-number (first_fault (states_fault n ∷ letters_fault k ∷ [])) accepted refl) (limits-line n k)

pub limits_refuses : (n k : ℕ) → (limited n k).number ≢ 0 → Refuses tt (answering (limited n k))
unfolding limited
limits_refuses n k = unless_refuses (first_fault (states_fault n ∷ letters_fault k ∷ [])) accepted (λ n. absurd (n refl))

pub positions_refuses : (a : Automaton) (mode : ℕ) → (sizing a mode).number ≢ 0 → Refuses tt (answering (sizing a mode))
positions_refuses a mode =
    unless_refuses (first_fault (states_fault a.states ∷ letters_fault a.letters ∷ mode_fault mode ∷ [])) (valued (positions (board_of a [] []) (mode_of mode))) (λ n. absurd (n refl))

pub ceiling_refuses : (j : Job) → (topping j).number ≢ 0 → Refuses tt (answering (topping j))
ceiling_refuses j = unless_refuses (job_fault j) (valued (game_of j).T) (λ n. absurd (n refl))

pub check_refuses : (B : Board) (start : ℕ) → (checked B start).number ≢ 0 → Refuses tt (answering (checked B start))
unfolding checked
check_refuses B start = unless_refuses (automaton_fault B start) accepted (λ n. absurd (n refl))

pub rest_refuses : (j : Job) (t : List ℕ) → (resting j t).number ≢ 0 → Refuses tt (answering (resting j t))
unfolding resting rested
rest_refuses j t =
    unless_refuses (open_fault j (length t)) _
    (unless_refuses (entry_fault (game_of j) t) _ (λ n. absurd (n (rest-number (game_of j).P (first (restless (game_of j) t) 0 (game_of j).P)))))

replied_refuses : (B : Board) (m : Mode) (t : List ℕ) (v : ℕ) (p : Position) → (reply_on B m t v p).number ≢ 0 → Refuses tt (answering (reply_on B m t v p))
replied_refuses B m t v p =
    unless_refuses (first_fault (turn_fault p ∷ lost_fault (ceiling B m) (at t v) ∷ move_fault (blue_moves B p) ∷ [])) (valued (blue_reply B m t p)) (λ n. absurd (n refl))

pub reply_refuses : (j : Job) (t : List ℕ) (v : ℕ) → (replying j t v).number ≢ 0 → Refuses tt (answering (replying j t v))
unfolding replying
reply_refuses j t v =
    unless_refuses (open_fault j (length t)) _
    (unless_refuses (first_fault (entry_fault (game_of j) t ∷ position_fault (game_of j) v ∷ rest_fault (game_of j) t ∷ [])) _
    (replied_refuses j.board (mode_of j.mode) t v (position j.board (mode_of j.mode) v)))

pub one : {R X : Type 0} (of : R → Answer) (e : Effect X) → ((r s : R) → of r ≡ of s → r ≡ s) → One of e
one of e same r s x y p q = (same r s (p.answers ∙ sym q.answers), p.leaves ∙ sym q.leaves)

-- what the calls say of a table whose lowest position not at rest is v
pub turns_away : (j : Job) (t : List ℕ) → Fitting j t → (v : ℕ) → resting j t ≡ placed v → TurnsAway j t v
turns_away j t f v e =
    let o = (open_line j t).1 f in
    let r = rest-placed j t o v (sym e) in
    let l = rest-lowest j t v e in
    record {
      inside = l.0;
      restless = l.1.0;
      lowest = l.1.1;
      rest = e;
      relation = λ out. relating-restless j t o out (NotAtRest v) r;
      reply = λ u h. replying-restless j t o u (NotAtRest v) r h;
    }
