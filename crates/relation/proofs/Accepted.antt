-- When `relation` and `reply` are accepted, and that a refused `relation` leaves the bytes as they were.
use Rattle.std.proofs.Common.{◌≡◌, refl, sym, ap, ◌∙◌, subst, ◌≢◌, ◌↔◌, List, [], ◌∷◌, ℕ, ◌*◌, ◌-◌, ◌≤◌, ◌<◌, arith, eqb, length, eqb-true, eq-eqb, ltb-false, le-ltb, leb-false}
use native.Mathlib.Decide.{dec_lt}
use borrow.Author.Tests.{not-false, lt-leb}
use mathlib.Core.Logic.Iff
use Rattle.games.specs.Game.{Game, at}
use Rattle.games.specs.Lift.{Rest, AtRest}
use Rattle.automaton.specs.declared.Mode.{Mode}
use Rattle.automaton.specs.declared.Refusal.TheVariants.{NotAtRest, LostPosition, OutputLength}
use Rattle.automaton.specs.Answer.{Answer, valued, none, first_fault}
use Rattle.automaton.specs.Board.{Board}
use Rattle.automaton.specs.Effect.{Refuses}
use Rattle.automaton.proofs.Effects.{unless_also, always, does-number, does-refuse}
use Rattle.automaton.proofs.Fault.{Line, found, fails-line, fails_at-line, ◌then◌, end, table-line, unless-number}
use Rattle.simulation.specs.Answers.{relation, related, replies, turn_fault, lost_fault, move_fault, blue_moves, blue_reply}
use Rattle.simulation.specs.Position.{duplicator, pairs, number, duplicator_at, position, Fits}
use Rattle.simulation.specs.Rules.{ceiling}
use Rattle.simulation.proofs.Position.{spoilers_turn, duplicators_turn, number_lt, number-position, position_fits}
use Rattle.simulation.proofs.Reply.{reply-answers}
use Rattle.arena.specs.Job.{Job, mode_of, game_of}
use Rattle.arena.specs.Refusals.{open_fault, Proper}
use Rattle.arena.proofs.Open.{open_line}
use Rattle.entries.specs.Found.{restless}
use Rattle.table.specs.Calls.{entry_fault, position_fault}
use Rattle.table.proofs.Accepted.{entry-line, position-line}
use Rattle.relation.specs.Calls.{rest_fault, output_fault, relating, replying, Sized, Answerable}
use Rattle.relation.proofs.Effects.{relating-does, replying-does}

-- ---- the lines 12 and 16

rest-line : (g : Game) (t : List ℕ) → Line (rest_fault g t) (Rest g (at t))
rest-line g t =
    fails_at-line NotAtRest (restless g t) _ g.P
    (λ a v l. ltb-false _ _ (a v l), λ r v l. le-ltb _ _ (r v l))

output_line : (B : Board) (bytes : ℕ) → Line (output_fault B bytes) (bytes ≡ B.n * B.n)
output_line B bytes =
    fails-line _ _ OutputLength
    (λ e. eqb-true bytes (B.n * B.n) (not-false (eqb bytes (B.n * B.n)) e), λ e. simp (eq-eqb bytes (B.n * B.n) e))

-- none of the refusals 1 to 10 and 12 applies
resting : (j : Job) (t : List ℕ) → Proper j → AtRest (game_of j) t
    → (open_fault j (length t) ≡ none) × ((entry_fault (game_of j) t ≡ none) × (rest_fault (game_of j) t ≡ none))
resting j t p r = ((open_line j t).1 (p, r.entries), ((entry-line (game_of j) t).1 r.capped, (rest-line (game_of j) t).1 r.rest))

-- ---- relation

module _ (j : Job) (t out : List ℕ) where
  pub relation-accepted : ((relating j t out).answer.number ≡ 0) ↔ (Proper j × (AtRest (game_of j) t × Sized j.board out))
  unfolding relating
  relation-accepted =
      Iff.trans
      (does-number (open_fault j (length t)) out _ _ _ (open_line j t)
      (does-number (first_fault (entry_fault (game_of j) t ∷ rest_fault (game_of j) t ∷ output_fault j.board (length out) ∷ [])) out _ _ _
      (table-line (entry-line (game_of j) t then rest-line (game_of j) t then output_line j.board (length out) then end))
      (always (valued (related j.board (mode_of j.mode) t)) refl))) (
        λ h. let l = h.1.0 in (h.0.0, (record { entries = h.0.1; capped = l.0; rest = l.1.0 }, l.1.1.0)),
        λ h. let r = h.1.0 in ((h.0, r.entries), ((r.capped, (r.rest, (h.1.1, tt))), tt)),
      )

  pub relation-does : Proper j → AtRest (game_of j) t → Sized j.board out
      → relating j t out ≡ record { answer = valued (related j.board (mode_of j.mode) t); left = relation j.board (mode_of j.mode) t }
  relation-does p r s = let (o, e) = resting j t p r in relating-does j t o out e s

  pub relation-refused : (relating j t out).answer.number ≢ 0 → Refuses out (relating j t out)
  unfolding relating
  relation-refused =
      does-refuse (open_fault j (length t)) out _
      (does-refuse (first_fault (entry_fault (game_of j) t ∷ rest_fault (game_of j) t ∷ output_fault j.board (length out) ∷ [])) out _ (λ n. absurd (n refl)))

-- ---- reply

-- at a Duplicator's position below T the answer is the reply
pub reply-does : (j : Job) (t : List ℕ) → Proper j → AtRest (game_of j) t → (b q r a : ℕ) → let B = j.board in let m = mode_of j.mode in
    Fits B m (duplicator b q r a) → at t (number B m (duplicator b q r a)) < ceiling B m
    → replying j t (number B m (duplicator b q r a)) ≡ valued (replies B m t b q r a)
reply-does j t p s b q r a h l =
    let B = j.board in
    let m = mode_of j.mode in
    let (o, e) = resting j t p s in
    replying-does j t o (number B m (duplicator b q r a)) e (number_lt B m (duplicator b q r a) h)
    ∙ reply-answers B p.0 m t s b q r a h l

module _ (j : Job) (t : List ℕ) (v : ℕ) where
  -- refusals 13 to 15, by whose turn it is
  turn-line : Line (turn_fault (position j.board (mode_of j.mode) v)) (pairs j.board (mode_of j.mode) ≤ v)
  turn-line = go (dec_lt v (pairs j.board (mode_of j.mode)))
    where
      B : Board
      B = j.board

      m : Mode
      m = mode_of j.mode

      go : Dec (v < pairs B m) → Line (turn_fault (position B m v)) (pairs B m ≤ v)
      go (yes l) = (λ e. absurd (found (sym (ap turn_fault (spoilers_turn B m v l)) ∙ e)), λ h. absurd (omega arith))
      go (no l) = (λ e. omega arith, λ h. ap turn_fault (duplicators_turn B m v h))

  lost_line : Line (lost_fault (game_of j).T (at t v)) (at t v < (game_of j).T)
  lost_line = fails-line _ _ LostPosition (leb-false (game_of j).T (at t v), lt-leb (game_of j).T (at t v))

  pub reply-accepted : ((replying j t v).number ≡ 0) ↔ Answerable j t v
  unfolding replying
  reply-accepted = (there, back)
    where
      B : Board
      B = j.board

      m : Mode
      m = mode_of j.mode

      there : (replying j t v).number ≡ 0 → Answerable j t v
      there z =
          let lines = table-line (entry-line (game_of j) t then position-line (game_of j) v then rest-line (game_of j) t then end) in
          let faults = turn_fault (position B m v) ∷ lost_fault (ceiling B m) (at t v) ∷ move_fault (blue_moves B (position B m v)) ∷ [] in
          let here : Line (first_fault faults) ((pairs B m ≤ v) × ((at t v < (game_of j).T) × ((move_fault (blue_moves B (position B m v)) ≡ none) × Unit {0}))) = table-line (turn-line then lost_line then (λ e. e, λ e. e) then end) in
          let all =
          (unless_also (open_fault j (length t)) _ _ _ (open_line j t)
          (unless_also (first_fault (entry_fault (game_of j) t ∷ position_fault (game_of j) v ∷ rest_fault (game_of j) t ∷ [])) _ _ _ lines
          (Iff.trans (unless-number (first_fault faults) (valued (blue_reply B m t (position B m v))) refl) here))).0 z in
          let e = all.1.0 in
          let d = all.1.1 in
          (all.0.0, (record { entries = all.0.1; capped = e.0; rest = e.1.1.0 }, (e.1.0, (d.0, d.1.0))))

      back : Answerable j t v → (replying j t v).number ≡ 0
      back (p, (s, (h, (k, l)))) =
          let w = v - pairs B m in
          let turn = duplicators_turn B m v k in
          let same : number B m (duplicator_at B w) ≡ v = sym (ap (number B m) turn) ∙ number-position B m v in
          let fits : Fits B m (duplicator_at B w) = subst (Fits B m) turn (position_fits B m p.0 v h) in
          subst (λ (x : ℕ). (replying j t x).number ≡ 0) same
          (ap (λ (a : Answer). a.number) (reply-does j t p s _ _ _ _ fits (subst (λ (x : ℕ). at t x < ceiling B m) (sym same) l)))
