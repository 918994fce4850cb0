-- The three demands, each theorem under the tester's words that it renders, and what the quotient merges.
-- They speak of the calls' promises, which are functions: `limited`, `checked`, `sizing`, `topping`, `clearing`, `lifting`, `resting`, `settling`,
-- `relating`, `replying`, `quotienting`, `reading` and `reporting` give, for every input, what a call answers and what it leaves in the buffers lent to it. The code is proved to do that.
-- A job is an automaton, by its board and its start, and the number of a mode.
use Rattle.std.proofs.Common.{◌≡◌, ◌≢◌, ◌↔◌, ◌⊎◌, refl, sym, ap, ◌∙◌, ⊎_elim, true, false, None, List, ℕ, ◌+◌, ◌*◌, ◌≤◌, ◌<◌, length, get_or, ne_eqb}
use Rattle.games.specs.Game.{at}
use Rattle.games.specs.Lift.{Capped, Covers, AtRest, Least}
use Rattle.automaton.specs.declared.Mode.TheVariants.{Delayed, Fair}
use Rattle.automaton.specs.declared.Refusal.{Refusal}
use Rattle.automaton.specs.declared.Refusal.TheVariants.{ModeNumber, TableLength, WrongMode}
use Rattle.automaton.specs.declared.Automaton.{Automaton}
use Rattle.automaton.specs.Answer.{answered, done, valued, number_of, refused, Fault, none, fault}
use Rattle.automaton.specs.Board.{Board, Formed, accepts}
use Rattle.automaton.specs.Check.{automaton_fault, limited, checked}
use Rattle.automaton.specs.Limits.{most_states, most_letters, name_of}
use Rattle.simulation.specs.Answers.{below, settled, replies}
use Rattle.simulation.specs.Cases.{AllHold, merged_cases}
use Rattle.simulation.specs.Meaning.{LowestLeast, Brings, ahead, tally_all, Leaves}
use Rattle.simulation.specs.Moves.{Moves}
use Rattle.simulation.specs.Position.{Position, spoiler, duplicator, number, Fits}
use Rattle.simulation.specs.Rules.{ceiling, game}
use Rattle.simulation.specs.Won.{Choices, Walks, Answered, WonPair}
use Rattle.arena.specs.Job.{Job, mode_of, game_of}
use Rattle.arena.specs.Refusals.{job_fault, open_fault, Proper, Fitting, sizing, topping}
use Rattle.table.specs.Answers.{found, rose}
use Rattle.table.specs.Calls.{clearing, lifting, resting, settling}
use Rattle.relation.specs.Calls.{relating, replying, Answerable}
use Rattle.relation.specs.Calls as of-relation
use Rattle.quotient.specs.Answers.{merged}
use Rattle.quotient.specs.Calls.{Buffers, Mergeable, quotienting, written}
use Rattle.quotient.specs.Calls as of-quotient
use Rattle.lines.specs.Lines.{lines_of}
use Rattle.text.specs.Answers.{of_reading}
use Rattle.text.specs.Calls.{Lent, Roomy, reading}
use Rattle.text.specs.Text.{mode, board_in, text_fault, Legible}
use Rattle.report.specs.Calls.{longest, reporting}
use Rattle.printer.specs.Printed.{refusal_text, relation_text}
use Rattle.report.specs.Report.{job_read, report_of}
use Rattle.demands.specs.Ends.{answering, Ends, One, TurnsAway}
use Rattle.demands.specs.Replies.{job_in, TakesReplies}
use Rattle.demands.specs.Order.{Call, AllOrderly, after, raised, due_positions}
-- the proofs
use Rattle.automaton.proofs.One.{one_result}
use Rattle.automaton.proofs.Sound.{automaton-line, automaton-to, sound}
use Rattle.simulation.proofs.Cases as worked
use Rattle.simulation.proofs.Meaning as playing
use Rattle.simulation.proofs.Relation.{relation-rest, relation-least}
use Rattle.simulation.proofs.Reply.{has_move, reply-lowest-least}
use Rattle.arena.proofs.Accepted.{positions-accepted, ceiling-accepted}
use Rattle.arena.proofs.One.{one-counted}
use Rattle.arena.proofs.Open.{job_line}
use Rattle.table.proofs.Accepted.{clear-accepted, clear-refused, lift-accepted, lift-refused, rest-accepted, settle-accepted, settle-refused}
use Rattle.table.proofs.AtRest.{rest-told, rest-either}
use Rattle.table.proofs.One.{one-cleared, one-lifted, one-rested, one-settled}
use Rattle.relation.proofs.Accepted.{relation-accepted, relation-refused, reply-accepted, reply-does}
use Rattle.relation.proofs.One.{one-related, one-replied}
use Rattle.quotient.proofs.Accepted.{quotient-accepted, quotient-refused, quotient-wrong, quotient_length}
use Rattle.quotient.proofs.One.{one_merged}
use Rattle.quotient.proofs.Meaning as merging
use Rattle.text.proofs.Accepted.{text_line, read-accepted, read-refused}
use Rattle.text.proofs.One.{one-reading}
use Rattle.report.proofs.Accepted.{report-accepted, report_refuses}
use Rattle.report.proofs.One.{one_reported}
use Rattle.report.proofs.Told.{report-refused, report-told, report_fits}
use Rattle.demands.proofs.Ends.{limits-accepted, limits_refuses, check_refuses, positions_refuses, ceiling_refuses, rest_refuses, reply_refuses, turns_away, one}
use Rattle.demands.proofs.Played.{settled_proper, settled-least, below-settled, relation-left, takes_heeds}
use Rattle.demands.proofs.Lifted as lifting

-- ==== Demand 1
-- "Every call ends properly for every input. A malformed automaton, an unknown mode, a table of wrong length, or not at rest where rest is needed,
-- gets its numbered refusal, and a refused call writes nothing in the buffers lent to it."

-- Of each call that refuses: it is accepted exactly if it is given what it needs; if not, it answers a numbered refusal and leaves what it was lent;
-- and two results that meet its promise are the same.

pub check-ends : (B : Board) (start : ℕ) → Ends tt (answering (checked B start)) (Formed B × (start < B.n))
check-ends B start = record { accepted = sound B start; refused = check_refuses B start }

pub check-one : (B : Board) (start : ℕ) → One (answered done) (answering (checked B start))
check-one B start = one (answered done) (answering (checked B start)) one_result

pub limits-ends : (n k : ℕ) → Ends tt (answering (limited n k)) (((0 < n) × (n ≤ most_states)) × ((0 < k) × (k ≤ most_letters)))
limits-ends n k = record { accepted = limits-accepted n k; refused = limits_refuses n k }

pub limits-one : (n k : ℕ) → One (answered done) (answering (limited n k))
limits-one n k = one (answered done) (answering (limited n k)) one_result

pub positions-ends : (a : Automaton) (mode : ℕ)
    → Ends tt (answering (sizing a mode)) (((0 < a.states) × (a.states ≤ most_states)) × ((0 < a.letters) × (a.letters ≤ most_letters)) × (name_of mode ≢ None))
positions-ends a mode = record { accepted = positions-accepted a mode; refused = positions_refuses a mode }

pub positions-one : (a : Automaton) (mode : ℕ) → One (answered valued) (answering (sizing a mode))
positions-one a mode = one (answered valued) (answering (sizing a mode)) one-counted

pub ceiling-ends : (j : Job) → Ends tt (answering (topping j)) (Proper j)
ceiling-ends j = record { accepted = ceiling-accepted j; refused = ceiling_refuses j }

pub ceiling-one : (j : Job) → One (answered valued) (answering (topping j))
ceiling-one j = one (answered valued) (answering (topping j)) one-counted

module _ (j : Job) (t : List ℕ) where
  pub clear-ends : Ends t (clearing j t) (Fitting j t)
  clear-ends = record { accepted = clear-accepted j t; refused = clear-refused j t }

  pub clear-one : One (answered done) (clearing j t)
  clear-one = one (answered done) (clearing j t) one-cleared

  pub settle-ends : Ends t (settling j t) (Fitting j t)
  settle-ends = record { accepted = settle-accepted j t; refused = settle-refused j t }

  pub settle-one : One (answered valued) (settling j t)
  settle-one = one (answered valued) (settling j t) one-settled

  pub lift-ends : (v : ℕ) → Ends t (lifting j t v) (Fitting j t × (Capped (game_of j) t × (v < (game_of j).P)))
  lift-ends v = record { accepted = lift-accepted j t v; refused = lift-refused j t v }

  pub lift-one : (v : ℕ) → One (answered rose) (lifting j t v)
  lift-one v = one (answered rose) (lifting j t v) one-lifted

  pub rest-ends : Ends tt (answering (resting j t)) (Fitting j t × Capped (game_of j) t)
  rest-ends = record { accepted = rest-accepted j t; refused = rest_refuses j t }

  pub rest-one : One (answered found) (answering (resting j t))
  rest-one = one (answered found) (answering (resting j t)) one-rested

  pub relation-ends : (out : List ℕ) → Ends out (relating j t out) (Proper j × (AtRest (game_of j) t × of-relation.Sized j.board out))
  relation-ends out = record { accepted = relation-accepted j t out; refused = relation-refused j t out }

  pub relation-one : (out : List ℕ) → One (answered valued) (relating j t out)
  relation-one out = one (answered valued) (relating j t out) one-related

  pub reply-ends : (v : ℕ) → Ends tt (answering (replying j t v)) (Answerable j t v)
  reply-ends v = record { accepted = reply-accepted j t v; refused = reply_refuses j t v }

  pub reply-one : (v : ℕ) → One (answered valued) (answering (replying j t v))
  reply-one v = one (answered valued) (answering (replying j t v)) one-replied

pub quotient-ends : (j : Job) (x : Buffers) → Ends x (quotienting j x) (Fitting j x.table × Mergeable j.mode × of-quotient.Sized j.board x)
quotient-ends j x = record { accepted = quotient-accepted j x; refused = quotient-refused j x }

pub quotient-one : (j : Job) (x : Buffers) → One (answered merged) (quotienting j x)
quotient-one j x = one (answered merged) (quotienting j x) one_merged

-- `read`: a text that is not legible has one of the program's refusals
pub read-ends : (text : List ℕ) (x : Lent) → Ends x (reading text x) (Legible text × Roomy text x)
read-ends text x = record { accepted = read-accepted text x; refused = read-refused text x }

pub read_one : (text : List ℕ) (x : Lent) → One (answered of_reading) (reading text x)
read_one text x = one (answered of_reading) (reading text x) one-reading

-- `report`, of any text at all: it needs room for the longest report
pub report-ends : (text out : List ℕ) → Ends out (reporting text out) (longest ≤ length out)
report-ends text out = record { accepted = report-accepted text out; refused = report_refuses text out }

pub report-one : (text out : List ℕ) → One (answered valued) (reporting text out)
report-one text out = one (answered valued) (reporting text out) one_reported

-- The refusals 1 to 9 are the same in every call on a table but `quotient`, and 1 to 7 those of `check`.
pub same-refusal : (j : Job) (t : List ℕ) (r : Refusal) → open_fault j (length t) ≡ fault r
    → (clearing j t ≡ record { answer = refused r; left = t })
    × (settling j t ≡ record { answer = refused r; left = t })
    × ((v : ℕ) → lifting j t v ≡ record { answer = refused r; left = t })
    × (resting j t ≡ refused r)
    × ((out : List ℕ) → relating j t out ≡ record { answer = refused r; left = out })
    × ((v : ℕ) → replying j t v ≡ refused r)
unfolding clearing settling lifting resting relating replying
same-refusal j t r e = (simp e, simp e, λ v. simp e, simp e, λ out. simp e, λ v. simp e)

-- `quotient` has the same refusals 1 to 8. After them it refuses the modes 0 and 3 with 17, whatever it is lent; in modes 1 and 2 it has 9 as the others do.
module _ (j : Job) (x : Buffers) where
  pub merge-same : (r : Refusal) → job_fault j ≡ fault r
      → (open_fault j (length x.table) ≡ fault r) × (quotienting j x ≡ record { answer = refused r; left = x })
  unfolding quotienting
  merge-same r e = (simp e, simp e)

  pub merge-wrong : Proper j → (j.mode ≡ 0) ⊎ (j.mode ≡ 3) → quotienting j x ≡ record { answer = refused WrongMode; left = x }
  merge-wrong = quotient-wrong j x

  pub merge_length : Proper j → Mergeable j.mode → length x.table ≢ (game_of j).P → quotienting j x ≡ record { answer = refused TableLength; left = x }
  merge_length = quotient_length j x

-- "A malformed automaton" gets one of the refusals 1 to 7, from `check` and from every call on a table
pub malformed_refused : (j : Job) (t : List ℕ) → ¬ (Formed j.board × (j.start < j.board.n))
    → (r : Refusal) × (number_of r ≤ 7) × (checked j.board j.start ≡ refused r) × (job_fault j ≡ fault r) × (open_fault j (length t) ≡ fault r)
unfolding checked
malformed_refused j t n = go (automaton_fault j.board j.start) refl
  where
    go : (f : Fault) → automaton_fault j.board j.start ≡ f
        → (r : Refusal) × (number_of r ≤ 7) × (checked j.board j.start ≡ refused r) × (job_fault j ≡ fault r) × (open_fault j (length t) ≡ fault r)
    go none e = absurd (n ((automaton-line j.board j.start).0 e))
    go (fault r) e = (r, automaton-to j.board j.start r e, simp e, simp e, simp e)

-- "an unknown mode"
pub unknown_refused : (j : Job) (t : List ℕ) → Formed j.board → j.start < j.board.n → name_of j.mode ≡ None
    → (job_fault j ≡ fault ModeNumber) × (open_fault j (length t) ≡ fault ModeNumber)
unknown_refused j t F s e = let sound = (automaton-line j.board j.start).1 (F, s) in (simp (sound, e), simp (sound, e))

-- "a table of wrong length"
pub length_refused : (j : Job) (t : List ℕ) → Proper j → length t ≢ (game_of j).P → open_fault j (length t) ≡ fault TableLength
length_refused j t p n = simp ((job_line j).1 p, ne_eqb (length t) (game_of j).P n)

-- "or not at rest where rest is needed": `rest` has value 1 exactly for a table at rest, else it names the lowest position that is not,
pub rest_means : (j : Job) (t : List ℕ) → (resting j t ≡ valued 1) ↔ (Proper j × AtRest (game_of j) t)
rest_means = rest-told

-- and `relation` and `reply` refuse with 12 and that position.
pub restless-refused : (j : Job) (t : List ℕ) → Fitting j t → Capped (game_of j) t → ¬ AtRest (game_of j) t → (v : ℕ) × TurnsAway j t v
restless-refused j t f c n = ⊎_elim (λ e. absurd (n ((rest-told j t).0 e).1)) (λ w. (w.0, turns_away j t f w.0 w.1)) (rest-either j t f c)

-- ==== Demand 2

-- "From a settled table a pair is reported in ordinary, direct, delayed or fair mode exactly if Duplicator wins that mode's game,
-- as the 2005 SIAM paper by Etessami, Wilke and Schuller gives it." A pair is reported by a byte 1; won is document 01's own definition.
-- Paper.antt says the same of simulation as the paper defines it.
module _ (j : Job) (lent out : List ℕ) (settled : (settling j lent).answer.number ≡ 0) (sized : of-relation.Sized j.board out) where
  pub relation-told : (relating j (settling j lent).left out).answer.number ≡ 0
  relation-told = (relation-accepted j (settling j lent).left out).1 (settled_proper j lent settled, ((settled-least j lent settled).at_rest, sized))

  pub reported : (q r : ℕ) → q < j.board.n → r < j.board.n
      → (get_or (relating j (settling j lent).left out).left (q * j.board.n + r) 0 ≡ 1) ↔ WonPair j.board (mode_of j.mode) q r
  reported q r h l =
      rw (relation-left j (settling j lent).left out relation-told)
      (relation-least j.board (settled_proper j lent settled).0 (mode_of j.mode) (settling j lent).left q r h l (settled-least j lent settled))

-- From any table at rest, whoever filled it, what is reported is won.
pub reported_won : (j : Job) (t out : List ℕ) → (relating j t out).answer.number ≡ 0 → (q r : ℕ) → q < j.board.n → r < j.board.n
    → get_or (relating j t out).left (q * j.board.n + r) 0 ≡ 1 → WonPair j.board (mode_of j.mode) q r
reported_won j t out told q r h l e =
    let (p, (s, z)) = (relation-accepted j t out).0 told in
    relation-rest j.board p.0 (mode_of j.mode) t q r h l s (sym (ap (λ (b : List ℕ). get_or b (q * j.board.n + r) 0) (relation-left j t out told)) ∙ e)

-- On a table at rest `reply` answers at every Duplicator's position that is not lost, with the lowest numbered state among the moves to the least entry.
pub reply-told : (j : Job) (t : List ℕ) → Proper j → AtRest (game_of j) t → (b q r a : ℕ) → let B = j.board in let m = mode_of j.mode in
    Fits B m (duplicator b q r a) → at t (number B m (duplicator b q r a)) < ceiling B m
    → (s : ℕ) × (replying j t (number B m (duplicator b q r a)) ≡ valued s) × LowestLeast B m t b q r a s
reply-told j t p s b q r a h l =
    let B = j.board in
    let m = mode_of j.mode in
    (replies B m t b q r a, reply-does j t p s b q r a h l, reply-lowest-least B p.0 m t b q r a (has_move B p.0 m t s b q r a h l))

-- "In delayed mode, replies from any table at rest meet each obligation pending at a Spoiler's position neither lost nor idle
-- within as many rounds as its entry says, unless Spoiler runs out of moves."
pub obligations_met : (B : Board) (start : ℕ) (t : List ℕ) → Proper (job_in B start 2) → AtRest (game B Delayed) t
    → (σ : Choices) → TakesReplies (job_in B start 2) t σ
    → (q r : ℕ) → q < B.n → r < B.n → accepts B r ≡ false → at t (number B Delayed (spoiler 1 q r)) < ceiling B Delayed
    → Brings B σ (at t (number B Delayed (spoiler 1 q r))) (spoiler 1 q r)
obligations_met B start t p s σ takes = playing.delayed_rounds B p.0 t s σ (takes_heeds (job_in B start 2) t p s σ takes)

-- The count of fair mode, likewise: at most as many Spoiler's positions with Red accepting and Blue not, the present one counted,
-- come before the first where Blue accepts, or in all if none does.
pub fair-counted : (B : Board) (start : ℕ) (t : List ℕ) → Proper (job_in B start 3) → AtRest (game B Fair) t
    → (σ : Choices) → TakesReplies (job_in B start 3) t σ
    → (q r : ℕ) → q < B.n → r < B.n → at t (number B Fair (spoiler 0 q r)) < ceiling B Fair
    → {u : Position} (c : Walks B Fair σ (spoiler 0 q r) u) → (Leaves (Answered B) c → ⊥) → tally_all (ahead B) c ≤ at t (number B Fair (spoiler 0 q r))
fair-counted B start t p s σ takes = playing.fair-count B p.0 t s σ (takes_heeds (job_in B start 3) t p s σ takes)

-- What the relation program prints, from the bytes it reads (`report_of`): of a text that is not legible the line of its refusal;
-- of a legible one the relation of its automaton, in which a pair has a line (it is below T on the settled table) exactly if Duplicator wins it;
-- and never more than the buffer holds.
pub printed : (text : List ℕ)
    → (¬ Legible text → (r : Refusal) × (text_fault text ≡ fault r) × (report_of text ≡ refusal_text r))
    × (Legible text → let B = board_in (lines_of text) in let m = mode_of (mode (lines_of text)) in
    (report_of text ≡ relation_text (job_read text))
    × ((q r : ℕ) → q < B.n → r < B.n → (below B m (settled B m).table q r ≡ true) ↔ WonPair B m q r))
    × (length (report_of text) ≤ longest)
printed text = (
  λ n. refusal n (text_fault text) refl,
  λ l. (report-told text ((text_line text).1 l), below-settled (board_in (lines_of text)) l.formed (mode_of (mode (lines_of text)))),
  report_fits text,
)
  where
    refusal : ¬ Legible text → (f : Fault) → text_fault text ≡ f → (r : Refusal) × (text_fault text ≡ fault r) × (report_of text ≡ refusal_text r)
    refusal n none e = absurd (n ((text_line text).0 e))
    refusal n (fault r) e = (r, e, report-refused text r e)

-- What the stamp is set on: an accepted `quotient`
module _ (j : Job) (x : Buffers) (told : (quotienting j x).answer.number ≡ 0) where
  -- the class of a state, and the automaton that was written
  abbrev class : ℕ → ℕ
  class q = get_or (quotienting j x).left.classes q 0

  abbrev reduced : Board
  reduced = written j.board.k (quotienting j x)

  -- is in mode 1 or 2,
  pub merged_mode : Mergeable j.mode
  merged_mode = merging.merged_mode j x told

  -- merges exactly the states that are won against each other both ways,
  pub merged_won : (q r : ℕ) → q < j.board.n → r < j.board.n
      → (class q ≡ class r) ↔ (WonPair j.board (mode_of j.mode) q r × WonPair j.board (mode_of j.mode) r q)
  merged_won = merging.merged_won j x told

  -- numbers the classes from 0 on without a gap, in the order of their least members,
  pub merged_below : (q : ℕ) → q < j.board.n → class q < reduced.n
  merged_below = merging.merged_below j x told

  pub merged_order : (c d : ℕ) → c < d → d < reduced.n → (q : ℕ) × (q < j.board.n) × (class q ≡ c) × ((r : ℕ) → r < j.board.n → class r ≡ d → q < r)
  merged_order = merging.merged_order j x told

  -- writes a well-formed automaton, its moves strictly ascending and so each once,
  pub merged_formed : Formed reduced
  merged_formed = merging.merged_formed j x told

  -- whose moves are exactly the images of moves,
  pub merged_moves : (c a d : ℕ) → Moves reduced c a d ↔ ((q : ℕ) × (r : ℕ) × Moves j.board q a r × (class q ≡ c) × (class r ≡ d))
  merged_moves = merging.merged_moves j x told

  -- in which a class accepts exactly if some member does,
  pub merged_marks : (c : ℕ) → c < reduced.n → (accepts reduced c ≡ true) ↔ ((q : ℕ) × (q < j.board.n) × (class q ≡ c) × (accepts j.board q ≡ true))
  merged_marks = merging.merged_marks j x told

  -- and names the start's class.
  pub merged_start : get_or (quotienting j x).answer.values 2 0 ≡ class j.start
  merged_start = merging.merged_start j x told

-- Why not in the other modes: document 01's automaton C, which accepts no word, becomes one accepting class with a loop in fair and in ordinary mode.
pub merged_C : AllHold merged_cases
merged_C = worked.merged

-- ==== Demand 3
-- "Start from a cleared table, one automaton and one mode, with nobody else writing the table.
-- Lift positions one at a time, in any order, repeats and refused calls among them."

-- There is a least table at rest: the one that an accepted `settle` leaves.
pub least-table : (j : Job) (lent : List ℕ) → (settling j lent).answer.number ≡ 0 → Least (game_of j) (settling j lent).left
least-table = settled-least

-- An accepted `clear` of a lent table, and calls of `lift` after it; those among them for other jobs or with other buffers are to be refused ones.
module _ (j : Job) (lent : List ℕ) (cleared : (clearing j lent).answer.number ≡ 0) where
  module _ (cs : List Call) (orderly : AllOrderly j (clearing j lent).left cs) where
    -- the table after the calls, and how many of them raised an entry
    abbrev table : List ℕ
    table = after j (clearing j lent).left cs

    abbrev raises : ℕ
    raises = raised j (clearing j lent).left cs

    -- "No entry ever passes its value in the least table at rest."
    pub never-past : (least : List ℕ) → Least (game_of j) least → (v : ℕ) → at table v ≤ at least v
    never-past = lifting.never-past j lent cleared cs orderly

    -- "All orders that come to rest hold that table."
    pub one_table : (least : List ℕ) → Least (game_of j) least → AtRest (game_of j) table → table ≡ least
    one_table = lifting.one_table j lent cleared cs orderly

    -- "Lifting every position at least once raises something, unless the table was at rest."
    pub all-lifted : (ds : List Call) → AllOrderly j table ds → Covers (game_of j) (due_positions ds) → AtRest (game_of j) table ⊎ (0 < raised j table ds)
    all-lifted = lifting.all-lifted j lent cleared cs orderly

    -- "The lifts that raised an entry never number more than positions times the largest entry allowed."
    pub raises-most : raises ≤ (game_of j).P * (game_of j).T
    raises-most = lifting.raises-most j lent cleared cs orderly
