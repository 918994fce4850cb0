-- The automaton of a file: it is well formed, its marks are those of the sheet, and its moves are exactly those that an edge leads along, strictly ascending.
use Rattle.std.proofs.Common.{◌≡◌, refl, sym, ap, subst, ◌∙◌, ◌↔◌, Bool, true, ℕ, ◌+◌, ◌*◌, ◌/◌, ◌%◌, ◌≤◌, ◌<◌, zero-add, mul-le-mul, arith, length, get_or, true≢false}
use mathlib.Core.Logic.Iff
use Rattle.std.proofs.Math.Nat.{one-le-pow, pow-le-pow_right}
use Rattle.games.proofs.Count.{count_most}
use Rattle.automaton.specs.Board.{Formed, from, letter, to}
use Rattle.automaton.specs.Limits.{most_states, most_letters}
use Rattle.simulation.specs.Moves.{Moves}
use Rattle.simulation.specs.Rules.{bit}
use Rattle.simulation.specs.Quotient.{triple_by}
use Rattle.simulation.proofs.Listed.{map_at, listed_length, bit-most, bit-one}
use Rattle.laws.proofs.Triples.{having, listed-long}
use Rattle.laws.proofs.Numbered.{Reads, number_lt, number_read, triple-inside, numbered_ascend, numbered_is}
use Rattle.headers.specs.Header.{most_props}
use Rattle.bodies.specs.declared.Entry.{Entry}
use Rattle.bodies.specs.declared.Entry.TheVariants.{Accepting}
use Rattle.bodies.specs.Body.{leads, unlisted, accepting, is_accepting}
use Rattle.text.specs.Text.{program_states, program_letters}
use Rattle.hanoi.specs.File.{File, letters_in, marks_in, moves_in, board_in}
use Rattle.hanoi.proofs.Edges.{LeadsOne, leads-edge}

accepting-told : (x : Entry) → is_accepting x ≡ true → x ≡ accepting
accepting-told Accepting e = refl
accepting-told _ e = absurd (true≢false (sym e))

module _ (f : File) where
  -- how many triples of states and a letter there are
  abbrev triples : ℕ
  triples = f.header.states * letters_in f * f.header.states

  -- does an edge lead along the triple with number x?
  abbrev led : ℕ → Bool
  led x = leads f.edges (x / f.header.states / letters_in f) (x / f.header.states % letters_in f) (x % f.header.states)

  -- ---- how many

  -- three bytes for each triple that an edge leads along
  moves_long : length (moves_in f) ≡ having led triples * 3
  moves_long = listed-long led (triple_by f.header.states (letters_in f)) (λ x. refl) triples

  -- so three for each triple at most
  pub moves-most : length (moves_in f) ≤ 3 * (f.header.states * letters_in f * f.header.states)
  moves-most = omega (arith, moves_long, count_most (λ x. bit (led x)) (λ x. bit-most (led x)) triples)

  -- within the limits of the programs
  pub moves-few : f.header.states ≤ program_states → letters_in f ≤ program_letters → length (moves_in f) ≤ 6144
  moves-few h l = omega (arith, moves-most, mul-le-mul {n₂ = program_states * program_letters} {m₂ = program_states} (mul-le-mul {n₂ = program_states} {m₂ = program_letters} h l) h)

  -- ---- marks

  abbrev mark : (q : ℕ) → ℕ
  mark q = bit (is_accepting (get_or f.sheet q unlisted))

  mark-at : (q : ℕ) → q < f.header.states → get_or (marks_in f) q 0 ≡ mark q
  mark-at q l = map_at mark 0 f.header.states q l ∙ ap mark (zero-add q)

  -- "marks on states only": 1 exactly for a state that is listed with the mark `{0}`
  pub marks_exact : (q : ℕ) → q < f.header.states → (get_or (marks_in f) q 0 ≡ 1) ↔ (get_or f.sheet q unlisted ≡ accepting)
  marks_exact q l =
      let entry = get_or f.sheet q unlisted in
      let one = bit-one (is_accepting entry) in
      (λ e. accepting-told entry (one.0 (sym (mark-at q l) ∙ e)), λ e. mark-at q l ∙ one.1 (ap is_accepting e))

  -- ---- moves

  -- q, a and r are numbers of the automaton
  abbrev pub Inside : (q a r : ℕ) → Type 0
  Inside q a r = (q < f.header.states) × (a < letters_in f) × (r < f.header.states)

  -- from 1 to 16 letters
  pub letters-some : 0 < letters_in f
  letters-some = one-le-pow f.header.props 2 (omega arith)

  pub letters-few : f.header.props ≤ most_props → letters_in f ≤ most_letters
  letters-few = pow-le-pow_right {n = 2} (omega arith) {i = f.header.props} {j = most_props}

  module _ (some : 0 < f.header.states) where
    pub moves_exact : (q a r : ℕ) → Moves (board_in f) q a r ↔ (Inside q a r × (leads f.edges q a r ≡ true))
    moves_exact q a r = Iff.trans (numbered_is n k led triples q a r) (found, put)
      where
        n : ℕ
        n = f.header.states

        k : ℕ
        k = letters_in f

        found : (x : ℕ) × (x < triples) × (led x ≡ true) × Reads n k x q a r → Inside q a r × (leads f.edges q a r ≡ true)
        found (x, h, e, (u, v, w)) = let (b, c, d) = triple-inside n k some letters-some x h in ((rw (← u) b, rw (← v) c, rw (← w) d), rw (← u, ← v, ← w) e)

        put : Inside q a r × (leads f.edges q a r ≡ true) → (x : ℕ) × (x < triples) × (led x ≡ true) × Reads n k x q a r
        put ((b, c, d), e) = let s = number_read n k q c d in ((q * k + a) * n + r, number_lt n k b c d, rw (s.0, s.1, s.2) e, s)

    -- "The moves read are exactly those whose letter makes the label true"
    pub moves-edges : (q a r : ℕ) → Moves (board_in f) q a r ↔ (Inside q a r × LeadsOne q a r f.edges)
    moves-edges q a r =
        let edge = leads-edge q a r f.edges in
        Iff.trans (moves_exact q a r) (λ h. (h.0, edge.0 h.1), λ h. (h.0, edge.1 h.1))

    -- ---- the automaton

    pub board-formed : f.header.states ≤ most_states → f.header.props ≤ most_props → Formed (board_in f)
    board-formed few few-props = record {
      states = some;
      few = few;
      letters = letters-some;
      few_letters = letters-few few-props;
      marked = listed_length mark 0 f.header.states;
      binary = λ q l. subst (λ (v : ℕ). v ≤ 1) (sym (mark-at q l)) (bit-most (is_accepting (get_or f.sheet q unlisted)));
      whole = omega (arith, moves_long);
      inside = λ i l. ((moves_exact (from (moves_in f) i) (letter (moves_in f) i) (to (moves_in f) i)).0 (i, l, refl, refl, refl)).0;
      order = numbered_ascend f.header.states (letters_in f) led triples some letters-some;
    }
