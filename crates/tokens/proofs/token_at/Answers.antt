-- `tokens::token_at` meets its contract: the first byte tells what the token is, and each part that is called gives it.
use Rattle.std.proofs.Common.{◌≡◌, sym, ap, ◌∙◌, Bool, List, ℕ, ◌+◌, ◌-◌, length, take, drop, length-take, length-drop, arith, rules, eq-eqb, ne_eqb, le-leb}
use Rattle.std.specs.List.{prefix_len}
use Rattle.std.proofs.lemmas.Bool.{lt-leb}
use Rattle.tokens.specs.declared.Sort.{Sort}
use Rattle.tokens.specs.Tokens.{digit, past, sorted, token_at, wordly}
use Rattle.tokens.proofs.Bounds.{past_bound, word_bound}
use Rattle.std.proofs.lemmas.List.{take_rest}
use Rattle.std.proofs.lemmas.List.Sums.{prefix_len-le-length}
use Rattle.tokens.proofs.token_at.Goals as goal

pub returns-then-text-i : goal.returns-then-text-i
unfolding token_at
returns-then-text-i c = c.sorted.ensures ∙ simp (le-leb _ _ c.if-text-i.true)

-- the place behind a run of bytes, from how many of them the rest of the text begins with
run-end : (p : ℕ → Bool) (s : List ℕ) (i n : ℕ) → n ≡ prefix_len p (take (length s - i) (drop i s)) → i + n ≡ past p s i
run-end p s i n e = ap (λ (k : ℕ). i + k) (e ∙ ap (prefix_len p) (take_rest s i))

pub overflow_add-j : goal.overflow_add-j
overflow_add-j c =
    let m = prefix_len-le-length digit (take (length c.args.text.now - c.args.i) (drop c.args.i c.args.text.now)) in
    let l = length-take (length c.args.text.now - c.args.i) (drop c.args.i c.args.text.now) in
    omega (arith, length-drop c.args.i c.args.text.now)

pub slice_bounds-read_number-end : goal.slice_bounds-read_number-end
slice_bounds-read_number-end c =
    let s = c.args.text.now in
    let b = past_bound digit s c.args.i c.if-text-i.false (sym c.is_digit.ensures ∙ c.if-is_digit.true) in
    omega (arith, run-end digit s c.args.i c.digits.result c.digits.ensures)

pub overflow_add-j-then-is_letter : goal.overflow_add-j-then-is_letter
overflow_add-j-then-is_letter c =
    let b = word_bound c.args.text.now c.args.i c.if-text-i.false (sym c.is_letter.ensures ∙ c.if-is_letter.true) in
    let e = run-end wordly c.args.text.now c.args.i c.word_len.result c.word_len.ensures in
    search rules

pub returns-then-is_digit : goal.returns-then-is_digit
unfolding token_at
returns-then-is_digit c =
    c.numeral.ensures ∙ simp (
      lt-leb _ _ c.if-text-i.false,
      sym c.is_digit.ensures ∙ c.if-is_digit.true,
      c.read_number.ensures,
      run-end digit c.args.text.now c.args.i c.digits.result c.digits.ensures,
    )

pub word-requires : goal.word-requires
word-requires c =
    let s = c.args.text.now in
    let b = word_bound s c.args.i c.if-text-i.false (sym c.is_letter.ensures ∙ c.if-is_letter.true) in
    let e = run-end wordly s c.args.i c.word_len.result c.word_len.ensures in
    (omega arith, omega arith)

pub returns-then-is_letter : goal.returns-then-is_letter
unfolding token_at
returns-then-is_letter c =
    c.word.ensures ∙ simp (
      lt-leb _ _ c.if-text-i.false,
      sym c.is_digit.ensures ∙ c.if-is_digit.false,
      sym c.is_letter.ensures ∙ c.if-is_letter.true,
      run-end wordly c.args.text.now c.args.i c.word_len.result c.word_len.ensures,
    )

pub returns-then-b-eq34 : goal.returns-then-b-eq34
unfolding token_at
returns-then-b-eq34 c =
    c.quoted.ensures ∙ simp (
      lt-leb _ _ c.if-text-i.false,
      sym c.is_digit.ensures ∙ c.if-is_digit.false,
      sym c.is_letter.ensures ∙ c.if-is_letter.false,
      eq-eqb _ _ c.if-b-eq34.true,
      c.quote_end.ensures,
    )

pub returns-then-b-eq45 : goal.returns-then-b-eq45
unfolding token_at
returns-then-b-eq45 c =
    c.dashes.ensures ∙ simp (
      lt-leb _ _ c.if-text-i.false,
      sym c.is_digit.ensures ∙ c.if-is_digit.false,
      sym c.is_letter.ensures ∙ c.if-is_letter.false,
      ne_eqb _ _ c.if-b-eq34.false,
      eq-eqb _ _ c.if-b-eq45.true,
    )

pub returns : goal.returns
unfolding token_at
returns c =
    c.sorted-2.ensures ∙ rw (
      lt-leb _ _ c.if-text-i.false,
      sym c.is_digit.ensures ∙ c.if-is_digit.false,
      sym c.is_letter.ensures ∙ c.if-is_letter.false,
      ne_eqb _ _ c.if-b-eq34.false,
      ne_eqb _ _ c.if-b-eq45.false,
    ) (ap (λ (k : Sort). sorted k c.args.i (c.args.i + 1)) c.sign.ensures)
