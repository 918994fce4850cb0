-- Where tokens lie: at or behind the place asked for, within the text, and each that is one goes on.
use Rattle.std.proofs.Common.{◌≡◌, sym, true, List, ℕ, ◌≤◌, ◌<◌, length, arith, true≢false}
use Rattle.tokens.specs.declared.Sort.TheVariants as sort
use Rattle.tokens.specs.Sorts.{stands}
use Rattle.tokens.specs.Tokens.{token_from}
use Rattle.tokens.proofs.Bounds.{gap-bound}
use Rattle.tokens.proofs.Ways.{from_ways, other-nothing, other-number}

pub from-within : (s : List ℕ) (i : ℕ) → i ≤ length s → (i ≤ (token_from s i).at) × ((token_from s i).at ≤ length s)
from-within s i h =
    from_ways (λ t. (i ≤ t.at) × (t.at ≤ length s)) s i (omega arith, omega arith)
    (λ j e. let b = gap-bound s i h e in record { none = λ _. b; bad = b; number = λ _ _ _ _ _. b; other = λ _ _ _ _ _. b })

pub token_on : (s : List ℕ) (i : ℕ) → i ≤ length s → stands (token_from s i).sort ≡ true → (i < (token_from s i).next) × ((token_from s i).next ≤ length s)
token_on s i h =
    from_ways (λ t. stands t.sort ≡ true → (i < t.next) × (t.next ≤ length s)) s i (λ n. absurd (true≢false (sym n)))
    (λ j e.
    let b = gap-bound s i h e in
    record {
      none = λ _ n. absurd (true≢false (sym n));
      bad = λ n. absurd (true≢false (sym n));
      number = λ _ _ _ a w _. (omega arith, w);
      other = λ _ _ _ a w _. (omega arith, w);
    })

pub value-most : (s : List ℕ) (i : ℕ) {v : ℕ} → (token_from s i).sort ≡ sort.Number v → v ≤ 65535
value-most s i {v} =
    from_ways (λ t. t.sort ≡ sort.Number v → v ≤ 65535) s i (λ n. absurd (cc))
    (λ j e.
    record {
      none = λ _ n. absurd (cc);
      bad = λ n. absurd (cc);
      number = λ u k m _ _ n. let same : u ≡ v = cc in omega arith;
      other = λ k _ o _ _ n. absurd (other-number k v o n);
    })

pub nothing-end : (s : List ℕ) (i : ℕ) → i ≤ length s → (token_from s i).sort ≡ sort.Nothing → (token_from s i).at ≡ length s
nothing-end s i h =
    from_ways (λ t. t.sort ≡ sort.Nothing → t.at ≡ length s) s i (λ n. absurd (cc))
    (λ j e.
    let b = gap-bound s i h e in
    record {
      none = λ l _. let end : j ≡ length s = omega arith in end;
      bad = λ n. absurd (cc);
      number = λ _ _ _ _ _ n. absurd (cc);
      other = λ k _ o _ _ n. absurd (other-nothing k o n);
    })
