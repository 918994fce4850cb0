-- Only a token leads on: the place behind what leads on is further on, within the text.
use Rattle.std.proofs.Common.{◌≡◌, refl, sym, ◌∙◌, true, List, ℕ, ◌≤◌, ◌<◌, length, Option, Some, None}
use Rattle.tokens.specs.declared.Sort.{Sort}
use Rattle.tokens.specs.declared.Sort.TheVariants as sort
use Rattle.tokens.specs.Sorts.{stands}
use Rattle.tokens.specs.Tokens.{token_from}
use Rattle.tokens.proofs.Reach.{token_on}
use Rattle.headers.specs.declared.Next.{Next}
use Rattle.headers.specs.declared.Said.{Said}
use Rattle.headers.specs.declared.Wanted.{Wanted}
use Rattle.headers.specs.declared.Wanted.TheVariants.{Format}
use Rattle.headers.specs.Stands.{step}

-- what is no token leads nowhere
at_nothing : (w : Wanted) (s : Said) → step w s sort.Nothing ≡ None
at_nothing Format s = refl
at_nothing _ s = refl

at_wrong : (w : Wanted) (s : Said) → step w s sort.Wrong ≡ None
at_wrong Format s = refl
at_wrong _ s = refl

-- what leads on stands in the text
step_stands : (w : Wanted) (s : Said) (k : Sort) {n : Next} → step w s k ≡ Some n → stands k ≡ true
step_stands w s sort.Nothing {n} e = let z : ◌≡◌ {A = Option Next} None (Some n) = sym (at_nothing w s) ∙ e in absurd (cc)
step_stands w s sort.Wrong {n} e = let z : ◌≡◌ {A = Option Next} None (Some n) = sym (at_wrong w s) ∙ e in absurd (cc)
step_stands w s _ e = refl

pub leads-on : (s : List ℕ) (i : ℕ) (w : Wanted) (said : Said) (n : Next) → i ≤ length s → step w said (token_from s i).sort ≡ Some n → (i < (token_from s i).next) × ((token_from s i).next ≤ length s)
leads-on s i w said n l e = token_on s i l (step_stands w said (token_from s i).sort e)
