-- What reading a header token by token comes to: the promise of `read`.
use Rattle.std.specs.Prelude.{◌≡◌, ℕ, Result, Ok, Err, Some, None}
use Rattle.automaton.specs.declared.Refusal.{Refusal}
use Rattle.automaton.specs.declared.Refusal.TheVariants.{Foreign}
use Rattle.tokens.specs.declared.Token.{Token}
use Rattle.headers.specs.declared.Header.{Header}
use Rattle.headers.specs.declared.Headed.{Headed}
use Rattle.headers.specs.declared.Next.TheVariants.{To, Body}
use Rattle.headers.specs.declared.Said.{Said}
use Rattle.headers.specs.declared.Wanted.{Wanted}
use Rattle.headers.specs.Stands.{step}

-- a header that was read, with the place behind it, or a refusal
abbrev pub Outcome : Type 0
Outcome = Result Headed Refusal

abbrev pub held : Header → (j : ℕ) → Outcome
held h j = Ok (record { header = h; next = j })

-- From i on, where w is wanted and s has been said, reading comes to the answer r. T gives the token at or after a place.
-- "place: first byte of the first token that cannot stand there"
pub data Walk (T : ℕ → Token) : Wanted → Said → (i : ℕ) → Outcome → Type 0 where
  goes : {w v : Wanted} {s t : Said} {i j : ℕ} {r : Outcome} → step w s (T i).sort ≡ Some (To v t) → (T i).next ≡ j → Walk T v t j r → Walk T w s i r
  over : {w : Wanted} {s : Said} {h : Header} {i j : ℕ} → step w s (T i).sort ≡ Some (Body h) → (T i).next ≡ j → Walk T w s i (held h j)
  stuck : {w : Wanted} {s : Said} {i p : ℕ} → step w s (T i).sort ≡ None → (T i).at ≡ p → Walk T w s i (Err (Foreign p))
