-- Finitely many things: searches, and cases by statements that are not decided, where what is to be shown is a contradiction.
use mathlib.Core.Path.{◌≡◌, refl, sym, subst}
use mathlib.Core.Logic.{◌⊎◌, inl, inr}
use mathlib.Core.List.Memᴰ
use mathlib.Core.List.{List, [], ◌∷◌, Memᴰ}
use Prim.Native.Nat.{ℕ, zero, suc, ◌+◌, ◌≤◌, ◌<◌}
use native.Mathlib.Omega.{arith}
use native.Mathlib.Decide.{ℕ_discrete}

-- ---- searches

-- one of a list has not X, or all have
pub without : (X : ℕ → Type 0) (ws : List ℕ) → ((w : ℕ) → Memᴰ w ws → Dec (X w)) → ((w : ℕ) × Memᴰ w ws × (¬ X w)) ⊎ ((w : ℕ) → Memᴰ w ws → X w)
without X [] d = inr (λ w m. absurd (Memᴰ.not-nil m))
without X (v ∷ vs) d = go (d v (Memᴰ.head refl)) (without X vs (λ w m. d w (Memᴰ.tail m)))
  where
    here : X v → ((w : ℕ) → Memᴰ w vs → X w) → (w : ℕ) → (w ≡ v) ⊎ Memᴰ w vs → X w
    here x all w (inl e) = subst X (sym e) x
    here x all w (inr m) = all w m

    go : Dec (X v) → ((w : ℕ) × Memᴰ w vs × (¬ X w)) ⊎ ((w : ℕ) → Memᴰ w vs → X w) → ((w : ℕ) × Memᴰ w (v ∷ vs) × (¬ X w)) ⊎ ((w : ℕ) → Memᴰ w (v ∷ vs) → X w)
    go (no n) r = inl (v, Memᴰ.head refl, n)
    go (yes x) (inl (w, m, n)) = inl (w, Memᴰ.tail m, n)
    go (yes x) (inr all) = inr (λ w m. here x all w (Memᴰ.cases_cons m))

-- one of the c numbers from n on has X, or none has
pub within : (X : ℕ → Type 0) → ((i : ℕ) → Dec (X i)) → (n c : ℕ) → ((i : ℕ) × (n ≤ i) × X i) ⊎ ((i : ℕ) → n ≤ i → i < n + c → ¬ X i)
within X d n zero = inr (λ i a b x. omega arith)
within X d n (suc c) = go (d (n + c)) (within X d n c)
  where
    last : ((i : ℕ) → n ≤ i → i < n + c → ¬ X i) → (¬ X (n + c)) → (i : ℕ) → n ≤ i → i < n + suc c → Dec (i ≡ n + c) → ¬ X i
    last none l i a b (yes e) x = l (subst X e x)
    last none l i a b (no e) x = none i a (omega arith) x

    go : Dec (X (n + c)) → ((i : ℕ) × (n ≤ i) × X i) ⊎ ((i : ℕ) → n ≤ i → i < n + c → ¬ X i) → ((i : ℕ) × (n ≤ i) × X i) ⊎ ((i : ℕ) → n ≤ i → i < n + suc c → ¬ X i)
    go (yes x) r = inl (n + c, omega arith, x)
    go (no l) (inl r) = inl r
    go (no l) (inr none) = inr (λ i a b. last none l i a b (ℕ_discrete i (n + c)))

-- ---- cases

-- it cannot be that a statement is not decided
pub either : {X : Type 0} → ¬ (¬ Dec X)
either k = k (no (λ x. k (yes x)))

-- nor that one of n statements is not
pub decided : (X : ℕ → Type 0) (n : ℕ) → ¬ (¬ ((v : ℕ) → Dec ((v < n) × X v)))
decided X zero k = k (λ v. no (λ p. omega arith))
decided X (suc n) k = decided X n (λ d. either (λ e. k (λ v. go e v (d v) (ℕ_discrete v n))))
  where
    go : Dec (X n) → (v : ℕ) → Dec ((v < n) × X v) → Dec (v ≡ n) → Dec ((v < suc n) × X v)
    go (yes x) v d (yes e) = yes (omega arith, subst X (sym e) x)
    go (no x) v d (yes e) = no (λ p. x (subst X e p.1))
    go e v (yes p) (no ne) = yes (omega arith, p.1)
    go e v (no p) (no ne) = no (λ q. p (omega arith, q.1))
