-- The kinds of a game that ends at each reset.
use mathlib.Core.Path.{◌≡◌, refl}
use mathlib.Core.Logic.{◌≢◌, ◌⊎◌, inl, inr}
use Rattle.games.specs.Game.{Kind, low, high, counting, resetting, idle, lost}
use Rattle.games.specs.Play.{is_counting}
use Rattle.games.proofs.Complete.{apart}

-- a resetting position is idle where X holds, and lost where it does not
abbrev pub end_at : {X : Type 0} → Kind → Dec X → Kind
end_at low d = low
end_at high d = high
end_at counting d = counting
end_at resetting (yes x) = idle
end_at resetting (no x) = lost
end_at idle d = idle
end_at lost d = lost

module _ {X : Type 0} where
  pub end-never : (k : Kind) (d : Dec X) → end_at k d ≢ resetting
  end-never low d e = apart (cc)
  end-never high d e = apart (cc)
  end-never counting d e = apart (cc)
  end-never resetting (yes x) e = apart (cc)
  end-never resetting (no x) e = apart (cc)
  end-never idle d e = apart (cc)
  end-never lost d e = apart (cc)

  pub end_counting : (k : Kind) (d : Dec X) → is_counting (end_at k d) ≡ is_counting k
  end_counting low d = refl
  end_counting high d = refl
  end_counting counting d = refl
  end_counting resetting (yes x) = refl
  end_counting resetting (no x) = refl
  end_counting idle d = refl
  end_counting lost d = refl

  -- where X holds the kind is the same but for a reset, which is idle
  pub end_same : (k : Kind) (d : Dec X) → X → ((k ≡ resetting) × (end_at k d ≡ idle)) ⊎ ((k ≢ resetting) × (end_at k d ≡ k))
  end_same low d x = inr (λ e. apart (cc), refl)
  end_same high d x = inr (λ e. apart (cc), refl)
  end_same counting d x = inr (λ e. apart (cc), refl)
  end_same resetting (yes y) x = inl (refl, refl)
  end_same resetting (no n) x = absurd (n x)
  end_same idle d x = inr (λ e. apart (cc), refl)
  end_same lost d x = inr (λ e. apart (cc), refl)
