-- What `table::rest` tells the calls that need a table at rest: which of the refusals 10 and 12 applies, if one does.
use Rattle.std.proofs.Common.{◌≡◌, refl, sym, ap, ◌∙◌, Bool, true, false, cond, List, ℕ, Option, Some, None, arith, ltb, length}
use Rattle.automaton.specs.declared.Refusal.{Refusal}
use Rattle.automaton.specs.declared.Refusal.TheVariants.{NotAtRest}
use Rattle.automaton.specs.Answer.{Answer, valued, placed, value, refused, Fault, none, fault, fails, unless}
use Rattle.automaton.specs.First.{first}
use Rattle.automaton.proofs.One.{refused-not, unless-refused}
use Rattle.arena.specs.Job.{Job, game_of}
use Rattle.arena.specs.Refusals.{open_fault}
use Rattle.entries.specs.Found.{restless}
use Rattle.table.specs.Answers.{found}
use Rattle.table.specs.Calls.{entry_fault, rested, resting}
use Rattle.relation.specs.Calls.{rest_fault}

-- the answer of the search for the lowest position not at rest, by whether there is one
told : Bool → (lowest : ℕ) → Answer
told b w = cond b (placed w) (valued 1)

told-number : (b : Bool) (w : ℕ) → (told b w).number ≡ 0
unfolding told
told-number true w = refl
told-number false w = refl

-- an accepted answer says that refusal 10 does not apply, and what the search found
told-placed : (f : Fault) (b : Bool) (w v : ℕ) → placed v ≡ unless f (told b w) → (f ≡ none) × (fails b (NotAtRest w) ≡ fault (NotAtRest v))
unfolding told
told-placed none true w v e = (refl, ap (λ (i : ℕ). fault (NotAtRest i)) (sym (ap (λ (a : Answer). a.place) e)))
told-placed none false w v e = let z : ◌≡◌ {A = ℕ} 0 1 = ap value e in absurd (omega arith)
told-placed (fault r) b w v e = absurd (refused-not r (placed v) refl (sym e))

told-one : (f : Fault) (b : Bool) (w : ℕ) → valued 1 ≡ unless f (told b w) → (f ≡ none) × (fails b (NotAtRest w) ≡ none)
unfolding told
told-one none true w e = let z : ◌≡◌ {A = ℕ} 1 0 = ap value e in absurd (omega arith)
told-one none false w e = (refl, refl)
told-one (fault r) b w e = absurd (refused-not r (valued 1) refl (sym e))

module _ (j : Job) (t : List ℕ) (o : open_fault j (length t) ≡ none) where
  -- the lowest position not at rest, or P
  abbrev lowest : ℕ
  lowest = first (restless (game_of j) t) 0 (game_of j).P

  -- the answer of `rest`, where none of the refusals 1 to 9 applies
  rest-is : resting j t ≡ unless (entry_fault (game_of j) t) (told (ltb lowest (game_of j).P) lowest)
  unfolding resting rested told
  rest-is = ap (λ (f : Fault). unless f (rested (game_of j) t)) o

  pub rest-refused : (r : Refusal) → refused r ≡ resting j t → entry_fault (game_of j) t ≡ fault r
  rest-refused r e = unless-refused (entry_fault (game_of j) t) (told (ltb lowest (game_of j).P) lowest) r (told-number _ lowest) (e ∙ rest-is)

  pub rest-placed : (v : ℕ) → placed v ≡ resting j t → (entry_fault (game_of j) t ≡ none) × (rest_fault (game_of j) t ≡ fault (NotAtRest v))
  rest-placed v e = told-placed (entry_fault (game_of j) t) (ltb lowest (game_of j).P) lowest v (e ∙ rest-is)

  pub rest-one : valued 1 ≡ resting j t → (entry_fault (game_of j) t ≡ none) × (rest_fault (game_of j) t ≡ none)
  rest-one e = told-one (entry_fault (game_of j) t) (ltb lowest (game_of j).P) lowest (e ∙ rest-is)

  -- whatever it found, no entry is above T
  pub rest-tells : (lowest : Option ℕ) → found lowest ≡ resting j t → entry_fault (game_of j) t ≡ none
  rest-tells (Some v) e = (rest-placed v e).0
  rest-tells None e = (rest-one e).0
