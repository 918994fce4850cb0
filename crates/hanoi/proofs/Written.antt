-- What `write` answers and leaves, by the room there is.
use Rattle.std.proofs.Common.{◌≡◌, refl, sym, ap, ◌∙◌, Bool, true, ◌||◌, List, [], ◌∷◌, ◌++◌, ℕ, ◌-◌, ◌≤◌, ◌<◌, arith, lt-ltb, le-ltb, ltb, length, drop}
use Rattle.std.proofs.Math.Bool.{or-true}
use borrow.Rule.Slice.PartMut.{put_mid, Post-is}
use Rattle.automaton.specs.declared.Automaton.{Automaton}
use Rattle.automaton.specs.declared.Refusal.{Refusal}
use Rattle.automaton.specs.declared.Refusal.TheVariants.{OutputLength}
use Rattle.automaton.specs.Answer.{Fault, none, fault, fails, first_fault, refused}
use Rattle.automaton.specs.Effect.{does}
use Rattle.text.specs.Calls.{Lent, before}
use Rattle.hanoi.specs.declared.Limits.{Limits}
use Rattle.hanoi.specs.Calls.{faults_of}
use Rattle.hanoi.specs.Writing.{done, short, writing, finishing}

-- bytes that came back for the front of a buffer
pub front_put : (n : ℕ) (out xs : List ℕ) → n ≤ length out → length xs ≡ n → put_mid 0 (n - 0) out xs ≡ before xs out
front_put n out xs h l = ap (λ (d : List ℕ). xs ++ d) (Post-is 0 n out (omega arith) ∙ ap (λ (m : ℕ). drop m out) (sym l))

module _ (a : Automaton) (marks moves : List ℕ) (x : Lent) where
  by-fault : (f : Fault) → short a marks moves x ≡ f → writing a marks moves x ≡ does f x (done a marks moves x)
  by-fault f e = ap (λ g. does g x (done a marks moves x)) e

  pub short-marks : length x.marks < a.states → writing a marks moves x ≡ record { answer = refused OutputLength; left = x }
  short-marks h = by-fault (fault OutputLength) (simp (lt-ltb (length x.marks) a.states h))

  pub short-moves : length x.moves < length moves → writing a marks moves x ≡ record { answer = refused OutputLength; left = x }
  short-moves h =
      let t = ltb (length x.marks) a.states in
      let both : (t || ltb (length x.moves) (length moves)) ≡ true = ap (λ (b : Bool). t || b) (lt-ltb (length x.moves) (length moves) h) ∙ or-true t in
      by-fault (fault OutputLength) (ap (λ (b : Bool). fails b OutputLength) both)

  pub written : a.states ≤ length x.marks → length moves ≤ length x.moves → writing a marks moves x ≡ done a marks moves x
  written h k = by-fault none (simp (le-ltb (length x.marks) a.states h, le-ltb (length x.moves) (length moves) k))

  -- ---- with the judgement before it

  module _ (b : Limits) where
    pub finish_judged : (r : Refusal) → first_fault (faults_of b a) ≡ fault r → finishing b a marks moves x ≡ record { answer = refused r; left = x }
    finish_judged r e = ap (λ g. does (first_fault (g ∷ short a marks moves x ∷ [])) x (done a marks moves x)) e

    pub finish-written : first_fault (faults_of b a) ≡ none → finishing b a marks moves x ≡ writing a marks moves x
    finish-written e = ap (λ g. does (first_fault (g ∷ short a marks moves x ∷ [])) x (done a marks moves x)) e ∙ alone (short a marks moves x)
      where
        alone : (g : Fault) → does (first_fault (g ∷ [])) x (done a marks moves x) ≡ does g x (done a marks moves x)
        alone none = refl
        alone (fault r) = refl
