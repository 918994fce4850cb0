-- In every mode the won pairs are reflexive and transitive.
use Prim.Native.Nat.{ℕ, ◌+◌, ◌*◌, ◌<◌}
use Rattle.automaton.specs.declared.Mode.{Mode}
use Rattle.automaton.specs.Board.{Board, Formed}
use Rattle.simulation.specs.Rules.{ceiling}
use Rattle.simulation.specs.Won.{WonPair}
use Rattle.simulation.specs.Answers.{settled}
use Rattle.simulation.proofs.Relation.{settled-rest, settled-least}
use Rattle.laws.specs.Families.{Begins}
use Rattle.laws.proofs.Held.{held_won}
use Rattle.laws.proofs.Entries.{Entries, entries_ranked, won_begins}
use Rattle.laws.proofs.Composed.{Composed, composed_ranked, composed-begins}
use Rattle.laws.proofs.Reflexive.{Same, same_ranked, same-begins}

-- by the family of a state beside itself
pub won_refl : (B : Board) → Formed B → (m : Mode) (q : ℕ) → q < B.n → WonPair B m q q
won_refl B F m q h = held_won B F m 1 (Same B m) (same_ranked B F m) q q h h (same-begins B F m q h)

-- by the family that the settled table's entries compose
pub won_trans : (B : Board) → Formed B → (m : Mode) (q r s : ℕ) → q < B.n → r < B.n → s < B.n → WonPair B m q r → WonPair B m r s → WonPair B m q s
won_trans B F m q r s h i l v w =
    let t = (settled B m).table in
    let N = ceiling B m in
    let ranked = entries_ranked B F m t (settled-rest B m) in
    let begins : (q r : ℕ) → q < B.n → r < B.n → WonPair B m q r → Begins B m (Entries B m t) q r = won_begins B F m t (settled-least B m) in
    held_won B F m (N + N + N * N) (Composed B m N (Entries B m t)) (composed_ranked B F m N (Entries B m t) ranked) q s h l
    (composed-begins B F m N (Entries B m t) ranked q r s h l (begins q r h i v) (begins r s i l w))
