-- Reading token by token ends well exactly for the bodies that the format writes, with their sheet and their edges.
use Rattle.std.proofs.Common.{◌≡◌, List, [], ℕ, arith}
use Rattle.automaton.specs.declared.Refusal.{Refusal}
use Rattle.tokens.specs.declared.Token.{Token}
use Rattle.bodies.specs.declared.Entry.{Entry}
use Rattle.bodies.specs.declared.Due.TheVariants as due
use Rattle.bodies.specs.Body.{Edge, blank, IsBody}
use Rattle.bodies.specs.Walk.{held, refused, Walk, over}
use Rattle.bodies.proofs.Found.{rest_found}
use Rattle.bodies.proofs.One.{walk_one}
use Rattle.bodies.proofs.Reading.{block-begins, blocks_read, to}

pub body-read : {T : ℕ → Token} {n p i : ℕ} {sheet : List Entry} {es : List Edge} → IsBody T n p i sheet es → Walk T n p due.Block blank [] i (held sheet es)
body-read {T = T} {n = n} {p = p} {sheet = sheet} B =
    blocks_read T n p B.blocks (λ d b. to T n p due.Nothing B.end (b sheet).1 (over (simp B.nothing))) due.Block (block-begins n)

pub read-body : {T : ℕ → Token} {n p i : ℕ} {sheet : List Entry} {es : List Edge} → Walk T n p due.Block blank [] i (held sheet es) → IsBody T n p i sheet es
read-body {T = T} {n = n} {p = p} {sheet = sheet} {es = es} w =
    let r = rest_found T n p sheet es w in
    record { after_blocks = r.after_blocks; after-end = r.after-end; blocks = r.blocks; end = r.end; nothing = r.nothing }

-- so a body says one thing, and none stands where reading refuses
module _ {T : ℕ → Token} {n p i : ℕ} {s : List Entry} {es : List Edge} (B : IsBody T n p i s es) where
  pub body-one : {t : List Entry} {fs : List Edge} → IsBody T n p i t fs → (s ≡ t) × (es ≡ fs)
  body-one C = let e = walk_one T n p (body-read B) (body-read C) in (cc, cc)

  pub body-stands : {r : Refusal} → Walk T n p due.Block blank [] i (refused r) → ⊥
  body-stands w = let e = walk_one T n p (body-read B) w in let z : ◌≡◌ {A = ℕ} 0 1 = cc in omega arith
