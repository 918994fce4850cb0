-- Reading accepts the headers of the format and nothing else, and says of each what the format says.
use Rattle.std.proofs.Common.{refl, ◌∙◌, ◌↔◌, ℕ, Err}
use Rattle.automaton.specs.declared.Refusal.{Refusal}
use Rattle.tokens.specs.declared.Token.{Token}
use Rattle.headers.specs.declared.Header.{Header}
use Rattle.headers.specs.declared.Wanted.TheVariants.{Format, Version, Item}
use Rattle.headers.specs.Header.{unsaid, IsHeader}
use Rattle.headers.specs.Walk.{Walk, held, over}
use Rattle.headers.proofs.Found.{found}
use Rattle.headers.proofs.One.{walk_one}
use Rattle.headers.proofs.Reading.{item-between, items-read, leads-to}

module _ (T : ℕ → Token) {h : Header} {j : ℕ} where
  pub header_read : IsHeader T h j → Walk T Format unsaid 0 (held h j)
  header_read H =
      leads-to T Version unsaid (simp H.format.0) H.format.1
      (leads-to T Item unsaid (simp H.version.0) H.version.1
      (items-read T H.items (λ v b. over (b H.said (T H.after_items).sort (simp H.body.0) ∙ simp (H.body.0, H.whole.states, H.whole.start, H.whole.acceptance, H.whole.props, H.whole.named)) H.body.1) Item item-between))

  pub read-header : Walk T Format unsaid 0 (held h j) → IsHeader T h j
  read-header k =
      let f = found T h j k in
      let l = f.1.1 in
      record { after-format = _; after-version = _; after_items = l.end; said = l.said; format = (f.0, refl); version = (f.1.0, refl); items = l.items; whole = l.whole; body = l.body }

  pub header_exact : IsHeader T h j ↔ Walk T Format unsaid 0 (held h j)
  header_exact = (header_read, read-header)

  -- what is refused is no header, whatever it would say
  pub refused_none : {r : Refusal} → Walk T Format unsaid 0 (Err r) → IsHeader T h j → ⊥
  refused_none k H = let e = walk_one T k (header_read H) in absurd (cc)
