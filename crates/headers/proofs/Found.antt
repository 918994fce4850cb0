-- What is read is a header as the format writes it: by what is wanted, what stands from there on where reading ends well.
use Rattle.std.proofs.Common.{◌≡◌, refl, sym, subst, Bool, true, false, cond, ℕ, zero, suc, ◌≤◌, eqb, leb, Option, Some, None, is_some, eqb-true, leb-true}
use Rattle.std.specs.Option.{unwrap_or}
use Rattle.tokens.specs.declared.Sort.{Sort}
use Rattle.tokens.specs.declared.Sort.TheVariants as sort
use Rattle.tokens.specs.declared.Token.{Token}
use Rattle.tokens.specs.Here.{Here}
use Rattle.tokens.specs.Sorts.{plain}
use Rattle.headers.specs.declared.Header.{Header}
use Rattle.headers.specs.declared.Next.{Next}
use Rattle.headers.specs.declared.Next.TheVariants.{To, Body}
use Rattle.headers.specs.declared.Said.{Said}
use Rattle.headers.specs.declared.Wanted.{Wanted}
use Rattle.headers.specs.declared.Wanted.TheVariants as wanted
use Rattle.headers.specs.Header.{with_states, with_start, with_props, with_acceptance, most_props, Whole, Names, no_name, name, Values, no_value, value, Acceptance, Item, states, start, props, acceptance, skipped, Items, no_item, item}
use Rattle.headers.specs.Stands.{exactly, onto, once, required, whole, names_after, item as item_of, step}
use Rattle.headers.specs.Walk.{Walk, held, goes, over}

module _ (T : ℕ → Token) (m : Header) (j : ℕ) where
  -- headers up to `--BODY--`
  pub record Rest (s : Said) (i : ℕ) : Type 0 where
    pub end : ℕ
    pub said : Said
    pub items : Items T s i said end
    pub whole : Whole said m
    pub body : Here T end sort.Body j

  -- a token of a sort, and behind it what P says
  abbrev pub Then : (i : ℕ) → Sort → (P : ℕ → Type 0) → Type 0
  Then i k P = ((T i).sort ≡ k) × P (T i).next

  -- so many names, and the headers behind them
  abbrev pub Named : (c : ℕ) → Said → (i : ℕ) → Type 0
  Named c s i = (g : ℕ) × Names T c i g × Rest s g

  -- `1 Inf(0)` from each of its tokens on, and the headers behind it
  abbrev pub Closed : Said → (i : ℕ) → Type 0
  Closed s i = Then i sort.GroupEnd (Rest (with_acceptance s))

  abbrev pub Zeroed : Said → (i : ℕ) → Type 0
  Zeroed s i = Then i (sort.Number 0) (Closed s)

  abbrev pub Opened : Said → (i : ℕ) → Type 0
  Opened s i = Then i sort.Group (Zeroed s)

  abbrev pub Infinite : Said → (i : ℕ) → Type 0
  Infinite s i = Then i sort.Inf (Opened s)

  abbrev pub Counted : Said → (i : ℕ) → Type 0
  Counted s i = Then i (sort.Number 1) (Infinite s)

  -- a number, and behind it what P says of it
  abbrev pub Said-number : (i : ℕ) → (P : (v i : ℕ) → Type 0) → Type 0
  Said-number i P = (v : ℕ) × Then i (sort.Number v) (P v)

  -- what stands from i on where w is wanted and s has been said
  abbrev pub Standing : Wanted → Said → (i : ℕ) → Type 0
  Standing wanted.Format s i = Then i sort.Hoa (λ g. Then g sort.Version (Rest s))
  Standing wanted.Version s i = Then i sort.Version (Rest s)
  Standing wanted.Item s i = Rest s i
  Standing wanted.Value s i = (g : ℕ) × Values T i g × Rest s g
  Standing wanted.States s i = Said-number i (λ n. Rest (with_states s n))
  Standing wanted.Start s i = Said-number i (λ q. Rest (with_start s q))
  Standing wanted.Props s i = Said-number i (λ p g. (p ≤ most_props) × Named p (with_props s p) g)
  Standing (wanted.Names c) s i = Named (suc c) s i
  Standing wanted.Sets s i = Counted s i
  Standing wanted.Inf s i = Infinite s i
  Standing wanted.Opening s i = Opened s i
  Standing wanted.Zero s i = Zeroed s i
  Standing wanted.Closing s i = Closed s i

  -- what stands at i behind a token that led there
  abbrev pub Led : Option Next → (i : ℕ) → Type 0
  Led (Some (To v t)) i = Standing v t i
  Led (Some (Body h)) i = (h ≡ m) × (i ≡ j)
  Led None i = ⊥

  -- which of two a test led to
  either : {R : Type 0} (b : Bool) (n o : Option Next) (i : ℕ) → (b ≡ true → Led n i → R) → (b ≡ false → Led o i → R) → Led (cond b n o) i → R
  either true n o i f g l = f refl l
  either false n o i f g l = g refl l

  passed : (b : Bool) (n : Option Next) (i : ℕ) → Led (cond b n None) i → (b ≡ true) × Led n i
  passed b n i = either b n None i (λ e l. (e, l)) (λ e l. absurd l)

  -- a header that may stand once stood for the first time
  first : (b : Bool) (w : Wanted) (s : Said) (i : ℕ) → Led (once b w s) i → (b ≡ false) × Standing w s i
  first b w s i = either b None (onto w s) i (λ e l. absurd l) (λ e l. (e, l))

  unsaid : (x : Option ℕ) → is_some x ≡ false → x ≡ None
  unsaid None e = refl
  unsaid (Some v) e = absurd (cc)

  named : (c : ℕ) (s : Said) (i : ℕ) → Standing (names_after c) s i → Named c s i
  named zero s i l = (i, no_name, l)
  named (suc c) s i l = l

  -- `1 Inf(0)` whole
  accepted : (s : Said) (i : ℕ) → Counted s i → (g : ℕ) × Acceptance T i g × Rest (with_acceptance s) g
  accepted s i l =
      let inf = l.1 in
      let opens = inf.1 in
      let none = opens.1 in
      let closes = none.1 in
      (_, record { after-sets = _; after-inf = _; after_open = _; after-zero = _; sets = (l.0, refl); inf = (inf.0, refl); opens = (opens.0, refl); zero = (none.0, refl); closes = (closes.0, refl) }, closes.1)

  -- one header more
  more : {s t : Said} {i g : ℕ} → Item T s i t g → Rest t g → Rest s i
  more x l = record { end = l.end; said = l.said; items = item x l.items; whole = l.whole; body = l.body }

  module _ (s : Said) (i : ℕ) where
    -- no header more
    ended : (T i).sort ≡ sort.Body → Led (whole s) (T i).next → Rest s i
    ended e l = go s.states s.start s.accepting refl refl refl l
      where
        go : (n q : Option ℕ) (b : Bool) → s.states ≡ n → s.start ≡ q → s.accepting ≡ b → Led (required n q b s.props) (T i).next → Rest s i
        go (Some n) (Some q) true a b c l =
            let said : Whole s (record { states = n; start = q; props = unwrap_or s.props 0; named = is_some s.props }) = record { states = a; start = b; props = refl; named = refl; acceptance = c } in
            record { end = i; said = s; items = no_item; whole = subst (Whole s) l.0 said; body = (e, l.1) }
        go _ _ _ a b c l = absurd l

    item-led : (k : Sort) → (T i).sort ≡ k → Led (item_of s k) (T i).next → Rest s i
    item-led sort.States e l = let p = first _ wanted.States s _ l in more (states (unsaid s.states p.0) (e, refl) (p.1.1.0, refl)) p.1.1.1
    item-led sort.Start e l = let p = first _ wanted.Start s _ l in more (start (unsaid s.start p.0) (e, refl) (p.1.1.0, refl)) p.1.1.1
    item-led sort.Ap e l =
        let p = first _ wanted.Props s _ l in
        let names = p.1.1.1.1 in
        more (props (unsaid s.props p.0) (e, refl) (p.1.1.0, refl) p.1.1.1.0 names.1) names.2
    item-led sort.Acceptance e l = let p = first _ wanted.Sets s _ l in let a = accepted s _ p.1 in more (acceptance p.0 (e, refl) a.1) a.2
    item-led sort.Minor e l = more (skipped (e, refl) l.1) l.2
    item-led sort.Body e l = ended e l
    item-led _ e l = absurd l

    exactly-led : (u v : ℕ) (n : Option Next) → (T i).sort ≡ sort.Number v → Led (exactly u v n) (T i).next → Then i (sort.Number u) (Led n)
    exactly-led u v n e l = let p = passed (eqb v u) n _ l in (subst (λ k. (T i).sort ≡ sort.Number k) (eqb-true v u p.0) e, p.1)

    step-led : (w : Wanted) (k : Sort) → (T i).sort ≡ k → Led (step w s k) (T i).next → Standing w s i
    step-led wanted.Format sort.Hoa e l = (e, l)
    step-led wanted.Format _ e l = absurd l
    step-led wanted.Version sort.Version e l = (e, l)
    step-led wanted.Version _ e l = absurd l
    step-led wanted.Item k e l = item-led k e l
    step-led wanted.Value k e l =
        either (plain k) (onto wanted.Value s) (item_of s k) (T i).next
        (λ p v. (v.0, value (record { plain = subst (λ k. plain k ≡ true) (sym e) p; next = refl }) v.1, v.2))
        (λ p v. (i, no_value, item-led k e v))
        l
    step-led wanted.States (sort.Number n) e l = (n, (e, l))
    step-led wanted.States _ e l = absurd l
    step-led wanted.Start (sort.Number q) e l = (q, (e, l))
    step-led wanted.Start _ e l = absurd l
    step-led wanted.Props (sort.Number p) e l =
        let q = passed (leb p most_props) (onto (names_after p) (with_props s p)) _ l in
        (p, (e, (leb-true _ _ q.0, named p (with_props s p) (T i).next q.1)))
    step-led wanted.Props _ e l = absurd l
    step-led (wanted.Names c) sort.Quoted e l = let q = named c s (T i).next l in (q.0, name (e, refl) q.1, q.2)
    step-led (wanted.Names c) _ e l = absurd l
    step-led wanted.Sets (sort.Number v) e l = exactly-led 1 v (onto wanted.Inf s) e l
    step-led wanted.Sets _ e l = absurd l
    step-led wanted.Inf sort.Inf e l = (e, l)
    step-led wanted.Inf _ e l = absurd l
    step-led wanted.Opening sort.Group e l = (e, l)
    step-led wanted.Opening _ e l = absurd l
    step-led wanted.Zero (sort.Number v) e l = exactly-led 0 v (onto wanted.Closing s) e l
    step-led wanted.Zero _ e l = absurd l
    step-led wanted.Closing sort.GroupEnd e l = (e, l)
    step-led wanted.Closing _ e l = absurd l

  pub found : {w : Wanted} {s : Said} {i : ℕ} → Walk T w s i (held m j) → Standing w s i
  found {w = w} {s = s} {i = i} (goes {v = v} {t = t} e n k) = step-led s i w (T i).sort refl (subst (λ x. Led x (T i).next) (sym e) (subst (Standing v t) (sym n) (found k)))
  found {w = w} {s = s} {i = i} (over e n) = step-led s i w (T i).sort refl (subst (λ x. Led x (T i).next) (sym e) (refl, n))
