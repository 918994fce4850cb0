-- What is known while a label is read unit by unit, in continuation form: what the rest is makes what the whole is.
use Rattle.std.proofs.Common.{◌≡◌, ℕ, ◌<◌, min, max, arith, bit_and, bit_or}
use Rattle.tokens.specs.declared.Token.{Token}
use Rattle.tokens.specs.declared.Sort.TheVariants as sort
use Rattle.tokens.specs.Here.{Here}
use Rattle.labels.specs.Label.{Label, both, either, holds, unit, chain, whole, Is, is_unit, is_and, is_chain, is_or}
use Rattle.labels.specs.Stands.{want}
use Rattle.labels.specs.Letters.{flag, bit}
use Rattle.labels.specs.Parts.{Found}
use Rattle.labels.proofs.Masks.{flag-and, flag-or, flag_small, bit-and, bit-or, agrees-true, agrees-false}
use Rattle.labels.proofs.Walk.{Leads, stays, moves, joined, leads, have-and, have-or}

-- A unit is wanted at `at`, behind chains with the letters `any` that `|` follows and units with the letters `all` that `&` follows.
pub record Going (T : ℕ → Token) (p d i at any all : ℕ) : Type 0 where
  pub from : ℕ
  pub ors : Label → Label
  pub ands : Label → Label
  pub chains : (l : Label) (j : ℕ) → Is T p chain d at l j → Is T p chain d from (ands l) j
  pub wholes : (l : Label) (j : ℕ) → Is T p whole d from l j → Is T p whole d i (ors l) j
  pub ands_hold : (l : Label) (a : ℕ) → a < 16 → flag (holds (ands l) a) ≡ min (bit all a) (flag (holds l a))
  pub ors_hold : (l : Label) (a : ℕ) → a < 16 → flag (holds (ors l) a) ≡ max (bit any a) (flag (holds l a))
  pub walks : (o : ℕ) → Leads T p (want d o) i (want d o) at

start-and : (l : Label) (a : ℕ) → a < 16 → flag (holds l a) ≡ min (bit 65535 a) (flag (holds l a))
unfolding holds
start-and l a h = let e : bit 65535 a ≡ 1 = agrees-true a h in omega (arith, flag_small (holds l a))

start-or : (l : Label) (a : ℕ) → a < 16 → flag (holds l a) ≡ max (bit 0 a) (flag (holds l a))
unfolding holds
start-or l a h = let e : bit 0 a ≡ 0 = agrees-false a h in omega arith

module _ {T : ℕ → Token} {p d i : ℕ} where
  pub going_starts : Going T p d i i 0 65535
  going_starts = record {
    from = i;
    ors = λ l. l;
    ands = λ l. l;
    chains = λ l j u. u;
    wholes = λ l j c. c;
    ands_hold = start-and;
    ors_hold = start-or;
    walks = λ o. stays;
  }

  module _ {at any all m j : ℕ} (g : Going T p d i at any all) (f : Found T p unit d at m j) where
    and_hold : (l : Label) (a : ℕ) → a < 16 → flag (holds (g.ands (both f.label l)) a) ≡ min (bit (bit_and all m) a) (flag (holds l a))
    unfolding holds
    and_hold l a h = omega (arith, g.ands_hold (both f.label l) a h, bit-and all m a, f.agrees a h, flag-and (holds f.label a) (holds l a))

    so_far : (a : ℕ) → a < 16 → bit (bit_and all m) a ≡ flag (holds (g.ands f.label) a)
    so_far a h = omega (arith, g.ands_hold f.label a h, bit-and all m a, f.agrees a h)

    or_hold : (l : Label) (a : ℕ) → a < 16 → flag (holds (g.ors (either (g.ands f.label) l)) a) ≡ max (bit (bit_or any (bit_and all m)) a) (flag (holds l a))
    unfolding holds
    or_hold l a h = omega (arith, g.ors_hold (either (g.ands f.label) l) a h, bit-or any (bit_and all m) a, so_far a h, flag-or (holds (g.ands f.label) a) (holds l a))

    -- behind one unit more, that `&` follows
    pub going_and : {h : ℕ} → Here T j sort.And h → Going T p d i h any (bit_and all m)
    going_and {h} e = record {
      from = g.from;
      ors = g.ors;
      ands = λ l. g.ands (both f.label l);
      chains = λ l x u. g.chains (both f.label l) x (is_and f.is e u);
      wholes = g.wholes;
      ands_hold = and_hold;
      ors_hold = g.ors_hold;
      walks = λ o. joined (g.walks o) (joined (leads f.is o) (moves (have-and p d o (T j) e.0) e.1 stays));
    }

    -- behind one unit more, that `|` follows
    pub going_or : {h : ℕ} → Here T j sort.Or h → Going T p d i h (bit_or any (bit_and all m)) 65535
    going_or {h} e = record {
      from = h;
      ors = λ l. g.ors (either (g.ands f.label) l);
      ands = λ l. l;
      chains = λ l x u. u;
      wholes = λ l x w. g.wholes (either (g.ands f.label) l) x (is_or (g.chains f.label j (is_unit f.is)) e w);
      ands_hold = start-and;
      ors_hold = or_hold;
      walks = λ o. joined (g.walks o) (joined (leads f.is o) (moves (have-or p d o (T j) e.0) e.1 stays));
    }

    -- behind the last unit
    pub going_ends : Found T p whole d i (bit_or any (bit_and all m)) j
    going_ends = record {
      label = g.ors (g.ands f.label);
      is = g.wholes (g.ands f.label) j (is_chain (g.chains f.label j (is_unit f.is)));
      agrees = λ a h. omega (arith, g.ors_hold (g.ands f.label) a h, bit-or any (bit_and all m) a, so_far a h);
    }
