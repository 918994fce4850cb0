-- `atom` meets its contract: each of its answers is the one for the sort that led there.
use Rattle.std.proofs.Common.{◌≡◌, ℕ, ◌≤◌, arith}
use Rattle.tokens.specs.declared.Sort.TheVariants as sort
use Rattle.labels.proofs.Units.{atom-true, atom-false, atom-prop, atom_foreign}
use Rattle.labels.proofs.atom.Goals as goal

pub returns-in-True : goal.returns-in-True
returns-in-True c = atom-true _ c.args.x c.in-True.is

pub returns-in-False : goal.returns-in-False
returns-in-False c = atom-false _ c.args.x c.in-False.is

pub returns-then-props-i : goal.returns-then-props-i
returns-then-props-i c =
    let x = c.args.x in
    let large : (v : ℕ) → x.sort ≡ sort.Number v → c.args.props ≤ v = λ v e. let same : c.in-Number.i ≡ v = cc in omega arith in
    atom_foreign _ x (λ e. absurd (cc)) (λ e. absurd (cc)) large (λ e. absurd (cc)) (λ e. absurd (cc))

pub returns-else-props-i : goal.returns-else-props-i
returns-else-props-i c = atom-prop _ c.args.x c.column-set.result _ c.in-Number.is c.if-props-i.false c.column-set.ensures

pub returns-in_default : goal.returns-in_default
returns-in_default c = atom_foreign _ c.args.x c.in_default.not-True c.in_default.not-False (λ v e. absurd (c.in_default.not-Number v e)) c.requires.over.1 c.requires.over.0
