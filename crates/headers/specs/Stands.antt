-- Which token may stand where in a header: what each sort leads to, by what is wanted and what has been said. None where it may not stand.
use Rattle.std.specs.Prelude.{Bool, true, cond, ℕ, zero, suc, eqb, leb, Option, Some, None, is_some}
use Rattle.std.specs.Option.{unwrap_or}
use Rattle.tokens.specs.declared.Sort.{Sort}
use Rattle.tokens.specs.declared.Sort.TheVariants as sort
use Rattle.tokens.specs.Sorts.{plain}
use Rattle.headers.specs.declared.Said.{Said}
use Rattle.headers.specs.declared.Wanted.{Wanted}
use Rattle.headers.specs.declared.Wanted.TheVariants.{Format, Version, Item, Value, States, Start, Props, Names, Sets, Inf, Opening, Zero, Closing}
use Rattle.headers.specs.declared.Next.{Next}
use Rattle.headers.specs.declared.Next.TheVariants.{To, Body}
use Rattle.headers.specs.Header.{with_states, with_start, with_props, with_acceptance, most_props}

-- a token that leads to where w is wanted and s has been said
abbrev pub onto : Wanted → Said → Option Next
onto w s = Some (To w s)

-- "a repeated one 23 at its second word"
abbrev pub once : (stood : Bool) → Wanted → Said → Option Next
once stood w s = cond stood None (onto w s)

-- "A missing required header is 23 at `--BODY--`"
abbrev pub required : (states start : Option ℕ) → (accepting : Bool) → (props : Option ℕ) → Option Next
required (Some n) (Some q) true p = Some (Body (record { states = n; start = q; props = unwrap_or p 0; named = is_some p }))
required _ _ _ p = None

abbrev pub whole : Said → Option Next
whole s = required s.states s.start s.accepting s.props

-- where a header word is wanted
abbrev pub item : Said → Sort → Option Next
item s sort.States = once (is_some s.states) States s
item s sort.Start = once (is_some s.start) Start s
item s sort.Ap = once (is_some s.props) Props s
item s sort.Acceptance = once s.accepting Sets s
item s sort.Minor = onto Value s
item s sort.Body = whole s
item s _ = None

-- so many names are left: the next is wanted, with the number that are left behind it
abbrev pub names_after : (left : ℕ) → Wanted
names_after zero = Item
names_after (suc c) = Names c

-- "a fifth proposition: 23 at that number"
abbrev pub props_next : Said → (p : ℕ) → Option Next
props_next s p = cond (leb p most_props) (onto (names_after p) (with_props s p)) None

-- one number and no other
abbrev pub exactly : (u v : ℕ) → Option Next → Option Next
exactly u v n = cond (eqb v u) n None

abbrev pub step : Wanted → Said → Sort → Option Next
step Format s sort.Hoa = onto Version s
step Format s _ = None
step Version s sort.Version = onto Item s
step Version s _ = None
step Item s k = item s k
step Value s k = cond (plain k) (onto Value s) (item s k)
step States s (sort.Number n) = onto Item (with_states s n)
step States s _ = None
step Start s (sort.Number q) = onto Item (with_start s q)
step Start s _ = None
step Props s (sort.Number p) = props_next s p
step Props s _ = None
step (Names c) s sort.Quoted = onto (names_after c) s
step (Names c) s _ = None
step Sets s (sort.Number v) = exactly 1 v (onto Inf s)
step Sets s _ = None
step Inf s sort.Inf = onto Opening s
step Inf s _ = None
step Opening s sort.Group = onto Zero s
step Opening s _ = None
step Zero s (sort.Number v) = exactly 0 v (onto Closing s)
step Zero s _ = None
step Closing s sort.GroupEnd = onto Item (with_acceptance s)
step Closing s _ = None
