-- Which token may stand where in a body: what each sort leads to, by what is due. None where it may not stand.
use Rattle.std.specs.Prelude.{cond, ◌&&◌, List, ℕ, eqb, ltb, get_or, Option, Some, None}
use Rattle.tokens.specs.declared.Sort.{Sort}
use Rattle.tokens.specs.declared.Sort.TheVariants as sort
use Rattle.bodies.specs.declared.Entry.{Entry}
use Rattle.bodies.specs.declared.Due.{Due}
use Rattle.bodies.specs.declared.Due.TheVariants as due
use Rattle.bodies.specs.declared.Next.{Next}
use Rattle.bodies.specs.declared.Next.TheVariants as next
use Rattle.bodies.specs.Body.{unlisted, is_unlisted}

-- where d is due next
abbrev pub onto : Due → Option Next
onto d = Some (next.To d)

-- where a block may begin, or the body end
abbrev pub block_next : Sort → Option Next
block_next sort.State = onto due.State
block_next sort.End = onto due.Nothing
block_next _ = None

-- where an edge of q may begin too
abbrev pub edges_next : (q : ℕ) → Sort → Option Next
edges_next q sort.Label = Some (next.Edge q)
edges_next q k = block_next k

-- where the marks of q may stand too
abbrev pub signed_next : (q : ℕ) → Sort → Option Next
signed_next q sort.Marks = onto (due.Braces q)
signed_next q k = edges_next q k

-- behind the number of q
abbrev pub named_next : (q : ℕ) → Sort → Option Next
named_next q sort.Quoted = onto (due.Signed q)
named_next q k = signed_next q k

-- behind the marks of q
abbrev pub closed_next : (q : ℕ) → Sort → Option Next
closed_next q sort.MarksEnd = onto (due.Edges q)
closed_next q _ = None

-- inside the braces of the marks of q
abbrev pub braces_next : (q : ℕ) → Sort → Option Next
braces_next q (sort.Number v) = cond (eqb v 0) (Some (next.Mark q)) None
braces_next q k = closed_next q k

-- the number of a state below n that the sheet does not list
abbrev pub state_next : (n : ℕ) → (sheet : List Entry) → Sort → Option Next
state_next n s (sort.Number q) = cond (ltb q n && is_unlisted (get_or s q unlisted)) (Some (next.List q)) None
state_next n s _ = None

-- nothing more
abbrev pub over_next : Sort → Option Next
over_next sort.Nothing = Some next.Done
over_next _ = None

-- n states
abbrev pub step : (n : ℕ) → Due → (sheet : List Entry) → Sort → Option Next
step n due.Block s k = block_next k
step n due.State s k = state_next n s k
step n (due.Named q) s k = named_next q k
step n (due.Signed q) s k = signed_next q k
step n (due.Braces q) s k = braces_next q k
step n (due.Zero q) s k = closed_next q k
step n (due.Edges q) s k = edges_next q k
step n due.Nothing s k = over_next k
