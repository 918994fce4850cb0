-- `spoilers::source::Column::sources` meets its contract: a state is taken from the word of the bit that a move to it leaves.
use Rattle.spoilers.proofs.Leads.{sources_made}
use Rattle.spoilers.proofs.column.Column.sources.Goals as goal

pub returns : goal.returns
returns c = sources_made c.args.game.now c.args.self c.requires.shaped c.args.grown.now c.args.a _ _ _ _ _ c.marks_at-plain.ensures c.marks_at-marked.ensures c.meet.ensures c.meet-2.ensures c.join.ensures
