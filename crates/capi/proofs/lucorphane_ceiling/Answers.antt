-- `capi::lucorphane_ceiling` meets its contract: the call is about the job of the arguments.
use Rattle.std.proofs.Common.{ap, ◌∙◌}
use Rattle.arena.specs.Refusals.{topping}
use Rattle.capi.proofs.lucorphane_ceiling.Goals as goal

pub returns : goal.returns
returns c = c.into.ensures ∙ c.ceiling.ensures ∙ ap topping c.job.ensures
