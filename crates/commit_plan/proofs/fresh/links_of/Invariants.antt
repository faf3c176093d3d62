use Rattle.std.proofs.Common.{◌≡◌, ◌++◌, drop}
use Rattle.std.specs.List.{filter_map}
use Rattle.commit_plan.specs.Holding.{link_of}
use Rattle.commit_plan.proofs.fresh.links_of.Given as goal

abbrev pub invariant-loop-edit : goal.invariant-loop-edit
invariant-loop-edit l = l.links.items ++ filter_map link_of (drop l.edit-index l.edits) ≡ filter_map link_of l.edits
