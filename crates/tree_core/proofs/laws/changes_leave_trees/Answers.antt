use Rattle.tree_core.proofs.Sound.{sound_then}
use Rattle.tree_core.proofs.laws.changes_leave_trees.Goals as goal

pub returns : goal.returns
returns c h change sound can = sound_then change h sound can
