-- The calls of the seal and behind it.
use Rattle.std.specs.Prelude.{List, ◌∷◌, length}
use Rattle.commit_states.specs.declared.held.Held.{Held}
use Rattle.commit_states.specs.Calls.{cleaning_calls}
use Rattle.commit_steps.specs.declared.step.Step.{Step}
use Rattle.commit_steps.specs.Staging.{staged, plan, sealed}
use Rattle.tree_core.specs.declared.node.Change.{Change}
use Rattle.tree_core.specs.declared.node.Change.TheVariants as call

-- the rename that seals the journal
abbrev pub sealed_rename : Change
sealed_rename = call.Rename (staged plan) (staged sealed)

-- all behind it
abbrev pub finish_calls : List Step → List Held → List Change
finish_calls steps hs = call.Sync ∷ cleaning_calls hs (length steps)
