-- What a step does to a tree, and how looks tell whether it was done.
use Rattle.std.specs.Prelude.{◌≡◌, ℕ, List, [], ◌∷◌, Some}
use Rattle.std.specs.Option.{option_map}
use Rattle.std.specs.FinMap.{get}
use Rattle.dired_text.specs.Paths.{Names, parent}
use Rattle.tree_core.specs.declared.node.Change.{Change}
use Rattle.tree_core.specs.declared.node.Change.TheVariants as call
use Rattle.tree_core.specs.FileTree.{FileTree, IsAbsent, Stands, IsDir, HasMode, mode_of, done}
use Rattle.commit_steps.specs.declared.step.Step.{Step}
use Rattle.commit_steps.specs.declared.step.Step.TheVariants.{MakeDir, Rename, Mode}
use Rattle.commit_steps.specs.Steps.{HasPaths, IsLawfulStep}

-- a lawful step whose paths are paths, as a journal spells them
pub record IsStep (step : Step) : Type 0 where
  pub paths : HasPaths step
  pub lawful : IsLawfulStep step

-- the changing call of a step
abbrev pub call_of : Step → Change
call_of (MakeDir p) = call.MakeDir p 0o755
call_of (Rename from to) = call.Rename from to
call_of (Mode p old new) = call.SetMode p new

-- the call that undoes it
abbrev pub undo_of : Step → Change
undo_of (MakeDir p) = call.RemoveDir p
undo_of (Rename from to) = call.Rename to from
undo_of (Mode p old new) = call.SetMode p old

-- the tree with the step done; no step writes a file, so the next file number doesn't matter
abbrev pub step_done : Step → FileTree → FileTree
step_done step t = done (call_of step) 0 t

-- the tree with these steps done, in order
abbrev pub after : List Step → FileTree → FileTree
after [] t = t
after (step ∷ steps) t = after steps (step_done step t)

-- ---- looking at a step

-- a file or a directory of this mode
abbrev pub HasModeOf : FileTree → Names → ℕ → Type 0
HasModeOf t p mode = HasMode t p × (option_map mode_of (get t p) ≡ Some mode)

-- the step is still to be done, as looks tell
abbrev pub IsBefore : Step → FileTree → Type 0
IsBefore (MakeDir p) t = IsAbsent t p × IsDir t (parent p)
IsBefore (Rename from to) t = Stands t from × IsAbsent t to × IsDir t (parent to)
IsBefore (Mode p old new) t = HasModeOf t p old

-- the step was done, as looks tell
abbrev pub IsAfter : Step → FileTree → Type 0
IsAfter (MakeDir p) t = IsDir t p
IsAfter (Rename from to) t = IsAbsent t from × Stands t to × IsDir t (parent from)
IsAfter (Mode p old new) t = HasModeOf t p new
