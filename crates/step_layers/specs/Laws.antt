-- What holds of steps that are sorted by layer, as statements.
use Rattle.std.specs.Prelude.{◌≡◌, ◌<◌, ◌≤◌, List, length, IsPermutation}
use Rattle.std.specs.List.{AllByRecursion}
use Rattle.tree_core.specs.declared.node.Node.{Node}
use Rattle.tree_core.specs.FileTree.{FileTree}
use Rattle.commit_steps.specs.declared.step.Step.{Step}
use Rattle.commit_steps.specs.Steps.{HasPaths, IsLawfulStep}
use Rattle.step_trees.specs.Groups.{Independent, groups}
use Rattle.step_trees.specs.Leads.{start, Leads}
use Rattle.step_trees.specs.Steps.{after}
use Rattle.step_layers.specs.Order.{KeepsOrder, SetOnce}
use Rattle.step_layers.specs.Layers.{by_layer, layers}

-- Where steps lead from an old tree to an edited one and no two set the mode of one file, they do so in each order that keeps that of
-- related steps.
abbrev pub OrdersLead : Type 0
OrdersLead =
    (steps others : List Step) (old new : FileTree) (fresh : List Node) → Leads steps old new fresh → AllByRecursion HasPaths steps → SetOnce (start old fresh) steps
    → KeepsOrder steps others → Leads others old new fresh

-- Then the last tree is the same,
abbrev pub OrdersEndAlike : Type 0
OrdersEndAlike =
    (steps others : List Step) (old new : FileTree) (fresh : List Node) → Leads steps old new fresh → AllByRecursion HasPaths steps → SetOnce (start old fresh) steps
    → KeepsOrder steps others → after others (start old fresh) ≡ after steps (start old fresh)

-- and the steps are the same.
abbrev pub OrdersHaveAll : Type 0
OrdersHaveAll = (steps others : List Step) → KeepsOrder steps others → IsPermutation steps others × (length others ≡ length steps)

-- To sort by layer is such an order.
abbrev pub LayersKeepOrder : Type 0
LayersKeepOrder = (steps : List Step) → KeepsOrder steps (by_layer steps)

-- In a layer of lawful steps no two paths are related.
abbrev pub LayersAreIndependent : Type 0
LayersAreIndependent = (steps : List Step) → AllByRecursion IsLawfulStep steps → AllByRecursion Independent (layers steps)

-- More than eight lawful steps that are sorted by layer have at most as many groups as layers.
abbrev pub GroupsAreFew : Type 0
GroupsAreFew = (steps : List Step) → AllByRecursion IsLawfulStep steps → 8 < length steps → length (groups (by_layer steps)) ≤ length (layers steps)
