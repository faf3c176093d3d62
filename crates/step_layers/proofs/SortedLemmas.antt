-- What holds of steps that are sorted by layer.
use Rattle.std.proofs.Common.{◌≡◌, ◌<◌, ◌≤◌, List, length, sym, subst, IsPermutation}
use Rattle.std.specs.List.{AllByRecursion}
use Rattle.tree_core.specs.declared.node.Node.{Node}
use Rattle.tree_core.specs.FileTree.{FileTree}
use Rattle.commit_steps.specs.Steps.{HasPaths, IsLawfulStep}
use Rattle.commit_steps.specs.declared.step.Step.{Step}
use Rattle.step_trees.specs.Groups as trees
use Rattle.step_trees.specs.Leads.{Leads, start}
use Rattle.step_layers.specs.Layers.{by_layer, layers}
use Rattle.step_layers.specs.Order.{KeepsOrder, SetOnce}
use Rattle.step_layers.proofs.ExchangeLemmas.{orders_have_all, orders_lead}
use Rattle.step_layers.proofs.GroupLemmas.{groups_are_few}
use Rattle.step_layers.proofs.LayerLemmas.{layers_keep_order}

pub record AreSorted (steps sorted : List Step) : Type 0 where
  pub same : IsPermutation steps sorted
  pub order : KeepsOrder steps sorted
  pub leads : (old new : FileTree) (fresh : List Node) → Leads steps old new fresh → AllByRecursion HasPaths steps → SetOnce (start old fresh) steps → Leads sorted old new fresh
  pub groups : AllByRecursion IsLawfulStep steps → 8 < length steps → length (trees.groups sorted) ≤ length (layers steps)

pub are_sorted : (steps sorted : List Step) → sorted ≡ by_layer steps → AreSorted steps sorted
are_sorted steps sorted is =
    let keeps = layers_keep_order steps in
    subst (AreSorted steps) (sym is) (record {
      same = (orders_have_all steps (by_layer steps) keeps).0;
      order = keeps;
      leads = λ old new fresh leads paths once. orders_lead steps (by_layer steps) old new fresh leads paths once keeps;
      groups = λ lawful many. groups_are_few steps lawful many;
    })
