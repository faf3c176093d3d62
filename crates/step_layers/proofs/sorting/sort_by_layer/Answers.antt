use Rattle.std.proofs.Common.{ap, ◌∙◌}
use Rattle.step_layers.specs.Layers.{by_layer}
use Rattle.step_layers.proofs.SortedLemmas.{are_sorted}
use Rattle.step_layers.proofs.sorting.sort_by_layer.Goals as goal

pub returns-clause-sorted : goal.returns-clause-sorted
returns-clause-sorted c = c.from_vec.ensures ∙ c.in_ok-sorted.ensures ∙ ap by_layer c.into_vec.ensures

pub returns-clause-same : goal.returns-clause-same
returns-clause-same c = (are_sorted c.args.steps c.from_vec.result (c.from_vec.ensures ∙ c.in_ok-sorted.ensures ∙ ap by_layer c.into_vec.ensures)).same

pub returns-clause-order : goal.returns-clause-order
returns-clause-order c = (are_sorted c.args.steps c.from_vec.result (c.from_vec.ensures ∙ c.in_ok-sorted.ensures ∙ ap by_layer c.into_vec.ensures)).order

pub returns-clause-leads : goal.returns-clause-leads
returns-clause-leads c = (are_sorted c.args.steps c.from_vec.result (c.from_vec.ensures ∙ c.in_ok-sorted.ensures ∙ ap by_layer c.into_vec.ensures)).leads

pub returns-clause-groups : goal.returns-clause-groups
returns-clause-groups c = (are_sorted c.args.steps c.from_vec.result (c.from_vec.ensures ∙ c.in_ok-sorted.ensures ∙ ap by_layer c.into_vec.ensures)).groups
