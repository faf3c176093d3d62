-- Steps that fit a commit do so in each order that keeps that of related steps.
use Rattle.std.proofs.Common.{◌≡◌, ℕ, ◌+◌, List, length, sym, ◌∙◌, ap, subst, arith}
use Rattle.std.proofs.lemmas.List.{take_all}
use Rattle.commit_journal.specs.declared.version.Version.TheVariants.{Two}
use Rattle.commit_journal.proofs.GrammarLemmas.{journal_spelled}
use Rattle.commit_states.specs.Calls.{Cleans, fresh_nodes}
use Rattle.commit_steps.specs.declared.step.Step.{Step}
use Rattle.plan_orders.specs.Laws.{OrdersFit}
use Rattle.step_layers.proofs.ExchangeLemmas.{orders_end_alike, orders_have_all, orders_lead}
use Rattle.step_trees.specs.Leads.{at_place, start}
use Rattle.step_trees.specs.Steps.{after}
use Rattle.tree_core.specs.declared.node.Node.{Node}
use Rattle.tree_core.specs.FileTree.{FileTree}

at_last : (steps : List Step) (old : FileTree) (fresh : List Node) → at_place steps old fresh (length steps) ≡ after steps (start old fresh)
at_last steps old fresh = ap (λ (l : List Step). after l (start old fresh)) (take_all (length steps) steps (omega arith))

pub orders_fit : OrdersFit
orders_fit steps others fs journal other hs new old next fit once keeps written =
    let fresh = fresh_nodes old (next + 1) fs in
    let paths = ((journal_spelled Two steps journal (fit.journal_is).journal).0).paths in
    let alike = orders_end_alike steps others old new fresh fit.leads paths once keeps in
    let as_many = (orders_have_all steps others keeps).1 in
    let few = fit.few_steps in
    record {
      absent = fit.absent;
      lawful = fit.lawful;
      few_fresh = fit.few_fresh;
      few_steps = omega arith;
      journal_is = written;
      leads = orders_lead steps others old new fresh fit.leads paths once keeps;
      cleans = subst (Cleans hs) (at_last steps old fresh ∙ sym alike ∙ sym (at_last others old fresh)) fit.cleans;
    }
