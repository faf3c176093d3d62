use Rattle.std.proofs.Common.{◌≡◌, [], sym, ◌∙◌, ap, subst, Some}
use Rattle.std.proofs.lemmas.Option.{none-some}
use Rattle.tree_core.specs.FileTree.{root_tree}
use Rattle.tree_core.specs.History.{IsDurable, current_tree}
use Rattle.mem_tree.specs.Built.{Refuses, built, first_bad, next_of}
use Rattle.mem_tree.specs.MemHistory.{Told}
use Rattle.drill_tree.specs.Drill.{IsDrillTree, drill_held}
use Rattle.drill_memory.specs.Numbered.{HaveOwnNumbers, numbered}
use Rattle.drill_memory.proofs.MemoryLemmas.{began_durable, is_drill, none_bad, numbers_own}
use Rattle.drill_memory.proofs.making.make_drill.Goals as goal

pub returns-in-Ok-clause-tree : goal.returns-in-Ok-clause-tree
returns-in-Ok-clause-tree c =
    let entries : c.as_slice.result.now ≡ numbered 0 (drill_held c.args.groups) = c.as_slice.ensures.value ∙ c.in_ok-entries.ensures ∙ ap (numbered 0) c.in_ok-held.ensures.held in
    let same = ap (λ (x : Told). current_tree x.history) c.in-Ok.ensures.told ∙ ap (built root_tree) entries in
    subst (IsDrillTree c.args.groups) (sym same) (is_drill c.args.groups)

pub returns-in-Ok-clause-numbers : goal.returns-in-Ok-clause-numbers
returns-in-Ok-clause-numbers c =
    let entries : c.as_slice.result.now ≡ numbered 0 (drill_held c.args.groups) = c.as_slice.ensures.value ∙ c.in_ok-entries.ensures ∙ ap (numbered 0) c.in_ok-held.ensures.held in
    let same = ap (λ (x : Told). current_tree x.history) c.in-Ok.ensures.told ∙ ap (built root_tree) entries in
    subst HaveOwnNumbers (sym same) (numbers_own c.args.groups)

pub returns-in-Ok-clause-durable : goal.returns-in-Ok-clause-durable
returns-in-Ok-clause-durable c =
    subst IsDurable (sym (ap (λ (x : Told). x.history) c.in-Ok.ensures.told)) (began_durable (built root_tree c.as_slice.result.now) (next_of c.as_slice.result.now))

pub unreachable-requires : goal.unreachable-requires
unreachable-requires c =
    let entries : c.as_slice.result.now ≡ numbered 0 (drill_held c.args.groups) = c.as_slice.ensures.value ∙ c.in_ok-entries.ensures ∙ ap (numbered 0) c.in_ok-held.ensures.held in
    let bad : first_bad [] c.as_slice.result.now ≡ Some c.in-Err-BadEntry.field-0-0 = subst (Refuses c.as_slice.result.now) c.in-Err-BadEntry.field-0-is c.in-Err-BadEntry.ensures.bad in
    none-some c.in-Err-BadEntry.field-0-0 (sym (ap (first_bad []) entries ∙ none_bad c.args.groups c.requires) ∙ bad)
