use Rattle.std.proofs.Common.{◌∙◌, ap, sym, map, Bor}
use Rattle.std.proofs.lemmas.List.{take_all}
use Rattle.std.specs.Option.{option_copied}
use Rattle.std.specs.FinMap.{get, keys}
use Rattle.std.specs.List.{filter, filter_map}
use Rattle.std.specs.Vec.{vec_items}
use Rattle.dired_text.specs.Paths.{Names, is_below}
use Rattle.tree_core.specs.Fields.{child_name}
use Rattle.mem_tree.specs.Stores.{times_of, tree_of}
use Rattle.mem_tree.proofs.StoreLooks.{names_below, no_names_none, name_more, name_passed, none_by}
use Rattle.mem_tree.proofs.store.Store.names.Goals.{in-Some+in_ok-copy+in_ok-push, in_default, then-is_some+in_ok-below+else-loop-names-test, else-is_some}
use Rattle.mem_tree.proofs.store.Store.names.Goals as goal

pub loop-names-preserved : goal.loop-names-preserved
unfolding tree_of times_of
loop-names-preserved c = elim c.match-child_name.branch [
  | in-Some+in_ok-copy+in_ok-push w ↦
      name_more c.args.path.now c.deref-names-items.result.now c.loop-names.names-index c.names-item.result c.loop-names-test.true c.names-item.is c.loop-names.found.items c.match-child_name.found.items w.in-Some.name.now w.in_ok-copy.field-0
      c.loop-names.invariant (w.in-Some.ensures ∙ ap (λ p. child_name p c.names-item.result.now) c.names-in-loop-names.ensures.names) w.in_ok-copy.ensures (ap vec_items w.found-is ∙ w.in_ok-push.ensures.items)
  | in_default w ↦
      name_passed c.args.path.now c.deref-names-items.result.now c.loop-names.names-index c.names-item.result c.loop-names-test.true c.names-item.is c.loop-names.found.items c.match-child_name.found.items
      c.loop-names.invariant (w.in_default.ensures ∙ ap (λ p. child_name p c.names-item.result.now) c.names-in-loop-names.ensures.names) (ap vec_items w.found-is)
]

pub returns : goal.returns
unfolding tree_of times_of
returns c = elim c.if-is_some.branch [
  | then-is_some+in_ok-below+else-loop-names-test w ↦
      ap vec_items w.found-is ∙ w.loop-names.invariant
      ∙ ap (λ l. filter_map (child_name c.args.path.now) (map (λ (k : Bor Names). k.now) l)) (take_all w.loop-names.names-index _ w.loop-names-test.false ∙ w.deref-names-items.ensures.value)
      ∙ names_below c.args.self.now.slots c.args.self.now.files c.args.path.now _ (w.in_ok-below.ensures ∙ ap (λ p. filter (is_below p) (keys c.args.self.now.slots)) w.names-then-is_some.ensures.names)
  | else-is_some w ↦
      ap vec_items w.found-is ∙ c.new-found.ensures.items
      ∙ no_names_none c.args.self.now.slots c.args.self.now.files c.args.path.now c.args.self.now.parents
      (ap (get c.args.self.now.slots) (sym c.names.ensures.names) ∙ sym c.get.ensures ∙ ap option_copied (none_by c.get.result (sym w.if-is_some.ensures)))
]
