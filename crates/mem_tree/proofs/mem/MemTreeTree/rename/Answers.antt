use Rattle.std.proofs.Common.{◌≡◌, ◌∙◌, is_err}
use Rattle.dired_text.specs.Paths.{Names}
use Rattle.tree_core.specs.declared.node.Change.TheVariants.{Rename}
use Rattle.tree_core.specs.FileTree.{IsTree, CanRename, Stands, moved}
use Rattle.tree_core.specs.History.{History, Then, current_tree}
use Rattle.mem_tree.specs.Times.{Times, times_now}
use Rattle.mem_tree.specs.MemFields.{fields_of}
use Rattle.mem_tree.specs.MemHistory.{told, history_told}
use Rattle.mem_tree.proofs.ScheduleLemmas.{times-made}
use Rattle.mem_tree.proofs.FieldLemmas.{fields_carried, on_ok}
use Rattle.mem_tree.proofs.mem.MemTreeTree.rename.Goals as goal

carried : (h new : History) (times later : Times) (from to one two : Names) → one ≡ from → two ≡ to → new ≡ Then h (Rename one two) → later ≡ times → IsTree (current_tree h) → CanRename (current_tree h) from to
    → (p : Names) → Stands (current_tree h) p → fields_of (current_tree new) (times_now new later) (moved from to p) ≡ fields_of (current_tree h) (times_now h times) p
carried h new times later from to one two one_is two_is is same tree can p stands =
    let done : new ≡ Then h (Rename from to) = is ∙ (λ i. Then h (Rename (one_is i) (two_is i))) in
    (λ i. fields_of (current_tree (done i)) (times_now (done i) (same i)) (moved from to p)) ∙ fields_carried (current_tree h) (times_now h times) from to tree can p stands

pub returns-in-Ok-Ok-clause-carried : goal.returns-in-Ok-Ok-clause-carried
returns-in-Ok-Ok-clause-carried c =
    let m = c.args.self.now in
    let new = c.change.new.self in
    on_ok _ _ c.change.result
    (λ (is : history_told new ≡ Then (history_told m) (Rename c.in-Ok-Ok.from c.in-Ok-Ok.to)).
    carried (history_told m) (history_told new) (told m).times (told new).times c.args.from.now c.args.to.now c.in-Ok-Ok.from c.in-Ok-Ok.to c.in-Ok-Ok.ensures c.in-Ok-Ok.ensures' is
    (times-made _ _ _ _ (is_err c.change.result) c.change.ensures.scheduled) m.sound.tree c.requires)
    c.change.ensures.history
