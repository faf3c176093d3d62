use Rattle.std.proofs.Common.{◌∙◌, ap}
use Rattle.std.specs.FinMap.{is_sorted, from_entries}
use Rattle.dired_text.specs.Paths.{path_cmp}
use Rattle.mem_tree.specs.Slots.{placed}
use Rattle.mem_tree.specs.declared.slots.SlotMap.TheInside.{Inside}
use Rattle.mem_tree.proofs.KeptMaps.{slot_sorted, slot_written, slot_missed}
use Rattle.mem_tree.proofs.slots.SlotMap.set_content.Goals.{in-Some+in-Dir-1, in-Some+in-Link-1, in_default+in-Dir-1, in_default+in-Link-1}
use Rattle.mem_tree.proofs.slots.SlotMap.set_content.Goals as goal

pub invariant_of-self : goal.invariant_of-self
invariant_of-self c = elim c.match-get_mut.branch [
  | in-Some+in-Dir-1 w ↦ ap (λ (s : Inside). is_sorted path_cmp (placed s.slots.entries)) w.self-inside-is ∙ slot_sorted _ (c.get_mut.follows.holds _).4
  | in-Some+in-Link-1 w ↦ ap (λ (s : Inside). is_sorted path_cmp (placed s.slots.entries)) w.self-inside-is ∙ slot_sorted _ (c.get_mut.follows.holds _).4
  | in_default+in-Dir-1 w ↦ ap (λ (s : Inside). is_sorted path_cmp (placed s.slots.entries)) w.self-inside-is ∙ ap (λ m. is_sorted path_cmp (placed m.entries)) c.get_mut.follows.holds-at-none ∙ c.self.invariant
  | in_default+in-Link-1 w ↦ ap (λ (s : Inside). is_sorted path_cmp (placed s.slots.entries)) w.self-inside-is ∙ ap (λ m. is_sorted path_cmp (placed m.entries)) c.get_mut.follows.holds-at-none ∙ c.self.invariant
]

pub returns : goal.returns
returns c = elim c.match-get_mut.branch [
  | in-Some+in-Dir-1 w ↦ ap (λ (s : Inside). from_entries {R = path_cmp} (placed s.slots.entries)) w.self-inside-is
      ∙ slot_written c.self.inside.slots (c.get_mut.follows.lender _) c.args.self.now c.args.names.now c.args.content c.self.view_is w.in-Some.slot.now w.in-Some.ensures.value (c.get_mut.follows.holds _)
  | in-Some+in-Link-1 w ↦ ap (λ (s : Inside). from_entries {R = path_cmp} (placed s.slots.entries)) w.self-inside-is
      ∙ slot_written c.self.inside.slots (c.get_mut.follows.lender _) c.args.self.now c.args.names.now c.args.content c.self.view_is w.in-Some.slot.now w.in-Some.ensures.value (c.get_mut.follows.holds _)
  | in_default+in-Dir-1 w ↦ ap (λ (s : Inside). from_entries {R = path_cmp} (placed s.slots.entries)) w.self-inside-is
      ∙ slot_missed c.self.inside.slots c.get_mut.follows.lender-at-none c.args.self.now c.args.names.now c.args.content c.self.view_is w.in_default.ensures.value c.get_mut.follows.holds-at-none
  | in_default+in-Link-1 w ↦ ap (λ (s : Inside). from_entries {R = path_cmp} (placed s.slots.entries)) w.self-inside-is
      ∙ slot_missed c.self.inside.slots c.get_mut.follows.lender-at-none c.args.self.now c.args.names.now c.args.content c.self.view_is w.in_default.ensures.value c.get_mut.follows.holds-at-none
]
