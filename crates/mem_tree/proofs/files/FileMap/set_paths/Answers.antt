use Rattle.std.proofs.Common.{◌∙◌, ap, nat_cmp}
use Rattle.std.specs.FinMap.{is_sorted, from_entries}
use Rattle.mem_tree.specs.declared.files.FileBody.{FileBody}
use Rattle.mem_tree.specs.declared.files.FileMap.TheInside.{Inside}
use Rattle.mem_tree.proofs.KeptMaps.{file_sorted, file_written, file_missed}
use Rattle.mem_tree.proofs.files.FileMap.set_paths.Goals.{in-Some, in_default}
use Rattle.mem_tree.proofs.files.FileMap.set_paths.Goals as goal

pub invariant_of-self : goal.invariant_of-self
invariant_of-self c = elim c.match-get_mut.branch [
  | in-Some w ↦ ap (λ (s : Inside). is_sorted nat_cmp s.files.entries) w.self-inside-is ∙ file_sorted _ (c.get_mut.follows.holds _).4
  | in_default w ↦ ap (λ (s : Inside). is_sorted nat_cmp s.files.entries) w.self-inside-is ∙ ap (λ m. is_sorted nat_cmp m.entries) c.get_mut.follows.holds-at-none ∙ c.self.invariant
]

pub returns : goal.returns
returns c = elim c.match-get_mut.branch [
  | in-Some w ↦ ap (λ (s : Inside). from_entries {R = nat_cmp} s.files.entries) w.self-inside-is
      ∙ file_written c.self.inside.files (c.get_mut.follows.lender _) c.args.self.now c.args.number (λ (b : FileBody). record b { paths = c.args.paths }) c.self.view_is w.in-Some.body.now w.in-Some.ensures.value (c.get_mut.follows.holds _)
  | in_default w ↦ ap (λ (s : Inside). from_entries {R = nat_cmp} s.files.entries) w.self-inside-is
      ∙ file_missed c.self.inside.files c.get_mut.follows.lender-at-none c.args.self.now c.args.number (λ (b : FileBody). record b { paths = c.args.paths }) c.self.view_is w.in_default.ensures.value c.get_mut.follows.holds-at-none
]
