use Rattle.std.proofs.Common.{◌≡◌, ◌∙◌, ap, w64, to_z, of_z, rules}
use Rattle.std.specs.Option.{unwrap_or}
use Rattle.mem_tree.specs.Stores.{times_of, tree_of}
use Rattle.mem_tree.proofs.StoreLooks.{meta_shown}
use Rattle.mem_tree.proofs.store.Store.meta_of_slot.Goals as goal

pub returns : goal.returns
unfolding tree_of times_of
returns c =
    let t : to_z w64 (of_z w64 c.args.slot.now.mtime) ≡ c.args.slot.now.mtime = search rules in
    (λ i. record { kind = c.kind.result; mode = c.mode.result; links = c.links.result; owner = c.in_ok-copy_of.field-0; group = c.in_ok-copy_of-2.field-0; size = c.size.result; mtime = t i; number = c.unwrap_or.result; target = c.in_ok-target.field-0 })
    ∙ meta_shown c.args.self.now.slots c.args.self.now.files c.args.self.now.counted c.args.slot.now.content c.args.slot.now.mtime _ _ _ _ _ _ _ _
    c.kind.ensures c.mode.ensures c.links.ensures c.in_ok-copy_of.ensures c.in_ok-copy_of-2.ensures c.size.ensures (c.unwrap_or.ensures ∙ ap (λ o. unwrap_or o 0) c.number.ensures) c.in_ok-target.ensures
