use Rattle.std.proofs.Common.{◌≡◌, ◌∙◌, ap, sym, max, rules, to_z, of_z, w64}
use Rattle.mem_tree.specs.Slots.{timed, times_in}
use Rattle.mem_tree.specs.Stores.{times_of, tree_of}
use Rattle.mem_tree.proofs.BuiltLemmas.{builds_root, builds_next, test_told, stops_at}
use Rattle.mem_tree.proofs.build.store_of.Goals as goal

pub loop-index-init : goal.loop-index-init
unfolding tree_of times_of
loop-index-init c = builds_root c.args.entries.now c.in_ok-store.store.slots c.in_ok-store.store.files c.in_ok-store.store.counted c.in_ok-store.ensures.tree c.in_ok-store.ensures.times

pub loop-index-preserved : goal.loop-index-preserved
unfolding tree_of times_of
loop-index-preserved c =
    let t : to_z w64 (of_z w64 c.index-entries-index.result.mtime) ≡ c.index-entries-index.result.mtime = search rules in
    builds_next c.args.entries.now c.loop-index.store.slots c.add.new.self.slots c.loop-index.store.files c.add.new.self.files c.loop-index.next c.max-next.result c.loop-index.index c.index-entries-index.result
    c.loop-index.invariant c.loop-index-test.true c.index-entries-index.is
    (sym (test_told c.args.entries.now c.loop-index.store.slots c.loop-index.store.files c.loop-index.next c.loop-index.index c.index-entries-index.result c.loop-index.invariant) ∙ sym c.if-not-is_good.ensures.good)
    c.in_ok-add.ensures.tree (c.in_ok-add.ensures.times ∙ ap (λ m. timed c.index-entries-index.result.path m (times_in c.loop-index.store.slots)) t) c.in_ok-add.ensures.files (c.max-next.ensures ∙ ap (max c.loop-index.next) c.number_above.ensures) c.is_good.ensures.texts

pub returns-then-not-is_good-clause-bad : goal.returns-then-not-is_good-clause-bad
unfolding tree_of times_of
returns-then-not-is_good-clause-bad c =
    stops_at c.args.entries.now c.loop-index.store.slots c.loop-index.store.files c.loop-index.next c.loop-index.index c.index-entries-index.result c.loop-index.invariant c.loop-index-test.true c.index-entries-index.is
    (sym (test_told c.args.entries.now c.loop-index.store.slots c.loop-index.store.files c.loop-index.next c.loop-index.index c.index-entries-index.result c.loop-index.invariant) ∙ sym c.if-not-is_good.ensures.good)
