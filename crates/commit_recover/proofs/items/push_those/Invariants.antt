use Rattle.std.proofs.Common.{◌≡◌, ◌++◌, drop}
use Rattle.commit_recover.specs.Items.{is_of, items_by, pairs, placed}
use Rattle.commit_recover.proofs.items.push_those.Given as goal

abbrev pub invariant-loop-k : goal.invariant-loop-k
invariant-loop-k l =
    pairs l.items.items ++ placed (items_by (is_of l.part) (drop l.k l.left.names.items) (drop l.k l.left.found.items))
    ≡ pairs l.fn.items.items ++ placed (items_by (is_of l.part) l.left.names.items l.left.found.items)
