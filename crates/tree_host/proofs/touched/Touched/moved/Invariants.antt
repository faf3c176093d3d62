use Rattle.std.proofs.Common.{◌≡◌, ◌≤◌, true, All}
use Rattle.std.specs.BTreeSet.{btree_set_len}
use Rattle.tree_core.specs.FileTree.{moved as place_after}
use Rattle.tree_host.specs.Notes.{IsNoted, most_notes}
use Rattle.tree_host.proofs.touched.Touched.moved.Given as goal

abbrev pub invariant-loop-path : goal.invariant-loop-path
invariant-loop-path l = All (λ q. IsNoted l.self (place_after l.from l.to q)) l.yielded
    × (l.initial.self.all ≡ true → l.self.all ≡ true)
    × (btree_set_len l.self.paths ≤ most_notes)
