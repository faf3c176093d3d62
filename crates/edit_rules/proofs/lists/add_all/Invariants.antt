use Rattle.std.proofs.Common.{◌≡◌, ◌++◌}
use Rattle.edit_rules.proofs.lists.add_all.Given as goal

abbrev pub invariant-loop-path : goal.invariant-loop-path
invariant-loop-path l = l.paths.items ++ l.path-iterator.rest.items ≡ l.fn.paths.items ++ l.fn.more.items
