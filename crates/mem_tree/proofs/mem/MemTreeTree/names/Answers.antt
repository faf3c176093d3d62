use Rattle.std.proofs.Common.{sym, subst}
use Rattle.tree_core.specs.Fields.{RiseStrictly}
use Rattle.tree_core.proofs.NameLemmas.{names_rise}
use Rattle.mem_tree.proofs.mem.MemTreeTree.names.Goals as goal

pub returns-clause-lawful : goal.returns-clause-lawful
returns-clause-lawful c = subst RiseStrictly (sym c.in_ok-names.ensures) (names_rise _ c.args.path.now)
