use Rattle.std.proofs.Common.{sym, subst}
use Rattle.tree_core.specs.FileTree.{IsTree, AreTexts}
use Rattle.tree_core.specs.Fields.{IsMeta}
use Rattle.mem_tree.specs.Stores.{tree_of, times_of}
use Rattle.mem_tree.specs.FieldLaws.{told_lawful}
use Rattle.mem_tree.proofs.mem.MemTreeTree.meta.Goals as goal

pub returns-clause-lawful : goal.returns-clause-lawful
returns-clause-lawful c =
    let m = c.look_fails.new.self in
    subst IsMeta (sym c.in_ok-meta.ensures) (told_lawful (tree_of m.store) (times_of m.store) (subst IsTree (sym m.reads) m.sound.tree) (subst AreTexts (sym m.reads) m.sound.texts) c.args.path.now)
