-- An entry of a tree, as the table has entries.
use Rattle.std.specs.Prelude.{ℕ, false, List, [], ◌++◌, codes, decimal}
use Rattle.std.specs.Fmt.{digits, signed_decimal}
use Rattle.dired_text.specs.Paths.{Names, joined}
use Rattle.tree_core.specs.declared.meta.Meta.{Meta}
use Rattle.tree_core.specs.declared.node.Kind.{Kind}
use Rattle.tree_core.specs.declared.node.Kind.TheVariants.{Dir, Link, File}
use Rattle.case_tables.specs.Fields.{field_text}

-- what stands before the path: the kind, a file's number, the mode in octal, the time
abbrev pub row_head : Kind → Meta → List ℕ
row_head Dir m = codes "dir " ++ digits 8 false m.mode ++ codes " " ++ signed_decimal m.mtime ++ codes " "
row_head Link m = codes "link " ++ signed_decimal m.mtime ++ codes " "
row_head File m =
    codes "file " ++ decimal m.number ++ codes " " ++ digits 8 false m.mode ++ codes " " ++ signed_decimal m.mtime ++ codes " "

-- what stands behind it: a link's target, a file's bytes
abbrev pub row_tail : Kind → Meta → List ℕ → List ℕ
row_tail Dir m bytes = []
row_tail Link m bytes = codes " " ++ field_text m.target
row_tail File m bytes = codes " " ++ field_text bytes

abbrev pub entry_row : Names → Meta → List ℕ → List ℕ
entry_row path m bytes = row_head m.kind m ++ field_text (joined path) ++ row_tail m.kind m bytes ++ codes "\n"
