-- The names of calls.
use Rattle.std.specs.Prelude.{ℕ, List, codes}
use Rattle.tree_core.specs.declared.node.CallName.{CallName}
use Rattle.tree_core.specs.declared.node.CallName.TheVariants.{Kind, Mode, IsEmpty, Meta, Names, Read, MakeDir, MakeLink, MakeHard, WriteFile, Rename, SetMode, Remove, RemoveDir, Sync}

abbrev pub call_text : CallName → List ℕ
call_text Kind = codes "kind"
call_text Mode = codes "mode"
call_text IsEmpty = codes "is_empty"
call_text Meta = codes "meta"
call_text Names = codes "names"
call_text Read = codes "read"
call_text MakeDir = codes "make_dir"
call_text MakeLink = codes "make_link"
call_text MakeHard = codes "make_hard"
call_text WriteFile = codes "write_file"
call_text Rename = codes "rename"
call_text SetMode = codes "set_mode"
call_text Remove = codes "remove"
call_text RemoveDir = codes "remove_dir"
call_text Sync = codes "sync"
