-- When what stands at each path was last changed.
use Rattle.std.specs.Prelude.{ℤ, pos, ◌++◌, Option, Some, None, if◌then◌else◌}
use Rattle.std.specs.Cmp.Lexicographic.{pointwise}
use Rattle.dired_text.specs.Paths.{Names, rest_below}
use Rattle.tree_core.specs.declared.node.Change.{Change}
use Rattle.tree_core.specs.declared.node.Change.TheVariants.{MakeDir, MakeLink, MakeHard, WriteFile, Rename, SetMode, Remove, RemoveDir, Sync}
use Rattle.tree_core.specs.History.{History, Began, Then}
use Rattle.mem_tree.specs.Mem.{is_same_path}

-- in seconds since 1970; 0 where nothing stands
abbrev pub Times : Type 0
Times = Names → ℤ

-- behind a rename, by what is left of q behind `to` and behind `from`
abbrev pub renamed_time : Option Names → Option Names → Times → Names → Names → ℤ
renamed_time (Some rest) behind_from times from q = times (from ++ rest)
renamed_time None (Some rest) times from q = pos 0
renamed_time None None times from q = times q

-- A rename carries times along. What is made has the time 0.
abbrev pub times_after : Change → Times → Times
times_after (MakeDir p mode) times q = times q
times_after (MakeLink p target) times q = times q
times_after (MakeHard p old) times q = times q
times_after (WriteFile p bytes mode) times q = times q
times_after (Rename from to) times q = renamed_time (rest_below to q) (rest_below from q) times from q
times_after (SetMode p mode) times q = times q
times_after (Remove p) times q = if is_same_path p q then pos 0 else times q
times_after (RemoveDir p) times q = if is_same_path p q then pos 0 else times q
times_after Sync times q = times q

-- the times now, of a history that began with these
abbrev pub times_now : History → Times → Times
times_now (Began t next) times = times
times_now (Then h change) times = times_after change (times_now h times)
