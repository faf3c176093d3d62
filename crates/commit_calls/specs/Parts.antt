-- Parts of the lists of calls.
use Rattle.std.specs.Prelude.{List, [], ◌∷◌, ◌++◌}
use Rattle.dired_text.specs.Paths.{Names}
use Rattle.tree_core.specs.declared.changes.Fresh.{Fresh}
use Rattle.tree_core.specs.declared.node.Change.{Change}
use Rattle.tree_core.specs.declared.node.Change.TheVariants as call
use Rattle.commit_states.specs.Calls.{fresh_calls}

-- what was done is made durable, and then what stands at a path gets another one
abbrev pub synced_rename_calls : Names → Names → List Change
synced_rename_calls from to = call.Sync ∷ call.Rename from to ∷ call.Sync ∷ []

-- the staging directory with its first marker and the fresh entries
abbrev pub open_calls : Names → Names → List Fresh → List Change
open_calls directory marker fs = call.MakeDir directory 0o700 ∷ call.WriteFile marker [] 0o600 ∷ fresh_calls 0 fs

-- these files and links are removed
abbrev pub remove_calls : List Names → List Change
remove_calls [] = []
remove_calls (p ∷ ps) = call.Remove p ∷ remove_calls ps

-- the marker is removed, and when that is durable the journal and the directory
abbrev pub close_up_calls : Names → Names → Names → List Change
close_up_calls marker journal directory = call.Remove marker ∷ call.Sync ∷ call.Remove journal ∷ call.RemoveDir directory ∷ call.Sync ∷ []

-- these files and links are removed, and then the directory
abbrev pub unstaging_calls : List Names → Names → List Change
unstaging_calls entries directory = remove_calls entries ++ call.RemoveDir directory ∷ call.Sync ∷ []
