-- The removal of what was read besides a journal, and then of that and the directory.
use Rattle.std.specs.Prelude.{◌≡◌, ℕ, List, [], ◌∷◌, ◌++◌, map}
use Rattle.commit_states.specs.Calls.{Items, removal_by}
use Rattle.commit_steps.specs.Staging.{staged, staging}
use Rattle.dired_text.specs.Paths.{Names}
use Rattle.recovery_calls.specs.declared.closing.Item.{Item}
use Rattle.tree_core.specs.declared.node.Change.{Change}
use Rattle.tree_core.specs.declared.node.Change.TheVariants as call

-- these, one after another
abbrev pub item_calls : List Item → List Change
item_calls [] = []
item_calls (x ∷ xs) = removal_by x.is_dir x.path ∷ item_calls xs

-- these names in the staging directory, each with whether it is a directory
abbrev pub items_of : Items → List Item
items_of [] = []
items_of (x ∷ xs) = record { path = staged x.0; is_dir = x.1 } ∷ items_of xs

-- what was done is made durable, and then the journal is removed and the directory
abbrev pub last_calls : Names → Names → List Change
last_calls journal directory = call.Sync ∷ call.Remove journal ∷ call.RemoveDir directory ∷ call.Sync ∷ []

-- all of it
abbrev pub closed_calls : List Item → Names → Names → List Change
closed_calls xs journal directory = item_calls xs ++ last_calls journal directory

-- these are the items of these names, and the paths are those of a journal of this name and of the staging directory
pub record AreThose (xs : Items) (name : List ℕ) (items : List Item) (journal directory : Names) : Type 0 where
  pub items_are : items ≡ items_of xs
  pub journal_is : journal ≡ staged name
  pub directory_is : directory ≡ staging

-- the paths are those of these names and of the staging directory
pub record AreStaged (names : List (List ℕ)) (entries : List Names) (directory : Names) : Type 0 where
  pub entries_are : entries ≡ map (λ x. staged x) names
  pub directory_is : directory ≡ staging
