-- What is known of names that were read is enough to remove them.
use Rattle.std.proofs.Common.{◌≡◌, ◌≢◌, ℕ, List, [], ◌∷◌, ◌++◌, refl, sym, ◌∙◌, ap, subst, Option, Some, None}
use Rattle.std.specs.FinMap.{get, remove}
use Rattle.commit_states.specs.Calls.{ClearsItems, Items, Unstages, removal_by, removals_by}
use Rattle.commit_steps.specs.Staging.{staged, staging}
use Rattle.recovery_calls.specs.Closing.{closed_calls, items_of, last_calls}
use Rattle.recovery_calls.proofs.ClosingLemmas.{closing_is, items_are}
use Rattle.recovery_calls.proofs.EndingLemmas.{file_no_dir, file_some, removal_tree}
use Rattle.recovery_courses.specs.Ends.{clearing, closing}
use Rattle.step_trees.specs.Entries.{HoldsOnly}
use Rattle.step_trees.proofs.RemovalLemmas.{removed-absent, removed-itself, removed-other}
use Rattle.tree_core.specs.declared.node.Change.{Change}
use Rattle.tree_core.specs.declared.node.Change.TheVariants as call
use Rattle.tree_core.specs.declared.node.Node.{Node}
use Rattle.tree_core.specs.FileTree.{FileTree, IsAbsent, IsDir, IsFile, is_dir_node, is_file_node}
use Rattle.tree_core.specs.History.{History, Then, current_tree}
use Rattle.tree_core.specs.Runs.{CanAll}

-- the directory stands, and the journal in it
record Holds (journal : List ℕ) (t : FileTree) : Type 0 where
  directory : IsDir t staging
  file : IsFile t (staged journal)

holds_without : (journal name : List ℕ) (t : FileTree) → name ≢ journal → Holds journal t → Holds journal (remove t (staged name))
holds_without journal name t other held = record {
  directory = ap is_dir_node (removed-other t (staged name) staging (λ is. cc)) ∙ held.directory;
  file = ap is_file_node (removed-other t (staged name) (staged journal) (λ is. other (let k : name ≡ journal = cc in k))) ∙ held.file;
}

can_last : (journal : List ℕ) (h : History) → HoldsOnly (current_tree h) (λ name node. name ≡ journal) → Holds journal (current_tree h) → CanAll (last_calls (staged journal) staging) h
can_last journal h only held = (
  tt,
  (
    (file_some (get (current_tree h) (staged journal)) held.file, file_no_dir (get (current_tree h) (staged journal)) held.file),
    (
      (ap is_dir_node (removed-other (current_tree h) (staged journal) staging (λ is. cc)) ∙ held.directory, (λ is. cc), λ name. gone name (get (current_tree h) (staged name)) refl),
      (tt, tt),
    ),
  ),
)
  where
    gone : (name : List ℕ) (o : Option Node) → get (current_tree h) (staged name) ≡ o → IsAbsent (remove (current_tree h) (staged journal)) (staged name)
    gone name None is = removed-absent (current_tree h) (staged journal) (staged name) is
    gone name (Some node) is = ap (λ (n : List ℕ). get (remove (current_tree h) (staged journal)) (staged n)) (only name node is) ∙ removed-itself (current_tree h) (staged journal)

can_removals : (journal : List ℕ) (xs : Items) (h : History) → ClearsItems journal xs (current_tree h) → Holds journal (current_tree h) → CanAll (removals_by xs ++ last_calls (staged journal) staging) h
can_removals journal [] h clears held = can_last journal h clears held
can_removals journal (x ∷ xs) h clears held =
    let tree : current_tree (Then h (removal_by x.1 (staged x.0))) ≡ remove (current_tree h) (staged x.0) = removal_tree x.1 (staged x.0) h in (
      clears.1,
      can_removals journal xs (Then h (removal_by x.1 (staged x.0))) (subst (ClearsItems journal xs) (sym tree) clears.2)
          (subst (Holds journal) (sym tree) (holds_without journal x.0 (current_tree h) clears.0 held)),
    )

-- Where these names can be removed one after another until only the journal is left, all calls of the course can be done, as code makes
-- them.
pub can_close_items : (journal : List ℕ) (xs : Items) (h : History) → ClearsItems journal xs (current_tree h) → IsDir (current_tree h) staging → IsFile (current_tree h) (staged journal)
    → CanAll (closed_calls (items_of xs) (staged journal) staging) h
can_close_items journal xs h clears directory file =
    subst (λ (cs : List Change). CanAll (cs ++ last_calls (staged journal) staging) h) (sym (items_are xs)) (can_removals journal xs h clears record { directory = directory; file = file })

pub can_course : (journal : List ℕ) (xs : Items) (h : History) → ClearsItems journal xs (current_tree h) → IsDir (current_tree h) staging → IsFile (current_tree h) (staged journal) → CanAll (closing journal xs).calls h
can_course journal xs h clears directory file = subst (λ (cs : List Change). CanAll cs h) (closing_is journal xs) (can_close_items journal xs h clears directory file)

-- the same without a journal
pub can_clear : (names : List (List ℕ)) (h : History) → Unstages names (current_tree h) → CanAll (clearing names).calls h
can_clear [] h can = (can, (tt, tt))
can_clear (x ∷ xs) h can = (can.0, can_clear xs (Then h (call.Remove (staged x))) can.1)
