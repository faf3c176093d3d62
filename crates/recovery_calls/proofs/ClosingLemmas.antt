-- What was read is removed, one after another.
use Rattle.std.proofs.Common.{◌≡◌, ℕ, ◌+◌, ◌<◌, List, [], ◌∷◌, ◌++◌, length, drop, get_or, refl, sym, ◌∙◌, ap, subst, append_assoc, map}
use Rattle.std.proofs.lemmas.List.{drop_more}
use Rattle.commit_calls.specs.Parts.{unstaging_calls}
use Rattle.commit_calls.proofs.PathLemmas.{unstaged_is}
use Rattle.commit_states.specs.Calls.{Items, last_of, removal_by, removals_by}
use Rattle.commit_steps.specs.Staging.{staged, staging}
use Rattle.dired_text.specs.Paths.{Names}
use Rattle.recovery_calls.specs.declared.closing.Item.{Item}
use Rattle.recovery_calls.specs.Closing.{AreStaged, AreThose, closed_calls, item_calls, items_of, last_calls}
use Rattle.recovery_courses.specs.Ends.{clearing, closing}
use Rattle.tree_core.specs.declared.node.Change.{Change}
use Rattle.tree_core.specs.declared.node.Change.TheVariants as call
use Rattle.tree_core.specs.History.{History}
use Rattle.tree_core.proofs.Runs.{Left}

pub item_left : (all : List Change) (began now : History) (k : ℕ) (items : List Item) (item : Item) → k < length items → item ≡ get_or items k item
    → Left all began now (item_calls (drop k items)) → Left all began now ((removal_by item.is_dir item.path ∷ []) ++ item_calls (drop (k + 1) items))
item_left all began now k items item within is left =
    subst (λ (cs : List Change). Left all began now cs) (ap item_calls (drop_more items k item within ∙ ap (λ (x : Item). x ∷ drop (k + 1) items) (sym is))) left

pub items_are : (xs : Items) → item_calls (items_of xs) ≡ removals_by xs
items_are [] = refl
items_are (x ∷ xs) = ap (λ (l : List Change). removal_by x.1 (staged x.0) ∷ l) (items_are xs)

-- so the calls are those of the course
pub closing_is : (journal : List ℕ) (xs : Items) → closed_calls (items_of xs) (staged journal) staging ≡ (closing journal xs).calls
closing_is journal xs =
    ap (λ (l : List Change). l ++ last_calls (staged journal) staging) (items_are xs)
    ∙ sym (append_assoc (removals_by xs) (call.Sync ∷ []) (last_of journal ++ call.Sync ∷ []))

pub closes_as : (xs : Items) (name : List ℕ) (items : List Item) (journal directory : Names) → AreThose xs name items journal directory → closed_calls items journal directory ≡ (closing name xs).calls
closes_as xs name items journal directory those =
    ap (λ (l : List Item). closed_calls l journal directory) those.items_are
    ∙ ap (λ (p : Names). closed_calls (items_of xs) p directory) those.journal_is
    ∙ ap (λ (p : Names). closed_calls (items_of xs) (staged name) p) those.directory_is
    ∙ closing_is name xs

pub clears_as : (names : List (List ℕ)) (entries : List Names) (directory : Names) → AreStaged names entries directory → unstaging_calls entries directory ≡ (clearing names).calls
clears_as names entries directory those =
    ap (λ (l : List Names). unstaging_calls l directory) those.entries_are
    ∙ ap (λ (p : Names). unstaging_calls (map (λ (x : List ℕ). staged x) names) p) those.directory_is
    ∙ unstaged_is names
