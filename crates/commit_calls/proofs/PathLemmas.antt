-- Lists of calls over the paths that were made for them.
use Rattle.std.proofs.Common.{◌≡◌, ℕ, ◌+◌, ◌<◌, List, [], ◌∷◌, ◌++◌, length, take, codes, get_or, map, refl, sym, ◌∙◌, ap, arith, append_assoc}
use Rattle.std.specs.List.{range_with_len}
use Rattle.std.proofs.lemmas.List.{get_or-map, length-map, map_more}
use Rattle.std.proofs.lemmas.List.FromFn.{get_or-map-range_with_len, length-map-range_with_len, map-range_with_len_more}
use Rattle.dired_text.specs.Paths.{Names}
use Rattle.tree_core.specs.declared.changes.Fresh.{Fresh}
use Rattle.tree_core.specs.declared.node.Change.{Change}
use Rattle.tree_core.specs.declared.node.Change.TheVariants as call
use Rattle.commit_steps.specs.Staging.{staging, staged, numbered, at_marker, back_marker, fresh_name, held, new_journal, plan, sealed, undone}
use Rattle.commit_states.specs.declared.held.Held.{Held}
use Rattle.commit_states.specs.Calls.{Items, stage_calls, plan_calls, staging_calls, removal_by, removals_by, removals_of, held_items, fresh_items, last_of, cleaning_calls, clearing_calls, end_calls, unstage_calls}
use Rattle.commit_calls.specs.Parts.{synced_rename_calls, open_calls, remove_calls, close_up_calls, unstaging_calls}
use Rattle.commit_calls.specs.Paths.{at_marker_paths, back_marker_paths, fresh_entry_paths, held_entry_paths}

-- ---- a path at a place

pub fresh_count : (paths : List Names) (count : ℕ) → paths ≡ fresh_entry_paths count → length paths ≡ count
fresh_count paths count are = ap (λ (l : List Names). length l) are ∙ length-map-range_with_len (λ k. staged (fresh_name k)) 0 count

pub fresh_path_at : (paths : List Names) (count k : ℕ) (p : Names) → paths ≡ fresh_entry_paths count → k < count → p ≡ get_or paths k p → p ≡ staged (fresh_name k)
fresh_path_at paths count k p are lt is =
    is ∙ ap (λ (l : List Names). get_or l k p) are ∙ get_or-map-range_with_len (λ n. staged (fresh_name n)) 0 count k k p lt (omega arith)

pub held_count : (paths : List Names) (hs : List Held) → paths ≡ held_entry_paths hs → length paths ≡ length hs
held_count paths hs are = ap (λ (l : List Names). length l) are ∙ length-map hs (λ h. staged (held h.number))

pub held_path_at : (paths : List Names) (hs : List Held) (k : ℕ) (h : Held) (p : Names) → paths ≡ held_entry_paths hs → k < length hs → h ≡ get_or hs k h → p ≡ get_or paths k p → p ≡ staged (held h.number)
held_path_at paths hs k h p are lt item is =
    is ∙ ap (λ (l : List Names). get_or l k p) are ∙ get_or-map (λ (x : Held). staged (held x.number)) hs k h p lt ∙ ap (λ (x : Held). staged (held x.number)) (sym item)

-- ---- one path more

pub at_more : (cuts : List ℕ) (i : ℕ) → i < length cuts → at_marker_paths (take (i + 1) cuts) ≡ at_marker_paths (take i cuts) ++ staged (numbered (codes "at-") (get_or cuts i 0)) ∷ []
unfolding at_marker
at_more cuts i lt = map_more (λ k. staged (at_marker k)) cuts i 0 lt

pub back_more : (cuts : List ℕ) (i : ℕ) → i < length cuts → back_marker_paths (take (i + 1) cuts) ≡ back_marker_paths (take i cuts) ++ staged (numbered (codes "back-") (get_or cuts i 0)) ∷ []
unfolding back_marker
back_more cuts i lt = map_more (λ k. staged (back_marker k)) cuts i 0 lt

pub fresh_more : (count : ℕ) → fresh_entry_paths (count + 1) ≡ fresh_entry_paths count ++ staged (numbered (codes "f") count) ∷ []
unfolding fresh_name
fresh_more count = map-range_with_len_more (λ k. staged (fresh_name k)) 0 count count (omega arith)

pub held_more : (hs : List Held) (i : ℕ) (h : Held) → i < length hs → held_entry_paths (take (i + 1) hs) ≡ held_entry_paths (take i hs) ++ staged (numbered (codes "h") (get_or hs i h).number) ∷ []
unfolding held
held_more hs i h lt = map_more (λ (x : Held). staged (held x.number)) hs i h lt

-- ---- the parts of lists

pub filled_is : (directory marker new : Names) (fs : List Fresh) (journal : List ℕ) → directory ≡ staging → marker ≡ staged (at_marker 0) → new ≡ staged new_journal
    → open_calls directory marker fs ++ call.WriteFile new journal 0o600 ∷ [] ≡ stage_calls fs journal
filled_is directory marker new fs journal d m n =
    ap (λ x. open_calls x marker fs ++ call.WriteFile new journal 0o600 ∷ []) d
    ∙ ap (λ x. open_calls staging x fs ++ call.WriteFile new journal 0o600 ∷ []) m
    ∙ ap (λ x. open_calls staging (staged (at_marker 0)) fs ++ call.WriteFile x journal 0o600 ∷ []) n

pub published_is : (new place : Names) → new ≡ staged new_journal → place ≡ staged plan → synced_rename_calls new place ≡ call.Sync ∷ plan_calls
published_is new place n p = ap (λ x. synced_rename_calls x place) n ∙ ap (λ x. synced_rename_calls (staged new_journal) x) p

pub staged_is : (fs : List Fresh) (journal : List ℕ) → stage_calls fs journal ++ (call.Sync ∷ plan_calls) ≡ staging_calls fs journal
staged_is fs journal = sym (append_assoc (stage_calls fs journal) (call.Sync ∷ []) plan_calls)

closed_is : (xs : Items) (marker journal : List ℕ) → removals_by xs ++ close_up_calls (staged marker) (staged journal) staging ≡ (removals_of xs marker ++ call.Sync ∷ []) ++ (last_of journal ++ call.Sync ∷ [])
closed_is [] marker journal = refl
closed_is (x ∷ xs) marker journal = ap (λ (l : List Change). removal_by x.1 (staged x.0) ∷ l) (closed_is xs marker journal)

close_up_is : (name journal : List ℕ) (marker place directory : Names) → marker ≡ staged name → place ≡ staged journal → directory ≡ staging → close_up_calls marker place directory ≡ close_up_calls (staged name) (staged journal) staging
close_up_is name journal marker place directory m p d =
    ap (λ x. close_up_calls x place directory) m ∙ ap (λ x. close_up_calls (staged name) x directory) p ∙ ap (λ x. close_up_calls (staged name) (staged journal) x) d

pub cleaned_is : (hs : List Held) (n : ℕ) (marker journal directory : Names) → marker ≡ staged (at_marker n) → journal ≡ staged sealed → directory ≡ staging
    → removals_by (held_items hs) ++ close_up_calls marker journal directory ≡ cleaning_calls hs n
cleaned_is hs n marker journal directory m j d =
    ap (λ (l : List Change). removals_by (held_items hs) ++ l) (close_up_is (at_marker n) sealed marker journal directory m j d) ∙ closed_is (held_items hs) (at_marker n) sealed

fresh_removed : (k : ℕ) (fs : List Fresh) → remove_calls (map (λ n. staged (fresh_name n)) (range_with_len k (length fs))) ≡ removals_by (fresh_items k fs)
fresh_removed k [] = refl
fresh_removed k (f ∷ fs) = ap (λ (l : List Change). call.Remove (staged (fresh_name k)) ∷ l) (fresh_removed (k + 1) fs)

pub cleared_is : (fs : List Fresh) (paths : List Names) (marker journal directory : Names) → paths ≡ fresh_entry_paths (length fs) → marker ≡ staged (back_marker 0) → journal ≡ staged undone → directory ≡ staging
    → remove_calls paths ++ close_up_calls marker journal directory ≡ clearing_calls fs
cleared_is fs paths marker journal directory are m j d =
    ap (λ (l : List Names). remove_calls l ++ close_up_calls marker journal directory) are
    ∙ ap (λ (l : List Change). l ++ close_up_calls marker journal directory) (fresh_removed 0 fs)
    ∙ ap (λ (l : List Change). removals_by (fresh_items 0 fs) ++ l) (close_up_is (back_marker 0) undone marker journal directory m j d)
    ∙ closed_is (fresh_items 0 fs) (back_marker 0) undone

pub ended_is : (fs : List Fresh) (from to : Names) → from ≡ staged plan → to ≡ staged undone → (call.Rename from to ∷ call.Sync ∷ []) ++ clearing_calls fs ≡ end_calls fs
ended_is fs from to f t =
    ap (λ x. (call.Rename x to ∷ call.Sync ∷ []) ++ clearing_calls fs) f ∙ ap (λ x. (call.Rename (staged plan) x ∷ call.Sync ∷ []) ++ clearing_calls fs) t

-- the names in the staging directory are removed, and then it
pub unstaged_is : (xs : List (List ℕ)) → unstaging_calls (map (λ x. staged x) xs) staging ≡ unstage_calls xs ++ call.Sync ∷ []
unstaged_is [] = refl
unstaged_is (x ∷ xs) = ap (λ (l : List Change). call.Remove (staged x) ∷ l) (unstaged_is xs)
