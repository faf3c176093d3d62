-- Directories and sections one by one.
use Rattle.std.proofs.Common.{◌≡◌, ℕ, ◌+◌, ◌<◌, true, List, [], ◌∷◌, ◌++◌, length, drop, flat_map, get_or, Some, refl, sym, ◌∙◌, ap, append_assoc, false, append-nil, codes}
use Rattle.std.specs.BTreeSet.{insert_key}
use Rattle.std.specs.FinMap.{get}
use Rattle.std.specs.List.{list_any}
use Rattle.std.specs.Str.{bytes_eq}
use Rattle.std.proofs.lemmas.List.Folds.{list_any_at}
use Rattle.std.proofs.lemmas.Slice.Eq.{bytes_eq-Decides}
use Rattle.std.proofs.lemmas.List.{drop_more}
use Rattle.dired_text.specs.Paths.{Names, path_cmp}
use Rattle.tree_core.specs.FileTree.{FileTree, Stands, is_dir_node}
use Rattle.tree_core.specs.Fields.{names_in}
use Rattle.tree_core.proofs.NameLemmas.{names_stand}
use Rattle.tree_core.specs.declared.meta.Meta.{Meta}
use Rattle.listing_text.specs.declared.switches.Switches.{Switches}
use Rattle.subdir_list.specs.Listings.{paths_with, first_other, AreSections, IsSection, listing_of}

-- one path more
pub paths_more : (keys dirs : List Names) (i : ℕ) (d : Names) → i < length dirs → d ≡ get_or dirs i d → paths_with keys (drop i dirs) ≡ paths_with (insert_key path_cmp keys d) (drop (i + 1) dirs)
paths_more keys dirs i d below is = ap (paths_with keys) (drop_more dirs i d below ∙ ap (λ (x : Names). x ∷ drop (i + 1) dirs) (sym is))

-- one directory more
pub first_more : (t : FileTree) (dirs : List Names) (i : ℕ) (d : Names) → i < length dirs → d ≡ get_or dirs i d → is_dir_node (get t d) ≡ true → first_other t (drop i dirs) ≡ first_other t (drop (i + 1) dirs)
first_more t dirs i d below is dir =
    let next : drop i dirs ≡ d ∷ drop (i + 1) dirs = drop_more dirs i d below ∙ ap (λ (x : Names). x ∷ drop (i + 1) dirs) (sym is) in
    rw (next, dir) refl

-- the first of them that is no directory
pub first_found : (t : FileTree) (dirs : List Names) (i : ℕ) (d : Names) → i < length dirs → d ≡ get_or dirs i d → is_dir_node (get t d) ≡ false → first_other t (drop i dirs) ≡ Some d
first_found t dirs i d below is other =
    let next : drop i dirs ≡ d ∷ drop (i + 1) dirs = drop_more dirs i d below ∙ ap (λ (x : Names). x ∷ drop (i + 1) dirs) (sym is) in
    rw (next, other) refl

-- one section more
pub sections_more : (switches : Switches) (t : FileTree) (fields : Names → Meta) (paths : List Names) (sections : List (List ℕ)) (p : Names) (section : List ℕ) → AreSections switches t fields paths sections → IsSection switches t fields p section → AreSections switches t fields (paths ++ p ∷ []) (sections ++ section ∷ [])
sections_more switches t fields [] [] p section all one = (one, tt)
sections_more switches t fields [] (s ∷ sections) p section all one = absurd all
sections_more switches t fields (q ∷ paths) [] p section all one = absurd all
sections_more switches t fields (q ∷ paths) (s ∷ sections) p section all one = (all.0, sections_more switches t fields paths sections p section all.1 one)

flat_more : (sections : List (List ℕ)) (section : List ℕ) → flat_map (λ (s : List ℕ). 10 ∷ s) (sections ++ section ∷ []) ≡ flat_map (λ (s : List ℕ). 10 ∷ s) sections ++ 10 ∷ section
flat_more [] section = append-nil (10 ∷ section)
flat_more (s ∷ sections) section = ap (λ (later : List ℕ). (10 ∷ s) ++ later) (flat_more sections section) ∙ sym (append_assoc (10 ∷ s) (flat_map (λ (s : List ℕ). 10 ∷ s) sections) (10 ∷ section))

-- its text stands behind a newline
pub listing_more : (sections : List (List ℕ)) (section : List ℕ) → listing_of (sections ++ section ∷ []) ≡ (listing_of sections ++ 10 ∷ []) ++ section
listing_more sections section = ap (λ (later : List ℕ). codes "dired 1" ++ later) (flat_more sections section) ∙ sym (append_assoc (codes "dired 1") (flat_map (λ (s : List ℕ). 10 ∷ s) sections) (10 ∷ section)) ∙ sym (append_assoc (listing_of sections) (10 ∷ []) section)

-- something stands under each name of a directory
pub named_at : (t : FileTree) (p : Names) (names : List (List ℕ)) (k : ℕ) (d : List ℕ) → names ≡ names_in t p → k < length names → Stands t (p ++ get_or names k d ∷ [])
named_at t p names k d is below =
    let n = get_or names k d in
    let found : list_any (bytes_eq n) names ≡ true = list_any_at (bytes_eq n) names k d below ((bytes_eq-Decides n n).1 refl) in
    sym (names_stand t p n) ∙ ap (list_any (bytes_eq n)) (sym is) ∙ found
