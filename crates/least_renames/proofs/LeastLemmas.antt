-- Edits in one directory: no list of renames does with fewer what they do.
use Rattle.std.proofs.Common.{◌≡◌, ℕ, ◌+◌, ◌<◌, ◌≤◌, List, [], ◌∷◌, ◌++◌, length, refl, sym, ◌∙◌, ap, subst, arith, length-append, Option, Some, Contains}
use Rattle.std.proofs.lemmas.Option.{none-some, same_Some}
use Rattle.std.proofs.lemmas.Bool.{cond-true}
use Rattle.std.proofs.lemmas.List.Elements.{All-contains}
use Rattle.dired_text.specs.Paths.{Names, parent}
use Rattle.dired_text.proofs.PathLemmas.{parent-push}
use Rattle.commit_steps.specs.declared.step.Step.{Step}
use Rattle.tree_core.specs.declared.changes.Changes.{Changes}
use Rattle.tree_core.specs.declared.changes.Changes.TheVariants.{Edits, Removals, Creations}
use Rattle.tree_core.specs.FileTree.{FileTree, IsTree, IsFile, Stands}
use Rattle.tree_core.proofs.TreeLemmas.{dir_stands}
use Rattle.edit_words.specs.declared.row.Row.{Row}
use Rattle.edit_words.specs.declared.row.Route.{Route}
use Rattle.edit_words.specs.declared.row.Route.TheVariants.{Named, Sent}
use Rattle.edit_words.specs.Place.{place, routed}
use Rattle.edit_words.specs.Rows.{rows, edit_row, removal_row, creation_row, is_same_path, row_from, route_to, route_by, route_of, last_name}
use Rattle.edit_words.specs.WellFormed.{IsWellFormed, CanBeAsked, AreLawful, IsEdit, LinesRise}
use Rattle.edit_words.proofs.SameLemmas.{same_itself}
use Rattle.edit_words.proofs.FirstLemmas.{rise_rest, rise_first}
use Rattle.edit_laws.proofs.ListLemmas.{contains_head, map_parts}
use Rattle.edit_laws.proofs.PlaceLemmas.{place-push}
use Rattle.edit_laws.proofs.RowLemmas.{row_from-some, row_there, last_name-push}
use Rattle.edit_laws.proofs.AskedLemmas.{rows_are}
use Rattle.plan_moves.specs.Waiting.{waiting, knots}
use Rattle.plan_moves.specs.Moves.{Moves, fresh_spots}
use Rattle.plan_moves.specs.Least.{Renames, CanRenameAll, carried, IsFlatIn}
use Rattle.plan_moves.proofs.Fuel.{number}
use Rattle.plan_moves.proofs.StepCount.{waiting_different}
use Rattle.least_renames.specs.Cycles.{HasNoRepeats, AreCycles, IsMovingIn, IsVacated, AreFlat}
use Rattle.least_renames.proofs.FlatLemmas.{waiting_short, knots_counted, cycles_found}
use Rattle.least_renames.proofs.CycleSums.{Shifts, least_by_cycles}

-- no row stands twice where lines rise
rows_once : (rs : List Row) → LinesRise rs → HasNoRepeats rs
rows_once [] rise = tt
rows_once (r ∷ rs) rise = (λ c. let less : r.line < r.line = rise_first r r rs rise c in omega arith, rows_once rs (rise_rest r rs rise))

-- a new path is another one than the source
new_path_differs : (is_file : Names → Type 0) (changes : Changes) → AreLawful is_file changes → (r : Row) (p : Names) → Contains (rows changes) r → r.source ≡ Some p → r.to ≡ Some p → ⊥
new_path_differs is_file (Edits edits) lawful r p c source to =
    let e = map_parts edit_row edits r c in
    (All-contains IsEdit edits e.0 lawful e.1).to (ap (λ (x : Row). x.to) e.2 ∙ to ∙ sym source ∙ ap (λ (x : Row). x.source) (sym e.2))
new_path_differs is_file (Removals removals) lawful r p c source to = let e = map_parts removal_row removals r c in none-some p (ap (λ (x : Row). x.to) e.2 ∙ to)
new_path_differs is_file (Creations creations) lawful r p c source to = let e = map_parts creation_row creations r c in none-some p (ap (λ (x : Row). x.source) e.2 ∙ source)

-- no path of a directory is above another one
pub one_directory_is_flat : (dir : Names) (t : FileTree) (rs : List Row) → IsFlatIn dir t rs → AreFlat rs
one_directory_is_flat dir t rs flat p q vacated_p vacated_q above =
    let a = in_dir p vacated_p in
    let b = in_dir q vacated_q in
    let long_p = ap length a.1 ∙ length-append dir (a.0 ∷ []) in
    let long_q = ap length b.1 ∙ length-append dir (b.0 ∷ []) in
    let more = ap length above.2 ∙ length-append p (above.0 ∷ above.1) in
    omega arith
  where
    in_dir : (p : Names) → IsVacated rs p → (n : List ℕ) × (p ≡ dir ++ n ∷ [])
    in_dir p (r, listed, source, moves) = let parts = flat.renames r listed in (parts.0, same_Some p (dir ++ parts.0 ∷ []) (sym source ∙ parts.2))

-- The renames begin with a tree in which all paths of the old one stand.
module _ (t start : FileTree) (changes : Changes) (tree : IsTree t) (asked : CanBeAsked (IsFile t) changes) (fine : IsWellFormed t (rows changes))
    (start_tree : IsTree start) (more : (p : Names) → Stands t p → Stands start p) (dir : Names) (flat : IsFlatIn dir t (rows changes)) where
  module _ (others : Renames) (does : (p : Names) → Stands t p → carried others p ≡ place (route_of (rows changes)) p) where
    -- where the path of an edit goes
    goes_to : (r : Row) (n m : List ℕ) → Contains (rows changes) r → r.source ≡ Some (dir ++ n ∷ []) → r.to ≡ Some (dir ++ m ∷ [])
        → place (route_of (rows changes)) (dir ++ n ∷ []) ≡ place (route_of (rows changes)) dir ++ m ∷ []
    goes_to r n m c source to =
        place-push (route_of (rows changes)) dir n
        ∙ ap (λ (x : Option Row). routed (route_by (dir ++ n ∷ []) x) (place (route_of (rows changes)) dir) n) own_row
        ∙ ap (λ (x : Option Names). routed (route_to (dir ++ n ∷ []) x) (place (route_of (rows changes)) dir) n) to
        ∙ ap (λ (x : Route). routed x (place (route_of (rows changes)) dir) n) named
        ∙ ap (λ (k : List ℕ). place (route_of (rows changes)) dir ++ k ∷ []) (last_name-push dir m)
      where
        own_row : row_from (rows changes) (dir ++ n ∷ []) ≡ Some r
        own_row =
            let there = row_there (rows changes) r (dir ++ n ∷ []) c source in
            let found = row_from-some (rows changes) (dir ++ n ∷ []) there.0 there.1 in
            there.1 ∙ ap (λ (x : Row). Some x) ((rows_are t changes asked fine).sources there.0 r (dir ++ n ∷ []) found.0 c found.1 source)

        named : route_to (dir ++ n ∷ []) (Some (dir ++ m ∷ [])) ≡ Named (last_name (dir ++ m ∷ []))
        named = cond-true (is_same_path (parent (dir ++ n ∷ [])) (parent (dir ++ m ∷ []))) (Named (last_name (dir ++ m ∷ []))) (Sent (dir ++ m ∷ []))
            (ap (λ (p : Names). is_same_path p (parent (dir ++ m ∷ []))) (parent-push dir n) ∙ ap (is_same_path dir) (parent-push dir m) ∙ same_itself dir)

    shifts : Stands t dir → (r : Row) → Contains (rows changes) r → Shifts start others dir r
    shifts stands_dir r c =
        let parts = flat.renames r c in
        let stands = (rows_are t changes asked fine).standing r (dir ++ parts.0 ∷ []) c parts.2 in
        record {
          name = parts.0;
          next = parts.1;
          source = parts.2;
          to = parts.3;
          other = λ same. new_path_differs (IsFile t) changes asked.lawful r (dir ++ parts.0 ∷ []) c parts.2 (parts.3 ∙ ap (λ (k : List ℕ). Some (dir ++ k ∷ [])) (sym same));
          stands = more (dir ++ parts.0 ∷ []) stands;
          goes = does (dir ++ parts.0 ∷ []) stands ∙ goes_to r parts.0 parts.1 c parts.2 parts.3 ∙ ap (λ (p : Names). p ++ parts.1 ∷ []) (sym (does dir stands_dir));
        }

    lower : CanRenameAll start others → (r : Row) → Contains (rows changes) r → (cycles : List (List Row)) → AreCycles (IsMovingIn (rows changes)) cycles → length (rows changes) + length cycles ≤ length others
    lower can r c cycles all =
        let are = rows_are t changes asked fine in
        let parts = flat.renames r c in
        let stands_dir : Stands t dir = dir_stands _ (tree.parents dir parts.0 (are.standing r (dir ++ parts.0 ∷ []) c parts.2)) in
        least_by_cycles start others start_tree can dir (more dir stands_dir) (rows changes) (rows_once (rows changes) asked.lines) are.lines are.sources (shifts stands_dir)
        cycles (λ c d. (all.each c d).1) (λ o d. (all.move o d).0) all.once

  moves_counted : (moves : List Step) → Moves 0 (fresh_spots 0 (rows changes)) (waiting (rows changes)) moves → length moves ≡ length (waiting (rows changes)) + knots (waiting (rows changes))
  moves_counted moves run = number 0 (fresh_spots 0 (rows changes)) (waiting (rows changes)) moves (waiting_different (rows changes) asked.lines) run

  pub moves_are_least : (moves : List Step) → Moves 0 (fresh_spots 0 (rows changes)) (waiting (rows changes)) moves → (others : Renames) → CanRenameAll start others
      → ((p : Names) → Stands t p → carried others p ≡ place (route_of (rows changes)) p) → length moves ≤ length others
  moves_are_least moves run others can does = by_rows (rows changes) refl
    where
      by_rows : (rs : List Row) → rows changes ≡ rs → length moves ≤ length others
      by_rows [] is =
          let long = moves_counted moves run in
          let none : length (waiting (rows changes)) ≡ 0 = ap (λ (l : List Row). length (waiting l)) is in
          let no_knots : knots (waiting (rows changes)) ≡ 0 = ap (λ (l : List Row). knots (waiting l)) is in
          omega arith
      by_rows (r ∷ rs) is =
          let cycles = cycles_found t changes asked fine (one_directory_is_flat dir t (rows changes) flat) in
          let counted = knots_counted t changes asked fine (one_directory_is_flat dir t (rows changes) flat) cycles.0 cycles.1 in
          let least = lower others does can r (subst (λ (l : List Row). Contains l r) (sym is) (contains_head r rs)) cycles.0 cycles.1 in
          let long = moves_counted moves run in
          let few = waiting_short (rows changes) in
          omega arith
