-- The steps of a plan of edits in one directory, without victims, are just its moves.
use Rattle.std.proofs.Common.{◌≡◌, Bool, true, false, not, ◌&&◌, List, [], ◌∷◌, ◌++◌, map, filter, length, refl, sym, ◌∙◌, ap, arith, Option, Some, None, is_some, Contains}
use Rattle.std.specs.Prelude.{count_by, if◌then◌else◌}
use Rattle.std.specs.List.{flat_map, filter_map, list_any, cons_option}
use Rattle.std.proofs.lemmas.Bool.{cond-false, or_left, or_from, and_parts, false_from_ne_true, not_from_true}
use Rattle.std.proofs.lemmas.Option.{none-some}
use Rattle.std.proofs.lemmas.List.{append-nil}
use Rattle.std.proofs.lemmas.List.Sums.{length-filter}
use Rattle.dired_text.specs.Paths.{Names, parent}
use Rattle.dired_text.proofs.PathLemmas.{parent-push}
use Rattle.commit_steps.specs.declared.step.Step.{Step}
use Rattle.commit_steps.specs.declared.step.Step.TheVariants.{MakeDir}
use Rattle.tree_core.specs.declared.edit.Shown.{Shown}
use Rattle.tree_core.specs.declared.changes.Changes.{Changes}
use Rattle.tree_core.specs.declared.changes.Changes.TheVariants.{Edits, Removals, Creations}
use Rattle.tree_core.specs.FileTree.{FileTree}
use Rattle.edit_words.specs.declared.row.Row.{Row}
use Rattle.edit_words.specs.Rows.{rows, edit_row, removal_row, creation_row, is_same_path, is_source, is_written, is_victim, is_elsewhere, is_elsewhere_of}
use Rattle.edit_words.specs.Sight.{sight_of, number_at}
use Rattle.edit_words.specs.Refusals.{victim_at, victim_of, missing_above}
use Rattle.edit_words.proofs.SameLemmas.{same_itself}
use Rattle.edit_words.proofs.RefusalLemmas.{stands_decides}
use Rattle.edit_rules.specs.Plans.{ModeChange, mode_change_by, mode_change_of, mode_changes, names_place}
use Rattle.edit_laws.proofs.ListLemmas.{contains_head, contains_tail, map_parts}
use Rattle.edit_laws.proofs.RowLemmas.{is_written-from}
use Rattle.plan_moves.specs.Plan.{IsPlan, listed, is_given_up, held_by, held_paths, holds, mode_step}
use Rattle.plan_moves.specs.Least.{IsFlatIn}

-- ---- lists of nothing

flat_none : {X Y : Type 0} (f : X → List Y) (xs : List X) → ((x : X) → Contains xs x → f x ≡ []) → flat_map f xs ≡ []
flat_none f [] none = refl
flat_none f (x ∷ xs) none = ap (λ (l : List _). l ++ flat_map f xs) (none x (contains_head x xs)) ∙ flat_none f xs (λ y c. none y (contains_tail x y xs c))

filter_none : {X Y : Type 0} (f : X → Option Y) (xs : List X) → ((x : X) → Contains xs x → f x ≡ None) → filter_map f xs ≡ []
filter_none f [] none = refl
filter_none f (x ∷ xs) none = ap (λ (o : Option _). cons_option o (filter_map f xs)) (none x (contains_head x xs)) ∙ filter_none f xs (λ y c. none y (contains_tail x y xs c))

none_counted : {X : Type 0} (xs : List X) → count_by (λ (x : X). true) xs ≡ 0 → xs ≡ []
none_counted [] e = refl
none_counted {X = X} (x ∷ xs) e = absurd (let all : length (filter (λ (x : X). true) (x ∷ xs)) ≡ count_by (λ (x : X). true) (x ∷ xs) = length-filter (λ (x : X). true) (x ∷ xs) in omega arith)

none_same : (ps : List Names) → ((p : Names) → list_any (is_same_path p) ps ≡ false) → ps ≡ []
none_same [] none = refl
none_same (p ∷ ps) none = let both : true ≡ false = sym (or_left (is_same_path p p) (list_any (is_same_path p) ps) (same_itself p)) ∙ none p in absurd cc

-- ---- the rows

not_removed : (changes : Changes) (r : Row) (s p : Names) → Contains (rows changes) r → r.source ≡ Some s → r.to ≡ Some p → r.removes ≡ false
not_removed (Edits edits) r s p c source to = let e = map_parts edit_row edits r c in ap (λ (x : Row). x.removes) (sym e.2)
not_removed (Removals removals) r s p c source to = let e = map_parts removal_row removals r c in absurd (none-some p (ap (λ (x : Row). x.to) e.2 ∙ to))
not_removed (Creations creations) r s p c source to = let e = map_parts creation_row creations r c in absurd (none-some s (ap (λ (x : Row). x.source) e.2 ∙ source))

module _ (dir : Names) (t : FileTree) (changes : Changes) (flat : IsFlatIn dir t (rows changes)) where
  -- nothing is put aside,
  no_victim : (r : Row) → Contains (rows changes) r → victim_of (sight_of t) (rows changes) r ≡ None
  no_victim r c =
      let parts = flat.renames r c in
      let p : Names = dir ++ parts.1 ∷ [] in
      ap (victim_at (sight_of t) (rows changes)) parts.3
      ∙ cond-false (is_some ((sight_of t).at p) && not (is_source (rows changes) p)) (Some p) None
      (false_from_ne_true _ (λ victim.
      let both_parts = and_parts (is_some ((sight_of t).at p)) (not (is_source (rows changes) p)) victim in
      let written : is_written (rows changes) p ≡ true = is_written-from (rows changes) r p c parts.3 in
      let is : is_victim (rows changes) p ≡ true = ap (λ (b : Bool). b && not (is_source (rows changes) p)) written ∙ both_parts.1 in
      let both : true ≡ false = sym is ∙ flat.no_victim p ((stands_decides t p).0 both_parts.0) in cc))

  none_held : (r : Row) → Contains (rows changes) r → held_by (sight_of t) (rows changes) r ≡ []
  none_held r c =
      let parts = flat.renames r c in
      let kept : is_given_up r ≡ false = or_from r.retargets r.removes parts.4 (not_removed changes r (dir ++ parts.0 ∷ []) (dir ++ parts.1 ∷ []) c parts.2 parts.3) in
      ap (λ (o : Option Names). listed o ++ (if is_given_up r then listed r.source else [])) (no_victim r c)
      ∙ cond-false (is_given_up r) (listed r.source) [] kept

  -- nothing is missing
  none_missing : (r : Row) → Contains (rows changes) r → missing_above (sight_of t) r ≡ []
  none_missing r c =
      let parts = flat.renames r c in
      let near : is_elsewhere r ≡ false =
      ap (λ (o : Option Names). is_elsewhere_of o r.to) parts.2 ∙ ap (is_elsewhere_of (Some (dir ++ parts.0 ∷ []))) parts.3
      ∙ not_from_true (is_same_path (parent (dir ++ parts.0 ∷ [])) (parent (dir ++ parts.1 ∷ [])))
      (ap (λ (p : Names). is_same_path p (parent (dir ++ parts.1 ∷ []))) (parent-push dir parts.0) ∙ ap (is_same_path dir) (parent-push dir parts.1) ∙ same_itself dir) in
      cond-false (is_elsewhere r) _ [] near

  -- and no mode changes
  by_mode : (names : Bool) (source : Option Names) (was : Option Shown) → mode_change_by (rows changes) names source was None ≡ None
  by_mode names None was = refl
  by_mode names (Some s) None = refl
  by_mode names (Some s) (Some was) = refl

  none_changed : (r : Row) → Contains (rows changes) r → mode_change_of (sight_of t) (rows changes) r ≡ None
  none_changed r c =
      ap (mode_change_by (rows changes) (names_place (sight_of t) (rows changes) r (number_at (sight_of t) r.source)) r.source r.was) (flat.renames r c).5
      ∙ by_mode (names_place (sight_of t) (rows changes) r (number_at (sight_of t) r.source)) r.source r.was

  pub plan_is_moves : (steps : List Step) (plan : IsPlan (sight_of t) (rows changes) steps) → steps ≡ plan.moves
  plan_is_moves steps plan =
      let held : held_paths (sight_of t) (rows changes) ≡ [] = flat_none (held_by (sight_of t) (rows changes)) (rows changes) none_held in
      let missing : flat_map (missing_above (sight_of t)) (rows changes) ≡ [] = flat_none (missing_above (sight_of t)) (rows changes) none_missing in
      let dirs : plan.dirs ≡ [] = none_same plan.dirs (λ p. plan.missing.same p ∙ ap (list_any (is_same_path p)) missing) in
      let changed : mode_changes (sight_of t) (rows changes) ≡ [] = filter_none (mode_change_of (sight_of t) (rows changes)) (rows changes) none_changed in
      let modes : plan.modes ≡ [] = none_counted plan.modes (plan.changed.same (λ (m : ModeChange). true) ∙ ap (count_by (λ (m : ModeChange). true)) changed) in
      plan.steps_are
      ∙ ap (λ (l : List Names). holds 0 l ++ (map MakeDir plan.dirs ++ (plan.moves ++ map mode_step plan.modes))) held
      ∙ ap (λ (l : List Names). map MakeDir l ++ (plan.moves ++ map mode_step plan.modes)) dirs
      ∙ ap (λ (l : List ModeChange). plan.moves ++ map mode_step l) modes
      ∙ append-nil plan.moves
