-- What steps, and the moves of the marker and of the journal, leave in the staging directory.
use Rattle.std.proofs.Common.{◌≡◌, ◌≢◌, ◌⊎◌, inl, inr, ⊎_elim, ℕ, true, List, [], ◌∷◌, ◌++◌, refl, sym, ◌∙◌, ap, subst, Option, Some, None, is_some}
use Rattle.std.proofs.lemmas.Option.{none-some}
use Rattle.std.specs.FinMap.{get, remove}
use Rattle.commit_steps.specs.declared.step.Step.{Step}
use Rattle.commit_steps.specs.declared.step.Step.TheVariants.{MakeDir, Rename, Mode}
use Rattle.commit_steps.specs.Staging.{staging, staging_name, staged}
use Rattle.commit_steps.specs.Steps.{IsLawfulStep, IsOutside, IsStepPath}
use Rattle.dired_text.specs.Paths.{AreNames, Names, rest_below}
use Rattle.dired_text.proofs.PathLemmas.{rest_below-same, rest_below-some}
use Rattle.recovery_calls.specs.Underway.{IsAmong, IsNamed, IsUnderway, NamesAmong}
use Rattle.recovery_courses.specs.Ends.{spelled}
use Rattle.staging_names.specs.declared.entry_name.EntryName.{EntryName}
use Rattle.staging_names.specs.declared.entry_name.Role.{Role}
use Rattle.staging_names.specs.declared.entry_name.Role.TheVariants.{Fresh, Held, Temporary}
use Rattle.step_trees.specs.Apart.{IsApartStep}
use Rattle.step_trees.specs.Steps.{step_done, undo_of}
use Rattle.step_trees.proofs.CommuteLemmas.{IsOut, dir_kept, some_kept}
use Rattle.step_trees.proofs.NameLemmas.{IsOwn, apart_outside, apart_staged, apart_step, none_below, not_fresh, not_held, not_temporary}
use Rattle.step_trees.proofs.RemovalLemmas.{removed-other}
use Rattle.step_trees.proofs.StepLemmas.{IsClearStep, is_file, some_file, step-file}
use Rattle.step_trees.proofs.Without.{IsClear, renamed-from, renamed-out, renamed-to}
use Rattle.tree_core.specs.declared.node.Node.{Node}
use Rattle.tree_core.specs.declared.node.Node.TheVariants.{Dir, Link, File}
use Rattle.tree_core.specs.FileTree.{CanDo, CanRename, FileTree, IsAbsent, IsFile, IsTree, Stands, done, is_dir_node, is_file_node, renamed}
use Rattle.tree_core.proofs.TreeLemmas.{absent_below, absent_not, none_of}

-- ---- names and paths

pub own_spelled : (x : List ℕ) → IsOwn x → (r : Role) (n : ℕ) → x ≢ spelled r n
own_spelled x own Fresh n = not_fresh x n own
own_spelled x own Held n = not_held x n own
own_spelled x own Temporary n = not_temporary x n own

-- a journal or a marker is no entry
pub not_named : (x : List ℕ) → IsOwn x → (es : List EntryName) → IsNamed x es → ⊥
not_named x own [] named = named
not_named x own (e ∷ es) (inl is) = own_spelled x own e.role e.number is
not_named x own (e ∷ es) (inr more) = not_named x own es more

-- the paths of a lawful step
abbrev pub AreStepPaths : Step → Type 0
AreStepPaths (MakeDir p) = IsOutside p
AreStepPaths (Rename from to) = IsStepPath from × IsStepPath to
AreStepPaths (Mode p old new) = IsOutside p

pub step_paths : (s : Step) → IsLawfulStep s → AreStepPaths s
step_paths (MakeDir p) lawful = lawful
step_paths (Rename from to) lawful = (lawful.0, lawful.1)
step_paths (Mode p old new) lawful = lawful.0

apart_own : (x : List ℕ) (s : Step) → IsOwn x → AreStepPaths s → IsApartStep (staged x) s
apart_own x (MakeDir p) own paths = apart_outside x p paths
apart_own x (Rename from to) own paths = (apart_step x from own paths.0, apart_step x to own paths.1)
apart_own x (Mode p old new) own paths = apart_outside x p paths

over_staged : (x : List ℕ) → rest_below (staged x) staging ≡ None
over_staged x = none_below (staged x) staging (λ r e. cc)

over_outside : (p : Names) → IsOutside p → rest_below p staging ≡ None
over_outside [] outside = absurd outside
over_outside (x ∷ p) outside = none_below (x ∷ p) staging (λ r e. outside (let k : staging_name ≡ x = cc in sym k))

over_step : (p : Names) → IsStepPath p → rest_below p staging ≡ None
over_step p (inl outside) = over_outside p outside
over_step p (inr entry) = subst (λ (q : Names). rest_below q staging ≡ None) (sym entry.is) (over_staged entry.name)

out_staging : (s : Step) → AreStepPaths s → IsOut s staging
out_staging (MakeDir p) paths = over_outside p paths
out_staging (Rename from to) paths = (over_step from paths.0, over_step to paths.1)
out_staging (Mode p old new) paths = over_outside p paths

-- ---- a step

file_kept : (s : Step) (t : FileTree) (p : Names) → IsApartStep p s → IsClearStep s t → IsFile t p → IsFile (step_done s t) p
file_kept s t p apart clear file =
    let f = some_file t p file in
    is_file (step_done s t) p f.number f.bytes (step-file s 0 t p f.number f.bytes apart clear f.file)

stood : (s : Step) (t : FileTree) (q : Names) → IsClearStep s t → IsOut s q → Stands (step_done s t) q → Stands t q
stood s t q clear out stands = sym (some_kept s t q clear out) ∙ stands

-- what the name of an entry stands for, below a path of a step
named_by : (es : List EntryName) (p : Names) (name : List ℕ) (r : Names) → IsStepPath p → IsAmong es p → rest_below p (staged name) ≡ Some r → IsNamed name es
named_by es p name r (inl outside) among below = absurd (none-some r (sym (apart_outside name p outside).1 ∙ below))
named_by es p name r (inr entry) among below =
    let e : staged name ≡ staged entry.name ++ r = rest_below-some p (staged name) r below ∙ ap (λ (q : Names). q ++ r) entry.is in
    let same : entry.name ≡ name = cc in
    among name (entry.is ∙ ap staged same)

module _ (j m : List ℕ) (es : List EntryName) where
  only_renamed : (t : FileTree) (from to : Names) → IsStepPath to → IsClear t to → IsAmong es to → IsUnderway j m es t
      → (name : List ℕ) → Stands (renamed t from to) (staged name) → (name ≡ j) ⊎ ((name ≡ m) ⊎ IsNamed name es)
  only_renamed t from to path clear among u name stands = by_rest (rest_below to (staged name)) (rest_below from (staged name)) refl refl
    where
      by_rest : (a b : Option Names) → rest_below to (staged name) ≡ a → rest_below from (staged name) ≡ b → (name ≡ j) ⊎ ((name ≡ m) ⊎ IsNamed name es)
      by_rest (Some r) b ea eb = inr (inr (named_by es to name r path among ea))
      by_rest None (Some r) ea eb = absurd (absent_not (get (renamed t from to) (staged name)) (renamed-from t from to clear (staged name) r ea eb) stands)
      by_rest None None ea eb = u.only name (sym (ap is_some (renamed-out t from to clear (staged name) ea eb)) ∙ stands)

  only_kept : (s : Step) (t : FileTree) → AreStepPaths s → IsClearStep s t → NamesAmong es s → IsUnderway j m es t
      → (name : List ℕ) → Stands (step_done s t) (staged name) → (name ≡ j) ⊎ ((name ≡ m) ⊎ IsNamed name es)
  only_kept (MakeDir p) t paths clear among u name stands = u.only name (stood (MakeDir p) t (staged name) clear (apart_outside name p paths).1 stands)
  only_kept (Rename from to) t paths clear among u name stands = only_renamed t from to paths.1 clear among.1 u name stands
  only_kept (Mode p old new) t paths clear among u name stands = u.only name (stood (Mode p old new) t (staged name) clear (apart_outside name p paths).1 stands)

  -- a step done
  pub step_kept : IsOwn j → IsOwn m → (s : Step) (t : FileTree) → AreStepPaths s → IsClearStep s t → NamesAmong es s → IsUnderway j m es t → IsUnderway j m es (step_done s t)
  step_kept own_j own_m s t paths clear among u = record {
    directory = dir_kept s t staging clear (out_staging s paths) ∙ u.directory;
    journal_there = file_kept s t (staged j) (apart_own j s own_j paths) clear u.journal_there;
    marker_there = file_kept s t (staged m) (apart_own m s own_m paths) clear u.marker_there;
    only = only_kept s t paths clear among u;
  }

  removal_kept : (t : FileTree) (p : Names) → IsOutside p → IsUnderway j m es t → IsUnderway j m es (remove t p)
  removal_kept t p outside u =
      let same_directory : get (remove t p) staging ≡ get t staging = removed-other t p staging (λ is. none-some [] (sym (over_outside p outside) ∙ ap (rest_below p) is ∙ rest_below-same p)) in
      let same = λ (name : List ℕ). removed-other t p (staged name) (λ is. none-some [] (sym (apart_outside name p outside).1 ∙ ap (rest_below p) is ∙ rest_below-same p)) in
      record {
        directory = ap is_dir_node same_directory ∙ u.directory;
        journal_there = ap is_file_node (same j) ∙ u.journal_there;
        marker_there = ap is_file_node (same m) ∙ u.marker_there;
        only = λ name stands. u.only name (sym (ap is_some (same name)) ∙ stands);
      }

  -- a step undone
  pub undo_kept : IsOwn j → IsOwn m → (s : Step) (t : FileTree) → IsTree t → AreStepPaths s → CanDo (undo_of s) t → NamesAmong es s → IsUnderway j m es t → IsUnderway j m es (done (undo_of s) 0 t)
  undo_kept own_j own_m (MakeDir p) t tree paths can among u = removal_kept t p paths u
  undo_kept own_j own_m (Rename from to) t tree paths can among u = step_kept own_j own_m (Rename to from) t (paths.1, paths.0) (absent_below t tree from can.absent) (among.1, among.0) u
  undo_kept own_j own_m (Mode p old new) t tree paths can among u = step_kept own_j own_m (Mode p new old) t paths tt among u

-- ---- a move of the marker, or of the journal

pub turned : (j m : List ℕ) (es : List EntryName) (t : FileTree) → IsUnderway j m es t → IsUnderway m j es t
turned j m es t u = record {
  directory = u.directory;
  journal_there = u.marker_there;
  marker_there = u.journal_there;
  only = λ name stands. ⊎_elim (λ is. inr (inl is)) (λ more. ⊎_elim (λ is. inl is) (λ named. inr (inr named)) more) (u.only name stands);
}

file_stands : (o : Option Node) → is_file_node o ≡ true → is_some o ≡ true
file_stands None is = is
file_stands (Some (Dir mode)) is = refl
file_stands (Some (Link target)) is = refl
file_stands (Some (File number bytes mode)) is = refl

module _ (j m to : List ℕ) (es : List EntryName) (t : FileTree) (own : IsOwn to) (other_j : to ≢ j) (other_m : to ≢ m) (u : IsUnderway j m es t) where
  pub nothing_there : IsAbsent t (staged to)
  nothing_there = none_of (get t (staged to)) (λ stands. ⊎_elim other_j (λ more. ⊎_elim other_m (not_named to own es) more) (u.only to stands))

  pub can_move : AreNames (staged to) → CanRename t (staged m) (staged to)
  can_move named = record {
    named = named;
    stands = file_stands (get t (staged m)) u.marker_there;
    not_root = λ e. cc;
    absent = nothing_there;
    parent_is_dir = u.directory;
    apart = (apart_staged m to (λ is. other_m (sym is))).0;
  }

  module _ (tree : IsTree t) (differ : j ≢ m) where
    clear : IsClear t (staged to)
    clear = absent_below t tree (staged to) nothing_there

    only_moved : (name : List ℕ) → Stands (renamed t (staged m) (staged to)) (staged name) → (name ≡ j) ⊎ ((name ≡ to) ⊎ IsNamed name es)
    only_moved name stands = by_rest (rest_below (staged to) (staged name)) (rest_below (staged m) (staged name)) refl refl
      where
        by_rest : (a b : Option Names) → rest_below (staged to) (staged name) ≡ a → rest_below (staged m) (staged name) ≡ b → (name ≡ j) ⊎ ((name ≡ to) ⊎ IsNamed name es)
        by_rest (Some r) b ea eb =
            let e : staged name ≡ staged to ++ r = rest_below-some (staged to) (staged name) r ea in
            let same : name ≡ to = cc in
            inr (inl same)
        by_rest None (Some r) ea eb = absurd (absent_not (get (renamed t (staged m) (staged to)) (staged name)) (renamed-from t (staged m) (staged to) clear (staged name) r ea eb) stands)
        by_rest None None ea eb =
            let before : Stands t (staged name) = sym (ap is_some (renamed-out t (staged m) (staged to) clear (staged name) ea eb)) ∙ stands in
            ⊎_elim (λ is. inl is)
            (λ more. ⊎_elim (λ is. absurd (none-some [] (sym eb ∙ ap (λ (n : List ℕ). rest_below (staged m) (staged n)) is ∙ rest_below-same (staged m)))) (λ named. inr (inr named)) more)
            (u.only name before)

    pub moved_marker : IsUnderway j to es (renamed t (staged m) (staged to))
    moved_marker = record {
      directory = dir_kept (Rename (staged m) (staged to)) t staging clear (over_staged m, over_staged to) ∙ u.directory;
      journal_there = file_kept (Rename (staged m) (staged to)) t (staged j) (apart_staged j m differ, apart_staged j to (λ is. other_j (sym is))) clear u.journal_there;
      marker_there = ap is_file_node (renamed-to t (staged m) (staged to) clear []) ∙ u.marker_there;
      only = only_moved;
    }
