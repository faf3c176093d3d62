-- What follows from a plan by what was found, in each tree that the check stands for.
use Rattle.std.proofs.Common.{◌≡◌, inl, inr, ℕ, ◌+◌, count_by, map, ◌++◌, All, List, get_or, length, sym, ◌∙◌, ap, subst, Option, Some, IfSome}
use Rattle.std.specs.List.{flat_map}
use Rattle.std.proofs.lemmas.Cmp.{eq_by_cmp_equiv}
use Rattle.std.proofs.lemmas.List.Elements.{All-contains}
use Rattle.std.proofs.lemmas.Map.Keys.{IsDistinct-from_sorted}
use Rattle.std.proofs.lemmas.Map.Made.{length-from_keys}
use Rattle.dired_text.specs.Paths.{Names, AreNames, path_cmp}
use Rattle.dired_text.proofs.PathLemmas.{path_cmp-total}
use Rattle.tree_core.specs.FileTree.{FileTree, IsFile}
use Rattle.tree_core.specs.declared.changes.Fresh.{Fresh}
use Rattle.tree_core.specs.declared.changes.Fresh.TheVariants as fresh
use Rattle.tree_core.specs.declared.changes.Creation.{Creation}
use Rattle.tree_core.specs.declared.changes.Changes.{Changes}
use Rattle.tree_core.specs.declared.changes.Changes.TheVariants.{Edits, Removals, Creations}
use Rattle.commit_steps.specs.declared.step.Step.{Step}
use Rattle.commit_steps.specs.declared.step.Step.TheVariants.{MakeDir}
use Rattle.edit_words.specs.declared.row.Row.{Row}
use Rattle.edit_words.specs.Edited.{is_fresh}
use Rattle.edit_words.specs.Refusals.{missing_above}
use Rattle.edit_words.specs.Rows.{rows, is_same_path}
use Rattle.edit_words.specs.Sight.{Sight, sight_of}
use Rattle.edit_words.specs.WellFormed.{AreAsked, AreLawful, CanBeAsked, IsFileFor, IsFreshIn, LinksHaveFiles}
use Rattle.edit_rules.specs.Plans.{AreMissing, mode_changes, victims_of}
use Rattle.edit_check.specs.declared.checked.Checked.{Checked}
use Rattle.edit_check.specs.StandFor.{CanBeMadeWhereItStands, ListedWhereItStands, StandsFor, changes_in, found_in}
use Rattle.plan_laws.specs.Laws.{ArePlanned, HaveNames}
use Rattle.plan_moves.specs.Plan.{IsPlan, held_paths, holds, is_given_up, is_moving, mode_step}
use Rattle.plan_moves.specs.Waiting.{knots, waiting}
use Rattle.plan_moves.proofs.StepCount.{given_up_have_sources, steps_counted}
use Rattle.plan_ends.proofs.Parts.{plan_is_led}
use Rattle.least_renames.proofs.LawLemmas.{fewest_steps}
use Rattle.commit_plan.specs.Holding.{held_from}
use Rattle.commit_plan.specs.Promises.{AreCounted, AreLeast, HasNames, IsOldTree, LeadToEdited, missing_once}
use Rattle.commit_plan.proofs.HoldLemmas.{held_are}

-- ---- what was asked for

fresh_file : (is_file : Names → Type 0) (what : Fresh) → IsFreshIn (λ p. Unit {0}) what → IsFileFor is_file what → IsFreshIn is_file what
fresh_file is_file (fresh.Link target) lawful file = lawful
fresh_file is_file (fresh.File bytes mode) lawful file = lawful
fresh_file is_file (fresh.Same path) lawful file = file

all_files : (is_file : Names → Type 0) (cs : List Creation) → All (λ (c : Creation). IsFreshIn (λ p. Unit {0}) c.what) cs → All (λ (c : Creation). IsFileFor is_file c.what) cs
    → All (λ (c : Creation). IsFreshIn is_file c.what) cs
all_files is_file cs lawful files = λ k c below. fresh_file is_file (get_or cs k c).what (lawful k c below) (files k c below)

lawful_files : (is_file : Names → Type 0) (changes : Changes) → AreLawful (λ p. Unit {0}) changes → LinksHaveFiles is_file changes → AreLawful is_file changes
lawful_files is_file (Edits edits) lawful files = lawful
lawful_files is_file (Removals removals) lawful files = tt
lawful_files is_file (Creations creations) lawful files = all_files is_file creations lawful files

-- with files at the paths of hard links
pub asked_with_files : (is_file : Names → Type 0) (changes : Changes) → AreAsked changes → LinksHaveFiles is_file changes → CanBeAsked is_file changes
asked_with_files is_file changes asked files = record {
  lines = asked.lines;
  sources = asked.sources;
  not_root = asked.not_root;
  lawful = lawful_files is_file changes asked.lawful files;
  count = asked.count;
}

-- ---- names

in_some : (o : Option Names) (p : Names) → IfSome o AreNames → o ≡ Some p → AreNames p
in_some o p named is = subst (λ (x : Option Names). IfSome x AreNames) is named

pub have_names : (rs : List Row) → All HasNames rs → HaveNames rs
have_names rs all r p listed (inl source) = in_some r.source p (All-contains HasNames rs r all listed).0 source
have_names rs all r p listed (inr to) = in_some r.to p (All-contains HasNames rs r all listed).1 to

-- ---- the missing directories

pub missing_counted : (sight : Sight) (rs : List Row) (dirs : List Names) → AreMissing sight rs dirs → length dirs ≡ length (missing_once sight rs)
missing_counted sight rs dirs missing =
    length-from_keys {eq = is_same_path} (eq_by_cmp_equiv path_cmp-total) dirs (flat_map (missing_above sight) rs) (IsDistinct-from_sorted path_cmp dirs missing.sorted) missing.same

-- ---- in a tree

module _ (checked : Checked) (can : CanBeMadeWhereItStands checked) (listed : ListedWhereItStands checked) (asked : AreAsked (changes_in checked))
    (steps : List Step) (plan : IsPlan (found_in checked) (rows (changes_in checked)) steps) where
  abbrev rs : List Row
  rs = rows (changes_in checked)

  held_same : (t : FileTree) → StandsFor checked t → held_paths (found_in checked) rs ≡ held_paths (sight_of t) rs
  held_same t stands =
      sym (held_are (found_in checked) rs asked.lines)
      ∙ (ap (λ (vs : List (ℕ × Names)). held_from vs rs) (listed t stands).victims ∙ held_are (sight_of t) rs asked.lines)

  -- a plan by what was found is one by what stands
  pub plan_there : (t : FileTree) → StandsFor checked t → IsPlan (sight_of t) rs steps
  plan_there t stands = record {
    dirs = plan.dirs;
    moves = plan.moves;
    modes = plan.modes;
    missing = (listed t stands).missing plan.dirs plan.missing;
    moved = plan.moved;
    changed = (listed t stands).modes plan.modes plan.changed;
    steps_are = plan.steps_are ∙ ap (λ (ps : List Names). holds 0 ps ++ (map MakeDir plan.dirs ++ (plan.moves ++ map mode_step plan.modes))) (held_same t stands);
  }

  pub planned : (t : FileTree) → IsOldTree checked t → ArePlanned t (changes_in checked)
  planned t old = record {
    tree = old.tree;
    asked = asked_with_files (IsFile t) (changes_in checked) asked old.files;
    well_formed = (can t old.tree old.found).well_formed;
  }

  pub leads : HaveNames rs → LeadToEdited checked steps
  leads names t made old made_for = plan_is_led t (changes_in checked) made (planned t old) made_for names steps (plan_there t old.found)

  pub counted : AreCounted checked steps
  counted t stands =
      let there = plan_there t stands in
      steps_counted (sight_of t) rs steps asked.lines (given_up_have_sources (changes_in checked)) there
      ∙ ap (λ (n : ℕ). length (victims_of (sight_of t) rs) + count_by is_given_up rs + n + count_by is_moving rs + count_by is_fresh rs + length (mode_changes (sight_of t) rs) + knots (waiting rs))
      (missing_counted (sight_of t) rs there.dirs there.missing)

  pub least : AreLeast checked steps
  least t old = fewest_steps t (changes_in checked) steps old.tree (planned t old).asked (planned t old).well_formed (plan_there t old.found)
