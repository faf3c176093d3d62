-- What a commit asks for can be met: by one that makes a directory.
use Rattle.std.proofs.Common.{◌≡◌, ◌≢◌, ℕ, ◌≤◌, List, [], ◌∷◌, length, refl, sym, ◌∙◌, ap, arith, None}
use Rattle.std.proofs.lemmas.Option.{none-some}
use Rattle.std.proofs.lemmas.Str.{IsUtf8-from_ascii}
use Rattle.std.specs.Prelude.{codes}
use Rattle.std.specs.FinMap.{get, insert}
use Rattle.dired_text.specs.Paths.{AreNames}
use Rattle.tree_core.specs.declared.node.Node.TheVariants.{Dir}
use Rattle.tree_core.specs.FileTree.{FileTree, IsTree, IsAbsent, is_dir_node}
use Rattle.tree_core.proofs.TreeLemmas.{absent_below}
use Rattle.tree_core.proofs.Sound.{get-inserted, get-inserted_other, inserted_tree, agrees-dir}
use Rattle.commit_steps.specs.declared.step.Step.{Step}
use Rattle.commit_steps.specs.declared.step.Step.TheVariants.{MakeDir}
use Rattle.commit_steps.specs.Staging.{staging, staging_name, staged}
use Rattle.commit_steps.specs.Steps.{IsPath}
use Rattle.commit_journal.specs.declared.version.Version.TheVariants.{Two}
use Rattle.commit_journal.specs.Spelling.{journal_text, steps_text, step_text, path_text, CanSpell}
use Rattle.commit_journal.proofs.GrammarLemmas.{journal_spells}
use Rattle.step_trees.specs.Groups.{groups}
use Rattle.step_trees.specs.Leads.{LeadsFrom}
use Rattle.step_trees.proofs.NameLemmas.{initial, differ, are_names}
use Rattle.commit_states.specs.Interrupted.{max_journal_bytes, IsWritten}
use Rattle.commit_states.specs.Fits.{Fits, edited_by}
use Rattle.commit_states.proofs.OwnNames.{staging_names, ascii_by}

abbrev steps : List Step
steps = MakeDir (codes "d" ∷ []) ∷ []

i-staging : initial staging_name ≡ 46
unfolding staging_name
i-staging = refl

d_path : IsPath (codes "d" ∷ [])
d_path = record { names = (record { name = refl; utf8 = IsUtf8-from_ascii (codes "d") (ascii_by (codes "d") refl) }, tt); short = omega arith }

d_names : AreNames (codes "d" ∷ [])
d_names = are_names (codes "d" ∷ []) d_path.names

can_spell : CanSpell Two steps
can_spell = record { few = omega arith; lawful = (differ (codes "d") staging_name 100 46 refl i-staging refl, tt); paths = (d_path, tt); within = omega arith }

few_bytes : length (journal_text Two steps) ≤ max_journal_bytes
unfolding journal_text steps_text step_text path_text max_journal_bytes
few_bytes = omega arith

written : IsWritten steps (journal_text Two steps)
written = record { journal = journal_spells Two steps can_spell; short = few_bytes }

module _ (old : FileTree) (tree : IsTree old) (absent : IsAbsent old staging) (free : IsAbsent old (codes "d" ∷ [])) where
  abbrev d : List ℕ
  d = codes "d"

  other : d ≢ staging_name
  other = differ d staging_name 100 46 refl i-staging refl

  abbrev t0 : FileTree
  t0 = insert old staging (Dir 0o700)

  abbrev t1 : FileTree
  t1 = insert t0 (d ∷ []) (Dir 0o755)

  tree0 : IsTree t0
  tree0 = inserted_tree old staging (Dir 0o700) tree record { named = staging_names; absent = absent; parent_is_dir = tree.root } (agrees-dir old 0o700) (omega arith)

  none0 : (name : List ℕ) → get t0 (staged name) ≡ None
  none0 name = get-inserted_other old staging (Dir 0o700) (staged name) (λ same. let e : staged name ≡ staging = same in cc) ∙ absent_below old tree staging absent (name ∷ [])

  apart : d ∷ [] ≢ staging
  apart same = other (let e : d ≡ staging_name = cc in e)

  free0 : IsAbsent t0 (d ∷ [])
  free0 = get-inserted_other old staging (Dir 0o700) (d ∷ []) apart ∙ free

  tree1 : IsTree t1
  tree1 = inserted_tree t0 (d ∷ []) (Dir 0o755) tree0 record { named = d_names; absent = free0; parent_is_dir = tree0.root } (agrees-dir t0 0o755) (omega arith)

  none1 : (name : List ℕ) → get t1 (staged name) ≡ None
  none1 name = get-inserted_other t0 (d ∷ []) (Dir 0o755) (staged name) (λ same. let e : staged name ≡ d ∷ [] = same in cc) ∙ none0 name

  leads : (new : FileTree) → new ≡ edited_by (MakeDir (d ∷ []) ∷ []) old [] → LeadsFrom t0 (MakeDir (d ∷ []) ∷ []) new
  leads new is = (
    record { tree = tree0; stands = ap is_dir_node (get-inserted old staging (Dir 0o700)); only = λ name node e. absurd (none-some node (sym (none0 name) ∙ e)) },
    other,
    (free0, tree0.root),
    (
      record {
        tree = tree1;
        stands = ap is_dir_node (get-inserted_other t0 (d ∷ []) (Dir 0o755) staging (λ same. apart (sym same)) ∙ get-inserted old staging (Dir 0o700));
        only = λ name node e. absurd (none-some node (sym (none1 name) ∙ e));
      },
      record { is = sym is; only = λ name node e. absurd (none-some node (sym (none1 name) ∙ e)) },
    ),
  )

  pub one_directory_fits : (next : ℕ) → Fits steps [] (journal_text Two steps) [] (edited_by steps old []) old next
  unfolding groups
  one_directory_fits next = record {
    absent = absent;
    lawful = tt;
    few_fresh = omega arith;
    few_steps = omega arith;
    journal_is = written;
    leads = record { from = leads _ refl; others = ((tt, tt), tt) };
    cleans = λ name node e. none-some node (sym (none1 name) ∙ e);
  }
