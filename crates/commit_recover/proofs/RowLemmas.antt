-- What a start finds in an interrupted tree: nothing foreign, the journal of the steps, and the marker of the row.
use Rattle.std.proofs.Common.{◌≡◌, ◌⊎◌, inl, inr, ⊎_elim, ℕ, zero, suc, ◌+◌, ◌≤◌, ◌<◌, ◌^◌, nat_lt, false, List, [], length, Option, Some, None, is_some, sym, ◌∙◌, ap, subst, arith}
use Rattle.std.specs.FinMap.{get}
use Rattle.std.specs.List.{AllByRecursion}
use Rattle.std.proofs.lemmas.Bool.{cases_Bool, ltb-true, ltb-false}
use Rattle.std.proofs.lemmas.Bool.Decides.{nat_tests}
use Rattle.commit_journal.proofs.LawLemmas.{one_list}
use Rattle.commit_journal.specs.Grammar.{IsJournal, IsJournalOf}
use Rattle.commit_states.specs.Interrupted.{IsInterrupted, IsJournalText, IsOne, JournalAt, StandsAs, nothing_staged, no_journal, forward, back, behind_seal, all_undone}
use Rattle.commit_steps.specs.declared.step.Step.{Step}
use Rattle.commit_steps.specs.Staging.{staging, staged, plan, sealed, undone, new_journal, at_marker, back_marker}
use Rattle.commit_steps.specs.Steps.{HasPaths}
use Rattle.recovery_start.proofs.RowLaws.{early_shows, planned_shows, sealed_shows, undone_shows}
use Rattle.recovery_start.specs.Rows.{Shows, ShowsAtMost}
use Rattle.recovery_start.specs.Start.{HasBadJournal, HasSteps, HoldsBytes, IsBadAt, IsForeign, IsReadAs, IsUnreadable, by_count, by_name, found_in, no_directory}
use Rattle.staging_names.specs.declared.staged_name.Journal as journal
use Rattle.staging_names.specs.declared.staged_name.Journal.TheVariants.{Plan, Done, Undone}
use Rattle.staging_names.specs.declared.staged_name.Marker as marker
use Rattle.staging_names.specs.declared.staged_name.Side.TheVariants.{At, Back}
use Rattle.staging_names.specs.declared.standing.Standing.{Standing}
use Rattle.staging_names.specs.Names.{journal_name}
use Rattle.staging_names.specs.Tests.{beyond_place, counts_more, foreign_place, journal_of, marker_of}
use Rattle.staging_names.proofs.OrderLemmas.{not_beyond}
use Rattle.step_looks.proofs.TellLemmas.{free_cut}
use Rattle.step_trees.proofs.LawLemmas.{by_places, free_at}
use Rattle.step_trees.proofs.LeadLemmas.{Led, led}
use Rattle.step_trees.proofs.PlaceLemmas.{cut_at, end_behind, from_last_cut-zero, inside_at}
use Rattle.step_trees.specs.Entries.{HoldsOnly, IsFresh, IsHeld}
use Rattle.step_trees.specs.Groups.{ComesBySome, from_last_cut, groups, to_next_cut}
use Rattle.step_trees.specs.Leads.{Leads, at_place}
use Rattle.step_trees.specs.Steps.{after}
use Rattle.tree_core.specs.declared.node.Node.{Node}
use Rattle.tree_core.specs.Fields.{bytes_of}
use Rattle.tree_core.specs.FileTree.{FileTree, IsAbsent, IsDir, IsTree, is_dir_node}
use Rattle.commit_recover.proofs.FoundLemmas.{not_both}
use Rattle.commit_recover.proofs.HoldLemmas.{IsEntryIn, holds_halfway}

-- no directory where nothing stands
pub not_there : (t : FileTree) → IsAbsent t staging → IsDir t staging → ⊥
not_there t none dir = not_both (sym dir ∙ ap is_dir_node none)

-- ---- the journal

same_bytes : (a b : List ℕ) → Some a ≡ Some b → a ≡ b
same_bytes a b e = cc

module _ (steps : List Step) (t : FileTree) (name : List ℕ) (at : JournalAt (IsJournalText steps) t name) where
  bytes_at : (bytes : List ℕ) → bytes_of (get t (staged name)) ≡ Some bytes → bytes ≡ at.bytes
  bytes_at bytes is = same_bytes bytes at.bytes (sym is ∙ ap bytes_of at.stands)

  pub same_steps : (also : List Step) → HoldsBytes (get t (staged name)) (λ bytes. IsReadAs bytes also) → also ≡ steps
  same_steps also (bytes, is, read) =
      let mine = at.spelled.journal in
      one_list read.journal.version mine.version also steps bytes read.journal.journal
      (subst (λ (b : List ℕ). IsJournalOf mine.version steps b) (sym (bytes_at bytes is)) mine.journal)

  pub no_fault : (offset : ℕ) → HoldsBytes (get t (staged name)) (λ bytes. IsUnreadable bytes offset) → ⊥
  no_fault offset (bytes, is, inl long) =
      let same : length bytes ≡ length at.bytes = ap length (bytes_at bytes is) in
      let more = long.0 in
      let short = at.spelled.short in
      absurd (omega arith)
  no_fault offset (bytes, is, inr bad) = bad.2 steps (subst (IsJournal steps) (sym (bytes_at bytes is)) at.spelled.journal)

-- ---- what is found

-- the staging directory stands with nothing foreign, and whatever steps are read, the marker counts no more
pub record IsFound (t : FileTree) : Type 0 where
  pub dir : IsDir t staging
  pub in_place : foreign_place (found_in t) ≡ None
  pub counted : (also : List Step) → HasSteps t (journal_of (found_in t)) also → counts_more (marker_of (found_in t)) (length also) ≡ false
  pub readable : (offset : ℕ) → HasBadJournal t (journal_of (found_in t)) offset → ⊥

pub not_bad : (t : FileTree) → IsFound t → (offset : ℕ) → IsBadAt t offset → ⊥
not_bad t f offset bad = f.readable offset bad.bad

no_place : (o : Option ℕ) (place : ℕ) → o ≡ None → o ≡ Some place → ⊥
no_place None place none is = let k : None ≡ Some place = is in cc
no_place (Some n) place none is = let k : Some n ≡ None = none in cc

pub not_foreign : (t : FileTree) → IsFound t → (name : List ℕ) → IsForeign t name → ⊥
not_foreign t f name (no_directory stands no_dir is) = not_both (sym f.dir ∙ no_dir)
not_foreign t f name (by_name dir place foreign at) = no_place (foreign_place (found_in t)) place f.in_place foreign
not_foreign t f name (by_count dir none also has place beyond at) =
    no_place (beyond_place (found_in t) (length also)) place (not_beyond (found_in t) (length also) (f.counted also has)) beyond

not_more : (m n : ℕ) → m ≤ n → nat_lt n m ≡ false
not_more m n le = grind (arith, nat_tests)

counts_few : (o : Option marker.Marker) (m : marker.Marker) (n : ℕ) → (o ≡ None) ⊎ (o ≡ Some m) → m.number ≤ n → counts_more o n ≡ false
counts_few o m n (inl none) le = ap (λ (x : Option marker.Marker). counts_more x n) none
counts_few o m n (inr is) le = ap (λ (x : Option marker.Marker). counts_more x n) is ∙ not_more m.number n le

module _ (t : FileTree) (dir : IsDir t staging) (j : Option journal.Journal) (m : marker.Marker) where
  abbrev pub AtMost : Type 0
  AtMost = Shows t j None ⊎ Shows t j (Some m)

  pub shown_journal : AtMost → journal_of (found_in t) ≡ j
  shown_journal (inl s) = ap (λ (x : Standing). x.journal) s.standing
  shown_journal (inr s) = ap (λ (x : Standing). x.journal) s.standing

  shown_marker : AtMost → (marker_of (found_in t) ≡ None) ⊎ (marker_of (found_in t) ≡ Some m)
  shown_marker (inl s) = inl (ap (λ (x : Standing). x.marker) s.standing)
  shown_marker (inr s) = inr (ap (λ (x : Standing). x.marker) s.standing)

  shown_place : AtMost → foreign_place (found_in t) ≡ None
  shown_place (inl s) = s.in_order
  shown_place (inr s) = s.in_order

  pub found_by : AtMost → ((also : List Step) → HasSteps t j also → m.number ≤ length also) → ((offset : ℕ) → HasBadJournal t j offset → ⊥) → IsFound t
  found_by shows few readable = record {
    dir = dir;
    in_place = shown_place shows;
    counted = λ also has. counts_few (marker_of (found_in t)) m (length also) (shown_marker shows) (few also (subst (λ (x : Option journal.Journal). HasSteps t x also) (shown_journal shows) has));
    readable = λ offset bad. readable offset (subst (λ (x : Option journal.Journal). HasBadJournal t x offset) (shown_journal shows) bad);
  }

-- ---- the rows

module _ (steps : List Step) (t : FileTree) (tree : IsTree t) where
  abbrev Text : List ℕ → Type 0
  Text = IsJournalText steps

  few_at : (name : List ℕ) → JournalAt Text t name → length steps < 2 ^ 32
  few_at name at = at.spelled.journal.journal.few

  pub paths_at : (name : List ℕ) → JournalAt Text t name → AllByRecursion HasPaths steps
  paths_at name at = at.spelled.journal.journal.spelled.paths

  -- a journal of the steps under its name
  found_with : (dir : IsDir t staging) (j : journal.Journal) (m : marker.Marker) → JournalAt Text t (journal_name j) → m.number ≤ length steps → AtMost t dir (Some j) m → IsFound t
  found_with dir j m at le shows = found_by t dir (Some j) m shows
      (λ also has. subst (λ (l : List Step). m.number ≤ length l) (sym (same_steps steps t (journal_name j) at also has)) le)
      (λ offset bad. no_fault steps t (journal_name j) at offset bad)

  pub dir_at : (name : List ℕ) → JournalAt Text t name → IsDir t staging
  dir_at name at = tree.parents staging name (ap is_some at.stands)

  pub early_found : (dir : IsDir t staging) → HoldsOnly t (λ name node. IsOne new_journal name node ⊎ (IsOne (at_marker 0) name node ⊎ IsFresh name node)) → IsFound t
  early_found dir only = found_by t dir None (record { side = At; number = 0 }) (early_shows t only) (λ also has. omega arith) (λ offset bad. bad)

  pub sealed_most : JournalAt Text t sealed → HoldsOnly t (λ name node. (name ≡ sealed) ⊎ (IsHeld t name node ⊎ IsOne (at_marker (length steps)) name node))
      → ShowsAtMost t (Some Done) (record { side = At; number = length steps })
  sealed_most at only = sealed_shows Text t (length steps) (few_at sealed at) at only

  pub sealed_found : (dir : IsDir t staging) (at : JournalAt Text t sealed) → HoldsOnly t (λ name node. (name ≡ sealed) ⊎ (IsHeld t name node ⊎ IsOne (at_marker (length steps)) name node)) → IsFound t
  sealed_found dir at only = found_with dir Done (record { side = At; number = length steps }) at (omega arith) (sealed_most at only)

  pub undone_most : JournalAt Text t undone → HoldsOnly t (λ name node. (name ≡ undone) ⊎ (IsFresh name node ⊎ IsOne (back_marker 0) name node))
      → ShowsAtMost t (Some Undone) (record { side = Back; number = 0 })
  undone_most at only = undone_shows Text t at only

  pub undone_found : (dir : IsDir t staging) (at : JournalAt Text t undone) → HoldsOnly t (λ name node. (name ≡ undone) ⊎ (IsFresh name node ⊎ IsOne (back_marker 0) name node)) → IsFound t
  undone_found dir at only = found_with dir Undone (record { side = Back; number = 0 }) at (omega arith) (undone_most at only)

  -- ---- on the way

  module _ (old new : FileTree) (fresh : List Node) (leads : Leads steps old new fresh) (u : FileTree) where
    abbrev place : ℕ → FileTree
    place k = at_place steps old fresh k

    holds_at : (k : ℕ) → HoldsOnly (place k) (IsEntryIn (place k))
    holds_at k = ((by_places steps old new fresh leads).holds k).only

    tree_at : (k : ℕ) → IsTree (place k)
    tree_at k = ((by_places steps old new fresh leads).holds k).tree

    -- the tree behind the steps from a place to the next cut holds only entries
    holds_next : Led steps old new fresh → (m : ℕ) → m ≤ length steps → HoldsOnly (after (to_next_cut m (groups steps)) (place m)) (IsEntryIn (after (to_next_cut m (groups steps)) (place m)))
    holds_next l m le = ⊎_elim
        (λ short. let s = (inside_at steps old new fresh l m (ltb-true m (length steps) short)).stretch in
        subst (λ (x : FileTree). HoldsOnly x (IsEntryIn x)) (s.more ∙ ap (λ (g : List Step). after g (place m)) (sym s.is)) (holds_at (m + length (inside_at steps old new fresh l m (ltb-true m (length steps) short)).g)))
        (λ long. let past = ltb-false m (length steps) long in
        let m_is : length steps ≡ m = omega arith in
        let none : to_next_cut m (groups steps) ≡ [] = ap (λ n. to_next_cut n (groups steps)) (sym m_is) ∙ end_behind steps old new fresh l in
        subst (λ (g : List Step). HoldsOnly (after g (place m)) (IsEntryIn (after g (place m)))) (sym none) (holds_at m))
        (cases_Bool (nat_lt m (length steps)))

    holds_last : Led steps old new fresh → (k m : ℕ) → m ≤ length steps → m ≡ k + length (from_last_cut m (groups steps))
        → HoldsOnly (after (from_last_cut m (groups steps)) (place k)) (IsEntryIn (after (from_last_cut m (groups steps)) (place k)))
    holds_last l k zero le cut = subst (λ (g : List Step). HoldsOnly (after g (place k)) (IsEntryIn (after g (place k)))) (sym (from_last_cut-zero (groups steps))) (holds_at k)
    holds_last l k (suc m) le cut = subst (λ (x : FileTree). HoldsOnly x (IsEntryIn x)) ((cut_at steps old new fresh l k (suc m) (omega arith) le cut).back.more) (holds_at (k + length (from_last_cut (suc m) (groups steps))))

    forward_holds : AllByRecursion HasPaths steps → (m : ℕ) → m ≤ length steps → ComesBySome (to_next_cut m (groups steps)) (place m) u → HoldsOnly u (IsEntryIn u)
    forward_holds paths m le comes =
        let l = led steps old new fresh leads paths in
        holds_halfway (to_next_cut m (groups steps)) (place m) u (tree_at m) (free_at steps old new fresh l m le) (holds_at m) (holds_next l m le) comes

    back_holds : AllByRecursion HasPaths steps → (k m : ℕ) → m ≤ length steps → m ≡ k + length (from_last_cut m (groups steps)) → ComesBySome (from_last_cut m (groups steps)) (place k) u → HoldsOnly u (IsEntryIn u)
    back_holds paths k m le cut comes =
        let l = led steps old new fresh leads paths in
        holds_halfway (from_last_cut m (groups steps)) (place k) u (tree_at k) (free_cut steps old new fresh leads paths k m le cut) (holds_at k) (holds_last l k m le cut) comes

    pub forward_shows : (m : ℕ) → m ≤ length steps → ComesBySome (to_next_cut m (groups steps)) (place m) u → StandsAs Text (at_marker m) u t → Shows t (Some Plan) (Some (record { side = At; number = m }))
    forward_shows m le comes stands =
        let few = few_at plan stands.journal in
        planned_shows Text At m u t (omega arith) stands (forward_holds (paths_at plan stands.journal) m le comes)

    pub back_shows : (k m : ℕ) → m ≤ length steps → m ≡ k + length (from_last_cut m (groups steps)) → ComesBySome (from_last_cut m (groups steps)) (place k) u → StandsAs Text (back_marker m) u t
        → Shows t (Some Plan) (Some (record { side = Back; number = m }))
    back_shows k m le cut comes stands =
        let few = few_at plan stands.journal in
        planned_shows Text Back m u t (omega arith) stands (back_holds (paths_at plan stands.journal) k m le cut comes)

    pub forward_found : (m : ℕ) → m ≤ length steps → ComesBySome (to_next_cut m (groups steps)) (place m) u → StandsAs Text (at_marker m) u t → IsFound t
    forward_found m le comes stands = found_with (dir_at plan stands.journal) Plan (record { side = At; number = m }) stands.journal le (inr (forward_shows m le comes stands))

    pub back_found : (k m : ℕ) → m ≤ length steps → m ≡ k + length (from_last_cut m (groups steps)) → ComesBySome (from_last_cut m (groups steps)) (place k) u → StandsAs Text (back_marker m) u t → IsFound t
    back_found k m le cut comes stands = found_with (dir_at plan stands.journal) Plan (record { side = Back; number = m }) stands.journal le (inr (back_shows k m le cut comes stands))

-- in each row with a staging directory
pub row_found : (steps : List Step) (old new : FileTree) (fresh : List Node) (t : FileTree) → IsTree t → IsDir t staging → IsInterrupted steps old new fresh t → IsFound t
row_found steps old new fresh t tree stands (nothing_staged none which) = absurd (not_there t none stands)
row_found steps old new fresh t tree stands (no_journal dir only which) = early_found steps t tree dir only
row_found steps old new fresh t tree stands (forward leads m u le some st) = forward_found steps t tree old new fresh leads u m le some st
row_found steps old new fresh t tree stands (back leads k m u le cut some st) = back_found steps t tree old new fresh leads u k m le cut some st
row_found steps old new fresh t tree stands (behind_seal leads dir at only is) = sealed_found steps t tree dir at only
row_found steps old new fresh t tree stands (all_undone leads dir at only is) = undone_found steps t tree dir at only
