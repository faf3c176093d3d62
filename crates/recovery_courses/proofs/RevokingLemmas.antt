-- On `back-0` nothing bars the journal's last name, and the fresh entries are removed.
use Rattle.std.proofs.Common.{◌≡◌, ◌≢◌, ℕ, ◌+◌, ◌≤◌, ◌<◌, ◌^◌, Bool, true, false, List, [], ◌∷◌, ◌++◌, length, refl, sym, ◌∙◌, ap, subst, arith, Option, Some, None, is_some, IsTrue}
use Rattle.std.proofs.lemmas.Bool.{cond-false}
use Rattle.std.specs.FinMap.{get}
use Rattle.std.specs.List.{AllByRecursion, list_any}
use Rattle.commit_states.proofs.BackLemmas.{Returning}
use Rattle.commit_states.proofs.FreshLemmas.{fresh_for, length-fresh_for}
use Rattle.commit_states.proofs.ReadLemmas.{no_dir_node}
use Rattle.commit_states.proofs.ReturnLemmas.{old_again, safe_end}
use Rattle.commit_states.proofs.SealLemmas.{start_only}
use Rattle.commit_states.proofs.StandLemmas.{shown_bare}
use Rattle.commit_states.specs.Calls.{CleansItems, end_calls, fresh_items, last_of, removals_of, revoke_calls}
use Rattle.commit_states.specs.Interrupted.{IsInterruptedBy}
use Rattle.commit_steps.specs.declared.step.Step.{Step}
use Rattle.commit_steps.specs.Staging.{staging, staged, fresh_name, back_marker, plan, undone}
use Rattle.recovery_courses.proofs.CourseLemmas.{Goes, goes_these}
use Rattle.recovery_courses.proofs.EntryLemmas.{not_entry_name}
use Rattle.recovery_courses.proofs.FreshLemmas.{fresh_below, fresh_entry, fresh_stand, read_are}
use Rattle.recovery_courses.proofs.NumberLemmas.{held_not_fresh, temporary_not_fresh, none_of_any}
use Rattle.recovery_courses.specs.Course.{these, strange_at}
use Rattle.recovery_courses.specs.Ends.{spelled, name_of, stands_in, is_dir_in, bars_revoke, fresh_in, revoking}
use Rattle.recovery_courses.specs.Laws.{ComeInOrder, IsAmong}
use Rattle.staging_names.specs.declared.entry_name.EntryName.{EntryName}
use Rattle.staging_names.specs.declared.entry_name.Role.{Role}
use Rattle.staging_names.specs.declared.entry_name.Role.TheVariants.{Fresh, Held as PutAside, Temporary}
use Rattle.step_trees.proofs.LeadLemmas.{Led}
use Rattle.step_trees.proofs.NameLemmas.{differ, i-plan, i-back, own-back, own-plan}
use Rattle.step_trees.specs.Entries.{IsFresh}
use Rattle.step_trees.specs.Leads.{start}
use Rattle.tree_core.specs.declared.node.Change.{Change}
use Rattle.tree_core.specs.declared.node.Change.TheVariants as call
use Rattle.tree_core.specs.declared.node.Node.{Node}
use Rattle.tree_core.specs.FileTree.{FileTree, IsAbsent, IsTree, is_dir_node}
use Rattle.tree_core.specs.History.{History, IsDurable, current_tree}

-- ---- a tree T that shows the entries of a tree A, where only fresh ones stand

module _ (T A : FileTree) (only : (name : List ℕ) (node : Node) → get A (staged name) ≡ Some node → IsFresh name node)
    (shown : (e : EntryName) → get T (staged (name_of e)) ≡ get A (staged (name_of e))) where
  none_stands : (e : EntryName) → ((k : ℕ) → name_of e ≢ fresh_name k) → stands_in T e ≡ false
  none_stands e other = by_node (get A (staged (name_of e))) refl
    where
      by_node : (o : Option Node) → get A (staged (name_of e)) ≡ o → stands_in T e ≡ false
      by_node None is = ap is_some (shown e) ∙ ap is_some is
      by_node (Some node) is = let f = only (name_of e) node is in absurd (other f.number f.named)

  no_dir : (e : EntryName) → is_dir_in T e ≡ false
  no_dir e = by_node (get A (staged (name_of e))) refl
    where
      by_kind : (node : Node) (b : Bool) → is_dir_node (Some node) ≡ b → IsFresh (name_of e) node → is_dir_node (Some node) ≡ false
      by_kind node false is f = is
      by_kind node true is f = absurd (no_dir_node node f.kind is)

      by_node : (o : Option Node) → get A (staged (name_of e)) ≡ o → is_dir_in T e ≡ false
      by_node None is = ap is_dir_node (shown e) ∙ ap is_dir_node is
      by_node (Some node) is = ap is_dir_node (shown e) ∙ ap is_dir_node is ∙ by_kind node (is_dir_node (Some node)) refl (only (name_of e) node is)

  no_bar : (e : EntryName) → bars_revoke T e e.role ≡ false
  no_bar e = by_role e.role refl
    where
      by_role : (r : Role) → e.role ≡ r → bars_revoke T e r ≡ false
      by_role Fresh is = no_dir e
      by_role PutAside is = none_stands e (λ k same. held_not_fresh e.number k (sym (ap (λ r. spelled r e.number) is) ∙ same))
      by_role Temporary is = none_stands e (λ k same. temporary_not_fresh e.number k (sym (ap (λ r. spelled r e.number) is) ∙ same))

-- ---- on `back-0`

module _ (Text : List ℕ → Type 0) (steps : List Step) (old new : FileTree) (fresh : List Node) (leads : Led steps old new fresh) (few : length steps < 2 ^ 32) (tree : IsTree old) (absent : IsAbsent old staging)
    (few_fresh : length fresh ≤ 2 ^ 32) (cleans : CleansItems (fresh_items 0 (fresh_for fresh)) (start old fresh)) (o : History)
    (es : List EntryName) (small : AllByRecursion (λ (f : EntryName). f.number < 2 ^ 32) es) (order : ComeInOrder es)
    (all : (e : EntryName) → e.number < 2 ^ 32 → IsTrue (stands_in (start old fresh) e) → IsAmong e es)
    (h : History) (r : Returning Text steps old new fresh o h 0) where
  abbrev A : FileTree
  A = start old fresh

  abbrev t : FileTree
  t = current_tree h

  plan_other : plan ≢ back_marker 0
  plan_other = differ plan (back_marker 0) 112 98 i-plan (i-back 0) refl

  shown : (e : EntryName) → get t (staged (name_of e)) ≡ get A (staged (name_of e))
  shown e = shown_bare Text steps old new fresh leads (back_marker 0) (own-back 0) plan_other 0 t r.sound.tree r.stands (name_of e) []
      (λ same. not_entry_name (back_marker 0) (own-back 0) e (sym same)) (λ same. not_entry_name plan own-plan e (sym same))

  only : (name : List ℕ) (node : Node) → get A (staged name) ≡ Some node → IsFresh name node
  only = start_only Text steps old new fresh leads tree absent

  none_bars : list_any (λ (e : EntryName). bars_revoke t e e.role) es ≡ false
  none_bars = none_of_any (λ (e : EntryName). bars_revoke t e e.role) es (λ e. no_bar t A only shown e)

  stand : (j : ℕ) → j < length fresh → stands_in t (fresh_entry j) ≡ true
  stand j lt = ap is_some (shown (fresh_entry j)) ∙ fresh_stand old fresh j lt

  below : (e : EntryName) → e.number < 2 ^ 32 → e.role ≡ Fresh → stands_in t e ≡ true → e.number < length fresh
  below e low role stands =
      let named : name_of e ≡ fresh_name e.number = ap (λ r. spelled r e.number) role in
      fresh_below old fresh tree absent few_fresh e.number low (subst (λ n. IsTrue (is_some (get A (staged n)))) named (sym (ap is_some (shown e)) ∙ stands))

  from_first : (es : List EntryName) → AllByRecursion (λ (e : EntryName). e.role ≡ Fresh → 0 ≤ e.number) es
  from_first [] = tt
  from_first (e ∷ es) = ((λ role. omega arith), from_first es)

  items_are : fresh_in t es ≡ fresh_items 0 (fresh_for fresh)
  items_are =
      let count = length-fresh_for fresh in
      read_are t (length fresh) stand below es 0 (fresh_for fresh) (omega arith) order small
      (λ j low high. all (fresh_entry j) (omega arith) (fresh_stand old fresh j high)) (from_first es)

  abbrev pub Again : History → Type 0
  Again x = (current_tree x ≡ old) × IsDurable x

  pub revoke_goes : Goes o (IsInterruptedBy Text steps old new fresh) Again h (revoking es h)
  revoke_goes =
      let calls : List Change = revoke_calls ++ ((removals_of (fresh_in t es) (back_marker 0) ++ call.Sync ∷ []) ++ (last_of undone ++ call.Sync ∷ [])) in
      let is : revoking es h ≡ these calls = cond-false (list_any (λ (e : EntryName). bars_revoke t e e.role) es) (strange_at 0) (these calls) none_bars in
      let same : calls ≡ end_calls (fresh_for fresh) = ap (λ xs. revoke_calls ++ ((removals_of xs (back_marker 0) ++ call.Sync ∷ []) ++ (last_of undone ++ call.Sync ∷ []))) items_are in
      subst (Goes o (IsInterruptedBy Text steps old new fresh) Again h) (sym (is ∙ ap these same))
      (goes_these o (IsInterruptedBy Text steps old new fresh) Again h (end_calls (fresh_for fresh)) (safe_end Text steps old new fresh leads few tree absent (fresh_for fresh) cleans o h r) (old_again Text steps old new fresh leads few tree absent (fresh_for fresh) cleans o h r))
