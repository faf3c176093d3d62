-- The rows of the table exclude one another.
use Rattle.std.proofs.Common.{◌≡◌, ◌≢◌, ◌⊎◌, inl, inr, ⊎_elim, ℕ, zero, suc, ◌+◌, ◌≤◌, ◌<◌, ◌^◌, ◌==◌, Bool, true, false, List, [], ◌∷◌, length, take, refl, sym, ◌∙◌, ap, subst, arith, Option, Some, None, is_some, IsTrue}
use Rattle.std.proofs.lemmas.Bool.{cases_Bool, eqb-true, eq-eqb}
use Rattle.std.specs.FinMap.{get}
use Rattle.dired_text.specs.Paths.{Names}
use Rattle.tree_core.specs.declared.node.Node.{Node}
use Rattle.tree_core.specs.declared.node.Node.TheVariants.{File}
use Rattle.tree_core.specs.FileTree.{FileTree, IsTree, IsAbsent, IsFile, is_dir_node, is_file_node}
use Rattle.tree_core.proofs.TreeLemmas.{absent_below}
use Rattle.commit_steps.specs.declared.step.Step.{Step}
use Rattle.commit_steps.specs.Staging.{staging, staged, plan, sealed, undone, new_journal, at_marker, back_marker}
use Rattle.commit_journal.specs.Grammar.{IsJournalOf}
use Rattle.commit_journal.proofs.LawLemmas.{one_list}
use Rattle.step_trees.specs.Entries.{IsHeld, IsFresh, HoldsOnly}
use Rattle.step_trees.specs.Steps.{after}
use Rattle.step_trees.specs.Groups.{groups, to_next_cut, from_last_cut, ComesBySome}
use Rattle.step_trees.specs.Leads.{start, Leads}
use Rattle.step_trees.proofs.NameLemmas.{IsOwn, own-plan, own-sealed, own-undone, own-at, own-back, not_held, not_fresh, differ, i-plan, i-sealed, i-undone, i-new, i-at, i-back, at_injects, back_injects}
use Rattle.step_trees.proofs.LeadLemmas.{Led, led, Based, entries_at, based_at}
use Rattle.step_trees.proofs.GroupLemmas.{Free}
use Rattle.step_trees.proofs.PlaceLemmas.{cut_at, from_last_cut-zero}
use Rattle.step_trees.proofs.LawLemmas.{free_at}
use Rattle.commit_states.specs.Interrupted.{IsOne, JournalAt, StandsAs, AreJournals, IsInterruptedBy, nothing_staged, no_journal, forward, back, behind_seal, all_undone}
use Rattle.commit_states.specs.Phases.{Phase, Unstaged, Filling, Forward, Back, Sealed, Undone, phase_of, HasJournal}
use Rattle.commit_states.proofs.StandLemmas.{staging_as, absent_as}
use Rattle.commit_states.proofs.WithinLemmas.{based_comes}

-- ---- what stands, by the row

-- the phase that what stands tells; `p` is the one where `plan` stands
abbrev told : Bool → Bool → Bool → Bool → Phase → Phase
told false b c d p = Unstaged
told true true c d p = p
told true false true d p = Sealed
told true false false true p = Undone
told true false false false p = Filling

record Shows (t : FileTree) (a b c d : Bool) : Type 0 where
  pub dir : is_some (get t staging) ≡ a
  pub planned : is_some (get t (staged plan)) ≡ b
  pub closed : is_some (get t (staged sealed)) ≡ c
  pub back_again : is_some (get t (staged undone)) ≡ d

dir_some : (o : Option Node) → IsTrue (is_dir_node o) → is_some o ≡ true
dir_some None d = cc
dir_some (Some node) d = refl

-- what none of the allowed names is
absent_by : (t : FileTree) (Q : List ℕ → Node → Type 0) (x : List ℕ) → HoldsOnly t Q → ((node : Node) → Q x node → ⊥) → is_some (get t (staged x)) ≡ false
absent_by t Q x only none = by_node (get t (staged x)) refl
  where
    by_node : (o : Option Node) → get t (staged x) ≡ o → is_some (get t (staged x)) ≡ false
    by_node None e = ap is_some e
    by_node (Some node) e = absurd (none node (only x node e))

pub plan_sealed : plan ≢ sealed
plan_sealed = differ plan sealed 112 100 i-plan i-sealed refl

plan_undone : plan ≢ undone
plan_undone = differ plan undone 112 117 i-plan i-undone refl

sealed_undone : sealed ≢ undone
sealed_undone = differ sealed undone 100 117 i-sealed i-undone refl

pub plan_at : (m : ℕ) → plan ≢ at_marker m
plan_at m = differ plan (at_marker m) 112 97 i-plan (i-at m) refl

plan_back : (m : ℕ) → plan ≢ back_marker m
plan_back m = differ plan (back_marker m) 112 98 i-plan (i-back m) refl

pub sealed_at : (m : ℕ) → sealed ≢ at_marker m
sealed_at m = differ sealed (at_marker m) 100 97 i-sealed (i-at m) refl

sealed_back : (m : ℕ) → sealed ≢ back_marker m
sealed_back m = differ sealed (back_marker m) 100 98 i-sealed (i-back m) refl

undone_at : (m : ℕ) → undone ≢ at_marker m
undone_at m = differ undone (at_marker m) 117 97 i-undone (i-at m) refl

undone_back : (m : ℕ) → undone ≢ back_marker m
undone_back m = differ undone (back_marker m) 117 98 i-undone (i-back m) refl

-- ---- where `plan` stands

-- a marker stands, and nothing else of the commit's own but `plan`
record Planned (t : FileTree) (p : Phase) : Type 0 where
  pub marker : List ℕ
  pub stands : IsFile t (staged marker)
  pub others : (name : List ℕ) → IsOwn name → name ≢ marker → name ≢ plan → IsAbsent t (staged name)
  pub kind : ((m : ℕ) × (m < 2 ^ 32) × (marker ≡ at_marker m) × (p ≡ Forward m)) ⊎ ((m : ℕ) × (m < 2 ^ 32) × (marker ≡ back_marker m) × (p ≡ Back m))

no_file : (t : FileTree) (p : Names) → IsAbsent t p → IsFile t p → ⊥
no_file t p absent file = let no : is_file_node None ≡ true = ap is_file_node (sym absent) ∙ file in cc

one_kind : (t : FileTree) (p q : Phase) → Planned t p → Planned t q → p ≡ q
one_kind t p q a b = ⊎_elim
    (λ x. ⊎_elim
    (λ y. x.3 ∙ ap (λ n. Forward n) (same_at x.0 y.0 x.1 y.1 x.2 y.2) ∙ sym y.3)
    (λ y. absurd (apart (differ (back_marker y.0) (at_marker x.0) 98 97 (i-back y.0) (i-at x.0) refl) (own-back y.0) (λ e. plan_back y.0 (sym e)) x.2 y.2))
    b.kind)
    (λ x. ⊎_elim
    (λ y. absurd (apart (differ (at_marker y.0) (back_marker x.0) 97 98 (i-at y.0) (i-back x.0) refl) (own-at y.0) (λ e. plan_at y.0 (sym e)) x.2 y.2))
    (λ y. x.3 ∙ ap (λ n. Back n) (same_back x.0 y.0 x.1 y.1 x.2 y.2) ∙ sym y.3)
    b.kind)
    a.kind
  where
    -- another marker beside the one
    apart : {one other : List ℕ} → other ≢ one → IsOwn other → other ≢ plan → a.marker ≡ one → b.marker ≡ other → ⊥
    apart {one} {other} differs own no_plan is also =
        no_file t (staged other) (a.others other own (λ e. differs (e ∙ is)) no_plan) (subst (λ x. IsFile t (staged x)) also b.stands)

    same_at : (m n : ℕ) → m < 2 ^ 32 → n < 2 ^ 32 → a.marker ≡ at_marker m → b.marker ≡ at_marker n → m ≡ n
    same_at m n lm ln is also = ⊎_elim (λ e. eqb-true m n e)
        (λ no. absurd (apart (λ (e : at_marker n ≡ at_marker m). let same : n ≡ m = at_injects n m (omega arith) (omega arith) e in let yes : (m == n) ≡ true = eq-eqb m n (sym same) in cc) (own-at n) (λ e. plan_at n (sym e)) is also))
        (cases_Bool (m == n))

    same_back : (m n : ℕ) → m < 2 ^ 32 → n < 2 ^ 32 → a.marker ≡ back_marker m → b.marker ≡ back_marker n → m ≡ n
    same_back m n lm ln is also = ⊎_elim (λ e. eqb-true m n e)
        (λ no. absurd (apart (λ (e : back_marker n ≡ back_marker m). let same : n ≡ m = back_injects n m (omega arith) (omega arith) e in let yes : (m == n) ≡ true = eq-eqb m n (sym same) in cc) (own-back n) (λ e. plan_back n (sym e)) is also))
        (cases_Bool (m == n))

-- the journal of a phase
abbrev journal_name : Phase → List ℕ
journal_name Unstaged = new_journal
journal_name Filling = new_journal
journal_name (Forward m) = plan
journal_name (Back m) = plan
journal_name Sealed = sealed
journal_name Undone = undone

module _ (t : FileTree) (tree : IsTree t) (Text : List ℕ → Type 0) (steps : List Step) (are : AreJournals Text steps) (old new : FileTree) (fresh : List Node) where
  pub led_by : Leads steps old new fresh → (marker : List ℕ) (u : FileTree) → StandsAs Text marker u t → Led steps old new fresh
  led_by leads marker u s = led steps old new fresh leads (are s.journal.bytes s.journal.spelled).journal.journal.spelled.paths

  pub based_forward : Led steps old new fresh → (m : ℕ) (u : FileTree) → m ≤ length steps → ComesBySome (to_next_cut m (groups steps)) (after (take m steps) (start old fresh)) u → Based u
  based_forward l m u le some = based_comes (to_next_cut m (groups steps)) (after (take m steps) (start old fresh)) u (entries_at steps old new fresh l m).tree (free_at steps old new fresh l m le) (based_at steps old new fresh l m) some

  free_back : Led steps old new fresh → (k m : ℕ) → m ≤ length steps → m ≡ k + length (from_last_cut m (groups steps)) → Free (from_last_cut m (groups steps)) (after (take k steps) (start old fresh))
  free_back l k zero le cut = subst (λ g. Free g (after (take k steps) (start old fresh))) (sym (from_last_cut-zero (groups steps))) tt
  free_back l k (suc m) le cut = (cut_at steps old new fresh l k (suc m) (omega arith) le cut).back.free

  based_back : Led steps old new fresh → (k m : ℕ) (u : FileTree) → m ≤ length steps → m ≡ k + length (from_last_cut m (groups steps)) → ComesBySome (from_last_cut m (groups steps)) (after (take k steps) (start old fresh)) u → Based u
  based_back l k m u le cut some = based_comes (from_last_cut m (groups steps)) (after (take k steps) (start old fresh)) u (entries_at steps old new fresh l k).tree (free_back l k m le cut) (based_at steps old new fresh l k) some

  shows_plan : (marker : List ℕ) (u : FileTree) → Based u → IsOwn marker → plan ≢ marker → sealed ≢ marker → undone ≢ marker → StandsAs Text marker u t → Shows t true true false false
  shows_plan marker u based own no_plan no_sealed no_undone s = record {
    dir = dir_some (get t staging) (staging_as Text u based marker own no_plan t tree s);
    planned = ap is_some s.journal.stands;
    closed = ap is_some (absent_as Text u based marker own no_plan t tree s sealed own-sealed no_sealed (λ e. plan_sealed (sym e)));
    back_again = ap is_some (absent_as Text u based marker own no_plan t tree s undone own-undone no_undone (λ e. plan_undone (sym e)));
  }

  early_no : (x : List ℕ) → IsOwn x → x ≢ new_journal → x ≢ at_marker 0 → (node : Node) → IsOne new_journal x node ⊎ (IsOne (at_marker 0) x node ⊎ IsFresh x node) → ⊥
  early_no x own no_new no_at node which = ⊎_elim (λ o. no_new o.named) (λ more. ⊎_elim (λ o. no_at o.named) (λ f. not_fresh x f.number own f.named) more) which

  held_no : (x : List ℕ) → IsOwn x → x ≢ sealed → x ≢ at_marker (length steps) → (node : Node) → (x ≡ sealed) ⊎ (IsHeld t x node ⊎ IsOne (at_marker (length steps)) x node) → ⊥
  held_no x own no_sealed no_at node which = ⊎_elim (λ e. no_sealed e) (λ more. ⊎_elim (λ h. not_held x h.number own h.named) (λ o. no_at o.named) more) which

  fresh_no : (x : List ℕ) → IsOwn x → x ≢ undone → x ≢ back_marker 0 → (node : Node) → (x ≡ undone) ⊎ (IsFresh x node ⊎ IsOne (back_marker 0) x node) → ⊥
  fresh_no x own no_undone no_back node which = ⊎_elim (λ e. no_undone e) (λ more. ⊎_elim (λ f. not_fresh x f.number own f.named) (λ o. no_back o.named) more) which

  told_by : (a b c d : Bool) (p : Phase) → Shows t a b c d → told a b c d p ≡ told (is_some (get t staging)) (is_some (get t (staged plan))) (is_some (get t (staged sealed))) (is_some (get t (staged undone))) p
  told_by a b c d p s =
      ap (λ x. told x b c d p) (sym s.dir) ∙ ap (λ x. told (is_some (get t staging)) x c d p) (sym s.planned)
      ∙ ap (λ x. told (is_some (get t staging)) (is_some (get t (staged plan))) x d p) (sym s.closed)
      ∙ ap (λ x. told (is_some (get t staging)) (is_some (get t (staged plan))) (is_some (get t (staged sealed))) x p) (sym s.back_again)

  shows_none : IsAbsent t staging → Shows t false false false false
  shows_none none = record {
    dir = ap is_some none;
    planned = ap is_some (absent_below t tree staging none (plan ∷ []));
    closed = ap is_some (absent_below t tree staging none (sealed ∷ []));
    back_again = ap is_some (absent_below t tree staging none (undone ∷ []));
  }

  -- what stands tells the phase
  phase_is : (r : IsInterruptedBy Text steps old new fresh t) → phase_of r ≡ told (is_some (get t staging)) (is_some (get t (staged plan))) (is_some (get t (staged sealed))) (is_some (get t (staged undone))) (phase_of r)
  phase_is (nothing_staged none which) = told_by false false false false Unstaged (shows_none none)
  phase_is (no_journal dir only which) = told_by true false false false Filling record {
    dir = dir_some (get t staging) dir;
    planned = absent_by t _ plan only (early_no plan own-plan (differ plan new_journal 112 110 i-plan i-new refl) (plan_at 0));
    closed = absent_by t _ sealed only (early_no sealed own-sealed (differ sealed new_journal 100 110 i-sealed i-new refl) (sealed_at 0));
    back_again = absent_by t _ undone only (early_no undone own-undone (differ undone new_journal 117 110 i-undone i-new refl) (undone_at 0));
  }
  phase_is (forward leads m u le some s) = told_by true true false false (Forward m)
      (shows_plan (at_marker m) u (based_forward (led_by leads (at_marker m) u s) m u le some) (own-at m) (plan_at m) (sealed_at m) (undone_at m) s)
  phase_is (back leads k m u le cut some s) = told_by true true false false (Back m)
      (shows_plan (back_marker m) u (based_back (led_by leads (back_marker m) u s) k m u le cut some) (own-back m) (plan_back m) (sealed_back m) (undone_back m) s)
  phase_is (behind_seal leads dir journal only is) = told_by true false true false Sealed record {
    dir = dir_some (get t staging) dir;
    planned = absent_by t _ plan only (held_no plan own-plan plan_sealed (plan_at (length steps)));
    closed = ap is_some journal.stands;
    back_again = absent_by t _ undone only (held_no undone own-undone (λ e. sealed_undone (sym e)) (undone_at (length steps)));
  }
  phase_is (all_undone leads dir journal only is) = told_by true false false true Undone record {
    dir = dir_some (get t staging) dir;
    planned = absent_by t _ plan only (fresh_no plan own-plan plan_undone (plan_back 0));
    closed = absent_by t _ sealed only (fresh_no sealed own-sealed sealed_undone (sealed_back 0));
    back_again = ap is_some journal.stands;
  }

  no_plan_shown : {a b c d : Bool} {X : Type 0} → Shows t a b c d → b ≡ false → is_some (get t (staged plan)) ≡ true → X
  no_plan_shown s left_out stands = let e : true ≡ false = sym stands ∙ s.planned ∙ left_out in cc

  planned_of : (r : IsInterruptedBy Text steps old new fresh t) → is_some (get t (staged plan)) ≡ true → Planned t (phase_of r)
  planned_of (nothing_staged none which) stands = no_plan_shown (shows_none none) refl stands
  planned_of (no_journal dir only which) stands = absurd (let e : true ≡ false = sym stands ∙ absent_by t _ plan only (early_no plan own-plan (differ plan new_journal 112 110 i-plan i-new refl) (plan_at 0)) in cc)
  planned_of (forward leads m u le some s) stands =
      let l = led_by leads (at_marker m) u s in
      let few = (are s.journal.bytes s.journal.spelled).journal.journal.few in
      record {
        marker = at_marker m;
        stands = s.marked;
        others = absent_as Text u (based_forward l m u le some) (at_marker m) (own-at m) (plan_at m) t tree s;
        kind = inl (m, omega arith, refl, refl);
      }
  planned_of (back leads k m u le cut some s) stands =
      let l = led_by leads (back_marker m) u s in
      let few = (are s.journal.bytes s.journal.spelled).journal.journal.few in
      record {
        marker = back_marker m;
        stands = s.marked;
        others = absent_as Text u (based_back l k m u le cut some) (back_marker m) (own-back m) (plan_back m) t tree s;
        kind = inr (m, omega arith, refl, refl);
      }
  planned_of (behind_seal leads dir journal only is) stands = absurd (let e : true ≡ false = sym stands ∙ absent_by t _ plan only (held_no plan own-plan plan_sealed (plan_at (length steps))) in cc)
  planned_of (all_undone leads dir journal only is) stands = absurd (let e : true ≡ false = sym stands ∙ absent_by t _ plan only (fresh_no plan own-plan plan_undone (plan_back 0)) in cc)

  journal_of : (r : IsInterruptedBy Text steps old new fresh t) → HasJournal (phase_of r) → JournalAt Text t (journal_name (phase_of r))
  journal_of (nothing_staged none which) has = absurd has
  journal_of (no_journal dir only which) has = absurd has
  journal_of (forward leads m u le some s) has = s.journal
  journal_of (back leads k m u le cut some s) has = s.journal
  journal_of (behind_seal leads dir journal only is) has = journal
  journal_of (all_undone leads dir journal only is) has = journal

-- where `plan` doesn't stand
told_without : (a c d : Bool) (p q : Phase) → told a false c d p ≡ told a false c d q
told_without false c d p q = refl
told_without true true d p q = refl
told_without true false true p q = refl
told_without true false false p q = refl

module _ (t : FileTree) (tree : IsTree t) (Text Other : List ℕ → Type 0) (steps also : List Step) (are : AreJournals Text steps) (are_also : AreJournals Other also) (old new before edited : FileTree) (fresh other : List Node)
    (r : IsInterruptedBy Text steps old new fresh t) (s : IsInterruptedBy Other also before edited other t) where
  abbrev a : Bool
  a = is_some (get t staging)

  abbrev b : Bool
  b = is_some (get t (staged plan))

  abbrev c : Bool
  c = is_some (get t (staged sealed))

  abbrev d : Bool
  d = is_some (get t (staged undone))

  pub one_phase : phase_of r ≡ phase_of s
  one_phase = ⊎_elim
      (λ stands. one_kind t (phase_of r) (phase_of s) (planned_of t tree Text steps are old new fresh r stands) (planned_of t tree Other also are_also before edited other s stands))
      (λ none.
      phase_is t tree Text steps are old new fresh r ∙ ap (λ x. told a x c d (phase_of r)) none ∙ told_without a c d (phase_of r) (phase_of s) ∙ sym (ap (λ x. told a x c d (phase_of s)) none) ∙ sym (phase_is t tree Other also are_also before edited other s))
      (cases_Bool b)

  pub one_journal : HasJournal (phase_of r) → steps ≡ also
  one_journal has =
      let mine = journal_of t tree Text steps are old new fresh r has in
      let theirs = journal_of t tree Other also are_also before edited other s (subst HasJournal one_phase has) in
      let same : get t (staged (journal_name (phase_of r))) ≡ Some (File theirs.number theirs.bytes theirs.mode) = ap (λ p. get t (staged (journal_name p))) one_phase ∙ theirs.stands in
      let bytes : mine.bytes ≡ theirs.bytes = cc in
      let mine_is = (are mine.bytes mine.spelled).journal in
      let theirs_is = (are_also theirs.bytes theirs.spelled).journal in
      one_list mine_is.version theirs_is.version steps also mine.bytes mine_is.journal
      (subst (λ x. IsJournalOf theirs_is.version also x) (sym bytes) theirs_is.journal)
