-- The staging of a commit.
use Rattle.std.proofs.Common.{⊎_elim, ◌≡◌, ◌≢◌, ◌⊎◌, inl, inr, ℕ, ◌+◌, ◌≤◌, ◌<◌, ◌^◌, true, false, List, [], ◌∷◌, ◌++◌, length, refl, sym, ◌∙◌, ap, subst, arith, Option, Some, None, is_some}
use Rattle.std.proofs.lemmas.Option.{none-some, same_Some}
use Rattle.std.specs.FinMap.{get, insert}
use Rattle.dired_text.specs.Paths.{Names, rest_below}
use Rattle.dired_text.proofs.PathLemmas.{rest_below-same, rest_below-append}
use Rattle.tree_core.specs.declared.node.Node.{Node}
use Rattle.tree_core.specs.declared.node.Node.TheVariants.{Dir, Link, File}
use Rattle.tree_core.specs.declared.changes.Fresh.{Fresh}
use Rattle.tree_core.specs.declared.changes.Fresh.TheVariants as fresh
use Rattle.tree_core.specs.declared.node.Change.{Change}
use Rattle.tree_core.specs.declared.node.Change.TheVariants as call
use Rattle.tree_core.specs.FileTree.{FileTree, IsTree, IsAbsent, IsDir, IsFile, CanDo, CanMake, CanRename, done, insert_same, renamed, is_dir_node, is_file_node}
use Rattle.tree_core.specs.History.{History, Then, IsSound, current_tree, next_number, is_sync, IsDurable, LeavesOnly}
use Rattle.tree_core.specs.Runs.{then_all, FailedIn}
use Rattle.tree_core.proofs.TreeLemmas.{absent_below}
use Rattle.tree_core.proofs.Sound.{get-inserted, get-inserted_other, by_place}
use Rattle.tree_core.proofs.Moments.{durable-sync, pending-sync, Keeps, Pending, pending-durable, started-durable, goes_on-sync}
use Rattle.tree_core.proofs.Runs.{IsSafe, IsClosed, closed_failed, safe_failed, closed_append, closed_synced, closed_pending, closed_can, safe_append, safe_all, sound_all, single_synced, then_all-append}
use Rattle.commit_states.proofs.LoopLemmas.{Ready, forward_at}
use Rattle.commit_states.specs.Calls.{fresh_call, fresh_calls, node_or, fresh_node, fresh_nodes, number_behind, IsLawfulFresh, AreLawfulFresh, early_items, stage_calls, plan_calls}
use Rattle.commit_states.specs.Reads.{IsAllNamed}
use Rattle.commit_states.proofs.EarlyLemmas.{none_named, early_named, early_failed}
use Rattle.commit_states.specs.Interrupted.{bare, JournalAt, StandsAs, StandsAfter, IsInterruptedBy, nothing_staged, no_journal}
use Rattle.commit_steps.specs.Staging.{staging, staged, plan, sealed, undone, new_journal, at_marker, fresh_name}
use Rattle.commit_steps.specs.declared.step.Step.{Step}
use Rattle.step_trees.proofs.NameLemmas.{apart_staged, differ, i-plan, i-at, i-new, i-fresh, fresh_injects}
use Rattle.step_trees.proofs.Without.{without-stood, without-comm, without-nothing, without-insert_in, without-insert_out, renamed-out, renamed-to, without-moved, IsClear}
use Rattle.step_trees.specs.Entries.{without, rest, IsFileOrLink}
use Rattle.step_trees.specs.Leads.{start, with_fresh}
use Rattle.step_trees.proofs.LeadLemmas.{Led}
use Rattle.commit_states.proofs.OwnNames.{staging_names, at_names, fresh_names, new_names, plan_names}
use Rattle.tree_core.specs.declared.node.CallName.{CallName}
use Rattle.step_trees.specs.Groups.{groups, to_next_cut}
use Rattle.step_trees.proofs.ChoiceLemmas.{none_done}
use Rattle.commit_states.specs.Stops.{IsEarly, Filling, IsStaging, Unplanned, Halted}
use Rattle.commit_states.proofs.HaltLemmas.{split_failed}
use Rattle.tree_core.specs.declared.node.CallName.TheVariants as name
use Rattle.commit_states.specs.Places.{HasNoJournal}
use Rattle.commit_states.proofs.PlaceLemmas.{closed_before}
use Rattle.commit_states.proofs.StandLemmas.{staging_stands}
use Rattle.step_trees.proofs.NameLemmas.{IsOwn, own-plan, own-sealed, own-undone, own-at, i-sealed, i-undone, not_fresh}

pub staging_row : (Text : List ℕ → Type 0) (steps : List Step) (old new : FileTree) (nodes : List Node) (t : FileTree) → IsStaging old t → IsInterruptedBy Text steps old new nodes t
staging_row Text steps old new nodes t (inl none) = nothing_staged none.0 (inl none.1)
staging_row Text steps old new nodes t (inr f) = no_journal f.dir f.only (inl f.is)

absent_dir : (t : FileTree) (p : Names) → IsAbsent t p → IsDir t p → ⊥
absent_dir t p absent dir = let no : is_dir_node None ≡ true = ap is_dir_node (sym absent) ∙ dir in cc

staged_in : (name : List ℕ) → rest_below staging (staged name) ≡ Some (name ∷ [])
staged_in name = rest_below-append staging (name ∷ [])

-- ---- what keeps it

module _ (old : FileTree) where
  keeps_dir : (n : ℕ) → Keeps (IsStaging old) (call.MakeDir staging 0o700) n
  keeps_dir n u c sound (inl none) applied = inr (subst (Filling old) (sym applied.is) record {
    dir = ap is_dir_node (get-inserted u staging (Dir 0o700));
    only = λ name node e. absurd (none-some node (sym (get-inserted_other u staging (Dir 0o700) (staged name) (λ same. let k : staged name ≡ staging = same in cc) ∙ absent_below u sound.tree staging none.0 (name ∷ [])) ∙ e));
    is = without-insert_in staging u staging [] (Dir 0o700) (rest_below-same staging) ∙ without-nothing staging u (absent_below u sound.tree staging none.0) ∙ none.1;
  })
  keeps_dir n u c sound (inr f) applied = absurd (absent_dir u staging applied.can.0.absent f.dir)

  -- a new name in it
  added : (u : FileTree) (name : List ℕ) (node : Node) → IsEarly name node → Filling old u → Filling old (insert u (staged name) node)
  added u name node allowed f = record {
    dir = ap is_dir_node (get-inserted_other u (staged name) node staging (λ same. let k : staging ≡ staged name = same in cc)) ∙ f.dir;
    only = λ x n. by_place u (staged name) node (staged x) (λ o. o ≡ Some n → IsEarly x n)
        (λ same e. let named : name ≡ x = cc in subst (λ y. IsEarly y n) named (subst (IsEarly name) (same_Some node n e) allowed)) (λ other e. f.only x n e);
    is = without-insert_in staging u (staged name) (name ∷ []) node (staged_in name) ∙ f.is;
  }

  keeps_added : (u c : FileTree) (name : List ℕ) (node : Node) → CanMake u (staged name) → IsEarly name node → IsStaging old u → c ≡ insert u (staged name) node → IsStaging old c
  keeps_added u c name node can allowed (inl none) is = absurd (absent_dir u staging none.0 can.parent_is_dir)
  keeps_added u c name node can allowed (inr f) is = inr (subst (Filling old) (sym is) (added u name node allowed f))

  keeps_write : (name : List ℕ) (bytes : List ℕ) (mode n : ℕ) → ((b : List ℕ) → IsEarly name (File n b mode)) → Keeps (IsStaging old) (call.WriteFile (staged name) bytes mode) n
  keeps_write name bytes mode n allowed u c sound was applied = keeps_added u c name (File n applied.bytes mode) applied.can.0 (allowed applied.bytes) was applied.is

  fresh_allowed : (k : ℕ) (node : Node) → k < 2 ^ 32 → IsFileOrLink node → IsEarly (fresh_name k) node
  fresh_allowed k node small kind = inr (inr record { number = k; small = small; named = refl; kind = kind })

  keeps_fresh : (k n : ℕ) (f : Fresh) → k < 2 ^ 32 → Keeps (IsStaging old) (fresh_call (staged (fresh_name k)) f) n
  keeps_fresh k n (fresh.Link target) small u c sound was applied = keeps_added u c (fresh_name k) (Link target) applied.can.0 (fresh_allowed k _ small tt) was applied.is
  keeps_fresh k n (fresh.File bytes mode) small u c sound was applied = keeps_write (fresh_name k) bytes mode n (λ b. fresh_allowed k (File n b mode) small tt) u c sound was applied
  keeps_fresh k n (fresh.Same p) small u c sound was applied = by_node (get u p) refl
    where
      by_node : (o : Option Node) → get u p ≡ o → IsStaging old c
      by_node None e = absurd (let no : is_file_node None ≡ true = ap is_file_node (sym e) ∙ applied.can.1 in cc)
      by_node (Some (Dir m)) e = absurd (let no : is_file_node (Some (Dir m)) ≡ true = ap is_file_node (sym e) ∙ applied.can.1 in cc)
      by_node (Some (Link target)) e = absurd (let no : is_file_node (Some (Link target)) ≡ true = ap is_file_node (sym e) ∙ applied.can.1 in cc)
      by_node (Some (File m b mode)) e = keeps_added u c (fresh_name k) (File m b mode) applied.can.0 (fresh_allowed k _ small tt) was (applied.is ∙ ap (λ o. insert_same o u (staged (fresh_name k))) e)

  -- ---- the tree that reads, on the way

  pub record Filled (t : FileTree) (k : ℕ) : Type 0 where
    pub dir : IsDir t staging
    pub is : rest t ≡ old
    pub free : (j : ℕ) → k ≤ j → j < 2 ^ 32 → IsAbsent t (staged (fresh_name j))
    pub no_new : IsAbsent t (staged new_journal)
    pub no_plan : IsAbsent t (staged plan)

  -- what stands in the old tree stands
  stood : (t : FileTree) (k : ℕ) (q : Names) (node : Node) → Filled t k → get old q ≡ Some node → get t q ≡ Some node
  stood t k q node f e = without-stood staging t q node (ap (λ u. get u q) f.is ∙ e)

  same_staged : (x y : List ℕ) → staged x ≡ staged y → x ≡ y
  same_staged x y e = cc

  filled_more : (t : FileTree) (k : ℕ) (node : Node) → k < 2 ^ 32 → Filled t k → Filled (insert t (staged (fresh_name k)) node) (k + 1)
  filled_more t k node low f = record {
    dir = ap is_dir_node (get-inserted_other t _ node staging (λ same. let e : staging ≡ staged (fresh_name k) = same in cc)) ∙ f.dir;
    is = without-insert_in staging t _ _ node (staged_in (fresh_name k)) ∙ f.is;
    free = λ j le lt. get-inserted_other t _ node (staged (fresh_name j)) (λ same. let e : j ≡ k = fresh_injects j k (omega arith) (omega arith) (same_staged _ _ same) in absurd (omega arith)) ∙ f.free j (omega arith) lt;
    no_new = get-inserted_other t _ node (staged new_journal) (λ same. differ new_journal (fresh_name k) 110 102 i-new (i-fresh k) refl (same_staged _ _ same)) ∙ f.no_new;
    no_plan = get-inserted_other t _ node (staged plan) (λ same. differ plan (fresh_name k) 112 102 i-plan (i-fresh k) refl (same_staged _ _ same)) ∙ f.no_plan;
  }

  can_make : (t : FileTree) (k : ℕ) → k < 2 ^ 32 → Filled t k → CanMake t (staged (fresh_name k))
  can_make t k low f = record { named = fresh_names k low; absent = f.free k (omega arith) low; parent_is_dir = f.dir }

  file_stood : (t : FileTree) (k : ℕ) (p : Names) → Filled t k → IsFile old p → get t p ≡ Some (node_or (get old p))
  file_stood t k p f is = by_node (get old p) refl
    where
      by_node : (o : Option Node) → get old p ≡ o → get t p ≡ Some (node_or o)
      by_node None e = absurd (let no : is_file_node None ≡ true = ap is_file_node (sym e) ∙ is in cc)
      by_node (Some node) e = stood t k p node f e

  can_fresh : (t : FileTree) (k : ℕ) (f : Fresh) → k < 2 ^ 32 → IsLawfulFresh old f → Filled t k → CanDo (fresh_call (staged (fresh_name k)) f) t
  can_fresh t k (fresh.Link target) low lawful f = (can_make t k low f, lawful.0, lawful.1)
  can_fresh t k (fresh.File bytes mode) low lawful f = (can_make t k low f, lawful)
  can_fresh t k (fresh.Same p) low lawful f = (can_make t k low f, by_node (get old p) refl)
    where
      by_node : (o : Option Node) → get old p ≡ o → IsFile t p
      by_node None e = absurd (let no : is_file_node None ≡ true = ap is_file_node (sym e) ∙ lawful in cc)
      by_node (Some node) e = ap is_file_node (stood t k p node f e ∙ sym e) ∙ lawful

  fresh_done : (t : FileTree) (n k : ℕ) (f : Fresh) → IsLawfulFresh old f → Filled t k → done (fresh_call (staged (fresh_name k)) f) n t ≡ insert t (staged (fresh_name k)) (fresh_node old n f)
  fresh_done t n k (fresh.Link target) lawful f = refl
  fresh_done t n k (fresh.File bytes mode) lawful f = refl
  fresh_done t n k (fresh.Same p) lawful f = ap (λ o. insert_same o t (staged (fresh_name k))) (file_stood t k p f lawful)

  fresh_no_sync : (p : Names) (f : Fresh) → is_sync (fresh_call p f) ≡ false
  fresh_no_sync p (fresh.Link target) = refl
  fresh_no_sync p (fresh.File bytes mode) = refl
  fresh_no_sync p (fresh.Same q) = refl

  fresh_next : (h : History) (p : Names) (f : Fresh) → next_number (Then h (fresh_call p f)) ≡ number_behind f (next_number h)
  fresh_next h p (fresh.Link target) = refl
  fresh_next h p (fresh.File bytes mode) = refl
  fresh_next h p (fresh.Same q) = refl

  pub record Entered (h : History) (k : ℕ) (fs : List Fresh) : Type 0 where
    pub closed : IsClosed (IsStaging old) h (fresh_calls k fs)
    pub filled : Filled (current_tree (then_all h (fresh_calls k fs))) (k + length fs)
    pub reads : current_tree (then_all h (fresh_calls k fs)) ≡ with_fresh k (fresh_nodes old (next_number h) fs) (current_tree h)

  pub enter : (fs : List Fresh) (h : History) (k : ℕ) → k + length fs ≤ 2 ^ 32 → AreLawfulFresh old fs → Filled (current_tree h) k → Entered h k fs
  enter [] h k few lawful f = record { closed = tt; filled = subst (Filled (current_tree h)) (omega arith) f; reads = refl }
  enter (x ∷ fs) h k few lawful f =
      let low : k < 2 ^ 32 = omega arith in
      let is = fresh_done (current_tree h) (next_number h) k x lawful.0 f in
      let more = enter fs (Then h (fresh_call (staged (fresh_name k)) x)) (k + 1) (omega arith) lawful.1 (subst (λ t. Filled t (k + 1)) (sym is) (filled_more (current_tree h) k (fresh_node old (next_number h) x) low f)) in
      record {
        closed = (fresh_no_sync (staged (fresh_name k)) x, can_fresh (current_tree h) k x low lawful.0 f, keeps_fresh k (next_number h) x low, more.closed);
        filled = subst (Filled (current_tree (then_all h (fresh_calls k (x ∷ fs))))) (omega arith) more.filled;
        reads = more.reads ∙ ap (λ n. with_fresh (k + 1) (fresh_nodes old n fs) (done (fresh_call (staged (fresh_name k)) x) (next_number h) (current_tree h))) (fresh_next h _ x)
            ∙ ap (with_fresh (k + 1) (fresh_nodes old (number_behind x (next_number h)) fs)) is;
      }

  -- a fresh entry failed
  in_fresh : (fs : List Fresh) (h : History) (k : ℕ) (last : History) (before : FileTree) (first : CallName) → k + length fs ≤ 2 ^ 32 → AreLawfulFresh old fs → Filled (current_tree h) k
      → FailedIn (fresh_calls k fs) h last before first → IsDir before staging
  in_fresh [] h k last before first few lawful f failed = absurd failed
  in_fresh (x ∷ fs) h k last before first few lawful f (inl here) = subst (λ t. IsDir t staging) (sym here.tree) f.dir
  in_fresh (x ∷ fs) h k last before first few lawful f (inr more) =
      let low : k < 2 ^ 32 = omega arith in
      let is = fresh_done (current_tree h) (next_number h) k x lawful.0 f in
      in_fresh fs (Then h (fresh_call (staged (fresh_name k)) x)) (k + 1) last before first (omega arith) lawful.1 (subst (λ t. Filled t (k + 1)) (sym is) (filled_more (current_tree h) k (fresh_node old (next_number h) x) low f)) more

  none_early : (t : FileTree) (x : List ℕ) → Filling old t → IsOwn x → x ≢ new_journal → x ≢ at_marker 0 → IsAbsent t (staged x)
  none_early t x f own no_new no_at = by_node (get t (staged x)) refl
    where
      by_node : (o : Option Node) → get t (staged x) ≡ o → IsAbsent t (staged x)
      by_node None e = e
      by_node (Some node) e = absurd (⊎_elim (λ o. no_new o.named) (λ more. ⊎_elim (λ o. no_at o.named) (λ g. not_fresh x g.number own g.named) more) (f.only x node e))

  pub unnamed : (t : FileTree) → IsDir t staging → IsStaging old t → HasNoJournal t × (rest t ≡ old)
  unnamed t dir (inl none) = absurd (absent_dir t staging none.0 dir)
  unnamed t dir (inr f) = (
    record {
      no_plan = none_early t plan f own-plan (differ plan new_journal 112 110 i-plan i-new refl) (differ plan (at_marker 0) 112 97 i-plan (i-at 0) refl);
      no_seal = none_early t sealed f own-sealed (differ sealed new_journal 100 110 i-sealed i-new refl) (differ sealed (at_marker 0) 100 97 i-sealed (i-at 0) refl);
      no_undone = none_early t undone f own-undone (differ undone new_journal 117 110 i-undone i-new refl) (differ undone (at_marker 0) 117 97 i-undone (i-at 0) refl);
    },
    f.is,
  )

pub no_journal_yet : (target t : FileTree) → IsTree t → IsStaging target t → HasNoJournal t
no_journal_yet target t tree (inl none) = record {
  no_plan = absent_below t tree staging none.0 (plan ∷ []);
  no_seal = absent_below t tree staging none.0 (sealed ∷ []);
  no_undone = absent_below t tree staging none.0 (undone ∷ []);
}
no_journal_yet target t tree (inr f) = (unnamed target t f.dir (inr f)).0

-- ---- the whole of it

fresh_other : (nodes : List Node) (k : ℕ) (t : FileTree) (x : List ℕ) → ((j : ℕ) → x ≢ fresh_name j) → get (with_fresh k nodes t) (staged x) ≡ get t (staged x)
fresh_other [] k t x other = refl
fresh_other (node ∷ nodes) k t x other = fresh_other nodes (k + 1) _ x other ∙ get-inserted_other t (staged (fresh_name k)) node (staged x) (λ same. other k (let e : x ≡ fresh_name k = cc in e))

without-fresh : (nodes : List Node) (k : ℕ) (t : FileTree) (x : List ℕ) → ((j : ℕ) → x ≢ fresh_name j) → without (staged x) (with_fresh k nodes t) ≡ with_fresh k nodes (without (staged x) t)
without-fresh [] k t x other = refl
without-fresh (node ∷ nodes) k t x other = without-fresh nodes (k + 1) _ x other ∙ ap (with_fresh (k + 1) nodes) (without-insert_out (staged x) t (staged (fresh_name k)) node (apart_staged x (fresh_name k) (other k)).0)

module _ (Text : List ℕ → Type 0) (steps : List Step) (new : FileTree) (fs : List Fresh) (journal : List ℕ) (o : History) (durable : IsDurable o) (sound : IsSound o) (absent : IsAbsent (current_tree o) staging)
    (lawful : AreLawfulFresh (current_tree o) fs) (few : length fs ≤ 2 ^ 32) (journal_is : Text journal) (leads : Led steps (current_tree o) new (fresh_nodes (current_tree o) (next_number o + 1) fs)) where
  abbrev old : FileTree
  old = current_tree o

  abbrev nodes : List Node
  nodes = fresh_nodes old (next_number o + 1) fs

  abbrev P : FileTree → Type 0
  P = IsInterruptedBy Text steps old new nodes

  abbrev Q : FileTree → Type 0
  Q = IsStaging old

  abbrev now : History
  now = Then o call.Sync

  pub first_moments : LeavesOnly o o P
  first_moments = started-durable o P durable (staging_row Text steps old new nodes old (inl (absent, refl)))

  moments : LeavesOnly o now P
  moments = goes_on-sync o o P first_moments (staging_row Text steps old new nodes old (inl (absent, refl)))

  sound_now : IsSound now
  sound_now = record { allowed = (tt, sound.allowed); tree = sound.tree; texts = sound.texts; above = sound.above }

  pending : Pending now Q
  pending = pending-durable now Q (durable-sync o) sound_now (inl (absent, refl))

  abbrev at0 : List ℕ
  at0 = at_marker 0

  abbrev front : List Change
  front = call.MakeDir staging 0o700 ∷ call.WriteFile (staged at0) [] 0o600 ∷ fresh_calls 0 fs

  can_dir : CanDo (call.MakeDir staging 0o700) old
  can_dir = (record { named = staging_names; absent = absent; parent_is_dir = sound.tree.root }, omega arith)

  abbrev made : History
  made = Then now (call.MakeDir staging 0o700)

  abbrev d : FileTree
  d = insert old staging (Dir 0o700)

  d_none : (x : List ℕ) → IsAbsent d (staged x)
  d_none x = get-inserted_other old staging (Dir 0o700) (staged x) (λ same. let e : staged x ≡ staging = same in cc) ∙ absent_below old sound.tree staging absent (x ∷ [])

  d_dir : IsDir d staging
  d_dir = ap is_dir_node (get-inserted old staging (Dir 0o700))

  d_rest : rest d ≡ old
  d_rest = without-insert_in staging old staging [] (Dir 0o700) (rest_below-same staging) ∙ without-nothing staging old (absent_below old sound.tree staging absent)

  can_at0 : CanDo (call.WriteFile (staged at0) [] 0o600) d
  can_at0 = (record { named = at_names 0 (omega arith); absent = d_none at0; parent_is_dir = d_dir }, omega arith)

  sound_made : IsSound made
  sound_made = sound_all now (call.MakeDir staging 0o700 ∷ []) sound_now (can_dir, tt)

  abbrev begun : History
  begun = Then made (call.WriteFile (staged at0) [] 0o600)

  abbrev e0 : FileTree
  e0 = insert d (staged at0) (File (next_number o) [] 0o600)

  e_none : (x : List ℕ) → x ≢ at0 → IsAbsent e0 (staged x)
  e_none x other = get-inserted_other d (staged at0) _ (staged x) (λ same. other (let e : x ≡ at0 = cc in e)) ∙ d_none x

  e_filled : Filled old e0 0
  e_filled = record {
    dir = ap is_dir_node (get-inserted_other d (staged at0) _ staging (λ same. let e : staging ≡ staged at0 = same in cc)) ∙ d_dir;
    is = without-insert_in staging d (staged at0) (at0 ∷ []) _ (rest_below-append staging (at0 ∷ [])) ∙ d_rest;
    free = λ j le lt. e_none (fresh_name j) (differ (fresh_name j) at0 102 97 (i-fresh j) (i-at 0) refl);
    no_new = e_none new_journal (differ new_journal at0 110 97 i-new (i-at 0) refl);
    no_plan = e_none plan (differ plan at0 112 97 i-plan (i-at 0) refl);
  }

  entered : Entered old begun 0 fs
  entered = enter old fs begun 0 (omega arith) lawful e_filled

  allowed_at0 : (b : List ℕ) → IsEarly at0 (File (next_number o) b 0o600)
  allowed_at0 b = inr (inl record { named = refl; kind = tt })

  closed_front : IsClosed Q now front
  closed_front = (refl, can_dir, keeps_dir old (next_number o), (refl, can_at0, keeps_write old at0 [] 0o600 (next_number o) allowed_at0, entered.closed))

  abbrev filled : History
  filled = then_all now front

  abbrev x0 : FileTree
  x0 = current_tree filled

  can_new : CanDo (call.WriteFile (staged new_journal) journal 0o600) x0
  can_new = (record { named = new_names; absent = entered.filled.no_new; parent_is_dir = entered.filled.dir }, omega arith)

  closed : IsClosed Q now (stage_calls fs journal)
  closed = closed_append Q now front (call.WriteFile (staged new_journal) journal 0o600 ∷ []) closed_front
      (refl, can_new, keeps_write old new_journal journal 0o600 (next_number filled) (λ b. inl record { named = refl; kind = tt }), tt)

  gives : (t : FileTree) → Q t → P t
  gives t q = staging_row Text steps old new nodes t q

  pub safe_stage : IsSafe o P now (stage_calls fs journal ++ call.Sync ∷ [])
  safe_stage = closed_synced o P Q now (stage_calls fs journal) gives moments pending closed

  -- ---- the journal gets its name

  abbrev y0 : FileTree
  y0 = insert x0 (staged new_journal) (File (next_number filled) journal 0o600)

  abbrev written : History
  written = Then (Then filled (call.WriteFile (staged new_journal) journal 0o600)) call.Sync

  is_written : then_all now (stage_calls fs journal ++ call.Sync ∷ []) ≡ written
  is_written = then_all-append now (stage_calls fs journal) (call.Sync ∷ []) ∙ ap (λ (h : History). Then h call.Sync) (then_all-append now front (call.WriteFile (staged new_journal) journal 0o600 ∷ []))

  sound_filled : IsSound filled
  sound_filled = sound_all now front sound_now (closed_can Q now front closed_front)

  sound_written : IsSound written
  sound_written = sound_all filled (call.WriteFile (staged new_journal) journal 0o600 ∷ call.Sync ∷ []) sound_filled (can_new, (tt, tt))

  new_plan : plan ≢ new_journal
  new_plan = differ plan new_journal 112 110 i-plan i-new refl

  can_plan : CanRename y0 (staged new_journal) (staged plan)
  can_plan = record {
    named = plan_names;
    stands = ap is_some (get-inserted x0 (staged new_journal) _);
    not_root = λ e. (let k : staged new_journal ≡ [] = e in cc);
    absent = get-inserted_other x0 (staged new_journal) _ (staged plan) (λ same. new_plan (let e : plan ≡ new_journal = cc in e)) ∙ entered.filled.no_plan;
    parent_is_dir = ap is_dir_node (get-inserted_other x0 (staged new_journal) _ staging (λ same. let e : staging ≡ staged new_journal = same in cc)) ∙ entered.filled.dir;
    apart = (apart_staged new_journal plan (λ e. new_plan (sym e))).0;
  }

  clear : IsClear y0 (staged plan)
  clear = absent_below y0 sound_written.tree (staged plan) can_plan.absent

  abbrev z0 : FileTree
  z0 = renamed y0 (staged new_journal) (staged plan)

  at0_fresh : (j : ℕ) → at0 ≢ fresh_name j
  at0_fresh j = differ at0 (fresh_name j) 97 102 (i-at 0) (i-fresh j) refl

  x0_is : x0 ≡ with_fresh 0 nodes e0
  x0_is = entered.reads

  at0_there : get y0 (staged at0) ≡ Some (File (next_number o) [] 0o600)
  at0_there =
      get-inserted_other x0 (staged new_journal) _ (staged at0) (λ same. differ at0 new_journal 97 110 (i-at 0) i-new refl (let e : at0 ≡ new_journal = cc in e))
      ∙ ap (λ t. get t (staged at0)) x0_is ∙ fresh_other nodes 0 e0 at0 at0_fresh ∙ get-inserted d (staged at0) _

  bare_start : bare plan at0 z0 ≡ start old nodes
  bare_start =
      without-comm (staged plan) (staged at0) z0
      ∙ ap (without (staged at0)) (without-moved y0 (staged new_journal) (staged plan) clear
      ∙ without-insert_in (staged new_journal) x0 (staged new_journal) [] _ (rest_below-same (staged new_journal))
      ∙ without-nothing (staged new_journal) x0 (absent_below x0 sound_filled.tree (staged new_journal) entered.filled.no_new))
      ∙ ap (without (staged at0)) x0_is
      ∙ without-fresh nodes 0 e0 at0 at0_fresh
      ∙ ap (with_fresh 0 nodes) (without-insert_in (staged at0) d (staged at0) [] _ (rest_below-same (staged at0)) ∙ without-nothing (staged at0) d (absent_below d sound_made.tree (staged at0) (d_none at0)))

  pub planned : StandsAfter Text steps old nodes at0 0 z0
  planned = record {
    journal = record { number = next_number filled; bytes = journal; mode = 0o600; stands = renamed-to y0 (staged new_journal) (staged plan) clear [] ∙ get-inserted x0 (staged new_journal) _; spelled = journal_is };
    marked = ap is_file_node (renamed-out y0 (staged new_journal) (staged plan) clear (staged at0)
        (apart_staged plan at0 (differ plan at0 112 97 i-plan (i-at 0) refl)).0 (apart_staged new_journal at0 (differ new_journal at0 110 97 i-new (i-at 0) refl)).0 ∙ at0_there);
    bare_is = bare_start;
  }

  safe_plan : IsSafe o P written plan_calls
  safe_plan = single_synced o P written (call.Rename (staged new_journal) (staged plan)) refl refl (durable-sync (Then filled (call.WriteFile (staged new_journal) journal 0o600)))
      (subst (λ (h : History). LeavesOnly o h P) is_written (safe_all o P now (stage_calls fs journal ++ call.Sync ∷ []) safe_stage)) can_plan
      (gives y0 (subst (λ (h : History). Q (current_tree h)) (then_all-append now front (call.WriteFile (staged new_journal) journal 0o600 ∷ [])) (closed_pending Q now (stage_calls fs journal) pending closed).now))
      (forward_at Text steps old new nodes leads 0 z0 (omega arith) planned)

  abbrev ready : History
  ready = Then (Then written (call.Rename (staged new_journal) (staged plan))) call.Sync

  pub safe_planned : IsSafe o P now ((stage_calls fs journal ++ call.Sync ∷ []) ++ plan_calls)
  safe_planned = safe_append o P now (stage_calls fs journal ++ call.Sync ∷ []) plan_calls safe_stage (subst (λ (h : History). IsSafe o P h plan_calls) (sym is_written) safe_plan)

  pub is_ready : then_all now ((stage_calls fs journal ++ call.Sync ∷ []) ++ plan_calls) ≡ ready
  is_ready = then_all-append now (stage_calls fs journal ++ call.Sync ∷ []) plan_calls ∙ ap (λ (h : History). then_all h plan_calls) is_written

  pub first_ready : Ready Text steps old new nodes o (then_all now ((stage_calls fs journal ++ call.Sync ∷ []) ++ plan_calls)) 0
  first_ready = subst (λ (h : History). Ready Text steps old new nodes o h 0) (sym is_ready) record {
    moments = safe_all o P written plan_calls safe_plan;
    durable = durable-sync (Then written (call.Rename (staged new_journal) (staged plan)));
    sound = sound_all written plan_calls sound_written (can_plan, (tt, tt));
    stands = planned;
  }

  -- ---- where a call of the staging failed

  unplanned : (x : History) → LeavesOnly o x P → Pending x Q → Unplanned Text steps old new nodes old o x
  unplanned x left p = record { moments = left; sound = p.sound; reads = p.now; each = p.each }

  no_step : (x y : History) → x ≡ y → current_tree y ≡ z0 → IsSound y → LeavesOnly o x P → (h : Halted Text steps old new nodes o x) × (h.m ≡ 0)
  no_step x y is same sound_y left = (
    record {
      m = 0;
      u = start old nodes;
      le = omega arith;
      comes = none_done (to_next_cut 0 (groups steps)) (start old nodes);
      stands = subst (StandsAs Text at0 (start old nodes)) (sym (ap current_tree is ∙ same)) planned;
      moments = left;
      sound = subst IsSound (sym is) sound_y;
    },
    refl,
  )

  abbrev named : History
  named = Then written (call.Rename (staged new_journal) (staged plan))

  sound_named : IsSound named
  sound_named = sound_all written (call.Rename (staged new_journal) (staged plan) ∷ []) sound_written (can_plan, tt)

  pending_staged : Pending (then_all now (stage_calls fs journal)) Q
  pending_staged = closed_pending Q now (stage_calls fs journal) pending closed

  pending_synced : Pending (Then (then_all now (stage_calls fs journal)) call.Sync) Q
  pending_synced = pending-sync (then_all now (stage_calls fs journal)) Q pending_staged.sound pending_staged.now

  pending_written : Pending written Q
  pending_written = subst (λ (x : History). Pending x Q) (sym (then_all-append now (stage_calls fs journal) (call.Sync ∷ [])) ∙ is_written) pending_synced

  module _ (last : History) (before : FileTree) (first : CallName) (left : LeavesOnly o last P) where
    abbrev Stops : Type 0
    Stops = Unplanned Text steps old new nodes old o last ⊎ ((h : Halted Text steps old new nodes o last) × (h.m ≡ 0))

    at : (x : History) → last ≡ x → Pending x Q → Stops
    at x is p = inl (unplanned last left (subst (λ (y : History). Pending y Q) (sym is) p))

    by_sync : FailedIn (call.Sync ∷ []) (then_all now (stage_calls fs journal)) last before first → Stops
    by_sync (inl f) = ⊎_elim (λ e. at _ e pending_staged) (λ e. at _ e pending_synced) f.fate
    by_sync (inr nothing) = absurd nothing

    by_plan : FailedIn plan_calls written last before first → Stops
    by_plan (inl f) = ⊎_elim (λ e. at _ e pending_written) (λ e. inr (no_step last named e refl sound_named left)) f.fate
    by_plan (inr (inl f)) = ⊎_elim (λ e. inr (no_step last named e refl sound_named left)) (λ e. inr (no_step last ready e refl (sound_all named (call.Sync ∷ []) sound_named (tt, tt)) left)) f.fate
    by_plan (inr (inr nothing)) = absurd nothing

    by_parts : FailedIn ((stage_calls fs journal ++ call.Sync ∷ []) ++ plan_calls) now last before first → Stops
    by_parts failed = ⊎_elim
        (λ one. ⊎_elim (λ filling. at last refl (closed_failed Q now last before first (stage_calls fs journal) pending closed filling)) by_sync (split_failed (stage_calls fs journal) (call.Sync ∷ []) now last before first one))
        (λ two. by_plan (subst (λ (h : History). FailedIn plan_calls h last before first) is_written two))
        (split_failed (stage_calls fs journal ++ call.Sync ∷ []) plan_calls now last before first failed)

  pub failed_staging : (last : History) (before : FileTree) (first : CallName) → FailedIn ((stage_calls fs journal ++ call.Sync ∷ []) ++ plan_calls) now last before first
      → Unplanned Text steps old new nodes old o last ⊎ ((h : Halted Text steps old new nodes o last) × (h.m ≡ 0))
  failed_staging last before first failed = by_parts last before first (safe_failed o P now last before first ((stage_calls fs journal ++ call.Sync ∷ []) ++ plan_calls) safe_planned failed) failed

  -- ---- the tree before the call

  module _ (last : History) (before : FileTree) (first : CallName) where
    abbrev First : Type 0
    First = ((first ≡ name.MakeDir) × (before ≡ old)) ⊎ IsDir before staging

    in_front : FailedIn front now last before first → First
    in_front (inl f) = inl (f.named, f.tree)
    in_front (inr (inl f)) = inr (subst (λ t. IsDir t staging) (sym f.tree) d_dir)
    in_front (inr (inr more)) = inr (in_fresh old fs begun 0 last before first (omega arith) lawful e_filled more)

    in_stage : FailedIn (stage_calls fs journal ++ call.Sync ∷ []) now last before first → First
    in_stage failed = ⊎_elim
        (λ one. ⊎_elim in_front at_new (split_failed front (call.WriteFile (staged new_journal) journal 0o600 ∷ []) now last before first one))
        at_sync (split_failed (stage_calls fs journal) (call.Sync ∷ []) now last before first failed)
      where
        at_new : FailedIn (call.WriteFile (staged new_journal) journal 0o600 ∷ []) filled last before first → First
        at_new (inl f) = inr (subst (λ t. IsDir t staging) (sym f.tree) entered.filled.dir)
        at_new (inr nothing) = absurd nothing

        at_sync : FailedIn (call.Sync ∷ []) (then_all now (stage_calls fs journal)) last before first → First
        at_sync (inl f) = inr (subst (λ t. IsDir t staging) (sym (f.tree ∙ ap current_tree (then_all-append now front (call.WriteFile (staged new_journal) journal 0o600 ∷ [])))) can_plan.parent_is_dir)
        at_sync (inr nothing) = absurd nothing

    abbrev Place : Type 0
    Place = ((first ≡ name.MakeDir) × (before ≡ old)) ⊎ (IsDir before staging × (JournalAt Text before plan ⊎ (HasNoJournal before × (rest before ≡ old))))

    staged_place : FailedIn (stage_calls fs journal ++ call.Sync ∷ []) now last before first → Place
    staged_place failed =
        let p = closed_before Q now last before first (stage_calls fs journal) pending closed failed in
        ⊎_elim (λ k. inl k) (λ dir. inr (dir, inr (unnamed old before dir (subst Q (sym p.2) (p.1).now)))) (in_stage failed)

    plan_place : FailedIn plan_calls written last before first → Place
    plan_place (inl f) = inr (subst (λ t. IsDir t staging × (JournalAt Text t plan ⊎ (HasNoJournal t × (rest t ≡ old)))) (sym f.tree) (can_plan.parent_is_dir, inr (unnamed old y0 can_plan.parent_is_dir pending_written.now)))
    plan_place (inr (inl f)) = inr (subst (λ t. IsDir t staging × (JournalAt Text t plan ⊎ (HasNoJournal t × (rest t ≡ old)))) (sym f.tree)
        (staging_stands Text steps old new nodes leads at0 (own-at 0) (differ plan at0 112 97 i-plan (i-at 0) refl) 0 z0 sound_named.tree planned, inl planned.journal))
    plan_place (inr (inr nothing)) = absurd nothing

    pub staging_place : FailedIn ((stage_calls fs journal ++ call.Sync ∷ []) ++ plan_calls) now last before first → Place
    staging_place failed = ⊎_elim staged_place
        (λ two. plan_place (subst (λ (h : History). FailedIn plan_calls h last before first) is_written two))
        (split_failed (stage_calls fs journal ++ call.Sync ∷ []) plan_calls now last before first failed)

  -- ---- the names where a call of the staging failed and the journal doesn't have its name

  module _ (last : History) (before : FileTree) (first : CallName) (no_plan : IsAbsent (current_tree last) (staged plan)) where
    abbrev Named : FileTree → Type 0
    Named = IsAllNamed (early_items fs)

    named_now : Named old
    named_now = none_named fs journal old sound.tree absent

    named_written : Named y0
    named_written = subst (λ (h : History). Named (current_tree h)) is_written (early_named fs journal now named_now)

    plan_stood : (x : History) → last ≡ x → current_tree x ≡ z0 → Named (current_tree last)
    plan_stood x is same = absurd (none-some _ (sym no_plan ∙ ap (λ t. get t (staged plan)) (ap current_tree is ∙ same) ∙ planned.journal.stands))

    plan_failed : FailedIn plan_calls written last before first → Named (current_tree last)
    plan_failed (inl f) = ⊎_elim (λ is. subst (λ (h : History). Named (current_tree h)) (sym is) named_written) (λ is. plan_stood named is refl) f.fate
    plan_failed (inr (inl f)) = ⊎_elim (λ is. plan_stood named is refl) (λ is. plan_stood ready is refl) f.fate
    plan_failed (inr (inr nothing)) = absurd nothing

    pub staging_names_left : FailedIn ((stage_calls fs journal ++ call.Sync ∷ []) ++ plan_calls) now last before first → Named (current_tree last)
    staging_names_left failed = ⊎_elim
        (λ one. early_failed fs journal now last before first named_now one)
        (λ two. plan_failed (subst (λ (h : History). FailedIn plan_calls h last before first) is_written two))
        (split_failed (stage_calls fs journal ++ call.Sync ∷ []) plan_calls now last before first failed)
