-- The last part of a commit and of a way back: the journal gets its last name, and all names are removed.
use Rattle.std.proofs.Common.{◌≡◌, ◌≢◌, ◌⊎◌, inl, inr, ⊎_elim, ℕ, Bool, true, false, List, [], ◌∷◌, ◌++◌, take, refl, sym, ◌∙◌, ap, subst, Option, Some, None, is_some, IsTrue}
use Rattle.std.proofs.lemmas.Option.{none-some}
use Rattle.std.specs.FinMap.{get, remove}
use Rattle.dired_text.specs.Paths.{Names, AreNames, rest_below}
use Rattle.dired_text.proofs.PathLemmas.{rest_below-same, rest_below-append, rest_below-some}
use Rattle.tree_core.specs.declared.node.Node.{Node}
use Rattle.tree_core.specs.declared.node.Node.TheVariants.{Dir, Link, File}
use Rattle.tree_core.specs.declared.node.Change.TheVariants as call
use Rattle.tree_core.specs.FileTree.{FileTree, IsTree, CanRename, IsAbsent, IsDir, IsFile, Stands, CanDo, done, renamed, is_dir_node, is_file_node}
use Rattle.tree_core.specs.History.{History, Then, IsSound, current_tree, next_number, is_sync, IsDurable, LeavesOnly}
use Rattle.tree_core.specs.Runs.{then_all}
use Rattle.tree_core.proofs.TreeLemmas.{absent_below, none_of, absent_not}
use Rattle.tree_core.proofs.Sound.{was_there, sound_then}
use Rattle.tree_core.proofs.Moments.{Keeps, durable-sync, goes_on-sync, pending-durable}
use Rattle.tree_core.proofs.Runs.{IsClosed, IsSafe, closed_synced, safe_append, safe_all, safe_can, sound_all, then_all-append}
use Rattle.commit_states.proofs.StandLemmas.{absent_own, staging_stands, shown_bare, journal_kept}
use Rattle.commit_states.specs.Calls.{removal_by, Items, CleansItems, removals_of, last_of, ClearsItems, removals_by, close_calls}
use Rattle.commit_states.specs.Interrupted.{bare, IsFileNode, IsOne, JournalAt, StandsAfter}
use Rattle.commit_steps.specs.Staging.{staging, staged, plan}
use Rattle.commit_steps.specs.declared.step.Step.{Step}
use Rattle.step_trees.proofs.NameLemmas.{IsOwn, apart_staged, none_below}
use Rattle.step_trees.proofs.RemovalLemmas.{removed-other, removed-itself, removed-absent, without-remove_out, no_dir}
use Rattle.step_trees.proofs.Without.{get-without_out, without-remove_in, without-is, without-inner, without-comm, without-renamed_in, without-moved, renamed-out, renamed-to, renamed-from, apart_at, IsClear}
use Rattle.step_trees.specs.Entries.{without, rest, HoldsOnly}
use Rattle.step_trees.specs.Leads.{start}
use Rattle.step_trees.specs.Steps.{after}
use Rattle.step_trees.proofs.LeadLemmas.{Led}

module _ (jn mk : List ℕ) (own_j : IsOwn jn) (own_m : IsOwn mk) (sealed_plan : jn ≢ plan) (plan_last : plan ≢ mk) (jn_mk : jn ≢ mk)
    (Text : List ℕ → Type 0) (steps : List Step) (target : FileTree) (E : FileTree → List ℕ → Node → Type 0) (less : (u : FileTree) (p : Names) (name : List ℕ) (node : Node) → E u name node → E (remove u p) name node) where
  -- ---- while names other than the journal are removed

  pub record Sealed (t : FileTree) : Type 0 where
    pub dir : IsDir t staging
    pub journal : JournalAt Text t jn
    pub only : HoldsOnly t (λ name node. (name ≡ jn) ⊎ (E t name node ⊎ IsOne mk name node))
    pub is : rest t ≡ target

  staged_other : (x y : List ℕ) → x ≢ y → staged x ≢ staged y
  staged_other x y other same = other (let e : x ≡ y = cc in e)

  pub sealed_less : (u : FileTree) (x : List ℕ) → x ≢ jn → Sealed u → Sealed (remove u (staged x))
  sealed_less u x other s = record {
    dir = ap is_dir_node (removed-other u (staged x) staging (λ same. let e : staging ≡ staged x = same in cc)) ∙ s.dir;
    journal = record { number = s.journal.number; bytes = s.journal.bytes; mode = s.journal.mode; stands = removed-other u (staged x) (staged jn) (staged_other jn x (λ e. other (sym e))) ∙ s.journal.stands; spelled = s.journal.spelled };
    only = λ name node e. ⊎_elim (λ k. inl k) (λ more. ⊎_elim (λ h. inr (inl (less u (staged x) name node h))) (λ one. inr (inr one)) more) (s.only name node (was_there u (staged x) (staged name) node e));
    is = without-remove_in staging u (staged x) (x ∷ []) (rest_below-append staging (x ∷ [])) ∙ s.is;
  }

  keeps_removal : (x : List ℕ) (d : Bool) (n : ℕ) → x ≢ jn → Keeps Sealed (removal_by d (staged x)) n
  keeps_removal x true n other u c sound s applied = subst Sealed (sym applied.is) (sealed_less u x other s)
  keeps_removal x false n other u c sound s applied = subst Sealed (sym applied.is) (sealed_less u x other s)

  removal_done : (d : Bool) (p : Names) (n : ℕ) (t : FileTree) → done (removal_by d p) n t ≡ remove t p
  removal_done true p n t = refl
  removal_done false p n t = refl

  removal_no_sync : (d : Bool) (p : Names) → is_sync (removal_by d p) ≡ false
  removal_no_sync true p = refl
  removal_no_sync false p = refl

  -- ---- the tree that reads: a is what it is without journal and marker

  pub record Clearing (a t : FileTree) (hs : Items) : Type 0 where
    pub row : Sealed t
    pub marked : IsFile t (staged mk)
    pub bare_is : bare jn mk t ≡ a
    pub cleans : CleansItems hs a

  -- what stands in the bare tree stands, at an entry's name and below
  bare_shows : (t : FileTree) (x : List ℕ) (r : Names) → rest_below (staged jn) (staged x ++ r) ≡ None → rest_below (staged mk) (staged x ++ r) ≡ None → get t (staged x ++ r) ≡ get (bare jn mk t) (staged x ++ r)
  bare_shows t x r one two = sym (get-without_out (staged jn) (without (staged mk) t) (staged x ++ r) one ∙ get-without_out (staged mk) t (staged x ++ r) two)

  two_below : (x y : List ℕ) (child : List ℕ) → x ≢ y → rest_below (staged y) (staged x ++ child ∷ []) ≡ None
  two_below x y child other = none_below (staged y) (staged x ++ child ∷ []) (λ r e. other (let k : x ≡ y = cc in k))

  can_removal : (d : Bool) (x : List ℕ) (t : FileTree) → x ≢ jn → x ≢ mk → CanDo (removal_by d (staged x)) (bare jn mk t) → CanDo (removal_by d (staged x)) t
  can_removal true x t no_j no_m can = (
    ap is_dir_node (bare_shows t x [] (apart_staged jn x (λ e. no_j (sym e))).0 (apart_staged mk x (λ e. no_m (sym e))).0) ∙ can.0,
    can.1,
    λ name. bare_shows t x (name ∷ []) (two_below x jn name no_j) (two_below x mk name no_m) ∙ can.2 name,
  )
  can_removal false x t no_j no_m can = (
    ap is_some (bare_shows t x [] (apart_staged jn x (λ e. no_j (sym e))).0 (apart_staged mk x (λ e. no_m (sym e))).0) ∙ can.0,
    λ dir. can.1 (ap is_dir_node (sym (bare_shows t x [] (apart_staged jn x (λ e. no_j (sym e))).0 (apart_staged mk x (λ e. no_m (sym e))).0)) ∙ dir),
  )

  bare_removed : (t : FileTree) (x : List ℕ) → x ≢ jn → x ≢ mk → bare jn mk (remove t (staged x)) ≡ remove (bare jn mk t) (staged x)
  bare_removed t x no_j no_m =
      ap (without (staged jn)) (without-remove_out (staged mk) t (staged x) (apart_staged mk x (λ e. no_m (sym e))).0)
      ∙ without-remove_out (staged jn) (without (staged mk) t) (staged x) (apart_staged jn x (λ e. no_j (sym e))).0

  clearing_next : (a t : FileTree) (x : List ℕ × Bool) (xs : Items) → x.0 ≢ jn → x.0 ≢ mk → Clearing a t (x ∷ xs) → Clearing (remove a (staged x.0)) (remove t (staged x.0)) xs
  clearing_next a t x xs no_j no_m c = record {
    row = sealed_less t x.0 no_j c.row;
    marked = ap is_file_node (removed-other t (staged x.0) (staged mk) (staged_other mk x.0 (λ e. no_m (sym e)))) ∙ c.marked;
    bare_is = bare_removed t x.0 no_j no_m ∙ ap (λ u. remove u (staged x.0)) c.bare_is;
    cleans = c.cleans.1;
  }

  -- the names are none of the journal's and the marker's
  abbrev pub AreOthers : Items → Type 0
  AreOthers [] = Unit {0}
  AreOthers (x ∷ xs) = (x.0 ≢ jn) × (x.0 ≢ mk) × AreOthers xs

  -- only the journal is left
  pub record Last (t : FileTree) : Type 0 where
    pub dir : IsDir t staging
    pub journal : JournalAt Text t jn
    pub only : HoldsOnly t (λ name node. name ≡ jn)
    pub is : rest t ≡ target

  last_left : (a t : FileTree) → Clearing a t [] → Last (remove t (staged mk))
  last_left a t c =
      let less = sealed_less t mk (λ e. jn_mk (sym e)) c.row in
      record {
        dir = less.dir;
        journal = less.journal;
        only = λ name node e. by_sealed name node e (rest_below (staged jn) (staged name)) (rest_below (staged mk) (staged name)) refl refl;
        is = less.is;
      }
    where
      by_sealed : (name : List ℕ) (node : Node) → get (remove t (staged mk)) (staged name) ≡ Some node → (o p : Option Names) → rest_below (staged jn) (staged name) ≡ o → rest_below (staged mk) (staged name) ≡ p → name ≡ jn
      by_sealed name node e (Some r) p is also = let same : staged name ≡ staged jn ++ r = rest_below-some (staged jn) (staged name) r is in cc
      by_sealed name node e None (Some r) is also =
          let same : staged name ≡ staged mk ++ r = rest_below-some (staged mk) (staged name) r also in
          let named : name ≡ mk = cc in
          absurd (none-some node (sym (ap (λ x. get (remove t (staged mk)) (staged x)) named ∙ removed-itself t (staged mk)) ∙ e))
      by_sealed name node e None None is also =
          absurd (c.cleans name node (ap (λ u. get u (staged name)) (sym c.bare_is) ∙ sym (bare_shows t name [] is also) ∙ was_there t (staged mk) (staged name) node e))

  pub record Cleared (h : History) (xs : Items) : Type 0 where
    pub closed : IsClosed Sealed h (removals_of xs mk)
    pub last : Last (current_tree (then_all h (removals_of xs mk)))

  pub clear_all : (xs : Items) (h : History) (a : FileTree) → AreOthers xs → Clearing a (current_tree h) xs → Cleared h xs
  clear_all [] h a others c = record {
    closed = (refl, (by_file (get (current_tree h) (staged mk)) refl, λ dir. no_file_dir (get (current_tree h) (staged mk)) c.marked dir), keeps_removal mk false (next_number h) (λ e. jn_mk (sym e)), tt);
    last = last_left a (current_tree h) c;
  }
    where
      by_file : (o : Option Node) → get (current_tree h) (staged mk) ≡ o → Stands (current_tree h) (staged mk)
      by_file None e = absurd (let no : is_file_node None ≡ true = ap is_file_node (sym e) ∙ c.marked in cc)
      by_file (Some node) e = ap is_some e

      no_file_dir : (o : Option Node) → IsTrue (is_file_node o) → IsTrue (is_dir_node o) → ⊥
      no_file_dir None f d = cc
      no_file_dir (Some (Dir m)) f d = cc
      no_file_dir (Some (Link target)) f d = cc
      no_file_dir (Some (File n b m)) f d = cc
  clear_all (x ∷ xs) h a others c =
      let is = removal_done x.1 (staged x.0) (next_number h) (current_tree h) in
      let more = clear_all xs (Then h (removal_by x.1 (staged x.0))) (remove a (staged x.0)) others.2 (subst (λ t. Clearing (remove a (staged x.0)) t xs) (sym is) (clearing_next a (current_tree h) x xs others.0 others.1 c)) in
      record {
        closed = (
          removal_no_sync x.1 (staged x.0),
          can_removal x.1 x.0 (current_tree h) others.0 others.1 (subst (CanDo (removal_by x.1 (staged x.0))) (sym c.bare_is) c.cleans.0),
          keeps_removal x.0 x.1 (next_number h) others.0,
          more.closed,
        );
        last = more.last;
      }

  -- ---- the journal and the directory

  pub record Emptied (t : FileTree) : Type 0 where
    pub dir : IsDir t staging
    pub only : HoldsOnly t (λ name node. ⊥)
    pub is : rest t ≡ target

  abbrev pub IsLast : FileTree → Type 0
  IsLast t = Last t ⊎ (Emptied t ⊎ (IsAbsent t staging × (t ≡ target)))

  emptied : (t : FileTree) → Last t → Emptied (remove t (staged jn))
  emptied t l = record {
    dir = ap is_dir_node (removed-other t (staged jn) staging (λ same. let e : staging ≡ staged jn = same in cc)) ∙ l.dir;
    only = λ name node e. let named : name ≡ jn = l.only name node (was_there t (staged jn) (staged name) node e) in
        none-some node (sym (ap (λ x. get (remove t (staged jn)) (staged x)) named ∙ removed-itself t (staged jn)) ∙ e);
    is = without-remove_in staging t (staged jn) (jn ∷ []) (rest_below-append staging (jn ∷ [])) ∙ l.is;
  }

  gone : (t : FileTree) → IsTree t → Emptied t → IsAbsent (remove t staging) staging × (remove t staging ≡ target)
  gone t tree e = (removed-itself t staging, sym (without-is staging t (remove t staging) (λ q out. sym (removed-other t staging q (λ same. none-some [] (sym out ∙ ap (rest_below staging) same ∙ rest_below-same staging)))) (λ q r below. inside q r (rest_below-some staging q r below))) ∙ e.is)
    where
      empty : (name : List ℕ) → IsAbsent t (staged name)
      empty name = none_of _ (λ stands. by_node name (get t (staged name)) refl stands)
        where
          by_node : (name : List ℕ) (o : Option Node) → get t (staged name) ≡ o → IsTrue (is_some (get t (staged name))) → ⊥
          by_node name None is stands = absent_not _ is stands
          by_node name (Some node) is stands = e.only name node is

      inside : (q r : Names) → q ≡ staging ++ r → get (remove t staging) q ≡ None
      inside q [] is = ap (get (remove t staging)) is ∙ removed-itself t staging
      inside q (x ∷ r) is = ap (get (remove t staging)) is ∙ removed-absent t staging (staged x ++ r) (absent_below t tree (staged x) (empty x) r)

  keeps_journal : (n : ℕ) → Keeps IsLast (call.Remove (staged jn)) n
  keeps_journal n u c sound (inl l) applied = inr (inl (subst Emptied (sym applied.is) (emptied u l)))
  keeps_journal n u c sound (inr (inl e)) applied = absurd (by_node (get u (staged jn)) refl)
    where
      by_node : (o : Option Node) → get u (staged jn) ≡ o → ⊥
      by_node None is = absent_not _ is applied.can.0
      by_node (Some node) is = e.only jn node is
  keeps_journal n u c sound (inr (inr none)) applied = absurd (absent_not _ (absent_below u sound.tree staging none.0 (jn ∷ [])) applied.can.0)

  keeps_dir : (n : ℕ) → Keeps IsLast (call.RemoveDir staging) n
  keeps_dir n u c sound (inl l) applied = absurd (none-some _ (sym (applied.can.2 jn) ∙ l.journal.stands))
  keeps_dir n u c sound (inr (inl e)) applied = inr (inr (subst (λ t. IsAbsent t staging × (t ≡ target)) (sym applied.is) (gone u sound.tree e)))
  keeps_dir n u c sound (inr (inr none)) applied = absurd (no_dir u staging none.0 applied.can.0)

  module _ (h : History) (l : Last (current_tree h)) (sound : IsSound h) where
    can_journal : CanDo (call.Remove (staged jn)) (current_tree h)
    can_journal = (ap is_some l.journal.stands, λ dir. (let no : is_dir_node (Some (File l.journal.number l.journal.bytes l.journal.mode)) ≡ true = ap is_dir_node (sym l.journal.stands) ∙ dir in cc))

    abbrev e : Emptied (remove (current_tree h) (staged jn))
    e = emptied (current_tree h) l

    can_dir : CanDo (call.RemoveDir staging) (remove (current_tree h) (staged jn))
    can_dir = (e.dir, λ same. (let k : staging ≡ [] = same in cc), λ name. none_of _ (λ stands. by_node name (get (remove (current_tree h) (staged jn)) (staged name)) refl stands))
      where
        by_node : (name : List ℕ) (o : Option Node) → get (remove (current_tree h) (staged jn)) (staged name) ≡ o → IsTrue (is_some (get (remove (current_tree h) (staged jn)) (staged name))) → ⊥
        by_node name None is stands = absent_not _ is stands
        by_node name (Some node) is stands = e.only name node is

    pub closed_last : IsClosed IsLast h (last_of jn)
    closed_last = (refl, can_journal, keeps_journal (next_number h), (refl, can_dir, keeps_dir (next_number h), tt))

    sound_emptied : IsSound (Then h (call.Remove (staged jn)))
    sound_emptied = sound_all h (call.Remove (staged jn) ∷ []) sound (can_journal, tt)

    pub all_gone : IsAbsent (current_tree (then_all h (last_of jn))) staging × (current_tree (then_all h (last_of jn)) ≡ target)
    all_gone = gone (remove (current_tree h) (staged jn)) sound_emptied.tree e

  -- ---- all of it by the names that stand, behind a sync

  pub record EmptiedBy (h : History) (xs : Items) : Type 0 where
    pub closed : IsClosed Sealed h (removals_by xs)
    pub last : Last (current_tree (then_all h (removals_by xs)))

  empty_by : (xs : Items) (h : History) → ClearsItems jn xs (current_tree h) → Sealed (current_tree h) → EmptiedBy h xs
  empty_by [] h clears s = record { closed = tt; last = record { dir = s.dir; journal = s.journal; only = clears; is = s.is } }
  empty_by (x ∷ xs) h clears s =
      let is = removal_done x.1 (staged x.0) (next_number h) (current_tree h) in
      let more = empty_by xs (Then h (removal_by x.1 (staged x.0))) (subst (ClearsItems jn xs) (sym is) clears.2) (subst Sealed (sym is) (sealed_less (current_tree h) x.0 clears.0 s)) in
      record { closed = (removal_no_sync x.1 (staged x.0), clears.1, keeps_removal x.0 x.1 (next_number h) clears.0, more.closed); last = more.last }

  module _ (P : FileTree → Type 0) (at_sealed : (t : FileTree) → Sealed t → P t) (at_last : (t : FileTree) → IsLast t → P t)
      (began now : History) (moments : LeavesOnly began now P) (sound : IsSound now) (s : Sealed (current_tree now)) (xs : Items) (clears : ClearsItems jn xs (current_tree now)) where
    abbrev synced : History
    synced = Then now call.Sync

    sound_synced : IsSound synced
    sound_synced = sound_then call.Sync now sound tt

    emptied_by : EmptiedBy synced xs
    emptied_by = empty_by xs synced clears s

    safe_removals : IsSafe began P synced (removals_by xs ++ call.Sync ∷ [])
    safe_removals = closed_synced began P Sealed synced (removals_by xs) at_sealed (goes_on-sync began now P moments (at_sealed (current_tree now) s))
        (pending-durable synced Sealed (durable-sync now) sound_synced s) emptied_by.closed

    abbrev cleared : History
    cleared = then_all synced (removals_by xs ++ call.Sync ∷ [])

    is_cleared : cleared ≡ Then (then_all synced (removals_by xs)) call.Sync
    is_cleared = then_all-append synced (removals_by xs) (call.Sync ∷ [])

    sound_cleared : IsSound cleared
    sound_cleared = sound_all synced (removals_by xs ++ call.Sync ∷ []) sound_synced (safe_can began P synced (removals_by xs ++ call.Sync ∷ []) safe_removals)

    last_cleared : Last (current_tree cleared)
    last_cleared = subst (λ (h : History). Last (current_tree h)) (sym is_cleared) emptied_by.last

    safe_last : IsSafe began P cleared (last_of jn ++ call.Sync ∷ [])
    safe_last = closed_synced began P IsLast cleared (last_of jn) at_last (safe_all began P synced (removals_by xs ++ call.Sync ∷ []) safe_removals)
        (pending-durable cleared IsLast (subst IsDurable (sym is_cleared) (durable-sync (then_all synced (removals_by xs)))) sound_cleared (inl last_cleared)) (closed_last cleared last_cleared sound_cleared)

    pub safe_close : IsSafe began P now (call.Sync ∷ close_calls jn xs)
    safe_close = (moments, tt, safe_append began P synced (removals_by xs ++ call.Sync ∷ []) (last_of jn ++ call.Sync ∷ []) safe_removals safe_last)

    pub done_close : (current_tree (then_all synced (close_calls jn xs)) ≡ target) × IsDurable (then_all synced (close_calls jn xs))
    done_close = subst (λ (h : History). (current_tree h ≡ target) × IsDurable h) (sym (then_all-append synced (removals_by xs ++ call.Sync ∷ []) (last_of jn ++ call.Sync ∷ [])))
        (subst (λ (h : History). (current_tree h ≡ target) × IsDurable h) (sym (then_all-append cleared (last_of jn) (call.Sync ∷ [])))
        ((all_gone cleared last_cleared sound_cleared).1, durable-sync (then_all cleared (last_of jn))))

-- ---- the journal gets its last name

module _ (jn mk : List ℕ) (own_j : IsOwn jn) (own_m : IsOwn mk) (sealed_plan : jn ≢ plan) (plan_last : plan ≢ mk) (sealed_last : jn ≢ mk)
    (Text : List ℕ → Type 0) (steps : List Step) (target : FileTree) (E : FileTree → List ℕ → Node → Type 0) (less : (u : FileTree) (p : Names) (name : List ℕ) (node : Node) → E u name node → E (remove u p) name node)
    (carry : (t u : FileTree) (name : List ℕ) (node : Node) → ((r : Names) → get u (staged name ++ r) ≡ get t (staged name ++ r)) → E t name node → E u name node)
    (old new : FileTree) (fresh : List Node) (leads : Led steps old new fresh) (names : AreNames (staged jn)) where
  module _ (j : ℕ) (ends_is : rest (after (take j steps) (start old fresh)) ≡ target) (ends_only : HoldsOnly (after (take j steps) (start old fresh)) (E (after (take j steps) (start old fresh))))
      (t : FileTree) (tree : IsTree t) (s : StandsAfter Text steps old fresh mk j t) where
    pub can_seal : CanRename t (staged plan) (staged jn)
    can_seal = record {
      named = names;
      stands = ap is_some s.journal.stands;
      not_root = λ e. (let k : staged plan ≡ [] = e in cc);
      absent = absent_own Text steps old new fresh leads mk own_m plan_last j t tree s jn own_j sealed_last sealed_plan;
      parent_is_dir = staging_stands Text steps old new fresh leads mk own_m plan_last j t tree s;
      apart = (apart_staged plan jn (λ e. sealed_plan (sym e))).0;
    }

    pub clear_sealed : IsClear t (staged jn)
    clear_sealed = absent_below t tree (staged jn) can_seal.absent

    abbrev u : FileTree
    u = renamed t (staged plan) (staged jn)

    name_is : (a b : List ℕ) (r : Names) → rest_below (staged a) (staged b) ≡ Some r → b ≡ a
    name_is a b r e = let is : staged b ≡ staged a ++ r = rest_below-some (staged a) (staged b) r e in cc

    -- what stands there besides the journal
    pub kept_there : (name : List ℕ) (r : Names) → name ≢ jn → name ≢ plan → get u (staged name ++ r) ≡ get t (staged name ++ r)
    kept_there name r no_sealed no_plan = renamed-out t (staged plan) (staged jn) clear_sealed (staged name ++ r)
        (apart_at (staged name) (staged jn) (staged name ++ r) r (apart_staged name jn no_sealed) (rest_below-append (staged name) r))
        (apart_at (staged name) (staged plan) (staged name ++ r) r (apart_staged name plan no_plan) (rest_below-append (staged name) r))

    pub rest_sealed : rest u ≡ target
    rest_sealed =
        without-renamed_in t (staged plan) (staged jn) clear_sealed staging (plan ∷ []) (jn ∷ []) (rest_below-append staging (plan ∷ [])) (rest_below-append staging (jn ∷ []))
        ∙ sym (without-inner staging (plan ∷ []) (without (staged mk) t) ∙ without-inner staging (mk ∷ []) t)
        ∙ ap rest s.bare_is ∙ ends_is

    file_node : (node : Node) → IsFile t (staged mk) → get t (staged mk) ≡ Some node → IsFileNode node
    file_node (Dir m) is e = absurd (let no : is_file_node (Some (Dir m)) ≡ true = ap is_file_node (sym e) ∙ is in cc)
    file_node (Link target) is e = absurd (let no : is_file_node (Some (Link target)) ≡ true = ap is_file_node (sym e) ∙ is in cc)
    file_node (File n b m) is e = tt

    pub only_sealed : HoldsOnly u (λ name node. (name ≡ jn) ⊎ (E u name node ⊎ IsOne mk name node))
    only_sealed name node e = by_sealed (rest_below (staged jn) (staged name)) refl
      where
        by_last : name ≢ jn → name ≢ plan → (o : Option Names) → rest_below (staged mk) (staged name) ≡ o → E u name node ⊎ IsOne mk name node
        by_last no_sealed no_plan (Some r) is =
            let named : name ≡ mk = name_is mk name r is in
            inr record { named = named; kind = file_node node s.marked (ap (λ n. get t (staged n)) (sym named) ∙ sym (kept_there name [] no_sealed no_plan) ∙ e) }
        by_last no_sealed no_plan None is =
            let no_last : name ≢ mk = λ same. none-some [] (sym is ∙ ap (λ n. rest_below (staged mk) (staged n)) same ∙ rest_below-same (staged mk)) in
            inl (carry (after (take j steps) (start old fresh)) u name node (λ r. kept_there name r no_sealed no_plan ∙ shown_bare Text steps old new fresh leads mk own_m plan_last j t tree s name r no_last no_plan) (ends_only name node (sym (shown_bare Text steps old new fresh leads mk own_m plan_last j t tree s name [] no_last no_plan) ∙ sym (kept_there name [] no_sealed no_plan) ∙ e)))

        by_plan : rest_below (staged jn) (staged name) ≡ None → name ≢ jn → (o : Option Names) → rest_below (staged plan) (staged name) ≡ o → E u name node ⊎ IsOne mk name node
        by_plan out no_sealed (Some r) is = absurd (none-some node (sym (renamed-from t (staged plan) (staged jn) clear_sealed (staged name) r out is) ∙ e))
        by_plan out no_sealed None is = by_last no_sealed (λ same. none-some [] (sym is ∙ ap (λ n. rest_below (staged plan) (staged n)) same ∙ rest_below-same (staged plan))) _ refl

        by_sealed : (o : Option Names) → rest_below (staged jn) (staged name) ≡ o → (name ≡ jn) ⊎ (E u name node ⊎ IsOne mk name node)
        by_sealed (Some r) is = inl (name_is jn name r is)
        by_sealed None is = inr (by_plan is (λ same. none-some [] (sym is ∙ ap (λ n. rest_below (staged jn) (staged n)) same ∙ rest_below-same (staged jn))) _ refl)

    pub sealed_dir : IsDir u staging
    sealed_dir = ap is_dir_node (renamed-out t (staged plan) (staged jn) clear_sealed staging (none_above jn) (none_above plan)) ∙ staging_stands Text steps old new fresh leads mk own_m plan_last j t tree s
      where
        none_above : (x : List ℕ) → rest_below (staged x) staging ≡ None
        none_above x = none_below (staged x) staging (λ r e. let k : staging ≡ staged x ++ r = e in cc)

    pub sealed_journal : JournalAt Text u jn
    sealed_journal = journal_kept Text t u plan jn s.journal record { mode = s.journal.mode; is = renamed-to t (staged plan) (staged jn) clear_sealed [] ∙ s.journal.stands }

    pub sealed_marked : IsFile u (staged mk)
    sealed_marked = ap is_file_node (kept_there mk [] (λ e. sealed_last (sym e)) (λ e. plan_last (sym e))) ∙ s.marked

    pub sealed_bare : bare jn mk u ≡ after (take j steps) (start old fresh)
    sealed_bare =
        without-comm (staged jn) (staged mk) u ∙ ap (without (staged mk)) (without-moved t (staged plan) (staged jn) clear_sealed)
        ∙ without-comm (staged mk) (staged plan) t ∙ s.bare_is

    pub sealed_clearing : (a : FileTree) (xs : Items) → a ≡ after (take j steps) (start old fresh) → CleansItems xs a → Clearing jn mk own_j own_m sealed_plan plan_last sealed_last Text steps target E less a u xs
    sealed_clearing a xs is cleans = record {
      row = record { dir = sealed_dir; journal = sealed_journal; only = only_sealed; is = rest_sealed };
      marked = sealed_marked;
      bare_is = sealed_bare ∙ sym is;
      cleans = cleans;
    }
