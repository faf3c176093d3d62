-- Behind all steps nothing bars the seal, and what was put aside is removed.
use Rattle.std.proofs.Common.{◌≡◌, ◌≢◌, ◌⊎◌, inl, inr, ⊎_elim, ℕ, ◌<◌, ◌^◌, Bool, true, false, not, ◌&&◌, List, [], ◌∷◌, ◌++◌, length, take, refl, sym, ◌∙◌, ap, subst, arith, Option, Some, None, is_some, IsTrue, if◌then◌else◌}
use Rattle.std.proofs.lemmas.Bool.{cond-false}
use Rattle.std.specs.FinMap.{get}
use Rattle.std.specs.List.{AllByRecursion, list_any}
use Rattle.commit_states.proofs.FinishLemmas.{safe_finish, done_finish}
use Rattle.commit_states.proofs.LoopLemmas.{Ready, plan_at}
use Rattle.commit_states.proofs.ReadLemmas.{IsItem, held_suffice, no_dir_node}
use Rattle.commit_states.proofs.StandLemmas.{shown_bare}
use Rattle.commit_states.specs.declared.held.Held.{Held}
use Rattle.commit_states.specs.Calls.{Items, Cleans, cleaning_calls, held_items, seal_calls}
use Rattle.commit_states.specs.Interrupted.{IsInterruptedBy}
use Rattle.commit_states.specs.Reads.{AreOnce, AreRead, IsNamed}
use Rattle.commit_steps.specs.declared.step.Step.{Step}
use Rattle.commit_steps.specs.Staging.{staged, held, at_marker, plan}
use Rattle.dired_text.specs.Paths.{Names}
use Rattle.recovery_courses.proofs.CourseLemmas.{Goes, goes_these}
use Rattle.recovery_courses.proofs.EntryLemmas.{not_entry_name}
use Rattle.recovery_courses.proofs.NumberLemmas.{held_injects, fresh_not_held, temporary_not_held, none_of_any}
use Rattle.recovery_courses.specs.Course.{these, strange_at}
use Rattle.recovery_courses.specs.Ends.{spelled, name_of, stands_in, is_dir_in, bars_seal, held_one, held_in, sealing}
use Rattle.recovery_courses.specs.Laws.{rank, ComesBefore, ComeInOrder, IsAmong}
use Rattle.staging_names.specs.declared.entry_name.EntryName.{EntryName}
use Rattle.staging_names.specs.declared.entry_name.Role.{Role}
use Rattle.staging_names.specs.declared.entry_name.Role.TheVariants.{Fresh, Held as PutAside, Temporary}
use Rattle.step_looks.specs.Looks.{is_none_of}
use Rattle.step_trees.proofs.LeadLemmas.{Led, ends_at}
use Rattle.step_trees.proofs.NameLemmas.{own-at, own-plan}
use Rattle.step_trees.specs.Entries.{IsHeld}
use Rattle.step_trees.specs.Leads.{start}
use Rattle.step_trees.specs.Steps.{after}
use Rattle.tree_core.proofs.NameLemmas.{names_end}
use Rattle.tree_core.specs.declared.node.Node.{Node}
use Rattle.tree_core.specs.Fields.{names_in}
use Rattle.tree_core.specs.FileTree.{FileTree, IsEmptyAt, is_dir_node}
use Rattle.tree_core.specs.History.{History, IsDurable, current_tree}

-- ---- a tree T that shows the entries of a tree A, where only such stand as were put aside

module _ (T A : FileTree) (only : (name : List ℕ) (node : Node) → get A (staged name) ≡ Some node → IsHeld A name node)
    (shown : (e : EntryName) (r : Names) → get T (staged (name_of e) ++ r) ≡ get A (staged (name_of e) ++ r)) where
  -- a name of another kind
  none_stands : (e : EntryName) → ((k : ℕ) → name_of e ≢ held k) → stands_in T e ≡ false
  none_stands e other = by_node (get A (staged (name_of e))) refl
    where
      by_node : (o : Option Node) → get A (staged (name_of e)) ≡ o → stands_in T e ≡ false
      by_node None is = ap is_some (shown e []) ∙ ap is_some is
      by_node (Some node) is = let h = only (name_of e) node is in absurd (other h.number h.named)

  -- what is a directory is empty
  empty_dir : (e : EntryName) → is_dir_in T e ≡ true → names_in T (staged (name_of e)) ≡ []
  empty_dir e dir = (names_end T (staged (name_of e))).1 (λ child. shown e (child ∷ []) ∙ by_node (get A (staged (name_of e))) refl child)
    where
      by_node : (o : Option Node) → get A (staged (name_of e)) ≡ o → IsEmptyAt A (staged (name_of e))
      by_node None is = absurd (let k : true ≡ false = sym dir ∙ ap is_dir_node (shown e []) ∙ ap is_dir_node is in cc)
      by_node (Some node) is =
          let h = only (name_of e) node is in
          ⊎_elim (λ kind. absurd (no_dir_node node kind (sym (ap is_dir_node is) ∙ sym (ap is_dir_node (shown e [])) ∙ dir))) (λ empty. empty) h.kind

  no_bar : (e : EntryName) → bars_seal T e e.role ≡ false
  no_bar e = by_role e.role refl
    where
      by_dir : (b : Bool) → is_dir_in T e ≡ b → (is_dir_in T e && not (is_none_of (names_in T (staged (name_of e))))) ≡ false
      by_dir false is = ap (λ b. b && not (is_none_of (names_in T (staged (name_of e))))) is
      by_dir true is = ap (λ b. b && not (is_none_of (names_in T (staged (name_of e))))) is ∙ ap (λ l. not (is_none_of l)) (empty_dir e is)

      by_role : (r : Role) → e.role ≡ r → bars_seal T e r ≡ false
      by_role Fresh is = none_stands e (λ k same. fresh_not_held e.number k (sym (ap (λ r. spelled r e.number) is) ∙ same))
      by_role PutAside is = by_dir (is_dir_in T e) refl
      by_role Temporary is = none_stands e (λ k same. temporary_not_held e.number k (sym (ap (λ r. spelled r e.number) is) ∙ same))

  -- ---- what is removed

  abbrev items : List EntryName → Items
  items es = held_items (held_in T es)

  abbrev Item : List ℕ × Bool → Type 0
  Item x = IsItem A (λ name. ⊥) x

  items_stand : (es : List EntryName) → AllByRecursion Item (items es)
  items_stand [] = tt
  items_stand (e ∷ es) = by_role e.role refl (items_stand es)
    where
      by_standing : (b : Bool) → e.role ≡ PutAside → stands_in T e ≡ b → AllByRecursion Item (items es) → AllByRecursion Item (held_items ((if b then record { number = e.number; is_dir = is_dir_in T e } ∷ [] else []) ++ held_in T es))
      by_standing false put is later = later
      by_standing true put is later =
          let named : name_of e ≡ held e.number = ap (λ r. spelled r e.number) put in
          let here : get T (staged (held e.number)) ≡ get A (staged (held e.number)) = subst (λ n. get T (staged n) ≡ get A (staged n)) named (shown e []) in
          (((λ nothing. nothing), sym (ap is_some here) ∙ sym (ap (λ n. is_some (get T (staged n))) named) ∙ is, sym (ap is_dir_node here) ∙ sym (ap (λ n. is_dir_node (get T (staged n))) named)), later)

      by_role : (r : Role) → e.role ≡ r → AllByRecursion Item (items es) → AllByRecursion Item (held_items (held_one T e r ++ held_in T es))
      by_role Fresh is later = later
      by_role PutAside is later = by_standing (stands_in T e) is refl later
      by_role Temporary is later = later

  -- none of those behind e has the name of e
  none_later : (n : ℕ) → n < 2 ^ 32 → (es : List EntryName) → AllByRecursion (λ (f : EntryName). f.number < 2 ^ 32) es → AllByRecursion (λ (f : EntryName). f.role ≡ PutAside → n < f.number) es → IsNamed (held n) (items es) → ⊥
  none_later n low [] small behind is = is
  none_later n low (f ∷ es) small behind is = by_role f.role refl (none_later n low es small.1 behind.1) is
    where
      by_standing : (b : Bool) → f.role ≡ PutAside → (IsNamed (held n) (items es) → ⊥) → IsNamed (held n) (held_items ((if b then record { number = f.number; is_dir = is_dir_in T f } ∷ [] else []) ++ held_in T es)) → ⊥
      by_standing false put later more = later more
      by_standing true put later (inl same) =
          let lt = behind.0 put in
          let few = small.0 in
          let e : n ≡ f.number = held_injects n f.number (omega arith) (omega arith) same in absurd (omega arith)
      by_standing true put later (inr more) = later more

      by_role : (r : Role) → f.role ≡ r → (IsNamed (held n) (items es) → ⊥) → IsNamed (held n) (held_items (held_one T f r ++ held_in T es)) → ⊥
      by_role Fresh put later more = later more
      by_role PutAside put later more = by_standing (stands_in T f) put later more
      by_role Temporary put later more = later more

  greater : (e : EntryName) → e.role ≡ PutAside → (es : List EntryName) → AllByRecursion (ComesBefore e) es → AllByRecursion (λ (f : EntryName). f.role ≡ PutAside → e.number < f.number) es
  greater e put [] before = tt
  greater e put (f ∷ es) before = (
    (λ also. ⊎_elim (λ less. let a : rank e.role ≡ 1 = ap rank put in let b : rank f.role ≡ 1 = ap rank also in absurd (omega arith)) (λ same. same.1) before.0),
    greater e put es before.1,
  )

  items_once : (es : List EntryName) → AllByRecursion (λ (f : EntryName). f.number < 2 ^ 32) es → ComeInOrder es → AreOnce (items es)
  items_once [] small order = tt
  items_once (e ∷ es) small order = by_role e.role refl (items_once es small.1 order.1)
    where
      by_standing : (b : Bool) → e.role ≡ PutAside → AreOnce (items es) → AreOnce (held_items ((if b then record { number = e.number; is_dir = is_dir_in T e } ∷ [] else []) ++ held_in T es))
      by_standing false put later = later
      by_standing true put later = (none_later e.number small.0 es small.1 (greater e put es order.0), later)

      by_role : (r : Role) → e.role ≡ r → AreOnce (items es) → AreOnce (held_items (held_one T e r ++ held_in T es))
      by_role Fresh put later = later
      by_role PutAside put later = by_standing (stands_in T e) put later
      by_role Temporary put later = later

  -- each that stands is among them
  named_behind : (name : List ℕ) (hs : List Held) (more : List Held) → IsNamed name (held_items more) → IsNamed name (held_items (hs ++ more))
  named_behind name [] more is = is
  named_behind name (h ∷ hs) more is = inr (named_behind name hs more is)

  named_among : (e : EntryName) → e.role ≡ PutAside → stands_in T e ≡ true → (es : List EntryName) → IsAmong e es → IsNamed (held e.number) (items es)
  named_among e put stands [] among = absurd among
  named_among e put stands (f ∷ es) (inr more) = named_behind (held e.number) (held_one T f f.role) (held_in T es) (named_among e put stands es more)
  named_among e put stands (f ∷ es) (inl same) =
      subst (λ x. IsNamed (held e.number) (held_items (held_one T x x.role ++ held_in T es))) same
      (subst (λ r. IsNamed (held e.number) (held_items (held_one T e r ++ held_in T es))) (sym put)
      (subst (λ b. IsNamed (held e.number) (held_items ((if b then record { number = e.number; is_dir = is_dir_in T e } ∷ [] else []) ++ held_in T es))) (sym stands) (inl refl)))

  items_read : (es : List EntryName) → AllByRecursion (λ (f : EntryName). f.number < 2 ^ 32) es → ComeInOrder es
      → ((e : EntryName) → e.number < 2 ^ 32 → IsTrue (stands_in A e) → IsAmong e es) → AreRead A (λ name. ⊥) (items es)
  items_read es small order all = record {
    each = items_stand es;
    once = items_once es small order;
    all = λ name stands. inr (by_node name (get A (staged name)) refl stands);
  }
    where
      by_node : (name : List ℕ) (o : Option Node) → get A (staged name) ≡ o → IsTrue (is_some (get A (staged name))) → IsNamed name (items es)
      by_node name None is stands = absurd (let k : true ≡ false = sym stands ∙ ap is_some is in cc)
      by_node name (Some node) is stands =
          let h = only name node is in
          let e : EntryName = record { role = PutAside; number = h.number } in
          let there : IsTrue (stands_in A e) = subst (λ n. IsTrue (is_some (get A (staged n)))) h.named stands in
          subst (λ n. IsNamed n (items es)) (sym h.named) (named_among e refl (ap is_some (shown e []) ∙ there) es (all e h.small there))

-- ---- behind the last step

module _ (Text : List ℕ → Type 0) (steps : List Step) (old new : FileTree) (fresh : List Node) (leads : Led steps old new fresh) (few : length steps < 2 ^ 32) (o : History)
    (es : List EntryName) (small : AllByRecursion (λ (f : EntryName). f.number < 2 ^ 32) es) (order : ComeInOrder es)
    (all : (e : EntryName) → e.number < 2 ^ 32 → IsTrue (stands_in (after (take (length steps) steps) (start old fresh)) e) → IsAmong e es)
    (h : History) (r : Ready Text steps old new fresh o h (length steps)) where
  abbrev last : FileTree
  last = after (take (length steps) steps) (start old fresh)

  abbrev n : ℕ
  n = length steps

  abbrev t : FileTree
  t = current_tree h

  shown : (e : EntryName) (q : Names) → get t (staged (name_of e) ++ q) ≡ get last (staged (name_of e) ++ q)
  shown e q = shown_bare Text steps old new fresh leads (at_marker n) (own-at n) (plan_at Text steps old new fresh leads few o n) n t r.sound.tree r.stands (name_of e) q
      (λ same. not_entry_name (at_marker n) (own-at n) e (sym same)) (λ same. not_entry_name plan own-plan e (sym same))

  abbrev hs : List Held
  hs = held_in t es

  cleans : Cleans hs last
  cleans = held_suffice last (ends_at steps old new fresh leads).only hs (items_read t last (ends_at steps old new fresh leads).only shown es small order all)

  none_bars : list_any (λ (e : EntryName). bars_seal t e e.role) es ≡ false
  none_bars = none_of_any (λ (e : EntryName). bars_seal t e e.role) es (λ e. no_bar t last (ends_at steps old new fresh leads).only shown e)

  abbrev pub Finished : History → Type 0
  Finished x = (current_tree x ≡ new) × IsDurable x

  pub seal_goes : Goes o (IsInterruptedBy Text steps old new fresh) Finished h (sealing n es h)
  seal_goes =
      let calls = seal_calls ++ cleaning_calls hs n in
      let is : sealing n es h ≡ these calls = cond-false (list_any (λ (e : EntryName). bars_seal t e e.role) es) (strange_at n) (these calls) none_bars in
      subst (Goes o (IsInterruptedBy Text steps old new fresh) Finished h) (sym is)
      (goes_these o (IsInterruptedBy Text steps old new fresh) Finished h calls (safe_finish Text steps old new fresh leads hs cleans o h r) (done_finish Text steps old new fresh leads hs cleans o h r))
