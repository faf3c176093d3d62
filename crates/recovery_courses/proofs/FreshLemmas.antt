-- The fresh entries of the first tree of a commit, as they are read.
use Rattle.std.proofs.Common.{◌≡◌, ◌≢◌, ◌⊎◌, inl, inr, ⊎_elim, ℕ, ◌+◌, ◌==◌, ◌≤◌, ◌<◌, ◌^◌, Bool, true, false, List, [], ◌∷◌, ◌++◌, length, refl, sym, ◌∙◌, ap, subst, arith, is_some, IsTrue, if◌then◌else◌}
use Rattle.std.proofs.lemmas.Bool.{cases_Bool, eqb-true, eq-eqb}
use Rattle.std.specs.FinMap.{insert}
use Rattle.std.specs.List.{AllByRecursion}
use Rattle.commit_states.specs.Calls.{fresh_items}
use Rattle.commit_steps.specs.Staging.{staging, staged, fresh_name}
use Rattle.recovery_courses.specs.Ends.{spelled, name_of, stands_in, fresh_one, fresh_in}
use Rattle.recovery_courses.specs.Laws.{rank, ComesBefore, ComeInOrder, IsAmong}
use Rattle.staging_names.specs.declared.entry_name.EntryName.{EntryName}
use Rattle.staging_names.specs.declared.entry_name.Role.{Role}
use Rattle.staging_names.specs.declared.entry_name.Role.TheVariants.{Fresh, Held as PutAside, Temporary}
use Rattle.step_trees.proofs.NameLemmas.{fresh_injects}
use Rattle.step_trees.specs.Leads.{start, with_fresh}
use Rattle.tree_core.proofs.Sound.{by_place, get-inserted, get-inserted_other}
use Rattle.tree_core.proofs.TreeLemmas.{absent_below, absent_not}
use Rattle.tree_core.specs.declared.changes.Fresh.{Fresh as Making}
use Rattle.tree_core.specs.declared.node.Node.{Node}
use Rattle.tree_core.specs.declared.node.Node.TheVariants.{Dir}
use Rattle.tree_core.specs.FileTree.{FileTree, IsAbsent, IsTree, Stands}
use Rattle.dired_text.specs.Paths.{Names}

-- ---- which stand

less_or : (a b : ℕ) → a ≤ b → (a ≡ b) ⊎ (a < b)
less_or a b le = ⊎_elim (λ same. inl (eqb-true a b same)) (λ other. inr (let no : a ≢ b = (λ e. let t : (a == b) ≡ true = eq-eqb a b e in cc) in omega arith)) (cases_Bool (a == b))

stays : (nodes : List Node) (k : ℕ) (t : FileTree) (q : Names) → Stands t q → Stands (with_fresh k nodes t) q
stays [] k t q stands = stands
stays (node ∷ nodes) k t q stands =
    stays nodes (k + 1) (insert t (staged (fresh_name k)) node) q (by_place t (staged (fresh_name k)) node q (λ o. IsTrue (is_some o)) (λ here. refl) (λ other. stands))

all_stand : (nodes : List Node) (k : ℕ) (t : FileTree) (j : ℕ) → k ≤ j → j < k + length nodes → Stands (with_fresh k nodes t) (staged (fresh_name j))
all_stand [] k t j low high = absurd (omega arith)
all_stand (node ∷ nodes) k t j low high = by_place_of (less_or k j low) (λ lt. all_stand nodes (k + 1) (insert t (staged (fresh_name k)) node) j (omega arith) (omega arith))
  where
    next : FileTree
    next = insert t (staged (fresh_name k)) node

    by_place_of : (k ≡ j) ⊎ (k < j) → (k < j → Stands (with_fresh (k + 1) nodes next) (staged (fresh_name j))) → Stands (with_fresh (k + 1) nodes next) (staged (fresh_name j))
    by_place_of (inl same) later = subst (λ n. Stands (with_fresh (k + 1) nodes next) (staged (fresh_name n))) same (stays nodes (k + 1) next (staged (fresh_name k)) (ap is_some (get-inserted t (staged (fresh_name k)) node)))
    by_place_of (inr lt) later = later lt

-- below their number, or it stood before
stood_or_below : (nodes : List Node) (k : ℕ) (t : FileTree) (j : ℕ) → j < 2 ^ 32 → k + length nodes ≤ 2 ^ 32 → Stands (with_fresh k nodes t) (staged (fresh_name j))
    → Stands t (staged (fresh_name j)) ⊎ (j < k + length nodes)
stood_or_below [] k t j small few stands = inl stands
stood_or_below (node ∷ nodes) k t j small few stands = ⊎_elim
    (λ there. by_place t (staged (fresh_name k)) node (staged (fresh_name j)) (λ o. IsTrue (is_some o) → Stands t (staged (fresh_name j)) ⊎ (j < k + length (node ∷ nodes)))
    (λ here _. inr (let e : fresh_name j ≡ fresh_name k = cc in let same : j ≡ k = fresh_injects j k (omega arith) (omega arith) e in omega arith))
    (λ other s. inl s) there)
    (λ below. inr (omega arith))
    (stood_or_below nodes (k + 1) (insert t (staged (fresh_name k)) node) j small (omega arith) stands)

pub fresh_stand : (old : FileTree) (nodes : List Node) (j : ℕ) → j < length nodes → Stands (start old nodes) (staged (fresh_name j))
fresh_stand old nodes j lt = all_stand nodes 0 (insert old staging (Dir 0o700)) j (omega arith) (omega arith)

pub fresh_below : (old : FileTree) (nodes : List Node) → IsTree old → IsAbsent old staging → length nodes ≤ 2 ^ 32 → (j : ℕ) → j < 2 ^ 32 → Stands (start old nodes) (staged (fresh_name j)) → j < length nodes
fresh_below old nodes tree absent few j small stands = ⊎_elim
    (λ there. absurd (absent_not _ (get-inserted_other old staging (Dir 0o700) (staged (fresh_name j)) (λ e. let k : staged (fresh_name j) ≡ staging = e in cc) ∙ absent_below old tree staging absent (fresh_name j ∷ [])) there))
    (λ below. omega arith)
    (stood_or_below nodes 0 (insert old staging (Dir 0o700)) j small (omega arith) stands)

-- ---- how they are read

abbrev pub fresh_entry : ℕ → EntryName
fresh_entry n = record { role = Fresh; number = n }

-- Of the tree t exactly the first n fresh entries stand.
module _ (t : FileTree) (n : ℕ) (stand : (j : ℕ) → j < n → stands_in t (fresh_entry j) ≡ true)
    (below : (e : EntryName) → e.number < 2 ^ 32 → e.role ≡ Fresh → stands_in t e ≡ true → e.number < n) where
  other_role : (j : ℕ) (e : EntryName) → (e.role ≡ Fresh → ⊥) → fresh_entry j ≡ e → ⊥
  other_role j e other same = other (sym (ap (λ (x : EntryName). x.role) same))

  same_number : (j : ℕ) (e : EntryName) → fresh_entry j ≡ e → j ≡ e.number
  same_number j e same = ap (λ (x : EntryName). x.number) same

  -- not before those behind it
  behind : (e : EntryName) → e.role ≡ Fresh → (k : ℕ) (es : List EntryName) → AllByRecursion (ComesBefore e) es → IsAmong (fresh_entry k) es → e.number < k
  behind e role k [] before among = absurd among
  behind e role k (f ∷ es) before (inr more) = behind e role k es before.1 more
  behind e role k (f ∷ es) before (inl same) = ⊎_elim
      (λ less. let a : rank e.role ≡ 0 = ap rank role in let b : rank f.role ≡ 0 = ap (λ (x : EntryName). rank x.role) (sym same) in absurd (omega arith))
      (λ also. let b : k ≡ f.number = same_number k f same in let lt = also.1 in omega arith)
      before.0

  -- those from k on
  abbrev IsFrom : ℕ → List EntryName → Type 0
  IsFrom k es = (j : ℕ) → k ≤ j → j < n → IsAmong (fresh_entry j) es

  abbrev AreFrom : ℕ → List EntryName → Type 0
  AreFrom k es = AllByRecursion (λ (e : EntryName). e.role ≡ Fresh → k ≤ e.number) es

  from_next : (k : ℕ) (e : EntryName) (es : List EntryName) → ((j : ℕ) → k ≤ j → j < n → fresh_entry j ≡ e → ⊥) → IsFrom k (e ∷ es) → IsFrom k es
  from_next k e es other from j low high = ⊎_elim (λ same. absurd (other j low high same)) (λ more. more) (from j low high)

  are_next : (e : EntryName) (k : ℕ) → e.role ≡ Fresh → e.number ≡ k → (es : List EntryName) → AllByRecursion (ComesBefore e) es → AreFrom (k + 1) es
  are_next e k role is [] before = tt
  are_next e k role is (f ∷ es) before = (
    (λ also. ⊎_elim (λ less. let a : rank e.role ≡ 0 = ap rank role in let b : rank f.role ≡ 0 = ap rank also in absurd (omega arith)) (λ same. let lt = same.1 in omega arith) before.0),
    are_next e k role is es before.1,
  )

  pub read_are : (es : List EntryName) (k : ℕ) (fs : List Making) → k + length fs ≡ n → ComeInOrder es → AllByRecursion (λ (e : EntryName). e.number < 2 ^ 32) es
      → IsFrom k es → AreFrom k es → fresh_in t es ≡ fresh_items k fs
  read_are [] k [] count order small from are = refl
  read_are [] k (f ∷ fs) count order small from are = absurd (from k (omega arith) (omega arith))
  read_are (e ∷ es) k fs count order small from are = by_role e.role refl (λ j gs behind_is from_j are_j. read_are es j gs behind_is order.1 small.1 from_j are_j)
    where
      Later : Type 0
      Later = (j : ℕ) (gs : List Making) → j + length gs ≡ n → IsFrom j es → AreFrom j es → fresh_in t es ≡ fresh_items j gs

      skip : Later → ((j : ℕ) → k ≤ j → j < n → fresh_entry j ≡ e → ⊥) → fresh_in t es ≡ fresh_items k fs
      skip later other = later k fs count (from_next k e es other from) are.1

      first : e.role ≡ Fresh → stands_in t e ≡ true → e.number ≡ k
      first role stands =
          let lt = below e small.0 role stands in
          let low = are.0 role in
          ⊎_elim (λ same. sym (same_number k e same)) (λ more. let less = behind e role k es order.0 more in absurd (omega arith)) (from k (omega arith) (omega arith))

      take_first : Later → (gs : List Making) → k + length gs ≡ n → e.role ≡ Fresh → stands_in t e ≡ true → (name_of e, false) ∷ fresh_in t es ≡ fresh_items k gs
      take_first later [] none role stands = let lt = below e small.0 role stands in let low = are.0 role in absurd (omega arith)
      take_first later (f ∷ gs) some role stands =
          let is = first role stands in
          let named : name_of e ≡ fresh_name k = ap (λ r. spelled r e.number) role ∙ ap fresh_name is in
          let more : fresh_in t es ≡ fresh_items (k + 1) gs = later (k + 1) gs (omega arith)
          (λ j low high. ⊎_elim (λ same. let e_is = same_number j e same in absurd (omega arith)) (λ more. more) (from j (omega arith) high))
          (are_next e k role is es order.0) in
          ap (λ x. (x, false) ∷ fresh_in t es) named ∙ ap (λ xs. (fresh_name k, false) ∷ xs) more

      by_standing : (b : Bool) → e.role ≡ Fresh → stands_in t e ≡ b → Later → (if b then (name_of e, false) ∷ [] else []) ++ fresh_in t es ≡ fresh_items k fs
      by_standing true role is later = take_first later fs count role is
      by_standing false role is later = skip later (λ j low high same. let yes : stands_in t e ≡ true = ap (stands_in t) (sym same) ∙ stand j high in let clash : true ≡ false = sym yes ∙ is in cc)

      by_role : (r : Role) → e.role ≡ r → Later → fresh_one t e r ++ fresh_in t es ≡ fresh_items k fs
      by_role Fresh role later = by_standing (stands_in t e) role refl later
      by_role PutAside role later = skip later (λ j low high same. other_role j e (λ also. let clash : PutAside ≡ Fresh = sym role ∙ also in cc) same)
      by_role Temporary role later = skip later (λ j low high same. other_role j e (λ also. let clash : Temporary ≡ Fresh = sym role ∙ also in cc) same)
