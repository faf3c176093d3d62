-- The names that are read in the staging directory are enough to clear it.
use Rattle.std.proofs.Common.{◌≡◌, ◌≢◌, ◌⊎◌, inl, inr, ⊎_elim, ℕ, Bool, true, false, List, [], ◌∷◌, ◌++◌, refl, sym, ◌∙◌, ap, Option, Some, None, is_some, IsTrue}
use Rattle.std.specs.List.{AllByRecursion}
use Rattle.std.specs.FinMap.{get, remove}
use Rattle.tree_core.specs.declared.node.Node.{Node}
use Rattle.tree_core.specs.declared.node.Node.TheVariants.{Dir, Link, File}
use Rattle.tree_core.specs.FileTree.{FileTree, IsAbsent, IsDir, IsEmptyAt, Stands, CanDo, is_dir_node}
use Rattle.tree_core.proofs.Sound.{was_there}
use Rattle.commit_steps.specs.Staging.{staging, staged, sealed, undone, at_marker, back_marker}
use Rattle.step_trees.specs.Entries.{IsFileOrLink, IsHeld, IsFresh, HoldsOnly}
use Rattle.step_trees.proofs.RemovalLemmas.{removed-other, removed-itself, removed-absent}
use Rattle.commit_states.specs.declared.held.Held.{Held}
use Rattle.commit_states.specs.Interrupted.{IsFileNode, IsOne}
use Rattle.commit_states.specs.Calls.{Items, removal_by, held_items, Cleans, CleansItems, ClearsItems, Unstages}
use Rattle.commit_states.specs.Stops.{IsEarly}
use Rattle.commit_states.specs.Reads.{IsNamed, AreRead, files}

-- ---- one after another

abbrev pub IsItem : FileTree → (List ℕ → Type 0) → List ℕ × Bool → Type 0
IsItem t Left x = (Left x.0 → ⊥) × Stands t (staged x.0) × (is_dir_node (get t (staged x.0)) ≡ x.1)

-- the directories that are to be removed are empty
abbrev pub AreEmpty : FileTree → (List ℕ → Type 0) → Type 0
AreEmpty t Left = (name : List ℕ) → IsDir t (staged name) → (Left name → ⊥) → IsEmptyAt t (staged name)

can_remove : (t : FileTree) (Left : List ℕ → Type 0) → AreEmpty t Left → (name : List ℕ) (b : Bool) → (Left name → ⊥) → Stands t (staged name) → is_dir_node (get t (staged name)) ≡ b → CanDo (removal_by b (staged name)) t
can_remove t Left empty name true others stands is = (is, λ e. (let k : staged name ≡ [] = e in cc), empty name is others)
can_remove t Left empty name false others stands is = (stands, λ dir. let e : true ≡ false = sym dir ∙ is in cc)

module _ (t : FileTree) (Left : List ℕ → Type 0) (gone : List ℕ) where
  abbrev less : FileTree
  less = remove t (staged gone)

  there : (name : List ℕ) → name ≢ gone → get less (staged name) ≡ get t (staged name)
  there name other = removed-other t (staged gone) (staged name) (λ e. other (let k : name ≡ gone = cc in k))

  items_less : (xs : Items) → (IsNamed gone xs → ⊥) → AllByRecursion (IsItem t Left) xs → AllByRecursion (IsItem less Left) xs
  items_less [] apart each = tt
  items_less (x ∷ xs) apart each =
      let same = there x.0 (λ e. apart (inl (sym e))) in
      (((each.0).0, ap is_some same ∙ (each.0).1, ap is_dir_node same ∙ (each.0).2), items_less xs (λ more. apart (inr more)) each.1)

  stood : (name : List ℕ) → Stands less (staged name) → Stands t (staged name)
  stood name stands = by_node (get less (staged name)) refl
    where
      by_node : (o : Option Node) → get less (staged name) ≡ o → Stands t (staged name)
      by_node None e = absurd (let k : is_some (get less (staged name)) ≡ false = ap is_some e in let no_more : true ≡ false = sym stands ∙ k in cc)
      by_node (Some node) e = ap is_some (was_there t (staged gone) (staged name) node e)

  not_gone : (name : List ℕ) → Stands less (staged name) → name ≢ gone
  not_gone name stands same =
      let k : is_some (get less (staged name)) ≡ false = ap (λ x. is_some (get less (staged x))) same ∙ ap is_some (removed-itself t (staged gone)) in
      let no_more : true ≡ false = sym stands ∙ k in cc

  all_less : (b : Bool) (xs : Items) → ((name : List ℕ) → Stands t (staged name) → Left name ⊎ IsNamed name ((gone, b) ∷ xs)) → (name : List ℕ) → Stands less (staged name) → Left name ⊎ IsNamed name xs
  all_less b xs all name stands = ⊎_elim (λ l. inl l) (λ more. ⊎_elim (λ e. absurd (not_gone name stands e)) (λ k. inr k) more) (all name (stood name stands))

  empty_less : AreEmpty t Left → AreEmpty less Left
  empty_less empty name dir others child =
      removed-absent t (staged gone) (staged name ++ child ∷ []) (empty name (by_node (get less (staged name)) refl) others child)
    where
      by_node : (o : Option Node) → get less (staged name) ≡ o → IsDir t (staged name)
      by_node None e = absurd (let k : is_dir_node (get less (staged name)) ≡ false = ap is_dir_node e in let no_more : true ≡ false = sym dir ∙ k in cc)
      by_node (Some node) e = ap is_dir_node (was_there t (staged gone) (staged name) node e ∙ sym e) ∙ dir

read_less : (t : FileTree) (Left : List ℕ → Type 0) (x : List ℕ × Bool) (xs : Items) → AreRead t Left (x ∷ xs) → AreRead (remove t (staged x.0)) Left xs
read_less t Left x xs r = record { each = items_less t Left x.0 xs (r.once).0 (r.each).1; once = (r.once).1; all = all_less t Left x.0 x.1 xs r.all }

clears : (journal : List ℕ) (xs : Items) (t : FileTree) → AreEmpty t (λ name. name ≡ journal) → AreRead t (λ name. name ≡ journal) xs → ClearsItems journal xs t
clears journal [] t empty r = λ name node e. ⊎_elim (λ same. same) (λ nothing. absurd nothing) (r.all name (ap is_some e))
clears journal (x ∷ xs) t empty r = (
  ((r.each).0).0,
  can_remove t (λ name. name ≡ journal) empty x.0 x.1 ((r.each).0).0 ((r.each).0).1 ((r.each).0).2,
  clears journal xs (remove t (staged x.0)) (empty_less t (λ name. name ≡ journal) x.0 empty) (read_less t (λ name. name ≡ journal) x xs r),
)

pub cleans : (xs : Items) (t : FileTree) → AreEmpty t (λ name. ⊥) → AreRead t (λ name. ⊥) xs → CleansItems xs t
cleans [] t empty r = λ name node e. ⊎_elim (λ nothing. nothing) (λ nothing. nothing) (r.all name (ap is_some e))
cleans (x ∷ xs) t empty r = (
  can_remove t (λ name. ⊥) empty x.0 x.1 ((r.each).0).0 ((r.each).0).1 ((r.each).0).2,
  cleans xs (remove t (staged x.0)) (empty_less t (λ name. ⊥) x.0 empty) (read_less t (λ name. ⊥) x xs r),
)

unstages : (names : List (List ℕ)) (t : FileTree) → IsDir t staging → AreEmpty t (λ name. ⊥) → AreRead t (λ name. ⊥) (files names) → Unstages names t
unstages [] t dir empty r = (dir, λ e. (let k : staging ≡ [] = e in cc), λ name. by_node name (get t (staged name)) refl)
  where
    by_node : (name : List ℕ) (o : Option Node) → get t (staged name) ≡ o → IsAbsent t (staged name)
    by_node name None e = e
    by_node name (Some node) e = absurd (⊎_elim (λ nothing. nothing) (λ nothing. nothing) (r.all name (ap is_some e)))
unstages (x ∷ xs) t dir empty r = (
  can_remove t (λ name. ⊥) empty x false ((r.each).0).0 ((r.each).0).1 ((r.each).0).2,
  unstages xs (remove t (staged x)) (ap is_dir_node (removed-other t (staged x) staging (λ same. let e : staging ≡ staged x = same in cc)) ∙ dir) (empty_less t (λ name. ⊥) x empty) (read_less t (λ name. ⊥) (x, false) (files xs) r),
)

-- ---- what the rows say of directories

pub no_dir_node : (node : Node) → IsFileOrLink node → IsTrue (is_dir_node (Some node)) → ⊥
no_dir_node (Dir m) kind dir = kind
no_dir_node (Link target) kind dir = cc
no_dir_node (File n b m) kind dir = cc

file_no_dir : (node : Node) → IsFileNode node → IsTrue (is_dir_node (Some node)) → ⊥
file_no_dir (Dir m) kind dir = kind
file_no_dir (Link target) kind dir = kind
file_no_dir (File n b m) kind dir = cc

-- each directory is empty, if each one that may stand is
empty_by : (t : FileTree) (Left : List ℕ → Type 0) (Q : List ℕ → Node → Type 0) → HoldsOnly t Q
    → ((name : List ℕ) (node : Node) → Q name node → IsTrue (is_dir_node (Some node)) → Left name ⊎ IsEmptyAt t (staged name)) → AreEmpty t Left
empty_by t Left Q only gives name dir others = by_node (get t (staged name)) refl
  where
    by_node : (o : Option Node) → get t (staged name) ≡ o → IsEmptyAt t (staged name)
    by_node None e = absurd (let k : is_dir_node (get t (staged name)) ≡ false = ap is_dir_node e in let no_more : true ≡ false = sym dir ∙ k in cc)
    by_node (Some node) e = ⊎_elim (λ l. absurd (others l)) (λ empty. empty) (gives name node (only name node e) (ap is_dir_node (sym e) ∙ dir))

held_empty : (t : FileTree) (name : List ℕ) (node : Node) → IsHeld t name node → IsTrue (is_dir_node (Some node)) → IsEmptyAt t (staged name)
held_empty t name node h dir = ⊎_elim (λ kind. absurd (no_dir_node node kind dir)) (λ empty. empty) h.kind

pub early_no_dir : (name : List ℕ) (node : Node) → IsEarly name node → is_dir_node (Some node) ≡ false
early_no_dir name node may = by_kind (is_dir_node (Some node)) refl
  where
    by_kind : (b : Bool) → is_dir_node (Some node) ≡ b → is_dir_node (Some node) ≡ false
    by_kind false e = e
    by_kind true e = absurd (⊎_elim (λ o. file_no_dir node o.kind e) (λ more. ⊎_elim (λ o. file_no_dir node o.kind e) (λ f. no_dir_node node f.kind e) more) may)

pub early_suffice : (t : FileTree) → IsDir t staging → HoldsOnly t IsEarly → (names : List (List ℕ)) → AreRead t (λ name. ⊥) (files names) → Unstages names t
early_suffice t dir only names r = unstages names t dir (empty_by t (λ name. ⊥) IsEarly only (λ name node may is_dir.
    ⊎_elim (λ o. absurd (file_no_dir node o.kind is_dir)) (λ more. ⊎_elim (λ o. absurd (file_no_dir node o.kind is_dir)) (λ f. absurd (no_dir_node node f.kind is_dir)) more) may)) r

pub sealed_suffice : (t : FileTree) (n : ℕ) → HoldsOnly t (λ name node. (name ≡ sealed) ⊎ (IsHeld t name node ⊎ IsOne (at_marker n) name node))
    → (xs : Items) → AreRead t (λ name. name ≡ sealed) xs → ClearsItems sealed xs t
sealed_suffice t n only xs r = clears sealed xs t (empty_by t (λ name. name ≡ sealed) (λ name node. (name ≡ sealed) ⊎ (IsHeld t name node ⊎ IsOne (at_marker n) name node)) only (λ name node may is_dir.
    ⊎_elim (λ e. inl e) (λ more. ⊎_elim (λ h. inr (held_empty t name node h is_dir)) (λ o. absurd (file_no_dir node o.kind is_dir)) more) may)) r

pub undone_suffice : (t : FileTree) → HoldsOnly t (λ name node. (name ≡ undone) ⊎ (IsFresh name node ⊎ IsOne (back_marker 0) name node))
    → (xs : Items) → AreRead t (λ name. name ≡ undone) xs → ClearsItems undone xs t
undone_suffice t only xs r = clears undone xs t (empty_by t (λ name. name ≡ undone) (λ name node. (name ≡ undone) ⊎ (IsFresh name node ⊎ IsOne (back_marker 0) name node)) only (λ name node may is_dir.
    ⊎_elim (λ e. inl e) (λ more. ⊎_elim (λ f. absurd (no_dir_node node f.kind is_dir)) (λ o. absurd (file_no_dir node o.kind is_dir)) more) may)) r

pub held_suffice : (t : FileTree) → HoldsOnly t (IsHeld t) → (hs : List Held) → AreRead t (λ name. ⊥) (held_items hs) → Cleans hs t
held_suffice t only hs r = cleans (held_items hs) t (empty_by t (λ name. ⊥) (IsHeld t) only (λ name node h is_dir. inr (held_empty t name node h is_dir))) r

pub fresh_suffice : (t : FileTree) → HoldsOnly t IsFresh → (xs : Items) → AreRead t (λ name. ⊥) xs → CleansItems xs t
fresh_suffice t only xs r = cleans xs t (empty_by t (λ name. ⊥) IsFresh only (λ name node f is_dir. absurd (no_dir_node node f.kind is_dir))) r
