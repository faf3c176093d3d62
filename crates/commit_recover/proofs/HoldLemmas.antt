-- Where some steps of a group are done, the staging directory holds only entries of their kinds, as before the group and behind it.
use Rattle.std.proofs.Common.{◌≡◌, ◌⊎◌, inl, inr, ⊎_elim, ℕ, true, false, List, [], ◌∷◌, ◌++◌, Option, Some, None, is_some, refl, sym, ◌∙◌, ap, subst}
use Rattle.std.specs.FinMap.{get}
use Rattle.std.specs.List.{AllByRecursion}
use Rattle.std.specs.Str.{bytes_eq}
use Rattle.std.proofs.lemmas.Bool.{cases_Bool}
use Rattle.std.proofs.lemmas.Slice.Eq.{bytes_eq-Decides}
use Rattle.commit_steps.specs.declared.step.Step.{Step}
use Rattle.commit_steps.specs.declared.step.Step.TheVariants.{MakeDir, Rename, Mode}
use Rattle.commit_steps.specs.Staging.{staged}
use Rattle.commit_steps.specs.Steps.{IsStepPath}
use Rattle.dired_text.specs.Paths.{Names}
use Rattle.step_trees.proofs.ChoiceLemmas.{after_commute, all_done, tree_after}
use Rattle.step_trees.proofs.CommuteLemmas.{dir_kept, out_of, out_under, some_kept}
use Rattle.step_trees.proofs.GroupLemmas.{ApartFrom, Free, Joins, clear_before, free_next, joins, stays_before, tree_step}
use Rattle.step_trees.proofs.NameLemmas.{apart_outside, apart_staged}
use Rattle.step_trees.proofs.StepLemmas.{IsClearStep}
use Rattle.step_trees.specs.Apart.{AreApart, IsApart, IsApartStep}
use Rattle.step_trees.specs.Entries.{HoldsOnly, IsFileOrLink, IsFresh, IsHeld, IsTemporary}
use Rattle.step_trees.specs.Groups.{ComesBySome}
use Rattle.step_trees.specs.Steps.{IsStep, after, step_done}
use Rattle.tree_core.specs.declared.node.Node.{Node}
use Rattle.tree_core.specs.declared.node.Node.TheVariants.{Dir, Link, File}
use Rattle.tree_core.specs.FileTree.{FileTree, IsEmptyAt, IsTree, is_dir_node}
use Rattle.commit_recover.proofs.FoundLemmas.{not_both}

-- an entry of its kind
abbrev pub IsEntryIn : FileTree → List ℕ → Node → Type 0
IsEntryIn t name node = IsTemporary name ⊎ (IsHeld t name node ⊎ IsFresh name node)

-- ---- alike under a name

module _ (n : List ℕ) where
  abbrev q : Names
  q = staged n

  record Alike (t u : FileTree) : Type 0 where
    some : is_some (get t q) ≡ is_some (get u q)
    dir : is_dir_node (get t q) ≡ is_dir_node (get u q)
    below : (child : List ℕ) → is_some (get t (q ++ child ∷ [])) ≡ is_some (get u (q ++ child ∷ []))

  alike_same : (t u : FileTree) → t ≡ u → Alike t u
  alike_same t u is = record {
    some = ap (λ (x : FileTree). is_some (get x q)) is;
    dir = ap (λ (x : FileTree). is_dir_node (get x q)) is;
    below = λ child. ap (λ (x : FileTree). is_some (get x (q ++ child ∷ []))) is;
  }

  alike_then : (t u v : FileTree) → Alike t u → Alike u v → Alike t v
  alike_then t u v one two = record { some = one.some ∙ two.some; dir = one.dir ∙ two.dir; below = λ child. one.below child ∙ two.below child }

  alike_back : (t u : FileTree) → Alike t u → Alike u t
  alike_back t u one = record { some = sym one.some; dir = sym one.dir; below = λ child. sym (one.below child) }

  alike_step : (s : Step) (t : FileTree) → IsClearStep s t → IsApartStep q s → Alike (step_done s t) t
  alike_step s t clear apart = record {
    some = some_kept s t q clear (out_of s q apart);
    dir = dir_kept s t q clear (out_of s q apart);
    below = λ child. some_kept s t (q ++ child ∷ []) clear (out_under s q (child ∷ []) apart);
  }

  -- ---- which step names it

  abbrev AllApart : List Step → Type 0
  AllApart g = AllByRecursion (IsApartStep q) g

  path_apart : (p : Names) → IsStepPath p → (q ≡ p) ⊎ IsApart q p
  path_apart p (inl out) = inr (apart_outside n p out)
  path_apart p (inr entry) = by_test (cases_Bool (bytes_eq n entry.name))
    where
      by_test : (bytes_eq n entry.name ≡ true) ⊎ (bytes_eq n entry.name ≡ false) → (q ≡ p) ⊎ IsApart q p
      by_test (inl same) = inl (ap staged ((bytes_eq-Decides n entry.name).0 same) ∙ sym entry.is)
      by_test (inr other) = inr (subst (IsApart q) (sym entry.is) (apart_staged n entry.name (λ e. not_both (sym ((bytes_eq-Decides n entry.name).1 e) ∙ other))))

  -- it is apart from whatever the step is apart from, or from the step
  abbrev Or : Step → Type 0
  Or s = ((u : Step) → AreApart s u → IsApartStep q u) ⊎ IsApartStep q s

  step_apart : (s : Step) → IsStep s → Or s
  step_apart (MakeDir p) lawful = inr (apart_outside n p lawful.lawful)
  step_apart (Rename from to) lawful = by_from (path_apart from lawful.lawful.0)
    where
      by_to : IsApart q from → (q ≡ to) ⊎ IsApart q to → Or (Rename from to)
      by_to one (inl same) = inl (λ u apart. subst (λ (x : Names). IsApartStep x u) (sym same) apart.1)
      by_to one (inr two) = inr (one, two)

      by_from : (q ≡ from) ⊎ IsApart q from → Or (Rename from to)
      by_from (inl same) = inl (λ u apart. subst (λ (x : Names). IsApartStep x u) (sym same) apart.0)
      by_from (inr one) = by_to one (path_apart to lawful.lawful.1)
  step_apart (Mode p old new) lawful = inr (apart_outside n p lawful.lawful.0)

  others_apart : (s : Step) (g : List Step) (t : FileTree) → ((u : Step) → AreApart s u → IsApartStep q u) → ApartFrom s g t → AllApart g
  others_apart s [] t gives apart = tt
  others_apart s (u ∷ g) t gives apart = (gives u apart.0, others_apart s g t gives apart.2)

  -- ---- some of a group done

  apart_alike : (g : List Step) (a u : FileTree) → IsTree a → Free g a → AllApart g → ComesBySome g a u → Alike u a
  apart_alike [] a u tree free apart is = alike_same u a is
  apart_alike (s ∷ g) a u tree free apart (inl left) = apart_alike g a u tree free.3 apart.1 left
  apart_alike (s ∷ g) a u tree free apart (inr taken) =
      let clear = clear_before s a tree free.1 in
      alike_then u (step_done s a) a (apart_alike g (step_done s a) u (tree_step s a tree free.0 free.1) (free_next s g a tree free) apart.1 taken) (alike_step s a clear apart.0)

  abbrev Either : List Step → FileTree → FileTree → Type 0
  Either g a u = Alike u a ⊎ Alike u (after g a)

  either : (g : List Step) (a u : FileTree) → IsTree a → Free g a → ComesBySome g a u → Either g a u
  either [] a u tree free is = inl (alike_same u a is)
  either (s ∷ g) a u tree free (inl left) = by_step (step_apart s free.0) (either g a u tree free.3 left)
    where
      joined : Joins s g a
      joined = joins s g a tree free

      behind : IsApartStep q s → Alike (after g a) (after (s ∷ g) a)
      behind apart =
          let clear = clear_before s (after g a) (tree_after g a tree free.3) (stays_before s g a (after g a) joined (all_done g a)) in
          alike_then (after g a) (step_done s (after g a)) (after (s ∷ g) a) (alike_back (step_done s (after g a)) (after g a) (alike_step s (after g a) clear apart)) (alike_same _ _ (sym (after_commute s g a joined)))

      by_step : Or s → Either g a u → Either (s ∷ g) a u
      by_step (inl gives) e = inl (apart_alike g a u tree free.3 (others_apart s g a gives free.2) left)
      by_step (inr apart) (inl first) = inl first
      by_step (inr apart) (inr last) = inr (alike_then u (after g a) (after (s ∷ g) a) last (behind apart))
  either (s ∷ g) a u tree free (inr taken) = by_step (step_apart s free.0) (either g next u next_tree next_free taken)
    where
      next : FileTree
      next = step_done s a

      next_tree : IsTree next
      next_tree = tree_step s a tree free.0 free.1

      next_free : Free g next
      next_free = free_next s g a tree free

      by_step : Or s → Either g next u → Either (s ∷ g) a u
      by_step (inl gives) (inl first) = inr (alike_then u next (after g next) first
          (alike_back (after g next) next (apart_alike g next (after g next) next_tree next_free (others_apart s g a gives free.2) (all_done g next))))
      by_step (inr apart) (inl first) = inl (alike_then u next a first (alike_step s a (clear_before s a tree free.1) apart))
      by_step or (inr last) = inr last

  -- ---- its kind

  some_node : (o : Option Node) → is_some o ≡ true → (node : Node) × (o ≡ Some node)
  some_node None e = absurd (not_both (sym e))
  some_node (Some node) e = (node, refl)

  link_or_dir : (node : Node) → IsFileOrLink node ⊎ (is_dir_node (Some node) ≡ true)
  link_or_dir (Dir mode) = inr refl
  link_or_dir (Link target) = inl tt
  link_or_dir (File number bytes mode) = inl tt

  link_no_dir : (node : Node) → IsFileOrLink node → is_dir_node (Some node) ≡ true → ⊥
  link_no_dir (Dir mode) is dir = is
  link_no_dir (Link target) is dir = not_both (sym dir)
  link_no_dir (File number bytes mode) is dir = not_both (sym dir)

  absent_by : (o : Option Node) → is_some o ≡ false → o ≡ None
  absent_by None e = refl
  absent_by (Some node) e = absurd (not_both e)

  entry_alike : (u r : FileTree) → Alike u r → HoldsOnly r (IsEntryIn r) → (node : Node) → get u q ≡ Some node → IsEntryIn u n node
  entry_alike u r alike holds node is = let there = some_node (get r q) (sym alike.some ∙ ap is_some is) in by_entry there.0 there.1 (holds n there.0 there.1)
    where
      dir_there : (other : Node) → get r q ≡ Some other → is_dir_node (Some node) ≡ true → is_dir_node (Some other) ≡ true
      dir_there other at dir = sym (ap is_dir_node at) ∙ sym alike.dir ∙ ap is_dir_node is ∙ dir

      empty_here : IsEmptyAt r q → IsEmptyAt u q
      empty_here empty child = absent_by (get u (q ++ child ∷ [])) (alike.below child ∙ ap is_some (empty child))

      held_kind : (other : Node) → get r q ≡ Some other → IsFileOrLink other ⊎ IsEmptyAt r q → IsFileOrLink node ⊎ (is_dir_node (Some node) ≡ true) → IsFileOrLink node ⊎ IsEmptyAt u q
      held_kind other at kind (inl link) = inl link
      held_kind other at (inl link) (inr dir) = absurd (link_no_dir other link (dir_there other at dir))
      held_kind other at (inr empty) (inr dir) = inr (empty_here empty)

      fresh_kind : (other : Node) → get r q ≡ Some other → IsFileOrLink other → IsFileOrLink node ⊎ (is_dir_node (Some node) ≡ true) → IsFileOrLink node
      fresh_kind other at kind (inl link) = link
      fresh_kind other at kind (inr dir) = absurd (link_no_dir other kind (dir_there other at dir))

      by_entry : (other : Node) → get r q ≡ Some other → IsEntryIn r n other → IsEntryIn u n node
      by_entry other at (inl waits) = inl waits
      by_entry other at (inr (inl h)) = inr (inl (record { number = h.number; small = h.small; named = h.named; kind = held_kind other at h.kind (link_or_dir node) }))
      by_entry other at (inr (inr f)) = inr (inr (record { number = f.number; small = f.small; named = f.named; kind = fresh_kind other at f.kind (link_or_dir node) }))

pub holds_halfway : (g : List Step) (a u : FileTree) → IsTree a → Free g a → HoldsOnly a (IsEntryIn a) → HoldsOnly (after g a) (IsEntryIn (after g a)) → ComesBySome g a u → HoldsOnly u (IsEntryIn u)
holds_halfway g a u tree free first last comes name node is = ⊎_elim
    (λ alike. entry_alike name u a alike first node is)
    (λ alike. entry_alike name u (after g a) alike last node is)
    (either name g a u tree free comes)
