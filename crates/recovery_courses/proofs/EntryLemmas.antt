-- An entry that stands at some place of a commit stands where it was stopped, or a path of its steps names it.
use Rattle.std.proofs.Common.{◌≡◌, ◌≢◌, ◌⊎◌, inl, inr, ⊎_elim, ℕ, zero, suc, ◌-◌, ◌<◌, ◌^◌, true, false, None, nat_lt, nat_le, List, [], ◌∷◌, ◌++◌, length, take, drop, refl, sym, ◌∙◌, ap, subst, is_some, IsTrue}
use Rattle.std.proofs.lemmas.Bool.{cases_Bool, cond-true, cond-false}
use Rattle.std.proofs.lemmas.Slice.Eq.{bytes_eq-Decides}
use Rattle.std.specs.FinMap.{get}
use Rattle.std.specs.Str.{bytes_eq}
use Rattle.commit_states.proofs.StandLemmas.{shown_as}
use Rattle.commit_states.proofs.WithinLemmas.{based_comes}
use Rattle.commit_states.specs.Interrupted.{StandsAs}
use Rattle.commit_steps.specs.declared.step.Step.{Step}
use Rattle.commit_steps.specs.declared.step.Step.TheVariants.{MakeDir, Rename, Mode}
use Rattle.commit_steps.specs.Staging.{staged, plan}
use Rattle.commit_steps.specs.Steps.{IsStepPath, IsEntryPath}
use Rattle.dired_text.specs.Paths.{Names, rest_below}
use Rattle.recovery_courses.specs.Ends.{spelled, name_of, stands_in}
use Rattle.recovery_courses.specs.Laws.{IsAmong, IsOneOf, AreEntries}
use Rattle.staging_names.specs.declared.entry_name.EntryName.{EntryName}
use Rattle.staging_names.specs.declared.entry_name.Role.{Role}
use Rattle.staging_names.specs.declared.entry_name.Role.TheVariants.{Fresh, Held as PutAside, Temporary}
use Rattle.step_trees.proofs.ChoiceLemmas.{free_taken, taken_is}
use Rattle.step_trees.proofs.CommuteLemmas.{IsOut, some_kept}
use Rattle.step_trees.proofs.CutLemmas.{joined_groups}
use Rattle.step_trees.proofs.GroupLemmas.{Free, clear_before, free_next, tree_step}
use Rattle.step_trees.proofs.LeadLemmas.{Led, LedFrom, based_at, entries_at}
use Rattle.step_trees.proofs.NameLemmas.{IsOwn, own-plan, apart_outside, apart_staged, not_temporary, not_held, not_fresh}
use Rattle.step_trees.specs.Groups.{groups, joined, all_paths, paths_of, to_next_cut, from_last_cut, ComesBySome, taken_of}
use Rattle.step_trees.specs.Leads.{start}
use Rattle.step_trees.specs.Steps.{IsBefore, IsStep, after, step_done}
use Rattle.tree_core.specs.declared.node.Node.{Node}
use Rattle.tree_core.specs.FileTree.{FileTree, IsTree}

-- ---- the names of entries

pub not_entry_name : (x : List ℕ) → IsOwn x → (e : EntryName) → x ≢ name_of e
not_entry_name x own e = by_role e.role
  where
    by_role : (r : Role) → x ≢ spelled r e.number
    by_role Fresh = not_fresh x e.number own
    by_role PutAside = not_held x e.number own
    by_role Temporary = not_temporary x e.number own

-- ---- paths of lists of steps

pub of_first : (p : Names) (ps qs : List Names) → IsOneOf p ps → IsOneOf p (ps ++ qs)
of_first p [] qs of = absurd of
of_first p (x ∷ ps) qs (inl same) = inl same
of_first p (x ∷ ps) qs (inr more) = inr (of_first p ps qs more)

pub of_rest : (p : Names) (ps qs : List Names) → IsOneOf p qs → IsOneOf p (ps ++ qs)
of_rest p [] qs of = of
of_rest p (x ∷ ps) qs of = inr (of_rest p ps qs of)

of_either : (p : Names) (ps qs : List Names) → IsOneOf p (ps ++ qs) → IsOneOf p ps ⊎ IsOneOf p qs
of_either p [] qs of = inr of
of_either p (x ∷ ps) qs (inl same) = inl (inl same)
of_either p (x ∷ ps) qs (inr more) = ⊎_elim (λ a. inl (inr a)) (λ b. inr b) (of_either p ps qs more)

module _ (p : Names) where
  -- of the paths of these steps
  abbrev Of : List Step → Type 0
  Of steps = IsOneOf p (all_paths steps)

  of_take : (n : ℕ) (steps : List Step) → Of (take n steps) → Of steps
  of_take zero steps of = absurd of
  of_take (suc n) [] of = of
  of_take (suc n) (s ∷ steps) of = ⊎_elim (λ a. of_first p (paths_of s) (all_paths steps) a) (λ b. of_rest p (paths_of s) (all_paths steps) (of_take n steps b)) (of_either p (paths_of s) (all_paths (take n steps)) of)

  of_drop : (n : ℕ) (steps : List Step) → Of (drop n steps) → Of steps
  of_drop zero steps of = of
  of_drop (suc n) [] of = of
  of_drop (suc n) (s ∷ steps) of = of_rest p (paths_of s) (all_paths steps) (of_drop n steps of)

  of_front : (f g : List Step) → Of f → Of (f ++ g)
  of_front [] g of = absurd of
  of_front (s ∷ f) g of = ⊎_elim (λ a. of_first p (paths_of s) (all_paths (f ++ g)) a) (λ b. of_rest p (paths_of s) (all_paths (f ++ g)) (of_front f g b)) (of_either p (paths_of s) (all_paths f) of)

  of_behind : (f g : List Step) → Of g → Of (f ++ g)
  of_behind [] g of = of
  of_behind (s ∷ f) g of = of_rest p (paths_of s) (all_paths (f ++ g)) (of_behind f g of)

  of_taken : (g : List Step) (t c : FileTree) (some : ComesBySome g t c) → Of (taken_of g t c some) → Of g
  of_taken [] t c some of = of
  of_taken (s ∷ g) t c (inl left) of = of_rest p (paths_of s) (all_paths g) (of_taken g t c left of)
  of_taken (s ∷ g) t c (inr taken) of =
      ⊎_elim (λ a. of_first p (paths_of s) (all_paths g) a) (λ b. of_rest p (paths_of s) (all_paths g) (of_taken g (step_done s t) c taken b)) (of_either p (paths_of s) (all_paths (taken_of g (step_done s t) c taken)) of)

  of_next : (m : ℕ) (gs : List (List Step)) → Of (to_next_cut m gs) → Of (joined gs)
  of_next m [] of = of
  of_next m (g ∷ gs) of = ⊎_elim
      (λ short. of_front g (joined gs) (of_drop m g (subst Of (cond-true (nat_lt m (length g)) (drop m g) (to_next_cut (m - length g) gs) short) of)))
      (λ long. of_behind g (joined gs) (of_next (m - length g) gs (subst Of (cond-false (nat_lt m (length g)) (drop m g) (to_next_cut (m - length g) gs) long) of)))
      (cases_Bool (nat_lt m (length g)))

  of_last : (m : ℕ) (gs : List (List Step)) → Of (from_last_cut m gs) → Of (joined gs)
  of_last m [] of = of
  of_last m (g ∷ gs) of = ⊎_elim
      (λ short. of_front g (joined gs) (of_take m g (subst Of (cond-true (nat_le m (length g)) (take m g) (from_last_cut (m - length g) gs) short) of)))
      (λ long. of_behind g (joined gs) (of_last (m - length g) gs (subst Of (cond-false (nat_le m (length g)) (take m g) (from_last_cut (m - length g) gs) long) of)))
      (cases_Bool (nat_le m (length g)))

  pub of_next_cut : (m : ℕ) (steps : List Step) → Of (to_next_cut m (groups steps)) → Of steps
  of_next_cut m steps of = subst Of (joined_groups steps) (of_next m (groups steps) of)

  pub of_last_cut : (m : ℕ) (steps : List Step) → Of (from_last_cut m (groups steps)) → Of steps
  of_last_cut m steps of = subst Of (joined_groups steps) (of_last m (groups steps) of)

-- ---- a step names a path in the staging directory, or leaves it

path_or_out : (name : List ℕ) (p : Names) → IsStepPath p → (staged name ≡ p) ⊎ (rest_below p (staged name) ≡ None)
path_or_out name p which = ⊎_elim
    (λ outside. inr (apart_outside name p outside).1)
    (λ (entry : IsEntryPath p). ⊎_elim
    (λ same. inl (ap staged ((bytes_eq-Decides name entry.name).0 same) ∙ sym entry.is))
    (λ other. inr (subst (λ (q : Names). rest_below q (staged name) ≡ None) (sym entry.is) (apart_staged name entry.name (λ e. let yes : bytes_eq name entry.name ≡ true = (bytes_eq-Decides name entry.name).1 e in let clash : true ≡ false = sym yes ∙ other in cc)).1))
    (cases_Bool (bytes_eq name entry.name)))
    which

named_or_out : (name : List ℕ) (s : Step) → IsStep s → IsOneOf (staged name) (paths_of s) ⊎ IsOut s (staged name)
named_or_out name (MakeDir p) lawful = inr (apart_outside name p lawful.lawful).1
named_or_out name (Rename from to) lawful =
    ⊎_elim (λ same. inl (inl same)) (λ out. ⊎_elim (λ same. inl (inr (inl same))) (λ also. inr (out, also)) (path_or_out name to lawful.lawful.1)) (path_or_out name from lawful.lawful.0)
named_or_out name (Mode p old new) lawful = inr (apart_outside name p lawful.lawful.0).1

-- steps that are lawful and before, one behind another
abbrev Chain : List Step → FileTree → Type 0
Chain [] t = Unit {0}
Chain (s ∷ l) t = IsTree t × IsStep s × IsBefore s t × Chain l (step_done s t)

chain_free : (l : List Step) (t : FileTree) → IsTree t → Free l t → Chain l t
chain_free [] t tree free = tt
chain_free (s ∷ l) t tree free = (tree, free.0, free.1, chain_free l (step_done s t) (tree_step s t tree free.0 free.1) (free_next s l t tree free))

chain_led : (j : ℕ) (steps : List Step) (t new : FileTree) → LedFrom t steps new → Chain (take j steps) t
chain_led zero steps t new from = tt
chain_led (suc j) [] t new from = tt
chain_led (suc j) (s ∷ steps) t new from = ((from.0).tree, from.1, from.2, chain_led j steps (step_done s t) new from.3)

module _ (name : List ℕ) where
  abbrev q : Names
  q = staged name

  -- the same stands there
  abbrev Same : FileTree → FileTree → Type 0
  Same t u = is_some (get t q) ≡ is_some (get u q)

  chain_kept : (l : List Step) (t : FileTree) → Chain l t → IsOneOf q (all_paths l) ⊎ Same (after l t) t
  chain_kept [] t chain = inr refl
  chain_kept (s ∷ l) t chain = ⊎_elim
      (λ here. inl (of_first q (paths_of s) (all_paths l) here))
      (λ out. ⊎_elim (λ later. inl (of_rest q (paths_of s) (all_paths l) later)) (λ same. inr (same ∙ some_kept s t q (clear_before s t chain.0 chain.2) out)) (chain_kept l (step_done s t) chain.3))
      (named_or_out name s chain.1)

-- ---- an interrupted tree

-- what of the staging directory u shows, t shows
module _ (Text : List ℕ → Type 0) (steps : List Step) (old new : FileTree) (fresh : List Node) (leads : Led steps old new fresh) where
  abbrev place : ℕ → FileTree
  place k = after (take k steps) (start old fresh)

  place_kept : (name : List ℕ) (j : ℕ) → IsOneOf (staged name) (all_paths steps) ⊎ Same name (place j) (start old fresh)
  place_kept name j = ⊎_elim (λ of. inl (of_take (staged name) j steps of)) (λ same. inr same) (chain_kept name (take j steps) (start old fresh) (chain_led j steps (start old fresh) new leads.from))

  module _ (k : ℕ) (g : List Step) (free : Free g (place k)) (part : (p : Names) → IsOneOf p (all_paths g) → IsOneOf p (all_paths steps)) (u : FileTree) (comes : ComesBySome g (place k) u)
      (marker : List ℕ) (own : IsOwn marker) (other : plan ≢ marker) (t : FileTree) (tree : IsTree t) (s : StandsAs Text marker u t) where
    tree_k : IsTree (place k)
    tree_k = (entries_at steps old new fresh leads k).tree

    group_kept : (name : List ℕ) → IsOneOf (staged name) (all_paths steps) ⊎ Same name u (place k)
    group_kept name = ⊎_elim
        (λ of. inl (part (staged name) (of_taken (staged name) g (place k) u comes of)))
        (λ same. inr (ap (λ x. is_some (get x (staged name))) (taken_is g (place k) u comes) ∙ same))
        (chain_kept name (taken_of g (place k) u comes) (place k) (chain_free (taken_of g (place k) u comes) (place k) tree_k (free_taken g (place k) (place k) u free comes)))

    shown_here : (e : EntryName) → Same (name_of e) t u
    shown_here e = ap is_some (shown_as Text u (based_comes g (place k) u tree_k free (based_at steps old new fresh leads k) comes) marker own other t tree s (name_of e) [] (λ same. not_entry_name marker own e (sym same)) (λ same. not_entry_name plan own-plan e (sym same)))

    same_or_named : (e : EntryName) (j : ℕ) → IsOneOf (staged (name_of e)) (all_paths steps) ⊎ Same (name_of e) (place j) t
    same_or_named e j = ⊎_elim (λ of. inl of)
        (λ one. ⊎_elim (λ of. inl of)
        (λ two. ⊎_elim (λ of. inl of) (λ three. inr (one ∙ sym two ∙ sym three ∙ sym (shown_here e))) (group_kept (name_of e)))
        (place_kept (name_of e) k))
        (place_kept (name_of e) j)

    -- Each entry that stands at some place is looked at.
    pub seen_among : (es : List EntryName) → AreEntries steps t es → (j : ℕ) (e : EntryName) → e.number < 2 ^ 32 → IsTrue (stands_in (place j) e) → IsAmong e es
    seen_among es are j e small stands = ⊎_elim (λ of. are.named e small of) (λ same. are.standing e small (sym same ∙ stands)) (same_or_named e j)
