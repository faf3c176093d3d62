-- Between two steps that are exchanged the staging directory holds only entries too.
use Rattle.std.proofs.Common.{◌≡◌, ◌⊎◌, inl, inr, ℕ, true, false, List, [], ◌∷◌, ◌++◌, refl, sym, ◌∙◌, ap, subst, Option, Some, None, is_some}
use Rattle.std.proofs.lemmas.Bool.{cases_Bool, false≢true}
use Rattle.std.proofs.lemmas.Slice.Eq.{bytes_eq-Decides}
use Rattle.std.specs.Str.{bytes_eq}
use Rattle.std.specs.FinMap.{get}
use Rattle.dired_text.specs.Paths.{Names, rest_below}
use Rattle.tree_core.specs.declared.node.Node.{Node}
use Rattle.tree_core.specs.declared.node.Node.TheVariants.{Dir, Link, File}
use Rattle.tree_core.specs.FileTree.{FileTree, IsTree, IsEmptyAt, is_dir_node}
use Rattle.commit_steps.specs.Staging.{staging, staging_name, staged}
use Rattle.commit_steps.specs.Steps.{IsOutside, IsStepPath}
use Rattle.commit_steps.specs.declared.step.Step.{Step}
use Rattle.commit_steps.specs.declared.step.Step.TheVariants.{MakeDir, Rename, Mode}
use Rattle.step_trees.proofs.CommuteLemmas.{IsOut, absent_back, absent_there, dir_kept, out_of, out_under, some_kept}
use Rattle.step_trees.proofs.GroupLemmas.{clear_before, tree_step}
use Rattle.step_trees.proofs.NameLemmas.{apart_outside, apart_staged, none_below}
use Rattle.step_trees.proofs.StepLemmas.{IsClearStep}
use Rattle.step_trees.specs.Apart.{AreApart, IsApart, IsApartStep}
use Rattle.step_trees.specs.Entries.{IsFileOrLink, IsFresh, IsHeld, IsTemporary}
use Rattle.step_trees.specs.Leads.{HoldsEntries}
use Rattle.step_trees.specs.Steps.{step_done, IsBefore, IsStep}

-- ---- the paths of steps and those in the staging directory

outside_staging : (p : Names) → IsOutside p → rest_below p staging ≡ None
outside_staging [] outside = absurd outside
outside_staging (x ∷ p) outside = none_below (x ∷ p) staging (λ r e. outside (let k : x ≡ staging_name = cc in k))

path_staging : (p : Names) → IsStepPath p → rest_below p staging ≡ None
path_staging p (inl outside) = outside_staging p outside
path_staging p (inr entry) = none_below p staging (λ r e. let k : staging ≡ staged entry.name ++ r = e ∙ ap (λ (q : Names). q ++ r) entry.is in cc)

out_staging : (s : Step) → IsStep s → IsOut s staging
out_staging (MakeDir p) is = outside_staging p is.lawful
out_staging (Rename from to) is = (path_staging from is.lawful.0, path_staging to is.lawful.1)
out_staging (Mode p old new) is = outside_staging p is.lawful.0

apart_or_same : (x : List ℕ) (p : Names) → IsStepPath p → IsApart (staged x) p ⊎ (p ≡ staged x)
apart_or_same x p (inl outside) = inl (apart_outside x p outside)
apart_or_same x p (inr entry) = by (cases_Bool (bytes_eq x entry.name))
  where
    by : (bytes_eq x entry.name ≡ true) ⊎ (bytes_eq x entry.name ≡ false) → IsApart (staged x) p ⊎ (p ≡ staged x)
    by (inl same) = inr (entry.is ∙ ap staged (sym ((bytes_eq-Decides x entry.name).0 same)))
    by (inr differs) = inl (subst (IsApart (staged x)) (sym entry.is) (apart_staged x entry.name (λ same. false≢true (sym differs ∙ (bytes_eq-Decides x entry.name).1 same))))

-- of two steps that are apart, one names nothing at or below an entry's path
which : (x : List ℕ) (s u : Step) → IsStep s → AreApart s u → IsApartStep (staged x) s ⊎ IsApartStep (staged x) u
which x (MakeDir p) u is apart = inl (apart_outside x p is.lawful)
which x (Mode p old new) u is apart = inl (apart_outside x p is.lawful.0)
which x (Rename from to) u is apart = by (apart_or_same x from is.lawful.0) (apart_or_same x to is.lawful.1)
  where
    by : IsApart (staged x) from ⊎ (from ≡ staged x) → IsApart (staged x) to ⊎ (to ≡ staged x) → IsApartStep (staged x) (Rename from to) ⊎ IsApartStep (staged x) u
    by (inl a) (inl b) = inl (a, b)
    by (inr same) b = inr (subst (λ (p : Names). IsApartStep p u) same apart.0)
    by (inl a) (inr same) = inr (subst (λ (p : Names). IsApartStep p u) same apart.1)

-- ---- entries of the same kind

file_or_link : (node : Node) → is_dir_node (Some node) ≡ false → IsFileOrLink node
file_or_link (Dir mode) e = cc
file_or_link (Link target) e = tt
file_or_link (File number bytes mode) e = tt

no_dir : (node : Node) → IsFileOrLink node → is_dir_node (Some node) ≡ false
no_dir (Dir mode) is = absurd is
no_dir (Link target) is = refl
no_dir (File number bytes mode) is = refl

-- something stands there in both trees or in none, as a directory in both or in none, and what is empty stays so
record Alike (t v : FileTree) (name : List ℕ) : Type 0 where
  pub some : is_some (get v (staged name)) ≡ is_some (get t (staged name))
  pub dir : is_dir_node (get v (staged name)) ≡ is_dir_node (get t (staged name))
  pub empty : IsEmptyAt t (staged name) → IsEmptyAt v (staged name)

module _ (t v : FileTree) (name : List ℕ) (alike : Alike t v name) (a b : Node) (at_t : get t (staged name) ≡ Some a) (at_v : get v (staged name) ≡ Some b) where
  link_there : IsFileOrLink a → IsFileOrLink b
  link_there is = file_or_link b (sym (ap is_dir_node at_v) ∙ alike.dir ∙ ap is_dir_node at_t ∙ no_dir a is)

  held_there : IsFileOrLink a ⊎ IsEmptyAt t (staged name) → IsFileOrLink b ⊎ IsEmptyAt v (staged name)
  held_there (inl is) = inl (link_there is)
  held_there (inr empty) = inr (alike.empty empty)

  entry_there : IsTemporary name ⊎ (IsHeld t name a ⊎ IsFresh name a) → IsTemporary name ⊎ (IsHeld v name b ⊎ IsFresh name b)
  entry_there (inl is) = inl is
  entry_there (inr (inl is)) = inr (inl (record { number = is.number; small = is.small; named = is.named; kind = held_there is.kind }))
  entry_there (inr (inr is)) = inr (inr (record { number = is.number; small = is.small; named = is.named; kind = link_there is.kind }))

entry_of : (t v : FileTree) (name : List ℕ) (node : Node) → Alike t v name → HoldsEntries t → get v (staged name) ≡ Some node → IsTemporary name ⊎ (IsHeld v name node ⊎ IsFresh name node)
entry_of t v name node alike holds here = by (get t (staged name)) refl
  where
    by : (o : Option Node) → get t (staged name) ≡ o → IsTemporary name ⊎ (IsHeld v name node ⊎ IsFresh name node)
    by None e = absurd (false≢true (sym (ap is_some e) ∙ sym alike.some ∙ ap is_some here))
    by (Some a) e = entry_there t v name alike a node e here (holds.only name a e)

-- ---- the tree between two steps

alike_behind : (u : Step) (t : FileTree) (name : List ℕ) → IsClearStep u t → IsApartStep (staged name) u → Alike t (step_done u t) name
alike_behind u t name clear apart = record {
  some = some_kept u t (staged name) clear (out_of u (staged name) apart);
  dir = dir_kept u t (staged name) clear (out_of u (staged name) apart);
  empty = λ empty x. absent_there u t (staged name ++ x ∷ []) clear (out_under u (staged name) (x ∷ []) apart) (empty x);
}

alike_before : (s : Step) (v : FileTree) (name : List ℕ) → IsClearStep s v → IsApartStep (staged name) s → Alike (step_done s v) v name
alike_before s v name clear apart = record {
  some = sym (some_kept s v (staged name) clear (out_of s (staged name) apart));
  dir = sym (dir_kept s v (staged name) clear (out_of s (staged name) apart));
  empty = λ empty x. absent_back s v (staged name ++ x ∷ []) clear (out_under s (staged name) (x ∷ []) apart) (empty x);
}

-- it holds only entries where the trees before and behind both do
pub entries_between : (s u : Step) (t : FileTree) → AreApart s u → IsStep s → IsStep u → IsBefore u t → IsBefore s (step_done u t) → HoldsEntries t → HoldsEntries (step_done s (step_done u t)) → HoldsEntries (step_done u t)
entries_between s u t apart is_s is_u before_u before_s holds behind = record {
  tree = tree;
  stands = dir_kept u t staging clear_u (out_staging u is_u) ∙ holds.stands;
  only = λ name node here. by name node here (which name s u is_s apart);
}
  where
    tree : IsTree (step_done u t)
    tree = tree_step u t holds.tree is_u before_u

    clear_u : IsClearStep u t
    clear_u = clear_before u t holds.tree before_u

    clear_s : IsClearStep s (step_done u t)
    clear_s = clear_before s (step_done u t) tree before_s

    by : (name : List ℕ) (node : Node) → get (step_done u t) (staged name) ≡ Some node → IsApartStep (staged name) s ⊎ IsApartStep (staged name) u
        → IsTemporary name ⊎ (IsHeld (step_done u t) name node ⊎ IsFresh name node)
    by name node here (inl off) = entry_of (step_done s (step_done u t)) (step_done u t) name node (alike_before s (step_done u t) name clear_s off) behind here
    by name node here (inr off) = entry_of t (step_done u t) name node (alike_behind u t name clear_u off) holds here
