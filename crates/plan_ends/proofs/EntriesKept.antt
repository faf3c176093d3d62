-- A rename keeps what may stand in the staging directory.
use Rattle.std.proofs.Common.{◌≡◌, ◌≢◌, true, false, ◌⊎◌, inl, inr, ⊎_elim, ℕ, ◌<◌, ◌^◌, List, [], ◌∷◌, ◌++◌, refl, sym, ◌∙◌, ap, subst, Option, Some, None}
use Rattle.std.specs.FinMap.{get}
use Rattle.std.proofs.lemmas.Slice.Eq.{bytes_eq-Decides}
use Rattle.std.specs.Str.{bytes_eq}
use Rattle.std.proofs.lemmas.Bool.{cases_Bool}
use Rattle.std.proofs.lemmas.Option.{none-some}
use Rattle.dired_text.specs.Paths.{Names, rest_below}
use Rattle.dired_text.proofs.PathLemmas.{rest_below-some, append_cancel}
use Rattle.commit_steps.specs.Staging.{staging, staging_name, staged, held}
use Rattle.commit_steps.specs.Steps.{IsOutside, IsStepPath}
use Rattle.tree_core.specs.declared.node.Node.{Node}
use Rattle.tree_core.specs.declared.node.Change.TheVariants.{Rename}
use Rattle.tree_core.specs.FileTree.{FileTree, IsEmptyAt, CanRename, moved, renamed, is_dir_node}
use Rattle.tree_core.proofs.TreeLemmas.{absent_below, dir_stands}
use Rattle.tree_core.proofs.Sound.{tree_kept}
use Rattle.plan_laws.proofs.Renamed.{moved-by, get-moved, came_moved}
use Rattle.step_trees.specs.Entries.{IsTemporary, IsHeld, IsFresh}
use Rattle.step_trees.specs.Leads.{HoldsEntries}
use Rattle.step_trees.proofs.NameLemmas.{none_below}

-- where a rename leads: outside of the staging directory, or to a temporary name, or what has nothing below it is put aside
pub data LeadsTo (t : FileTree) (from to : Names) : Type 0 where
  out : IsOutside to → LeadsTo t from to
  to_temporary : (name : List ℕ) → IsTemporary name → to ≡ staged name → LeadsTo t from to
  aside : (n : ℕ) → n < 2 ^ 32 → to ≡ staged (held n) → IsEmptyAt t from → LeadsTo t from to

pub outside_front : (p r : Names) → IsOutside p → (q : Names) → p ++ r ≡ staging_name ∷ q → ⊥
outside_front [] r outside q e = outside
outside_front (x ∷ p) r outside q e = outside cc

not_above : (from : Names) → IsStepPath from → (r : Names) → staging ≢ from ++ r
not_above from (inl outside) r e = outside_front from r outside [] (sym e)
not_above from (inr entry) r e = let at : staging ≡ staged entry.name ++ r = e ∙ ap (λ (l : Names). l ++ r) entry.is in cc

module _ (t : FileTree) (from to : Names) (holds : HoldsEntries t) (can : CanRename t from to) (lawful : IsStepPath from) where
  staging_same : get (renamed t from to) staging ≡ get t staging
  staging_same = ap (get (renamed t from to)) (sym (moved-by from to staging None (none_below from staging (not_above from lawful)))) ∙ get-moved t from to holds.tree can staging (dir_stands _ holds.stands)

  -- what stands at a place that isn't below the new path stood there before
  pub still : (q : Names) (node : Node) → ((r : Names) → to ++ r ≡ q → ⊥) → get (renamed t from to) q ≡ Some node → get t q ≡ Some node
  still q node other e = let c = came_moved t from to holds.tree can q node e in go c.0 c.1 c.2 (rest_below from c.0) refl
    where
      go : (x : Names) → moved from to x ≡ q → get t x ≡ Some node → (o : Option Names) → rest_below from x ≡ o → get t q ≡ Some node
      go x at stood None below = ap (get t) (sym (sym (moved-by from to x None below) ∙ at)) ∙ stood
      go x at stood (Some r) below = absurd (other r (sym (moved-by from to x (Some r) below) ∙ at))

  -- and what stands below it stood below the old one
  below_new : (r : Names) (node : Node) → get (renamed t from to) (to ++ r) ≡ Some node → get t (from ++ r) ≡ Some node
  below_new r node e = let c = came_moved t from to holds.tree can (to ++ r) node e in go c.0 c.1 c.2 (rest_below from c.0) refl
    where
      go : (x : Names) → moved from to x ≡ to ++ r → get t x ≡ Some node → (o : Option Names) → rest_below from x ≡ o → get t (from ++ r) ≡ Some node
      go x at stood None below = absurd (none-some node (sym (absent_below t holds.tree to can.absent r) ∙ ap (get t) (sym (sym (moved-by from to x None below) ∙ at)) ∙ stood))
      go x at stood (Some s) below = ap (λ (l : Names). get t (from ++ l)) (sym (append_cancel to s r (sym (moved-by from to x (Some s) below) ∙ at))) ∙ ap (get t) (sym (rest_below-some from x s below)) ∙ stood

  -- a place in the staging directory, below which the rename doesn't lead, stays empty
  empty_still : (name : List ℕ) → ((r : Names) → to ++ r ≡ staged name → ⊥) → IsEmptyAt t (staged name) → ((k : List ℕ) (r : Names) → to ++ r ≡ staged name ++ k ∷ [] → ⊥) → IsEmptyAt (renamed t from to) (staged name)
  empty_still name other empty below k = by_node (get (renamed t from to) (staged name ++ k ∷ [])) refl
    where
      by_node : (o : Option Node) → get (renamed t from to) (staged name ++ k ∷ []) ≡ o → get (renamed t from to) (staged name ++ k ∷ []) ≡ None
      by_node None e = e
      by_node (Some node) e = absurd (none-some node (sym (empty k) ∙ still (staged name ++ k ∷ []) node (below k) e))

  stays : (name : List ℕ) (node : Node) → ((r : Names) → to ++ r ≡ staged name → ⊥) → ((k : List ℕ) (r : Names) → to ++ r ≡ staged name ++ k ∷ [] → ⊥) → get t (staged name) ≡ Some node
      → IsTemporary name ⊎ (IsHeld (renamed t from to) name node ⊎ IsFresh name node)
  stays name node other below stood = go (holds.only name node stood)
    where
      go : IsTemporary name ⊎ (IsHeld t name node ⊎ IsFresh name node) → IsTemporary name ⊎ (IsHeld (renamed t from to) name node ⊎ IsFresh name node)
      go (inl put) = inl put
      go (inr (inl h)) = inr (inl (record { number = h.number; small = h.small; named = h.named; kind = ⊎_elim (λ k. inl k) (λ empty. inr (empty_still name other empty below)) h.kind }))
      go (inr (inr f)) = inr (inr f)

  -- where the rename leads to an entry of another name
  beside : (new name : List ℕ) → to ≡ staged new → name ≢ new → ((r : Names) → to ++ r ≡ staged name → ⊥) × ((k : List ℕ) (r : Names) → to ++ r ≡ staged name ++ k ∷ [] → ⊥)
  beside new name at other = (
    λ r e. other (let here : staged new ++ r ≡ staged name = ap (λ (l : Names). l ++ r) (sym at) ∙ e in let same : new ≡ name = cc in sym same),
    λ k r e. other (let here : staged new ++ r ≡ staged name ++ k ∷ [] = ap (λ (l : Names). l ++ r) (sym at) ∙ e in let same : new ≡ name = cc in sym same),
  )

  kinds : LeadsTo t from to → (name : List ℕ) (node : Node) → get (renamed t from to) (staged name) ≡ Some node → IsTemporary name ⊎ (IsHeld (renamed t from to) name node ⊎ IsFresh name node)
  kinds (out outside) name node e =
      stays name node (λ r at. outside_front to r outside (name ∷ []) at) (λ k r at. outside_front to r outside (name ∷ k ∷ []) at)
      (still (staged name) node (λ r at. outside_front to r outside (name ∷ []) at) e)
  kinds (to_temporary new put at) name node e = elim (cases_Bool (bytes_eq name new)) [
    | inl same ↦ inl (subst IsTemporary (sym ((bytes_eq-Decides name new).0 same)) put)
    | inr other ↦ let b = beside new name at (λ is. let both : true ≡ false = sym ((bytes_eq-Decides name new).1 is) ∙ other in cc) in stays name node b.0 b.1 (still (staged name) node b.0 e)
  ]
  kinds (aside n small at empty) name node e = elim (cases_Bool (bytes_eq name (held n))) [
    | inl same ↦
        let is : name ≡ held n = (bytes_eq-Decides name (held n)).0 same in
        inr (inl (record { number = n; small = small; named = is; kind = inr (λ k. by_node k is (get (renamed t from to) (staged name ++ k ∷ [])) refl) }))
    | inr other ↦ let b = beside (held n) name at (λ is. let both : true ≡ false = sym ((bytes_eq-Decides name (held n)).1 is) ∙ other in cc) in stays name node b.0 b.1 (still (staged name) node b.0 e)
  ]
    where
      by_node : (k : List ℕ) → name ≡ held n → (o : Option Node) → get (renamed t from to) (staged name ++ k ∷ []) ≡ o → get (renamed t from to) (staged name ++ k ∷ []) ≡ None
      by_node k is None e = e
      by_node k is (Some below) e = absurd (none-some below (sym (empty k)
          ∙ below_new (k ∷ []) below (ap (λ (l : Names). get (renamed t from to) (l ++ k ∷ [])) (at ∙ ap staged (sym is)) ∙ e)))

  pub entries_renamed : LeadsTo t from to → HoldsEntries (renamed t from to)
  entries_renamed leads = record {
    tree = tree_kept (Rename from to) t 0 refl holds.tree can;
    stands = ap is_dir_node staging_same ∙ holds.stands;
    only = kinds leads;
  }
