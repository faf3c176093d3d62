-- The seal and the cleaning behind it, and the end of a way back: what `CloseLemmas` needs for each.
use Rattle.std.proofs.Common.{◌≡◌, ◌≢◌, ◌⊎◌, inl, inr, ⊎_elim, ℕ, ◌+◌, List, [], ◌∷◌, ◌++◌, length, refl, sym, ◌∙◌, Some}
use Rattle.std.proofs.lemmas.Option.{none-some}
use Rattle.std.specs.FinMap.{get, insert, remove}
use Rattle.dired_text.specs.Paths.{Names}
use Rattle.tree_core.specs.declared.changes.Fresh.{Fresh}
use Rattle.tree_core.specs.declared.node.Node.{Node}
use Rattle.tree_core.specs.declared.node.Node.TheVariants.{Dir}
use Rattle.tree_core.specs.FileTree.{FileTree, IsTree, IsAbsent}
use Rattle.tree_core.proofs.TreeLemmas.{absent_below}
use Rattle.tree_core.proofs.Sound.{by_place, get-inserted_other}
use Rattle.commit_states.proofs.CloseLemmas.{Sealed, Last, IsLast, AreOthers}
use Rattle.commit_states.specs.Calls.{held_items, fresh_items}
use Rattle.commit_states.specs.Interrupted.{IsInterruptedBy, nothing_staged, no_journal, behind_seal, all_undone}
use Rattle.commit_states.specs.declared.held.Held.{Held}
use Rattle.commit_steps.specs.Staging.{staging, staged, plan, sealed, undone, at_marker, back_marker, temporary, held, fresh_name}
use Rattle.commit_steps.specs.declared.step.Step.{Step}
use Rattle.step_trees.proofs.LeadLemmas.{Led, entries_at}
use Rattle.step_trees.proofs.NameLemmas.{IsOwn, own-sealed, own-undone, own-at, own-back, not_held, not_fresh, differ, i-plan, i-sealed, i-undone, i-at, i-back, i-temporary, i-held, i-fresh}
use Rattle.step_trees.proofs.RemovalLemmas.{removed-absent}
use Rattle.step_trees.specs.Entries.{IsHeld, IsFresh, IsTemporary, HoldsOnly}
use Rattle.step_trees.specs.Leads.{start, with_fresh}

-- ---- behind the seal

abbrev pub last_marker : List Step → List ℕ
last_marker steps = at_marker (length steps)

pub own-last_marker : (steps : List Step) → IsOwn (last_marker steps)
own-last_marker steps = own-at (length steps)

pub sealed_plan : sealed ≢ plan
sealed_plan = differ sealed plan 100 112 i-sealed i-plan refl

pub plan-last_marker : (steps : List Step) → plan ≢ last_marker steps
plan-last_marker steps = differ plan (last_marker steps) 112 97 i-plan (i-at (length steps)) refl

pub sealed-last_marker : (steps : List Step) → sealed ≢ last_marker steps
sealed-last_marker steps = differ sealed (last_marker steps) 100 97 i-sealed (i-at (length steps)) refl

pub less_held : (u : FileTree) (p : Names) (name : List ℕ) (node : Node) → IsHeld u name node → IsHeld (remove u p) name node
less_held u p name node h = record { number = h.number; small = h.small; named = h.named; kind = ⊎_elim (λ k. inl k) (λ empty. inr (λ child. removed-absent u p _ (empty child))) h.kind }

pub carry_held : (t u : FileTree) (name : List ℕ) (node : Node) → ((r : Names) → get u (staged name ++ r) ≡ get t (staged name ++ r)) → IsHeld t name node → IsHeld u name node
carry_held t u name node same h = record { number = h.number; small = h.small; named = h.named; kind = ⊎_elim (λ k. inl k) (λ empty. inr (λ child. same (child ∷ []) ∙ empty child)) h.kind }

-- `done` stands, while the other names are removed, and then while it is removed itself
abbrev pub IsSealed : (List ℕ → Type 0) → List Step → FileTree → FileTree → Type 0
IsSealed Text steps target = Sealed sealed (last_marker steps) own-sealed (own-last_marker steps) sealed_plan (plan-last_marker steps) (sealed-last_marker steps) Text steps target IsHeld less_held

abbrev pub LastSealed : (List ℕ → Type 0) → List Step → FileTree → FileTree → Type 0
LastSealed Text steps target = Last sealed (last_marker steps) own-sealed (own-last_marker steps) sealed_plan (plan-last_marker steps) (sealed-last_marker steps) Text steps target IsHeld less_held

abbrev pub IsLastSealed : (List ℕ → Type 0) → List Step → FileTree → FileTree → Type 0
IsLastSealed Text steps target = IsLast sealed (last_marker steps) own-sealed (own-last_marker steps) sealed_plan (plan-last_marker steps) (sealed-last_marker steps) Text steps target IsHeld less_held

pub held_others : (Text : List ℕ → Type 0) (steps : List Step) (target : FileTree) (hs : List Held) → AreOthers sealed (last_marker steps) own-sealed (own-last_marker steps) sealed_plan (plan-last_marker steps) (sealed-last_marker steps) Text steps target IsHeld less_held (held_items hs)
held_others Text steps target [] = tt
held_others Text steps target (h ∷ hs) = (λ e. not_held sealed h.number own-sealed (sym e), λ e. not_held (last_marker steps) h.number (own-last_marker steps) (sym e), held_others Text steps target hs)

module _ (Text : List ℕ → Type 0) (steps : List Step) (old new : FileTree) (fresh : List Node) (leads : Led steps old new fresh) where
  pub sealed_gives : (t : FileTree) → IsSealed Text steps new t → IsInterruptedBy Text steps old new fresh t
  sealed_gives t s = behind_seal leads.leads s.dir s.journal s.only s.is

  pub last_gives : (t : FileTree) → IsLastSealed Text steps new t → IsInterruptedBy Text steps old new fresh t
  last_gives t (inl l) = behind_seal leads.leads l.dir l.journal (λ name node e. inl (l.only name node e)) l.is
  last_gives t (inr (inl e)) = no_journal e.dir (λ name node is. absurd (e.only name node is)) (inr e.is)
  last_gives t (inr (inr gone)) = nothing_staged gone.0 (inr gone.1)

-- ---- at the end of a way back

abbrev pub back0 : List ℕ
back0 = back_marker 0

pub undone_plan : undone ≢ plan
undone_plan = differ undone plan 117 112 i-undone i-plan refl

pub plan_back0 : plan ≢ back0
plan_back0 = differ plan back0 112 98 i-plan (i-back 0) refl

pub undone_back0 : undone ≢ back0
undone_back0 = differ undone back0 117 98 i-undone (i-back 0) refl

abbrev pub FreshIn : FileTree → List ℕ → Node → Type 0
FreshIn t name node = IsFresh name node

pub less_fresh : (u : FileTree) (p : Names) (name : List ℕ) (node : Node) → FreshIn u name node → FreshIn (remove u p) name node
less_fresh u p name node f = f

pub carry_fresh : (t u : FileTree) (name : List ℕ) (node : Node) → ((r : Names) → get u (staged name ++ r) ≡ get t (staged name ++ r)) → FreshIn t name node → FreshIn u name node
carry_fresh t u name node same f = f

-- the same of `undone`
abbrev pub IsUndone : (List ℕ → Type 0) → List Step → FileTree → FileTree → Type 0
IsUndone Text steps target = Sealed undone back0 own-undone (own-back 0) undone_plan plan_back0 undone_back0 Text steps target FreshIn less_fresh

abbrev pub LastUndone : (List ℕ → Type 0) → List Step → FileTree → FileTree → Type 0
LastUndone Text steps target = Last undone back0 own-undone (own-back 0) undone_plan plan_back0 undone_back0 Text steps target FreshIn less_fresh

abbrev pub IsLastUndone : (List ℕ → Type 0) → List Step → FileTree → FileTree → Type 0
IsLastUndone Text steps target = IsLast undone back0 own-undone (own-back 0) undone_plan plan_back0 undone_back0 Text steps target FreshIn less_fresh

pub fresh_others : (Text : List ℕ → Type 0) (steps : List Step) (target : FileTree) (fs : List Fresh) (k : ℕ) → AreOthers undone back0 own-undone (own-back 0) undone_plan plan_back0 undone_back0 Text steps target FreshIn less_fresh (fresh_items k fs)
fresh_others Text steps target [] k = tt
fresh_others Text steps target (f ∷ fs) k = (λ e. not_fresh undone k own-undone (sym e), λ e. not_fresh back0 k (own-back 0) (sym e), fresh_others Text steps target fs (k + 1))

module _ (Text : List ℕ → Type 0) (steps : List Step) (old new : FileTree) (fresh : List Node) (leads : Led steps old new fresh) where
  pub undone_gives : (t : FileTree) → IsUndone Text steps old t → IsInterruptedBy Text steps old new fresh t
  undone_gives t s = all_undone leads.leads s.dir s.journal s.only s.is

  pub old_gives : (t : FileTree) → IsLastUndone Text steps old t → IsInterruptedBy Text steps old new fresh t
  old_gives t (inl l) = all_undone leads.leads l.dir l.journal (λ name node e. inl (l.only name node e)) l.is
  old_gives t (inr (inl e)) = no_journal e.dir (λ name node is. absurd (e.only name node is)) (inl e.is)
  old_gives t (inr (inr gone)) = nothing_staged gone.0 (inl gone.1)

  -- the first tree holds fresh entries alone
  in_start : (nodes : List Node) (k : ℕ) (t : FileTree) (name : List ℕ) (node : Node) → get (with_fresh k nodes t) (staged name) ≡ Some node → ((j : ℕ) × (name ≡ fresh_name j)) ⊎ (get t (staged name) ≡ Some node)
  in_start [] k t name node e = inr e
  in_start (n ∷ nodes) k t name node e = ⊎_elim (λ f. inl f)
      (by_place t (staged (fresh_name k)) n (staged name) (λ o. o ≡ Some node → ((j : ℕ) × (name ≡ fresh_name j)) ⊎ (get t (staged name) ≡ Some node))
      (λ same _. inl (k, let is : name ≡ fresh_name k = cc in is)) (λ other there. inr there))
      (in_start nodes (k + 1) (insert t (staged (fresh_name k)) n) name node e)

  pub start_only : IsTree old → IsAbsent old staging → HoldsOnly (start old fresh) (FreshIn (start old fresh))
  start_only tree absent name node e = ⊎_elim
      (λ (f : (j : ℕ) × (name ≡ fresh_name j)). ⊎_elim
      (λ (t : IsTemporary name). absurd (differ (temporary t.number) (fresh_name f.0) 116 102 (i-temporary t.number) (i-fresh f.0) refl (sym t.named ∙ f.1)))
      (λ more. ⊎_elim (λ (h : IsHeld (start old fresh) name node). absurd (differ (held h.number) (fresh_name f.0) 104 102 (i-held h.number) (i-fresh f.0) refl (sym h.named ∙ f.1))) (λ x. x) more)
      ((entries_at steps old new fresh leads 0).only name node e))
      (λ there. absurd (none-some node (sym (get-inserted_other old staging (Dir 0o700) (staged name) (λ same. let k : staged name ≡ staging = same in cc) ∙ absent_below old tree staging absent (name ∷ [])) ∙ there)))
      (in_start fresh 0 (insert old staging (Dir 0o700)) name node e)
