-- The trees that steps lead through.
use Rattle.std.proofs.Common.{◌≡◌, ⊎_elim, ℕ, zero, suc, ◌+◌, ◌<◌, List, [], ◌∷◌, ◌++◌, length, take, drop, get_or, refl, sym, ◌∙◌, ap, subst, arith, Option, Some, None}
use Rattle.std.proofs.lemmas.List.{drop_more, take_more, drop_all}
use Rattle.std.specs.FinMap.{get}
use Rattle.tree_core.specs.declared.node.Node.{Node}
use Rattle.tree_core.specs.FileTree.{FileTree, IsAbsent, IsDir}
use Rattle.commit_steps.specs.Staging.{staging, staged}
use Rattle.commit_steps.specs.declared.step.Step.{Step}
use Rattle.step_trees.proofs.NameLemmas.{IsOwn, not_held, not_temporary, not_fresh}
use Rattle.commit_steps.specs.Steps.{HasPaths}
use Rattle.std.specs.List.{AllByRecursion}
use Rattle.step_trees.specs.Groups.{groups}
use Rattle.step_trees.specs.Entries.{IsHeld, IsFresh, IsTemporary}
use Rattle.step_trees.specs.Leads.{start, HoldsEntries, Ends, LeadsFrom, GroupsSetOthers, Leads}
use Rattle.step_trees.specs.Steps.{step_done, after, IsStep, IsBefore}

-- ---- where the steps lead

pub after-push : (steps : List Step) (step : Step) (t : FileTree) → after (steps ++ step ∷ []) t ≡ step_done step (after steps t)
after-push [] step t = refl
after-push (s ∷ steps) step t = after-push steps step (step_done s t)

pub after-more : (steps : List Step) (k : ℕ) (step : Step) (t : FileTree) → k < length steps → step ≡ get_or steps k step → after (take (k + 1) steps) t ≡ step_done step (after (take k steps) t)
after-more steps k step t within is = ap (λ l. after l t) (take_more steps k step within ∙ ap (λ x. take k steps ++ x ∷ []) (sym is)) ∙ after-push (take k steps) step t

-- The same of steps that a journal spells.
abbrev pub LedFrom : FileTree → List Step → FileTree → Type 0
LedFrom t [] new = HoldsEntries t × Ends new t
LedFrom t (step ∷ steps) new = HoldsEntries t × IsStep step × IsBefore step t × LedFrom (step_done step t) steps new

pub record Led (steps : List Step) (old new : FileTree) (fresh : List Node) : Type 0 where
  pub leads : Leads steps old new fresh
  pub from : LedFrom (start old fresh) steps new
  pub others : GroupsSetOthers (start old fresh) (groups steps)

led_from : (t : FileTree) (steps : List Step) (new : FileTree) → LeadsFrom t steps new → AllByRecursion HasPaths steps → LedFrom t steps new
led_from t [] new leads paths = leads
led_from t (s ∷ steps) new leads paths = (leads.0, record { paths = paths.0; lawful = leads.1 }, leads.2, led_from (step_done s t) steps new leads.3 paths.1)

pub led : (steps : List Step) (old new : FileTree) (fresh : List Node) → Leads steps old new fresh → AllByRecursion HasPaths steps → Led steps old new fresh
led steps old new fresh leads paths = record { leads = leads; from = led_from (start old fresh) steps new leads.from paths; others = leads.others }

pub leads_at : (t : FileTree) (steps : List Step) (new : FileTree) (j : ℕ) → LedFrom t steps new → LedFrom (after (take j steps) t) (drop j steps) new
leads_at t steps new zero leads = leads
leads_at t [] new (suc j) leads = leads
leads_at t (s ∷ steps) new (suc j) leads = leads_at (step_done s t) steps new j leads.3

pub holds_at : (t : FileTree) (steps : List Step) (new : FileTree) → LedFrom t steps new → HoldsEntries t
holds_at t [] new leads = leads.0
holds_at t (s ∷ steps) new leads = leads.0

-- its staging directory stands, and has no journal and no marker
pub record Based (u : FileTree) : Type 0 where
  pub stands : IsDir u staging
  pub none : (name : List ℕ) → IsOwn name → IsAbsent u (staged name)

based_entries : (u : FileTree) → HoldsEntries u → Based u
based_entries u entries = record { stands = entries.stands; none = λ name own. by_node name own (get u (staged name)) refl }
  where
    by_node : (name : List ℕ) → IsOwn name → (o : Option Node) → get u (staged name) ≡ o → o ≡ None
    by_node name own None e = refl
    by_node name own (Some node) e = absurd (⊎_elim (λ (k : IsTemporary name). not_temporary name k.number own k.named)
        (λ more. ⊎_elim (λ (k : IsHeld u name node). not_held name k.number own k.named) (λ (k : IsFresh name node). not_fresh name k.number own k.named) more)
        (entries.only name node e))

module _ (steps : List Step) (old new : FileTree) (fresh : List Node) (leads : Led steps old new fresh) where
  pub entries_at : (j : ℕ) → HoldsEntries (after (take j steps) (start old fresh))
  entries_at j = holds_at _ (drop j steps) new (leads_at (start old fresh) steps new j leads.from)

  leads_here : (k : ℕ) (step : Step) → k < length steps → step ≡ get_or steps k step → LedFrom (after (take k steps) (start old fresh)) (step ∷ drop (k + 1) steps) new
  leads_here k step within is =
      subst (λ l. LedFrom (after (take k steps) (start old fresh)) l new) (drop_more steps k step within ∙ ap (λ x. x ∷ drop (k + 1) steps) (sym is)) (leads_at (start old fresh) steps new k leads.from)

  pub step_at : (k : ℕ) (step : Step) → k < length steps → step ≡ get_or steps k step → IsStep step
  step_at k step within is = (leads_here k step within is).1

  pub before_at : (k : ℕ) (step : Step) → k < length steps → step ≡ get_or steps k step → IsBefore step (after (take k steps) (start old fresh))
  before_at k step within is = (leads_here k step within is).2

  pub ends_at : Ends new (after (take (length steps) steps) (start old fresh))
  ends_at = (subst (λ l. LedFrom (after (take (length steps) steps) (start old fresh)) l new) (drop_all (length steps) steps (omega arith)) (leads_at (start old fresh) steps new (length steps) leads.from)).1

  pub based_at : (j : ℕ) → Based (after (take j steps) (start old fresh))
  based_at j = based_entries _ (entries_at j)
