-- The end of a recovery, as code makes it.
use Rattle.std.proofs.Common.{◌≡◌, ℕ, true, false, List, [], ◌∷◌, ◌++◌, sym, ◌∙◌, ap, subst}
use Rattle.std.proofs.lemmas.Bool.{cond-true, cond-false}
use Rattle.std.specs.List.{AllByRecursion, list_any}
use Rattle.commit_calls.specs.Parts.{close_up_calls}
use Rattle.commit_states.specs.Calls.{removals_by}
use Rattle.commit_steps.specs.Staging.{plan, staged, staging}
use Rattle.dired_text.specs.Paths.{Names}
use Rattle.recovery_calls.specs.declared.ending.Ending.{Ending}
use Rattle.recovery_calls.specs.Endings.{MayEnd, barred_at, bars, ended, ended_calls, gone_in, last_marker, last_name}
use Rattle.recovery_calls.specs.Underway.{AreOnce, IsUnderway}
use Rattle.recovery_calls.proofs.EndingLemmas.{Alike, all_renamed, can_close, end_calls_are, gone_alike, may_alike, underway_end}
use Rattle.recovery_calls.proofs.KeepLemmas.{can_move, moved_marker, nothing_there, turned}
use Rattle.recovery_calls.proofs.MarkerLemmas.{last_marker_plan, last_named, last_other, last_plan, own_last, own_last_marker}
use Rattle.recovery_courses.specs.Course.{strange_at, these}
use Rattle.staging_names.specs.declared.entry_name.EntryName.{EntryName}
use Rattle.step_trees.proofs.NameLemmas.{own-plan}
use Rattle.tree_core.specs.declared.node.Change.{Change}
use Rattle.tree_core.specs.declared.node.Change.TheVariants as call
use Rattle.tree_core.specs.FileTree.{FileTree}
use Rattle.tree_core.specs.History.{History, IsSound, current_tree}
use Rattle.tree_core.specs.Runs.{CanAll, then_all}
use Rattle.tree_core.proofs.TreeLemmas.{absent_below}

pub end_barred : (end : Ending) (n : ℕ) (es : List EntryName) (h : History) (k : ℕ) → list_any (bars end (current_tree h)) es ≡ true → k ≡ barred_at end n → ended end n es h ≡ strange_at k
end_barred end n es h k is number =
    cond-true (list_any (bars end (current_tree h)) es) (strange_at (barred_at end n)) (these (ended_calls end n es (current_tree h))) is ∙ ap (λ m. strange_at m) (sym number)

pub end_open : (end : Ending) (n : ℕ) (es : List EntryName) (h : History) → list_any (bars end (current_tree h)) es ≡ false → ended end n es h ≡ these (ended_calls end n es (current_tree h))
end_open end n es h is = cond-false (list_any (bars end (current_tree h)) es) (strange_at (barred_at end n)) (these (ended_calls end n es (current_tree h))) is

module _ (end : Ending) (n : ℕ) (es : List EntryName) (h : History) (sound : IsSound h) (once : AreOnce es) (may : AllByRecursion (MayEnd end (current_tree h)) es)
    (u : IsUnderway plan (last_marker end n) es (current_tree h)) where
  can_seal : CanAll (call.Rename (staged plan) (staged (last_name end)) ∷ call.Sync ∷ []) h
  can_seal = (
    can_move (last_marker end n) plan (last_name end) es (current_tree h) (own_last end) (last_other end n) (last_plan end) (turned plan (last_marker end n) es (current_tree h) u) (last_named end),
    (tt, tt),
  )

  pub can_seal_at : (from to : Names) → from ≡ staged plan → to ≡ staged (last_name end) → CanAll (call.Rename from to ∷ call.Sync ∷ []) h
  can_seal_at from to from_is to_is =
      subst (λ (p : Names). CanAll (call.Rename p to ∷ call.Sync ∷ []) h) (sym from_is)
      (subst (λ (p : Names). CanAll (call.Rename (staged plan) p ∷ call.Sync ∷ []) h) (sym to_is) can_seal)

  module _ (mid : History) (is : mid ≡ then_all h (call.Rename (staged plan) (staged (last_name end)) ∷ call.Sync ∷ [])) where
    there : IsUnderway (last_name end) (last_marker end n) es (current_tree mid)
    there =
        subst (λ (x : History). IsUnderway (last_name end) (last_marker end n) es (current_tree x)) (sym is)
        (turned (last_marker end n) (last_name end) es (current_tree (then_all h (call.Rename (staged plan) (staged (last_name end)) ∷ call.Sync ∷ [])))
        (moved_marker (last_marker end n) plan (last_name end) es (current_tree h) (own_last end) (last_other end n) (last_plan end) (turned plan (last_marker end n) es (current_tree h) u) sound.tree (last_marker_plan end n)))

    alike : AllByRecursion (Alike (current_tree h) (current_tree mid)) es
    alike =
        subst (λ (x : History). AllByRecursion (Alike (current_tree h) (current_tree x)) es) (sym is)
        (all_renamed (current_tree h) plan (last_name end) es own-plan (own_last end)
        (absent_below (current_tree h) sound.tree (staged (last_name end))
        (nothing_there (last_marker end n) plan (last_name end) es (current_tree h) (own_last end) (last_other end n) (last_plan end) (turned plan (last_marker end n) es (current_tree h) u))))

    pub may_there : AllByRecursion (MayEnd end (current_tree mid)) es
    may_there = may_alike end (current_tree h) (current_tree mid) es alike may

    pub gone_there : gone_in end (current_tree mid) es ≡ gone_in end (current_tree h) es
    gone_there = gone_alike end (current_tree h) (current_tree mid) es alike

    pub can_last : (low : History) → low ≡ then_all mid (removals_by (gone_in end (current_tree mid) es)) → CanAll (close_up_calls (staged (last_marker end n)) (staged (last_name end)) staging) low
    can_last low done =
        can_close (last_name end) (last_marker end n) low (last_other end n)
        (subst (λ (x : History). IsUnderway (last_name end) (last_marker end n) [] (current_tree x)) (sym done)
        (underway_end (last_name end) (last_marker end n) (own_last end) (own_last_marker end n) end es mid once may_there there))

-- the calls, as code makes them
pub ended_as : (end : Ending) (n : ℕ) (es : List EntryName) (t : FileTree) → ended_calls end n es t
    ≡ (call.Rename (staged plan) (staged (last_name end)) ∷ call.Sync ∷ []) ++ (removals_by (gone_in end t es) ++ close_up_calls (staged (last_marker end n)) (staged (last_name end)) staging)
ended_as end n es t = ap (λ (l : List Change). (call.Rename (staged plan) (staged (last_name end)) ∷ call.Sync ∷ []) ++ l) (end_calls_are (gone_in end t es) (last_marker end n) (last_name end))

-- where the paths are those of the staging directory
pub rename_as : (from to : Names) (end : Ending) → from ≡ staged plan → to ≡ staged (last_name end)
    → ◌≡◌ {A = List Change} (call.Rename from to ∷ call.Sync ∷ []) (call.Rename (staged plan) (staged (last_name end)) ∷ call.Sync ∷ [])
rename_as from to end from_is to_is =
    ap (λ (p : Names). call.Rename p to ∷ call.Sync ∷ []) from_is ∙ ap (λ (p : Names). call.Rename (staged plan) p ∷ call.Sync ∷ []) to_is

pub close_as : (marker journal directory : Names) (m j : List ℕ) → marker ≡ staged m → journal ≡ staged j → directory ≡ staging → close_up_calls marker journal directory ≡ close_up_calls (staged m) (staged j) staging
close_as marker journal directory m j marker_is journal_is directory_is =
    ap (λ (p : Names). close_up_calls p journal directory) marker_is ∙ ap (λ (p : Names). close_up_calls (staged m) p directory) journal_is ∙ ap (λ (p : Names). close_up_calls (staged m) (staged j) p) directory_is
