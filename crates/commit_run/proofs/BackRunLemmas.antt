-- What is left of a way back, behind its parts.
use Rattle.std.proofs.Common.{◌≡◌, ℕ, ◌+◌, ◌<◌, Bool, true, false, List, [], ◌∷◌, ◌++◌, length, drop, get_or, refl, sym, ◌∙◌, ap, is_some}
use Rattle.std.specs.FinMap.{get, remove}
use Rattle.std.proofs.lemmas.Bool.{cond-true, cond-false}
use Rattle.std.proofs.lemmas.List.{drop_more}
use Rattle.dired_text.specs.Paths.{Names}
use Rattle.commit_run.specs.BeforePlan.{removed_at, standing_removed, unstaged_all, unstaging, way_before}
use Rattle.commit_run.specs.WayBack.{marked_cut, turn_cut, turned_marker, undone_groups, way_back, way_from}
use Rattle.commit_run.proofs.RestLemmas.{Rest, rest_all, rest_as, rest_next, rest_seen}
use Rattle.commit_states.specs.Calls.{end_calls}
use Rattle.commit_steps.specs.declared.step.Step.{Step}
use Rattle.commit_steps.specs.Staging.{staging, staged, plan}
use Rattle.tree_core.specs.declared.changes.Fresh.{Fresh}
use Rattle.tree_core.specs.declared.node.Change.{Change}
use Rattle.tree_core.specs.declared.node.Change.TheVariants as call
use Rattle.tree_core.specs.FileTree.{FileTree}
use Rattle.tree_core.specs.History.{History, Then, current_tree}
use Rattle.tree_core.specs.Runs.{then_all}

module _ (steps : List Step) (fs : List Fresh) (cut from : ℕ) (began mid : History) (from_is : from ≡ turn_cut steps cut (current_tree began)) (turned : mid ≡ then_all began (turned_marker steps cut (current_tree began))) where
  abbrev turn : List Change
  turn = turned_marker steps cut (current_tree began)

  pub behind_turn : Rest (way_from steps fs cut began) began mid (undone_groups steps from mid ++ end_calls fs)
  behind_turn =
      rest_as (way_from steps fs cut began) began mid (undone_groups steps (turn_cut steps cut (current_tree began)) (then_all began turn) ++ end_calls fs) (undone_groups steps from mid ++ end_calls fs)
      (rest_next (way_from steps fs cut began) began began mid turn (undone_groups steps (turn_cut steps cut (current_tree began)) (then_all began turn) ++ end_calls fs)
      (rest_all (way_from steps fs cut began) began began refl) turned)
      (ap (λ n. undone_groups steps n (then_all began turn) ++ end_calls fs) (sym from_is) ∙ ap (λ (h : History). undone_groups steps from h ++ end_calls fs) (sym turned))

  pub behind_groups : (now : History) → now ≡ then_all mid (undone_groups steps from mid) → Rest (way_from steps fs cut began) began now (end_calls fs)
  behind_groups now is = rest_next (way_from steps fs cut began) began mid now (undone_groups steps from mid) (end_calls fs) behind_turn is

module _ (steps : List Step) (fs : List Fresh) (group : ℕ) (began mid : History) (synced : mid ≡ Then began call.Sync) where
  pub behind_sync : Rest (way_back steps fs group began) began mid (way_from steps fs (marked_cut steps group (current_tree began)) (Then began call.Sync))
  behind_sync =
      rest_next (way_back steps fs group began) began began mid (call.Sync ∷ []) (way_from steps fs (marked_cut steps group (current_tree began)) (Then began call.Sync))
      (rest_all (way_back steps fs group began) began began refl) synced

  pub behind_look : (now : History) (cut : ℕ) → now ≡ mid → cut ≡ marked_cut steps group (current_tree mid) → Rest (way_back steps fs group began) began now (way_from steps fs cut now)
  behind_look now cut same is =
      let cut_is : cut ≡ marked_cut steps group (current_tree began) = is ∙ ap (λ (h : History). marked_cut steps group (current_tree h)) synced in
      rest_as (way_back steps fs group began) began now (way_from steps fs (marked_cut steps group (current_tree began)) (Then began call.Sync)) (way_from steps fs cut now)
      (rest_seen (way_back steps fs group began) began mid now (way_from steps fs (marked_cut steps group (current_tree began)) (Then began call.Sync)) behind_sync same)
      (ap (λ n. way_from steps fs n (Then began call.Sync)) (sym cut_is) ∙ ap (λ (h : History). way_from steps fs cut h) (sym (same ∙ synced)))

-- ---- before the groups

-- where `plan` stands
pub way_planned : (steps : List Step) (fs : List Fresh) (h : History) → is_some (get (current_tree h) (staged plan)) ≡ true → way_before steps fs h ≡ way_back steps fs 0 h
way_planned steps fs h is = cond-true (is_some (get (current_tree h) (staged plan))) (way_back steps fs 0 h) (unstaging (length fs) (current_tree h)) is

pub way_unplanned : (steps : List Step) (fs : List Fresh) (h : History) → is_some (get (current_tree h) (staged plan)) ≡ false → way_before steps fs h ≡ unstaging (length fs) (current_tree h)
way_unplanned steps fs h is = cond-false (is_some (get (current_tree h) (staged plan))) (way_back steps fs 0 h) (unstaging (length fs) (current_tree h)) is

pub unstaging_there : (count : ℕ) (t : FileTree) → is_some (get t staging) ≡ true → unstaging count t ≡ unstaged_all count t
unstaging_there count t is = cond-true (is_some (get t staging)) (unstaged_all count t) (call.Sync ∷ []) is

pub unstaging_none : (count : ℕ) (t : FileTree) → is_some (get t staging) ≡ false → unstaging count t ≡ call.Sync ∷ []
unstaging_none count t is = cond-false (is_some (get t staging)) (unstaged_all count t) (call.Sync ∷ []) is

-- of these paths the first stands, or not
pub first_stands : (p : Names) (ps : List Names) (t : FileTree) → is_some (get t p) ≡ true → standing_removed (p ∷ ps) t ≡ call.Remove p ∷ standing_removed ps (remove t p)
first_stands p ps t is = cond-true (is_some (get t p)) (call.Remove p ∷ standing_removed ps (remove t p)) (standing_removed ps t) is

pub first_absent : (p : Names) (ps : List Names) (t : FileTree) → is_some (get t p) ≡ false → standing_removed (p ∷ ps) t ≡ standing_removed ps t
first_absent p ps t is = cond-false (is_some (get t p)) (call.Remove p ∷ standing_removed ps (remove t p)) (standing_removed ps t) is

-- ---- one path after another, of which those that stand are removed

pub removed_there : (p : Names) (t : FileTree) → is_some (get t p) ≡ true → removed_at p t ≡ call.Remove p ∷ []
removed_there p t is = cond-true (is_some (get t p)) (call.Remove p ∷ []) [] is

pub removed_none : (p : Names) (t : FileTree) → is_some (get t p) ≡ false → removed_at p t ≡ []
removed_none p t is = cond-false (is_some (get t p)) (call.Remove p ∷ []) [] is

first_removed : (p : Names) (ps : List Names) (h : History)
    → standing_removed (p ∷ ps) (current_tree h) ≡ removed_at p (current_tree h) ++ standing_removed ps (current_tree (then_all h (removed_at p (current_tree h))))
first_removed p ps h = by_look (is_some (get (current_tree h) p)) refl
  where
    by_look : (b : Bool) → is_some (get (current_tree h) p) ≡ b
        → standing_removed (p ∷ ps) (current_tree h) ≡ removed_at p (current_tree h) ++ standing_removed ps (current_tree (then_all h (removed_at p (current_tree h))))
    by_look true is =
        first_stands p ps (current_tree h) is
        ∙ ap (λ (cs : List Change). cs ++ standing_removed ps (current_tree (then_all h cs))) (sym (removed_there p (current_tree h) is))
    by_look false is =
        first_absent p ps (current_tree h) is
        ∙ ap (λ (cs : List Change). cs ++ standing_removed ps (current_tree (then_all h cs))) (sym (removed_none p (current_tree h) is))

pub next_removed : (paths : List Names) (h : History) (k : ℕ) (p : Names) → k < length paths → p ≡ get_or paths k p
    → standing_removed (drop k paths) (current_tree h) ≡ removed_at p (current_tree h) ++ standing_removed (drop (k + 1) paths) (current_tree (then_all h (removed_at p (current_tree h))))
next_removed paths h k p within is =
    ap (λ (ps : List Names). standing_removed ps (current_tree h)) (drop_more paths k p within ∙ ap (λ (x : Names). x ∷ drop (k + 1) paths) (sym is))
    ∙ first_removed p (drop (k + 1) paths) h

-- ---- what is left behind the looks before the groups

pub left_there : (count : ℕ) (began now : History) → now ≡ began → is_some (get (current_tree now) staging) ≡ true → Rest (unstaging count (current_tree began)) began now (unstaged_all count (current_tree now))
left_there count began now same there =
    rest_as (unstaging count (current_tree began)) began now (unstaging count (current_tree began)) (unstaged_all count (current_tree now)) (rest_all (unstaging count (current_tree began)) began now same)
    (ap (λ (h : History). unstaging count (current_tree h)) (sym same) ∙ unstaging_there count (current_tree now) there)

pub left_none : (count : ℕ) (began now : History) → now ≡ began → is_some (get (current_tree now) staging) ≡ false → Rest (unstaging count (current_tree began)) began now (call.Sync ∷ [])
left_none count began now same none =
    rest_as (unstaging count (current_tree began)) began now (unstaging count (current_tree began)) (call.Sync ∷ []) (rest_all (unstaging count (current_tree began)) began now same)
    (ap (λ (h : History). unstaging count (current_tree h)) (sym same) ∙ unstaging_none count (current_tree now) none)

pub left_planned : (steps : List Step) (fs : List Fresh) (began now : History) → now ≡ began → is_some (get (current_tree now) (staged plan)) ≡ true → Rest (way_before steps fs began) began now (way_back steps fs 0 now)
left_planned steps fs began now same there =
    rest_as (way_before steps fs began) began now (way_before steps fs began) (way_back steps fs 0 now) (rest_all (way_before steps fs began) began now same)
    (ap (λ (h : History). way_before steps fs h) (sym same) ∙ way_planned steps fs now there)

pub left_unplanned : (steps : List Step) (fs : List Fresh) (began now : History) → now ≡ began → is_some (get (current_tree now) (staged plan)) ≡ false → Rest (way_before steps fs began) began now (unstaging (length fs) (current_tree now))
left_unplanned steps fs began now same none =
    rest_as (way_before steps fs began) began now (way_before steps fs began) (unstaging (length fs) (current_tree now)) (rest_all (way_before steps fs began) began now same)
    (ap (λ (h : History). way_before steps fs h) (sym same) ∙ way_unplanned steps fs now none)
