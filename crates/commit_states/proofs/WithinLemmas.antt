-- The steps of a group, done or undone, in the tree with its journal and marker.
use Rattle.std.proofs.Common.{◌≡◌, ◌≢◌, inl, inr, ℕ, false, List, [], ◌∷◌, ◌++◌, refl, sym, ◌∙◌, ap, subst, None, is_some}
use Rattle.std.specs.FinMap.{get}
use Rattle.dired_text.specs.Paths.{Names, rest_below}
use Rattle.tree_core.specs.FileTree.{FileTree, IsTree, CanDo, done, is_dir_node}
use Rattle.tree_core.specs.History.{History, Then, IsSound, current_tree, next_number, is_sync, is_write}
use Rattle.tree_core.specs.Runs.{then_all}
use Rattle.tree_core.proofs.Moments.{Keeps, applied-is}
use Rattle.tree_core.proofs.Runs.{IsClosed, closed_append, closed_can, sound_all, then_all-append}
use Rattle.tree_core.proofs.Sound.{sound_then}
use Rattle.commit_states.proofs.StandLemmas.{can_as, step_as}
use Rattle.commit_states.proofs.WayBackLemmas.{can_undo_as, undo_as}
use Rattle.commit_states.specs.Calls.{do_calls, undo_calls}
use Rattle.commit_states.specs.Interrupted.{bare, StandsAs}
use Rattle.commit_steps.specs.Staging.{staging, staging_name, staged, plan}
use Rattle.commit_steps.specs.Steps.{IsStepPath, IsOutside}
use Rattle.commit_steps.specs.declared.step.Step.{Step}
use Rattle.commit_steps.specs.declared.step.Step.TheVariants.{MakeDir, Rename, Mode}
use Rattle.step_trees.proofs.CommuteLemmas.{IsOut, out_of, dir_kept, absent_there}
use Rattle.step_trees.proofs.GroupLemmas.{Tries, TriesUndo, clear_before, tree_step, Free, free_next, IsOf, comes_done, comes_undone}
use Rattle.step_trees.proofs.LeadLemmas.{Based}
use Rattle.step_trees.proofs.NameLemmas.{IsOwn, own-plan, none_below}
use Rattle.step_trees.proofs.StepLemmas.{IsClearStep, apart_lawful, same_stood}
use Rattle.step_trees.proofs.UndoLemmas.{undone_step, can_undo}
use Rattle.step_trees.specs.Apart.{IsApart, IsApartStep}
use Rattle.step_trees.specs.Entries.{without}
use Rattle.step_trees.specs.Groups.{ComesBySome}
use Rattle.step_trees.specs.Steps.{call_of, undo_of, step_done, after, IsStep}

pub no_sync : (s : Step) → is_sync (call_of s) ≡ false
no_sync (MakeDir q) = refl
no_sync (Rename from to) = refl
no_sync (Mode q old new) = refl

no_write : (s : Step) → is_write (call_of s) ≡ false
no_write (MakeDir q) = refl
no_write (Rename from to) = refl
no_write (Mode q old new) = refl

undo_no_sync : (s : Step) → is_sync (undo_of s) ≡ false
undo_no_sync (MakeDir q) = refl
undo_no_sync (Rename from to) = refl
undo_no_sync (Mode q old new) = refl

undo_no_write : (s : Step) → is_write (undo_of s) ≡ false
undo_no_write (MakeDir q) = refl
undo_no_write (Rename from to) = refl
undo_no_write (Mode q old new) = refl

-- ---- the staging directory

outside_out : (q : Names) → IsOutside q → rest_below q staging ≡ None
outside_out [] outside = absurd outside
outside_out (y ∷ p) outside = none_below (y ∷ p) staging (λ r e. outside (let k : staging_name ≡ y = cc in sym k))

path_out : (q : Names) → IsStepPath q → rest_below q staging ≡ None
path_out q (inl outside) = outside_out q outside
path_out q (inr entry) = subst (λ x. rest_below x staging ≡ None) (sym entry.is) (none_below (staged entry.name) staging (λ r e. let k : staging ≡ staged entry.name ++ r = e in cc))

staging_out : (s : Step) → IsStep s → IsOut s staging
staging_out (MakeDir q) lawful = outside_out q lawful.lawful
staging_out (Rename from to) lawful = (path_out from lawful.lawful.0, path_out to lawful.lawful.1)
staging_out (Mode q old new) lawful = outside_out q lawful.lawful.0

pub based_step : (s : Step) (u : FileTree) → IsStep s → IsClearStep s u → Based u → Based (step_done s u)
based_step s u lawful clear based = record {
  stands = dir_kept s u staging clear (staging_out s lawful) ∙ based.stands;
  none = λ name own. absent_there s u (staged name) clear (out_of s (staged name) (apart_lawful name s own lawful)) (based.none name own);
}

pub based_comes : (g : List Step) (t c : FileTree) → IsTree t → Free g t → Based t → ComesBySome g t c → Based c
based_comes [] t c tree free based is = subst Based (sym is) based
based_comes (s ∷ g) t c tree free based (inl left) = based_comes g t c tree free.3 based left
based_comes (s ∷ g) t c tree free based (inr taken) = based_comes g (step_done s t) c (tree_step s t tree free.0 free.1) (free_next s g t tree free) (based_step s t free.0 (clear_before s t tree free.1) based) taken

-- ---- what a call asks, without the journal and the marker

stood_bare : (marker : List ℕ) (t : FileTree) (q : Names) → IsApart (staged marker) q → IsApart (staged plan) q → get t q ≡ get (bare plan marker t) q
stood_bare marker t q one two = same_stood (staged marker) t q one ∙ same_stood (staged plan) (without (staged marker) t) q two

tries_bare : (marker : List ℕ) (s : Step) (t : FileTree) → IsApartStep (staged marker) s → IsApartStep (staged plan) s → CanDo (call_of s) t → Tries s (bare plan marker t)
tries_bare marker (MakeDir q) t one two can = sym (stood_bare marker t q one two) ∙ (can.0).absent
tries_bare marker (Rename from to) t one two can = sym (ap is_some (stood_bare marker t from one.0 two.0)) ∙ can.stands
tries_bare marker (Mode q old new) t one two can = tt

tries_undo_bare : (marker : List ℕ) (s : Step) (t : FileTree) → IsApartStep (staged marker) s → IsApartStep (staged plan) s → CanDo (undo_of s) t → TriesUndo s (bare plan marker t)
tries_undo_bare marker (MakeDir q) t one two can = sym (ap is_dir_node (stood_bare marker t q one two)) ∙ can.0
tries_undo_bare marker (Rename from to) t one two can = sym (ap is_some (stood_bare marker t to one.1 two.1)) ∙ can.stands
tries_undo_bare marker (Mode q old new) t one two can = tt

lawful_of : (s : Step) (g : List Step) (t : FileTree) → Free g t → IsOf s g → IsStep s
lawful_of s [] t free of = absurd of
lawful_of s (u ∷ g) t free (inl same) = subst IsStep (sym same) free.0
lawful_of s (u ∷ g) t free (inr more) = lawful_of s g t free.3 more

-- ---- a group, done or undone under a marker

module _ (Text : List ℕ → Type 0) (a : FileTree) (g : List Step) (tree_a : IsTree a) (free : Free g a) (based_a : Based a) (marker : List ℕ) (own : IsOwn marker) (other : plan ≢ marker) where
  -- any of the steps of the group are done
  pub record Amid (t : FileTree) : Type 0 where
    pub u : FileTree
    pub comes : ComesBySome g a u
    pub stands : StandsAs Text marker u t

  -- A call of the group, applied or left out, keeps that.
  pub keeps_done : (s : Step) → IsOf s g → (next : ℕ) → Keeps Amid (call_of s) next
  keeps_done s of next t c sound amid applied =
      let lawful = lawful_of s g a free of in
      let based = based_comes g a amid.u tree_a free based_a amid.comes in
      subst Amid (sym (applied-is (call_of s) next t c (no_write s) applied)) record {
        u = step_done s amid.u;
        comes = comes_done g a amid.u s tree_a free amid.comes of (subst (Tries s) amid.stands.bare_is (tries_bare marker s t (apart_lawful marker s own lawful) (apart_lawful plan s own-plan lawful) applied.can));
        stands = step_as Text amid.u based marker own other t sound.tree amid.stands s next lawful applied.can;
      }

  -- and so does one that undoes it
  pub keeps_undone : (s : Step) → IsOf s g → (next : ℕ) → Keeps Amid (undo_of s) next
  keeps_undone s of next t c sound amid applied =
      let lawful = lawful_of s g a free of in
      subst Amid (sym (applied-is (undo_of s) next t c (undo_no_write s) applied)) record {
        u = done (undo_of s) 0 amid.u;
        comes = comes_undone g a amid.u s tree_a free amid.comes of (subst (TriesUndo s) amid.stands.bare_is (tries_undo_bare marker s t (apart_lawful marker s own lawful) (apart_lawful plan s own-plan lawful) applied.can));
        stands = undo_as Text amid.u marker own t sound.tree amid.stands s next lawful applied.can;
      }

  -- some of them done, one after another
  pub record Did (ls : List Step) (h : History) (u : FileTree) : Type 0 where
    pub closed : IsClosed Amid h (do_calls ls)
    pub stands : StandsAs Text marker (after ls u) (current_tree (then_all h (do_calls ls)))

  pub do_all : (ls : List Step) (h : History) (u : FileTree) → ((s : Step) → IsOf s ls → IsOf s g) → IsTree u → Free ls u → Based u → IsSound h → StandsAs Text marker u (current_tree h) → Did ls h u
  do_all [] h u part tree ready based sound s = record { closed = tt; stands = s }
  do_all (x ∷ ls) h u part tree ready based sound s =
      let can = can_as Text u based marker own other (current_tree h) sound.tree s x 0 ready.0 ready.1 in
      let next = step_as Text u based marker own other (current_tree h) sound.tree s x (next_number h) ready.0 can in
      let more = do_all ls (Then h (call_of x)) (step_done x u) (λ v of. part v (inr of)) (tree_step x u tree ready.0 ready.1) (free_next x ls u tree ready) (based_step x u ready.0 (clear_before x u tree ready.1) based) (sound_then (call_of x) h sound can) next in
      record { closed = (no_sync x, can, keeps_done x (part x (inl refl)) (next_number h), more.closed); stands = more.stands }

  -- some of them undone, the last one first
  pub record Undid (ls : List Step) (h : History) (b : FileTree) : Type 0 where
    pub closed : IsClosed Amid h (undo_calls ls)
    pub stands : StandsAs Text marker b (current_tree (then_all h (undo_calls ls)))

  pub undo_all : (ls : List Step) (h : History) (b : FileTree) → ((s : Step) → IsOf s ls → IsOf s g) → IsTree b → Free ls b → IsSound h → StandsAs Text marker (after ls b) (current_tree h) → Undid ls h b
  undo_all [] h b part tree ready sound s = record { closed = tt; stands = s }
  undo_all (x ∷ ls) h b part tree ready sound s =
      let more = undo_all ls h (step_done x b) (λ v of. part v (inr of)) (tree_step x b tree ready.0 ready.1) (free_next x ls b tree ready) sound s in
      let mid = then_all h (undo_calls ls) in
      let sound_mid = sound_all h (undo_calls ls) sound (closed_can Amid h (undo_calls ls) more.closed) in
      let can = can_undo_as Text (step_done x b) marker own (current_tree mid) sound_mid.tree more.stands x 0 ready.0 (can_undo x b tree ready.0 ready.1) in
      let last = undo_as Text (step_done x b) marker own (current_tree mid) sound_mid.tree more.stands x (next_number mid) ready.0 can in
      record {
        closed = closed_append Amid h (undo_calls ls) (undo_of x ∷ []) more.closed (undo_no_sync x, can, keeps_undone x (part x (inl refl)) (next_number mid), tt);
        stands = subst (λ (k : History). StandsAs Text marker b (current_tree k)) (sym (then_all-append h (undo_calls ls) (undo_of x ∷ [])))
            (subst (λ v. StandsAs Text marker v (current_tree (Then mid (undo_of x)))) (undone_step x 0 b tree ready.0 ready.1) last);
      }
