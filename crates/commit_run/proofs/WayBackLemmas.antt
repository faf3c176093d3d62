-- The way back that looks tell leads to the old tree.
use Rattle.std.proofs.Common.{◌≡◌, ◌⊎◌, inl, inr, ℕ, zero, suc, ◌+◌, ◌==◌, ◌≤◌, ◌<◌, ◌^◌, nat_lt, Bool, true, false, if◌then◌else◌, Option, None, Some, IsTrue, List, [], ◌∷◌, ◌++◌, length, take, drop, refl, sym, ◌∙◌, ap, subst, arith, is_some, length-append}
use Rattle.std.specs.FinMap.{get}
use Rattle.std.specs.List.{AllByRecursion}
use Rattle.std.proofs.lemmas.Bool.{cond-true, cond-false, eq-eqb, ne_eqb}
use Rattle.std.proofs.lemmas.Bool.Decides.{nat_tests}
use Rattle.std.proofs.lemmas.List.{drop_all, drop_more, get_or_past, take_all}
use Rattle.commit_calls.specs.Cuts.{cut_at, group_at}
use Rattle.commit_calls.proofs.EndLemmas.{cut_at-more}
use Rattle.commit_run.specs.WayBack.{at_cut, back_at_cut, marked_cut, turn_cut, undone_group, undone_groups, way_back, way_from}
use Rattle.commit_states.specs.Calls.{CleansItems, end_calls, fresh_items, turn_calls, unmarked_calls}
use Rattle.commit_states.specs.Interrupted.{AreJournals, IsInterruptedBy, StandsAs, StandsAfter, forward}
use Rattle.commit_states.specs.Stops.{Halted}
use Rattle.commit_states.proofs.BackLemmas.{Returning, first_returning, moments_some, returning_next, safe_both, safe_turn, safe_turn_some, some_turned, sound_some}
use Rattle.commit_states.proofs.MarkerLemmas.{no_other}
use Rattle.commit_states.proofs.ReturnLemmas.{old_again, safe_end}
use Rattle.commit_steps.specs.declared.step.Step.{Step}
use Rattle.commit_steps.specs.Staging.{staging, staged, at_marker, back_marker}
use Rattle.commit_steps.specs.Steps.{HasPaths}
use Rattle.step_looks.specs.Laws.{holds_some}
use Rattle.step_looks.specs.Undoing.{any_goes_back, to_undo}
use Rattle.step_looks.proofs.TellLemmas.{tells}
use Rattle.step_trees.specs.Groups.{groups, joined, from_last_cut, to_next_cut, ComesBySome, taken_of}
use Rattle.step_trees.specs.Leads.{start, Leads}
use Rattle.step_trees.specs.Steps.{after}
use Rattle.step_trees.proofs.ChoiceLemmas.{all_done, taken_is}
use Rattle.step_trees.proofs.LeadLemmas.{Led, entries_at, led}
use Rattle.step_trees.proofs.NameLemmas.{own-at, own-back}
use Rattle.step_trees.proofs.PlaceLemmas.{Back, Inside, Remains, Stretch, all_remain, cut_at as cut_before, end_behind, first_stretch, from_last_cut-in, inside_at, remains_next}
use Rattle.tree_core.specs.declared.changes.Fresh.{Fresh}
use Rattle.tree_core.specs.declared.node.Change.{Change}
use Rattle.tree_core.specs.declared.node.Change.TheVariants as call
use Rattle.tree_core.specs.declared.node.Node.{Node}
use Rattle.tree_core.specs.FileTree.{FileTree, IsAbsent, IsFile, IsTree, is_file_node}
use Rattle.tree_core.specs.History.{History, Then, IsDurable, IsSound, LeavesOnly, current_tree}
use Rattle.tree_core.specs.Runs.{then_all}
use Rattle.tree_core.proofs.Moments.{durable-sync, goes_on-sync}
use Rattle.tree_core.proofs.Runs.{IsSafe, safe_append, then_all-append}
use Rattle.tree_core.proofs.Sound.{sound_then}

file_stands : (node : Option Node) → IsTrue (is_file_node node) → is_some node ≡ true
file_stands None file = cc
file_stands (Some n) file = refl

-- From now on these calls are safe, and behind them the old tree stands, with nothing pending.
pub record LeadsHome (P : FileTree → Type 0) (old : FileTree) (o h : History) (cs : List Change) : Type 0 where
  pub safe : IsSafe o P h cs
  pub is_old : current_tree (then_all h cs) ≡ old
  pub durable : IsDurable (then_all h cs)

module _ (Text : List ℕ → Type 0) (steps : List Step) (old new : FileTree) (nodes : List Node) (leads : Leads steps old new nodes) (paths : AllByRecursion HasPaths steps) (few : length steps < 2 ^ 32)
    (tree : IsTree old) (absent : IsAbsent old staging) (fs : List Fresh) (cleans : CleansItems (fresh_items 0 fs) (start old nodes)) (o : History) where
  abbrev P : FileTree → Type 0
  P = IsInterruptedBy Text steps old new nodes

  lead : Led steps old new nodes
  lead = led steps old new nodes leads paths

  abbrev gs : List (List Step)
  gs = groups steps

  abbrev cut : ℕ → ℕ
  cut k = cut_at k gs

  abbrev place : ℕ → FileTree
  place m = after (take m steps) (start old nodes)

  -- ---- the cuts, by number

  next_cut : (k : ℕ) → k < length gs → cut (k + 1) ≡ cut k + length (group_at k gs)
  next_cut k lt = cut_at-more gs k (group_at k gs) lt refl

  remains_at : (k : ℕ) → k ≤ length gs → Remains steps old new nodes lead (cut k) (drop k gs)
  remains_at zero le = all_remain steps old new nodes lead
  remains_at (suc k) le =
      let lt : k < length gs = omega arith in
      let here : Remains steps old new nodes lead (cut k) (group_at k gs ∷ drop (k + 1) gs) = subst (Remains steps old new nodes lead (cut k)) (drop_more gs k [] lt) (remains_at k (omega arith)) in
      let next : Remains steps old new nodes lead (cut k + length (group_at k gs)) (drop (k + 1) gs) = remains_next steps old new nodes lead (cut k) (group_at k gs) (drop (k + 1) gs) here in
      let same : k + 1 ≡ suc k = omega arith in
      subst (λ n. Remains steps old new nodes lead (cut n) (drop n gs)) same (subst (λ n. Remains steps old new nodes lead n (drop (k + 1) gs)) (sym (next_cut k lt)) next)

  remains_here : (k : ℕ) → k < length gs → Remains steps old new nodes lead (cut k) (group_at k gs ∷ drop (k + 1) gs)
  remains_here k lt = subst (Remains steps old new nodes lead (cut k)) (drop_more gs k [] lt) (remains_at k (omega arith))

  group_back : (k : ℕ) → k < length gs → Back steps old new nodes lead (cut k) (group_at k gs)
  group_back k lt =
      let g = group_at k gs in
      let m = cut k + length g in
      let r = remains_here k lt in
      let some = ((r.are).0).0 in
      let count = r.count in
      let long = length-append g (joined (drop (k + 1) gs)) in
      let last : from_last_cut m gs ≡ g = r.places_back (length g) some ∙ from_last_cut-in (length g) g (drop (k + 1) gs) (omega arith) ∙ take_all (length g) g (omega arith) in
      let is : m ≡ cut k + length (from_last_cut m gs) = ap (λ (l : List Step). cut k + length l) (sym last) in
      subst (Back steps old new nodes lead (cut k)) last (cut_before steps old new nodes lead (cut k) m (omega arith) (omega arith) is).back

  group_stretch : (k : ℕ) → k < length gs → Stretch steps old new nodes lead (cut k) (group_at k gs)
  group_stretch k lt = first_stretch steps old new nodes lead (cut k) (group_at k gs) (drop (k + 1) gs) (remains_here k lt)

  cut_within : (k : ℕ) → k ≤ length gs → cut k ≤ length steps
  cut_within k le = let count = (remains_at k le).count in omega arith

  -- ---- groups undone

  record WentBack (h : History) (k : ℕ) (cs : List Change) : Type 0 where
    pub safe : IsSafe o P h cs
    pub returning : Returning Text steps old new nodes o (then_all h cs) (cut k)

  one_back : (k : ℕ) → k < length gs → (h : History) (u : FileTree) → ComesBySome (group_at k gs) (place (cut k)) u → LeavesOnly o h P → IsDurable h → IsSound h
      → StandsAs Text (back_marker (cut (k + 1))) u (current_tree h) → WentBack h k (undone_group steps k (current_tree h))
  one_back k lt h u comes moments durable sound s =
      let g = group_at k gs in
      let c = cut k in
      let b = group_back k lt in
      let there : StandsAs Text (back_marker (c + length g)) u (current_tree h) = subst (λ n. StandsAs Text (back_marker n) u (current_tree h)) (next_cut k lt) s in
      let told = (tells (back_marker (c + length g)) (own-back (c + length g)) g (place c) u (current_tree h) sound.tree (entries_at steps old new nodes lead c).tree b.free comes there.bare_is).undo in
      let same : unmarked_calls (taken_of g (place c) u comes) (staged (back_marker (c + length g))) (staged (back_marker c)) ≡ undone_group steps k (current_tree h) =
      ap (λ l. unmarked_calls l (staged (back_marker (c + length g))) (staged (back_marker c))) (sym told)
      ∙ ap (λ n. unmarked_calls (to_undo g (current_tree h)) (staged (back_marker n)) (staged (back_marker c))) (sym (next_cut k lt)) in
      record {
        safe = subst (IsSafe o P h) same (safe_both Text steps old new nodes lead few o h c g b u comes moments durable sound there);
        returning = subst (λ (cs : List Change). Returning Text steps old new nodes o (then_all h cs) c) same (returning_next Text steps old new nodes lead few o h c g b u comes moments durable sound there);
      }

  -- first what was done of one group, and then those before it
  behind_one : (k : ℕ) → ((h : History) → Returning Text steps old new nodes o h (cut k) → WentBack h 0 (undone_groups steps k h)) → k < length gs → (h : History) (u : FileTree)
      → ComesBySome (group_at k gs) (place (cut k)) u → LeavesOnly o h P → IsDurable h → IsSound h → StandsAs Text (back_marker (cut (k + 1))) u (current_tree h)
      → WentBack h 0 (undone_groups steps (suc k) h)
  behind_one k go lt h u comes moments durable sound s =
      let cs = undone_group steps k (current_tree h) in
      let mid = then_all h cs in
      let one = one_back k lt h u comes moments durable sound s in
      let more = go mid one.returning in
      record {
        safe = safe_append o P h cs (undone_groups steps k mid) one.safe more.safe;
        returning = subst (λ (x : History). Returning Text steps old new nodes o x 0) (sym (then_all-append h cs (undone_groups steps k mid))) more.returning;
      }

  all_back : (k : ℕ) → k ≤ length gs → (h : History) → Returning Text steps old new nodes o h (cut k) → WentBack h 0 (undone_groups steps k h)
  all_back zero le h r = record { safe = r.moments; returning = r }
  all_back (suc k) le h r =
      let lt : k < length gs = omega arith in
      let g = group_at k gs in
      let same : suc k ≡ k + 1 = omega arith in
      let at_next : StandsAfter Text steps old nodes (back_marker (cut (k + 1))) (cut (k + 1)) (current_tree h) = subst (λ n. StandsAfter Text steps old nodes (back_marker (cut n)) (cut n) (current_tree h)) same r.stands in
      let tree_is : place (cut (k + 1)) ≡ after g (place (cut k)) = ap place (next_cut k lt) ∙ (group_back k lt).more in
      behind_one k (all_back k (omega arith)) lt h (after g (place (cut k))) (all_done g (place (cut k))) r.moments r.durable r.sound
      (subst (λ v. StandsAs Text (back_marker (cut (k + 1))) v (current_tree h)) tree_is at_next)

  -- ---- all of it

  abbrev Home : History → List Change → Type 0
  Home h cs = LeadsHome P old o h cs

  -- some groups undone, and the end
  to_end : (h : History) (cs : List Change) → WentBack h 0 cs → Home h (cs ++ end_calls fs)
  to_end h cs w =
      let mid = then_all h cs in
      let last = old_again Text steps old new nodes lead few tree absent fs cleans o mid w.returning in
      let same = then_all-append h cs (end_calls fs) in
      record {
        safe = safe_append o P h cs (end_calls fs) w.safe (safe_end Text steps old new nodes lead few tree absent fs cleans o mid w.returning);
        is_old = ap current_tree same ∙ last.0;
        durable = subst IsDurable (sym same) last.1;
      }

  then_home : (h : History) (cs ds : List Change) → IsSafe o P h cs → Home (then_all h cs) ds → Home h (cs ++ ds)
  then_home h cs ds safe home =
      let same = then_all-append h cs ds in
      record {
        safe = safe_append o P h cs ds safe home.safe;
        is_old = ap current_tree same ∙ home.is_old;
        durable = subst IsDurable (sym same) home.durable;
      }

  -- by the cut at which the marker turns round
  abbrev way_by : ℕ → ℕ → History → List Change
  way_by k j h =
      let turn = call.Rename (at_cut steps k) (back_at_cut steps j) ∷ call.Sync ∷ [] in
      turn ++ (undone_groups steps j (then_all h turn) ++ end_calls fs)

  module _ (k : ℕ) (le : k ≤ length gs) (h : History) (moments : LeavesOnly o h P) (durable : IsDurable h) (sound : IsSound h) where
    -- no step of its group was done
    home_none : StandsAfter Text steps old nodes (at_marker (cut k)) (cut k) (current_tree h) → Home h (way_by k k h)
    home_none s =
        let c = cut k in
        let within = cut_within k le in
        let turn = turn_calls c c in
        then_home h turn (undone_groups steps k (then_all h turn) ++ end_calls fs) (safe_turn Text steps old new nodes lead few o h c moments durable sound within s)
        (to_end (then_all h turn) (undone_groups steps k (then_all h turn))
        (all_back k le (then_all h turn) (first_returning Text steps old new nodes lead few o h c moments durable sound within s)))

    -- the marker at place j
    record TurnedTo (u : FileTree) (j : ℕ) : Type 0 where
      pub turn : IsSafe o P h (turn_calls (cut k) j)
      pub leaves : LeavesOnly o (then_all h (turn_calls (cut k) j)) P
      pub is_sound : IsSound (then_all h (turn_calls (cut k) j))
      pub marked : StandsAs Text (back_marker j) u (current_tree (then_all h (turn_calls (cut k) j)))

    -- some were
    home_some : k < length gs → (u : FileTree) → ComesBySome (group_at k gs) (place (cut k)) u → StandsAs Text (at_marker (cut k)) u (current_tree h) → Home h (way_by k (suc k) h)
    home_some lt u comes s =
        let c = cut k in
        let g = group_at k gs in
        let st = group_stretch k lt in
        let some = st.some in
        let within = st.within in
        let i : Inside steps old new nodes lead c = inside_at steps old new nodes lead c (omega arith) in
        let same_g : i.g ≡ g = sym i.stretch.is ∙ st.is in
        let one_more : k + 1 ≡ suc k = omega arith in
        let next_is : i.from + length i.whole ≡ cut (suc k) = sym i.next ∙ ap (λ (l : List Step). c + length l) same_g ∙ sym (next_cut k lt) ∙ ap cut one_more in
        let comes_i : ComesBySome i.g (place c) u = subst (λ (l : List Step). ComesBySome l (place c) u) (sym same_g) comes in
        let t : TurnedTo u (cut (suc k)) = subst (TurnedTo u) next_is record {
          turn = safe_turn_some Text steps old new nodes lead few o h c moments durable sound i u comes_i s;
          leaves = moments_some Text steps old new nodes lead few o h c moments durable sound i u comes_i s;
          is_sound = sound_some Text steps old new nodes lead few o h c moments durable sound i u comes_i s;
          marked = some_turned Text steps old new nodes lead few o h c moments durable sound i u comes_i s;
        } in
        let turn = turn_calls c (cut (suc k)) in
        let mid = then_all h turn in
        let stands : StandsAs Text (back_marker (cut (k + 1))) u (current_tree mid) = subst (λ n. StandsAs Text (back_marker (cut n)) u (current_tree mid)) (sym one_more) t.marked in
        then_home h turn (undone_groups steps (suc k) mid ++ end_calls fs) t.turn
        (to_end mid (undone_groups steps (suc k) mid)
        (behind_one k (all_back k (omega arith)) lt mid u comes t.leaves (durable-sync (Then h (call.Rename (staged (at_marker c)) (staged (back_marker (cut (suc k))))))) t.is_sound stands))

    turns_at : (j : ℕ) → turn_cut steps k (current_tree h) ≡ j → Home h (way_by k j h) → Home h (way_from steps fs k h)
    turns_at j is home = subst (λ n. Home h (way_by k n h)) (sym is) home

    -- from the marker at cut number k
    module _ (u : FileTree) (comes : ComesBySome (to_next_cut (cut k) gs) (place (cut k)) u) (s : StandsAs Text (at_marker (cut k)) u (current_tree h)) where
      none_at : turn_cut steps k (current_tree h) ≡ k → u ≡ place (cut k) → Home h (way_from steps fs k h)
      none_at turn_is u_is = turns_at k turn_is (home_none (subst (λ v. StandsAs Text (at_marker (cut k)) v (current_tree h)) u_is s))

      at_end : length gs ≤ k → Home h (way_from steps fs k h)
      at_end past =
          let no_group : group_at k gs ≡ [] = get_or_past gs k [] past in
          let count = (remains_at k le).count in
          let none : length (joined (drop k gs)) ≡ 0 = ap (λ (l : List (List Step)). length (joined l)) (drop_all k gs past) in
          let cut_is : cut k ≡ length steps = omega arith in
          let no_more : to_next_cut (cut k) gs ≡ [] = ap (λ n. to_next_cut n gs) cut_is ∙ end_behind steps old new nodes lead in
          none_at (ap (λ (g : List Step). if any_goes_back g (current_tree h) then k + 1 else k) no_group) (subst (λ (l : List Step). ComesBySome l (place (cut k)) u) no_more comes)

      within : k < length gs → Home h (way_from steps fs k h)
      within lt = by_taken (taken_of g (place c) u some) refl
        where
          c : ℕ
          c = cut k

          g : List Step
          g = group_at k gs

          some : ComesBySome g (place c) u
          some = subst (λ (l : List Step). ComesBySome l (place c) u) (group_stretch k lt).is comes

          told : any_goes_back g (current_tree h) ≡ holds_some (taken_of g (place c) u some)
          told = (tells (at_marker c) (own-at c) g (place c) u (current_tree h) sound.tree (entries_at steps old new nodes lead c).tree (group_stretch k lt).free some s.bare_is).any

          by_taken : (l : List Step) → taken_of g (place c) u some ≡ l → Home h (way_from steps fs k h)
          by_taken [] is = none_at (ap (λ (b : Bool). if b then k + 1 else k) (told ∙ ap holds_some is)) (taken_is g (place c) u some ∙ ap (λ (l : List Step). after l (place c)) is)
          by_taken (x ∷ xs) is =
              let one_more : k + 1 ≡ suc k = omega arith in
              turns_at (suc k) (ap (λ (b : Bool). if b then k + 1 else k) (told ∙ ap holds_some is) ∙ one_more) (home_some lt u some s)

      pub home_from : Home h (way_from steps fs k h)
      home_from = by_test (nat_lt k (length gs)) refl
        where
          by_test : (b : Bool) → nat_lt k (length gs) ≡ b → Home h (way_from steps fs k h)
          by_test true e = within (grind (arith, nat_tests))
          by_test false e = at_end (grind (arith, nat_tests))

  -- behind a sync, from where a commit halted at a cut
  module _ (now : History) (hl : Halted Text steps old new nodes o now) where
    home_at : (k : ℕ) → k ≤ length gs → hl.m ≡ cut k → Home now (call.Sync ∷ way_from steps fs k (Then now call.Sync))
    home_at k le is =
        let synced = Then now call.Sync in
        let comes : ComesBySome (to_next_cut (cut k) gs) (place (cut k)) hl.u = subst (λ n. ComesBySome (to_next_cut n gs) (place n) hl.u) is hl.comes in
        let stands : StandsAs Text (at_marker (cut k)) hl.u (current_tree now) = subst (λ n. StandsAs Text (at_marker n) hl.u (current_tree now)) is hl.stands in
        let home = home_from k le synced (goes_on-sync o now P hl.moments (forward leads hl.m hl.u hl.le hl.comes hl.stands)) (durable-sync now) (sound_then call.Sync now hl.sound tt) hl.u comes stands in
        record { safe = (hl.moments, tt, home.safe); is_old = home.is_old; durable = home.durable }

    marked_at : (group k : ℕ) → k ≤ length gs → hl.m ≡ cut k → marked_cut steps group (current_tree now) ≡ k → Home now (way_back steps fs group now)
    marked_at group k le at is = subst (λ n. Home now (call.Sync ∷ way_from steps fs n (Then now call.Sync))) (sym is) (home_at k le at)

    -- a call of the seal failed
    pub home_from_end : hl.m ≡ length steps → Home now (way_back steps fs (length gs) now)
    home_from_end is =
        let count = (remains_at (length gs) (omega arith)).count in
        let none : length (joined (drop (length gs) gs)) ≡ 0 = ap (λ (l : List (List Step)). length (joined l)) (drop_all (length gs) gs (omega arith)) in
        let t = current_tree now in
        marked_at (length gs) (length gs) (omega arith) (let cut_is : cut (length gs) ≡ length steps = omega arith in is ∙ sym cut_is)
        (cond-true (length gs == length gs) (length gs) (if is_some (get t (at_cut steps (length gs))) then length gs else length gs + 1) (eq-eqb (length gs) (length gs) refl))

    -- a call of this group failed
    module _ (are : AreJournals Text steps) (group : ℕ) (lt : group < length gs) where
      looked : (b : Bool) → is_some (get (current_tree now) (at_cut steps group)) ≡ b → marked_cut steps group (current_tree now) ≡ (if b then group else group + 1)
      looked b is =
          cond-false (group == length gs) group (if is_some (get (current_tree now) (at_cut steps group)) then group else group + 1) (ne_eqb group (length gs) (λ same. absurd (omega arith)))
          ∙ ap (λ (x : Bool). if x then group else group + 1) is

      pub home_from_group : (hl.m ≡ cut group) ⊎ (hl.m ≡ cut group + length (group_at group gs)) → Home now (way_back steps fs group now)
      home_from_group (inl at) =
          let there : IsFile (current_tree now) (at_cut steps group) = subst (λ n. IsFile (current_tree now) (staged (at_marker n))) at hl.stands.marked in
          marked_at group group (omega arith) at (looked true (file_stands (get (current_tree now) (at_cut steps group)) there))
      home_from_group (inr at) =
          let some = (group_stretch group lt).some in
          let low = cut_within group (omega arith) in
          let at_next : hl.m ≡ cut (group + 1) = at ∙ sym (next_cut group lt) in
          let gone = no_other Text steps are old new nodes o now leads hl (cut group) (omega arith) (λ same. absurd (omega arith)) in
          marked_at group (group + 1) (omega arith) at_next (looked false (ap is_some gone))
