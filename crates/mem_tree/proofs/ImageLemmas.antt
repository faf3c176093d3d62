-- The list of the images.
use Rattle.std.proofs.Common.{◌≡◌, ℕ, ◌+◌, ◌<◌, ◌^◌, Bool, true, false, List, [], ◌∷◌, ◌++◌, length, take, get_or, map, All, refl, sym, ◌∙◌, ap, subst, arith, if◌then◌else◌, nat_le, Result, Ok, Err, IfOk}
use Rattle.std.proofs.lemmas.List.{take_more, take_all, map-append}
use Rattle.std.proofs.lemmas.List.Elements.{All-append, All-cons}
use Rattle.std.proofs.lemmas.Simd.{map-map}
use Rattle.tree_core.specs.FileTree.{FileTree}
use Rattle.tree_core.specs.History.{History, Began, IsSound, IsCrashState, current_tree, next_number}
use Rattle.tree_core.specs.SubLists.{pending_calls, ComesBySome}
use Rattle.tree_core.proofs.SubListLemmas.{state_of_comes}
use Rattle.mem_tree.specs.declared.choices.Choice.{Choice}
use Rattle.mem_tree.specs.declared.choices.Choice.TheVariants.{Bits, First, AllBut}
use Rattle.mem_tree.specs.declared.mem.MemTree.{MemTree}
use Rattle.std.specs.List.{range_with_len}
use Rattle.mem_tree.specs.Choices.{takes, choices_of, by_bits, by_length, by_omission}
use Rattle.mem_tree.specs.Images.{Stand, picked, all_sub_lists, prefixes, all_but_one, sub_lists, emptied, Replays, ArePair, AreImages, EndsAt, synced_history, stand_in, stand_of}
use Rattle.mem_tree.specs.declared.store.Store.{Store}
use Rattle.mem_tree.specs.Stores.{tree_of, times_of}
use Rattle.mem_tree.specs.Times.{Times}
use Rattle.mem_tree.specs.MemHistory.{Told, told, untouched, stand_told, tree_told, IsUntouched, GrewByPair}
use Rattle.mem_tree.proofs.ReplayLemmas.{Calls, Pend, pend, picked-map, replays_sound, numbered_empty, behind_empty, comes_whole, comes_empty, synced_same}

-- the sub-lists are those of the choices
abbrev pub chosen : Calls → List Choice → List Calls
chosen calls choices = map (λ c. picked (takes c) calls) choices

pub chosen_all : (calls : Calls) → chosen calls (choices_of (length calls)) ≡ sub_lists calls
chosen_all calls = by_case (nat_le (length calls) 10)
  where
    by_case : (few : Bool) → chosen calls (if few then by_bits (length calls) else (by_length (length calls) ++ by_omission (length calls))) ≡ (if few then all_sub_lists calls else (prefixes calls ++ all_but_one calls))
    by_case true = map-map (λ c. picked (takes c) calls) Bits (range_with_len 0 (2 ^ length calls))
    by_case false =
        map-append (λ c. picked (takes c) calls) (by_length (length calls)) (by_omission (length calls))
        ∙ (λ i. map-map (λ c. picked (takes c) calls) First (range_with_len 0 (length calls + 1)) i ++ map-map (λ c. picked (takes c) calls) AllBut (range_with_len 0 (length calls)) i)

-- two images more
are_images-push : (lists : List Calls) (calls : Calls) (from one other : Stand) (images : List Stand) → AreImages lists from images → ArePair calls from one other → AreImages (lists ++ calls ∷ []) from (images ++ one ∷ other ∷ [])
are_images-push [] calls from one other images is pair = subst (λ l. AreImages (calls ∷ []) from (l ++ one ∷ other ∷ [])) (sym is) (pair, refl)
are_images-push (l ∷ lists) calls from one other [] are pair = absurd are
are_images-push (l ∷ lists) calls from one other (x ∷ []) are pair = absurd are
are_images-push (l ∷ lists) calls from one other (x ∷ y ∷ images) are pair = (are.0, are_images-push lists calls from one other images are.1 pair)

module _ (calls : Calls) (from : Stand) (choices : List Choice) (i : ℕ) (choice : Choice) (within : i < length choices) (is : choice ≡ get_or choices i choice) (next : ℕ) (old new : List MemTree)
    (grew : GrewByPair (picked (takes choice) calls) from next old new) where
  pub pairs-next : AreImages (chosen calls (take i choices)) from (map stand_told old) → AreImages (chosen calls (take (i + 1) choices)) from (map stand_told new)
  pairs-next so_far =
      let lists : chosen calls (take (i + 1) choices) ≡ chosen calls (take i choices) ++ picked (takes choice) calls ∷ [] =
      ap (chosen calls) (take_more choices i choice within ∙ ap (λ x. take i choices ++ x ∷ []) (sym is)) ∙ map-append _ (take i choices) (choice ∷ []) in
      let images : map stand_told new ≡ map stand_told old ++ stand_told grew.one ∷ stand_told grew.other ∷ [] = ap (map stand_told) grew.grown ∙ map-append stand_told old (grew.one ∷ grew.other ∷ []) in
      subst (λ l. AreImages l from (map stand_told new)) (sym lists)
      (subst (AreImages (chosen calls (take i choices) ++ picked (takes choice) calls ∷ []) from) (sym images)
      (are_images-push (chosen calls (take i choices)) (picked (takes choice) calls) from (stand_told grew.one) (stand_told grew.other) (map stand_told old) so_far grew.pair))

  pub untouched-next : All (IsUntouched next) old → All (IsUntouched next) new
  untouched-next so_far = subst (All (IsUntouched next)) (sym grew.grown)
      (All-append (IsUntouched next) old (grew.one ∷ grew.other ∷ []) so_far
      (All-cons (IsUntouched next) grew.one (grew.other ∷ []) grew.one_untouched (All-cons (IsUntouched next) grew.other [] grew.other_untouched none)))
    where
      none : All (IsUntouched next) []
      none k d less = absurd (omega (arith, less))

-- each image comes of the calls
all_come : (calls : Calls) (from : Stand) (choices : List Choice) (images : List MemTree) → AreImages (chosen calls choices) from (map stand_told images) → All (λ m. ComesBySome calls from.tree (tree_told m)) images
all_come calls from [] [] are = λ k d less. absurd (omega (arith, less))
all_come calls from [] (m ∷ images) are = absurd (let e = are in cc)
all_come calls from (c ∷ choices) [] are = absurd are
all_come calls from (c ∷ choices) (one ∷ []) are = absurd are
all_come calls from (c ∷ choices) (one ∷ other ∷ images) are =
    All-cons (λ m. ComesBySome calls from.tree (tree_told m)) one (other ∷ images) (comes_whole (takes c) calls from (stand_told one) are.0.whole)
    (All-cons (λ m. ComesBySome calls from.tree (tree_told m)) other images (comes_empty (takes c) calls from (stand_told other) are.0.empty) (all_come calls from choices images are.1))

-- and a crash may leave it
pub all_left : (h : History) (times : Times) (images : List MemTree) → AreImages (sub_lists (pending_calls h)) (stand_of (synced_history h) times) (map stand_told images) → All (λ m. IsCrashState h (tree_told m)) images
all_left h times images are k d less =
    let calls = pending_calls h in
    let by_choice : AreImages (chosen calls (choices_of (length calls))) (stand_of (synced_history h) times) (map stand_told images) =
    subst (λ l. AreImages l (stand_of (synced_history h) times) (map stand_told images)) (sym (chosen_all calls)) are in
    state_of_comes h _ (subst (λ t. ComesBySome calls t (tree_told (get_or images k d))) (synced_same h) (all_come calls (stand_of (synced_history h) times) (choices_of (length calls)) images by_choice k d less))

-- the images as they are made
pub made_images : {T E : Type 0} (result : Result T E) (items : T → List Stand) (calls given : Calls) (choices : List Choice) (count : ℕ) (from base : Stand) → given ≡ calls → choices ≡ choices_of count → count ≡ length calls → base ≡ from
    → IfOk result (λ v. AreImages (chosen given choices) base (items v)) → IfOk result (λ v. AreImages (sub_lists calls) from (items v))
made_images result items calls given choices count from base same is number stands are =
    let lists : chosen given choices ≡ sub_lists calls = (λ i. chosen (same i) (is i)) ∙ ap (λ n. chosen calls (choices_of n)) number ∙ chosen_all calls in
    subst (λ l. IfOk result (λ v. AreImages l from (items v))) lists (subst (λ s. IfOk result (λ v. AreImages (chosen given choices) s (items v))) stands are)

pub if_ok : {T E : Type 0} (result : Result T E) (P Q : T → Type 0) → ((v : T) → P v → Q v) → IfOk result P → IfOk result Q
if_ok (Ok v) P Q gives p = gives v p
if_ok (Err e) P Q gives p = tt

-- the pending calls can be replayed from the last sync
pub ends_at : (h start : History) (t : FileTree) (calls : Calls) → start ≡ synced_history h → IsSound start → t ≡ current_tree start → calls ≡ pending_calls h → EndsAt (next_number h) calls t
ends_at h start t calls begins sound tree is =
    let all : Pend start calls (next_number h) = subst (λ s. Pend s calls (next_number h)) (sym begins) (subst (λ l. Pend (synced_history h) l (next_number h)) (sym is) (pend h)) in
    record { can = record { next = next_number start; sound = subst (λ u. IsSound (Began u (next_number start))) (sym tree) record { allowed = tt; tree = sound.tree; texts = sound.texts; above = sound.above }; numbered = all.numbered }; ends = all.ends }

-- what comes of a replay is a tree in which the next number is new
pub image_sound : (passes : ℕ → Bool) (next : ℕ) (calls : Calls) (from to : Stand) → EndsAt next calls from.tree → Replays (picked passes calls) from to → IsSound (Began to.tree next)
image_sound passes next calls from to ends replays = subst (λ n. IsSound (Began to.tree n)) ends.ends (replays_sound passes ends.can.next calls from to ends.can.numbered ends.can.sound replays)

-- and so it is with empty files
pub ends_empty : (next : ℕ) (calls empty : Calls) (t : FileTree) → empty ≡ map emptied calls → EndsAt next calls t → EndsAt next empty t
ends_empty next calls empty t is ends = subst (λ l. EndsAt next l t) (sym is)
    record { can = record { next = ends.can.next; sound = ends.can.sound; numbered = numbered_empty ends.can.next calls ends.can.numbered }; ends = behind_empty ends.can.next calls ∙ ends.ends }

-- ---- a tree that began with what came of a replay

module _ (m : MemTree) (next : ℕ) (store : Store) (is : told m ≡ untouched (Began (tree_of store) next) (times_of store)) where
  pub began-stand : stand_told m ≡ stand_in store
  began-stand = ap (λ (t : Told). stand_of t.history t.times) is

  pub untouched-of : IsUntouched next m
  untouched-of = is ∙ ap (λ (s : Stand). untouched (Began s.tree next) s.times) (sym began-stand)

pub pair-of : (passes : ℕ → Bool) (whole empty : Calls) (from : Stand) (one other : MemTree) (next : ℕ) (first second : Store) → empty ≡ map emptied whole
    → told one ≡ untouched (Began (tree_of first) next) (times_of first) → told other ≡ untouched (Began (tree_of second) next) (times_of second)
    → Replays (picked passes whole) from (stand_in first) → Replays (picked passes empty) from (stand_in second) → ArePair (picked passes whole) from (stand_told one) (stand_told other)
pair-of passes whole empty from one other next first second is one_is other_is replays_one replays_other = record {
  whole = subst (Replays (picked passes whole) from) (sym (began-stand one next first one_is)) replays_one;
  empty = subst (λ l. Replays l from (stand_told other)) (ap (picked passes) is ∙ picked-map emptied passes whole) (subst (Replays (picked passes empty) from) (sym (began-stand other next second other_is)) replays_other);
}
