-- The loops of a rename, move by move.
use Rattle.std.proofs.Common.{◌≡◌, ℕ, ◌+◌, ◌<◌, Bool, true, false, ◌||◌, List, [], ◌∷◌, ◌++◌, map, length, take, drop, get_or, refl, sym, ◌∙◌, ap, Option, Some, None}
use Rattle.std.proofs.lemmas.List.{take_more, take-append-drop, map-append}
use Rattle.std.proofs.lemmas.List.Folds.{list_any-append}
use Rattle.std.specs.FinMap.{get, insert, remove}
use Rattle.std.specs.List.{list_any}
use Rattle.dired_text.specs.Paths.{Names}
use Rattle.tree_core.proofs.TreeLemmas.{tie}
use Rattle.mem_tree.specs.declared.slots.Slot.{Slot}
use Rattle.mem_tree.specs.declared.renaming.Move.{Move}
use Rattle.mem_tree.specs.Slots.{Slots}
use Rattle.mem_tree.specs.Moves.{pairs_of, is_target, copied_slot, with_copies, without_each}
use Rattle.mem_tree.proofs.MoveLemmas.{with_copies-push, without_each-push, copies-others}

-- one more of a list
pub map_more : {A B : Type 0} (f : A → B) (xs : List A) (i : ℕ) (x : A) → i < length xs → x ≡ get_or xs i x → map f (take (i + 1) xs) ≡ map f (take i xs) ++ f x ∷ []
map_more f xs i x within is = ap (map f) (take_more xs i x within ∙ ap (λ y. take i xs ++ y ∷ []) (sym is)) ∙ map-append f (take i xs) (x ∷ [])

abbrev pair : Move → Names × Names
pair m = (m.from.items, m.to.items)

module _ (moves : List Move) (i : ℕ) (x : Move) (within : i < length moves) (is : x ≡ get_or moves i x) (now new initial : Slots) where
  pub removed_more : (pick : Names × Names → Names) (at : Names) → now ≡ without_each (map pick (pairs_of (take i moves))) initial → new ≡ remove now at → at ≡ pick (pair x) → new ≡ without_each (map pick (pairs_of (take (i + 1) moves))) initial
  removed_more pick at so_far step at_is =
      step ∙ (λ j. remove (so_far j) (at_is j)) ∙ sym (without_each-push (map pick (pairs_of (take i moves))) (pick (pair x)) initial)
      ∙ ap (λ l. without_each l initial) (sym (ap (map pick) (map_more pair moves i x within is) ∙ map-append pick (pairs_of (take i moves)) (pair x ∷ [])))

  copied_step : (o : Option Slot) → now ≡ with_copies (pairs_of (take i moves)) initial → o ≡ get now x.from.items → new ≡ copied_slot o x.to.items now → new ≡ with_copies (pairs_of (take (i + 1) moves)) initial
  copied_step o so_far found step =
      step ∙ ap (λ p. copied_slot p x.to.items now) found ∙ ap (λ s. copied_slot (get s x.from.items) x.to.items s) so_far
      ∙ sym (with_copies-push (pairs_of (take i moves)) (pair x) initial) ∙ ap (λ l. with_copies l initial) (sym (map_more pair moves i x within is))

  pub copied_found : (from to : Names) (slot copy : Slot) → now ≡ with_copies (pairs_of (take i moves)) initial → from ≡ x.from.items → Some slot ≡ get now from → copy ≡ slot → new ≡ insert now to copy → to ≡ x.to.items → new ≡ with_copies (pairs_of (take (i + 1) moves)) initial
  copied_found from to slot copy so_far from_is found copied step to_is =
      copied_step (Some slot) so_far (found ∙ ap (get now) from_is) (step ∙ (λ j. insert now (to_is j) (copied j)))

  pub copied_none : (from : Names) → now ≡ with_copies (pairs_of (take i moves)) initial → from ≡ x.from.items → None ≡ get now from → new ≡ now → new ≡ with_copies (pairs_of (take (i + 1) moves)) initial
  copied_none from so_far from_is none same = copied_step None so_far (none ∙ ap (get now) from_is) same

or_left : (a b : Bool) → (a || b) ≡ false → a ≡ false
or_left true b is = is
or_left false b is = refl

-- what nothing moves to stays, also where only some are copied
pub others_stay : (moves : List Move) (i : ℕ) (now new initial : Slots) → now ≡ with_copies (pairs_of (take i moves)) initial → new ≡ now → (q : Names) → is_target q (pairs_of moves) ≡ false → get new q ≡ get initial q
others_stay moves i now new initial so_far same q other =
    ap (λ s. get s q) (same ∙ so_far) ∙ copies-others (pairs_of (take i moves)) initial q (or_left _ _ (sym parts ∙ other))
  where
    parts : is_target q (pairs_of moves) ≡ (is_target q (pairs_of (take i moves)) || is_target q (pairs_of (drop i moves)))
    parts =
        ap (λ l. is_target q (pairs_of l)) (sym (take-append-drop i moves))
        ∙ ap (is_target q) (map-append pair (take i moves) (drop i moves))
        ∙ ap (λ l. list_any (tie q) l) (map-append (λ (p : Names × Names). p.1) (pairs_of (take i moves)) (pairs_of (drop i moves)))
        ∙ list_any-append (tie q) (map (λ p. p.1) (pairs_of (take i moves))) (map (λ p. p.1) (pairs_of (drop i moves)))
