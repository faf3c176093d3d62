-- The maps of slots and of files, as finite maps.
use Rattle.std.proofs.Common.{◌≡◌, ℕ, true, List, [], ◌∷◌, ◌++◌, map, refl, sym, ◌∙◌, ap, Some, None, is_some, Bor}
use Rattle.std.specs.declared.cmp.Ordering.{Ordering}
use Rattle.std.specs.Iterator.{Yields}
use Rattle.std.specs.Map.Iter.{TakesFirst, deref_pair}
use Rattle.std.proofs.lemmas.Map.Iter.{rest_so_far}
use Rattle.std.proofs.lemmas.List.{append-nil, map-append}
use Rattle.std.specs.FinMap.{FinMap, is_sorted, get, insert, remove, entries, from_entries}
use Rattle.std.specs.Cmp.{IsTotalOrder, nat_cmp_total}
use Rattle.std.specs.Ordering.{nat_cmp, is_eq}
use Rattle.std.specs.FinMap.{IsAntisymmetric, nat_cmp-IsAntisymmetric}
use Rattle.std.specs.List.Sorted.{IsStrictlySortedBy}
use Rattle.std.specs.BTreeMap.{BTreeMap, UpdatesBy, WritesThrough}
use Rattle.std.specs.Map.{lookup, keys_of}
use Rattle.std.specs.declared.vec.Vec.{Vec}
use Rattle.dired_text.specs.Paths.{Names, path_cmp}
use Rattle.dired_text.proofs.PathLemmas.{path_cmp-total, path_cmp-exact}
use Rattle.mem_tree.specs.declared.slots.Content.{Content}
use Rattle.mem_tree.specs.declared.slots.Slot.{Slot}
use Rattle.mem_tree.specs.declared.files.FileBody.{FileBody}
use Rattle.mem_tree.specs.Slots.{Slots, Files, placed, changed_body, changed_slot, with_content}
use Rattle.mem_tree.proofs.MapLemmas.{shown_same, get-shown, inserted, removed, sorted-shown, entries-made, made-push, cmp_read}

-- one entry more, in order
more_made : {K X : Type 0} {R : K → K → Ordering} → IsTotalOrder R → IsAntisymmetric R → (all front : List (K × X)) (e : K × X) (rest : List (K × X)) (old new : FinMap R X)
    → is_sorted R all ≡ true → all ≡ front ++ e ∷ rest → old ≡ from_entries front → new ≡ insert old e.0 e.1 → new ≡ from_entries (front ++ e ∷ [])
more_made {R = R} o exact all front e rest old new s is old_is new_is =
    new_is ∙ ap (λ m. insert m e.0 e.1) old_is ∙ sym (made-push o exact front e rest (sym (ap (is_sorted R) is) ∙ s))

-- ---- files

abbrev same_key : ℕ → ℕ
same_key n = n

pub get_file : (m : BTreeMap ℕ FileBody) (q : ℕ) → lookup (λ k. is_eq (nat_cmp q k)) m.entries ≡ get (from_entries {R = nat_cmp} m.entries) q
get_file m q = sym (get-shown same_key nat_cmp_total nat_cmp-IsAntisymmetric m.entries q) ∙ ap (λ l. get (from_entries {R = nat_cmp} l) q) (shown_same m.entries)

pub file_inserted : (m n : BTreeMap ℕ FileBody) (p : ℕ) (v : FileBody) → UpdatesBy nat_cmp (nat_cmp p) m n (Some v) → from_entries {R = nat_cmp} n.entries ≡ insert (from_entries m.entries) p v
file_inserted m n p v u =
    ap from_entries (sym (shown_same n.entries)) ∙ inserted same_key nat_cmp_total nat_cmp-IsAntisymmetric m n p v u
    ∙ ap (λ l. insert (from_entries l) p v) (shown_same m.entries)

pub file_removed : (m n : BTreeMap ℕ FileBody) (p : ℕ) → UpdatesBy nat_cmp (nat_cmp p) m n None → from_entries {R = nat_cmp} n.entries ≡ remove (from_entries m.entries) p
file_removed m n p u =
    ap from_entries (sym (shown_same n.entries)) ∙ removed same_key nat_cmp_total nat_cmp-IsAntisymmetric m n p u
    ∙ ap (λ l. remove (from_entries l) p) (shown_same m.entries)

pub file_sorted : (es : List (ℕ × FileBody)) → IsStrictlySortedBy nat_cmp (keys_of es) → is_sorted nat_cmp es ≡ true
file_sorted es s = sym (ap (is_sorted nat_cmp) (shown_same es)) ∙ sorted-shown same_key nat_cmp_total nat_cmp-IsAntisymmetric es s

-- a file more of those that are copied
pub file_copied : (m : BTreeMap ℕ FileBody) (xs : List (Bor ℕ × Bor FileBody)) (x : Bor ℕ × Bor FileBody) (s t u : List (ℕ × FileBody)) (old new : Files) (body : FileBody)
    → is_sorted nat_cmp m.entries ≡ true → s ≡ m.entries → Yields (TakesFirst deref_pair) s xs t → t ≡ deref_pair x ∷ u → old ≡ from_entries (map deref_pair xs) → new ≡ insert old x.0.now body → body ≡ x.1.now
    → new ≡ from_entries (map deref_pair (xs ++ x ∷ []))
file_copied m xs x s t u old new body sorted s_is y t_is old_is new_is copied =
    more_made nat_cmp_total nat_cmp-IsAntisymmetric m.entries (map deref_pair xs) (deref_pair x) u old new sorted
    (sym s_is ∙ rest_so_far deref_pair xs s t y ∙ ap (λ l. map deref_pair xs ++ l) t_is) old_is (new_is ∙ ap (insert old x.0.now) copied)
    ∙ ap from_entries (sym (map-append deref_pair xs (x ∷ [])))

pub files_copied : (m : BTreeMap ℕ FileBody) (xs : List (Bor ℕ × Bor FileBody)) (s t : List (ℕ × FileBody)) (all files : Files)
    → s ≡ m.entries → Yields (TakesFirst deref_pair) s xs t → t ≡ [] → all ≡ from_entries (map deref_pair xs) → from_entries {R = nat_cmp} m.entries ≡ files → all ≡ files
files_copied m xs s t all files s_is y t_is all_is view =
    all_is ∙ ap (from_entries {R = nat_cmp}) (sym (append-nil (map deref_pair xs)) ∙ ap (λ l. map deref_pair xs ++ l) (sym t_is) ∙ sym (rest_so_far deref_pair xs s t y) ∙ s_is) ∙ view

module _ (m n : BTreeMap ℕ FileBody) (files : Files) (p : ℕ) (f : FileBody → FileBody) (view : from_entries {R = nat_cmp} m.entries ≡ files) where
  at_p : get files p ≡ lookup (λ k. is_eq (nat_cmp p k)) m.entries
  at_p = ap (λ (l : Files). get l p) (sym view) ∙ sym (get_file m p)

  pub file_written : (body : FileBody) → Some body ≡ lookup (λ k. is_eq (nat_cmp p k)) m.entries → WritesThrough nat_cmp (nat_cmp p) m (f body) n → from_entries {R = nat_cmp} n.entries ≡ changed_body f p (get files p) files
  file_written body found h =
      file_inserted m n p (f body) (h.3 (sym (ap is_some found))) ∙ ap (λ (l : Files). insert l p (f body)) view
      ∙ sym (ap (λ o. changed_body f p o files) (at_p ∙ sym found))

  pub file_missed : None ≡ lookup (λ k. is_eq (nat_cmp p k)) m.entries → n ≡ m → from_entries {R = nat_cmp} n.entries ≡ changed_body f p (get files p) files
  file_missed none same = ap (λ (b : BTreeMap ℕ FileBody). from_entries {R = nat_cmp} b.entries) same ∙ view ∙ sym (ap (λ o. changed_body f p o files) (at_p ∙ sym none))

-- ---- slots

abbrev pub names : {Z : Type 0} → Vec (List ℕ) Z → Names
names k = k.items

module _ {Z : Type 0} where
  pub get_slot : (m : BTreeMap (Vec (List ℕ) Z) Slot) (q : Names) → lookup (λ k. is_eq (path_cmp q k.items)) m.entries ≡ get (from_entries {R = path_cmp} (placed m.entries)) q
  get_slot m q = sym (get-shown names path_cmp-total path_cmp-exact m.entries q)

  pub slot_inserted : (m n : BTreeMap (Vec (List ℕ) Z) Slot) (p : Names) (v : Slot) → UpdatesBy (cmp_read names path_cmp) (λ k. path_cmp p k.items) m n (Some v) → from_entries {R = path_cmp} (placed n.entries) ≡ insert (from_entries (placed m.entries)) p v
  slot_inserted m n p v u = inserted names path_cmp-total path_cmp-exact m n p v u

  pub slot_removed : (m n : BTreeMap (Vec (List ℕ) Z) Slot) (p : Names) → UpdatesBy (cmp_read names path_cmp) (λ k. path_cmp p k.items) m n None → from_entries {R = path_cmp} (placed n.entries) ≡ remove (from_entries (placed m.entries)) p
  slot_removed m n p u = removed names path_cmp-total path_cmp-exact m n p u

  pub slot_sorted : (es : List (Vec (List ℕ) Z × Slot)) → IsStrictlySortedBy (cmp_read names path_cmp) (keys_of es) → is_sorted path_cmp (placed es) ≡ true
  slot_sorted es s = sorted-shown names path_cmp-total path_cmp-exact es s

  pub slot_entries : (es : List (Vec (List ℕ) Z × Slot)) → is_sorted path_cmp (placed es) ≡ true → entries (from_entries {R = path_cmp} (placed es)) ≡ placed es
  slot_entries es s = entries-made path_cmp-total path_cmp-exact (placed es) s

  module _ (m n : BTreeMap (Vec (List ℕ) Z) Slot) (slots : Slots) (p : Names) (content : Content) (view : from_entries {R = path_cmp} (placed m.entries) ≡ slots) where
    slot_at_p : get slots p ≡ lookup (λ k. is_eq (path_cmp p k.items)) m.entries
    slot_at_p = ap (λ (l : Slots). get l p) (sym view) ∙ sym (get_slot m p)

    pub slot_written : (slot : Slot) → Some slot ≡ lookup (λ k. is_eq (path_cmp p k.items)) m.entries → WritesThrough (cmp_read names path_cmp) (λ k. path_cmp p k.items) m (record slot { content = content }) n
        → from_entries {R = path_cmp} (placed n.entries) ≡ with_content p content slots
    slot_written slot found h =
        slot_inserted m n p (record slot { content = content }) (h.3 (sym (ap is_some found))) ∙ ap (λ (l : Slots). insert l p (record slot { content = content })) view
        ∙ sym (ap (λ o. changed_slot p content o slots) (slot_at_p ∙ sym found))

    pub slot_missed : None ≡ lookup (λ k. is_eq (path_cmp p k.items)) m.entries → n ≡ m → from_entries {R = path_cmp} (placed n.entries) ≡ with_content p content slots
    slot_missed none same = ap (λ (b : BTreeMap (Vec (List ℕ) Z) Slot). from_entries {R = path_cmp} (placed b.entries)) same ∙ view ∙ sym (ap (λ o. changed_slot p content o slots) (slot_at_p ∙ sym none))

  -- a slot more of those that are copied
  pub slot_copied : (m : BTreeMap (Vec (List ℕ) Z) Slot) (xs : List (Bor (Vec (List ℕ) Z) × Bor Slot)) (x : Bor (Vec (List ℕ) Z) × Bor Slot) (s t u : List (Vec (List ℕ) Z × Slot)) (old new : Slots) (at : Names) (slot : Slot)
      → is_sorted path_cmp (placed m.entries) ≡ true → s ≡ m.entries → Yields (TakesFirst deref_pair) s xs t → t ≡ deref_pair x ∷ u → old ≡ from_entries (placed (map deref_pair xs)) → new ≡ insert old at slot → at ≡ x.0.now.items → slot ≡ x.1.now
      → new ≡ from_entries (placed (map deref_pair (xs ++ x ∷ [])))
  slot_copied m xs x s t u old new at slot sorted s_is y t_is old_is new_is at_is copied =
      more_made path_cmp-total path_cmp-exact (placed m.entries) (placed (map deref_pair xs)) (x.0.now.items, x.1.now) (placed u) old new sorted
      (ap placed (sym s_is ∙ rest_so_far deref_pair xs s t y ∙ ap (λ l. map deref_pair xs ++ l) t_is) ∙ placed-append (map deref_pair xs) (deref_pair x ∷ u)) old_is
      (new_is ∙ (λ i. insert old (at_is i) (copied i)))
      ∙ ap from_entries (sym (ap placed (map-append deref_pair xs (x ∷ [])) ∙ placed-append (map deref_pair xs) (deref_pair x ∷ [])))
    where
      placed-append : (l k : List (Vec (List ℕ) Z × Slot)) → placed (l ++ k) ≡ placed l ++ placed k
      placed-append [] k = refl
      placed-append (e ∷ l) k = ap (λ r. (e.0.items, e.1) ∷ r) (placed-append l k)

  pub slots_copied : (m : BTreeMap (Vec (List ℕ) Z) Slot) (xs : List (Bor (Vec (List ℕ) Z) × Bor Slot)) (s t : List (Vec (List ℕ) Z × Slot)) (all slots : Slots)
      → s ≡ m.entries → Yields (TakesFirst deref_pair) s xs t → t ≡ [] → all ≡ from_entries (placed (map deref_pair xs)) → from_entries {R = path_cmp} (placed m.entries) ≡ slots → all ≡ slots
  slots_copied m xs s t all slots s_is y t_is all_is view =
      all_is ∙ ap (λ l. from_entries {R = path_cmp} (placed l)) (sym (append-nil (map deref_pair xs)) ∙ ap (λ l. map deref_pair xs ++ l) (sym t_is) ∙ sym (rest_so_far deref_pair xs s t y) ∙ s_is) ∙ view
