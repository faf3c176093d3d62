-- Each change of slots and files keeps the tree that the call makes.
use Rattle.std.proofs.Common.{◌≡◌, ℕ, zero, suc, ◌+◌, ◌-◌, ◌<◌, ◌==◌, ℤ, pos, Bool, true, false, cond, [], refl, sym, ◌∙◌, ap, subst, arith, Option, Some, None, is_some, IsTrue, if◌then◌else◌, nat_le}
use Rattle.std.proofs.lemmas.Bool.{cond-true, cond-false, eq-eqb, eqb-true, leb-true}
use Rattle.std.proofs.lemmas.Option.{same_Some}
use Rattle.std.specs.Option.{option_map}
use Rattle.std.specs.FinMap.{get, insert, remove, get-insert, get-remove, same_map}
use Rattle.std.specs.Ordering.{nat_cmp, eq_by_cmp}
use Rattle.std.specs.Cmp.{nat_cmp_total}
use Rattle.std.specs.FinMap.{nat_cmp-IsAntisymmetric}
use Rattle.dired_text.specs.Paths.{Names}
use Rattle.dired_text.proofs.PathLemmas.{path_cmp-total, path_cmp-exact}
use Rattle.tree_core.specs.declared.node.Node.{Node}
use Rattle.tree_core.specs.declared.node.Node.TheVariants.{Dir, File}
use Rattle.tree_core.specs.FileTree.{FileTree, IsAbsent, CanMake, HasMode, has_mode_node, is_file_node, insert_same, set_mode_of, with_nodes, with_file_mode}
use Rattle.tree_core.proofs.TreeLemmas.{same_tree, get-with_nodes}
use Rattle.mem_tree.specs.Mem.{is_same_path}
use Rattle.mem_tree.specs.declared.slots.Content.{Content}
use Rattle.mem_tree.specs.declared.slots.Content.TheVariants as content
use Rattle.mem_tree.specs.declared.slots.Slot.{Slot}
use Rattle.mem_tree.specs.declared.files.FileBody.{FileBody}
use Rattle.mem_tree.specs.Slots.{Slots, Files, Keep, FilesBelow, node_of, file_node, tree_in, time_at, times_in, timed, is_number, places_of, positive, Counted, content_number, changed_body, changed_slot, with_mode, with_paths, with_content, without_path, less_one, file_number}
use Rattle.mem_tree.specs.Times.{Times}
use Rattle.mem_tree.proofs.Counting.{weight, count-insert, count-new, count-remove, count_some, count_none}
use Rattle.mem_tree.proofs.TreeOf.{slot_absent, node_in, is_slot_of, get-tree, tree-insert, tree-remove, tree-files, times-insert, times-remove, number_tie, number_decides, same_path_decides, positive_same, positive_none, positive_more, body_stands}

abbrev paths_told : Option FileBody → Option ℕ
paths_told o = option_map (λ (b : FileBody). b.paths) o

get-file : (files : Files) (k : ℕ) (body : FileBody) (n : ℕ) → get (insert files k body) n ≡ cond (n == k) (Some body) (get files n)
get-file files k body n = get-insert nat_cmp_total files k body n ∙ ap (λ b. cond b (Some body) (get files n)) (sym (number_tie n k))

-- ---- a directory or a link

number_none : (c : Content) → content_number c ≡ None → (n : ℕ) → is_number n c ≡ false
number_none (content.Dir mode) is n = refl
number_none (content.Link target) is n = refl
number_none (content.File number) is n = cc

counted-put : (slots : Slots) (files : Files) (p : Names) (slot : Slot) → Counted slots files → get slots p ≡ None → ((n : ℕ) → is_slot_of n slot ≡ false) → Counted (insert slots p slot) files
counted-put slots files p slot counted absent none n =
    counted n ∙ ap positive (let new = count-new (is_slot_of n) path_cmp-total path_cmp-exact slots p slot absent in let z : cond {A = ℕ} (is_slot_of n slot) 1 0 ≡ 0 = ap (λ b. cond b 1 0) (none n) in omega arith)

pub keep_make : (slots : Slots) (files : Files) (p : Names) (slot : Slot) → Counted slots files → get slots p ≡ None → content_number slot.content ≡ None
    → Keep (insert slots p slot) files (insert (tree_in slots files) p (node_in files slot)) (timed p slot.mtime (times_in slots))
keep_make slots files p slot counted absent none = record {
  tree = tree-insert slots files p slot;
  times = times-insert slots p slot;
  counted = counted-put slots files p slot counted absent (number_none slot.content none);
}

-- ---- another path of a file, and a new file

raised_same : (files : Files) (number : ℕ) (body : FileBody) → get files number ≡ Some body → (new : FileBody) → new.bytes ≡ body.bytes → new.mode ≡ body.mode → (c : Content) → node_of (insert files number new) c ≡ node_of files c
raised_same files number body at_n new b m (content.Dir mode) = refl
raised_same files number body at_n new b m (content.Link target) = refl
raised_same files number body at_n new b m (content.File k) = ap (file_node k) (get-file files number new k) ∙ by (k == number) refl
  where
    by : (t : Bool) → (k == number) ≡ t → file_node k (cond (k == number) (Some new) (get files k)) ≡ file_node k (get files k)
    by true t =
        ap (λ o. file_node k o) (cond-true _ (Some new) _ t) ∙ (λ i. File k (b i) (m i))
        ∙ sym (ap (file_node k) (ap (get files) (eqb-true k number t) ∙ at_n))
    by false t = ap (λ o. file_node k o) (cond-false _ (Some new) _ t)

module _ (slots : Slots) (files : Files) (p : Names) (number : ℕ) (mtime : ℤ) (counted : Counted slots files) (absent : get slots p ≡ None) where
  abbrev slot : Slot
  slot = record { content = content.File number; mtime = mtime }

  more : (n : ℕ) → places_of n (insert slots p slot) ≡ places_of n slots + cond (n == number) 1 0
  more n = count-new (is_slot_of n) path_cmp-total path_cmp-exact slots p slot absent

  counted-more : (body new : FileBody) → get files number ≡ Some body → new.paths ≡ body.paths + 1 → Counted (insert slots p slot) (insert files number new)
  counted-more body new at_n paths n = ap paths_told (get-file files number new n) ∙ by (n == number) refl (counted n)
    where
      by : (t : Bool) → (n == number) ≡ t → paths_told (get files n) ≡ positive (places_of n slots) → paths_told (cond (n == number) (Some new) (get files n)) ≡ positive (places_of n (insert slots p slot))
      by true t was =
          let here : get files n ≡ Some body = ap (get files) (eqb-true n number t) ∙ at_n in
          let places : places_of n slots ≡ body.paths = positive_same _ _ (sym was ∙ ap paths_told here) in
          let one : cond {A = ℕ} (n == number) 1 0 ≡ 1 = ap (λ b. cond b 1 0) t in
          let now : places_of n (insert slots p slot) ≡ places_of n slots + 1 = more n ∙ ap (λ k. places_of n slots + k) one in
          ap paths_told (cond-true _ (Some new) _ t) ∙ ap (λ k. Some k) (paths ∙ ap (λ k. k + 1) (sym places)) ∙ sym (positive_more (places_of n slots)) ∙ ap positive (sym now)
      by false t was =
          let none : cond {A = ℕ} (n == number) 1 0 ≡ 0 = ap (λ b. cond b 1 0) t in
          let m = more n in
          let now : places_of n slots ≡ places_of n (insert slots p slot) = omega arith in
          ap paths_told (cond-false _ (Some new) _ t) ∙ was ∙ ap positive now

  pub keep_hard : (body : FileBody) → get files number ≡ Some body
      → Keep (insert slots p slot) (with_paths number (body.paths + 1) files) (insert (tree_in slots files) p (file_node number (get files number))) (timed p mtime (times_in slots))
  keep_hard body at_n =
      let new : FileBody = record body { paths = body.paths + 1 } in
      let files_is : with_paths number (body.paths + 1) files ≡ insert files number new = ap (λ o. changed_body (λ b. record b { paths = body.paths + 1 }) number o files) at_n in
      subst (λ (f : Files). Keep (insert slots p slot) f (insert (tree_in slots files) p (file_node number (get files number))) (timed p mtime (times_in slots))) (sym files_is) record {
        tree = tree-files (insert slots p slot) files (insert files number new) (λ q s _. raised_same files number body at_n new refl refl s.content) ∙ tree-insert slots files p slot;
        times = times-insert slots p slot;
        counted = counted-more body new at_n refl;
      }

  -- no slot has the number yet
  no_slot : get files number ≡ None → (q : Names) (s : Slot) → get slots q ≡ Some s → is_slot_of number s ≡ false
  no_slot none q s at_q = by (is_slot_of number s) refl
    where
      by : (b : Bool) → is_slot_of number s ≡ b → is_slot_of number s ≡ false
      by true t = absurd (let stands = body_stands slots files counted q s number at_q t in let no_one : is_some (get files number) ≡ false = ap is_some none in cc)
      by false t = t

  other_same : (body : FileBody) (c : Content) → is_number number c ≡ false → node_of (insert files number body) c ≡ node_of files c
  other_same body (content.Dir mode) other = refl
  other_same body (content.Link target) other = refl
  other_same body (content.File k) other = ap (file_node k) (get-file files number body k ∙ cond-false _ (Some body) _ (turned (k == number) refl))
    where
      turned : (b : Bool) → (k == number) ≡ b → (k == number) ≡ false
      turned true t = absurd (let same : number ≡ k = sym (eqb-true k number t) in let yes : (number == k) ≡ true = eq-eqb number k same in cc)
      turned false t = t

  pub keep_write : (body : FileBody) → body.paths ≡ 1 → get files number ≡ None
      → Keep (insert slots p slot) (insert files number body) (insert (tree_in slots files) p (File number body.bytes body.mode)) (timed p mtime (times_in slots))
  keep_write body one none = record {
    tree = tree-insert slots (insert files number body) p slot
        ∙ (λ i. insert (tree-files slots files (insert files number body) (λ q s at_q. other_same body s.content (no_slot none q s at_q)) i) p (file_node number (own i)));
    times = times-insert slots p slot;
    counted = λ n. ap paths_told (get-file files number body n) ∙ by n (n == number) refl (counted n);
  }
    where
      own : get (insert files number body) number ≡ Some body
      own = get-file files number body number ∙ cond-true _ (Some body) _ (eq-eqb number number refl)

      by : (n : ℕ) (t : Bool) → (n == number) ≡ t → paths_told (get files n) ≡ positive (places_of n slots) → paths_told (cond (n == number) (Some body) (get files n)) ≡ positive (places_of n (insert slots p slot))
      by n true t was =
          let here : get files n ≡ None = ap (get files) (eqb-true n number t) ∙ none in
          let places : places_of n slots ≡ 0 = positive_none _ (sym was ∙ ap paths_told here) in
          let step : cond {A = ℕ} (n == number) 1 0 ≡ 1 = ap (λ b. cond b 1 0) t in
          let m = more n in
          let now : places_of n (insert slots p slot) ≡ 1 = omega arith in
          ap paths_told (cond-true _ (Some body) _ t) ∙ ap (λ k. Some k) one ∙ ap positive (sym now)
      by n false t was =
          let step : cond {A = ℕ} (n == number) 1 0 ≡ 0 = ap (λ b. cond b 1 0) t in
          let m = more n in
          let now : places_of n slots ≡ places_of n (insert slots p slot) = omega arith in
          ap paths_told (cond-false _ (Some body) _ t) ∙ was ∙ ap positive now

-- the number of the next file has no body
pub no_body : (slots : Slots) (files : Files) (next : ℕ) → Counted slots files → FilesBelow next (tree_in slots files) → get files next ≡ None
no_body slots files next counted below = by (get files next) refl (counted next)
  where
    none_there : places_of next slots ≡ 0
    none_there = count_none (is_slot_of next) path_cmp-total path_cmp-exact slots (λ q s at_q. other q s.content (get-tree slots files q ∙ ap (option_map (node_in files)) at_q))
      where
        other : (q : Names) (c : Content) → get (tree_in slots files) q ≡ Some (node_of files c) → is_number next c ≡ false
        other q (content.Dir mode) at_q = refl
        other q (content.Link target) at_q = refl
        other q (content.File k) at_q = step (get files k) at_q
          where
            step : (o : Option FileBody) → get (tree_in slots files) q ≡ Some (file_node k o) → (next == k) ≡ false
            step None at_q = differ (below q k [] 0 at_q)
              where
                differ : k < next → (next == k) ≡ false
                differ lt = grind arith
            step (Some body) at_q = differ (below q k body.bytes body.mode at_q)
              where
                differ : k < next → (next == k) ≡ false
                differ lt = grind arith

    by : (o : Option FileBody) → get files next ≡ o → paths_told o ≡ positive (places_of next slots) → get files next ≡ None
    by None is was = is
    by (Some body) is was = absurd (let no_one : Some body.paths ≡ None = was ∙ ap positive none_there in cc)

-- put in, and taken out again
pub insert_undone : (files : Files) (number : ℕ) (body : FileBody) → get files number ≡ None → remove (insert files number body) number ≡ files
insert_undone files number body none = same_map nat_cmp_total nat_cmp-IsAntisymmetric _ _ (λ n.
    get-remove nat_cmp_total (insert files number body) number n ∙ ap (cond (eq_by_cmp nat_cmp n number) None) (get-insert nat_cmp_total files number body n) ∙ at n (eq_by_cmp nat_cmp n number) refl)
  where
    at : (n : ℕ) (b : Bool) → eq_by_cmp nat_cmp n number ≡ b → cond (eq_by_cmp nat_cmp n number) None (cond (eq_by_cmp nat_cmp n number) (Some body) (get files n)) ≡ get files n
    at n true t = cond-true _ None _ t ∙ sym (ap (get files) ((number_decides n number).0 t) ∙ none)
    at n false t = cond-false _ None _ t ∙ cond-false _ (Some body) _ t

-- ---- a new mode

-- the content of a slot with a number
is_file_slot : (o : Option Slot) (number : ℕ) → file_number o ≡ Some number → (s : Slot) → o ≡ Some s → s.content ≡ content.File number
is_file_slot None number is s at = cc
is_file_slot (Some t) number is s at = ap (λ (u : Slot). u.content) (sym (same_Some t s at)) ∙ by t.content is
  where
    by : (c : Content) → content_number c ≡ Some number → c ≡ content.File number
    by (content.Dir mode) is = cc
    by (content.Link target) is = cc
    by (content.File k) is = ap (λ n. content.File n) (same_Some k number is)

pub record FileAt (slots : Slots) (files : Files) (p : Names) (number : ℕ) : Type 0 where
  pub slot : Slot
  pub body : FileBody
  pub at_p : get slots p ≡ Some slot
  pub is : slot.content ≡ content.File number
  pub known : get files number ≡ Some body

pub file_at : (slots : Slots) (files : Files) (p : Names) (number : ℕ) → Counted slots files → file_number (get slots p) ≡ Some number → FileAt slots files p number
file_at slots files p number counted is = by (get slots p) refl
  where
    by : (o : Option Slot) → get slots p ≡ o → FileAt slots files p number
    by None at_p = absurd (clash (sym (ap file_number at_p) ∙ is))
      where
        clash : None ≡ Some number → ⊥
        clash e = cc
    by (Some slot) at_p =
        let content_is : slot.content ≡ content.File number = is_file_slot (get slots p) number is slot at_p in
        let own : is_slot_of number slot ≡ true = ap (is_number number) content_is ∙ eq-eqb number number refl in
        found slot at_p content_is (get files number) refl (body_stands slots files counted p slot number at_p own)
      where
        found : (slot : Slot) → get slots p ≡ Some slot → slot.content ≡ content.File number → (b : Option FileBody) → get files number ≡ b → IsTrue (is_some (get files number)) → FileAt slots files p number
        found slot at_p content_is None known stands = absurd (let none : is_some (get files number) ≡ false = ap is_some known in cc)
        found slot at_p content_is (Some body) known stands = record { slot = slot; body = body; at_p = at_p; is = content_is; known = known }

-- the node of a file
pub file_shown : (slots : Slots) (files : Files) (p : Names) (number : ℕ) (f : FileAt slots files p number) → get (tree_in slots files) p ≡ Some (File number f.body.bytes f.body.mode)
file_shown slots files p number f = get-tree slots files p ∙ ap (option_map (node_in files)) f.at_p ∙ ap (λ c. Some (node_of files c)) f.is ∙ ap (λ o. Some (file_node number o)) f.known

keep_paths : (files : Files) (number : ℕ) (body new : FileBody) → get files number ≡ Some body → new.paths ≡ body.paths → (n : ℕ) → paths_told (get (insert files number new) n) ≡ paths_told (get files n)
keep_paths files number body new at_n same n = ap paths_told (get-file files number new n) ∙ by (n == number) refl
  where
    by : (t : Bool) → (n == number) ≡ t → paths_told (cond (n == number) (Some new) (get files n)) ≡ paths_told (get files n)
    by true t = ap paths_told (cond-true _ (Some new) _ t) ∙ ap (λ k. Some k) same ∙ sym (ap paths_told (ap (get files) (eqb-true n number t) ∙ at_n))
    by false t = ap paths_told (cond-false _ (Some new) _ t)

moded : (files : Files) (number mode : ℕ) (body : FileBody) → get files number ≡ Some body → (c : Content) → node_of (insert files number (record body { mode = mode })) c ≡ with_file_mode number mode (node_of files c)
moded files number mode body at_n (content.Dir m) = refl
moded files number mode body at_n (content.Link target) = refl
moded files number mode body at_n (content.File k) = ap (file_node k) (get-file files number new k) ∙ by (k == number) refl
  where
    new : FileBody
    new = record body { mode = mode }

    other : (o : Option FileBody) → (k == number) ≡ false → file_node k o ≡ with_file_mode number mode (file_node k o)
    other None f = ap (λ m. File k [] m) (sym (cond-false (k == number) mode 0 f))
    other (Some b) f = ap (λ m. File k b.bytes m) (sym (cond-false (k == number) mode b.mode f))

    by : (t : Bool) → (k == number) ≡ t → file_node k (cond (k == number) (Some new) (get files k)) ≡ with_file_mode number mode (file_node k (get files k))
    by true t =
        ap (file_node k) (cond-true _ (Some new) _ t) ∙ ap (λ m. File k body.bytes m) (sym (cond-true (k == number) mode body.mode t))
        ∙ sym (ap (λ o. with_file_mode number mode (file_node k o)) (ap (get files) (eqb-true k number t) ∙ at_n))
    by false f = ap (file_node k) (cond-false _ (Some new) _ f) ∙ other (get files k) f

pub keep_file_mode : (slots : Slots) (files : Files) (p : Names) (number mode : ℕ) → Counted slots files → file_number (get slots p) ≡ Some number
    → Keep slots (with_mode number mode files) (set_mode_of (get (tree_in slots files) p) (tree_in slots files) p mode) (times_in slots)
keep_file_mode slots files p number mode counted is =
    let f = file_at slots files p number counted is in
    let new : FileBody = record f.body { mode = mode } in
    let files_is : with_mode number mode files ≡ insert files number new = ap (λ o. changed_body (λ b. record b { mode = mode }) number o files) f.known in
    let tree_is : set_mode_of (get (tree_in slots files) p) (tree_in slots files) p mode ≡ with_nodes (with_file_mode number mode) (tree_in slots files) =
    ap (λ o. set_mode_of o (tree_in slots files) p mode) (file_shown slots files p number f) in
    subst (λ (g : Files). Keep slots g (set_mode_of (get (tree_in slots files) p) (tree_in slots files) p mode) (times_in slots)) (sym files_is) record {
      tree = same_tree _ _ (λ q. get-tree slots (insert files number new) q ∙ at f.body f.known q (get slots q)
          ∙ ap (option_map (with_file_mode number mode)) (sym (get-tree slots files q)) ∙ sym (get-with_nodes (with_file_mode number mode) (tree_in slots files) q)) ∙ sym tree_is;
      times = refl;
      counted = λ n. keep_paths files number f.body new f.known refl n ∙ counted n;
    }
  where
    at : (body : FileBody) → get files number ≡ Some body → (q : Names) (o : Option Slot) → option_map (node_in (insert files number (record body { mode = mode }))) o ≡ option_map (with_file_mode number mode) (option_map (node_in files) o)
    at body known q None = refl
    at body known q (Some s) = ap (λ (n : Node). Some n) (moded files number mode body known s.content)

pub keep_dir_mode : (slots : Slots) (files : Files) (p : Names) (mode : ℕ) → Counted slots files → HasMode (tree_in slots files) p → file_number (get slots p) ≡ None
    → Keep (with_content p (content.Dir mode) slots) files (set_mode_of (get (tree_in slots files) p) (tree_in slots files) p mode) (times_in slots)
keep_dir_mode slots files p mode counted has none = by (get slots p) refl (subst (λ o. IsTrue (has_mode_node o)) (get-tree slots files p) has) none
  where
    of_dir : (slot : Slot) (m : ℕ) → get slots p ≡ Some slot → slot.content ≡ content.Dir m → Keep (with_content p (content.Dir mode) slots) files (set_mode_of (get (tree_in slots files) p) (tree_in slots files) p mode) (times_in slots)
    of_dir slot m at_p is =
        let new : Slot = record slot { content = content.Dir mode } in
        let slots_is : with_content p (content.Dir mode) slots ≡ insert slots p new = ap (λ o. changed_slot p (content.Dir mode) o slots) at_p in
        let node_is : get (tree_in slots files) p ≡ Some (Dir m) = get-tree slots files p ∙ ap (option_map (node_in files)) at_p ∙ ap (λ c. Some (node_of files c)) is in
        subst (λ (s : Slots). Keep s files (set_mode_of (get (tree_in slots files) p) (tree_in slots files) p mode) (times_in slots)) (sym slots_is) record {
          tree = tree-insert slots files p new ∙ sym (ap (λ o. set_mode_of o (tree_in slots files) p mode) node_is);
          times = times-insert slots p new ∙ (λ i q. at q (is_same_path p q) refl i);
          counted = λ n. counted n ∙ ap positive (same_count n);
        }
      where
        at : (q : Names) (b : Bool) → is_same_path p q ≡ b → (if b then slot.mtime else times_in slots q) ≡ times_in slots q
        at q true t = sym (ap time_at (ap (get slots) (sym ((same_path_decides p q).0 t)) ∙ at_p))
        at q false t = refl

        same_count : (n : ℕ) → places_of n slots ≡ places_of n (insert slots p (record slot { content = content.Dir mode }))
        same_count n =
            let h = count-insert (is_slot_of n) path_cmp-total path_cmp-exact slots p (record slot { content = content.Dir mode }) in
            let w : weight (is_slot_of n) (get slots p) ≡ 0 = ap (weight (is_slot_of n)) at_p ∙ ap (λ c. cond {A = ℕ} (is_number n c) 1 0) is in omega arith

    by : (o : Option Slot) → get slots p ≡ o → IsTrue (has_mode_node (option_map (node_in files) o)) → file_number (get slots p) ≡ None → Keep (with_content p (content.Dir mode) slots) files (set_mode_of (get (tree_in slots files) p) (tree_in slots files) p mode) (times_in slots)
    by None at_p has none = cc
    by (Some slot) at_p has none = of slot.content refl has (sym (ap file_number at_p) ∙ none)
      where
        of : (c : Content) → slot.content ≡ c → IsTrue (has_mode_node (Some (node_of files c))) → content_number c ≡ None → Keep (with_content p (content.Dir mode) slots) files (set_mode_of (get (tree_in slots files) p) (tree_in slots files) p mode) (times_in slots)
        of (content.Dir m) is has none = of_dir slot m at_p is
        of (content.Link target) is has none = cc
        of (content.File k) is has none = cc

-- ---- what is taken out

pub keep_removed : (slots : Slots) (files : Files) (p : Names) → Counted slots files → file_number (get slots p) ≡ None → Keep (remove slots p) files (remove (tree_in slots files) p) (timed p (pos 0) (times_in slots))
keep_removed slots files p counted none = record {
  tree = tree-remove slots files p;
  times = times-remove slots p;
  counted = λ n. counted n ∙ ap positive (let h = count-remove (is_slot_of n) path_cmp-total path_cmp-exact slots p in let w : weight (is_slot_of n) (get slots p) ≡ 0 = no_weight n (get slots p) none in omega arith);
}
  where
    no_weight : (n : ℕ) (o : Option Slot) → file_number o ≡ None → weight (is_slot_of n) o ≡ 0
    no_weight n None is = refl
    no_weight n (Some s) is = ap (λ b. cond {A = ℕ} b 1 0) (number_none s.content is n)

module _ (slots : Slots) (files : Files) (p : Names) (number : ℕ) (counted : Counted slots files) (is : file_number (get slots p) ≡ Some number) where
  abbrev found : FileAt slots files p number
  found = file_at slots files p number counted is

  fewer : (n : ℕ) → places_of n (remove slots p) + cond (n == number) 1 0 ≡ places_of n slots
  fewer n =
      let h = count-remove (is_slot_of n) path_cmp-total path_cmp-exact slots p in
      let w : weight (is_slot_of n) (get slots p) ≡ cond {A = ℕ} (n == number) 1 0 = ap (weight (is_slot_of n)) found.at_p ∙ ap (λ c. cond {A = ℕ} (is_number n c) 1 0) found.is in omega arith

  places_now : places_of number slots ≡ found.body.paths
  places_now = positive_same _ _ (sym (counted number) ∙ ap paths_told found.known)

  places_left : places_of number (remove slots p) + 1 ≡ found.body.paths
  places_left = let h = fewer number in let one : cond {A = ℕ} (number == number) 1 0 ≡ 1 = ap (λ b. cond {A = ℕ} b 1 0) (eq-eqb number number refl) in let w = places_now in omega arith

  others_left : (n : ℕ) → (n == number) ≡ false → places_of n slots ≡ places_of n (remove slots p)
  others_left n f = let h = fewer n in let none : cond {A = ℕ} (n == number) 1 0 ≡ 0 = ap (λ b. cond {A = ℕ} b 1 0) f in omega arith

  without_file : (k : ℕ) → get (remove files number) k ≡ cond (k == number) None (get files k)
  without_file k = get-remove nat_cmp_total files number k ∙ ap (λ b. cond b None (get files k)) (sym (number_tie k number))

  last : places_of number (remove slots p) ≡ 0 → Keep (remove slots p) (remove files number) (remove (tree_in slots files) p) (timed p (pos 0) (times_in slots))
  last none = record {
    tree = tree-files (remove slots p) files (remove files number) (λ q s at_q. other s.content (unnumbered q s at_q (is_slot_of number s) refl)) ∙ tree-remove slots files p;
    times = times-remove slots p;
    counted = λ n. ap paths_told (without_file n) ∙ by n (n == number) refl;
  }
    where
      unnumbered : (q : Names) (s : Slot) → get (remove slots p) q ≡ Some s → (b : Bool) → is_slot_of number s ≡ b → is_slot_of number s ≡ false
      unnumbered q s at_q true t = absurd (let some : 0 < places_of number (remove slots p) = count_some (is_slot_of number) path_cmp-total path_cmp-exact (remove slots p) q s at_q t in omega arith)
      unnumbered q s at_q false t = t

      other : (c : Content) → is_number number c ≡ false → node_of (remove files number) c ≡ node_of files c
      other (content.Dir mode) f = refl
      other (content.Link target) f = refl
      other (content.File k) f = ap (file_node k) (without_file k ∙ cond-false _ None _ (turned (k == number) refl))
        where
          turned : (b : Bool) → (k == number) ≡ b → (k == number) ≡ false
          turned true t = absurd (let same : number ≡ k = sym (eqb-true k number t) in let yes : (number == k) ≡ true = eq-eqb number k same in cc)
          turned false t = t

      by : (n : ℕ) (t : Bool) → (n == number) ≡ t → paths_told (cond (n == number) None (get files n)) ≡ positive (places_of n (remove slots p))
      by n true t = ap paths_told (cond-true _ None _ t) ∙ sym (ap positive (ap (λ k. places_of k (remove slots p)) (eqb-true n number t) ∙ none))
      by n false f = ap paths_told (cond-false _ None _ f) ∙ counted n ∙ ap positive (others_left n f)

  not_last : (k : ℕ) → places_of number (remove slots p) ≡ k + 1 → Keep (remove slots p) (with_paths number (found.body.paths - 1) files) (remove (tree_in slots files) p) (timed p (pos 0) (times_in slots))
  not_last k left =
      let new : FileBody = record found.body { paths = found.body.paths - 1 } in
      let files_is : with_paths number (found.body.paths - 1) files ≡ insert files number new = ap (λ o. changed_body (λ b. record b { paths = found.body.paths - 1 }) number o files) found.known in
      subst (λ (f : Files). Keep (remove slots p) f (remove (tree_in slots files) p) (timed p (pos 0) (times_in slots))) (sym files_is) record {
        tree = tree-files (remove slots p) files (insert files number new) (λ q s _. raised_same files number found.body found.known new refl refl s.content) ∙ tree-remove slots files p;
        times = times-remove slots p;
        counted = λ n. ap paths_told (get-file files number new n) ∙ by n (n == number) refl;
      }
    where
      by : (n : ℕ) (t : Bool) → (n == number) ≡ t → paths_told (cond (n == number) (Some (record found.body { paths = found.body.paths - 1 })) (get files n)) ≡ positive (places_of n (remove slots p))
      by n true t =
          let l = places_left in
          let count_is : found.body.paths - 1 ≡ k + 1 = omega arith in
          ap paths_told (cond-true _ _ _ t) ∙ ap (λ j. Some j) count_is ∙ sym (positive_more k) ∙ sym (ap positive (ap (λ j. places_of j (remove slots p)) (eqb-true n number t) ∙ left))
      by n false f = ap paths_told (cond-false _ _ _ f) ∙ counted n ∙ ap positive (others_left n f)

  pub keep_file_removed : Keep (remove slots p) (without_path number files) (remove (tree_in slots files) p) (timed p (pos 0) (times_in slots))
  keep_file_removed =
      subst (λ (f : Files). Keep (remove slots p) f (remove (tree_in slots files) p) (timed p (pos 0) (times_in slots))) (sym (ap (λ o. less_one number o files) found.known))
      (by (nat_le found.body.paths 1) refl (places_of number (remove slots p)) refl)
    where
      by : (b : Bool) → nat_le found.body.paths 1 ≡ b → (k : ℕ) → places_of number (remove slots p) ≡ k → Keep (remove slots p) (if b then remove files number else with_paths number (found.body.paths - 1) files) (remove (tree_in slots files) p) (timed p (pos 0) (times_in slots))
      by true t k left = last (let le = leb-true found.body.paths 1 t in let l = places_left in omega arith)
      by false f zero left = absurd (let l = places_left in let one : found.body.paths ≡ 1 = omega arith in let yes : nat_le found.body.paths 1 ≡ true = ap (λ n. nat_le n 1) one in cc)
      by false f (suc k) left = not_last k (left ∙ omega arith)

-- ---- as a call says it

pub keep_as : (slots : Slots) (files : Files) (t u : FileTree) (v w : Times) → t ≡ u → v ≡ w → Keep slots files t v → Keep slots files u w
keep_as slots files t u v w same_tree same_times keep = record { tree = keep.tree ∙ same_tree; times = keep.times ∙ same_times; counted = keep.counted }

-- what is made has the time of where nothing stands
pub fresh : (slots : Slots) (p : Names) → get slots p ≡ None → timed p (pos 0) (times_in slots) ≡ times_in slots
fresh slots p absent i q = at (is_same_path p q) refl i
  where
    at : (b : Bool) → is_same_path p q ≡ b → (if b then pos 0 else times_in slots q) ≡ times_in slots q
    at true t = sym (ap time_at (ap (get slots) (sym ((same_path_decides p q).0 t)) ∙ absent))
    at false t = refl

pub no_file : (slots : Slots) (files : Files) (p : Names) → IsTrue (is_file_node (get (tree_in slots files) p)) → file_number (get slots p) ≡ None → ⊥
no_file slots files p file none = by (get slots p) (subst (λ o. IsTrue (is_file_node o)) (get-tree slots files p) file) none
  where
    by : (o : Option Slot) → IsTrue (is_file_node (option_map (node_in files) o)) → file_number o ≡ None → ⊥
    by None f n = cc
    by (Some slot) f n = of slot.content f n
      where
        of : (c : Content) → IsTrue (is_file_node (Some (node_of files c))) → content_number c ≡ None → ⊥
        of (content.Dir m) f n = cc
        of (content.Link target) f n = cc
        of (content.File k) f n = cc

pub same_as_old : (slots : Slots) (files : Files) (p old : Names) (number : ℕ) → Counted slots files → file_number (get slots old) ≡ Some number
    → insert (tree_in slots files) p (file_node number (get files number)) ≡ insert_same (get (tree_in slots files) old) (tree_in slots files) p
same_as_old slots files p old number counted is =
    let f = file_at slots files old number counted is in
    ap (λ o. insert (tree_in slots files) p (file_node number o)) f.known ∙ sym (ap (λ o. insert_same o (tree_in slots files) p) (file_shown slots files old number f))

-- where something can be made, as the names of the path are read
pub absent_at : (slots : Slots) (files : Files) (at p : Names) → at ≡ p → CanMake (tree_in slots files) p → get slots at ≡ None
absent_at slots files at p is can = slot_absent slots files at (subst (IsAbsent (tree_in slots files)) (sym is) can.absent)
