-- Differences, as they are computed and as they are said.
use Rattle.std.proofs.Common.{◌≡◌, ◌≢◌, ◌⊎◌, inl, inr, ℕ, Bool, true, false, ◌||◌, ◌==◌, List, [], ◌∷◌, refl, sym, ◌∙◌, ap, subst, Option, Some, None, is_some, IsTrue, if◌then◌else◌}
use Rattle.std.proofs.lemmas.Bool.{cases_Bool, eqb-true, eqb-false}
use Rattle.std.proofs.lemmas.Slice.Eq.{bytes_eq-Decides, slice_eq-Decides}
use Rattle.std.specs.Bool.{Decides}
use Rattle.std.specs.Str.{bytes_eq}
use Rattle.dired_text.specs.Paths.{Names}
use Rattle.tree_core.specs.declared.edit.Edit.{Edit}
use Rattle.tree_core.specs.declared.edit.Shown.{Shown}
use Rattle.wdired_buffer.specs.Edits.{same_path, changed, if_any, if_emptied}
use Rattle.buffer_laws.specs.Differences.{Fields, IsChange, IsDifference, IsEmptied}

-- ---- one value

pub change-is : {A : Type 0} (same : A → A → Bool) → ((a b : A) → same a b ≡ true → a ≡ b) → ((a b : A) → same a b ≡ false → a ≢ b) → (old : A) (shown : Option A) → IsChange old shown (changed same old shown)
change-is same yes_same not_same old None = inl refl
change-is same yes_same not_same old (Some new) = elim (cases_Bool (same new old)) [
  | inl is ↦ rw is (inr (ap Some (yes_same new old is)))
  | inr other ↦ rw other (refl, not_same new old other)
]

pub change-one : {A : Type 0} (old : A) (shown a b : Option A) → IsChange old shown a → IsChange old shown b → a ≡ b
change-one old shown None None is also = refl
change-one old shown None (Some y) (inl none) also = let e : None ≡ Some y = sym none ∙ also.0 in cc
change-one old shown None (Some y) (inr own) also = let e : Some old ≡ Some y = sym own ∙ also.0 in let same : y ≡ old = cc in absurd (also.1 same)
change-one old shown (Some x) None is (inl none) = let e : None ≡ Some x = sym none ∙ is.0 in cc
change-one old shown (Some x) None is (inr own) = let e : Some old ≡ Some x = sym own ∙ is.0 in let same : x ≡ old = cc in absurd (is.1 same)
change-one old shown (Some x) (Some y) is also = sym is.0 ∙ also.0

decided_true : {A : Type 0} (same : A → A → Bool) → ((a b : A) → Decides (same a b) (a ≡ b)) → (a b : A) → same a b ≡ true → a ≡ b
decided_true same decides a b is = (decides a b).0 is

decided_false : {A : Type 0} (same : A → A → Bool) → ((a b : A) → Decides (same a b) (a ≡ b)) → (a b : A) → same a b ≡ false → a ≢ b
decided_false same decides a b other e = let is : same a b ≡ true = (decides a b).1 e in let no : true ≡ false = sym is ∙ other in cc

pub path_decides : (p q : Names) → Decides (same_path p q) (p ≡ q)
path_decides p q = slice_eq-Decides bytes_eq-Decides p q (same_path p q) refl

pub path-change : (old : Names) (shown : Option Names) → IsChange old shown (changed same_path old shown)
path-change old shown = change-is same_path (decided_true same_path path_decides) (decided_false same_path path_decides) old shown

pub text-change : (old : List ℕ) (shown : Option (List ℕ)) → IsChange old shown (changed bytes_eq old shown)
text-change old shown = change-is bytes_eq (decided_true bytes_eq bytes_eq-Decides) (decided_false bytes_eq bytes_eq-Decides) old shown

pub mode-change : (old : ℕ) (shown : Option ℕ) → IsChange old shown (changed ◌==◌ old shown)
mode-change old shown = change-is ◌==◌ eqb-true eqb-false old shown

-- ---- an edit

pub edit-is : (number : ℕ) (source : Names) (was : Shown) (fields : Fields) (to : Option Names) (target : Option (List ℕ)) (mode : Option ℕ)
    → IsChange source fields.path to → IsChange was.mode (Some fields.mode) mode → IsChange was.target (Some fields.target) target
    → IsDifference number source was fields (if_any (record { source = source; was = was; to = to; target = target; mode = mode; line = number }))
edit-is number source was fields None None None to_is mode_is target_is = (to_is, mode_is, target_is)
edit-is number source was fields (Some to) target mode to_is mode_is target_is = (refl, refl, refl, to_is, mode_is, target_is, inl refl)
edit-is number source was fields None (Some target) mode to_is mode_is target_is = (refl, refl, refl, to_is, mode_is, target_is, inr (inr refl))
edit-is number source was fields None None (Some mode) to_is mode_is target_is = (refl, refl, refl, to_is, mode_is, target_is, inr (inl refl))

-- an edit from its parts
made : Names → Shown → Option Names → Option (List ℕ) → Option ℕ → ℕ → Edit
made source was to target mode line = record { source = source; was = was; to = to; target = target; mode = mode; line = line }

made_is : (e : Edit) → made e.source e.was e.to e.target e.mode e.line ≡ e
unfolding made
made_is e = refl

any_none : (to : Option Names) (mode : Option ℕ) (target : Option (List ℕ)) → to ≡ None → mode ≡ None → target ≡ None → IsTrue (is_some to) ⊎ IsTrue (is_some mode) ⊎ IsTrue (is_some target) → ⊥
any_none None None None a b c (inl e) = cc
any_none None None None a b c (inr (inl e)) = cc
any_none None None None a b c (inr (inr e)) = cc
any_none (Some x) mode target a b c some = cc
any_none None (Some x) target a b c some = cc
any_none None None (Some x) a b c some = cc

none_some : (number : ℕ) (source : Names) (was : Shown) (fields : Fields) (e : Edit) → IsDifference number source was fields None → IsDifference number source was fields (Some e) → ⊥
none_some number source was fields e none (line, own, seen, to, mode, target, some) =
    any_none e.to e.mode e.target (change-one source fields.path e.to None to none.0) (change-one was.mode (Some fields.mode) e.mode None mode none.1)
    (change-one was.target (Some fields.target) e.target None target none.2) some

pub edit-one : (number : ℕ) (source : Names) (was : Shown) (fields : Fields) (a b : Option Edit) → IsDifference number source was fields a → IsDifference number source was fields b → a ≡ b
edit-one number source was fields None None is also = refl
edit-one number source was fields None (Some e) is also = absurd (none_some number source was fields e is also)
edit-one number source was fields (Some e) None is also = absurd (none_some number source was fields e also is)
edit-one number source was fields (Some e) (Some f) (line, own, seen, to, mode, target, some) (line2, own2, seen2, to2, mode2, target2, some2) =
    let s : e.source ≡ f.source = own ∙ sym own2 in
    let w : e.was ≡ f.was = seen ∙ sym seen2 in
    let n : e.line ≡ f.line = line ∙ sym line2 in
    let t : e.to ≡ f.to = change-one source fields.path e.to f.to to to2 in
    let m : e.mode ≡ f.mode = change-one was.mode (Some fields.mode) e.mode f.mode mode mode2 in
    let g : e.target ≡ f.target = change-one was.target (Some fields.target) e.target f.target target target2 in
    let parts : made e.source e.was e.to e.target e.mode e.line ≡ made f.source f.was f.to f.target f.mode f.line = cc in
    ap Some (sym (made_is e) ∙ parts ∙ made_is f)

-- ---- an emptied name

pub emptied-is : (source : Names) (path : Option Names) → IsEmptied source path (if_emptied source path)
emptied-is source None = refl
emptied-is source (Some path) = refl

pub emptied-one : (source : Names) (path a : Option Names) → IsEmptied source path a → a ≡ if_emptied source path
emptied-one source None a is = is
emptied-one source (Some path) a is = is
