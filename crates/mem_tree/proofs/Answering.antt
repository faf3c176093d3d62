-- What a call of a change answers with.
use Rattle.std.proofs.Common.{◌≡◌, ℕ, ℤ, true, false, List, [], ◌∷◌, map, refl, sym, ◌∙◌, ap, Option, Some, None, Result, Ok, Err, OnOk, OnErr, is_ok}
use Rattle.std.specs.Option.{SomeIff}
use Rattle.std.proofs.lemmas.Option.{same_Some}
use Rattle.mem_tree.specs.declared.slots.Content.{Content}
use Rattle.mem_tree.specs.declared.slots.Content.TheVariants as content
use Rattle.mem_tree.specs.declared.slots.Slot.{Slot}
use Rattle.mem_tree.specs.Slots.{Slots, content_number, file_number}
use Rattle.dired_text.specs.Paths.{Names}
use Rattle.std.specs.FinMap.{insert}

module _ {T E A B : Type 0} where
  pub on_ok : (r : Result T E) → (A → B) → OnOk r A → OnOk r B
  on_ok (Ok v) f a = f a
  on_ok (Err e) f a = tt

  pub on_err : (r : Result T E) → (A → B) → OnErr r A → OnErr r B
  on_err (Ok v) f a = tt
  on_err (Err e) f a = f a

module _ {T E A : Type 0} where
  pub on_err_all : (r : Result T E) → A → OnErr r A
  on_err_all (Ok v) a = tt
  on_err_all (Err e) a = a

module _ {T E : Type 0} (A : Type 0) where
  pub on_ok_not : (r : Result T E) → is_ok r ≡ false → OnOk r A
  on_ok_not (Ok v) f = cc
  on_ok_not (Err e) f = tt

  pub on_err_not : (r : Result T E) → is_ok r ≡ true → OnErr r A
  on_err_not (Ok v) t = tt
  on_err_not (Err e) t = cc

pub some_is : (o : Option ℕ) (P : Type 0) (v x : ℕ) → SomeIff o P v → o ≡ Some x → x ≡ v
some_is None P v x h is = cc
some_is (Some y) P v x h is = sym (same_Some y x is) ∙ h.1

pub map_map : {A B C : Type 0} (f : B → C) (g : A → B) (l : List A) → map f (map g l) ≡ map (λ x. f (g x)) l
map_map f g [] = refl
map_map f g (x ∷ l) = ap (λ r. f (g x) ∷ r) (map_map f g l)

pub not_a_file : (o : Option Slot) (slot : Slot) → Some slot ≡ o → ((n : ℕ) → slot.content ≡ content.File n → ⊥) → file_number o ≡ None
not_a_file o slot found other = ap file_number (sym found) ∙ by slot.content refl
  where
    by : (c : Content) → slot.content ≡ c → content_number slot.content ≡ None
    by (content.Dir mode) is = ap content_number is
    by (content.Link target) is = ap content_number is
    by (content.File n) is = absurd (other n is)

-- a slot put in, whose time was read from memory
pub slot_put : (slots new : Slots) (p : Names) (c : Content) (read mtime : ℤ) → read ≡ mtime → new ≡ insert slots p (record { content = c; mtime = read }) → new ≡ insert slots p (record { content = c; mtime = mtime })
slot_put slots new p c read mtime same is = is ∙ ap (λ (t : ℤ). insert slots p (record { content = c; mtime = t })) same
