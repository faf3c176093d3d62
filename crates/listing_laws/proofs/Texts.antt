-- Names and texts of a tree, one by one.
use Rattle.std.proofs.Common.{◌≡◌, ℕ, ◌<◌, ◌≤◌, ◌^◌, Bool, true, ◌&&◌, List, [], ◌∷◌, ◌++◌, All, IsUtf8, sym, ◌∙◌}
use Rattle.std.proofs.lemmas.Bool.{and_parts}
use Rattle.std.proofs.lemmas.List.Elements.{All-from_recursion}
use Rattle.std.proofs.lemmas.List.Folds.{list_all-append}
use Rattle.std.proofs.lemmas.Str.{IsUtf8-from_is_utf8}
use Rattle.std.specs.List.{AllByRecursion, list_all}
use Rattle.std.specs.Str.{is_utf8}
use Rattle.dired_text.specs.Paths.{Names, AreNames, is_name, path_bytes, max_path_bytes}
use Rattle.tree_core.specs.declared.meta.Meta.{Meta}
use Rattle.tree_core.specs.FileTree.{FileTree, Stands, AreTexts}
use Rattle.tree_core.specs.Fields.{AreFields}
use Rattle.listing_laws.specs.Printed.{IsHeldPath}

-- a name as a `Name` holds it: lawful, and UTF-8
abbrev pub IsNameText : List ℕ → Type 0
IsNameText n = (is_name n ≡ true) × IsUtf8 n

abbrev pub IsPathText : Names → Type 0
IsPathText p = All IsNameText p × (path_bytes p ≤ max_path_bytes)

abbrev is_text : List ℕ → Bool
is_text n = is_name n && is_utf8 n

name_text : (n : List ℕ) → is_text n ≡ true → IsNameText n
name_text n is = let both = and_parts (is_name n) (is_utf8 n) is in (both.0, IsUtf8-from_is_utf8 n both.1)

name_texts : (p : Names) → AreNames p → AllByRecursion IsNameText p
name_texts [] are = tt
name_texts (n ∷ p) are = let both = and_parts (is_text n) (list_all is_text p) are in (name_text n both.0, name_texts p both.1)

pub path_text : (p : Names) → IsHeldPath p → IsPathText p
path_text p held = (All-from_recursion IsNameText p (name_texts p held.0), held.1)

pub path_texts : (ps : List Names) → AllByRecursion IsHeldPath ps → AllByRecursion IsPathText ps
path_texts [] all = tt
path_texts (p ∷ ps) all = (path_text p all.0, path_texts ps all.1)

last_name : (p : Names) (n : List ℕ) → AreNames (p ++ n ∷ []) → IsNameText n
last_name p n are = name_text n (and_parts (is_text n) true ((and_parts (list_all is_text p) (list_all is_text (n ∷ [])) (sym (list_all-append is_text p (n ∷ [])) ∙ are)).1)).0

-- what a line shows of a tree and its fields
pub record AreShown (t : FileTree) (fields : Names → Meta) : Type 0 where
  pub names : (p : Names) (n : List ℕ) → Stands t (p ++ n ∷ []) → IsNameText n
  pub targets : (p : Names) → Stands t p → IsUtf8 (fields p).target
  pub links : (p : Names) → Stands t p → (fields p).links < 2 ^ 32
  pub sizes : (p : Names) → Stands t p → (fields p).size < 2 ^ 64

pub shown_texts : (t : FileTree) (fields : Names → Meta) → AreFields t fields → AreTexts t → AreShown t fields
shown_texts t fields shown texts = record {
  names = λ p n stands. last_name p n (texts.names (p ++ n ∷ []) stands);
  targets = λ p stands. IsUtf8-from_is_utf8 _ (shown.lawful p stands).text;
  links = λ p stands. (shown.lawful p stands).links;
  sizes = λ p stands. (shown.lawful p stands).size;
}
