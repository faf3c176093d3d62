-- The fields of a tree in memory are those of its entries.
use Rattle.std.specs.Prelude.{◌≡◌, All, ℕ, zero, suc, ℤ, ◌≤◌, List, [], ◌∷◌, Option, Some, None, IsTrue, refl}
use Rattle.std.proofs.Common.{subst, arith}
use Rattle.std.proofs.lemmas.Option.{same_Some}
use Rattle.std.proofs.lemmas.Str.{is_utf8-from_IsUtf8, IsUtf8-nil}
use Rattle.std.specs.Str.{is_utf8}
use Rattle.std.specs.FinMap.{get}
use Rattle.dired_text.specs.Paths.{Names}
use Rattle.tree_core.specs.declared.node.Node.{Node}
use Rattle.tree_core.specs.declared.node.Node.TheVariants.{Dir, Link, File}
use Rattle.tree_core.specs.FileTree.{FileTree, IsTree, AreTexts, IsLawful}
use Rattle.tree_core.specs.Fields.{Shows, IsMeta, IsOwner, AreFields}
use Rattle.mem_tree.specs.Times.{Times}
use Rattle.mem_tree.specs.MemFields.{meta_of, meta_at, fields_of}

shows_meta : (t : FileTree) (node : Node) (mtime : ℤ) → Shows node (meta_of t node mtime)
shows_meta t (Dir mode) mtime = record { kind = refl; mode = refl; target = refl; number = tt }
shows_meta t (Link target) mtime = record { kind = refl; mode = refl; target = refl; number = tt }
shows_meta t (File number bytes mode) mtime = record { kind = refl; mode = refl; target = refl; number = refl }

one_byte : (b : ℕ) → 33 ≤ b → b ≤ 126 → IsOwner (b ∷ [])
one_byte b low high = (omega arith, omega arith, at)
  where
    at : All (λ b. (33 ≤ b) × (b ≤ 126)) (b ∷ [])
    at zero d within = (low, high)
    at (suc k) d within = absurd (omega (arith, within))

-- the target of a link is UTF-8
abbrev pub IsText : Node → Type 0
IsText (Dir mode) = Unit {0}
IsText (Link target) = IsTrue (is_utf8 target)
IsText (File number bytes mode) = Unit {0}

no_text : IsTrue (is_utf8 [])
no_text = is_utf8-from_IsUtf8 [] IsUtf8-nil

lawful_meta : (t : FileTree) (node : Node) (mtime : ℤ) → IsLawful node → IsText node → IsMeta (meta_of t node mtime)
lawful_meta t (Dir mode) mtime is text = record { links = omega arith; size = omega arith; text = no_text; shape = (is, refl); owner = one_byte 117 (omega arith) (omega arith); group = one_byte 103 (omega arith) (omega arith) }
lawful_meta t (Link target) mtime is text = record { links = omega arith; size = (let most = is.1 in omega arith); text = text; shape = (refl, is); owner = one_byte 117 (omega arith) (omega arith); group = one_byte 103 (omega arith) (omega arith) }
lawful_meta t (File number bytes mode) mtime is text = record { links = omega arith; size = omega arith; text = no_text; shape = (is, refl); owner = one_byte 117 (omega arith) (omega arith); group = one_byte 103 (omega arith) (omega arith) }

shows_at : (t : FileTree) (o : Option Node) (mtime : ℤ) (node : Node) → o ≡ Some node → Shows node (meta_at t o mtime)
shows_at t None mtime node is = cc
shows_at t (Some n) mtime node is = subst (λ m. Shows m (meta_of t n mtime)) (same_Some n node is) (shows_meta t n mtime)

lawful_at : (t : FileTree) (o : Option Node) (mtime : ℤ) → ((node : Node) → o ≡ Some node → IsLawful node × IsText node) → IsMeta (meta_at t o mtime)
lawful_at t None mtime lawful = lawful_meta t (Dir 0) _ (omega arith) tt
lawful_at t (Some n) mtime lawful = let both = lawful n refl in lawful_meta t n mtime both.0 both.1

text_at : (t : FileTree) → AreTexts t → (p : Names) (node : Node) → get t p ≡ Some node → IsText node
text_at t texts p (Dir mode) is = tt
text_at t texts p (Link target) is = texts.targets p target is
text_at t texts p (File number bytes mode) is = tt

pub told_lawful : (t : FileTree) (times : Times) → IsTree t → AreTexts t → (p : Names) → IsMeta (fields_of t times p)
told_lawful t times tree texts p = lawful_at t (get t p) (times p) (λ node is. (tree.lawful p node is, text_at t texts p node is))

-- the fields that are told show what stands
pub told_fields : (t : FileTree) (times : Times) → IsTree t → AreTexts t → AreFields t (fields_of t times)
told_fields t times tree texts = record { shows = λ p node is. shows_at t (get t p) (times p) node is; lawful = λ p stands. told_lawful t times tree texts p }
