-- What the tests of lawful nodes tell.
use Rattle.std.proofs.Common.{◌≡◌, ◌≢◌, ◌↔◌, ℕ, suc, ◌≤◌, ◌==◌, Bool, true, false, not, List, [], ◌∷◌, length, All, refl, sym, ◌∙◌, ap, arith, IsTrue, nat_le}
use Rattle.std.proofs.lemmas.Bool.{leb-true, eqb-true, eq-eqb}
use Rattle.std.proofs.lemmas.List.Folds.{list_all_at}
use Rattle.std.specs.List.{list_all}
use Rattle.tree_core.specs.declared.node.Node.{Node}
use Rattle.tree_core.specs.declared.node.Node.TheVariants.{Dir, Link, File}
use Rattle.tree_core.specs.FileTree.{IsLawful, IsTarget}
use Rattle.mem_tree.specs.Lawful.{is_target, is_lawful}
use Rattle.mem_tree.proofs.MapLemmas.{parts_true, both_true}

target_from : (target : List ℕ) → is_target target ≡ true → IsTarget target
target_from target t =
    let parts = parts_true _ _ t in
    let ends = parts_true _ _ parts.0 in
    (leb-true 1 (length target) ends.0, leb-true (length target) 4095 ends.1, λ k d within is. let fails : list_all (λ b. not (b == 0)) target ≡ false = list_all_at (λ b. not (b == 0)) target k d within (ap not (eq-eqb _ 0 is)) in let passes : list_all (λ b. not (b == 0)) target ≡ true = parts.1 in cc)

no_nul : (b : ℕ) → b ≢ 0 → not (b == 0) ≡ true
no_nul b other = by (b == 0) refl
  where
    by : (t : Bool) → (b == 0) ≡ t → not (b == 0) ≡ true
    by true t = absurd (other (eqb-true b 0 t))
    by false t = ap not t

all_pass : (l : List ℕ) → All (λ b. b ≢ 0) l → list_all (λ b. not (b == 0)) l ≡ true
all_pass [] all = refl
all_pass (b ∷ l) all = both_true _ _ (no_nul b (all 0 b (omega arith))) (all_pass l (λ k d within. all (suc k) d (omega arith)))

target_back : (target : List ℕ) → IsTarget target → is_target target ≡ true
target_back target is = both_true _ _ (both_true _ _ (le_test 1 (length target) is.0) (le_test (length target) 4095 is.1)) (all_pass target is.2)
  where
    le_test : (a b : ℕ) → a ≤ b → nat_le a b ≡ true
    le_test a b le = grind arith

pub target_told : (b : Bool) (target : List ℕ) → b ≡ is_target target → IsTrue b ↔ IsTarget target
target_told b target is = (λ t. target_from target (sym is ∙ t), λ l. is ∙ target_back target l)

pub lawful_from : (node : Node) → is_lawful node ≡ true → IsLawful node
lawful_from (Dir mode) t = leb-true mode 0o7777 t
lawful_from (Link target) t = target_from target t
lawful_from (File number bytes mode) t = leb-true mode 0o7777 (parts_true _ _ t).0
