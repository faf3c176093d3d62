-- Trees that are built of entries at different paths.
use Rattle.std.proofs.Common.{◌≡◌, ◌≢◌, ◌⊎◌, inl, inr, ℕ, pos, Bool, true, false, cond, List, [], ◌∷◌, ◌++◌, map, refl, sym, ◌∙◌, ap, subst, Contains, Option, Some, None}
use Rattle.std.specs.FinMap.{empty, find, get, get-empty, insert}
use Rattle.std.proofs.lemmas.Bool.{cases_Bool, cond-true, cond-false}
use Rattle.std.proofs.lemmas.List.Elements.{Contains-append_left, Contains-append_right}
use Rattle.dired_text.specs.Paths.{Names, path_cmp}
use Rattle.tree_core.specs.declared.node.Node.{Node}
use Rattle.tree_core.specs.declared.node.Node.TheVariants.{Dir}
use Rattle.tree_core.specs.FileTree.{FileTree, root_tree}
use Rattle.tree_core.proofs.TreeLemmas.{tie, tie-other}
use Rattle.tree_core.proofs.Sound.{shows}
use Rattle.edit_words.proofs.SameLemmas.{same_path}
use Rattle.edit_laws.proofs.ListLemmas.{contains_head, contains_tail, contains_cases, contains_none}
use Rattle.mem_tree.specs.declared.build.Entry.{Entry}
use Rattle.mem_tree.specs.Built.{built}
use Rattle.drill_tree.proofs.ListLemmas.{Apart}

module _ {X : Type 0} where
  pub apart_front : (R : X → X → Type 0) (xs ys : List X) → Apart R (xs ++ ys) → Apart R xs
  apart_front R [] ys a = tt
  apart_front R (x ∷ xs) ys a = (λ y c. a.0 y (Contains-append_left xs ys y c), apart_front R xs ys a.1)

  pub apart_across : (R : X → X → Type 0) (xs ys : List X) → Apart R (xs ++ ys) → (x y : X) → Contains xs x → Contains ys y → R x y
  apart_across R [] ys a x y cx cy = absurd (contains_none x cx)
  apart_across R (z ∷ xs) ys a x y cx cy = elim (contains_cases z x xs cx) [
    | inl same ↦ subst (λ (w : X). R w y) same (a.0 y (Contains-append_right xs ys y cy))
    | inr later ↦ apart_across R xs ys a.1 x y later cy
  ]

abbrev pub pair : Entry → Names × Node
pair e = (e.path, e.node)

abbrev pub OtherEntry : Entry → Entry → Type 0
OtherEntry e f = e.path ≢ f.path

abbrev pub root_entry : Entry
root_entry = record { path = []; node = Dir 0o755; mtime = pos 0 }

abbrev or_else : Option Node → Option Node → Option Node
or_else None other = other
or_else (Some node) other = Some node

or_none : (o : Option Node) → or_else o None ≡ o
or_none None = refl
or_none (Some node) = refl

pub find_none : (es : List Entry) (q : Names) → ((e : Entry) → Contains es e → q ≢ e.path) → find path_cmp q (map pair es) ≡ None
find_none [] q other = refl
find_none (e ∷ es) q other =
    cond-false (tie q e.path) (Some e.node) (find path_cmp q (map pair es)) (tie-other q e.path (other e (contains_head e es)))
    ∙ find_none es q (λ f c. other f (contains_tail e f es c))

built_shows : (es : List Entry) (t : FileTree) (q : Names) → Apart OtherEntry es → get (built t es) q ≡ or_else (find path_cmp q (map pair es)) (get t q)
built_shows [] t q apart = refl
built_shows (e ∷ es) t q apart = built_shows es (insert t e.path e.node) q apart.1 ∙ go (cases_Bool (tie q e.path))
  where
    rest : Option Node
    rest = find path_cmp q (map pair es)

    go : (tie q e.path ≡ true) ⊎ (tie q e.path ≡ false) → or_else rest (get (insert t e.path e.node) q) ≡ or_else (cond (tie q e.path) (Some e.node) rest) (get t q)
    go (inl same) =
        let is : q ≡ e.path = same_path q e.path same in
        let none : rest ≡ None = find_none es q (λ f c at_f. apart.0 f c (sym is ∙ at_f)) in
        ap (λ o. or_else o (get (insert t e.path e.node) q)) none
        ∙ shows t e.path e.node q
        ∙ cond-true (tie q e.path) (Some e.node) (get t q) same
        ∙ ap (λ o. or_else o (get t q)) (sym (cond-true (tie q e.path) (Some e.node) rest same))
    go (inr other) =
        ap (or_else rest) (shows t e.path e.node q ∙ cond-false (tie q e.path) (Some e.node) (get t q) other)
        ∙ ap (λ o. or_else o (get t q)) (sym (cond-false (tie q e.path) (Some e.node) rest other))

-- what stands there
pub built_root : (es : List Entry) (q : Names) → Apart OtherEntry (root_entry ∷ es) → get (built root_tree es) q ≡ find path_cmp q (map pair (root_entry ∷ es))
built_root es q apart =
    built_shows (root_entry ∷ es) empty q apart
    ∙ ap (or_else (find path_cmp q (map pair (root_entry ∷ es)))) (get-empty path_cmp q)
    ∙ or_none (find path_cmp q (map pair (root_entry ∷ es)))
