-- The numbers of files that are numbered by their places.
use Rattle.std.proofs.Common.{◌≡◌, ◌≢◌, ◌⊎◌, inl, inr, ℕ, ◌+◌, ◌≤◌, Bool, true, false, cond, List, [], ◌∷◌, map, refl, sym, ◌∙◌, ap, subst, arith, Contains}
use Rattle.std.proofs.lemmas.Bool.{cases_Bool, cond-true, cond-false}
use Rattle.dired_text.specs.Paths.{Names}
use Rattle.tree_core.proofs.TreeLemmas.{tie, tie-other}
use Rattle.edit_words.proofs.SameLemmas.{same_path, same_itself}
use Rattle.edit_laws.proofs.ListLemmas.{contains_head, contains_tail, contains_cases, contains_none}
use Rattle.drill_tree.specs.declared.entries.Held.{Held}
use Rattle.drill_tree.specs.Drill.{entry_at}
use Rattle.drill_tree.proofs.ListLemmas.{Apart}
use Rattle.drill_memory.specs.Numbered.{node_numbered, numbered}
use Rattle.drill_memory.proofs.BuiltTrees.{pair}

-- the number of what is held at this path, where they are numbered from this one on
abbrev pub number_in : ℕ → List Held → Names → ℕ
number_in number [] p = 0
number_in number (h ∷ hs) p = cond (tie p h.path) number (number_in (number + 1) hs p)

abbrev pub OtherHeld : Held → Held → Type 0
OtherHeld h o = h.path ≢ o.path

map_same : {X Y : Type 0} (f g : X → Y) (xs : List X) → ((x : X) → Contains xs x → f x ≡ g x) → map f xs ≡ map g xs
map_same f g [] same = refl
map_same f g (x ∷ xs) same = λ i. same x (contains_head x xs) i ∷ map_same f g xs (λ y c. same y (contains_tail x y xs c)) i

module _ (number : ℕ) (h : Held) (hs : List Held) (p : Names) where
  pub number_here : tie p h.path ≡ true → number_in number (h ∷ hs) p ≡ number
  number_here same = cond-true (tie p h.path) number (number_in (number + 1) hs p) same

  pub number_later : tie p h.path ≡ false → number_in number (h ∷ hs) p ≡ number_in (number + 1) hs p
  number_later other = cond-false (tie p h.path) number (number_in (number + 1) hs p) other

-- the entries, by the numbers of their paths
pub numbered_pairs : (number : ℕ) (hs : List Held) → Apart OtherHeld hs → map pair (numbered number hs) ≡ map (entry_at (number_in number hs)) hs
numbered_pairs number [] apart = refl
numbered_pairs number (h ∷ hs) apart = λ i. (h.path, node_numbered (first i) h.is_dir) ∷ (numbered_pairs (number + 1) hs apart.1 ∙ rest) i
  where
    first : number ≡ number_in number (h ∷ hs) h.path
    first = sym (number_here number h hs h.path (same_itself h.path))

    rest : map (entry_at (number_in (number + 1) hs)) hs ≡ map (entry_at (number_in number (h ∷ hs))) hs
    rest = map_same (entry_at (number_in (number + 1) hs)) (entry_at (number_in number (h ∷ hs))) hs (λ x c.
        ap (λ (k : ℕ). (x.path, node_numbered k x.is_dir)) (sym (number_later number h hs x.path (tie-other x.path h.path (λ same. apart.0 x c (sym same))))))

-- ---- no number stands twice

abbrev pub IsHeldAt : List Held → Names → Type 0
IsHeldAt hs p = (h : Held) × Contains hs h × (h.path ≡ p)

data Place (h : Held) (hs : List Held) (p : Names) : Type 0 where
  here : tie p h.path ≡ true → Place h hs p
  later : tie p h.path ≡ false → IsHeldAt hs p → Place h hs p

place_of : (h : Held) (hs : List Held) (p : Names) → IsHeldAt (h ∷ hs) p → Place h hs p
place_of h hs p (o, c, at_p) = elim (cases_Bool (tie p h.path)) [
  | inl same ↦ here same
  | inr other ↦ elim (contains_cases h o hs c) [
    | inl first ↦
        let is : h.path ≡ p = ap (λ (x : Held). x.path) first ∙ at_p in
        let ties : tie p h.path ≡ true = subst (λ (q : Names). tie p q ≡ true) (sym is) (same_itself p) in
        let both : true ≡ false = sym ties ∙ other in
        absurd cc
    | inr rest ↦ later other (o, rest, at_p)
  ]
]

number_least : (number : ℕ) (hs : List Held) (p : Names) → IsHeldAt hs p → number ≤ number_in number hs p
number_least number [] p held = absurd (contains_none held.0 held.1)
number_least number (h ∷ hs) p held = go (number_least (number + 1) hs p) (place_of h hs p held)
  where
    go : (IsHeldAt hs p → number + 1 ≤ number_in (number + 1) hs p) → Place h hs p → number ≤ number_in number (h ∷ hs) p
    go more (here same) = let e = number_here number h hs p same in omega (arith, e)
    go more (later other rest) =
        let e = number_later number h hs p other in
        let least = more rest in
        omega (arith, e, least)

pub number_tells : (number : ℕ) (hs : List Held) (p q : Names) → IsHeldAt hs p → IsHeldAt hs q → number_in number hs p ≡ number_in number hs q → p ≡ q
number_tells number [] p q held_p held_q e = absurd (contains_none held_p.0 held_p.1)
number_tells number (h ∷ hs) p q held_p held_q e = go (number_tells (number + 1) hs p q) (place_of h hs p held_p) (place_of h hs q held_q)
  where
    go : (IsHeldAt hs p → IsHeldAt hs q → number_in (number + 1) hs p ≡ number_in (number + 1) hs q → p ≡ q) → Place h hs p → Place h hs q → p ≡ q
    go more (here same) (here as_well) = same_path p h.path same ∙ sym (same_path q h.path as_well)
    go more (here same) (later other rest) =
        let a = number_here number h hs p same in
        let b = number_later number h hs q other in
        let least = number_least (number + 1) hs q rest in
        absurd (omega (arith, a, b, least, e))
    go more (later other rest) (here same) =
        let a = number_here number h hs q same in
        let b = number_later number h hs p other in
        let least = number_least (number + 1) hs p rest in
        absurd (omega (arith, a, b, least, e))
    go more (later other rest) (later as_well last) = more rest last (sym (number_later number h hs p other) ∙ e ∙ number_later number h hs q as_well)
