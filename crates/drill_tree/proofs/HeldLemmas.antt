-- What the tree of a drill holds: as entries, and in its order.
use Rattle.std.proofs.Common.{◌≡◌, inl, inr, ℕ, zero, suc, ◌+◌, ◌*◌, ◌≤◌, ◌/◌, ◌%◌, ◌==◌, Bool, true, false, cond, List, [], ◌∷◌, ◌++◌, map, length, codes, refl, sym, ◌∙◌, ap, subst, arith, append_assoc, Contains}
use Rattle.std.specs.List.{flat_map, range_with_len}
use Rattle.std.proofs.lemmas.List.{append-nil}
use Rattle.std.proofs.lemmas.List.Elements.{Contains-append_left, Contains-push, Contains-push_cases}
use Rattle.dired_text.specs.Paths.{Names, parent}
use Rattle.edit_laws.proofs.ListLemmas.{contains_head, contains_tail}
use Rattle.drill_tree.specs.declared.group.Group.{Group}
use Rattle.drill_tree.specs.declared.group.Group.TheVariants.{Chain, Cycle, Nested, Replacing, Swallowing}
use Rattle.drill_tree.specs.Groups.{Held, below, cycle_name, directory, file, group_name, group_of, held, one, two}
use Rattle.drill_tree.specs.Drill.{drill_held, entries_of, entry_at, group_entries, group_held, held_in}
use Rattle.drill_tree.proofs.ListLemmas.{flat_few, map_append}
use Rattle.drill_tree.proofs.GroupLemmas.{law}
use Rattle.drill_tree.proofs.DrillLemmas.{length_map}

-- ---- as entries

map_flat : {X Y : Type 0} (h : X → Y) (f : ℕ → List X) (ns : List ℕ) → map h (flat_map f ns) ≡ flat_map (λ n. map h (f n)) ns
map_flat h f [] = refl
map_flat h f (n ∷ ns) = map_append h (f n) (flat_map f ns) ∙ ap (λ l. map h (f n) ++ l) (map_flat h f ns)

map_twice : {X Y Z : Type 0} (h : Y → Z) (f : X → Y) (xs : List X) → map h (map f xs) ≡ map (λ x. h (f x)) xs
map_twice h f [] = refl
map_twice h f (x ∷ xs) = ap (λ l. h (f x) ∷ l) (map_twice h f xs)

group_entries_held : (numbers : Names → ℕ) (g : ℕ) → map (entry_at numbers) (group_held g) ≡ group_entries numbers g
group_entries_held numbers g =
    ap (λ l. entry_at numbers (directory (one (group_name g))) ∷ l) (map_twice (entry_at numbers) (held_in (group_name g)) (held (group_of g)))

pub entries_held : (numbers : Names → ℕ) (n : ℕ) → map (entry_at numbers) (drill_held n) ≡ entries_of numbers n
entries_held numbers n = map_flat (entry_at numbers) group_held (below n) ∙ (λ i. flat_map (λ g. group_entries_held numbers g i) (below n))

-- ---- each directory stands before what it holds

abbrev pub Ordered : List Held → List Held → Type 0
Ordered earlier [] = Unit {0}
Ordered earlier (h ∷ hs) = Contains earlier (directory (parent h.path)) × Ordered (earlier ++ h ∷ []) hs

ordered_more : (front earlier hs : List Held) → ((h : Held) → Contains earlier h → Contains front h) → Ordered earlier hs → Ordered front hs
ordered_more front earlier [] sub o = tt
ordered_more front earlier (h ∷ hs) sub o = (
  sub (directory (parent h.path)) o.0,
  ordered_more (front ++ h ∷ []) (earlier ++ h ∷ []) hs
      (λ x c. elim (Contains-push_cases earlier h x c) [
        | inl old ↦ Contains-append_left front (h ∷ []) x (sub x old)
        | inr same ↦ subst (λ (y : Held). Contains (front ++ h ∷ []) y) same (Contains-push front h)
      ])
      o.1,
)

ordered_append : (earlier hs more : List Held) → Ordered earlier hs → Ordered (earlier ++ hs) more → Ordered earlier (hs ++ more)
ordered_append earlier [] more a b = subst (λ (l : List Held). Ordered l more) (append-nil earlier) b
ordered_append earlier (h ∷ hs) more a b = (a.0, ordered_append (earlier ++ h ∷ []) hs more a.1 (subst (λ (l : List Held). Ordered l more) (sym (append_assoc earlier (h ∷ []) hs)) b))

ordered_flat : (earlier : List Held) (f : ℕ → List Held) (a n : ℕ) → ((g : ℕ) → Ordered earlier (f g)) → Ordered earlier (flat_map f (range_with_len a n))
ordered_flat earlier f a zero each = tt
ordered_flat earlier f a (suc n) each = ordered_append earlier (f a) (flat_map f (range_with_len (a + 1) n)) (each a)
    (ordered_more (earlier ++ f a) earlier (flat_map f (range_with_len (a + 1) n)) (λ h c. Contains-append_left earlier (f a) h c) (ordered_flat earlier f (a + 1) n each))

files_ordered : {X : Type 0} (name : X → List ℕ) (dir : List ℕ) (earlier : List Held) (xs : List X) → Contains earlier (directory (one dir))
    → Ordered earlier (map (held_in dir) (map (λ x. file (one (name x))) xs))
files_ordered name dir earlier [] c = tt
files_ordered name dir earlier (x ∷ xs) c = (c, files_ordered name dir (earlier ++ held_in dir (file (one (name x))) ∷ []) xs (Contains-append_left earlier (held_in dir (file (one (name x))) ∷ []) (directory (one dir)) c))

names_ordered : (dir : List ℕ) (earlier : List Held) (names : List (List ℕ)) → Contains earlier (directory (one dir)) → Ordered earlier (map (held_in dir) (map (λ n. file (one n)) names))
names_ordered dir = files_ordered (λ (n : List ℕ). n) dir

nested_ordered : (dir : List ℕ) (earlier : List Held) → Contains earlier (directory (one dir)) → Ordered earlier (map (held_in dir) (held Nested))
nested_ordered dir earlier c = (c, (Contains-push earlier (directory (two dir (codes "s"))), tt))

inside_ordered : (dir : List ℕ) (earlier : List Held) → Contains earlier (directory (one dir)) → (group : Group) → Ordered earlier (map (held_in dir) (held group))
inside_ordered dir earlier c Chain = names_ordered dir earlier (codes "a" ∷ codes "b" ∷ codes "c" ∷ []) c
inside_ordered dir earlier c (Cycle len) = files_ordered cycle_name dir earlier (below len) c
inside_ordered dir earlier c Nested = nested_ordered dir earlier c
inside_ordered dir earlier c Replacing = names_ordered dir earlier (codes "a" ∷ codes "b" ∷ []) c
inside_ordered dir earlier c Swallowing = nested_ordered dir earlier c

abbrev pub root_held : List Held
root_held = directory [] ∷ []

group_ordered : (g : ℕ) → Ordered root_held (group_held g)
group_ordered g = (
  contains_head (directory []) [],
  inside_ordered (group_name g) (directory [] ∷ directory (one (group_name g)) ∷ []) (contains_tail (directory []) (directory (one (group_name g))) (directory (one (group_name g)) ∷ []) (contains_head (directory (one (group_name g))) [])) (group_of g),
)

pub drill_ordered : (n : ℕ) → Ordered root_held (drill_held n)
drill_ordered n = ordered_flat root_held group_held 0 n group_ordered

-- ---- how many

pub held_few : (n : ℕ) → length (drill_held n) ≤ 8 * n
held_few n =
    let all = flat_few 8 group_held 0 n (λ g.
    let few = (law g).few_held in
    let e = length_map (held_in (group_name g)) (held (group_of g)) in
    omega (arith, few, e)) in
    omega (arith, all)
