-- Entries that are held in their order make a tree.
use Rattle.std.proofs.Common.{◌≡◌, inl, inr, ℕ, ◌+◌, ◌≤◌, ◌==◌, Bool, true, false, cond, not, ◌&&◌, List, [], ◌∷◌, ◌++◌, map, length, refl, sym, ◌∙◌, ap, subst, arith, append_assoc, Contains, Some, None, is_some}
use Rattle.std.specs.List.{list_all}
use Rattle.std.specs.FinMap.{find, get}
use Rattle.std.specs.Str.{bytes_eq}
use Rattle.std.proofs.lemmas.Bool.{and_from, cond-true, le-leb, or_right}
use Rattle.std.proofs.lemmas.List.Elements.{Contains-append_left, Contains-push, Contains-push_cases}
use Rattle.dired_text.specs.Paths.{Names, parent, path_cmp}
use Rattle.tree_core.specs.declared.node.Node.{Node}
use Rattle.tree_core.specs.declared.node.Node.TheVariants.{Dir}
use Rattle.tree_core.specs.FileTree.{is_dir_node, root_tree}
use Rattle.edit_laws.proofs.ListLemmas.{contains_head, contains_tail, contains_cases, contains_map, contains_none}
use Rattle.mem_tree.specs.declared.build.Entry.{Entry}
use Rattle.mem_tree.specs.Built.{agree, built, first_bad, is_good}
use Rattle.mem_tree.specs.Lawful.{is_lawful}
use Rattle.drill_tree.specs.declared.entries.Held.{Held}
use Rattle.drill_tree.specs.Groups.{directory}
use Rattle.drill_tree.proofs.ListLemmas.{Apart, apart_map}
use Rattle.drill_tree.proofs.DrillLemmas.{OtherPath, find_here}
use Rattle.drill_tree.proofs.HeldLemmas.{Ordered, root_held}
use Rattle.drill_memory.specs.Numbered.{entry_numbered, node_numbered, numbered}
use Rattle.drill_memory.proofs.BuiltTrees.{OtherEntry, apart_across, apart_front, built_root, find_none, pair, root_entry}

-- a directory stands there
abbrev pub HasDir : List Entry → Names → Type 0
HasDir earlier p = (d : Entry) × Contains (root_entry ∷ earlier) d × (d.path ≡ p) × (d.node ≡ Dir 0o755)

pub record IsFit (earlier : List Entry) (e : Entry) : Type 0 where
  pub dir : HasDir earlier (parent e.path)
  pub lawful : is_lawful e.node ≡ true
  pub alike : (f : Entry) → Contains earlier f → agree f.node e.node ≡ true

abbrev pub AreFit : List Entry → List Entry → Type 0
AreFit earlier [] = Unit {0}
AreFit earlier (e ∷ later) = IsFit earlier e × AreFit (earlier ++ e ∷ []) later

all_true : {X : Type 0} (p : X → Bool) (xs : List X) → ((x : X) → Contains xs x → p x ≡ true) → list_all p xs ≡ true
all_true p [] each = refl
all_true p (x ∷ xs) each = and_from (p x) (list_all p xs) (each x (contains_head x xs)) (all_true p xs (λ y c. each y (contains_tail x y xs c)))

module _ (earlier : List Entry) (e : Entry) (later : List Entry) (apart : Apart OtherEntry (root_entry ∷ (earlier ++ e ∷ later))) (fit : IsFit earlier e) where
  front : Apart OtherEntry (root_entry ∷ earlier)
  front = apart_front OtherEntry (root_entry ∷ earlier) (e ∷ later) apart

  nothing_there : get (built root_tree earlier) e.path ≡ None
  nothing_there =
      built_root earlier e.path front
      ∙ find_none (root_entry ∷ earlier) e.path (λ f c same. apart_across OtherEntry (root_entry ∷ earlier) (e ∷ later) apart f e c (contains_head e later) (sym same))

  dir_there : get (built root_tree earlier) (parent e.path) ≡ Some (Dir 0o755)
  dir_there =
      let d = fit.dir in
      built_root earlier (parent e.path) front
      ∙ ap (λ (q : Names). find path_cmp q (map pair (root_entry ∷ earlier))) (sym d.2)
      ∙ find_here (map pair (root_entry ∷ earlier)) (apart_map pair OtherPath (root_entry ∷ earlier) front) (pair d.0) (contains_map pair (root_entry ∷ earlier) d.0 d.1)
      ∙ ap (λ (n : Node). Some n) d.3

  good : is_good earlier e ≡ true
  good = λ i. not (is_some (nothing_there i)) && is_dir_node (dir_there i) && fit.lawful i && all_true (λ (f : Entry). agree f.node e.node) earlier fit.alike i

pub fit_good : (earlier later : List Entry) → Apart OtherEntry (root_entry ∷ (earlier ++ later)) → AreFit earlier later → first_bad earlier later ≡ None
fit_good earlier [] apart fit = refl
fit_good earlier (e ∷ later) apart fit =
    cond-true (is_good earlier e) (first_bad (earlier ++ e ∷ []) later) (Some (length earlier)) (good earlier e later apart fit.0)
    ∙ fit_good (earlier ++ e ∷ []) later (subst (λ (l : List Entry). Apart OtherEntry (root_entry ∷ l)) (sym (append_assoc earlier (e ∷ []) later)) apart) fit.1

-- ---- entries of what is held

agree_numbered : (n m : ℕ) (d e : Bool) → agree (node_numbered n d) (node_numbered m e) ≡ true
agree_numbered n m true e = refl
agree_numbered n m false true = refl
agree_numbered n m false false = or_right (not (n == m)) (bytes_eq [] [] && 0o644 == 0o644) refl

lawful_numbered : (n : ℕ) (d : Bool) → n ≤ 9223372036854775807 → is_lawful (node_numbered n d) ≡ true
lawful_numbered n true few = refl
lawful_numbered n false few = le-leb n 9223372036854775807 few

abbrev IsNumbered : Node → Type 0
IsNumbered node = (n : ℕ) × (d : Bool) × (node ≡ node_numbered n d)

held_fit : (earlier : List Entry) (before : List Held) (number : ℕ) (hs : List Held)
    → ((p : Names) → Contains before (directory p) → HasDir earlier p) → ((f : Entry) → Contains earlier f → IsNumbered f.node)
    → number + length hs ≤ 9223372036854775807 → Ordered before hs → AreFit earlier (numbered number hs)
held_fit earlier before number [] dirs nodes few o = tt
held_fit earlier before number (h ∷ hs) dirs nodes few o = (
  record {
    dir = dirs (parent h.path) o.0;
    lawful = lawful_numbered number h.is_dir (omega (arith, few));
    alike = λ f c. let x = nodes f c in subst (λ (n : Node). agree n (node_numbered number h.is_dir) ≡ true) (sym x.2) (agree_numbered x.0 number x.1 h.is_dir);
  },
  held_fit (earlier ++ entry_numbered number h ∷ []) (before ++ h ∷ []) (number + 1) hs
      (λ p c. elim (Contains-push_cases before h (directory p) c) [
        | inl old ↦ let d = dirs p old in (d.0, Contains-append_left (root_entry ∷ earlier) (entry_numbered number h ∷ []) d.0 d.1, d.2, d.3)
        | inr same ↦ (
          entry_numbered number h,
          Contains-push (root_entry ∷ earlier) (entry_numbered number h),
          ap (λ (x : Held). x.path) same,
          ap (λ (x : Held). node_numbered number x.is_dir) same,
        )
      ])
      (λ f c. elim (Contains-push_cases earlier (entry_numbered number h) f c) [
        | inl old ↦ nodes f old
        | inr same ↦ (number, h.is_dir, ap (λ (x : Entry). x.node) (sym same))
      ])
      (omega (arith, few)) o.1,
)

pub root_fit : (hs : List Held) → length hs ≤ 9223372036854775807 → Ordered root_held hs → AreFit [] (numbered 0 hs)
root_fit hs few o = held_fit [] root_held 0 hs
    (λ p c. elim (contains_cases (directory []) (directory p) [] c) [
      | inl same ↦ (root_entry, contains_head root_entry [], ap (λ (x : Held). x.path) same, refl)
      | inr later ↦ absurd (contains_none (directory p) later)
    ])
    (λ f c. absurd (contains_none f c)) (omega (arith, few)) o
