-- That the tree of a drill is made, and what is told of it.
use Rattle.std.proofs.Common.{◌≡◌, inl, inr, ℕ, ◌+◌, ◌*◌, ◌≤◌, Bool, true, false, List, [], ◌∷◌, map, length, refl, sym, ◌∙◌, ap, subst, arith, Contains, Some, None}
use Rattle.std.specs.FinMap.{find, get}
use Rattle.dired_text.specs.Paths.{Names, path_cmp}
use Rattle.tree_core.specs.declared.node.Node.{Node}
use Rattle.tree_core.specs.declared.node.Node.TheVariants.{Dir, File}
use Rattle.tree_core.specs.FileTree.{FileTree, root_tree}
use Rattle.tree_core.specs.History.{Began, IsCrashState, IsDurable, current_tree}
use Rattle.tree_core.proofs.TreeLemmas.{get-made, same_tree}
use Rattle.edit_laws.proofs.ListLemmas.{contains_cases, map_parts}
use Rattle.mem_tree.specs.declared.build.Entry.{Entry}
use Rattle.mem_tree.specs.Built.{built, first_bad}
use Rattle.drill_tree.specs.declared.entries.Held.{Held}
use Rattle.drill_tree.specs.Drill.{IsDrillTree, drill_held, drill_tree, entries_of, entry_at}
use Rattle.drill_tree.proofs.ListLemmas.{Apart, apart_of_map}
use Rattle.drill_tree.proofs.DrillLemmas.{OtherPath, all_entries, entries_apart, find_came}
use Rattle.drill_tree.proofs.HeldLemmas.{drill_ordered, entries_held, held_few}
use Rattle.drill_memory.specs.Numbered.{HaveOwnNumbers, node_numbered, numbered}
use Rattle.drill_memory.proofs.BuiltTrees.{OtherEntry, built_root, pair, root_entry}
use Rattle.drill_memory.proofs.GoodEntries.{fit_good, root_fit}
use Rattle.drill_memory.proofs.NumberLemmas.{IsHeldAt, OtherHeld, number_in, number_tells, numbered_pairs}

-- the number of the file at this path
abbrev numbers : ℕ → Names → ℕ
numbers n = number_in 0 (drill_held n)

no_numbers : Names → ℕ
no_numbers p = 0

held_apart : (n : ℕ) → Apart OtherHeld (drill_held n)
held_apart n = apart_of_map (entry_at no_numbers) OtherPath (drill_held n) (subst (Apart OtherPath) (sym (entries_held no_numbers n)) (entries_apart no_numbers n).1)

pairs : (n : ℕ) → map pair (numbered 0 (drill_held n)) ≡ entries_of (numbers n) n
pairs n = numbered_pairs 0 (drill_held n) (held_apart n) ∙ entries_held (numbers n) n

entries_differ : (n : ℕ) → Apart OtherEntry (root_entry ∷ numbered 0 (drill_held n))
entries_differ n = apart_of_map pair OtherPath (root_entry ∷ numbered 0 (drill_held n))
    (subst (λ (l : List (Names × Node)). Apart OtherPath (([], Dir 0o755) ∷ l)) (sym (pairs n)) (entries_apart (numbers n) n))

made_tree : (n : ℕ) → built root_tree (numbered 0 (drill_held n)) ≡ drill_tree (numbers n) n
made_tree n = same_tree (built root_tree (numbered 0 (drill_held n))) (drill_tree (numbers n) n) (λ q.
    built_root (numbered 0 (drill_held n)) q (entries_differ n)
    ∙ ap (λ (l : List (Names × Node)). find path_cmp q (([], Dir 0o755) ∷ l)) (pairs n)
    ∙ sym (get-made (all_entries (numbers n) n) q))

pub none_bad : (n : ℕ) → n ≤ 20000 → first_bad [] (numbered 0 (drill_held n)) ≡ None
none_bad n few =
    let size = held_few n in
    fit_good [] (numbered 0 (drill_held n)) (entries_differ n) (root_fit (drill_held n) (omega (arith, size, few)) (drill_ordered n))

pub is_drill : (n : ℕ) → IsDrillTree n (built root_tree (numbered 0 (drill_held n)))
is_drill n = (numbers n, made_tree n)

-- ---- numbers

file_number : (d : Bool) (x number : ℕ) (b : List ℕ) (m : ℕ) → node_numbered x d ≡ File number b m → x ≡ number
file_number true x number b m e = cc
file_number false x number b m e = cc

file_held : (n : ℕ) (q : Names) (number : ℕ) (b : List ℕ) (m : ℕ) → get (drill_tree (numbers n) n) q ≡ Some (File number b m) → IsHeldAt (drill_held n) q × (numbers n q ≡ number)
file_held n q number b m at_q =
    let came = find_came (all_entries (numbers n) n) q (File number b m) (sym (get-made (all_entries (numbers n) n) q) ∙ at_q) in
    elim (contains_cases ([], Dir 0o755) (q, File number b m) (entries_of (numbers n) n) came) [
      | inl same ↦ let e : Dir 0o755 ≡ File number b m = ap (λ (x : Names × Node). x.1) same in absurd cc
      | inr later ↦
          let listed = subst (λ (l : List (Names × Node)). Contains l (q, File number b m)) (sym (entries_held (numbers n) n)) later in
          let p = map_parts (entry_at (numbers n)) (drill_held n) (q, File number b m) listed in
          let path : p.0.path ≡ q = ap (λ (x : Names × Node). x.0) p.2 in
          let node : node_numbered (numbers n p.0.path) p.0.is_dir ≡ File number b m = ap (λ (x : Names × Node). x.1) p.2 in
          ((p.0, p.1, path), ap (numbers n) (sym path) ∙ file_number p.0.is_dir (numbers n p.0.path) number b m node)
    ]

own_numbers : (n : ℕ) → HaveOwnNumbers (drill_tree (numbers n) n)
own_numbers n p q number b c m k at_p at_q =
    let x = file_held n p number b m at_p in
    let y = file_held n q number c k at_q in
    number_tells 0 (drill_held n) p q x.0 y.0 (x.1 ∙ sym y.1)

pub numbers_own : (n : ℕ) → HaveOwnNumbers (built root_tree (numbered 0 (drill_held n)))
numbers_own n = subst HaveOwnNumbers (sym (made_tree n)) (own_numbers n)

-- ---- what is told

pub began_durable : (t : FileTree) (next : ℕ) → IsDurable (Began t next)
unfolding IsCrashState
began_durable t next c is = is
