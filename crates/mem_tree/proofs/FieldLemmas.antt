-- A rename takes the fields along.
use Rattle.std.proofs.Common.{◌≡◌, ℕ, ℤ, ◌-◌, ◌^◌, min, codes, List, [], ◌++◌, length, refl, sym, ◌∙◌, ap, Option, Some, None, Result, Ok, Err, OnOk, MatchResult}
use Rattle.std.specs.FinMap.{get}
use Rattle.dired_text.specs.Paths.{Names, rest_below}
use Rattle.dired_text.proofs.PathLemmas.{rest_below-append, rest_below-some}
use Rattle.tree_core.specs.declared.node.Node.{Node}
use Rattle.tree_core.specs.declared.node.Node.TheVariants.{Dir, Link, File}
use Rattle.tree_core.specs.FileTree.{FileTree, IsTree, IsAbsent, CanRename, Stands, kind_of, mode_of, moved, moved_rest, after_rename, renamed}
use Rattle.tree_core.proofs.TreeLemmas.{absent_not, absent_below, get-renamed}
use Rattle.mem_tree.specs.Times.{Times, renamed_time}
use Rattle.mem_tree.specs.MemFields.{paths_of, meta_of, meta_at, fields_of}
use Rattle.mem_tree.proofs.MoveLemmas.{paths-renamed}

module _ (t : FileTree) (times : Times) (from to : Names) (tree : IsTree t) (can : CanRename t from to) where
  clear : (r : Names) → IsAbsent t (to ++ r)
  clear = absent_below t tree to can.absent

  abbrev later : Times
  later q = renamed_time (rest_below to q) (rest_below from q) times from q

  -- what stands is neither at `to` nor below it
  clear_standing : (p : Names) → Stands t p → rest_below to p ≡ None
  clear_standing p stands = by (rest_below to p) refl
    where
      by : (o : Option Names) → rest_below to p ≡ o → rest_below to p ≡ None
      by None is = is
      by (Some r) is = absurd (absent_not (get t p) (ap (get t) (rest_below-some to p r is) ∙ clear r) stands)

  -- the node and the time of what stood, where it went
  node_carried : (p : Names) → Stands t p → get (renamed t from to) (moved from to p) ≡ get t p
  node_carried p stands = get-renamed from to t clear (moved from to p) ∙ by (rest_below from p) refl
    where
      by : (o : Option Names) → rest_below from p ≡ o → after_rename (rest_below to (moved from to p)) (rest_below from (moved from to p)) (get t) from (moved from to p) ≡ get t p
      by None is =
          ap (λ q. after_rename (rest_below to q) (rest_below from q) (get t) from q) (ap (λ o. moved_rest o to p) is)
          ∙ (λ i. after_rename (clear_standing p stands i) (is i) (get t) from p)
      by (Some r) is =
          ap (λ q. after_rename (rest_below to q) (rest_below from q) (get t) from q) (ap (λ o. moved_rest o to p) is)
          ∙ ap (λ o. after_rename o (rest_below from (to ++ r)) (get t) from (to ++ r)) (rest_below-append to r)
          ∙ ap (get t) (sym (rest_below-some from p r is))

  time_carried : (p : Names) → Stands t p → later (moved from to p) ≡ times p
  time_carried p stands = by (rest_below from p) refl
    where
      by : (o : Option Names) → rest_below from p ≡ o → renamed_time (rest_below to (moved from to p)) (rest_below from (moved from to p)) times from (moved from to p) ≡ times p
      by None is =
          ap (λ q. renamed_time (rest_below to q) (rest_below from q) times from q) (ap (λ o. moved_rest o to p) is)
          ∙ (λ i. renamed_time (clear_standing p stands i) (is i) times from p)
      by (Some r) is =
          ap (λ q. renamed_time (rest_below to q) (rest_below from q) times from q) (ap (λ o. moved_rest o to p) is)
          ∙ ap (λ o. renamed_time o (rest_below from (to ++ r)) times from (to ++ r)) (rest_below-append to r)
          ∙ ap times (sym (rest_below-some from p r is))

  meta_carried : (node : Node) (mtime : ℤ) → meta_of (renamed t from to) node mtime ≡ meta_of t node mtime
  meta_carried (Dir mode) mtime = refl
  meta_carried (Link target) mtime = refl
  meta_carried (File number bytes mode) mtime =
      ap (λ n. record { kind = kind_of (File number bytes mode); mode = mode; links = min n (2 ^ 32 - 1); owner = codes "u"; group = codes "g"; size = min (length bytes) (2 ^ 64 - 1); mtime = mtime; number = number; target = [] })
      (paths-renamed t from to clear number)

  at_carried : (o : Option Node) (mtime : ℤ) → meta_at (renamed t from to) o mtime ≡ meta_at t o mtime
  at_carried None mtime = refl
  at_carried (Some node) mtime = meta_carried node mtime

  -- what stood takes its fields along
  pub fields_carried : (p : Names) → Stands t p → fields_of (renamed t from to) later (moved from to p) ≡ fields_of t times p
  fields_carried p stands =
      (λ i. meta_at (renamed t from to) (node_carried p stands i) (time_carried p stands i))
      ∙ at_carried (get t p) (times p)

pub on_ok : {T E C : Type 0} (A B : Type 0) (r : Result T E) → (A → C) → MatchResult r (λ _. A) (λ _. B) → OnOk r C
on_ok A B (Ok v) f a = f a
on_ok A B (Err e) f a = tt
