-- How many steps a drill takes: one for each edit, one for each file that is replaced, and one for each temporary name.
use Rattle.std.proofs.Common.{◌≡◌, ℕ, ◌+◌, ◌<◌, Bool, true, false, not, ◌&&◌, cond, List, [], ◌∷◌, ◌++◌, filter, length, refl, sym, ◌∙◌, ap, subst, arith, Contains, Option, Some, None, is_some, count_by, option_map, length-append}
use Rattle.std.specs.List.{cons_option, filter_map, flat_map}
use Rattle.std.specs.FinMap.{get}
use Rattle.std.specs.Set.{unique_keys}
use Rattle.std.proofs.lemmas.List.Sums.{sum_by-cons}
use Rattle.dired_text.specs.Paths.{Names}
use Rattle.tree_core.specs.declared.node.Node.{Node}
use Rattle.tree_core.specs.declared.node.Node.TheVariants.{Dir}
use Rattle.tree_core.specs.FileTree.{FileTree}
use Rattle.edit_words.specs.declared.row.Row.{Row}
use Rattle.edit_words.specs.Counting.{counts_of}
use Rattle.edit_words.specs.Edited.{is_fresh}
use Rattle.edit_words.specs.Place.{IsAbove, ancestors}
use Rattle.edit_words.specs.Refusals.{missing_above, victim_of}
use Rattle.edit_words.specs.Rows.{is_elsewhere, is_same_path, rows, written}
use Rattle.edit_words.specs.Sight.{Sight, seen, sight_of}
use Rattle.edit_words.proofs.AboveLemmas.{ancestors_above}
use Rattle.edit_laws.proofs.ListLemmas.{contains_head, contains_tail}
use Rattle.edit_rules.specs.Plans.{ModeChange, mode_change_of, mode_changes, victim_line, victims_of}
use Rattle.plan_moves.specs.Plan.{is_given_up, is_moving, step_count}
use Rattle.plan_moves.specs.Waiting.{knots, waiting}
use Rattle.commit_plan.specs.Promises.{AreCounted, missing_once}
use Rattle.commit_steps.specs.declared.step.Step.{Step}
use Rattle.edit_check.specs.declared.checked.Checked.{Checked}
use Rattle.edit_check.specs.StandFor.{CountedWhereItStands, StandsFor, changes_in, counts_in}
use Rattle.edit_words.specs.declared.counts.Counts.{Counts}
use Rattle.tree_core.specs.declared.changes.Changes.{Changes}
use Rattle.drill_tree.specs.Drill.{IsDrillTree, drill_edits, drill_tree}
use Rattle.drill_tree.specs.Groups.{group_name}
use Rattle.drill_tree.proofs.DrillLemmas.{RowOf, group_here, root_here, row_at, row_came, same_first}
use Rattle.drill_tree.proofs.WellLemmas.{far_of, written_of_row}

-- ---- lists of which all pass a test, or none

abbrev one_if : Bool → ℕ
one_if b = cond b 1 0

count_cons : {X : Type 0} (p : X → Bool) (x : X) (xs : List X) → count_by p (x ∷ xs) ≡ cond (p x) 1 0 + count_by p xs
count_cons p x xs = sum_by-cons (λ y. cond (p y) 1 0) x xs

count_none : {X : Type 0} (p : X → Bool) (xs : List X) → ((x : X) → Contains xs x → p x ≡ false) → count_by p xs ≡ 0
count_none p [] none = refl
count_none p (x ∷ xs) none =
    let here = ap one_if (none x (contains_head x xs)) in
    let rest = count_none p xs (λ y c. none y (contains_tail x y xs c)) in
    let more = count_cons p x xs in
    omega (arith, here, rest, more)

count_all : {X : Type 0} (p : X → Bool) (xs : List X) → ((x : X) → Contains xs x → p x ≡ true) → count_by p xs ≡ length xs
count_all p [] all = refl
count_all p (x ∷ xs) all =
    let here = ap one_if (all x (contains_head x xs)) in
    let rest = count_all p xs (λ y c. all y (contains_tail x y xs c)) in
    let more = count_cons p x xs in
    omega (arith, here, rest, more)

map_none : {X Y : Type 0} (f : X → Option Y) (xs : List X) → ((x : X) → Contains xs x → f x ≡ None) → filter_map f xs ≡ []
map_none f [] none = refl
map_none f (x ∷ xs) none =
    let here = none x (contains_head x xs) in
    let rest = map_none f xs (λ y c. none y (contains_tail x y xs c)) in
    rw here rest

flat_none : {X Y : Type 0} (f : X → List Y) (xs : List X) → ((x : X) → Contains xs x → f x ≡ []) → flat_map f xs ≡ []
flat_none f [] none = refl
flat_none f (x ∷ xs) none =
    let here = none x (contains_head x xs) in
    let rest = flat_none f xs (λ y c. none y (contains_tail x y xs c)) in
    rw here rest

one_counted : {Y : Type 0} (a : Option Y) (b : Option Names) (ys : List Y) → is_some a ≡ is_some b → length (cons_option a ys) ≡ cond (is_some b) 1 0 + length ys
one_counted None None ys e = omega arith
one_counted (Some a) (Some b) ys e = omega arith
one_counted None (Some b) ys e = cc
one_counted (Some a) None ys e = cc

map_counted : {X Y : Type 0} (f : X → Option Y) (g : X → Option Names) (xs : List X) → ((x : X) → is_some (f x) ≡ is_some (g x)) → length (filter_map f xs) ≡ count_by (λ (x : X). is_some (g x)) xs
map_counted f g [] same = refl
map_counted f g (x ∷ xs) same =
    let here = one_counted (f x) (g x) (filter_map f xs) (same x) in
    let rest = map_counted f g xs same in
    let more = count_cons (λ (y : _). is_some (g y)) x xs in
    omega (arith, here, rest, more)

pub some_mapped : {X Y : Type 0} (f : X → Y) (o : Option X) → is_some (option_map f o) ≡ is_some o
some_mapped f None = refl
some_mapped f (Some x) = refl

victims_counted : (sight : Sight) (rs : List Row) → length (victims_of sight rs) ≡ (counts_of sight rs).replaced
victims_counted sight rs = map_counted (victim_line sight rs) (victim_of sight rs) rs (λ r. some_mapped (λ (p : Names). (r.line, p)) (victim_of sight rs r))

-- ---- the steps

module _ (n : ℕ) (sight : Sight) where
  abbrev Rs : List Row
  Rs = rows (drill_edits n)

  -- what holds of the row of each move
  each : (p : Row → Bool) (b : Bool) → ((g line : ℕ) (m : _) → p (row_at g line m) ≡ b) → (r : Row) → Contains Rs r → p r ≡ b
  each p b all r c = let o = row_came n r c in ap p o.is ∙ all o.group o.line o.move

  no_mode : (r : Row) → Contains Rs r → mode_change_of sight Rs r ≡ None
  no_mode r c = let o = row_came n r c in ap (mode_change_of sight Rs) o.is

  pub edits_counted : (counts_of sight Rs).renamed ≡ length Rs
  edits_counted = count_all (λ (r : Row). is_some r.source && is_some r.to) Rs (each (λ (r : Row). is_some r.source && is_some r.to) true (λ g line m. refl))

  pub steps_are : flat_map (missing_above sight) Rs ≡ [] → step_count sight Rs (missing_once sight Rs) ≡ (counts_of sight Rs).replaced + (counts_of sight Rs).renamed + knots (waiting Rs)
  steps_are none =
      let victims = victims_counted sight Rs in
      let given = count_none is_given_up Rs (each is_given_up false (λ g line m. refl)) in
      let dirs : length (missing_once sight Rs) ≡ 0 = ap (λ (ps : List Names). length (unique_keys is_same_path ps)) none in
      let moving = count_all is_moving Rs (each is_moving true (λ g line m. refl)) in
      let fresh = count_none is_fresh Rs (each is_fresh false (λ g line m. refl)) in
      let modes : length (mode_changes sight Rs) ≡ 0 = ap (λ (ms : List ModeChange). length ms) (map_none (mode_change_of sight Rs) Rs no_mode) in
      let edits = edits_counted in
      omega (arith, victims, given, dirs, moving, fresh, modes, edits)

pub filter_none : {X : Type 0} (p : X → Bool) (xs : List X) → ((x : X) → Contains xs x → p x ≡ false) → filter p xs ≡ []
filter_none p [] none = refl
filter_none p (x ∷ xs) none =
    let here = none x (contains_head x xs) in
    let rest = filter_none p xs (λ y c. none y (contains_tail x y xs c)) in
    rw here rest

module _ (numbers : Names → ℕ) (n : ℕ) where
  abbrev Tree : FileTree
  Tree = drill_tree numbers n

  abbrev is_missing : Names → Bool
  is_missing p = not (is_some ((sight_of Tree).at p))

  stands_there : (p : Names) (node : Node) → get Tree p ≡ Some node → is_missing p ≡ false
  stands_there p node e = ap (λ (o : Option Node). not (is_some (option_map seen o))) e

  -- above a path of one name in a group are the root and the directory of the group
  pub above_group : (g : ℕ) (u to : Names) → g < n → length to ≡ 1 → IsAbove u (group_name g ∷ to) → is_missing u ≡ false
  above_group g [] to most single above = stands_there [] (Dir 0o755) (root_here numbers n)
  above_group g (k ∷ []) to most single (name, rest, is) =
      let same : k ≡ group_name g = sym (same_first (group_name g) k to (name ∷ rest) is) in
      ap (λ (x : List ℕ). is_missing (x ∷ [])) same ∙ stands_there (group_name g ∷ []) (Dir 0o755) (group_here numbers n g most)
  above_group g (k ∷ l ∷ u) to most single (name, rest, is) =
      let size : length (group_name g ∷ to) ≡ length (k ∷ l ∷ u ++ name ∷ rest) = ap length is in
      let parts = length-append u (name ∷ rest) in
      absurd (omega (arith, size, parts, single))

  none_missing : (r : Row) → Contains (rows (drill_edits n)) r → missing_above (sight_of Tree) r ≡ []
  none_missing r c = choose (is_elsewhere r) refl
    where
      o : RowOf n r
      o = row_came n r c

      choose : (b : Bool) → is_elsewhere r ≡ b → cond b (filter is_missing (ancestors (written r))) [] ≡ []
      choose false e = refl
      choose true e = filter_none is_missing (ancestors (written r)) (λ u listed.
          above_group o.group u o.move.to o.below (far_of n r o e) (subst (IsAbove u) (written_of_row n r o) ((ancestors_above (written r) u).0 listed)))

-- no entry is made anew
pub no_fresh : (n : ℕ) → filter is_fresh (rows (drill_edits n)) ≡ []
no_fresh n = filter_none is_fresh (rows (drill_edits n)) (λ r c. let o = row_came n r c in ap is_fresh o.is)

-- No directory is missing.
pub drill_steps : (n : ℕ) (t : FileTree) → IsDrillTree n t
    → step_count (sight_of t) (rows (drill_edits n)) (missing_once (sight_of t) (rows (drill_edits n)))
    ≡ (counts_of (sight_of t) (rows (drill_edits n))).replaced + (counts_of (sight_of t) (rows (drill_edits n))).renamed + knots (waiting (rows (drill_edits n)))
drill_steps n t (numbers, is) = subst (λ (u : FileTree). step_count (sight_of u) (rows (drill_edits n)) (missing_once (sight_of u) (rows (drill_edits n)))
    ≡ (counts_of (sight_of u) (rows (drill_edits n))).replaced + (counts_of (sight_of u) (rows (drill_edits n))).renamed + knots (waiting (rows (drill_edits n))))
    (sym is) (steps_are n (sight_of (drill_tree numbers n)) (flat_none (missing_above (sight_of (drill_tree numbers n))) (rows (drill_edits n)) (none_missing numbers n)))

-- by what a check counted
pub drill_counted : (n : ℕ) (t : FileTree) (checked : Checked) (steps : List Step) → IsDrillTree n t → StandsFor checked t → changes_in checked ≡ drill_edits n
    → CountedWhereItStands checked → AreCounted checked steps
    → (counts_in checked ≡ counts_of (sight_of t) (rows (drill_edits n)))
    × (length steps ≡ step_count (sight_of t) (rows (drill_edits n)) (missing_once (sight_of t) (rows (drill_edits n))))
    × (length steps ≡ (counts_in checked).replaced + (counts_in checked).renamed + knots (waiting (rows (drill_edits n))))
drill_counted n t checked steps drill stands changes counted has =
    let counts : counts_in checked ≡ counts_of (sight_of t) (rows (drill_edits n)) = counted t stands ∙ ap (λ (c : Changes). counts_of (sight_of t) (rows c)) changes in
    let number : length steps ≡ step_count (sight_of t) (rows (drill_edits n)) (missing_once (sight_of t) (rows (drill_edits n))) =
    has t stands ∙ ap (λ (c : Changes). step_count (sight_of t) (rows c) (missing_once (sight_of t) (rows c))) changes in
    (counts, number, number ∙ drill_steps n t drill ∙ ap (λ (c : Counts). c.replaced + c.renamed + knots (waiting (rows (drill_edits n)))) (sym counts))
