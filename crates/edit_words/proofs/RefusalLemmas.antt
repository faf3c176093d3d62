-- Each fault of a row, as a statement on the tree.
use Rattle.std.proofs.Common.{◌≡◌, ◌⊎◌, inl, inr, ◌↔◌, ℕ, ◌<◌, ◌≤◌, ◌==◌, true, false, not, ◌&&◌, ◌||◌, List, refl, sym, ◌∙◌, ap, subst, arith, Option, Some, None, Contains, Decides, option_map, is_some, IsTrue}
use Rattle.std.specs.FinMap.{get}
use Rattle.std.specs.List.{find}
use Rattle.std.specs.Str.{bytes_eq}
use Rattle.std.proofs.lemmas.Bool.{false≢true, cases_Bool, cases_eq, cases_lt, both_ways, false_from_ne_true, true_from_ne_false}
use Rattle.std.proofs.lemmas.Bool.Decides.{Decides-eqb, Decides-ltb, Decides-and, Decides-or, Decides-not, Decides-like}
use Rattle.std.proofs.lemmas.Option.{none-some, same_Some}
use Rattle.std.proofs.lemmas.Slice.Eq.{bytes_eq-Decides}
use Rattle.dired_text.specs.Paths.{Names, is_below, path_bytes, max_path_bytes}
use Rattle.dired_text.proofs.PathLemmas.{path_decides}
use Rattle.tree_core.specs.declared.node.Node.{Node}
use Rattle.tree_core.specs.declared.node.Node.TheVariants.{Dir, Link, File}
use Rattle.tree_core.specs.declared.node.Kind.{Kind}
use Rattle.tree_core.specs.declared.node.Kind.TheVariants as kind
use Rattle.tree_core.specs.declared.edit.Shown.{Shown}
use Rattle.tree_core.specs.FileTree.{FileTree, IsDir, Stands, is_dir_node}
use Rattle.edit_words.specs.declared.row.Row.{Row}
use Rattle.edit_words.specs.declared.fault.CheckFault.TheVariants.{Stale, Reserved, TwoToOne, ModeClash, ParentNotDirectory, MovedParent, ParentTaken, PathTooLong}
use Rattle.edit_words.specs.Place.{place, IsAbove, is_above, ancestors}
use Rattle.edit_words.specs.Rows.{is_same_path, written, route_of}
use Rattle.edit_words.specs.Sight.{sight_of, seen, is_dir, is_other, number_of, number_at}
use Rattle.edit_words.specs.Refusals.{staging, is_dir_shown, is_link_shown, is_file_shown, is_as_shown, is_stale_at, stale, is_staged_at, reserved, two_to_one, are_same, differ, mode_clash, parent_not_directory, is_mover_above, moved_parent, parent_taken, is_too_long_at, path_too_long}
use Rattle.edit_words.specs.WellFormed.{ShowsNode, IsShown, IsStagedAt, HasNumber, IsMover}
use Rattle.edit_words.proofs.FindLemmas.{map_none, if_none, find_none, no_clash}
use Rattle.edit_words.proofs.AboveLemmas.{above_decides, ancestors_above}

-- ---- what is seen of a tree

pub is_some-seen : (o : Option Node) → is_some (option_map seen o) ≡ is_some o
is_some-seen None = refl
is_some-seen (Some node) = refl

pub stands_decides : (t : FileTree) (p : Names) → Decides (is_some ((sight_of t).at p)) (Stands t p)
stands_decides t p = (λ e. sym (is_some-seen (get t p)) ∙ e, λ e. is_some-seen (get t p) ∙ e)

pub is_dir-seen : (o : Option Node) → is_dir (option_map seen o) ≡ is_dir_node o
is_dir-seen None = refl
is_dir-seen (Some (Dir mode)) = refl
is_dir-seen (Some (Link target)) = refl
is_dir-seen (Some (File number bytes mode)) = refl

pub dir_decides : (t : FileTree) (p : Names) → Decides (is_dir ((sight_of t).at p)) (IsDir t p)
dir_decides t p = (λ e. sym (is_dir-seen (get t p)) ∙ e, λ e. is_dir-seen (get t p) ∙ e)

other_decides : (o : Option Node) → Decides (is_other (option_map seen o)) (IsTrue (is_some o) × (IsTrue (is_dir_node o) → ⊥))
other_decides None = (λ e. absurd (false≢true e), λ h. absurd (false≢true h.0))
other_decides (Some (Dir mode)) = (λ e. absurd (false≢true e), λ h. absurd (h.1 refl))
other_decides (Some (Link target)) = (λ e. (refl, λ dir. false≢true dir), λ h. refl)
other_decides (Some (File number bytes mode)) = (λ e. (refl, λ dir. false≢true dir), λ h. refl)

abbrev IsFileOf : Option Node → ℕ → Type 0
IsFileOf o number = (bytes : List ℕ) × (mode : ℕ) × (o ≡ Some (File number bytes mode))

number_file : (o : Option Node) (n : ℕ) → (number_of (option_map seen o) ≡ Some n) ↔ IsFileOf o n
number_file None n = (λ e. absurd (none-some n e), λ f. absurd (none-some (File n f.0 f.1) f.2))
number_file (Some (Dir mode)) n = (λ e. absurd (none-some n e), λ f. let is : Some (Dir mode) ≡ Some (File n f.0 f.1) = f.2 in absurd cc)
number_file (Some (Link target)) n = (λ e. absurd (none-some n e), λ f. let is : Some (Link target) ≡ Some (File n f.0 f.1) = f.2 in absurd cc)
number_file (Some (File number bytes mode)) n = (
  λ e. (bytes, mode, ap (λ (m : ℕ). Some (File m bytes mode)) (same_Some number n e)),
  λ f. let is : Some (File number bytes mode) ≡ Some (File n f.0 f.1) = f.2 in let same : number ≡ n = cc in ap (λ (m : ℕ). Some m) same,
)

abbrev IsNumberAt : FileTree → Option Names → ℕ → Type 0
IsNumberAt t source n = (s : Names) × (bytes : List ℕ) × (mode : ℕ) × (source ≡ Some s) × (get t s ≡ Some (File n bytes mode))

number_at_source : (t : FileTree) (source : Option Names) (n : ℕ) → (number_at (sight_of t) source ≡ Some n) ↔ IsNumberAt t source n
number_at_source t None n = (λ e. absurd (none-some n e), λ h. absurd (none-some h.0 h.3))
number_at_source t (Some s) n = (
  λ e. let f = (number_file (get t s) n).0 e in (s, f.0, f.1, refl, f.2),
  λ h. (number_file (get t s) n).1 (h.1, h.2, ap (get t) (same_Some s h.0 h.3) ∙ h.4),
)

-- ---- a line shows what stands at its source

dir_shown : (k : Kind) → Decides (is_dir_shown k) (k ≡ kind.Dir)
dir_shown kind.Dir = (λ e. refl, λ is. refl)
dir_shown kind.File = (λ e. absurd (false≢true e), λ is. absurd cc)
dir_shown kind.Link = (λ e. absurd (false≢true e), λ is. absurd cc)

link_shown : (k : Kind) → Decides (is_link_shown k) (k ≡ kind.Link)
link_shown kind.Link = (λ e. refl, λ is. refl)
link_shown kind.File = (λ e. absurd (false≢true e), λ is. absurd cc)
link_shown kind.Dir = (λ e. absurd (false≢true e), λ is. absurd cc)

file_shown : (k : Kind) → Decides (is_file_shown k) (k ≡ kind.File)
file_shown kind.File = (λ e. refl, λ is. refl)
file_shown kind.Dir = (λ e. absurd (false≢true e), λ is. absurd cc)
file_shown kind.Link = (λ e. absurd (false≢true e), λ is. absurd cc)

mode_decides : (m n : ℕ) → Decides (m == n) (n ≡ m)
mode_decides m n = Decides-like (m == n) (λ e. sym e) (λ e. sym e) (Decides-eqb m n)

node_shown : (was : Shown) (node : Node) → Decides (is_as_shown was (Some (seen node))) (ShowsNode was node)
node_shown was (Dir mode) = Decides-and _ _ (dir_shown was.kind) (mode_decides mode was.mode)
node_shown was (Link target) = Decides-and _ _ (link_shown was.kind) (Decides-like (bytes_eq target was.target) (λ e. sym e) (λ e. sym e) (bytes_eq-Decides target was.target))
node_shown was (File number bytes mode) = Decides-and _ _ (file_shown was.kind) (mode_decides mode was.mode)

abbrev Shows : Option Node → Shown → Type 0
Shows o was = (node : Node) × (o ≡ Some node) × ShowsNode was node

shown_decides : (o : Option Node) (was : Shown) → Decides (is_as_shown was (option_map seen o)) (Shows o was)
shown_decides None was = (λ e. absurd (false≢true e), λ h. absurd (none-some h.0 h.1))
shown_decides (Some node) was = (
  λ e. (node, refl, (node_shown was node).0 e),
  λ h. (node_shown was node).1 (subst (ShowsNode was) (sym (same_Some node h.0 h.1)) h.2),
)

abbrev IsStale : FileTree → Option Names → Option Shown → Type 0
IsStale t source was = (s : Names) × (w : Shown) × (source ≡ Some s) × (was ≡ Some w) × (Shows (get t s) w → ⊥)

stale_decides : (t : FileTree) (source : Option Names) (was : Option Shown) → Decides (is_stale_at (sight_of t) source was) (IsStale t source was)
stale_decides t None was = (λ e. absurd (false≢true e), λ h. absurd (none-some h.0 h.2))
stale_decides t (Some s) None = (λ e. absurd (false≢true e), λ h. absurd (none-some h.1 h.3))
stale_decides t (Some s) (Some w) =
    let d = Decides-not (is_as_shown w (option_map seen (get t s))) (shown_decides (get t s) w) in (
      λ e. (s, w, refl, refl, d.0 e),
      λ h. d.1 (λ shows. h.4 (subst (λ (p : Names). Shows (get t p) h.1) (same_Some s h.0 h.2) (subst (Shows (get t s)) (same_Some w h.1 h.3) shows))),
    )

pub shown_row : (t : FileTree) (r : Row) → (stale (sight_of t) r ≡ None) ↔ IsShown t r
shown_row t r = (
  λ e s w source was. by_shown s w (cases_Bool (is_as_shown w (option_map seen (get t s)))) (λ no. rule.0 e (s, w, source, was, no)),
  λ fresh. rule.1 (λ h. h.4 (fresh h.0 h.1 h.2 h.3)),
)
  where
    rule : (stale (sight_of t) r ≡ None) ↔ (IsStale t r.source r.was → ⊥)
    rule = if_none (is_stale_at (sight_of t) r.source r.was) (Stale r.line) (stale_decides t r.source r.was)

    by_shown : (s : Names) (w : Shown) → (is_as_shown w (option_map seen (get t s)) ≡ true) ⊎ (is_as_shown w (option_map seen (get t s)) ≡ false) → ((Shows (get t s) w → ⊥) → ⊥) → Shows (get t s) w
    by_shown s w (inl shown) known = (shown_decides (get t s) w).0 shown
    by_shown s w (inr other) known = absurd (known (λ shows. both_ways _ other ((shown_decides (get t s) w).1 shows)))

-- ---- lines that can't stand together

staged_decides : (o : Option Names) → Decides (is_staged_at o) (IsStagedAt o)
staged_decides None = (λ e. absurd (false≢true e), λ h. absurd (none-some h.0 h.1))
staged_decides (Some p) = (λ e. (p, refl, e), λ h. subst (λ (q : Names). IsTrue (is_below staging q)) (sym (same_Some p h.0 h.1)) h.2)

pub unreserved_row : (r : Row) → (reserved r ≡ None) ↔ ((IsStagedAt r.source ⊎ IsStagedAt r.to) → ⊥)
unreserved_row r = if_none (is_staged_at r.source || is_staged_at r.to) (Reserved r.line) (Decides-or _ _ (staged_decides r.source) (staged_decides r.to))

pub to_one_row : (rs : List Row) (r : Row) → (two_to_one rs r ≡ None) ↔ ((o : Row) → Contains rs o → written r ≡ written o → r.line ≡ o.line)
to_one_row rs r = (
  λ e o listed same. elim (cases_eq o.line r.line) [
    | inl line ↦ sym line
    | inr other ↦ absurd (rule.0 e o listed (other, same))
  ],
  λ one. rule.1 (λ o listed h. h.0 (sym (one o listed h.1))),
)
  where
    rule : (two_to_one rs r ≡ None) ↔ ((o : Row) → Contains rs o → ((o.line ≡ r.line) → ⊥) × (written r ≡ written o) → ⊥)
    rule = no_clash (TwoToOne r.line) (λ (o : Row). not (o.line == r.line) && is_same_path (written r) (written o)) rs
        (λ o. Decides-and _ _ (Decides-not _ (Decides-eqb o.line r.line)) (path_decides (written r) (written o)))

abbrev AreSame : Option ℕ → Option ℕ → Type 0
AreSame a b = (n : ℕ) × (a ≡ Some n) × (b ≡ Some n)

same_decides : (a b : Option ℕ) → Decides (are_same a b) (AreSame a b)
same_decides None b = (λ e. absurd (false≢true e), λ h. absurd (none-some h.0 h.1))
same_decides (Some m) None = (λ e. absurd (false≢true e), λ h. absurd (none-some h.0 h.2))
same_decides (Some m) (Some n) = (
  λ e. (m, refl, ap (λ (k : ℕ). Some k) (sym ((Decides-eqb m n).0 e))),
  λ h. (Decides-eqb m n).1 (same_Some m h.0 h.1 ∙ sym (same_Some n h.0 h.2)),
)

abbrev Differ : Option ℕ → Option ℕ → Type 0
Differ a b = (m : ℕ) × (k : ℕ) × (a ≡ Some m) × (b ≡ Some k) × (m ≡ k → ⊥)

differ_decides : (a b : Option ℕ) → Decides (differ a b) (Differ a b)
differ_decides None b = (λ e. absurd (false≢true e), λ h. absurd (none-some h.0 h.2))
differ_decides (Some m) None = (λ e. absurd (false≢true e), λ h. absurd (none-some h.1 h.3))
differ_decides (Some m) (Some n) =
    let d = Decides-not (m == n) (Decides-eqb m n) in (
      λ e. (m, n, refl, refl, d.0 e),
      λ h. d.1 (λ same. h.4 (sym (same_Some m h.0 h.2) ∙ same ∙ same_Some n h.1 h.3)),
    )

pub modes_row : (t : FileTree) (rs : List Row) (r : Row)
    → (mode_clash (sight_of t) rs r ≡ None) ↔ ((o : Row) (number m k : ℕ) → Contains rs o → HasNumber t r number → HasNumber t o number → r.mode ≡ Some m → o.mode ≡ Some k → m ≡ k)
modes_row t rs r = (
  λ e o number m k listed at_r at_o mode_r mode_o. elim (cases_eq m k) [
    | inl same ↦ same
    | inr other ↦ absurd (rule.0 e o listed ((number, (number_at_source t r.source number).1 at_r, (number_at_source t o.source number).1 at_o), (m, k, mode_r, mode_o, other)))
  ],
  λ one. rule.1 (λ o listed h. h.1.4 (one o h.0.0 h.1.0 h.1.1 listed ((number_at_source t r.source h.0.0).0 h.0.1) ((number_at_source t o.source h.0.0).0 h.0.2) h.1.2 h.1.3)),
)
  where
    rule : (mode_clash (sight_of t) rs r ≡ None) ↔ ((o : Row) → Contains rs o → AreSame (number_at (sight_of t) r.source) (number_at (sight_of t) o.source) × Differ r.mode o.mode → ⊥)
    rule = no_clash (ModeClash r.line) (λ (o : Row). are_same (number_at (sight_of t) r.source) (number_at (sight_of t) o.source) && differ r.mode o.mode) rs
        (λ o. Decides-and _ _ (same_decides (number_at (sight_of t) r.source) (number_at (sight_of t) o.source)) (differ_decides r.mode o.mode))

-- ---- what stands above a written path

pub directories_row : (t : FileTree) (r : Row) → (parent_not_directory (sight_of t) r ≡ None) ↔ ((u : Names) → IsAbove u (written r) → Stands t u → IsDir t u)
directories_row t r = (
  λ e u above stands. true_from_ne_false (is_dir_node (get t u)) (λ no. both_ways _ (rule.0 e u ((ancestors_above (written r) u).1 above)) ((other_decides (get t u)).1 (stands, λ dir. both_ways _ no dir))),
  λ dirs. rule.1 (λ u listed. false_from_ne_true _ (λ other. let h = (other_decides (get t u)).0 other in h.1 (dirs u ((ancestors_above (written r) u).0 listed) h.0))),
)
  where
    rule : (parent_not_directory (sight_of t) r ≡ None) ↔ ((u : Names) → Contains (ancestors (written r)) u → is_other ((sight_of t).at u) ≡ false)
    rule = (
      λ e. (find_none (λ (p : Names). is_other ((sight_of t).at p)) (ancestors (written r))).0 ((map_none (ParentNotDirectory r.line) (find (λ (p : Names). is_other ((sight_of t).at p)) (ancestors (written r)))).0 e),
      λ all. (map_none (ParentNotDirectory r.line) (find (λ (p : Names). is_other ((sight_of t).at p)) (ancestors (written r)))).1 ((find_none (λ (p : Names). is_other ((sight_of t).at p)) (ancestors (written r))).1 all),
    )

abbrev MovesAbove : Names → Option Names → Option Names → Type 0
MovesAbove w source to = (s : Names) × (source ≡ Some s) × IsTrue (is_some to) × IsAbove s w

mover_decides : (w : Names) (source to : Option Names) → Decides (is_mover_above w source to) (MovesAbove w source to)
mover_decides w None to = (λ e. absurd (false≢true e), λ h. absurd (none-some h.0 h.1))
mover_decides w (Some s) None = (λ e. absurd (false≢true e), λ h. absurd (false≢true h.2))
mover_decides w (Some s) (Some to) = (λ e. (s, refl, refl, (above_decides s w).0 e), λ h. (above_decides s w).1 (subst (λ (p : Names). IsAbove p w) (sym (same_Some s h.0 h.1)) h.3))

pub unmoved_row : (rs : List Row) (r : Row) → (moved_parent rs r ≡ None) ↔ ((o : Row) (s : Names) → Contains rs o → IsMover o s → IsAbove s (written r) → ⊥)
unmoved_row rs r = (
  λ e o s listed mover above. rule.0 e o listed (s, mover.0, mover.1, above),
  λ none. rule.1 (λ o listed h. none o h.0 listed (h.1, h.2) h.3),
)
  where
    rule : (moved_parent rs r ≡ None) ↔ ((o : Row) → Contains rs o → MovesAbove (written r) o.source o.to → ⊥)
    rule = no_clash (MovedParent r.line) (λ (o : Row). is_mover_above (written r) o.source o.to) rs (λ o. mover_decides (written r) o.source o.to)

pub untaken_row : (t : FileTree) (rs : List Row) (r : Row) → (parent_taken (sight_of t) rs r ≡ None) ↔ ((o : Row) → Contains rs o → IsAbove (written o) (written r) → Stands t (written o))
untaken_row t rs r = (
  λ e o listed above. true_from_ne_false (is_some (get t (written o))) (λ no. rule.0 e o listed (above, λ stands. both_ways _ no stands)),
  λ all. rule.1 (λ o listed h. h.1 (all o listed h.0)),
)
  where
    rule : (parent_taken (sight_of t) rs r ≡ None) ↔ ((o : Row) → Contains rs o → IsAbove (written o) (written r) × (Stands t (written o) → ⊥) → ⊥)
    rule = no_clash (ParentTaken r.line) (λ (o : Row). is_above (written o) (written r) && not (is_some ((sight_of t).at (written o)))) rs
        (λ o. Decides-and _ _ (above_decides (written o) (written r)) (Decides-not _ (stands_decides t (written o))))

abbrev IsTooLong : List Row → Option Names → Type 0
IsTooLong rs source = (s : Names) × (source ≡ Some s) × (max_path_bytes < path_bytes (place (route_of rs) s))

long_decides : (rs : List Row) (source : Option Names) → Decides (is_too_long_at rs source) (IsTooLong rs source)
long_decides rs None = (λ e. absurd (false≢true e), λ h. absurd (none-some h.0 h.1))
long_decides rs (Some s) =
    let d = Decides-ltb max_path_bytes (path_bytes (place (route_of rs) s)) in (
      λ e. (s, refl, d.0 e),
      λ h. d.1 (subst (λ (p : Names). max_path_bytes < path_bytes (place (route_of rs) p)) (sym (same_Some s h.0 h.1)) h.2),
    )

pub short_row : (rs : List Row) (r : Row) → (path_too_long rs r ≡ None) ↔ ((s : Names) → r.source ≡ Some s → path_bytes (place (route_of rs) s) ≤ max_path_bytes)
short_row rs r = (
  λ e s source. at_most (path_bytes (place (route_of rs) s)) (λ long. rule.0 e (s, source, long)),
  λ short. rule.1 (λ h. let low = short h.0 h.1 in let high = h.2 in omega arith),
)
  where
    rule : (path_too_long rs r ≡ None) ↔ (IsTooLong rs r.source → ⊥)
    rule = if_none (is_too_long_at rs r.source) (PathTooLong r.line) (long_decides rs r.source)

    at_most : (n : ℕ) → (max_path_bytes < n → ⊥) → n ≤ max_path_bytes
    at_most n unlike = elim (cases_lt max_path_bytes n) [
      | inl long ↦ absurd (unlike long)
      | inr short ↦ short
    ]
