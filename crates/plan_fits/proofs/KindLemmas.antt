-- The lines of the changes show the kinds of what is put aside.
use Rattle.std.proofs.Common.{◌≡◌, ◌⊎◌, inl, inr, Bool, true, false, cond, List, [], ◌∷◌, ◌++◌, map, refl, sym, ◌∙◌, ap, subst, Option, Some, None, is_some}
use Rattle.std.specs.Prelude.{Contains}
use Rattle.std.specs.FinMap.{get}
use Rattle.std.specs.List.{flat_map}
use Rattle.std.proofs.lemmas.Bool.{cases_Bool, cond-true, cond-false}
use Rattle.std.proofs.lemmas.Option.{none-some}
use Rattle.std.proofs.lemmas.List.Elements.{Contains-append_cases}
use Rattle.dired_text.specs.Paths.{Names}
use Rattle.tree_core.specs.declared.node.Node.{Node}
use Rattle.tree_core.specs.declared.node.Node.TheVariants.{Dir, Link, File}
use Rattle.tree_core.specs.declared.edit.Shown.{Shown}
use Rattle.tree_core.specs.declared.changes.Changes.{Changes}
use Rattle.tree_core.specs.declared.changes.Changes.TheVariants.{Edits, Removals, Creations}
use Rattle.tree_core.specs.FileTree.{FileTree, IsDir, Stands, is_dir_node}
use Rattle.edit_words.specs.declared.row.Row.{Row}
use Rattle.edit_words.specs.Refusals.{victim_of}
use Rattle.edit_words.specs.Rows.{rows, edit_row, removal_row, creation_row}
use Rattle.edit_words.specs.Sight.{Sight, sight_of}
use Rattle.edit_words.specs.WellFormed.{ShowsNode}
use Rattle.edit_laws.proofs.ListLemmas.{contains_none, contains_cases, flat_parts, map_parts}
use Rattle.plan_fits.specs.HeldKinds.{held_kinds, is_dir_kind, kinds_by, shows_dir, with_kind}
use Rattle.plan_laws.proofs.Held.{replaced}
use Rattle.plan_laws.proofs.Setting.{ArePlannedRows}
use Rattle.plan_moves.specs.Plan.{held_by, held_paths, is_given_up, listed}

-- ---- the paths alone

abbrev path_of : Names × Bool → Names
path_of x = x.0

map-append : {X Y : Type 0} (f : X → Y) (xs ys : List X) → map f (xs ++ ys) ≡ map f xs ++ map f ys
map-append f [] ys = refl
map-append f (x ∷ xs) ys = ap (λ (l : List _). f x ∷ l) (map-append f xs ys)

paths_with : (b : Bool) (ps : List Names) → map path_of (with_kind b ps) ≡ ps
paths_with b [] = refl
paths_with b (p ∷ ps) = ap (λ (l : List Names). p ∷ l) (paths_with b ps)

paths_if : (g b : Bool) (ps : List Names) → map path_of (cond g (with_kind b ps) []) ≡ cond g ps []
paths_if true b ps = paths_with b ps
paths_if false b ps = refl

paths_by : (sight : Sight) (rs : List Row) (r : Row) → map path_of (kinds_by sight rs r) ≡ held_by sight rs r
paths_by sight rs r =
    map-append path_of (with_kind false (listed (victim_of sight rs r))) (cond (is_given_up r) (with_kind (shows_dir r.was) (listed r.source)) [])
    ∙ ap (λ (l : List Names). l ++ map path_of (cond (is_given_up r) (with_kind (shows_dir r.was) (listed r.source)) [])) (paths_with false (listed (victim_of sight rs r)))
    ∙ ap (λ (l : List Names). listed (victim_of sight rs r) ++ l) (paths_if (is_given_up r) (shows_dir r.was) (listed r.source))

paths_in : (sight : Sight) (all rs : List Row) → map path_of (flat_map (kinds_by sight all) rs) ≡ flat_map (held_by sight all) rs
paths_in sight all [] = refl
paths_in sight all (r ∷ rs) =
    map-append path_of (kinds_by sight all r) (flat_map (kinds_by sight all) rs)
    ∙ ap (λ (l : List Names). l ++ map path_of (flat_map (kinds_by sight all) rs)) (paths_by sight all r)
    ∙ ap (λ (l : List Names). held_by sight all r ++ l) (paths_in sight all rs)

pub paths_are : (sight : Sight) (rs : List Row) → map path_of (held_kinds sight rs) ≡ held_paths sight rs
paths_are sight rs = paths_in sight rs rs

-- ---- the kinds

in_kind : (b : Bool) (ps : List Names) (x : Names × Bool) → Contains (with_kind b ps) x → Contains ps x.0 × (x.1 ≡ b)
in_kind b ps x c =
    let m = map_parts (λ (p : Names). (p, b)) ps x c in
    (subst (λ (q : Names). Contains ps q) (ap path_of m.2) m.1, sym (ap (λ (y : Names × Bool). y.1) m.2))

listed_is : (o : Option Names) (p : Names) → Contains (listed o) p → o ≡ Some p
listed_is None p c = absurd (contains_none p c)
listed_is (Some q) p c = elim (contains_cases q p [] c) [ inl same ↦ ap (λ (l : Names). Some l) same | inr none ↦ absurd (contains_none p none) ]

kind_shown : (was : Shown) (node : Node) → ShowsNode was node → is_dir_node (Some node) ≡ is_dir_kind was.kind
kind_shown was (Dir m) shows = sym (ap is_dir_kind shows.0)
kind_shown was (Link target) shows = sym (ap is_dir_kind shows.0)
kind_shown was (File n b m) shows = sym (ap is_dir_kind shows.0)

-- a line with a source shows something there
was_shown : (changes : Changes) (r : Row) (p : Names) → Contains (rows changes) r → r.source ≡ Some p → (was : Shown) × (r.was ≡ Some was)
was_shown (Edits edits) r p c source = let m = map_parts edit_row edits r c in (m.0.was, sym (ap (λ (x : Row). x.was) m.2))
was_shown (Removals removals) r p c source = let m = map_parts removal_row removals r c in (m.0.was, sym (ap (λ (x : Row). x.was) m.2))
was_shown (Creations creations) r p c source = let m = map_parts creation_row creations r c in absurd (none-some p (ap (λ (x : Row). x.source) m.2 ∙ source))

-- what stands at a path, of this kind
abbrev pub IsOfKind : FileTree → Names × Bool → Type 0
IsOfKind t x = (node : Node) × (get t x.0 ≡ Some node) × (is_dir_node (Some node) ≡ x.1)

module _ (t : FileTree) (changes : Changes) (set : ArePlannedRows t (rows changes)) where
  victim_kind : (r : Row) (x : Names × Bool) → Contains (rows changes) r → victim_of (sight_of t) (rows changes) r ≡ Some x.0 → x.1 ≡ false → IsOfKind t x
  victim_kind r x has is kind =
      let v = replaced t (rows changes) r x.0 is in
      by_node v.1 (λ dir. set.fine.replaceable r x.0 has v dir) (get t x.0) refl
    where
      no_dir : (b : Bool) → (b ≡ true → ⊥) → b ≡ false
      no_dir false never = refl
      no_dir true never = absurd (never refl)

      by_node : Stands t x.0 → (IsDir t x.0 → ⊥) → (o : Option Node) → get t x.0 ≡ o → IsOfKind t x
      by_node there never None e = let no_way : false ≡ true = sym (ap is_some e) ∙ there in absurd cc
      by_node there never (Some node) e = (node, e, no_dir (is_dir_node (Some node)) (λ dir. never (ap is_dir_node e ∙ dir)) ∙ sym kind)

  given_kind : (r : Row) (x : Names × Bool) → Contains (rows changes) r → r.source ≡ Some x.0 → x.1 ≡ shows_dir r.was → IsOfKind t x
  given_kind r x has source kind =
      let was = was_shown changes r x.0 has source in
      let n = set.fine.shown r has x.0 was.0 source was.1 in
      (n.0, n.1, kind_shown was.0 n.0 n.2 ∙ sym (kind ∙ ap shows_dir was.1))

  pub kinds_stand : (x : Names × Bool) → Contains (held_kinds (sight_of t) (rows changes)) x → IsOfKind t x
  kinds_stand x c =
      let r = flat_parts (kinds_by (sight_of t) (rows changes)) (rows changes) x c in
      elim (Contains-append_cases (with_kind false (listed (victim_of (sight_of t) (rows changes) r.0))) (cond (is_given_up r.0) (with_kind (shows_dir r.0.was) (listed r.0.source)) []) x r.2) [
        | inl first ↦ let k = in_kind false (listed (victim_of (sight_of t) (rows changes) r.0)) x first in victim_kind r.0 x r.1 (listed_is _ x.0 k.0) k.1
        | inr second ↦ by_given r.0 r.1 (cases_Bool (is_given_up r.0)) second
      ]
    where
      by_given : (r : Row) → Contains (rows changes) r → (is_given_up r ≡ true) ⊎ (is_given_up r ≡ false) → Contains (cond (is_given_up r) (with_kind (shows_dir r.was) (listed r.source)) []) x → IsOfKind t x
      by_given r has (inl is) c =
          let k = in_kind (shows_dir r.was) (listed r.source) x (subst (λ (l : List (Names × Bool)). Contains l x) (cond-true _ (with_kind (shows_dir r.was) (listed r.source)) [] is) c) in
          given_kind r x has (listed_is r.source x.0 k.0) k.1
      by_given r has (inr isnt) c = absurd (contains_none x (subst (λ (l : List (Names × Bool)). Contains l x) (cond-false _ (with_kind (shows_dir r.was) (listed r.source)) [] isnt) c))
