-- Paths that are looked at from the root down, and what looks say of a tree.
use Rattle.std.proofs.Common.{◌≡◌, ◌⊎◌, inl, inr, ◌↔◌, ℕ, ◌<◌, ◌≤◌, ◌+◌, nat_lt, Bool, true, false, ◌||◌, List, [], ◌∷◌, ◌++◌, length, take, drop, refl, sym, ◌∙◌, ap, subst, arith, Option, Some, None, is_some, IsTrue, option_map, length-append}
use Rattle.std.specs.BTreeMap.{BTreeMap, get}
use Rattle.std.specs.FinMap.{get as get_in}
use Rattle.std.specs.Option.{unwrap_or}
use Rattle.std.proofs.lemmas.Bool.{false≢true}
use Rattle.std.proofs.lemmas.List.{append_assoc, length-take-le, take-append-drop}
use Rattle.std.proofs.lemmas.Option.{none-some, same_Some}
use Rattle.dired_text.specs.Paths.{Names, path_cmp, parent}
use Rattle.dired_text.proofs.PathLemmas.{parent-push}
use Rattle.tree_core.specs.declared.node.Node.{Node}
use Rattle.tree_core.specs.declared.node.Node.TheVariants.{Dir, Link, File}
use Rattle.tree_core.specs.declared.node.Kind.{Kind}
use Rattle.tree_core.specs.declared.node.Kind.TheVariants as kind
use Rattle.tree_core.specs.declared.meta.Meta.{Meta}
use Rattle.tree_core.specs.FileTree.{FileTree, IsEmptyAt, IsMode, IsTree, kind_of}
use Rattle.tree_core.specs.Fields.{AreFields, IsMeta, IsOfKind, Shows}
use Rattle.edit_words.specs.declared.seen.Seen.{Seen}
use Rattle.edit_words.specs.declared.findings.Findings.{Findings}
use Rattle.edit_words.specs.Place.{IsAbove}
use Rattle.edit_words.specs.Sight.{seen, sight_of, is_dir}
use Rattle.edit_words.specs.Found.{HasLawfulMode, sight_in, HasFindings, HasGrown, HasOneMore, IsClosed, IsLookedAt, IsSeen}
use Rattle.edit_looks.specs.Looks.{seen_by}
use Rattle.edit_words.proofs.FindingsLemmas.{dir_stays, seen_below, seen_looked, some_is}
use Rattle.edit_words.proofs.RefusalLemmas.{dir_decides}
use Rattle.edit_words.proofs.WellFormedLemmas.{empty_decides}

-- ---- the parent

-- a path that isn't the root, as its parent and its name
last_name : (p : Names) → 0 < length p → (front : Names) × (last : List ℕ) × (p ≡ front ++ last ∷ [])
last_name [] some = absurd (omega (arith, some))
last_name (x ∷ []) some = ([], x, refl)
last_name (x ∷ y ∷ p) some =
    let long : 0 < length (y ∷ p) = omega arith in
    let l = last_name (y ∷ p) long in
    (x ∷ l.0, l.1, ap (λ (q : Names). x ∷ q) l.2)

-- a path above another is above that one's parent, or is it
above_last : (u front : Names) (last : List ℕ) (name : List ℕ) (rest : Names) → front ++ last ∷ [] ≡ u ++ name ∷ rest → (u ≡ front) ⊎ IsAbove u front
above_last [] [] last name rest e = inl refl
above_last [] (x ∷ front) last name rest e = inr (x, front, refl)
above_last (y ∷ u) [] last name rest e =
    let long : length (last ∷ []) ≡ length ((y ∷ u) ++ name ∷ rest) = ap length e in
    let counted : length (u ++ name ∷ rest) ≡ length u + length (name ∷ rest) = length-append u (name ∷ rest) in
    absurd (omega (arith, long, counted))
above_last (y ∷ u) (x ∷ front) last name rest e =
    let heads : x ≡ y = cc in
    let tails : front ++ last ∷ [] ≡ u ++ name ∷ rest = cc in
    elim (above_last u front last name rest tails) [
      | inl same ↦ inl cc
      | inr over ↦ inr (over.0, over.1, let is : front ≡ u ++ over.0 ∷ over.1 = over.2 in cc)
    ]

above_cases : (p u : Names) → 0 < length p → IsAbove u p → (u ≡ parent p) ⊎ IsAbove u (parent p)
above_cases p u some over =
    let l = last_name p some in
    let front : parent p ≡ l.0 = ap parent l.2 ∙ parent-push l.0 l.1 in
    elim (above_last u l.0 l.1 over.0 over.1 (sym l.2 ∙ over.2)) [
      | inl same ↦ inl (same ∙ sym front)
      | inr more ↦ inr (subst (IsAbove u) (sym front) more)
    ]

-- ---- from the root down

-- two paths that begin another one
prefix_cases : (a b r s : Names) → a ++ r ≡ b ++ s → IsAbove a b ⊎ ((a ≡ b) ⊎ IsAbove b a)
prefix_cases [] [] r s e = inr (inl refl)
prefix_cases [] (y ∷ b) r s e = inl (y, b, refl)
prefix_cases (x ∷ a) [] r s e = inr (inr (x, a, refl))
prefix_cases (x ∷ a) (y ∷ b) r s e =
    let heads : x ≡ y = cc in
    let tails : a ++ r ≡ b ++ s = cc in
    elim (prefix_cases a b r s tails) [
      | inl over ↦ inl (over.0, over.1, let is : b ≡ a ++ over.0 ∷ over.1 = over.2 in cc)
      | inr more ↦ elim more [
        | inl same ↦ inr (inl cc)
        | inr under ↦ inr (inr (under.0, under.1, let is : a ≡ b ++ under.0 ∷ under.1 = under.2 in cc))
      ]
    ]

above_shorter : (u p : Names) → IsAbove u p → length u < length p
above_shorter u p above =
    let counted : length p ≡ length u + length (above.0 ∷ above.1) = ap length above.2 ∙ length-append u (above.0 ∷ above.1) in
    omega (arith, counted)

-- a directory that was found is known
pub dir_seen : (f : Findings) (p : Names) → is_dir ((sight_in f).at p) ≡ true → IsSeen f p
dir_seen f p is = by_found (get path_cmp f.found p) refl
  where
    by_found : (o : Option (Option Seen)) → get path_cmp f.found p ≡ o → IsSeen f p
    by_found None e = absurd (false≢true (sym (ap (λ (o : Option (Option Seen)). is_dir (unwrap_or o None)) e) ∙ is))
    by_found (Some found) e = seen_looked f p found e

-- and so are directories above what was found to stand
pub dirs_over : (f : Findings) (p u : Names) → IsClosed f → IsTrue (is_some ((sight_in f).at p)) → IsAbove u p → is_dir ((sight_in f).at u) ≡ true
dirs_over f p u closed is above = by_found (get path_cmp f.found p) refl
  where
    by_found : (o : Option (Option Seen)) → get path_cmp f.found p ≡ o → is_dir ((sight_in f).at u) ≡ true
    by_found None e = absurd (false≢true (sym (ap (λ (o : Option (Option Seen)). is_some (unwrap_or o None)) e) ∙ is))
    by_found (Some None) e = absurd (false≢true (sym (ap (λ (o : Option (Option Seen)). is_some (unwrap_or o None)) e) ∙ is))
    by_found (Some (Some s)) e = closed.above p u (Some s) e refl above

pub stands_seen : (f : Findings) (p : Names) → IsTrue (is_some ((sight_in f).at p)) → IsSeen f p
stands_seen f p is = by_found (get path_cmp f.found p) refl
  where
    by_found : (o : Option (Option Seen)) → get path_cmp f.found p ≡ o → IsSeen f p
    by_found None e = absurd (false≢true (sym (ap (λ (o : Option (Option Seen)). is_some (unwrap_or o None)) e) ∙ is))
    by_found (Some found) e = seen_looked f p found e

dir_is_some : (o : Option Seen) → is_dir o ≡ true → IsTrue (is_some o)
dir_is_some None e = absurd (false≢true e)
dir_is_some (Some s) e = refl

-- above a path in a directory that was found
pub dirs_in : (f : Findings) (p dir u : Names) → IsClosed f → 0 < length p → dir ≡ parent p → is_dir ((sight_in f).at dir) ≡ true → IsAbove u p → is_dir ((sight_in f).at u) ≡ true
dirs_in f p dir u closed some is found above = elim (above_cases p u some above) [
  | inl same ↦ ap (λ (q : Names). is_dir ((sight_in f).at q)) (same ∙ sym is) ∙ found
  | inr over ↦ dirs_over f dir u closed (dir_is_some ((sight_in f).at dir) found) (subst (IsAbove u) (sym is) over)
]

-- the paths of fewer names than this, of which a path begins with each, are directories
abbrev pub AreDirsTo : Findings → Names → ℕ → Type 0
AreDirsTo f path len = (u rest : Names) → path ≡ u ++ rest → length u < len → is_dir ((sight_in f).at u) ≡ true

whole : (path at : Names) (len : ℕ) → at ≡ take len path → at ++ drop len path ≡ path
whole path at len is = ap (λ (q : Names). q ++ drop len path) is ∙ take-append-drop len path

pub dirs_above : (f : Findings) (path at : Names) (len : ℕ) → AreDirsTo f path len → at ≡ take len path → len ≤ length path → (u : Names) → IsAbove u at → is_dir ((sight_in f).at u) ≡ true
dirs_above f path at len dirs is within u above =
    let long : length at ≡ len = ap length is ∙ length-take-le len path within in
    let shorter : length u < length at = above_shorter u at above in
    dirs u ((above.0 ∷ above.1) ++ drop len path) (sym (whole path at len is) ∙ ap (λ (q : Names). q ++ drop len path) above.2 ∙ append_assoc u (above.0 ∷ above.1) (drop len path)) (omega (arith, long, shorter))

pub dirs_next : {f g : Findings} (path at : Names) (len : ℕ) → AreDirsTo f path len → HasGrown f g → at ≡ take len path → len ≤ length path → is_dir ((sight_in g).at at) ≡ true → AreDirsTo g path (len + 1)
dirs_next {f} {g} path at len dirs grown is within here u rest begins below =
    let long : length at ≡ len = ap length is ∙ length-take-le len path within in
    elim (prefix_cases at u (drop len path) rest (whole path at len is ∙ begins)) [
      | inl over ↦ let longer : length at < length u = above_shorter at u over in absurd (omega (arith, long, longer, below))
      | inr more ↦ elim more [
        | inl same ↦ ap (λ (q : Names). is_dir ((sight_in g).at q)) (sym same) ∙ here
        | inr under ↦ let shorter : length u < length at = above_shorter u at under in dir_stays u grown (dirs u rest begins (omega (arith, long, shorter)))
      ]
    ]

-- where what was found last is no directory, what stands at each path that a path begins with is known
pub seen_cut : (g : Findings) (path at : Names) (len : ℕ) → AreDirsTo g path len → at ≡ take len path → len ≤ length path → IsLookedAt g at → is_dir ((sight_in g).at at) ≡ false
    → (q rest : Names) → path ≡ q ++ rest → IsSeen g q
seen_cut g path at len dirs is within looked other q rest begins =
    let long : length at ≡ len = ap length is ∙ length-take-le len path within in
    let found = some_is (get path_cmp g.found at) looked in
    let no_dir : is_dir found.0 ≡ false = sym (ap (λ (o : Option (Option Seen)). is_dir (unwrap_or o None)) found.1) ∙ other in
    elim (prefix_cases at q (drop len path) rest (whole path at len is ∙ begins)) [
      | inl over ↦ seen_below g q at found.0 over found.1 no_dir
      | inr more ↦ elim more [
        | inl same ↦ subst (IsSeen g) same (seen_looked g at found.0 found.1)
        | inr under ↦ let shorter : length q < length at = above_shorter q at under in dir_seen g q (dirs q rest begins (omega (arith, long, shorter)))
      ]
    ]

-- and where all were directories
pub seen_all : (g : Findings) (path : Names) (len : ℕ) → AreDirsTo g path len → length path < len → (q rest : Names) → path ≡ q ++ rest → IsSeen g q
seen_all g path len dirs over q rest begins =
    let counted : length path ≡ length q + length rest = ap length begins ∙ length-append q rest in
    dir_seen g q (dirs q rest begins (omega (arith, counted, over)))

pub dirs_stay : {f g : Findings} (path : Names) (len : ℕ) → HasGrown f g → AreDirsTo f path len → AreDirsTo g path len
dirs_stay path len grown dirs u rest begins below = dir_stays u grown (dirs u rest begins below)

-- ---- the first finding

none_listed : (f : Findings) → ((p : Names) → get path_cmp f.found p ≡ None) → (q : Names) (x : Option Seen) → get path_cmp f.found q ≡ Some x → ⊥
none_listed f none q x e = none-some x (sym (none q) ∙ e)

pub alone_closed : {f g : Findings} (p : Names) → length p ≡ 1 → ((q : Names) → get path_cmp f.found q ≡ None) → HasOneMore p None f g → IsClosed g
alone_closed {f} {g} p one none more = record {
  can = record {
    root = λ x e. elim (more.found [] x e) [
      | inl new ↦ let counted : 0 ≡ length p = ap (λ (l : Names). length l) new.0 in absurd (omega (arith, counted, one))
      | inr old ↦ absurd (none_listed f none [] x old)
    ];
    modes = λ q x e. elim (more.found q x e) [
      | inl new ↦ subst HasLawfulMode (sym new.1) (λ mode no. absurd (none-some mode no))
      | inr old ↦ absurd (none_listed f none q x old)
    ];
  };
  above = λ q u x e long over. elim (more.found q x e) [
    | inl new ↦
        let no : (false || nat_lt 1 1) ≡ true = subst (λ (k : ℕ). (false || nat_lt 1 k) ≡ true) (ap length new.0 ∙ one) (subst (λ (y : Option Seen). IsTrue (is_some y || nat_lt 1 (length q))) new.1 long) in
        absurd (false≢true no)
    | inr old ↦ absurd (none_listed f none q x old)
  ];
}

pub closed_same : {f g : Findings} → g.found ≡ f.found → IsClosed f → IsClosed g
closed_same {f} {g} same closed = record {
  can = record {
    root = λ x e. closed.can.root x (sym (ap (λ (m : BTreeMap Names (Option Seen)). get path_cmp m []) same) ∙ e);
    modes = λ p x e. closed.can.modes p x (sym (ap (λ (m : BTreeMap Names (Option Seen)). get path_cmp m p) same) ∙ e);
  };
  above = λ p u x e long over. ap (λ (m : BTreeMap Names (Option Seen)). is_dir (unwrap_or (get path_cmp m u) None)) same
      ∙ closed.above p u x (sym (ap (λ (m : BTreeMap Names (Option Seen)). get path_cmp m p) same) ∙ e) long over;
}

-- ---- fields

seen_node : (node : Node) (meta : Meta) → Shows node meta → seen_by meta.kind meta ≡ seen node
seen_node (Dir mode) meta shows = let k = shows.kind in let m = shows.mode in rw (k, m) refl
seen_node (Link target) meta shows = let k = shows.kind in let m = shows.target in rw (k, m) refl
seen_node (File number bytes mode) meta shows = let k = shows.kind in let m = shows.mode in let n : meta.number ≡ number = shows.number in rw (k, m, n) refl

-- what the fields at a path show stands there
pub seen_shown : {t : FileTree} {fields : Names → Meta} (p : Names) (meta : Meta) (kind : Kind) → AreFields t fields → Some kind ≡ option_map kind_of (get_in t p) → meta ≡ fields p → Some (seen_by meta.kind meta) ≡ option_map seen (get_in t p)
seen_shown {t} {fields} p meta kind are is told = by_node (get_in t p) refl is
  where
    by_node : (o : Option Node) → get_in t p ≡ o → Some kind ≡ option_map kind_of o → Some (seen_by meta.kind meta) ≡ option_map seen o
    by_node None at none = absurd (none-some kind (sym none))
    by_node (Some node) at some = ap (λ (s : Seen). Some s) (seen_node node meta (subst (Shows node) (sym told) (are.shows p node at)))

-- lawful fields show a lawful mode
pub lawful_shown : (meta : Meta) → IsMeta meta → HasLawfulMode (Some (seen_by meta.kind meta))
lawful_shown meta is = by_kind meta.kind is.shape
  where
    by_kind : (k : Kind) → IsOfKind k meta.mode meta.target → HasLawfulMode (Some (seen_by k meta))
    by_kind kind.File shape mode e = subst IsMode (same_Some meta.mode mode e) shape.0
    by_kind kind.Dir shape mode e = subst IsMode (same_Some meta.mode mode e) shape.0
    by_kind kind.Link shape mode e = absurd (none-some mode e)

-- and they are of its kind
pub kind_shown : {t : FileTree} {fields : Names → Meta} (p : Names) (meta : Meta) (kind : Kind) → AreFields t fields → Some kind ≡ option_map kind_of (get_in t p) → meta ≡ fields p → meta.kind ≡ kind
kind_shown {t} {fields} p meta kind are is told = by_node (get_in t p) refl is
  where
    by_node : (o : Option Node) → get_in t p ≡ o → Some kind ≡ option_map kind_of o → meta.kind ≡ kind
    by_node None at none = absurd (none-some kind (sym none))
    by_node (Some node) at some = ap (λ (m : Meta). m.kind) told ∙ (are.shows p node at).kind ∙ sym (same_Some kind (kind_of node) some)

-- where there is no kind nothing is seen
pub none_shown : (o : Option Node) → None ≡ option_map kind_of o → option_map seen o ≡ None
none_shown None e = refl
none_shown (Some node) e = absurd (none-some (kind_of node) e)

-- a directory stands at the root of a tree
pub root_shown : (t : FileTree) → IsTree t → is_dir (option_map seen (get_in t [])) ≡ true
root_shown t tree = (dir_decides t []).1 tree.root

-- ---- whether directories are empty

-- at most this one is new
abbrev pub HasOneEmpty : Names → Bool → Findings → Findings → Type 0
HasOneEmpty p b old new = (q : Names) (c : Bool) → get path_cmp new.empty q ≡ Some c → ((q ≡ p) × (c ≡ b)) ⊎ (get path_cmp old.empty q ≡ Some c)

same_answer : (b c : Bool) → IsTrue b ↔ IsTrue c → b ≡ c
same_answer true true same = refl
same_answer true false same = absurd (false≢true (same.0 refl))
same_answer false true same = absurd (false≢true (same.1 refl))
same_answer false false same = refl

pub told_empty : (t : FileTree) {f g : Findings} (p : Names) (b : Bool) → HasFindings f (sight_of t) → g.found ≡ f.found → HasOneEmpty p b f g → IsTrue b ↔ IsEmptyAt t p → HasFindings g (sight_of t)
told_empty t {f} {g} p b told same more is =
    let here : (sight_of t).is_empty p ≡ b = same_answer ((sight_of t).is_empty p) b (λ e. is.1 ((empty_decides t p).0 e), λ e. (empty_decides t p).1 (is.0 e)) in record {
      at = λ q x e. told.at q x (sym (ap (λ (m : BTreeMap Names (Option Seen)). get path_cmp m q) same) ∙ e);
      below = λ q u x above e. told.below q u x above (sym (ap (λ (m : BTreeMap Names (Option Seen)). get path_cmp m u) same) ∙ e);
      empty = λ q c e. elim (more q c e) [
        | inl new ↦ ap (sight_of t).is_empty new.0 ∙ here ∙ sym new.1
        | inr old ↦ told.empty q c old
      ];
    }
