-- One path of a walk after another.
use Rattle.std.proofs.Common.{◌≡◌, ◌≢◌, ℕ, suc, ◌+◌, ◌-◌, ◌*◌, ◌^◌, ◌≤◌, ◌<◌, Bool, true, false, not, ◌&&◌, List, [], ◌∷◌, ◌++◌, map, flat_map, length, refl, sym, ◌∙◌, ap, subst, append_assoc, append-nil, length-append, arith, inl, inr, ℤ, Option, Some, None, is_some, get_or, nat_le}
use Rattle.std.proofs.Math.Nat.{pow-succ', pow-le-pow_right, one-le-pow, mul-le-mul_right, suc-mul}
use Rattle.std.proofs.lemmas.Bool.{le-leb, lt-leb}
use Rattle.std.proofs.lemmas.List.{map-append}
use Rattle.std.proofs.lemmas.List.Elements.{filter-append, recursion_from_All}
use Rattle.std.proofs.lemmas.List.Folds.{list_any_at}
use Rattle.std.proofs.lemmas.Grind.{flat_map-append}
use Rattle.std.proofs.lemmas.Slice.Eq.{bytes_eq-Decides}
use Rattle.std.specs.Str.{bytes_eq}
use Rattle.std.specs.declared.cmp.Ordering.TheVariants.{Less}
use Rattle.std.specs.List.{filter, AllByRecursion}
use Rattle.std.specs.List.Sorted.{IsStrictlySortedBy}
use Rattle.std.specs.Option.{option_map}
use Rattle.std.specs.FinMap.{get}
use Rattle.dired_text.specs.Paths.{Names, path_cmp, is_below, slashed, slash, path_bytes, max_path_bytes}
use Rattle.dired_text.proofs.PathLemmas.{path_cmp-total, slashed-push}
use Rattle.tree_core.specs.declared.meta.Meta.{Meta}
use Rattle.tree_core.specs.declared.node.Kind.{Kind}
use Rattle.tree_core.specs.declared.node.Kind.TheVariants as kind
use Rattle.tree_core.specs.declared.node.Node.{Node}
use Rattle.tree_core.specs.declared.node.Node.TheVariants.{Dir, Link, File}
use Rattle.tree_core.specs.FileTree.{FileTree, IsTree, Stands, kind_of, is_dir_node}
use Rattle.tree_core.specs.Fields.{AreFields, RiseStrictly, names_in}
use Rattle.tree_core.proofs.NameLemmas.{names_stand}
use Rattle.listing_text.specs.declared.line.Line.{Line}
use Rattle.find_words.specs.Expressions.{Expression, value_of}
use Rattle.find_listing.specs.Finds.{is_root, paths_of, last_name, is_found, line_of, lines_found, line_if, IsLineOf, AreLinesOf, AreFound}
use Rattle.find_listing.specs.Walks.{child, children, IsAdded, IsEntered}
use Rattle.find_listing.proofs.OrderLemmas.{Before, AreApart, front_less, children_apart, entered_apart, longer_below, all_append, all_by}
use Rattle.find_listing.proofs.KeyLemmas.{stood, keys, below, below_all_of, below_is, children_less, rises_append}

-- ---- that it ends

-- how many bytes a path is short of one that is too long
abbrev pub room : Names → ℕ
room p = max_path_bytes + 1 - path_bytes p

-- each path weighs more than all names that may stand in it
abbrev pub weight_by : ℕ → List Names → ℕ
weight_by base [] = 0
weight_by base (p ∷ ps) = base ^ room p + weight_by base ps

abbrev pub weight : List Names → ℕ
weight ps = weight_by (2 ^ 64) ps

weight_append : (base : ℕ) (ps qs : List Names) → weight_by base (ps ++ qs) ≡ weight_by base ps + weight_by base qs
weight_append base [] qs = omega arith
weight_append base (p ∷ ps) qs =
    let later : weight_by base (ps ++ qs) ≡ weight_by base ps + weight_by base qs = weight_append base ps qs in omega arith

child_bytes : (p : Names) (n : List ℕ) → p ≢ [] → path_bytes p < path_bytes (child p n)
child_bytes [] n some = absurd (some refl)
child_bytes (m ∷ p) n some =
    omega (arith, length-append m (slashed p), length-append m (slashed (p ++ n ∷ [])), ap length (slashed-push p n), length-append (slashed p) (slash ∷ n))

child_weight : (base k : ℕ) (p : Names) (n : List ℕ) → 0 < base → p ≢ [] → path_bytes p ≤ max_path_bytes → room p ≡ suc k → base ^ room (child p n) ≤ base ^ k
child_weight base k p n positive some short is =
    let more : path_bytes p < path_bytes (child p n) = child_bytes p n some in
    let least : room (child p n) ≤ k = omega arith in
    pow-le-pow_right positive least

children_weight : (base k : ℕ) (p : Names) (names : List (List ℕ)) → 0 < base → p ≢ [] → path_bytes p ≤ max_path_bytes → room p ≡ suc k
    → weight_by base (children p names) ≤ length names * base ^ k
children_weight base k p [] positive some short is = omega arith
children_weight base k p (n ∷ names) positive some short is =
    let own : base ^ room (child p n) ≤ base ^ k = child_weight base k p n positive some short is in
    let later : weight_by base (children p names) ≤ length names * base ^ k = children_weight base k p names positive some short is in
    let sum : suc (length names) * base ^ k ≡ length names * base ^ k + base ^ k = suc-mul (length names) (base ^ k) in
    omega arith

times_below : (a b x : ℕ) → a < b → 0 < x → a * x < b * x
times_below a b x less positive =
    let most : suc a * x ≤ b * x = mul-le-mul_right x less in
    let sum : suc a * x ≡ a * x + x = suc-mul a x in
    omega arith

entered_by : (base : ℕ) (p : Names) (names : List (List ℕ)) (rest : List Names) → 0 < base → p ≢ [] → path_bytes p ≤ max_path_bytes → length names < base
    → weight_by base (children p names ++ rest) < weight_by base (p ∷ rest)
entered_by base p names rest positive some short few =
    let k : ℕ = max_path_bytes - path_bytes p in
    let is : room p ≡ suc k = omega arith in
    let one : 1 ≤ base ^ k = one-le-pow k base positive in
    let most : weight_by base (children p names) ≤ length names * base ^ k = children_weight base k p names positive some short is in
    let less : length names * base ^ k < base * base ^ k = times_below (length names) base (base ^ k) few one in
    let own : base ^ room p ≡ base * base ^ k = ap (λ (n : ℕ). base ^ n) is ∙ pow-succ' base k in
    omega (arith, weight_append base (children p names) rest)

pub entered_less : (p : Names) (names : List (List ℕ)) (rest : List Names) → p ≢ [] → path_bytes p ≤ max_path_bytes → length names < 2 ^ 64
    → weight (children p names ++ rest) < weight (p ∷ rest)
entered_less p names rest some short few = entered_by (2 ^ 64) p names rest (omega arith) some short few

pub left_less : (p : Names) (rest : List Names) → weight rest < weight (p ∷ rest)
left_less p rest = let one : 1 ≤ (2 ^ 64) ^ room p = one-le-pow (room p) (2 ^ 64) (omega arith) in omega arith

-- ---- the lines

filter_none : (f : Names → Bool) (ps : List Names) → AllByRecursion (λ p. f p ≡ false) ps → filter f ps ≡ []
filter_none f [] all = refl
filter_none f (p ∷ ps) all = rw (all.0) (filter_none f ps all.1)

filter_each : (f : Names → Bool) (ps : List Names) → AllByRecursion (λ p. f p ≡ true) ps → filter f ps ≡ ps
filter_each f [] all = refl
filter_each f (p ∷ ps) all = rw (all.0) (ap (λ (qs : List Names). p ∷ qs) (filter_each f ps all.1))

below_root : (ks : List Names) → filter (is_below []) ks ≡ ks
below_root [] = refl
below_root (k ∷ ks) = ap (λ (qs : List Names). k ∷ qs) (below_root ks)

not_root : (p : Names) → path_cmp [] p ≡ Less → not (is_root p) ≡ true
not_root [] less = cc
not_root (n ∷ p) less = refl

-- all paths but the root are those below its names
pub paths_begin : (t : FileTree) → IsTree t → Stands t [] → paths_of t ≡ flat_map (below t) (children [] (names_in t []))
paths_begin t tree stands =
    let all : keys t ≡ [] ∷ flat_map (below t) (children [] (names_in t [])) = sym (below_root (keys t)) ∙ below_is t [] tree stands in
    ap (filter (λ p. not (is_root p))) all
    ∙ filter_each (λ p. not (is_root p)) (flat_map (below t) (children [] (names_in t [])))
    (all_by (λ y. path_cmp [] y ≡ Less) (λ y. not (is_root y) ≡ true) (flat_map (below t) (children [] (names_in t []))) not_root (children_less t [] (names_in t [])))

module _ (t : FileTree) (fields : Names → Meta) (now : ℤ) (e : Expression) where
  abbrev pub lines_in : List Names → List Line
  lines_in ps = map (λ p. line_of p (fields p)) (filter (is_found now fields e) ps)

  -- the lines of what stands at a path or below it
  abbrev pub lines_below : Names → List Line
  lines_below p = lines_in (below t p)

  lines_append : (ps qs : List Names) → lines_in (ps ++ qs) ≡ lines_in ps ++ lines_in qs
  lines_append ps qs =
      ap (map (λ p. line_of p (fields p))) (filter-append (is_found now fields e) ps qs)
      ∙ map-append (λ p. line_of p (fields p)) (filter (is_found now fields e) ps) (filter (is_found now fields e) qs)

  lines_flat : (ps : List Names) → lines_in (flat_map (below t) ps) ≡ flat_map lines_below ps
  lines_flat [] = refl
  lines_flat (p ∷ ps) = lines_append (below t p) (flat_map (below t) ps) ∙ ap (λ (ls : List Line). lines_below p ++ ls) (lines_flat ps)

  -- a path with the lines of others behind it
  own_line : (p : Names) (ps : List Names) → path_bytes p ≤ max_path_bytes → lines_in (p ∷ ps) ≡ line_if now e p (fields p) ++ lines_in ps
  own_line p ps short = go (value_of now (last_name p) (fields p) e) refl
    where
      fits : nat_le (path_bytes p) max_path_bytes ≡ true
      fits = le-leb (path_bytes p) max_path_bytes short

      go : (b : Bool) → value_of now (last_name p) (fields p) e ≡ b → lines_in (p ∷ ps) ≡ line_if now e p (fields p) ++ lines_in ps
      go true is = simp (fits, is)
      go false is = simp (fits, is)

  lines_unfold : (p : Names) → IsTree t → Stands t p → path_bytes p ≤ max_path_bytes
      → lines_below p ≡ line_if now e p (fields p) ++ flat_map lines_below (children p (names_in t p))
  lines_unfold p tree stands short =
      ap lines_in (below_is t p tree stands) ∙ own_line p (flat_map (below t) (children p (names_in t p))) short
      ∙ ap (λ (ls : List Line). line_if now e p (fields p) ++ ls) (lines_flat (children p (names_in t p)))

  -- what is too long has nothing to list
  pub lines_long : (p : Names) → max_path_bytes < path_bytes p → lines_below p ≡ []
  lines_long p long =
      ap (map (λ q. line_of q (fields q))) (filter_none (is_found now fields e) (below t p)
      (below_all_of (λ q. is_found now fields e q ≡ false) t p (λ r.
      let longer : path_bytes p ≤ path_bytes (p ++ r) = longer_below p r in
      ap (λ (b : Bool). b && value_of now (last_name (p ++ r)) (fields (p ++ r)) e) (lt-leb (path_bytes (p ++ r)) max_path_bytes (omega arith)))))

  -- all lines are those below the names of the root
  pub lines_begin : IsTree t → Stands t [] → lines_found t fields now e ≡ flat_map lines_below (children [] (names_in t []))
  lines_begin tree stands = ap lines_in (paths_begin t tree stands) ∙ lines_flat (children [] (names_in t []))

  -- one path more was visited
  pub lines_on : (p : Names) (whole old new : List Line) (before rest after : List Names)
      → IsTree t → Stands t p → path_bytes p ≤ max_path_bytes
      → whole ≡ old ++ flat_map lines_below before → before ≡ p ∷ rest
      → new ≡ old ++ line_if now e p (fields p) → after ≡ children p (names_in t p) ++ rest
      → whole ≡ new ++ flat_map lines_below after
  lines_on p whole old new before rest after tree stands short so_far is added entered =
      so_far ∙ ap (λ (ps : List Names). old ++ flat_map lines_below ps) is
      ∙ ap (λ (ls : List Line). old ++ (ls ++ flat_map lines_below rest)) (lines_unfold p tree stands short)
      ∙ ap (λ (ls : List Line). old ++ ls) (append_assoc (line_if now e p (fields p)) (flat_map lines_below (children p (names_in t p))) (flat_map lines_below rest))
      ∙ sym (append_assoc old (line_if now e p (fields p)) (flat_map lines_below (children p (names_in t p)) ++ flat_map lines_below rest))
      ∙ ap (λ (ls : List Line). (old ++ line_if now e p (fields p)) ++ ls) (sym (flat_map-append lines_below (children p (names_in t p)) rest))
      ∙ ap (λ (ls : List Line). ls ++ flat_map lines_below (children p (names_in t p) ++ rest)) (sym added)
      ∙ ap (λ (ps : List Names). new ++ flat_map lines_below ps) (sym entered)

  -- one that is too long was passed over
  pub lines_past : (p : Names) (whole old : List Line) (before rest : List Names) → max_path_bytes < path_bytes p
      → whole ≡ old ++ flat_map lines_below before → before ≡ p ∷ rest → whole ≡ old ++ flat_map lines_below rest
  lines_past p whole old before rest long so_far is =
      so_far ∙ ap (λ (ps : List Names). old ++ flat_map lines_below ps) is ∙ ap (λ (ls : List Line). old ++ (ls ++ flat_map lines_below rest)) (lines_long p long)

-- ---- what stands

name_stands : (t : FileTree) (p : Names) (k : ℕ) (d : List ℕ) → k < length (names_in t p) → Stands t (child p (get_or (names_in t p) k d))
name_stands t p k d within =
    let n = get_or (names_in t p) k d in
    sym (names_stand t p n) ∙ list_any_at (bytes_eq n) (names_in t p) k d within ((bytes_eq-Decides n n).1 refl)

children_are : (P : Names → Type 0) (p : Names) (names : List (List ℕ)) → AllByRecursion (λ n. P (child p n)) names → AllByRecursion P (children p names)
children_are P p [] all = tt
children_are P p (n ∷ names) all = (all.0, children_are P p names all.1)

-- something stands under each name
pub children_stand : (t : FileTree) (p : Names) → AllByRecursion (Stands t) (children p (names_in t p))
children_stand t p = children_are (Stands t) p (names_in t p) (recursion_from_All (λ n. Stands t (child p n)) (names_in t p) (λ k d within. name_stands t p k d within))

pub entered_stand : (t : FileTree) (p : Names) (rest : List Names) → AllByRecursion (Stands t) rest → AllByRecursion (Stands t) (children p (names_in t p) ++ rest)
entered_stand t p rest all = all_append (Stands t) (children p (names_in t p)) rest (children_stand t p) all

-- the kind that the fields show
pub kind_shown : (t : FileTree) (fields : Names → Meta) (p : Names) → AreFields t fields → Stands t p → option_map kind_of (get t p) ≡ Some (fields p).kind
kind_shown t fields p shown stands = go (get t p) refl
  where
    go : (o : Option Node) → get t p ≡ o → option_map kind_of (get t p) ≡ Some (fields p).kind
    go None is = let bad : false ≡ true = sym (ap is_some is) ∙ stands in cc
    go (Some node) is = rw is (ap Some (sym (shown.shows p node is).kind))

pub dir_by_kind : (o : Option Node) → option_map kind_of o ≡ Some kind.Dir → is_dir_node o ≡ true
dir_by_kind None is = cc
dir_by_kind (Some (Dir mode)) is = refl
dir_by_kind (Some (Link target)) is = cc
dir_by_kind (Some (File number bytes mode)) is = cc

pub other_by_kind : (o : Option Node) (k : Kind) → option_map kind_of o ≡ Some k → k ≢ kind.Dir → is_dir_node o ≡ false
other_by_kind None k is other = refl
other_by_kind (Some (Dir mode)) k is other = absurd (other (let same : kind.Dir ≡ k = cc in sym same))
other_by_kind (Some (Link target)) k is other = refl
other_by_kind (Some (File number bytes mode)) k is other = refl

-- ---- over every tree

-- lines that were found, of paths before all that are to be visited, which lie apart
pub record IsWalked (lines : List Line) (pending : List Names) : Type 0 where
  pub paths : List Names
  pub each : AreLinesOf paths lines
  pub rise : IsStrictlySortedBy path_cmp paths
  pub before : AllByRecursion (λ f. AllByRecursion (λ p. path_cmp f p ≡ Less) pending) paths
  pub apart : AreApart pending

pub walk_begins : (p : Names) (names : List (List ℕ)) → RiseStrictly names → IsWalked [] (children p names)
unfolding IsStrictlySortedBy
walk_begins p names rise = record { paths = []; each = tt; rise = tt; before = tt; apart = children_apart p names rise }

pub walk_ends : (lines : List Line) (pending : List Names) → IsWalked lines pending → AreFound lines
walk_ends lines pending walked = record { paths = walked.paths; each = walked.each; rise = walked.rise }

later_less : (p : Names) (rest paths : List Names) → AllByRecursion (λ f. AllByRecursion (λ q. path_cmp f q ≡ Less) (p ∷ rest)) paths
    → AllByRecursion (λ f. AllByRecursion (λ q. path_cmp f q ≡ Less) rest) paths
later_less p rest paths all = all_by (λ f. AllByRecursion (λ q. path_cmp f q ≡ Less) (p ∷ rest)) (λ f. AllByRecursion (λ q. path_cmp f q ≡ Less) rest) paths (λ f both. both.1) all

pub walk_past : (lines : List Line) (p : Names) (rest : List Names) → IsWalked lines (p ∷ rest) → IsWalked lines rest
walk_past lines p rest walked = record {
  paths = walked.paths;
  each = walked.each;
  rise = walked.rise;
  before = later_less p rest walked.paths walked.before;
  apart = walked.apart.1;
}

-- what is before p is before all that is written below it
child_later : (f p : Names) (names : List (List ℕ)) → path_cmp f p ≡ Less → AllByRecursion (λ q. path_cmp f q ≡ Less) (children p names)
child_later f p names less = children_are (λ q. path_cmp f q ≡ Less) p names (each names)
  where
    each : (ns : List (List ℕ)) → AllByRecursion (λ n. path_cmp f (child p n) ≡ Less) ns
    each [] = tt
    each (n ∷ ns) = (path_cmp-total.trans f p (child p n) less (front_less p n []), each ns)

child_own : (p : Names) (names : List (List ℕ)) → AllByRecursion (λ q. path_cmp p q ≡ Less) (children p names)
child_own p names = children_are (λ q. path_cmp p q ≡ Less) p names (each names)
  where
    each : (ns : List (List ℕ)) → AllByRecursion (λ n. path_cmp p (child p n) ≡ Less) ns
    each [] = tt
    each (n ∷ ns) = (front_less p n [], each ns)

found_before : (p : Names) (names : List (List ℕ)) (rest paths : List Names) → AllByRecursion (λ f. AllByRecursion (λ q. path_cmp f q ≡ Less) (p ∷ rest)) paths
    → AllByRecursion (λ f. AllByRecursion (λ q. path_cmp f q ≡ Less) (children p names ++ rest)) paths
found_before p names rest paths all =
    all_by (λ f. AllByRecursion (λ q. path_cmp f q ≡ Less) (p ∷ rest)) (λ f. AllByRecursion (λ q. path_cmp f q ≡ Less) (children p names ++ rest)) paths
    (λ f both. all_append (λ q. path_cmp f q ≡ Less) (children p names) rest (child_later f p names both.0) both.1) all

own_before : (p : Names) (names : List (List ℕ)) (rest : List Names) → AllByRecursion (Before p) rest → AllByRecursion (λ q. path_cmp p q ≡ Less) (children p names ++ rest)
own_before p names rest before =
    all_append (λ q. path_cmp p q ≡ Less) (children p names) rest (child_own p names) (all_by (Before p) (λ q. path_cmp p q ≡ Less) rest (λ q b. b.less) before)

lines_push : (paths : List Names) (lines : List Line) (p : Names) (line : Line) → AreLinesOf paths lines → IsLineOf p line → AreLinesOf (paths ++ p ∷ []) (lines ++ line ∷ [])
lines_push [] [] p line all one = (one, tt)
lines_push [] (l ∷ lines) p line all one = absurd all
lines_push (q ∷ paths) [] p line all one = absurd all
lines_push (q ∷ paths) (l ∷ lines) p line all one = (all.0, lines_push paths lines p line all.1 one)

rises_push : (paths : List Names) (p : Names) (rest : List Names) → IsStrictlySortedBy path_cmp paths → AllByRecursion (λ f. AllByRecursion (λ q. path_cmp f q ≡ Less) (p ∷ rest)) paths
    → IsStrictlySortedBy path_cmp (paths ++ p ∷ [])
unfolding IsStrictlySortedBy
rises_push paths p rest rise before =
    rises_append paths (p ∷ []) rise (tt, tt)
    (all_by (λ f. AllByRecursion (λ q. path_cmp f q ≡ Less) (p ∷ rest)) (λ f. AllByRecursion (λ q. path_cmp f q ≡ Less) (p ∷ [])) paths (λ f both. (both.0, tt)) before)

walk_to : (p : Names) (names : List (List ℕ)) (rest : List Names) (old new : List Line) → IsWalked old (p ∷ rest) → RiseStrictly names → IsAdded p old new → IsWalked new (children p names ++ rest)
walk_to p names rest old new walked rise (inl none) = subst (λ (ls : List Line). IsWalked ls (children p names ++ rest)) (sym none) record {
  paths = walked.paths;
  each = walked.each;
  rise = walked.rise;
  before = found_before p names rest walked.paths walked.before;
  apart = entered_apart p names rest rise walked.apart;
}
walk_to p names rest old new walked rise (inr one) = subst (λ (ls : List Line). IsWalked ls (children p names ++ rest)) (sym one.2) record {
  paths = walked.paths ++ p ∷ [];
  each = lines_push walked.paths old p one.0 walked.each one.1;
  rise = rises_push walked.paths p rest walked.rise walked.before;
  before = all_append (λ f. AllByRecursion (λ q. path_cmp f q ≡ Less) (children p names ++ rest)) walked.paths (p ∷ [])
      (found_before p names rest walked.paths walked.before) (own_before p names rest walked.apart.0, tt);
  apart = entered_apart p names rest rise walked.apart;
}

-- one path more was visited
pub walk_on : (p : Names) (rest : List Names) (old new : List Line) (after : List Names) → IsWalked old (p ∷ rest) → IsAdded p old new → IsEntered p rest after → IsWalked new after
walk_on p rest old new after walked added entered =
    subst (λ (ps : List Names). IsWalked new ps) (sym entered.3) (walk_to p entered.0 rest old new walked entered.1 added)

-- ---- the same of what was pending before

pub past_less : (p : Names) (old rest : List Names) → old ≡ p ∷ rest → weight rest < weight old
past_less p old rest is = subst (λ (ps : List Names). weight rest < weight ps) (sym is) (left_less p rest)

pub visited_less : (p : Names) (old rest after : List Names) → old ≡ p ∷ rest → p ≢ [] → path_bytes p ≤ max_path_bytes → IsEntered p rest after → weight after < weight old
visited_less p old rest after is some short entered =
    subst (λ (ps : List Names). weight after < weight ps) (sym is)
    (subst (λ (ps : List Names). weight ps < weight (p ∷ rest)) (sym entered.3) (entered_less p entered.0 rest some short entered.2))

pub stand_first : (t : FileTree) (p : Names) (old rest : List Names) → old ≡ p ∷ rest → AllByRecursion (Stands t) old → Stands t p
stand_first t p old rest is all = (subst (AllByRecursion (Stands t)) is all).0

pub stand_past : (t : FileTree) (p : Names) (old rest : List Names) → old ≡ p ∷ rest → AllByRecursion (Stands t) old → AllByRecursion (Stands t) rest
stand_past t p old rest is all = (subst (AllByRecursion (Stands t)) is all).1

pub stand_on : (t : FileTree) (p : Names) (old rest after : List Names) → old ≡ p ∷ rest → after ≡ children p (names_in t p) ++ rest
    → AllByRecursion (Stands t) old → AllByRecursion (Stands t) after
stand_on t p old rest after is entered all = subst (AllByRecursion (Stands t)) (sym entered) (entered_stand t p rest (stand_past t p old rest is all))

pub walked_past : (lines : List Line) (p : Names) (old rest : List Names) → old ≡ p ∷ rest → IsWalked lines old → IsWalked lines rest
walked_past lines p old rest is walked = walk_past lines p rest (subst (IsWalked lines) is walked)

pub walked_on : (old new : List Line) (p : Names) (before rest after : List Names) → before ≡ p ∷ rest → IsWalked old before → IsAdded p old new → IsEntered p rest after → IsWalked new after
walked_on old new p before rest after is walked added entered = walk_on p rest old new after (subst (IsWalked old) is walked) added entered

-- ---- where the walk begins and ends

pub lines_start : (t : FileTree) (fields : Names → Meta) (now : ℤ) (e : Expression) → IsTree t → (root : Names) (names : List (List ℕ)) (pend : List Names)
    → root ≡ [] → names ≡ names_in t root → pend ≡ children root names → lines_found t fields now e ≡ flat_map (lines_below t fields now e) pend
lines_start t fields now e tree root names pend root_is names_are pend_is =
    lines_begin t fields now e tree (stood t [] tree.root)
    ∙ ap (flat_map (lines_below t fields now e)) (sym (pend_is ∙ ap (children root) names_are ∙ ap (λ (r : Names). children r (names_in t r)) root_is))

pub stand_start : (t : FileTree) (root : Names) (names : List (List ℕ)) (pend : List Names) → names ≡ names_in t root → pend ≡ children root names → AllByRecursion (Stands t) pend
stand_start t root names pend names_are pend_is = subst (AllByRecursion (Stands t)) (sym (pend_is ∙ ap (children root) names_are)) (children_stand t root)

pub walked_start : (root : Names) (names : List (List ℕ)) (pend : List Names) → pend ≡ children root names → RiseStrictly names → IsWalked [] pend
walked_start root names pend pend_is rise = subst (IsWalked []) (sym pend_is) (walk_begins root names rise)

pub lines_end : (whole lines : List Line) (pend : List Names) (f : Names → List Line) → whole ≡ lines ++ flat_map f pend → pend ≡ [] → whole ≡ lines
lines_end whole lines pend f so_far none = so_far ∙ ap (λ (ps : List Names). lines ++ flat_map f ps) none ∙ append-nil lines
