-- That the edits of a drill can be asked for, and made in its tree.
use Rattle.std.proofs.Common.{◌≡◌, ◌≢◌, ℕ, ◌+◌, ◌*◌, ◌<◌, ◌≤◌, Bool, true, false, not, cond, List, [], ◌∷◌, ◌++◌, filter, length, refl, sym, ◌∙◌, ap, subst, arith, Contains, Option, Some, None, is_some, length-append}
use Rattle.std.specs.List.{AllPairs}
use Rattle.std.proofs.lemmas.Option.{none-some, same_Some}
use Rattle.dired_text.specs.Paths.{Names, parent, slashed, path_bytes}
use Rattle.tree_core.specs.declared.edit.Edit.{Edit}
use Rattle.edit_words.specs.declared.row.Row.{Row}
use Rattle.edit_words.specs.declared.row.Route.{Route}
use Rattle.edit_words.specs.declared.row.Route.TheVariants.{Stays, Named, Sent}
use Rattle.edit_words.specs.Rows.{edit_row, is_at, is_elsewhere, is_same_path, last_name, route_by, route_of, route_to, row_from, rows, written}
use Rattle.edit_words.specs.Place.{IsAbove, ancestors, place, placed, routed}
use Rattle.edit_words.specs.Refusals.{changed_bytes, missing_above, row_bytes, total}
use Rattle.edit_words.specs.Sight.{Sight}
use Rattle.edit_words.specs.WellFormed.{HasOtherSource, IsEdit, IsNoRoot, LinesRise, SourcesDiffer}
use Rattle.edit_words.proofs.AboveLemmas.{ancestors_above}
use Rattle.edit_words.proofs.AncestorLemmas.{ancestors_counted}
use Rattle.edit_laws.proofs.ListLemmas.{contains_head, contains_tail, filter_parts, find_parts}
use Rattle.drill_tree.specs.declared.moves.Move.{Move}
use Rattle.drill_tree.specs.Groups.{group_name, group_of, moves}
use Rattle.drill_tree.specs.Drill.{drill_edits, drill_moves, edit_of, in_dir, numbered}
use Rattle.drill_tree.specs.Laws.{AreDrillEdits, max_groups}
use Rattle.drill_tree.proofs.ListLemmas.{all_from, apart_map, apart_pairs}
use Rattle.drill_tree.proofs.GroupLemmas.{IsShort, law}
use Rattle.drill_tree.proofs.DrillLemmas.{edits_apart, edit_parts, moves_few, move_came, not_root, places_apart, row_at, row_came, row_count, same_rest, sources_apart}

-- ---- asked for

abbrev pub OtherPlace : Row → Row → Type 0
OtherPlace r o = written r ≢ written o

lines_rise : (n : ℕ) → LinesRise (rows (drill_edits n))
lines_rise n = apart_pairs (λ (r o : Row). r.line < o.line) (rows (drill_edits n))
    (apart_map edit_row (λ (r o : Row). r.line < o.line) (numbered 1 (drill_moves n))
    (edits_apart (λ (m o : Move). m.source ≢ o.source) (λ (e f : Edit). e.line < f.line) (λ k l m o less differ. less) 1 (drill_moves n) (sources_apart n)))

other_source : (p q : Names) → p ≢ q → HasOtherSource (Some p) (Some q)
other_source p q differ a b is_a is_b same = differ (same_Some p a is_a ∙ same ∙ sym (same_Some q b is_b))

sources_differ : (n : ℕ) → SourcesDiffer (rows (drill_edits n))
sources_differ n = apart_pairs (λ (r o : Row). HasOtherSource r.source o.source) (rows (drill_edits n))
    (apart_map edit_row (λ (r o : Row). HasOtherSource r.source o.source) (numbered 1 (drill_moves n))
    (edits_apart (λ (m o : Move). m.source ≢ o.source) (λ (e f : Edit). HasOtherSource (Some e.source) (Some f.source))
    (λ k l m o less differ. other_source m.source o.source differ) 1 (drill_moves n) (sources_apart n)))

pub places_differ : (n : ℕ) → AllPairs OtherPlace (rows (drill_edits n))
places_differ n = apart_pairs OtherPlace (rows (drill_edits n))
    (apart_map edit_row OtherPlace (numbered 1 (drill_moves n))
    (edits_apart (λ (m o : Move). m.to ≢ o.to) (λ (e f : Edit). written (edit_row e) ≢ written (edit_row f)) (λ k l m o less differ. differ) 1 (drill_moves n) (places_apart n)))

no_root_at : (g line : ℕ) (m : Move) → IsNoRoot (row_at g line m)
no_root_at g line m = (
  λ e. not_root (group_name g) m.source (same_Some (group_name g ∷ m.source) [] e),
  λ e. not_root (group_name g) m.to (same_Some (group_name g ∷ m.to) [] e),
)

is_edit : (line g : ℕ) (m : Move) → m.source ≢ m.to → IsEdit (edit_of line (in_dir (group_name g) m))
is_edit line g m other = record {
  asks = refl;
  to = λ e. other (sym (same_rest (group_name g) (group_name g) m.to m.source (same_Some (group_name g ∷ m.to) (group_name g ∷ m.source) e)));
  target = λ target e. absurd (none-some target e);
  mode = λ mode e. absurd (none-some mode e);
}

edit_is : (n : ℕ) (e : Edit) → Contains (numbered 1 (drill_moves n)) e → IsEdit e
edit_is n e c =
    let p = edit_parts 1 (drill_moves n) e c in
    let o = move_came n p.move p.listed in
    subst IsEdit (sym (p.is ∙ ap (edit_of p.line) o.is)) (is_edit p.line o.group o.move ((law o.group).good o.move o.listed).other)

pub asked : (n : ℕ) → n ≤ max_groups → AreDrillEdits n
asked n few = record {
  asked = record {
    lines = lines_rise n;
    sources = sources_differ n;
    not_root = all_from IsNoRoot (rows (drill_edits n)) (λ r c. let o = row_came n r c in subst IsNoRoot (sym o.is) (no_root_at o.group o.line o.move));
    lawful = all_from IsEdit (numbered 1 (drill_moves n)) (edit_is n);
    count = let size = row_count n in let most = moves_few n in omega (arith, size, most, few);
  };
  few = moves_few n;
}

-- ---- the bytes of paths

pub slashed-append : (p q : Names) → length (slashed (p ++ q)) ≡ length (slashed p) + length (slashed q)
slashed-append [] q = omega arith
slashed-append (n ∷ p) q =
    let e = slashed-append p q in
    let a = length-append n (slashed (p ++ q)) in
    let b = length-append n (slashed p) in
    omega (arith, e, a, b)

pub slashed-one : (n : List ℕ) → length (slashed (n ∷ [])) ≡ 1 + length n
slashed-one n = let a = length-append n [] in omega (arith, a)

pub slashed-more : (n : List ℕ) (p : Names) → length (slashed (n ∷ p)) ≡ 1 + length n + length (slashed p)
slashed-more n p = let a = length-append n (slashed p) in omega (arith, a)

pub bytes_few : (p : Names) → path_bytes p ≤ length (slashed p)
bytes_few [] = omega arith
bytes_few (n ∷ p) = let a = length-append n (slashed p) in omega (arith, a)

name_bytes : (g : ℕ) → length (group_name g) ≡ 7
name_bytes g = refl

abbrev FewAt : Option Names → Type 0
FewAt None = Unit {0}
FewAt (Some w) = length (slashed w) ≤ 12

abbrev pub FewRoute : Route → Type 0
FewRoute Stays = Unit {0}
FewRoute (Named name) = length name ≤ 12
FewRoute (Sent path) = length (slashed path) ≤ 12

last_few : (w : Names) → length (last_name w) ≤ length (slashed w)
last_few [] = omega arith
last_few (n ∷ []) = let a = slashed-one n in omega (arith, a)
last_few (n ∷ m ∷ p) = let a = slashed-more n (m ∷ p) in let b = last_few (m ∷ p) in omega (arith, a, b)

route_to_few : (p : Names) (to : Option Names) → FewAt to → FewRoute (route_to p to)
route_to_few p None few = tt
route_to_few p (Some w) few = choose (is_same_path (parent p) (parent w))
  where
    choose : (b : Bool) → FewRoute (cond b (Named (last_name w)) (Sent w))
    choose true = let a = last_few w in omega (arith, a, few)
    choose false = few

route_by_few : (p : Names) (o : Option Row) → ((r : Row) → o ≡ Some r → FewAt r.to) → FewRoute (route_by p o)
route_by_few p None few = tt
route_by_few p (Some r) few = route_to_few p r.to (few r refl)

pub routed_few : (route : Route) (to : Names) (name : List ℕ) → FewRoute route → length (slashed (routed route to name)) ≤ length (slashed to) + 1 + length name + 12
routed_few Stays to name few = let a = slashed-append to (name ∷ []) in let b = slashed-one name in omega (arith, a, b)
routed_few (Named other) to name few = let a = slashed-append to (other ∷ []) in let b = slashed-one other in omega (arith, a, b, few)
routed_few (Sent path) to name few = omega (arith, few)

pub placed_few : (route : Names → Route) → ((p : Names) → FewRoute (route p)) → (old to rest : Names)
    → length (slashed (placed route old to rest)) ≤ length (slashed to) + length (slashed rest) + 12 * length rest
placed_few route few old to [] = omega arith
placed_few route few old to (name ∷ rest) =
    let a = placed_few route few (old ++ name ∷ []) (routed (route (old ++ name ∷ [])) to name) rest in
    let b = routed_few (route (old ++ name ∷ [])) to name (few (old ++ name ∷ [])) in
    let c = slashed-more name rest in
    omega (arith, a, b, c)

-- a path in a group has two or three names and few bytes
pub record IsInGroup (p : Names) : Type 0 where
  pub names : length p ≤ 3
  pub bytes : length (slashed p) ≤ 12

pub in_group : (g : ℕ) (p : Names) → IsShort p → IsInGroup (group_name g ∷ p)
in_group g p short =
    let a = slashed-more (group_name g) p in
    let b = name_bytes g in
    let c = short.few in
    let d = short.bytes in
    record { names = omega (arith, c); bytes = omega (arith, a, b, d) }

pub routes_few : (n : ℕ) (p : Names) → FewRoute (route_of (rows (drill_edits n)) p)
routes_few n p = route_by_few p (row_from (rows (drill_edits n)) p) (λ r e.
    let o = row_came n r (find_parts (λ (r : Row). is_at p r.source) (rows (drill_edits n)) r e).0 in
    subst (λ (x : Row). FewAt x.to) (sym o.is) (in_group o.group o.move.to ((law o.group).good o.move o.listed).to).bytes)

pub place_few : (n : ℕ) (p : Names) → IsInGroup p → length (slashed (place (route_of (rows (drill_edits n))) p)) ≤ 48
place_few n p few =
    let a = placed_few (route_of (rows (drill_edits n))) (routes_few n) [] [] p in
    let b = few.names in
    let c = few.bytes in
    omega (arith, a, b, c)

total_few : {X : Type 0} (f : X → ℕ) (xs : List X) → ((x : X) → Contains xs x → f x ≤ 108) → total f xs ≤ 108 * length xs
total_few f [] few = omega arith
total_few f (x ∷ xs) few =
    let a = few x (contains_head x xs) in
    let b = total_few f xs (λ y c. few y (contains_tail x y xs c)) in
    omega (arith, a, b)

total_twelve : {X : Type 0} (f : X → ℕ) (xs : List X) → ((x : X) → Contains xs x → f x ≤ 12) → total f xs ≤ 12 * length xs
total_twelve f [] few = omega arith
total_twelve f (x ∷ xs) few =
    let a = few x (contains_head x xs) in
    let b = total_twelve f xs (λ y c. few y (contains_tail x y xs c)) in
    omega (arith, a, b)

filter_few : {X : Type 0} (test : X → Bool) (xs : List X) → length (filter test xs) ≤ length xs
filter_few test [] = omega arith
filter_few test (x ∷ xs) = choose (filter_few test xs) (test x)
  where
    choose : length (filter test xs) ≤ length xs → (b : Bool) → length (cond b (x ∷ filter test xs) (filter test xs)) ≤ length (x ∷ xs)
    choose few true = omega (arith, few)
    choose few false = omega (arith, few)

pub above_few : (u w : Names) → IsAbove u w → length (slashed u) ≤ length (slashed w)
above_few u w above =
    let a = slashed-append u (above.0 ∷ above.1) in
    let e : length (slashed w) ≡ length (slashed (u ++ above.0 ∷ above.1)) = ap (λ (p : Names). length (slashed p)) above.2 in
    omega (arith, a, e)

ancestors_few : (test : Names → Bool) (w : Names) → IsInGroup w → total path_bytes (filter test (ancestors w)) ≤ 36
ancestors_few test w few =
    let each = total_twelve path_bytes (filter test (ancestors w)) (λ u c.
    let above = (ancestors_above w u).0 (filter_parts test (ancestors w) u c).0 in
    let a = bytes_few u in
    let b = above_few u w above in
    let d = few.bytes in
    omega (arith, a, b, d)) in
    let count = filter_few test (ancestors w) in
    let size = ancestors_counted w in
    let names = few.names in
    omega (arith, each, count, size, names)

missing_few : (sight : Sight) (r : Row) → IsInGroup (written r) → total path_bytes (missing_above sight r) ≤ 36
missing_few sight r few = choose (is_elsewhere r)
  where
    choose : (b : Bool) → total path_bytes (cond b (filter (λ (p : Names). not (is_some (sight.at p))) (ancestors (written r))) []) ≤ 36
    choose true = ancestors_few (λ (p : Names). not (is_some (sight.at p))) (written r) few
    choose false = omega arith

row_few : (n g line : ℕ) (m : Move) (sight : Sight) → Contains (moves (group_of g)) m → row_bytes sight (rows (drill_edits n)) (row_at g line m) ≤ 108
row_few n g line m sight c =
    let good = (law g).good m c in
    let source = in_group g m.source good.source in
    let to = in_group g m.to good.to in
    let a = bytes_few (group_name g ∷ m.source) in
    let b = bytes_few (group_name g ∷ m.to) in
    let d = bytes_few (place (route_of (rows (drill_edits n))) (group_name g ∷ m.source)) in
    let e = place_few n (group_name g ∷ m.source) source in
    let f = missing_few sight (row_at g line m) to in
    let x = source.bytes in
    let y = to.bytes in
    omega (arith, a, b, d, e, f, x, y)

pub bytes_within : (n : ℕ) (sight : Sight) → n ≤ max_groups → changed_bytes sight (rows (drill_edits n)) ≤ 67108864
bytes_within n sight most =
    let all = total_few (row_bytes sight (rows (drill_edits n))) (rows (drill_edits n)) (λ r c.
    let o = row_came n r c in
    subst (λ (x : Row). row_bytes sight (rows (drill_edits n)) x ≤ 108) (sym o.is) (row_few n o.group o.line o.move sight o.listed)) in
    let size = row_count n in
    let few = moves_few n in
    omega (arith, all, size, few, most)
