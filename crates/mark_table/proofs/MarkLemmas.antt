-- What the words on marks compute to at a path.
use Rattle.std.proofs.Common.{◌≡◌, ℕ, Bool, true, false, cond, ◌||◌, not, ◌==◌, List, [], ◌∷◌, map, filter, refl, sym, ◌∙◌, ap, subst, Option, Some, None, is_some}
use Rattle.std.specs.FinMap as fin
use Rattle.std.specs.FinMap.{find}
use Rattle.std.specs.List.{All}
use Rattle.std.specs.List.Sorted.{IsStrictlySortedBy}
use Rattle.std.specs.Option.{option_or, option_map}
use Rattle.std.specs.Ordering.{eq_by_cmp}
use Rattle.std.specs.Cmp.{IsEquivalence, eq_by_cmp_equiv}
use Rattle.std.specs.BTreeMap.{BTreeMap, Updates, IsOrdered, is_at}
use Rattle.std.specs.Map.{lookup, keys_of, values_of}
use Rattle.std.proofs.lemmas.Map.{lookup-none}
use Rattle.std.proofs.lemmas.Map.Entries.{lookup-filter-values, option_filter, none_past_head}
use Rattle.std.proofs.lemmas.Map.Made.{lookup-map_values}
use Rattle.std.proofs.lemmas.Map.Keys.{IsDistinct-from_sorted, sorted_tail}
use Rattle.std.proofs.lemmas.List.Elements.{All-nil, All-cons, All-head, All-tail, All-filter}
use Rattle.dired_text.specs.Paths.{Names, path_cmp}
use Rattle.dired_text.proofs.PathLemmas.{path_cmp-total, path_cmp-exact, path_decides}
use Rattle.mark_table.proofs.MapLemmas.{find-lookup, get-lookup, entries-made}
use Rattle.mark_table.specs.PathMarks.{PathMarks, IsMark, is_among, marked, with_each, changed, other_than, cleared, with_new, replaced}

abbrev pub Entries : Type 0
Entries = List (Names × ℕ)

abbrev pub tie : Names → Names → Bool
tie q k = eq_by_cmp path_cmp q k

pub tie_laws : IsEquivalence (eq_by_cmp path_cmp)
tie_laws = eq_by_cmp_equiv path_cmp-total

-- the marks that a map in memory holds
abbrev pub seen : BTreeMap Names ℕ → PathMarks
seen b = fin.from_entries b.entries

-- marks that show the same at each path are one
pub same_marks : (m n : PathMarks) → ((q : Names) → fin.get m q ≡ fin.get n q) → m ≡ n
same_marks m n same = fin.same_map path_cmp-total path_cmp-exact m n same

pub get-seen : (b : BTreeMap Names ℕ) (q : Names) → fin.get (seen b) q ≡ lookup (is_at (path_cmp q)) b.entries
get-seen b q = get-lookup path_cmp-total path_cmp-exact b q

pub get-marked : (m : PathMarks) (p : Names) (w : Option ℕ) (q : Names) → fin.get (marked m p w) q ≡ cond (tie q p) w (fin.get m q)
get-marked m p None q = fin.get-remove path_cmp-total m p q
get-marked m p (Some b) q = fin.get-insert path_cmp-total m p b q

-- what a change at one key does
pub updated : (a b : BTreeMap Names ℕ) (p : Names) (w : Option ℕ) → Updates path_cmp a b p w → seen b ≡ marked (seen a) p w
updated a b p w u = same_marks _ _ (λ q.
    get-seen b q ∙ u.0 q
    ∙ ap (λ (t : Bool). cond t w (lookup (is_at (path_cmp q)) a.entries)) (tie_laws.symm p q)
    ∙ ap (λ (o : Option ℕ). cond (tie q p) w o) (sym (get-seen a q))
    ∙ sym (get-marked (seen a) p w q))

-- ---- a rule at each of some paths

among_first : (t b : Bool) (x y o : Option ℕ) → (t ≡ true → y ≡ x) → cond b x (cond t y o) ≡ cond (t || b) x o
among_first true true x y o h = refl
among_first true false x y o h = h refl
among_first false b x y o h = refl

pub get-with_each : (rule : Names → Option ℕ) (ps : List Names) (m : PathMarks) (q : Names) → fin.get (with_each rule ps m) q ≡ cond (is_among q ps) (rule q) (fin.get m q)
get-with_each rule [] m q = refl
get-with_each rule (p ∷ ps) m q =
    get-with_each rule ps (marked m p (rule p)) q
    ∙ ap (λ (o : Option ℕ). cond (is_among q ps) (rule q) o) (get-marked m p (rule p) q)
    ∙ among_first (tie q p) (is_among q ps) (rule q) (rule p) (fin.get m q) (λ t. ap rule (sym ((path_decides q p).0 t)))

-- where no mark stays none
all_or_none : (f : Option ℕ → Option ℕ) → f None ≡ None → (o : Option ℕ) → cond (is_some o) (f o) o ≡ f o
all_or_none f e None = sym e
all_or_none f e (Some b) = refl

pub get-changed_all : (f : Option ℕ → Option ℕ) → f None ≡ None → (m : PathMarks) (q : Names) → fin.get (changed f (fin.keys m) m) q ≡ f (fin.get m q)
get-changed_all f e m q =
    get-with_each (λ p. f (fin.get m p)) (fin.keys m) m q
    ∙ ap (λ (t : Bool). cond t (f (fin.get m q)) (fin.get m q)) (sym (fin.contains_key-keys m q))
    ∙ all_or_none f e (fin.get m q)

option_filter-is : (mark : ℕ) (o : Option ℕ) → option_filter (λ b. not (b == mark)) o ≡ other_than mark o
option_filter-is mark None = refl
option_filter-is mark (Some b) = elim (b == mark) as (λ t. cond (not t) (Some b) None ≡ cond t None (Some b)) [ true ↦ refl | false ↦ refl ]

pub cleared-seen : (a b : BTreeMap Names ℕ) (mark : ℕ) → IsOrdered path_cmp a → b.entries ≡ filter (λ e. not (e.1 == mark)) a.entries → seen b ≡ cleared mark (seen a)
cleared-seen a b mark ordered kept = same_marks _ _ (λ q.
    get-seen b q
    ∙ ap (lookup (is_at (path_cmp q))) kept
    ∙ lookup-filter-values tie_laws (λ x. not (x == mark)) q a.entries (IsDistinct-from_sorted path_cmp _ ordered)
    ∙ option_filter-is mark _
    ∙ ap (other_than mark) (sym (get-seen a q))
    ∙ sym (get-changed_all (other_than mark) refl (seen a) q))

option_map-is : (old new : ℕ) (o : Option ℕ) → option_map (λ b. cond (b == old) new b) o ≡ with_new old new o
option_map-is old new None = refl
option_map-is old new (Some b) = refl

pub replaced-seen : (a b : BTreeMap Names ℕ) (old new : ℕ) → b.entries ≡ map (λ e. (e.0, cond (e.1 == old) new e.1)) a.entries → seen b ≡ replaced old new (seen a)
replaced-seen a b old new kept = same_marks _ _ (λ q.
    get-seen b q
    ∙ ap (lookup (is_at (path_cmp q))) kept
    ∙ lookup-map_values (λ b. cond (b == old) new b) (is_at (path_cmp q)) a.entries
    ∙ option_map-is old new _
    ∙ ap (with_new old new) (sym (get-seen a q))
    ∙ sym (get-changed_all (with_new old new) refl (seen a) q))

pub entries-seen : (b : BTreeMap Names ℕ) → IsOrdered path_cmp b → fin.entries (seen b) ≡ b.entries
entries-seen b ordered = entries-made path_cmp-total path_cmp-exact b.entries ordered

-- ---- a copy in the making

pub record CopiesTo (rest : Entries) (copy whole : PathMarks) : Type 0 where
  pub ordered : IsStrictlySortedBy path_cmp (keys_of rest)
  pub lawful : All IsMark (values_of rest)
  pub shows : (q : Names) → option_or (find path_cmp q rest) (fin.get copy q) ≡ fin.get whole q

or_none : (o : Option ℕ) → option_or o None ≡ o
or_none None = refl
or_none (Some b) = refl

pub copy_begins : (b : BTreeMap Names ℕ) → IsOrdered path_cmp b → All IsMark (values_of b.entries) → CopiesTo b.entries fin.empty (seen b)
copy_begins b ordered lawful = record {
  ordered = ordered;
  lawful = lawful;
  shows = λ q. ap (option_or (find path_cmp q b.entries)) (fin.get-empty path_cmp q) ∙ or_none _ ∙ sym (fin.get-from_entries path_cmp-total b.entries q);
}

pub started : (b : BTreeMap Names ℕ) (rest : Entries) (copy whole : PathMarks) → rest ≡ b.entries → IsOrdered path_cmp b → All IsMark (values_of b.entries) → copy ≡ fin.empty → seen b ≡ whole → CopiesTo rest copy whole
started b rest copy whole all ordered lawful none is =
    subst (λ (es : Entries). CopiesTo es copy whole) (sym all)
    (subst (λ (m : PathMarks). CopiesTo b.entries m whole) (sym none) (subst (λ (m : PathMarks). CopiesTo b.entries fin.empty m) is (copy_begins b ordered lawful)))

one_more : (t : Bool) (b : ℕ) (r o w : Option ℕ) → (t ≡ true → r ≡ None) → option_or (cond t (Some b) r) o ≡ w → option_or r (cond t (Some b) o) ≡ w
one_more true b r o w none e = ap (λ (s : Option ℕ). option_or s (Some b)) (none refl) ∙ e
one_more false b r o w none e = e

pub copy_goes_on : (e : Names × ℕ) (rest : Entries) (copy whole : PathMarks) → CopiesTo (e ∷ rest) copy whole → CopiesTo rest (fin.insert copy e.0 e.1) whole
copy_goes_on e rest copy whole so_far = record {
  ordered = sorted_tail path_cmp e.0 (keys_of rest) so_far.ordered;
  lawful = All-tail IsMark e.1 (values_of rest) so_far.lawful;
  shows = λ q. ap (option_or (find path_cmp q rest)) (fin.get-insert path_cmp-total copy e.0 e.1 q)
      ∙ one_more (tie q e.0) e.1 (find path_cmp q rest) (fin.get copy q) _
      (λ t. find-lookup path_cmp-total path_cmp-exact rest q ∙ lookup-none (is_at (path_cmp q)) rest (none_past_head tie_laws q e rest (IsDistinct-from_sorted path_cmp _ so_far.ordered) t))
      (so_far.shows q);
}

pub copied_mark : (e : Names × ℕ) (rest : Entries) (copy whole : PathMarks) → CopiesTo (e ∷ rest) copy whole → IsMark e.1
copied_mark e rest copy whole so_far = All-head IsMark e.1 (values_of rest) so_far.lawful

pub copy_ends : (copy whole : PathMarks) → CopiesTo [] copy whole → copy ≡ whole
copy_ends copy whole so_far = same_marks copy whole so_far.shows

-- ---- values that stay marks

abbrev HasMark : Names × ℕ → Type 0
HasMark e = IsMark e.1

values_are : (es : Entries) → All IsMark (values_of es) → All HasMark es
values_are [] all = All-nil HasMark
values_are (e ∷ es) all = All-cons HasMark e es (All-head IsMark e.1 (values_of es) all) (values_are es (All-tail IsMark e.1 (values_of es) all))

are_values : (es : Entries) → All HasMark es → All IsMark (values_of es)
are_values [] all = All-nil IsMark
are_values (e ∷ es) all = All-cons IsMark e.1 (values_of es) (All-head HasMark e es all) (are_values es (All-tail HasMark e es all))

pub lawful-filter : (p : Names × ℕ → Bool) (es : Entries) → All IsMark (values_of es) → All IsMark (values_of (filter p es))
lawful-filter p es all = are_values (filter p es) (All-filter p HasMark es (values_are es all))

chosen : (b : Bool) (new v : ℕ) → IsMark new → IsMark v → IsMark (cond b new v)
chosen true new v is was = is
chosen false new v is was = was

pub lawful-replaced : (old new : ℕ) (es : Entries) → IsMark new → All IsMark (values_of es) → All IsMark (values_of (map (λ e. (e.0, cond (e.1 == old) new e.1)) es))
lawful-replaced old new [] is all = all
lawful-replaced old new (e ∷ es) is all =
    All-cons IsMark _ _ (chosen (e.1 == old) new e.1 is (All-head IsMark e.1 (values_of es) all)) (lawful-replaced old new es is (All-tail IsMark e.1 (values_of es) all))
