-- Refusals and counts depend only on what was looked at.
use Rattle.std.proofs.Common.{◌≡◌, ℕ, ◌+◌, Bool, true, false, cond, not, ◌&&◌, List, [], ◌∷◌, count_by, length, refl, sym, ◌∙◌, ap, subst, Option, Some, None, Contains, option_map, is_some, IsTrue}
use Rattle.std.specs.BTreeMap.{get}
use Rattle.std.specs.List.{cons_option, flat_map, filter_map, list_any}
use Rattle.std.specs.Option.{option_or, unwrap_or}
use Rattle.std.proofs.lemmas.Bool.{false≢true}
use Rattle.std.proofs.lemmas.List.Sums.{length-filter}
use Rattle.dired_text.specs.Paths.{Names, path_cmp, path_bytes}
use Rattle.tree_core.specs.declared.edit.Shown.{Shown}
use Rattle.tree_core.specs.declared.changes.Confirmed.{Confirmed}
use Rattle.edit_words.specs.declared.row.Row.{Row}
use Rattle.edit_words.specs.declared.counts.Counts.{Counts}
use Rattle.edit_words.specs.declared.findings.Findings.{Findings}
use Rattle.edit_words.specs.declared.seen.Seen.{Seen}
use Rattle.edit_words.specs.declared.fault.CheckFault.{CheckFault}
use Rattle.edit_words.specs.declared.fault.CheckFault.TheVariants.{Pending, Stale, ModeClash, ParentNotDirectory, ParentTaken, TargetIsDirectory, NotEmpty, Unconfirmed}
use Rattle.edit_words.specs.Place.{IsAbove, is_above, ancestors}
use Rattle.edit_words.specs.Rows.{is_source, written, written_of, is_elsewhere, is_elsewhere_of}
use Rattle.edit_words.specs.Sight.{Sight, is_dir, is_other, number_of, number_at}
use Rattle.edit_words.specs.Refusals.{staging, first_fault, fault_if, is_as_shown, is_stale_at, stale, reserved, two_to_one, are_same, differ, mode_clash, parent_not_directory, moved_parent, parent_taken, path_too_long, parents, across, victim_at, victim_of, if_dir, then_at, directory_replaced, if_full, not_empty, if_unconfirmed, unconfirmed, total, missing_above, own_bytes, row_bytes, changed_bytes, too_many_bytes, ill_formed, refusal}
use Rattle.edit_words.specs.Counting.{different, counts_of}
use Rattle.edit_words.specs.Found.{sight_in, HasFindings, IsSeen, IsCovered}
use Rattle.edit_words.proofs.AboveLemmas.{above_decides, ancestors_above}
use Rattle.edit_rules.specs.Plans.{AreMissing, AreModes, ModeChange, is_line, mode_change_by, mode_change_of, names_place, victims_of}
use Rattle.edit_words.specs.Rows.{is_same_path}
use Rattle.edit_words.proofs.FindLemmas.{contains_head, contains_tail}
use Rattle.edit_words.proofs.FindingsLemmas.{told_found}
use Rattle.edit_words.proofs.AlikeLemmas.{find_alike, line_where_alike, filter_alike, flat_map_alike, total_alike, fault_alike}

-- ---- sights that agree

abbrev AgreeOf : Sight → Sight → Option Names → Type 0
AgreeOf s u o = (p : Names) → o ≡ Some p → s.at p ≡ u.at p

-- Two sights agree at the paths that a row asks for. Whether something is empty is asked of a directory to be removed.
pub record Agree (s u : Sight) (r : Row) : Type 0 where
  pub source : (p : Names) → r.source ≡ Some p → s.at p ≡ u.at p
  pub to : (p : Names) → r.to ≡ Some p → s.at p ≡ u.at p
  pub above : (p w : Names) → r.to ≡ Some w → IsAbove p w → s.at p ≡ u.at p
  pub empty : (p : Names) → r.removes ≡ true → r.source ≡ Some p → is_dir (s.at p) ≡ true → s.is_empty p ≡ u.is_empty p

-- they agree at the paths that a check of rows asks for
pub record AgreeOn (s u : Sight) (rs : List Row) : Type 0 where
  pub staged : s.at staging ≡ u.at staging
  pub rows : (r : Row) → Contains rs r → Agree s u r

seen_at : (f : Findings) (s : Sight) → HasFindings f s → (p : Names) → IsSeen f p → (sight_in f).at p ≡ s.at p
seen_at f s has p is = sym (told_found p has is)

emptied_at : (f : Findings) (s : Sight) → HasFindings f s → (p : Names) → IsTrue (is_some (get path_cmp f.empty p)) → (sight_in f).is_empty p ≡ s.is_empty p
emptied_at f s has p is = by_found (get path_cmp f.empty p) refl is
  where
    by_found : (o : Option Bool) → get path_cmp f.empty p ≡ o → IsTrue (is_some o) → unwrap_or (get path_cmp f.empty p) false ≡ s.is_empty p
    by_found None e is = absurd (false≢true is)
    by_found (Some b) e is = ap (λ (o : Option Bool). unwrap_or o false) e ∙ sym (has.empty p b e)

-- findings that cover the rows agree with what they are true of
pub findings_agree : (f : Findings) (s : Sight) (rs : List Row) → HasFindings f s → IsCovered f rs → AgreeOn (sight_in f) s rs
findings_agree f s rs has covered = record {
  staged = seen_at f s has staging covered.staging_seen;
  rows = λ r listed. record {
    source = λ p is. seen_at f s has p (covered.sources r p listed is);
    to = λ p is. seen_at f s has p (covered.new_paths r p listed is);
    above = λ p w is above. seen_at f s has p (covered.above r w p listed is above);
    empty = λ p removes is dir. emptied_at f s has p (covered.removed r p listed removes is dir);
  };
}

-- ---- tests on what is looked at only sometimes

and_alike : (a b c : Bool) → (a ≡ true → b ≡ c) → (a && b) ≡ (a && c)
and_alike true b c same = same refl
and_alike false b c same = refl

if_alike : {X : Type 0} (b : Bool) (x y z : X) → (b ≡ true → x ≡ y) → cond b x z ≡ cond b y z
if_alike true x y z same = same refl
if_alike false x y z same = refl

-- ---- each fault of a row

stale_at : (s u : Sight) (source : Option Names) (was : Option Shown) → AgreeOf s u source → is_stale_at s source was ≡ is_stale_at u source was
stale_at s u None was same = refl
stale_at s u (Some p) None same = refl
stale_at s u (Some p) (Some w) same = ap (λ (o : Option Seen). not (is_as_shown w o)) (same p refl)

pub stale_same : (s u : Sight) (r : Row) → Agree s u r → stale s r ≡ stale u r
stale_same s u r a = ap (λ (b : Bool). fault_if b (Stale r.line)) (stale_at s u r.source r.was a.source)

number_same : (s u : Sight) (source : Option Names) → AgreeOf s u source → number_at s source ≡ number_at u source
number_same s u None same = refl
number_same s u (Some p) same = ap number_of (same p refl)

mode_clash_same : (s u : Sight) (rs : List Row) (r : Row) → AgreeOn s u rs → Agree s u r → mode_clash s rs r ≡ mode_clash u rs r
mode_clash_same s u rs r all a =
    ap (option_map (ModeClash r.line)) (line_where_alike _ _ rs (λ o c.
    ap (λ (n : Option ℕ). are_same n (number_at s o.source) && differ r.mode o.mode) (number_same s u r.source a.source)
    ∙ ap (λ (n : Option ℕ). are_same (number_at u r.source) n && differ r.mode o.mode) (number_same s u o.source (all.rows o c).source)))

far_to : (source to : Option Names) → is_elsewhere_of source to ≡ true → (w : Names) × (to ≡ Some w) × (written_of source to ≡ w)
far_to None None far = absurd (false≢true far)
far_to (Some s) None far = absurd (false≢true far)
far_to None (Some w) far = (w, refl, refl)
far_to (Some s) (Some w) far = (w, refl, refl)

-- they agree above what is written elsewhere
far_above : (s u : Sight) (r : Row) → Agree s u r → is_elsewhere r ≡ true → (p : Names) → IsAbove p (written r) → s.at p ≡ u.at p
far_above s u r a far p above =
    let to = far_to r.source r.to far in
    a.above p to.0 to.1 (subst (λ (w : Names). IsAbove p w) to.2 above)

parent_not_directory_same : (s u : Sight) (r : Row) → Agree s u r → is_elsewhere r ≡ true → parent_not_directory s r ≡ parent_not_directory u r
parent_not_directory_same s u r a far =
    ap (option_map (ParentNotDirectory r.line)) (find_alike _ _ (ancestors (written r)) (λ p c. ap is_other (far_above s u r a far p ((ancestors_above (written r) p).0 c))))

parent_taken_same : (s u : Sight) (rs : List Row) (r : Row) → Agree s u r → is_elsewhere r ≡ true → parent_taken s rs r ≡ parent_taken u rs r
parent_taken_same s u rs r a far =
    ap (option_map (ParentTaken r.line)) (line_where_alike _ _ rs (λ o c.
    and_alike (is_above (written o) (written r)) _ _ (λ above.
    ap (λ (seen : Option Seen). not (is_some seen)) (far_above s u r a far (written o) ((above_decides (written o) (written r)).0 above)))))

parents_same : (s u : Sight) (rs : List Row) (r : Row) → Agree s u r → parents s rs r ≡ parents u rs r
parents_same s u rs r a = if_alike (is_elsewhere r) _ _ None (λ far.
    ap (λ (o : Option CheckFault). option_or o (option_or (moved_parent rs r) (parent_taken s rs r))) (parent_not_directory_same s u r a far)
    ∙ ap (λ (o : Option CheckFault). option_or (parent_not_directory u r) (option_or (moved_parent rs r) o)) (parent_taken_same s u rs r a far))

pub across_same : (s u : Sight) (rs : List Row) (r : Row) → AgreeOn s u rs → Agree s u r → across s rs r ≡ across u rs r
across_same s u rs r all a =
    ap (λ (o : Option CheckFault). option_or (reserved r) (option_or (two_to_one rs r) (option_or o (option_or (parents s rs r) (path_too_long rs r))))) (mode_clash_same s u rs r all a)
    ∙ ap (λ (o : Option CheckFault). option_or (reserved r) (option_or (two_to_one rs r) (option_or (mode_clash u rs r) (option_or o (path_too_long rs r))))) (parents_same s u rs r a)

victim_at_same : (s u : Sight) (rs : List Row) (to : Option Names) → AgreeOf s u to → victim_at s rs to ≡ victim_at u rs to
victim_at_same s u rs None same = refl
victim_at_same s u rs (Some p) same = ap (λ (o : Option Seen). cond (is_some o && not (is_source rs p)) (Some p) None) (same p refl)

pub victim_same : (s u : Sight) (rs : List Row) (r : Row) → Agree s u r → victim_of s rs r ≡ victim_of u rs r
victim_same s u rs r a = victim_at_same s u rs r.to a.to

replaced_at : (s u : Sight) (rs : List Row) (to : Option Names) → AgreeOf s u to → then_at (victim_at s rs to) (if_dir s) ≡ then_at (victim_at u rs to) (if_dir u)
replaced_at s u rs None same = refl
replaced_at s u rs (Some p) same =
    ap (λ (o : Option Names). then_at o (if_dir s)) (victim_at_same s u rs (Some p) same)
    ∙ (elim (is_some (u.at p) && not (is_source rs p)) as (λ (b : Bool). then_at (cond b (Some p) None) (if_dir s) ≡ then_at (cond b (Some p) None) (if_dir u)) [
      | true ↦ ap (λ (o : Option Seen). cond (is_dir o) (Some p) None) (same p refl)
      | false ↦ refl
    ])

pub directory_replaced_same : (s u : Sight) (rs : List Row) (r : Row) → Agree s u r → directory_replaced s rs r ≡ directory_replaced u rs r
directory_replaced_same s u rs r a = ap (option_map (TargetIsDirectory r.line)) (replaced_at s u rs r.to a.to)

full_at : (s u : Sight) (source : Option Names) → AgreeOf s u source → ((p : Names) → source ≡ Some p → is_dir (s.at p) ≡ true → s.is_empty p ≡ u.is_empty p)
    → then_at source (if_full s) ≡ then_at source (if_full u)
full_at s u None same empty = refl
full_at s u (Some p) same empty = ap (λ (b : Bool). cond b (Some p) None) (
    and_alike (is_dir (s.at p)) (not (s.is_empty p)) (not (u.is_empty p)) (λ dir. ap (λ (b : Bool). not b) (empty p refl dir))
    ∙ ap (λ (o : Option Seen). is_dir o && not (u.is_empty p)) (same p refl))

pub not_empty_same : (s u : Sight) (r : Row) → Agree s u r → not_empty s r ≡ not_empty u r
not_empty_same s u r a = if_alike r.removes _ _ None (λ removes. ap (option_map (NotEmpty r.line)) (full_at s u r.source a.source (λ p is dir. a.empty p removes is dir)))

pub unconfirmed_same : (s u : Sight) (confirmed : Confirmed) (rs : List Row) (r : Row) → Agree s u r → unconfirmed s confirmed rs r ≡ unconfirmed u confirmed rs r
unconfirmed_same s u confirmed rs r a = ap (λ (o : Option Names). option_map (Unconfirmed r.line) (then_at o (if_unconfirmed confirmed))) (victim_same s u rs r a)

pub missing_same : (s u : Sight) (r : Row) → Agree s u r → missing_above s r ≡ missing_above u r
missing_same s u r a = if_alike (is_elsewhere r) _ _ [] (λ far.
    filter_alike _ _ (ancestors (written r)) (λ p c. ap (λ (o : Option Seen). not (is_some o)) (far_above s u r a far p ((ancestors_above (written r) p).0 c))))

-- ---- over all rows

pub stales_same : (s u : Sight) (rs : List Row) → AgreeOn s u rs → first_fault (stale s) rs ≡ first_fault (stale u) rs
stales_same s u rs all = fault_alike _ _ rs (λ r c. stale_same s u r (all.rows r c))

pub acrosses_same : (s u : Sight) (rs : List Row) → AgreeOn s u rs → first_fault (across s rs) rs ≡ first_fault (across u rs) rs
acrosses_same s u rs all = fault_alike _ _ rs (λ r c. across_same s u rs r all (all.rows r c))

pub directories_replaced_same : (s u : Sight) (rs : List Row) → AgreeOn s u rs → first_fault (directory_replaced s rs) rs ≡ first_fault (directory_replaced u rs) rs
directories_replaced_same s u rs all = fault_alike _ _ rs (λ r c. directory_replaced_same s u rs r (all.rows r c))

pub not_empties_same : (s u : Sight) (rs : List Row) → AgreeOn s u rs → first_fault (not_empty s) rs ≡ first_fault (not_empty u) rs
not_empties_same s u rs all = fault_alike _ _ rs (λ r c. not_empty_same s u r (all.rows r c))

pub all_unconfirmed_same : (s u : Sight) (confirmed : Confirmed) (rs : List Row) → AgreeOn s u rs → first_fault (unconfirmed s confirmed rs) rs ≡ first_fault (unconfirmed u confirmed rs) rs
all_unconfirmed_same s u confirmed rs all = fault_alike _ _ rs (λ r c. unconfirmed_same s u confirmed rs r (all.rows r c))

pub changed_bytes_same : (s u : Sight) (rs : List Row) → AgreeOn s u rs → changed_bytes s rs ≡ changed_bytes u rs
changed_bytes_same s u rs all = total_alike (row_bytes s rs) (row_bytes u rs) rs (λ r c. ap (λ (ps : List Names). own_bytes rs r + total path_bytes ps) (missing_same s u r (all.rows r c)))

-- ---- the whole

ill_formed_same : (s u : Sight) (rs : List Row) → AgreeOn s u rs → ill_formed s rs ≡ ill_formed u rs
ill_formed_same s u rs all =
    let in_order : Option Seen → Option CheckFault → Option CheckFault → Option CheckFault → Option CheckFault → Option CheckFault
    = λ o a b c d. option_or (fault_if (is_some o) Pending) (option_or a (option_or b (option_or c d))) in
    ap (λ (o : Option Seen). in_order o (first_fault (stale s) rs) (first_fault (across s rs) rs) (first_fault (directory_replaced s rs) rs) (first_fault (not_empty s) rs)) all.staged
    ∙ ap (λ (o : Option CheckFault). in_order (u.at staging) o (first_fault (across s rs) rs) (first_fault (directory_replaced s rs) rs) (first_fault (not_empty s) rs)) (stales_same s u rs all)
    ∙ ap (λ (o : Option CheckFault). in_order (u.at staging) (first_fault (stale u) rs) o (first_fault (directory_replaced s rs) rs) (first_fault (not_empty s) rs)) (acrosses_same s u rs all)
    ∙ ap (λ (o : Option CheckFault). in_order (u.at staging) (first_fault (stale u) rs) (first_fault (across u rs) rs) o (first_fault (not_empty s) rs)) (directories_replaced_same s u rs all)
    ∙ ap (λ (o : Option CheckFault). in_order (u.at staging) (first_fault (stale u) rs) (first_fault (across u rs) rs) (first_fault (directory_replaced u rs) rs) o) (not_empties_same s u rs all)

refusal_same : (s u : Sight) (confirmed : Confirmed) (rs : List Row) → AgreeOn s u rs → refusal s confirmed rs ≡ refusal u confirmed rs
refusal_same s u confirmed rs all =
    ap (λ (o : Option CheckFault). option_or o (option_or (first_fault (unconfirmed s confirmed rs) rs) (too_many_bytes (changed_bytes s rs)))) (ill_formed_same s u rs all)
    ∙ ap (λ (o : Option CheckFault). option_or (ill_formed u rs) (option_or o (too_many_bytes (changed_bytes s rs)))) (all_unconfirmed_same s u confirmed rs all)
    ∙ ap (λ (n : ℕ). option_or (ill_formed u rs) (option_or (first_fault (unconfirmed u confirmed rs) rs) (too_many_bytes n))) (changed_bytes_same s u rs all)

count_alike : (f g : Row → Bool) (rs : List Row) → ((r : Row) → Contains rs r → f r ≡ g r) → count_by f rs ≡ count_by g rs
count_alike f g rs same = sym (length-filter f rs) ∙ ap (λ (l : List Row). length l) (filter_alike f g rs same) ∙ length-filter g rs

replaced_same : (s u : Sight) (rs : List Row) → AgreeOn s u rs → count_by (λ (r : Row). is_some (victim_of s rs r)) rs ≡ count_by (λ (r : Row). is_some (victim_of u rs r)) rs
replaced_same s u rs all = count_alike _ _ rs (λ r c. ap (λ (o : Option Names). is_some o) (victim_same s u rs r (all.rows r c)))

counts_same : (s u : Sight) (rs : List Row) → AgreeOn s u rs → counts_of s rs ≡ counts_of u rs
counts_same s u rs all =
    let counts : ℕ → List Names → Counts = λ replaced missing. record (counts_of s rs) { replaced = replaced; made = different missing } in
    ap (λ (n : ℕ). counts n (flat_map (missing_above s) rs)) (replaced_same s u rs all)
    ∙ ap (counts (count_by (λ (r : Row). is_some (victim_of u rs r)) rs)) (flat_map_alike _ _ rs (λ r c. missing_same s u r (all.rows r c)))

-- what is found of a tree decides these of its changes
pub ill_formed_seen : (f : Findings) (s : Sight) (rs : List Row) → HasFindings f s → IsCovered f rs → ill_formed (sight_in f) rs ≡ ill_formed s rs
ill_formed_seen f s rs has covered = ill_formed_same (sight_in f) s rs (findings_agree f s rs has covered)

pub refusal_seen : (f : Findings) (s : Sight) (confirmed : Confirmed) (rs : List Row) → HasFindings f s → IsCovered f rs → refusal (sight_in f) confirmed rs ≡ refusal s confirmed rs
refusal_seen f s confirmed rs has covered = refusal_same (sight_in f) s confirmed rs (findings_agree f s rs has covered)

pub counts_seen : (f : Findings) (s : Sight) (rs : List Row) → HasFindings f s → IsCovered f rs → counts_of (sight_in f) rs ≡ counts_of s rs
counts_seen f s rs has covered = counts_same (sight_in f) s rs (findings_agree f s rs has covered)

filter_map_alike : {A B : Type 0} (f g : A → Option B) (xs : List A) → ((x : A) → Contains xs x → f x ≡ g x) → filter_map f xs ≡ filter_map g xs
filter_map_alike f g [] same = refl
filter_map_alike f g (x ∷ xs) same =
    ap (λ o. cons_option o (filter_map f xs)) (same x (contains_head x xs))
    ∙ ap (cons_option (g x)) (filter_map_alike f g xs (λ y c. same y (contains_tail x y xs c)))

pub victims_seen : (f : Findings) (s : Sight) (rs : List Row) → HasFindings f s → IsCovered f rs → victims_of (sight_in f) rs ≡ victims_of s rs
victims_seen f s rs has covered =
    let all = findings_agree f s rs has covered in
    filter_map_alike _ _ rs (λ r c. ap (option_map (λ (p : Names). (r.line, p))) (victim_same (sight_in f) s rs r (all.rows r c)))

pub missing_seen : (f : Findings) (s : Sight) (rs : List Row) (ps : List Names) → HasFindings f s → IsCovered f rs → AreMissing (sight_in f) rs ps → AreMissing s rs ps
missing_seen f s rs ps has covered missing =
    let all = findings_agree f s rs has covered in
    record {
      sorted = missing.sorted;
      same = λ p. missing.same p ∙ ap (λ (l : List Names). list_any (is_same_path p) l) (flat_map_alike _ _ rs (λ r c. missing_same (sight_in f) s r (all.rows r c)));
    }

names_place_alike : (s u : Sight) (rs : List Row) (r : Row) → AgreeOn s u rs → (number : Option ℕ) → names_place s rs r number ≡ names_place u rs r number
names_place_alike s u rs r all None = refl
names_place_alike s u rs r all (Some number) = ap (is_line r.line) (line_where_alike _ _ rs (λ o c.
    ap (λ (n : Option ℕ). are_same (Some number) n && is_some o.mode) (number_same s u o.source (all.rows o c).source)))

mode_change_same : (s u : Sight) (rs : List Row) (r : Row) → AgreeOn s u rs → Agree s u r → mode_change_of s rs r ≡ mode_change_of u rs r
mode_change_same s u rs r all a =
    ap (λ (n : Option ℕ). mode_change_by rs (names_place s rs r n) r.source r.was r.mode) (number_same s u r.source a.source)
    ∙ ap (λ (b : Bool). mode_change_by rs b r.source r.was r.mode) (names_place_alike s u rs r all (number_at u r.source))

pub modes_seen : (f : Findings) (s : Sight) (rs : List Row) (ms : List ModeChange) → HasFindings f s → IsCovered f rs → AreModes (sight_in f) rs ms → AreModes s rs ms
modes_seen f s rs ms has covered modes =
    let all = findings_agree f s rs has covered in
    record {
      sorted = modes.sorted;
      same = λ test. modes.same test ∙ ap (λ (l : List ModeChange). count_by test l) (filter_map_alike _ _ rs (λ r c. mode_change_same (sight_in f) s rs r all (all.rows r c)));
    }
