-- What was found of rows stays, and covers them.
use Rattle.std.proofs.Common.{◌≡◌, inl, inr, ℕ, ◌+◌, ◌<◌, Bool, true, not, All, List, [], ◌∷◌, ◌++◌, length, take, drop, get_or, refl, sym, ◌∙◌, ap, subst, Option, Some, None, is_some, IsTrue, Contains}
use Rattle.std.specs.BTreeMap.{BTreeMap, get}
use Rattle.std.specs.Option.{unwrap_or}
use Rattle.std.proofs.lemmas.Bool.{false≢true}
use Rattle.std.proofs.lemmas.Option.{same_Some}
use Rattle.std.proofs.lemmas.List.{take_more, drop_more, take-append-drop}
use Rattle.std.proofs.lemmas.List.Elements.{All-push, All-weaker, All-contains}
use Rattle.dired_text.specs.Paths.{Names, path_cmp}
use Rattle.tree_core.specs.declared.edit.Shown.{Shown}
use Rattle.edit_words.specs.declared.row.Row.{Row}
use Rattle.edit_words.specs.declared.seen.Seen.{Seen}
use Rattle.edit_words.specs.declared.findings.Findings.{Findings}
use Rattle.edit_words.specs.declared.fault.CheckFault.{CheckFault}
use Rattle.edit_words.specs.declared.fault.CheckFault.TheVariants.{Stale}
use Rattle.edit_words.specs.Sight.{Sight, is_dir}
use Rattle.edit_words.specs.Refusals.{staging, first_fault, fault_if, is_as_shown, is_stale_at, stale}
use Rattle.edit_words.specs.Found.{sight_in, HasFindings, HasGrown, IsClosed, IsCovered, IsFreeOr, IsSeen}
use Rattle.edit_looks.specs.Looks.{IsShownIn, IsStaleIn, IsToSeen, IsRemovedSeen}
use Rattle.edit_words.proofs.FindLemmas.{fault_none}
use Rattle.edit_words.proofs.FirstLemmas.{fault_of_first}
use Rattle.edit_words.proofs.FindingsLemmas.{seen_looked, seen_stays, same_found, told_found}

-- ---- rows one by one

-- one row more, and what holds of the others stays
pub rows_more : (P Q : Row → Type 0) (rs : List Row) (i : ℕ) (r : Row) → i < length rs → r ≡ get_or rs i r → ((o : Row) → P o → Q o) → All P (take i rs) → Q r → All Q (take (i + 1) rs)
rows_more P Q rs i r below is stays all here =
    let more : take (i + 1) rs ≡ take i rs ++ r ∷ [] = take_more rs i r below ∙ ap (λ (o : Row). take i rs ++ o ∷ []) (sym is) in
    subst (All Q) (sym more) (All-push Q (take i rs) r (All-weaker P Q stays (take i rs) all) here)

-- ---- what was found of a row stays

stale_same : (s t : Sight) (source : Option Names) (was : Option Shown) → ((p : Names) → source ≡ Some p → s.at p ≡ t.at p) → is_stale_at s source was ≡ is_stale_at t source was
stale_same s t None was same = refl
stale_same s t (Some p) None same = refl
stale_same s t (Some p) (Some was) same = ap (λ (o : Option Seen). not (is_as_shown was o)) (same p refl)

-- the fault of a line, where its source was looked at
pub stale_found : (s t : Sight) (r : Row) → ((p : Names) → r.source ≡ Some p → s.at p ≡ t.at p) → stale s r ≡ stale t r
stale_found s t r same = ap (λ (b : Bool). fault_if b (Stale r.line)) (stale_same s t r.source r.was same)

pub shown_stays : {f g : Findings} → HasGrown f g → IsClosed f → IsClosed g → (r : Row) → IsShownIn f r → IsShownIn g r
shown_stays {f} {g} grown closed more r shown = record {
  seen = λ p e. seen_stays p grown (shown.seen p e);
  shown = stale_found (sight_in g) (sight_in f) r (λ p e. same_found p grown closed more (shown.seen p e)) ∙ shown.shown;
}

pub to_stays : {f g : Findings} → HasGrown f g → (r : Row) → IsToSeen f r → IsToSeen g r
to_stays {f} {g} grown r to = record { seen = λ p e. seen_stays p grown (to.seen p e); above = λ p u e over. seen_stays u grown (to.above p u e over) }

some_stays : {X : Type 0} (a b : Option X) → ((x : X) → a ≡ Some x → b ≡ Some x) → IsTrue (is_some a) → IsTrue (is_some b)
some_stays None b stays is = absurd (false≢true is)
some_stays (Some x) b stays is = ap is_some (stays x refl)

pub removed_stays : {f g : Findings} → HasGrown f g → g.found ≡ f.found → (r : Row) → IsRemovedSeen f r → IsRemovedSeen g r
removed_stays {f} {g} grown same r removed = record {
  asked = λ s removes e dir. some_stays (get path_cmp f.empty s) (get path_cmp g.empty s) (λ b at. grown.empty s b at)
      (removed.asked s removes e (ap (λ (m : BTreeMap Names (Option Seen)). is_dir (unwrap_or (get path_cmp m s) None)) (sym same) ∙ dir));
}

-- ---- faults

-- no row of these is stale
pub none_stale : (f : Findings) (rs : List Row) → All (IsShownIn f) rs → first_fault (stale (sight_in f)) rs ≡ None
none_stale f rs all = (fault_none (stale (sight_in f)) rs).1 (λ r listed. (All-contains (IsShownIn f) rs r all listed).shown)

-- the first row that is stale
pub stale_first : (f : Findings) (s : Sight) (rs : List Row) (i : ℕ) (r : Row) (fault : CheckFault) → HasFindings f s → i < length rs → r ≡ get_or rs i r → All (IsShownIn f) (take i rs)
    → IsFreeOr fault (stale s r) → IsFreeOr fault (first_fault (stale s) rs)
stale_first f s rs i r fault told below is all (inl memory) = inl memory
stale_first f s rs i r fault told below is all (inr (inl failed)) = inr (inl failed)
stale_first f s rs i r fault told below is all (inr (inr here)) =
    let next : drop i rs ≡ r ∷ drop (i + 1) rs = drop_more rs i r below ∙ ap (λ (o : Row). o ∷ drop (i + 1) rs) (sym is) in
    let parts : rs ≡ take i rs ++ r ∷ drop (i + 1) rs = sym (take-append-drop i rs) ∙ ap (λ (l : List Row). take i rs ++ l) next in
    inr (inr ((fault_of_first (stale s) rs fault).1 (record {
      front = take i rs;
      row = r;
      back = drop (i + 1) rs;
      is = parts;
      faulty = here;
      before = λ o listed.
          let shown = All-contains (IsShownIn f) (take i rs) o all listed in
          stale_found s (sight_in f) o (λ p e. told_found p told (shown.seen p e)) ∙ shown.shown;
    })))

-- what is stale by what was found is stale
pub stale_told : (f : Findings) (s : Sight) (r : Row) (source : Names) → HasFindings f s → r.source ≡ Some source → IsSeen f source → is_stale_at (sight_in f) (Some source) r.was ≡ true → stale s r ≡ Some (Stale r.line)
stale_told f s r source told is seen e = ap (λ (b : Bool). fault_if b (Stale r.line)) (
    ap (λ (o : Option Names). is_stale_at s o r.was) is
    ∙ stale_same s (sight_in f) (Some source) r.was (λ p same. subst (λ (q : Names). s.at q ≡ (sight_in f).at q) (same_Some source p same) (told_found source told seen))
    ∙ e)

-- the line of a row of these
pub line_in : (rs : List Row) (r : Row) (fault : CheckFault) → Contains rs r → IsFreeOr fault (Some (Stale r.line)) → IsStaleIn rs fault
line_in rs r fault listed (inl memory) = inl memory
line_in rs r fault listed (inr (inl failed)) = inr (inl failed)
line_in rs r fault listed (inr (inr is)) = inr (inr (r, listed, sym (same_Some (Stale r.line) fault is)))

-- ---- the whole

pub covered : (f : Findings) (rs : List Row) → get path_cmp f.found staging ≡ Some None → All (IsShownIn f) rs → All (IsToSeen f) rs → All (IsRemovedSeen f) rs → IsCovered f rs
covered f rs unstaged shown to removed = record {
  staging_seen = seen_looked f staging None unstaged;
  sources = λ r s listed e. (All-contains (IsShownIn f) rs r shown listed).seen s e;
  new_paths = λ r w listed e. (All-contains (IsToSeen f) rs r to listed).seen w e;
  above = λ r w u listed e over. (All-contains (IsToSeen f) rs r to listed).above w u e over;
  removed = λ r s listed removes e dir. (All-contains (IsRemovedSeen f) rs r removed listed).asked s removes e dir;
}
