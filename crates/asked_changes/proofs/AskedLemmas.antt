-- Rows of which each is added behind those that were looked at.
use Rattle.std.proofs.Common.{◌≡◌, ℕ, ◌+◌, ◌<◌, ◌≤◌, true, false, List, [], ◌∷◌, ◌++◌, length, take, get_or, sym, ◌∙◌, ap, arith, All, Some, Bool, cond, refl, not, IsTrue, subst}
use Rattle.std.specs.BTreeSet.{BTreeSet, contains}
use Rattle.std.proofs.lemmas.List.{take_more}
use Rattle.std.proofs.lemmas.List.Elements.{All-push, All-weaker}
use Rattle.std.proofs.lemmas.List.Quantifiers.{all_pairs_push}
use Rattle.dired_text.specs.Paths.{Names, path_cmp}
use Rattle.edit_words.proofs.SameLemmas.{same_itself}
use Rattle.edit_words.specs.Rows.{is_same_path}
use Rattle.edit_words.specs.declared.row.Row.{Row}
use Rattle.edit_words.specs.WellFormed.{AreAsked, HasOtherSource, IsNoRoot, LinesRise, SourcesDiffer, max_changes}
use Rattle.edit_words.specs.Rows.{rows}
use Rattle.tree_core.specs.declared.changes.Changes.{Changes}
use Rattle.asked_changes.specs.Asking.{AreLawfulChanges}

one_more : {X : Type 0} → (xs : List X) (i : ℕ) (x : X) → i < length xs → x ≡ get_or xs i x → take (i + 1) xs ≡ take i xs ++ x ∷ []
one_more xs i x within is = take_more xs i x within ∙ ap (λ y. take i xs ++ y ∷ []) (sym is)

-- what holds of each so far, and of one more
pub all_more : {X : Type 0} (P : X → Type 0) (xs : List X) (i : ℕ) (x : X) → i < length xs → x ≡ get_or xs i x → All P (take i xs) → P x → All P (take (i + 1) xs)
all_more P xs i x within is before here = rw (one_more xs i x within is) (All-push P (take i xs) x before here)

abbrev pub IsBelow : ℕ → Row → Type 0
IsBelow least r = r.line < least

pub record HaveRisen (rs : List Row) (least : ℕ) : Type 0 where
  pub rise : LinesRise rs
  pub below : All (IsBelow least) rs

pub rise_more : (rs : List Row) (i : ℕ) (r : Row) (least line : ℕ) → i < length rs → r ≡ get_or rs i r → HaveRisen (take i rs) least → least ≤ r.line → line ≡ r.line → HaveRisen (take (i + 1) rs) (line + 1)
rise_more rs i r least line within is before far same = rw (one_more rs i r within is) (record {
  rise = all_pairs_push (λ (o p : Row). o.line < p.line) (take i rs) r before.rise (λ k d in'. let less = before.below k d in' in omega arith);
  below = All-push (IsBelow (line + 1)) (take i rs) r (All-weaker (IsBelow least) (IsBelow (line + 1)) (λ o less. omega arith) (take i rs) before.below) (omega arith);
})

-- its source is among these
abbrev pub IsSeen : BTreeSet Names → Row → Type 0
IsSeen seen r = (p : Names) → r.source ≡ Some p → contains path_cmp seen p ≡ true

pub record AreApart (rs : List Row) (known : BTreeSet Names) : Type 0 where
  pub differ : SourcesDiffer rs
  pub seen : All (IsSeen known) rs

clash : true ≡ false → ⊥
clash e = cc

pub apart_more : (rs : List Row) (i : ℕ) (r : Row) (old new : BTreeSet Names) → i < length rs → r ≡ get_or rs i r → AreApart (take i rs) old
    → ((p : Names) → contains path_cmp old p ≡ true → contains path_cmp new p ≡ true) → IsSeen new r → ((p : Names) → r.source ≡ Some p → contains path_cmp old p ≡ false)
    → AreApart (take (i + 1) rs) new
apart_more rs i r old new within is before kept noted fresh = rw (one_more rs i r within is) (record {
  differ = all_pairs_push (λ (o p : Row). HasOtherSource o.source p.source) (take i rs) r before.differ
      (λ k d in' p q first second same. clash (sym (before.seen k d in' p first) ∙ ap (contains path_cmp old) same ∙ fresh q second));
  seen = All-push (IsSeen new) (take i rs) r (All-weaker (IsSeen old) (IsSeen new) (λ o has p e. kept p (has p e)) (take i rs) before.seen) noted;
})

pub still_in : (b x : Bool) → x ≡ true → cond b true x ≡ true
still_in true x e = refl
still_in false x e = e

pub is_in : (p : Names) (x : Bool) → cond (is_same_path p p) true x ≡ true
is_in p x = rw (same_itself p) refl

not_both : (b : Bool) → b ≡ true → IsTrue (not b) → ⊥
not_both true e t = cc
not_both false e t = cc

-- paths that don't tie are not the same
pub no_tie : (p q : Names) (b : Bool) → b ≡ is_same_path p q → IsTrue (not b) → p ≡ q → ⊥
no_tie p q b is differs same = not_both b (is ∙ ap (λ (r : Names). is_same_path r q) same ∙ same_itself q) differs

pub all_asked : (changes : Changes) (rs : List Row) → rs ≡ rows changes → length rs ≤ max_changes → LinesRise rs → All IsNoRoot rs → SourcesDiffer rs → AreLawfulChanges changes → AreAsked changes
all_asked changes rs is few rise rooted differ lawful = record {
  lines = subst (λ (l : List Row). LinesRise l) is rise;
  sources = subst (λ (l : List Row). SourcesDiffer l) is differ;
  not_root = subst (λ (l : List Row). All IsNoRoot l) is rooted;
  lawful = lawful;
  count = subst (λ (l : List Row). length l ≤ max_changes) is few;
}
