-- Changes of which no fault is found are well formed, and the other way round.
use Rattle.std.proofs.Common.{◌≡◌, inl, inr, ◌↔◌, ℕ, ◌≤◌, nat_lt, Bool, true, false, cond, not, ◌&&◌, List, [], ◌∷◌, ◌++◌, refl, sym, ◌∙◌, ap, subst, Option, Some, None, Contains, Decides, option_map, is_some}
use Rattle.std.specs.FinMap.{get}
use Rattle.std.specs.Option.{option_or}
use Rattle.std.proofs.lemmas.Bool.{false≢true, cases_Bool, cond-true, cond-false, ltb-false, le-ltb, and_parts, and_from, not-true, not_from_false}
use Rattle.std.proofs.lemmas.Bool.Decides.{Decides-and, Decides-not}
use Rattle.std.proofs.lemmas.Option.{none-some, same_Some, cond_some}
use Rattle.dired_text.specs.Paths.{Names}
use Rattle.tree_core.specs.declared.changes.Confirmed.{Confirmed}
use Rattle.tree_core.specs.FileTree.{FileTree, IsTree, IsAbsent, IsDir, IsEmptyAt, Stands}
use Rattle.tree_core.specs.Fields.{names_in}
use Rattle.tree_core.proofs.TreeLemmas.{none_of, absent_not}
use Rattle.tree_core.proofs.NameLemmas.{names_end}
use Rattle.edit_words.specs.declared.row.Row.{Row}
use Rattle.edit_words.specs.declared.fault.CheckFault.{CheckFault}
use Rattle.edit_words.specs.declared.fault.CheckFault.TheVariants.{Pending, TargetIsDirectory, NotEmpty, Unconfirmed, PathBytes}
use Rattle.edit_words.specs.Place.{IsAbove}
use Rattle.edit_words.specs.Rows.{is_source, written, is_elsewhere}
use Rattle.edit_words.specs.Sight.{Sight, sight_of, is_dir, is_none_in}
use Rattle.edit_words.specs.Refusals.{staging, first_fault, stale, reserved, two_to_one, mode_clash, parents, parent_not_directory, moved_parent, parent_taken, path_too_long, across, victim_at, victim_of, if_dir, directory_replaced, if_full, not_empty, is_confirmed, if_unconfirmed, unconfirmed, changed_bytes, max_changed_bytes, too_many_bytes, then_at, ill_formed}
use Rattle.edit_words.specs.WellFormed.{IsMover, IsVictimOf, IsWellFormed}
use Rattle.edit_words.specs.Laws.{WellFormedAlone, TakenAlone}
use Rattle.edit_words.proofs.FindLemmas.{or_none, map_none, then_none, if_none, unless_none, fault_none}
use Rattle.edit_words.proofs.RefusalLemmas.{stands_decides, dir_decides, shown_row, unreserved_row, to_one_row, modes_row, directories_row, unmoved_row, untaken_row, short_row}

-- ---- the faults across rows

abbrev AreAbove : FileTree → List Row → Row → Type 0
AreAbove t rs r = ((u : Names) → IsAbove u (written r) → Stands t u → IsDir t u)
    × ((o : Row) (s : Names) → Contains rs o → IsMover o s → IsAbove s (written r) → ⊥)
    × ((o : Row) → Contains rs o → IsAbove (written o) (written r) → Stands t (written o))

parents_row : (t : FileTree) (rs : List Row) (r : Row) → (parents (sight_of t) rs r ≡ None) ↔ (is_elsewhere r ≡ true → AreAbove t rs r)
parents_row t rs r = (
  λ e far.
      let parts = first.0 (far_only.0 e far) in
      let later = second.0 parts.1 in
      ((directories_row t r).0 parts.0, (unmoved_row rs r).0 later.0, (untaken_row t rs r).0 later.1),
  λ all. far_only.1 (λ far. let h = all far in first.1 ((directories_row t r).1 h.0, second.1 ((unmoved_row rs r).1 h.1, (untaken_row t rs r).1 h.2))),
)
  where
    far_only : (parents (sight_of t) rs r ≡ None)
        ↔ (is_elsewhere r ≡ true → option_or (parent_not_directory (sight_of t) r) (option_or (moved_parent rs r) (parent_taken (sight_of t) rs r)) ≡ None)
    far_only = unless_none (is_elsewhere r) (option_or (parent_not_directory (sight_of t) r) (option_or (moved_parent rs r) (parent_taken (sight_of t) rs r)))

    first : (option_or (parent_not_directory (sight_of t) r) (option_or (moved_parent rs r) (parent_taken (sight_of t) rs r)) ≡ None)
        ↔ ((parent_not_directory (sight_of t) r ≡ None) × (option_or (moved_parent rs r) (parent_taken (sight_of t) rs r) ≡ None))
    first = or_none (parent_not_directory (sight_of t) r) (option_or (moved_parent rs r) (parent_taken (sight_of t) rs r))

    second : (option_or (moved_parent rs r) (parent_taken (sight_of t) rs r) ≡ None) ↔ ((moved_parent rs r ≡ None) × (parent_taken (sight_of t) rs r ≡ None))
    second = or_none (moved_parent rs r) (parent_taken (sight_of t) rs r)

record AcrossNone (sight : Sight) (rs : List Row) (r : Row) : Type 0 where
  reserved : reserved r ≡ None
  two : two_to_one rs r ≡ None
  modes : mode_clash sight rs r ≡ None
  parents : parents sight rs r ≡ None
  long : path_too_long rs r ≡ None

across_none : (sight : Sight) (rs : List Row) (r : Row) → (across sight rs r ≡ None) ↔ AcrossNone sight rs r
across_none sight rs r = (
  λ e.
      let a = (or_none (reserved r) _).0 e in
      let b = (or_none (two_to_one rs r) _).0 a.1 in
      let c = (or_none (mode_clash sight rs r) _).0 b.1 in
      let d = (or_none (parents sight rs r) (path_too_long rs r)).0 c.1 in
      record { reserved = a.0; two = b.0; modes = c.0; parents = d.0; long = d.1 },
  λ h. (or_none (reserved r) _).1 (h.reserved, (or_none (two_to_one rs r) _).1 (h.two, (or_none (mode_clash sight rs r) _).1 (h.modes, (or_none (parents sight rs r) (path_too_long rs r)).1 (h.parents, h.long)))),
)

-- ---- what would be replaced or removed

victim_is : (t : FileTree) (rs : List Row) (to : Option Names) (p : Names) → (victim_at (sight_of t) rs to ≡ Some p) ↔ ((to ≡ Some p) × Stands t p × (is_source rs p ≡ false))
victim_is t rs None p = (λ e. absurd (none-some p e), λ h. absurd (none-some p h.0))
victim_is t rs (Some q) p = (
  λ e.
      let found = cond_some (is_some ((sight_of t).at q) && not (is_source rs q)) q p e in
      let parts = and_parts (is_some ((sight_of t).at q)) (not (is_source rs q)) found.0 in (
        ap (λ (w : Names). Some w) found.1,
        subst (Stands t) found.1 ((stands_decides t q).0 parts.0),
        subst (λ (w : Names). is_source rs w ≡ false) found.1 (not-true (is_source rs q) parts.1),
      ),
  λ h.
      let same : q ≡ p = same_Some q p h.0 in
      cond-true (is_some ((sight_of t).at q) && not (is_source rs q)) (Some q) None
      (and_from (is_some ((sight_of t).at q)) (not (is_source rs q))
      ((stands_decides t q).1 (subst (Stands t) (sym same) h.1))
      (not_from_false (is_source rs q) (subst (λ (w : Names). is_source rs w ≡ false) (sym same) h.2)))
      ∙ h.0,
)

-- a rule on victims
victims_row : (t : FileTree) (rs : List Row) (r : Row) (fault : Names → CheckFault) (f : Names → Option Names)
    → (option_map fault (then_at (victim_of (sight_of t) rs r) f) ≡ None) ↔ ((p : Names) → IsVictimOf t rs r p → f p ≡ None)
victims_row t rs r fault f = (
  λ e p victim. (then_none (victim_of (sight_of t) rs r) f).0 ((map_none fault (then_at (victim_of (sight_of t) rs r) f)).0 e) p ((victim_is t rs r.to p).1 victim),
  λ all. (map_none fault (then_at (victim_of (sight_of t) rs r) f)).1 ((then_none (victim_of (sight_of t) rs r) f).1 (λ p is. all p ((victim_is t rs r.to p).0 is))),
)

replaceable_row : (t : FileTree) (rs : List Row) (r : Row) → (directory_replaced (sight_of t) rs r ≡ None) ↔ ((p : Names) → IsVictimOf t rs r p → IsDir t p → ⊥)
replaceable_row t rs r = (
  λ e p victim. (if_none (is_dir ((sight_of t).at p)) p (dir_decides t p)).0 (rule.0 e p victim),
  λ none. rule.1 (λ p victim. (if_none (is_dir ((sight_of t).at p)) p (dir_decides t p)).1 (none p victim)),
)
  where
    rule : (directory_replaced (sight_of t) rs r ≡ None) ↔ ((p : Names) → IsVictimOf t rs r p → if_dir (sight_of t) p ≡ None)
    rule = victims_row t rs r (TargetIsDirectory r.line) (if_dir (sight_of t))

confirmed_if : (b : Bool) (p : Names) → (cond b None (Some p) ≡ None) ↔ (b ≡ true)
confirmed_if true p = (λ e. refl, λ e. refl)
confirmed_if false p = (λ e. absurd (none-some p (sym e)), λ e. absurd (false≢true e))

confirmed_row : (t : FileTree) (confirmed : Confirmed) (rs : List Row) (r : Row)
    → (unconfirmed (sight_of t) confirmed rs r ≡ None) ↔ ((p : Names) → IsVictimOf t rs r p → is_confirmed confirmed p ≡ true)
confirmed_row t confirmed rs r = (
  λ e p victim. (confirmed_if (is_confirmed confirmed p) p).0 (rule.0 e p victim),
  λ all. rule.1 (λ p victim. (confirmed_if (is_confirmed confirmed p) p).1 (all p victim)),
)
  where
    rule : (unconfirmed (sight_of t) confirmed rs r ≡ None) ↔ ((p : Names) → IsVictimOf t rs r p → if_unconfirmed confirmed p ≡ None)
    rule = victims_row t rs r (Unconfirmed r.line) (if_unconfirmed confirmed)

none_in : (names : List (List ℕ)) → Decides (is_none_in names) (names ≡ [])
none_in [] = (λ e. refl, λ e. refl)
none_in (n ∷ names) = (λ e. absurd (false≢true e), λ e. absurd cc)

pub empty_decides : (t : FileTree) (p : Names) → Decides (is_none_in (names_in t p)) (IsEmptyAt t p)
empty_decides t p = (λ e. (names_end t p).0 ((none_in (names_in t p)).0 e), λ empty. (none_in (names_in t p)).1 ((names_end t p).1 empty))

removable_row : (t : FileTree) → IsTree t → (r : Row) → (not_empty (sight_of t) r ≡ None) ↔ ((p : Names) (n : List ℕ) → r.removes ≡ true → r.source ≡ Some p → IsAbsent t (p ++ n ∷ []))
removable_row t tree r = (
  λ e p n removes source. none_of (get t (p ++ n ∷ [])) (λ stands. (full p).0 (rule.0 e removes p source) (tree.parents p n stands, λ empty. absent_not _ (empty n) stands)),
  λ all. rule.1 (λ removes p source. (full p).1 (λ h. h.1 (λ n. all p n removes source))),
)
  where
    full : (p : Names) → (if_full (sight_of t) p ≡ None) ↔ (IsDir t p × (IsEmptyAt t p → ⊥) → ⊥)
    full p = if_none (is_dir ((sight_of t).at p) && not (is_none_in (names_in t p))) p (Decides-and _ _ (dir_decides t p) (Decides-not _ (empty_decides t p)))

    rule : (not_empty (sight_of t) r ≡ None) ↔ (r.removes ≡ true → (p : Names) → r.source ≡ Some p → if_full (sight_of t) p ≡ None)
    rule = (
      λ e removes. (then_none r.source (if_full (sight_of t))).0 ((map_none (NotEmpty r.line) (then_at r.source (if_full (sight_of t)))).0
          ((unless_none r.removes (option_map (NotEmpty r.line) (then_at r.source (if_full (sight_of t))))).0 e removes)),
      λ all. (unless_none r.removes (option_map (NotEmpty r.line) (then_at r.source (if_full (sight_of t))))).1 (λ removes.
          (map_none (NotEmpty r.line) (then_at r.source (if_full (sight_of t)))).1 ((then_none r.source (if_full (sight_of t))).1 (all removes))),
    )

-- ---- the whole

pending_none : (t : FileTree) → (cond (is_some ((sight_of t).at staging)) (Some Pending) None ≡ None) ↔ IsAbsent t staging
pending_none t = (
  λ e. none_of (get t staging) ((if_none (is_some ((sight_of t).at staging)) Pending (stands_decides t staging)).0 e),
  λ absent. (if_none (is_some ((sight_of t).at staging)) Pending (stands_decides t staging)).1 (absent_not (get t staging) absent),
)

record NoneFound (t : FileTree) (rs : List Row) : Type 0 where
  unstaged : IsAbsent t staging
  shown : first_fault (stale (sight_of t)) rs ≡ None
  across : first_fault (across (sight_of t) rs) rs ≡ None
  replaceable : first_fault (directory_replaced (sight_of t) rs) rs ≡ None
  removable : first_fault (not_empty (sight_of t)) rs ≡ None

ill_none : (t : FileTree) (rs : List Row) → (ill_formed (sight_of t) rs ≡ None) ↔ NoneFound t rs
ill_none t rs = (
  λ e.
      let a = (or_none (cond (is_some ((sight_of t).at staging)) (Some Pending) None) _).0 e in
      let b = (or_none (first_fault (stale (sight_of t)) rs) _).0 a.1 in
      let c = (or_none (first_fault (across (sight_of t) rs) rs) _).0 b.1 in
      let d = (or_none (first_fault (directory_replaced (sight_of t) rs) rs) (first_fault (not_empty (sight_of t)) rs)).0 c.1 in
      record { unstaged = (pending_none t).0 a.0; shown = b.0; across = c.0; replaceable = d.0; removable = d.1 },
  λ h.
      (or_none (cond (is_some ((sight_of t).at staging)) (Some Pending) None) _).1 (
        (pending_none t).1 h.unstaged,
        (or_none (first_fault (stale (sight_of t)) rs) _).1 (
          h.shown,
          (or_none (first_fault (across (sight_of t) rs) rs) _).1 (
            h.across,
            (or_none (first_fault (directory_replaced (sight_of t) rs) rs) (first_fault (not_empty (sight_of t)) rs)).1 (h.replaceable, h.removable),
          ),
        ),
      ),
)

found_none : (t : FileTree) (rs : List Row) → IsTree t → NoneFound t rs → IsWellFormed t rs
found_none t rs tree none = record {
  unstaged = none.unstaged;
  shown = λ r listed. (shown_row t r).0 ((fault_none (stale (sight_of t)) rs).0 none.shown r listed);
  unreserved = λ r listed. (unreserved_row r).0 (at r listed).reserved;
  to_one = λ r o listed other same. (to_one_row rs r).0 (at r listed).two o other same;
  modes = λ r o number m k listed other at_r at_o mode_r mode_o. (modes_row t rs r).0 (at r listed).modes o number m k other at_r at_o mode_r mode_o;
  parents = λ r u listed far above_r stands. (above r listed far).0 u above_r stands;
  unmoved = λ r o s listed other far mover above_r. (above r listed far).1 o s other mover above_r;
  untaken = λ r o listed other far above_r. (above r listed far).2 o other above_r;
  short = λ r s listed source. (short_row rs r).0 (at r listed).long s source;
  replaceable = λ r p listed victim dir. (replaceable_row t rs r).0 ((fault_none (directory_replaced (sight_of t) rs) rs).0 none.replaceable r listed) p victim dir;
  removable = λ r p n listed removes source. (removable_row t tree r).0 ((fault_none (not_empty (sight_of t)) rs).0 none.removable r listed) p n removes source;
}
  where
    at : (r : Row) → Contains rs r → AcrossNone (sight_of t) rs r
    at r listed = (across_none (sight_of t) rs r).0 ((fault_none (across (sight_of t) rs) rs).0 none.across r listed)

    above : (r : Row) → Contains rs r → is_elsewhere r ≡ true → AreAbove t rs r
    above r listed far = (parents_row t rs r).0 (at r listed).parents far

none_found : (t : FileTree) (rs : List Row) → IsTree t → IsWellFormed t rs → NoneFound t rs
none_found t rs tree fine = record {
  unstaged = fine.unstaged;
  shown = (fault_none (stale (sight_of t)) rs).1 (λ r listed. (shown_row t r).1 (fine.shown r listed));
  across = (fault_none (across (sight_of t) rs) rs).1 (λ r listed. (across_none (sight_of t) rs r).1 record {
    reserved = (unreserved_row r).1 (fine.unreserved r listed);
    two = (to_one_row rs r).1 (λ o other same. fine.to_one r o listed other same);
    modes = (modes_row t rs r).1 (λ o number m k other at_r at_o mode_r mode_o. fine.modes r o number m k listed other at_r at_o mode_r mode_o);
    parents = (parents_row t rs r).1 (λ far. (
      λ u above stands. fine.parents r u listed far above stands,
      λ o s other mover above. fine.unmoved r o s listed other far mover above,
      λ o other above. fine.untaken r o listed other far above,
    ));
    long = (short_row rs r).1 (λ s source. fine.short r s listed source);
  });
  replaceable = (fault_none (directory_replaced (sight_of t) rs) rs).1 (λ r listed. (replaceable_row t rs r).1 (λ p victim dir. fine.replaceable r p listed victim dir));
  removable = (fault_none (not_empty (sight_of t)) rs).1 (λ r listed. (removable_row t tree r).1 (λ p n removes source. fine.removable r p n listed removes source));
}

pub well_formed_alone : WellFormedAlone
well_formed_alone t rs tree = (
  λ e. found_none t rs tree ((ill_none t rs).0 e),
  λ fine. (ill_none t rs).1 (none_found t rs tree fine),
)

fits_none : (bytes : ℕ) → (too_many_bytes bytes ≡ None) ↔ (bytes ≤ max_changed_bytes)
fits_none bytes = (
  λ e. elim (cases_Bool (nat_lt max_changed_bytes bytes)) [
    | inl more ↦ absurd (none-some (PathBytes bytes) (sym e ∙ cond-true (nat_lt max_changed_bytes bytes) (Some (PathBytes bytes)) None more))
    | inr fits ↦ ltb-false max_changed_bytes bytes fits
  ],
  λ fits. cond-false (nat_lt max_changed_bytes bytes) (Some (PathBytes bytes)) None (le-ltb max_changed_bytes bytes fits),
)

pub taken_alone : TakenAlone
taken_alone t confirmed rs tree = (
  λ e.
      let a = (or_none (ill_formed (sight_of t) rs) _).0 e in
      let b = (or_none (first_fault (unconfirmed (sight_of t) confirmed rs) rs) (too_many_bytes (changed_bytes (sight_of t) rs))).0 a.1 in
      record {
        well_formed = (well_formed_alone t rs tree).0 a.0;
        victims = λ r p listed victim. (confirmed_row t confirmed rs r).0 ((fault_none (unconfirmed (sight_of t) confirmed rs) rs).0 b.0 r listed) p victim;
        fits = (fits_none (changed_bytes (sight_of t) rs)).0 b.1;
      },
  λ can.
      (or_none (ill_formed (sight_of t) rs) _).1 (
        (well_formed_alone t rs tree).1 can.well_formed,
        (or_none (first_fault (unconfirmed (sight_of t) confirmed rs) rs) (too_many_bytes (changed_bytes (sight_of t) rs))).1 (
          (fault_none (unconfirmed (sight_of t) confirmed rs) rs).1 (λ r listed. (confirmed_row t confirmed rs r).1 (λ p victim. can.victims r p listed victim)),
          (fits_none (changed_bytes (sight_of t) rs)).1 can.fits,
        ),
      ),
)
