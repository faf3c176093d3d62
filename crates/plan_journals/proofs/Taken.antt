-- What holds of the rows of changes that aren't refused of a sight in which directories stand above what stands.
use Rattle.std.proofs.Common.{◌≡◌, ◌≢◌, ◌⊎◌, inl, inr, ℕ, ◌<◌, ◌≤◌, ◌==◌, not, ◌&&◌, Bool, true, false, List, ◌++◌, length, refl, sym, ◌∙◌, ap, subst, arith, Option, Some, None, is_some, IsTrue, eqb-true}
use Rattle.std.specs.Prelude.{Contains}
use Rattle.std.proofs.lemmas.Bool.{cond-true, cases_Bool, and_parts, and_from}
use Rattle.std.proofs.lemmas.Option.{none-some, same_Some}
use Rattle.std.proofs.lemmas.List.Elements.{All-contains}
use Rattle.dired_text.specs.Paths.{Names, is_below, rest_below}
use Rattle.dired_text.proofs.PathLemmas.{rest_below-append}
use Rattle.tree_core.specs.declared.node.Kind.{Kind}
use Rattle.tree_core.specs.declared.node.Kind.TheVariants as kind
use Rattle.tree_core.specs.declared.edit.Edit.{Edit}
use Rattle.tree_core.specs.declared.edit.Shown.{Shown}
use Rattle.tree_core.specs.declared.changes.Removal.{Removal}
use Rattle.tree_core.specs.declared.changes.Creation.{Creation}
use Rattle.tree_core.specs.declared.changes.Changes.{Changes}
use Rattle.tree_core.specs.declared.changes.Changes.TheVariants.{Edits, Removals, Creations}
use Rattle.tree_core.specs.declared.changes.Confirmed.{Confirmed}
use Rattle.commit_steps.specs.Staging.{staging}
use Rattle.commit_steps.specs.Steps.{IsOutside, IsModeBits}
use Rattle.edit_words.specs.declared.row.Row.{Row}
use Rattle.edit_words.specs.declared.seen.Seen.{Seen}
use Rattle.edit_words.specs.declared.seen.Seen.TheVariants.{Dir, Link, File}
use Rattle.edit_words.specs.declared.fault.CheckFault.{CheckFault}
use Rattle.edit_words.specs.declared.fault.CheckFault.TheVariants.{Stale, TargetIsDirectory}
use Rattle.edit_words.specs.Place.{IsAbove}
use Rattle.edit_words.specs.Refusals.{staging as reserved_path, fault_if, first_fault, is_dir_shown, is_link_shown, is_as_shown, is_stale_at, stale, reserved, two_to_one, mode_clash, parents, parent_not_directory, moved_parent, parent_taken, path_too_long, across, victim_at, victim_of, if_dir, directory_replaced, refusal}
use Rattle.edit_words.specs.Rows.{rows, edit_row, removal_row, creation_row, written, is_elsewhere, is_source}
use Rattle.edit_words.specs.Found.{seen_mode}
use Rattle.edit_words.specs.Sight.{Sight, is_dir}
use Rattle.edit_words.specs.WellFormed.{AreAsked, IsEdit, IsMover, IsNoRoot, LinesRise, max_changes}
use Rattle.edit_words.proofs.FindLemmas.{or_none, map_none, then_none, unless_none, fault_none}
use Rattle.edit_words.proofs.RefusalLemmas.{unreserved_row, to_one_row, unmoved_row}
use Rattle.edit_laws.proofs.ListLemmas.{map_parts, ordered, one, before, after}
use Rattle.edit_laws.proofs.PlacedIsTree.{some_of}
use Rattle.plan_laws.proofs.MovesLead.{outside_path}
use Rattle.plan_laws.proofs.StagedNames.{one_staging}

-- a change of a mode that is asked for
pub record NewMode (sight : Sight) (s : Names) (old new : ℕ) : Type 0 where
  pub seen_as : seen_mode (sight.at s) ≡ Some old
  pub bits : IsModeBits new
  pub differ : old ≢ new

pub record AreTaken (sight : Sight) (rs : List Row) : Type 0 where
  pub rise : LinesRise rs
  pub few : length rs ≤ max_changes
  pub lines : (r o : Row) → Contains rs r → Contains rs o → r.line ≡ o.line → r ≡ o
  -- paths are neither the root nor in the staging directory
  pub outside : (r : Row) (p : Names) → Contains rs r → (r.source ≡ Some p) ⊎ (r.to ≡ Some p) → IsOutside p
  -- what is changed stands, and above it are directories
  pub stands : (r : Row) (s : Names) → Contains rs r → r.source ≡ Some s → IsTrue (is_some (sight.at s))
  pub above : (p u : Names) → IsTrue (is_some (sight.at p)) → IsAbove u p → is_dir (sight.at u) ≡ true
  -- a link is no directory
  pub links : (r : Row) (s : Names) → Contains rs r → r.retargets ≡ true → r.source ≡ Some s → is_dir (sight.at s) ≡ true → ⊥
  -- what has no source is made
  pub created : (r : Row) → Contains rs r → r.source ≡ None → (w : Names) × (r.to ≡ Some w)
  -- a new path isn't the source
  pub goes : (r : Row) (p : Names) → Contains rs r → r.source ≡ Some p → r.to ≡ Some p → ⊥
  pub to_one : (r o : Row) → Contains rs r → Contains rs o → written r ≡ written o → r.line ≡ o.line
  -- nothing goes below itself
  pub unmoved : (r : Row) (s : Names) → Contains rs r → is_elsewhere r ≡ true → IsMover r s → IsAbove s (written r) → ⊥
  -- no directory is replaced
  pub replaceable : (r : Row) (p : Names) → Contains rs r → r.to ≡ Some p → is_dir (sight.at p) ≡ true → is_source rs p ≡ true
  pub modes : (r : Row) (s : Names) (was : Shown) (new : ℕ) → Contains rs r → r.source ≡ Some s → r.was ≡ Some was → r.mode ≡ Some new → NewMode sight s was.mode new

-- ---- what a line shows

no_fault : (b : Bool) (f : CheckFault) → fault_if b f ≡ None → b ≡ false
no_fault true f e = absurd (none-some f (sym e))
no_fault false f e = refl

shown_stands : (was : Shown) (o : Option Seen) → is_as_shown was o ≡ true → IsTrue (is_some o)
shown_stands was None e = absurd cc
shown_stands was (Some x) e = refl

is_link : (k : Kind) → is_link_shown k ≡ true → k ≡ kind.Link
is_link kind.Link e = refl
is_link kind.File e = absurd cc
is_link kind.Dir e = absurd cc

link_no_dir : (was : Shown) (o : Option Seen) → was.kind ≡ kind.Link → is_as_shown was o ≡ true → is_dir o ≡ true → ⊥
link_no_dir was None link e dir = cc
link_no_dir was (Some (Dir mode)) link e dir = let both : true ≡ false = sym (and_parts (is_dir_shown was.kind) _ e).0 ∙ ap is_dir_shown link in cc
link_no_dir was (Some (Link target)) link e dir = cc
link_no_dir was (Some (File number mode)) link e dir = cc

mode_shown : (was : Shown) (o : Option Seen) → was.kind ≢ kind.Link → is_as_shown was o ≡ true → seen_mode o ≡ Some was.mode
mode_shown was None other e = absurd cc
mode_shown was (Some (Dir mode)) other e = ap (λ (m : ℕ). Some m) (eqb-true mode was.mode (and_parts (is_dir_shown was.kind) _ e).1)
mode_shown was (Some (Link target)) other e = absurd (other (is_link was.kind (and_parts (is_link_shown was.kind) _ e).0))
mode_shown was (Some (File number mode)) other e = ap (λ (m : ℕ). Some m) (eqb-true mode was.mode (and_parts _ (mode == was.mode) e).1)

-- a row is that of a change
data KindOf (r : Row) : Type 0 where
  edit : (e : Edit) → IsEdit e → r ≡ edit_row e → KindOf r
  removal : (e : Removal) → r ≡ removal_row e → KindOf r
  creation : (c : Creation) → r ≡ creation_row c → KindOf r

kind_of : (changes : Changes) → AreAsked changes → (r : Row) → Contains (rows changes) r → KindOf r
kind_of (Edits edits) asked r c = let m = map_parts edit_row edits r c in edit m.0 (All-contains IsEdit edits m.0 asked.lawful m.1) (sym m.2)
kind_of (Removals removals) asked r c = let m = map_parts removal_row removals r c in removal m.0 (sym m.2)
kind_of (Creations creations) asked r c = let m = map_parts creation_row creations r c in creation m.0 (sym m.2)

-- ---- what isn't refused

record NoFault (sight : Sight) (rs : List Row) (r : Row) : Type 0 where
  fresh : stale sight r ≡ None
  unreserved : reserved r ≡ None
  two : two_to_one rs r ≡ None
  parents : parents sight rs r ≡ None
  replaces : directory_replaced sight rs r ≡ None

no_faults : (sight : Sight) (confirmed : Confirmed) (rs : List Row) → refusal sight confirmed rs ≡ None → (r : Row) → Contains rs r → NoFault sight rs r
no_faults sight confirmed rs taken r c =
    let formed = (or_none _ _).0 ((or_none _ _).0 taken).0 in
    let a = (or_none (first_fault (stale sight) rs) _).0 formed.1 in
    let b = (or_none (first_fault (across sight rs) rs) _).0 a.1 in
    let d = (or_none (first_fault (directory_replaced sight rs) rs) _).0 b.1 in
    let whole : across sight rs r ≡ None = (fault_none (across sight rs) rs).0 b.0 r c in
    let one = (or_none (reserved r) _).0 whole in
    let two = (or_none (two_to_one rs r) _).0 one.1 in
    let three = (or_none (mode_clash sight rs r) _).0 two.1 in
    let four = (or_none (parents sight rs r) (path_too_long rs r)).0 three.1 in
    record {
      fresh = (fault_none (stale sight) rs).0 a.0 r c;
      unreserved = one.0;
      two = two.0;
      parents = four.0;
      replaces = (fault_none (directory_replaced sight rs) rs).0 d.0 r c;
    }

module _ (sight : Sight) (confirmed : Confirmed) (changes : Changes) (asked : AreAsked changes) (taken : refusal sight confirmed (rows changes) ≡ None)
    (above : (p u : Names) → IsTrue (is_some (sight.at p)) → IsAbove u p → is_dir (sight.at u) ≡ true) where
  free : (r : Row) → Contains (rows changes) r → NoFault sight (rows changes) r
  free r c = no_faults sight confirmed (rows changes) taken r c

  shown : (r : Row) (s : Names) (was : Shown) → Contains (rows changes) r → r.source ≡ Some s → r.was ≡ Some was → is_as_shown was (sight.at s) ≡ true
  shown r s was c source is =
      let e = no_fault (is_stale_at sight r.source r.was) (Stale r.line) (free r c).fresh in
      let f : not (is_as_shown was (sight.at s)) ≡ false = sym (ap (λ (o : Option Names). is_stale_at sight o r.was) source ∙ ap (is_stale_at sight (Some s)) is) ∙ e in
      not_not _ f
    where
      not_not : (b : Bool) → not b ≡ false → b ≡ true
      not_not true e = refl
      not_not false e = cc

  same_line : (r o : Row) → Contains (rows changes) r → Contains (rows changes) o → r.line ≡ o.line → r ≡ o
  same_line r o c d e = elim (ordered (λ (r o : Row). r.line < o.line) (rows changes) r o asked.lines c d) [
    | one same ↦ same
    | before less ↦ let less : r.line < o.line = less in absurd (omega arith)
    | after less ↦ let less : o.line < r.line = less in absurd (omega arith)
  ]

  in_staging : (p rest : Names) → p ≡ staging ++ rest → IsTrue (is_below reserved_path p)
  in_staging p rest is = ap is_some (ap (rest_below reserved_path) (is ∙ ap (λ (l : Names). l ++ rest) one_staging) ∙ rest_below-append reserved_path rest)

  outside_by : (r : Row) (p : Names) → Contains (rows changes) r → (r.source ≡ Some p) ⊎ (r.to ≡ Some p) → IsOutside p
  outside_by r p c at =
      let root : IsNoRoot r = All-contains IsNoRoot (rows changes) r asked.not_root c in
      let none = (unreserved_row r).0 (free r c).unreserved in
      outside_path p (λ e. elim at [
        | inl source ↦ root.0 (source ∙ ap (λ (l : Names). Some l) e)
        | inr to ↦ root.1 (to ∙ ap (λ (l : Names). Some l) e)
      ])
      (λ rest is. elim at [
        | inl source ↦ none (inl (p, source, in_staging p rest is))
        | inr to ↦ none (inr (p, to, in_staging p rest is))
      ])

  stands_as : (r : Row) (s : Names) → Contains (rows changes) r → r.source ≡ Some s → KindOf r → IsTrue (is_some (sight.at s))
  stands_as r s c source (edit e lawful is) = shown_stands e.was (sight.at s) (shown r s e.was c source (ap (λ (x : Row). x.was) is))
  stands_as r s c source (removal e is) = shown_stands e.was (sight.at s) (shown r s e.was c source (ap (λ (x : Row). x.was) is))
  stands_as r s c source (creation e is) = absurd (none-some s (sym (ap (λ (x : Row). x.source) is) ∙ source))

  links_as : (r : Row) (s : Names) → Contains (rows changes) r → r.retargets ≡ true → r.source ≡ Some s → is_dir (sight.at s) ≡ true → KindOf r → ⊥
  links_as r s c retargets source dir (edit e lawful is) =
      let target = some_of e.target (sym (ap (λ (x : Row). x.retargets) is) ∙ retargets) in
      link_no_dir e.was (sight.at s) (lawful.target target.0 target.1).0 (shown r s e.was c source (ap (λ (x : Row). x.was) is)) dir
  links_as r s c retargets source dir (removal e is) = let both : true ≡ false = sym retargets ∙ ap (λ (x : Row). x.retargets) is in cc
  links_as r s c retargets source dir (creation e is) = let both : true ≡ false = sym retargets ∙ ap (λ (x : Row). x.retargets) is in cc

  created_as : (r : Row) → r.source ≡ None → KindOf r → (w : Names) × (r.to ≡ Some w)
  created_as r none (edit e lawful is) = absurd (none-some e.source (sym none ∙ ap (λ (x : Row). x.source) is))
  created_as r none (removal e is) = absurd (none-some e.path (sym none ∙ ap (λ (x : Row). x.source) is))
  created_as r none (creation e is) = (e.to, ap (λ (x : Row). x.to) is)

  goes_as : (r : Row) (p : Names) → r.source ≡ Some p → r.to ≡ Some p → KindOf r → ⊥
  goes_as r p source to (edit e lawful is) = lawful.to (sym (ap (λ (x : Row). x.to) is) ∙ to ∙ sym source ∙ ap (λ (x : Row). x.source) is)
  goes_as r p source to (removal e is) = none-some p (sym (ap (λ (x : Row). x.to) is) ∙ to)
  goes_as r p source to (creation e is) = none-some p (sym (ap (λ (x : Row). x.source) is) ∙ source)

  unmoved_by : (r : Row) (s : Names) → Contains (rows changes) r → is_elsewhere r ≡ true → IsMover r s → IsAbove s (written r) → ⊥
  unmoved_by r s c far mover up =
      let whole = (unless_none (is_elsewhere r) _).0 (free r c).parents far in
      let later = (or_none (parent_not_directory sight r) _).0 whole in
      let moved = (or_none (moved_parent (rows changes) r) (parent_taken sight (rows changes) r)).0 later.1 in
      (unmoved_row (rows changes) r).0 moved.0 r s c mover up

  replaced_by : (r : Row) (p : Names) → Contains (rows changes) r → r.to ≡ Some p → is_dir (sight.at p) ≡ true → is_source (rows changes) p ≡ true
  replaced_by r p c to dir = go (cases_Bool (is_source (rows changes) p))
    where
      some : (o : Option Seen) → is_dir o ≡ true → is_some o ≡ true
      some None e = absurd cc
      some (Some x) e = refl

      go : (is_source (rows changes) p ≡ true) ⊎ (is_source (rows changes) p ≡ false) → is_source (rows changes) p ≡ true
      go (inl is) = is
      go (inr isnt) =
          let victim : victim_of sight (rows changes) r ≡ Some p =
          ap (victim_at sight (rows changes)) to
          ∙ cond-true (is_some (sight.at p) && not (is_source (rows changes) p)) (Some p) None (and_from _ _ (some (sight.at p) dir) (ap not isnt)) in
          let none = (then_none (victim_of sight (rows changes) r) (if_dir sight)).0 ((map_none (TargetIsDirectory r.line) _).0 (free r c).replaces) p victim in
          absurd (none-some p (sym none ∙ cond-true (is_dir (sight.at p)) (Some p) None dir))

  modes_as : (r : Row) (s : Names) (was : Shown) (new : ℕ) → Contains (rows changes) r → r.source ≡ Some s → r.was ≡ Some was → r.mode ≡ Some new → KindOf r → NewMode sight s was.mode new
  modes_as r s was new c source is_was mode (edit e lawful is) =
      let same : e.was ≡ was = same_Some e.was was (sym (ap (λ (x : Row). x.was) is) ∙ is_was) in
      let law = lawful.mode new (sym (ap (λ (x : Row). x.mode) is) ∙ mode) in
      subst (λ (w : Shown). NewMode sight s w.mode new) same (record {
        seen_as = mode_shown e.was (sight.at s) law.0 (shown r s e.was c source (ap (λ (x : Row). x.was) is));
        bits = law.2;
        differ = λ level. law.1 (sym level);
      })
  modes_as r s was new c source is_was mode (removal e is) = absurd (none-some new (sym (ap (λ (x : Row). x.mode) is) ∙ mode))
  modes_as r s was new c source is_was mode (creation e is) = absurd (none-some new (sym (ap (λ (x : Row). x.mode) is) ∙ mode))

  pub are_taken : AreTaken sight (rows changes)
  are_taken = record {
    rise = asked.lines;
    few = asked.count;
    lines = same_line;
    outside = outside_by;
    stands = λ r s c source. stands_as r s c source (kind_of changes asked r c);
    above = above;
    links = λ r s c retargets source dir. links_as r s c retargets source dir (kind_of changes asked r c);
    created = λ r c none. created_as r none (kind_of changes asked r c);
    goes = λ r p c source to. goes_as r p source to (kind_of changes asked r c);
    to_one = λ r o c d same. (to_one_row (rows changes) r).0 (free r c).two o d same;
    unmoved = unmoved_by;
    replaceable = replaced_by;
    modes = λ r s was new c source shown mode. modes_as r s was new c source shown mode (kind_of changes asked r c);
  }
