-- The mode steps lead from the end of the moves to the edited tree.
use Rattle.std.proofs.Common.{◌≡◌, ◌≢◌, ◌⊎◌, inl, inr, ℕ, ◌&&◌, Bool, true, false, not, List, [], ◌∷◌, map, refl, sym, ◌∙◌, ap, subst, Option, Some, None, is_some, IsTrue, eqb-true, eq-eqb}
use Rattle.std.specs.Prelude.{Contains, unwrap_or}
use Rattle.std.specs.FinMap.{get, find}
use Rattle.std.specs.Option.{option_map}
use Rattle.std.proofs.lemmas.Bool.{cases_Bool, and_parts, and_from, false_from_ne_true}
use Rattle.std.proofs.lemmas.Option.{none-some, same_Some}
use Rattle.std.proofs.lemmas.List.Elements.{All-contains}
use Rattle.dired_text.specs.Paths.{Names, path_cmp, rest_below}
use Rattle.commit_steps.specs.Staging.{staging, staged}
use Rattle.commit_steps.specs.Steps.{IsOutside}
use Rattle.tree_core.specs.declared.node.Node.{Node}
use Rattle.tree_core.specs.declared.node.Node.TheVariants.{Dir, Link, File}
use Rattle.tree_core.specs.declared.node.Kind.TheVariants as kind
use Rattle.tree_core.specs.declared.edit.Edit.{Edit}
use Rattle.tree_core.specs.declared.edit.Shown.{Shown}
use Rattle.tree_core.specs.declared.changes.Changes.{Changes}
use Rattle.tree_core.specs.declared.changes.Changes.TheVariants.{Edits, Removals, Creations}
use Rattle.tree_core.specs.FileTree.{FileTree, IsTree, IsMode, IsFile, has_mode_node, mode_of}
use Rattle.tree_core.proofs.TreeLemmas.{dir_stands}
use Rattle.edit_words.specs.declared.row.Row.{Row}
use Rattle.edit_words.specs.Place.{place}
use Rattle.edit_words.specs.Refusals.{are_same}
use Rattle.edit_words.specs.Rows.{rows, edit_row, removal_row, creation_row, route_of, is_kept, is_written, is_at, is_same_path}
use Rattle.edit_words.specs.Sight.{sight_of, seen, number_of, number_at}
use Rattle.edit_words.specs.Edited.{Came, IsPlaced, AreMadeFor, added_by, fresh_places, edited, with_new_mode, mode_named, node_number, is_number}
use Rattle.edit_words.specs.WellFormed.{IsEdit, ShowsNode, HasNumber, CanBeAsked}
use Rattle.edit_words.proofs.SameLemmas.{same_path, same_itself}
use Rattle.edit_laws.specs.Lines.{GivesMode}
use Rattle.edit_laws.proofs.ListLemmas.{map_parts, any_none, contains_head, contains_tail, contains_none, contains_cases}
use Rattle.edit_laws.proofs.PlaceLemmas.{place-apart}
use Rattle.edit_laws.proofs.PlacedIsTree.{Stayed, some_of}
use Rattle.edit_laws.proofs.PlacedLemmas.{determined}
use Rattle.edit_laws.proofs.RowLemmas.{row_there, is_at-true, kept_from, rows_apart, root_kept}
use Rattle.edit_laws.proofs.AddedLemmas.{Added, is_made, is_missing, added_as, zip_pair, nothing_added}
use Rattle.edit_laws.proofs.AskedLemmas.{AreMadeRows, made_are, no_link}
use Rattle.edit_laws.proofs.EditedLemmas.{edited-IsEdited}
use Rattle.edit_laws.proofs.LineLemmas.{carried_out, others_keep}
use Rattle.edit_rules.specs.Plans.{ModeChange, AreModes, mode_change_of, mode_changes, names_place}
use Rattle.edit_rules.specs.Tables.{names_mode}
use Rattle.plan_moves.specs.Plan.{mode_step}
use Rattle.plan_moves.specs.SoFar.{same_node}
use Rattle.plan_laws.specs.Laws.{ArePlanned}
use Rattle.plan_laws.proofs.Setting.{ArePlannedRows, planned_rows}
use Rattle.plan_laws.proofs.SoFarApart.{source_not_root}
use Rattle.plan_laws.proofs.StagedNames.{held_no_temporary, held_no_fresh}
use Rattle.step_trees.specs.Entries.{rest, IsTemporary, IsHeld, IsFresh}
use Rattle.step_trees.specs.Leads.{HoldsEntries, Ends, SetOthers}
use Rattle.step_trees.specs.Steps.{after}
use Rattle.step_trees.proofs.Without.{get-without_in, get-without_out, without-stood}
use Rattle.plan_ends.specs.Laws.{IsMoved}
use Rattle.plan_ends.specs.Runs.{IsRun}
use Rattle.plan_ends.proofs.EndPlaces.{not_staged_place}
use Rattle.plan_ends.proofs.RunLemmas.{run_ends}
use Rattle.plan_ends.proofs.ModeSteps.{meets, with_mode, changed_all, AreOthers, CanChange, after_modes, after_modes-none, modes_run, others_set, all_unmet, all_met, keeps_mode}
use Rattle.plan_ends.proofs.ModeCounts.{ComesFrom, comes_from, change_of, one_line, first_names, map_parts_some, contains_some, as_long, listed_too, few_changes, others_from}

-- only an edit names a mode
edit_of : (is_file : Names → Type 0) (changes : Changes) → CanBeAsked is_file changes → (r : Row) (mode : ℕ) → Contains (rows changes) r → r.mode ≡ Some mode → (e : Edit) × IsEdit e × (r ≡ edit_row e)
edit_of is_file (Edits edits) asked r mode c is = let m = map_parts edit_row edits r c in (m.0, All-contains IsEdit edits m.0 asked.lawful m.1, sym m.2)
edit_of is_file (Removals removals) asked r mode c is = let m = map_parts removal_row removals r c in absurd (none-some mode (ap (λ (x : Row). x.mode) m.2 ∙ is))
edit_of is_file (Creations creations) asked r mode c is = let m = map_parts creation_row creations r c in absurd (none-some mode (ap (λ (x : Row). x.mode) m.2 ∙ is))

has_mode_shown : (was : Shown) (node : Node) → was.kind ≢ kind.Link → ShowsNode was node → IsTrue (has_mode_node (Some node)) × (was.mode ≡ mode_of node)
has_mode_shown was (Dir m) other shows = (refl, shows.1)
has_mode_shown was (Link target) other shows = absurd (other shows.0)
has_mode_shown was (File n b m) other shows = (refl, shows.1)

number_is : (node : Node) (n : ℕ) → is_number n (node_number (Some node)) ≡ true → (bytes : List ℕ) × (mode : ℕ) × (node ≡ File n bytes mode)
number_is (Dir m) n e = cc
number_is (Link target) n e = cc
number_is (File k b m) n e = (b, m, ap (λ (x : ℕ). File x b m) (sym (eqb-true n k e)))

renewed : (t : FileTree) (rs : List Row) (p : Names) (node : Node) → with_mode (mode_of (with_new_mode t rs p node)) node ≡ with_new_mode t rs p node
renewed t rs p (Dir m) = refl
renewed t rs p (Link target) = refl
renewed t rs p (File n b m) = refl

own_mode : (node : Node) → with_mode (mode_of node) node ≡ node
own_mode (Dir m) = refl
own_mode (Link target) = refl
own_mode (File n b m) = refl

lawful_mode : (node : Node) (t : FileTree) (p : Names) → IsTree t → get t p ≡ Some node → IsTrue (has_mode_node (Some node)) → IsMode (mode_of node)
lawful_mode (Dir m) t p tree at has = tree.lawful p (Dir m) at
lawful_mode (Link target) t p tree at has = cc
lawful_mode (File n b m) t p tree at has = tree.lawful p (File n b m) at

seen_number : (o : Option Node) → number_of (option_map seen o) ≡ node_number o
seen_number None = refl
seen_number (Some (Dir m)) = refl
seen_number (Some (Link target)) = refl
seen_number (Some (File n b m)) = refl

same_number : (n : ℕ) (o : Option ℕ) → are_same (Some n) o ≡ true → o ≡ Some n
same_number n None e = cc
same_number n (Some m) e = ap (λ (x : ℕ). Some x) (sym (eqb-true n m e))

-- a change that meets the node, or none
search : (u : FileTree) (ms : List ModeChange) (q : Names) (node : Node)
    → ((m : ModeChange) × Contains ms m × (meets m.0 (get u m.0) q node ≡ true)) ⊎ ((m : ModeChange) → Contains ms m → meets m.0 (get u m.0) q node ≡ false)
search u [] q node = inr (λ m c. absurd (contains_none m c))
search u (m ∷ ms) q node = go (search u ms q node) (cases_Bool (meets m.0 (get u m.0) q node))
  where
    go : ((k : ModeChange) × Contains ms k × (meets k.0 (get u k.0) q node ≡ true)) ⊎ ((k : ModeChange) → Contains ms k → meets k.0 (get u k.0) q node ≡ false)
        → (meets m.0 (get u m.0) q node ≡ true) ⊎ (meets m.0 (get u m.0) q node ≡ false)
        → ((k : ModeChange) × Contains (m ∷ ms) k × (meets k.0 (get u k.0) q node ≡ true)) ⊎ ((k : ModeChange) → Contains (m ∷ ms) k → meets k.0 (get u k.0) q node ≡ false)
    go more (inl here) = inl (m, contains_head m ms, here)
    go (inl (k, c, it)) (inr other) = inl (k, contains_tail m k ms c, it)
    go (inr none) (inr other) = inr (λ k c. elim (contains_cases m k ms c) [
      | inl same ↦ ap (λ (x : ModeChange). meets x.0 (get u x.0) q node) (sym same) ∙ other
      | inr later ↦ none k later
    ])

module _ (t : FileTree) (changes : Changes) (made : List Node) (planned : ArePlanned t changes) (made_for : AreMadeFor t changes made)
    (now : FileTree) (holds : HoldsEntries now) (moved : IsMoved t (rows changes) made now) (ms : List ModeChange) (are : AreModes (sight_of t) (rows changes) ms) where
  set : ArePlannedRows t (rows changes)
  set = planned_rows t changes planned

  entries : AreMadeRows t (rows changes) made
  entries = made_are t changes planned.tree planned.asked made made_for

  -- ---- where a mode is named

  -- the source of a row that names a mode, and what stands there
  record Moded (r : Row) (s : Names) (was : Shown) (new : ℕ) : Type 0 where
    pub node : Node
    pub stood : get t s ≡ Some node
    pub has : IsTrue (has_mode_node (Some node))
    pub was_is : was.mode ≡ mode_of node
    pub differs : new ≢ was.mode
    pub lawful : IsMode new
    pub stayed : Stayed (is_kept (rows changes)) t s
    pub none : find path_cmp (place (route_of (rows changes)) s) (added_by t (rows changes) made) ≡ None

  moded : (r : Row) (s : Names) (was : Shown) (new : ℕ) → Contains (rows changes) r → r.source ≡ Some s → r.was ≡ Some was → r.mode ≡ Some new → Moded r s was new
  moded r s was new listed at shown mode = record {
    node = seen_as.0;
    stood = seen_as.1;
    has = kinds.0;
    was_is = kinds.1;
    differs = λ same. edit_mode.1 (same ∙ ap (λ (x : Shown). x.mode) was_e);
    lawful = edit_mode.2;
    stayed = stays;
    none = nothing_added t (rows changes) made planned.tree planned.well_formed set.are s stays no_link_there;
  }
    where
      e : (e : Edit) × IsEdit e × (r ≡ edit_row e)
      e = edit_of (IsFile t) changes planned.asked r new listed mode

      was_e : was ≡ e.0.was
      was_e = same_Some was e.0.was (sym shown ∙ ap (λ (x : Row). x.was) e.2)

      edit_mode : (e.0.was.kind ≢ kind.Link) × (new ≢ e.0.was.mode) × IsMode new
      edit_mode = e.1.mode new (sym (ap (λ (x : Row). x.mode) e.2) ∙ mode)

      seen_as : (n : Node) × (get t s ≡ Some n) × ShowsNode was n
      seen_as = planned.well_formed.shown r listed s was at shown

      kinds : IsTrue (has_mode_node (Some seen_as.0)) × (was.mode ≡ mode_of seen_as.0)
      kinds = has_mode_shown was seen_as.0 (λ link. edit_mode.0 (ap (λ (x : Shown). x.kind) (sym was_e) ∙ link)) seen_as.2

      one : (o : Row) → Contains (rows changes) o → o.source ≡ Some s → o ≡ r
      one o listed_o at_o = set.are.sources o r s listed_o listed at_o at

      stays : Stayed (is_kept (rows changes)) t s
      stays = record {
        kept = kept_from t (rows changes) planned.tree planned.well_formed set.are s
            (let f = row_there (rows changes) r s listed at in and_not (is_written (rows changes) s) (ap (λ (o : Option Row). is_some o) f.1))
            (any_none (λ (x : Row). x.removes && is_at s x.source) (rows changes) (λ x c. false_from_ne_true _ (λ both.
            let parts = and_parts x.removes (is_at s x.source) both in
            let same : x ≡ r = one x c (is_at-true s x.source parts.1) in
            let no_way : true ≡ false = sym parts.0 ∙ ap (λ (y : Row). y.removes) (same ∙ e.2) in
            cc)));
        stands = ap is_some seen_as.1;
      }
        where
          and_not : (b : Bool) {c : Bool} → c ≡ true → (b && not c) ≡ false
          and_not true e = ap not e
          and_not false e = refl

      no_link_there : (o : Row) → Contains (rows changes) o → o.retargets ≡ true → o.source ≡ Some s → ⊥
      no_link_there o listed_o retargets at_o =
          let link : is_some e.0.target ≡ true = sym (ap (λ (x : Row). x.retargets) (one o listed_o at_o ∙ e.2)) ∙ retargets in
          let target = some_of e.0.target link in
          edit_mode.0 (e.1.target target.0 target.1).0

  found_now : (p : Names) (node : Node) → is_kept (rows changes) p ≡ true → get t p ≡ Some node → find path_cmp (place (route_of (rows changes)) p) (added_by t (rows changes) made) ≡ None
      → get now (place (route_of (rows changes)) p) ≡ Some node
  found_now p node kept stood none = without-stood staging now (place (route_of (rows changes)) p) node (moved.placed.stay p node kept stood none)

  is_outside : (s : Names) → s ≢ [] → Stayed (is_kept (rows changes)) t s → IsOutside (place (route_of (rows changes)) s)
  is_outside s not_root stayed = go (place (route_of (rows changes)) s) refl
    where
      go : (q : Names) → place (route_of (rows changes)) s ≡ q → IsOutside q
      go [] e = not_root (place-apart (Stayed (is_kept (rows changes)) t) (route_of (rows changes)) (rows_apart t (rows changes) planned.tree planned.well_formed set.are) s [] stayed
          (record { kept = root_kept t (rows changes) planned.tree planned.well_formed set.are; stands = dir_stands _ planned.tree.root }) e)
      go (x ∷ q) e = λ same. not_staged_place t (rows changes) set s stayed.stands q (e ∙ ap (λ (y : List ℕ). y ∷ q) same)

  -- ---- the changes of the plan

  record Of (m : ModeChange) : Type 0 where
    pub row : Row
    pub listed : Contains (rows changes) row
    pub comes : ComesFrom (sight_of t) (rows changes) row m

  abbrev of_from : (r : Row) (m : ModeChange) → Contains (rows changes) r → ComesFrom (sight_of t) (rows changes) r m → Of m
  of_from r m listed comes = record { row = r; listed = listed; comes = comes }

  of : (m : ModeChange) → Contains ms m → Of m
  of m c =
      let listed = listed_too ms (mode_changes (sight_of t) (rows changes)) (as_long ms (mode_changes (sight_of t) (rows changes)) are.same) m c in
      let r = map_parts_some (mode_change_of (sight_of t) (rows changes)) (rows changes) m listed in
      of_from r.0 m r.1 (comes_from (sight_of t) (rows changes) r.0 m r.2)

  listed_change : (r : Row) (m : ModeChange) → Contains (rows changes) r → mode_change_of (sight_of t) (rows changes) r ≡ Some m → Contains ms m
  listed_change r m c e = listed_too (mode_changes (sight_of t) (rows changes)) ms (λ test. sym (as_long ms (mode_changes (sight_of t) (rows changes)) are.same test)) m
      (contains_some (mode_change_of (sight_of t) (rows changes)) (rows changes) r m c e)

  at_source : (m : ModeChange) (o : Of m) → Moded o.row o.comes.source o.comes.was m.2
  at_source m o = moded o.row o.comes.source o.comes.was m.2 o.listed o.comes.at o.comes.shown o.comes.mode

  found_at : (m : ModeChange) (o : Of m) → get now m.0 ≡ Some (at_source m o).node
  found_at m o = let a = at_source m o in ap (get now) o.comes.place_is ∙ found_now o.comes.source a.node a.stayed.kept a.stood a.none

  can : (m : ModeChange) → Contains ms m → CanChange now m
  can m c = by_of (of m c)
    where
      by_of : Of m → CanChange now m
      by_of o =
          let a = at_source m o in record {
            outside = subst IsOutside (sym o.comes.place_is) (is_outside o.comes.source (source_not_root t (rows changes) set o.row o.comes.source o.listed o.comes.at) a.stayed);
            was = subst (λ (x : Option Node). IsTrue (has_mode_node x) × (option_map mode_of x ≡ Some m.1)) (sym (found_at m o)) (a.has, ap (λ (x : ℕ). Some x) (sym (o.comes.old_is ∙ a.was_is)));
            old = subst IsMode (sym (o.comes.old_is ∙ a.was_is)) (lawful_mode a.node t o.comes.source planned.tree a.stood a.has);
            new = a.lawful;
            differ = λ same. a.differs (sym same ∙ o.comes.old_is);
          }

  numbered_at : (m : ModeChange) (o : Of m) (n : ℕ) → is_number n (node_number (get now m.0)) ≡ true → (b : List ℕ) × (k : ℕ) × (get t o.comes.source ≡ Some (File n b k))
  numbered_at m o n e =
      let a = at_source m o in
      let f = number_is a.node n (sym (ap (λ (x : Option Node). is_number n (node_number x)) (found_at m o)) ∙ e) in
      (f.0, f.1, a.stood ∙ ap (λ (x : Node). Some x) f.2)

  number_of_source : (m : ModeChange) (o : Of m) (n : ℕ) → is_number n (node_number (get now m.0)) ≡ true → number_at (sight_of t) o.row.source ≡ Some n
  number_of_source m o n e =
      let f = numbered_at m o n e in
      ap (number_at (sight_of t)) o.comes.at ∙ seen_number (get t o.comes.source) ∙ ap node_number f.2

  one_source : (m k : ModeChange) (o : Of m) (x : Of k) → m.0 ≡ k.0 → o.comes.source ≡ x.comes.source
  one_source m k o x same = place-apart (Stayed (is_kept (rows changes)) t) (route_of (rows changes)) (rows_apart t (rows changes) planned.tree planned.well_formed set.are) o.comes.source x.comes.source
      (at_source m o).stayed (at_source k x).stayed (sym o.comes.place_is ∙ same ∙ x.comes.place_is)

  others : AreOthers now ms
  others = others_from now ms
      (λ p. few_changes (sight_of t) (rows changes) ms set.rise are (λ (m : ModeChange). is_same_path p m.0) (λ r o a b cr co ca cb at_a at_b.
      let s : ca.source ≡ cb.source = one_source a b (of_from r a cr ca) (of_from o b co cb) (sym (same_path p a.0 at_a) ∙ same_path p b.0 at_b) in
      ap (λ (x : Row). x.line) (set.are.sources r o cb.source cr co (ca.at ∙ ap (λ (l : Names). Some l) s) cb.at)))
      (λ n. few_changes (sight_of t) (rows changes) ms set.rise are (λ (m : ModeChange). is_number n (node_number (get now m.0))) (λ r o a b cr co ca cb at_a at_b.
      one_line (sight_of t) (rows changes) r o n
      (sym (ap (names_place (sight_of t) (rows changes) r) (number_of_source a (of_from r a cr ca) n at_a)) ∙ ca.names)
      (sym (ap (names_place (sight_of t) (rows changes) o) (number_of_source b (of_from o b co cb) n at_b)) ∙ cb.names)))

  pub mode_run : IsRun now (map mode_step ms)
  mode_run = modes_run now ms now (λ p. refl) holds others can

  set_others : SetOthers now (map mode_step ms)
  set_others = others_set now ms others

  pub mode_run_others : IsRun now (map mode_step ms) × SetOthers now (map mode_step ms)
  mode_run_others = (mode_run, set_others)

  -- ---- what stands behind them

  named_mode : (m : ModeChange) (o : Of m) (n : ℕ) (b : List ℕ) (k : ℕ) → get t o.comes.source ≡ Some (File n b k) → unwrap_or (mode_named t (rows changes) n) k ≡ m.2
  named_mode m o n b k at = (carried_out t changes planned.asked planned.well_formed o.row o.comes.source o.listed o.comes.at).mode m.2 (File n b k) o.comes.mode at

  meets_placed : (p : Names) (node : Node) → Stayed (is_kept (rows changes)) t p → get t p ≡ Some node → (m : ModeChange) → Of m → meets m.0 (get now m.0) (place (route_of (rows changes)) p) node ≡ true
      → m.2 ≡ mode_of (with_new_mode t (rows changes) p node)
  meets_placed p (Dir k) stayed stood m o it =
      let s : o.comes.source ≡ p = place-apart (Stayed (is_kept (rows changes)) t) (route_of (rows changes)) (rows_apart t (rows changes) planned.tree planned.well_formed set.are) o.comes.source p
      (at_source m o).stayed stayed (sym o.comes.place_is ∙ same_path m.0 _ it) in
      sym ((carried_out t changes planned.asked planned.well_formed o.row p o.listed (o.comes.at ∙ ap (λ (l : Names). Some l) s)).mode m.2 (Dir k) o.comes.mode stood)
  meets_placed p (Link target) stayed stood m o it = cc
  meets_placed p (File n b k) stayed stood m o it =
      let f = numbered_at m o n it in
      let same = planned.tree.alike o.comes.source p n f.0 b f.1 k f.2 stood in
      sym (named_mode m o n f.0 f.1 f.2) ∙ ap (unwrap_or (mode_named t (rows changes) n)) same.1

  meets_added : (q : Names) (node : Node) → find path_cmp q (added_by t (rows changes) made) ≡ Some node → (m : ModeChange) → Of m → meets m.0 (get now m.0) q node ≡ true → m.2 ≡ mode_of node
  meets_added q (Dir k) found m o it = absurd (none-some (Dir k) (sym (at_source m o).none
      ∙ ap (λ (l : Names). find path_cmp l (added_by t (rows changes) made)) (sym o.comes.place_is ∙ same_path m.0 q it) ∙ found))
  meets_added q (Link target) found m o it = cc
  meets_added q (File n b l) found m o it = by_added (added_as t (rows changes) made planned.tree planned.well_formed set.are q (File n b l) found)
    where
      by_added : Added t (rows changes) made planned.tree planned.well_formed set.are q (File n b l) → m.2 ≡ l
      by_added (is_made e) =
          let f = numbered_at m o n it in
          let same = entries.as_named (File n b l) o.comes.source n b f.0 l f.1 (zip_pair (fresh_places (rows changes)) made q (File n b l) e).1 refl f.2 in
          sym (named_mode m o n f.0 f.1 f.2) ∙ sym same.1
      by_added (is_missing c dir) = let both : File n b l ≡ Dir 0o755 = dir in absurd cc

  -- what a row gives a mode, a change meets
  given_met : (p : Names) (node : Node) → is_kept (rows changes) p ≡ true → get t p ≡ Some node → (r : Row) → Contains (rows changes) r → GivesMode t r p node
      → (m : ModeChange) × Contains ms m × (meets m.0 (get now m.0) (place (route_of (rows changes)) p) node ≡ true)
  given_met p node kept stood r listed (some, which) = by_node node stood which
    where
      shown_of : (o : Row) → Contains (rows changes) o → (new : ℕ) → o.mode ≡ Some new → (was : Shown) × (o.was ≡ Some was)
      shown_of o listed_o new mode = let e = edit_of (IsFile t) changes planned.asked o new listed_o mode in (e.0.was, ap (λ (x : Row). x.was) e.2)

      by_file : (n : ℕ) (b : List ℕ) (k : ℕ) → HasNumber t r n → (m : ModeChange) × Contains ms m × (is_number n (node_number (get now m.0)) ≡ true)
      by_file n b k (s, bytes, mode, at, has) =
          let named : names_mode (sight_of t) n r ≡ true = and_from _ _
          (ap (are_same (Some n)) (ap (number_at (sight_of t)) at ∙ seen_number (get t s) ∙ ap node_number has) ∙ eq-eqb n n refl) some in
          let f = first_names (sight_of t) (rows changes) r n listed named in
          let parts = and_parts (are_same (Some n) (number_at (sight_of t) f.0.source)) (is_some f.0.mode) f.2 in
          of_first f.0 f.1 (same_number n _ parts.0) (some_of f.0.mode parts.1) f.3
        where
          of_first : (o : Row) → Contains (rows changes) o → number_at (sight_of t) o.source ≡ Some n → (new : ℕ) × (o.mode ≡ Some new) → names_place (sight_of t) (rows changes) o (Some n) ≡ true
              → (m : ModeChange) × Contains ms m × (is_number n (node_number (get now m.0)) ≡ true)
          of_first o listed_o number (new, is_new) names = by_source o.source refl
            where
              by_source : (x : Option Names) → o.source ≡ x → (m : ModeChange) × Contains ms m × (is_number n (node_number (get now m.0)) ≡ true)
              by_source None e = absurd (none-some n (sym (ap (number_at (sight_of t)) e) ∙ number))
              by_source (Some s') e =
                  let was = shown_of o listed_o new is_new in
                  let a = moded o s' was.0 new listed_o e was.1 is_new in
                  let number_is' : node_number (get t s') ≡ Some n = sym (seen_number (get t s')) ∙ sym (ap (number_at (sight_of t)) e) ∙ number in (
                    (place (route_of (rows changes)) s', was.0.mode, new),
                    listed_change o (place (route_of (rows changes)) s', was.0.mode, new) listed_o
                        (change_of (sight_of t) (rows changes) o s' was.0 new e was.1 is_new (ap (names_place (sight_of t) (rows changes) o) number ∙ names)),
                    ap (λ (x : Option Node). is_number n (node_number x)) (found_now s' a.node a.stayed.kept a.stood a.none ∙ sym a.stood) ∙ ap (is_number n) number_is' ∙ eq-eqb n n refl,
                  )

      by_node : (node : Node) → get t p ≡ Some node → (r.source ≡ Some p) ⊎ ((number : ℕ) × HasNumber t r number × (node_number (Some node) ≡ Some number))
          → (m : ModeChange) × Contains ms m × (meets m.0 (get now m.0) (place (route_of (rows changes)) p) node ≡ true)
      by_node (Dir k) at (inl source) =
          let new = some_of r.mode some in
          let was = shown_of r listed new.0 new.1 in
          let number : number_at (sight_of t) r.source ≡ None = ap (number_at (sight_of t)) source ∙ seen_number (get t p) ∙ ap node_number at in (
            (place (route_of (rows changes)) p, was.0.mode, new.0),
            listed_change r (place (route_of (rows changes)) p, was.0.mode, new.0) listed (change_of (sight_of t) (rows changes) r p was.0 new.0 source was.1 new.1 (ap (names_place (sight_of t) (rows changes) r) number)),
            same_itself (place (route_of (rows changes)) p),
          )
      by_node (Dir k) at (inr (number, has, is)) = absurd (none-some number is)
      by_node (Link target) at (inl source) = let new = some_of r.mode some in absurd (no_link t changes planned.asked planned.well_formed r p new.0 target listed source new.1 at)
      by_node (Link target) at (inr (number, has, is)) = absurd (none-some number is)
      by_node (File n b k) at (inl source) = by_file n b k (p, b, k, source, at)
      by_node (File n b k) at (inr (number, has, is)) = by_file n b k (subst (HasNumber t r) (sym (same_Some n number is)) has)

  became : (p : Names) (node : Node) → is_kept (rows changes) p ≡ true → get t p ≡ Some node → changed_all now ms (place (route_of (rows changes)) p) node ≡ with_new_mode t (rows changes) p node
  became p node kept stood = by_search (search now ms (place (route_of (rows changes)) p) node)
    where
      by_search : ((m : ModeChange) × Contains ms m × (meets m.0 (get now m.0) (place (route_of (rows changes)) p) node ≡ true)) ⊎ ((m : ModeChange) → Contains ms m → meets m.0 (get now m.0) (place (route_of (rows changes)) p) node ≡ false)
          → changed_all now ms (place (route_of (rows changes)) p) node ≡ with_new_mode t (rows changes) p node
      by_search (inl (m, c, it)) = all_met now ms (place (route_of (rows changes)) p) node (mode_of (with_new_mode t (rows changes) p node)) m c it
          (λ k d meets_k. meets_placed p node (record { kept = kept; stands = ap is_some stood }) stood k (of k d) meets_k) ∙ renewed t (rows changes) p node
      by_search (inr none) = all_unmet now ms (place (route_of (rows changes)) p) node none
          ∙ sym (others_keep t (rows changes) p node (λ r listed gives. let g = given_met p node kept stood r listed gives in let both : true ≡ false = sym g.2 ∙ none g.0 g.1 in cc))

  stays_added : (q : Names) (node : Node) → find path_cmp q (added_by t (rows changes) made) ≡ Some node → changed_all now ms q node ≡ node
  stays_added q node found = ap (changed_all now ms q) (sym (own_mode node)) ∙ keeps_mode now ms q node (mode_of node) (λ m c it. meets_added q node found m (of m c) it) ∙ own_mode node

  to_last : (q : Names) (node : Node) → get (rest now) q ≡ Some node → get (rest (after (map mode_step ms) now)) q ≡ Some (changed_all now ms q node)
  to_last q node e = by_rest (rest_below staging q) refl
    where
      by_rest : (o : Option Names) → rest_below staging q ≡ o → get (rest (after (map mode_step ms) now)) q ≡ Some (changed_all now ms q node)
      by_rest (Some more) is = absurd (none-some node (sym (get-without_in staging now q more is) ∙ e))
      by_rest None is = get-without_out staging _ q is ∙ after_modes now ms now (λ p. refl) q node (sym (get-without_out staging now q is) ∙ e)

  from_last : (q : Names) (node : Node) → get (rest (after (map mode_step ms) now)) q ≡ Some node → (before : Node) × (get (rest now) q ≡ Some before) × (node ≡ changed_all now ms q before)
  from_last q node e = by_before (get (rest now) q) refl
    where
      by_before : (o : Option Node) → get (rest now) q ≡ o → (before : Node) × (get (rest now) q ≡ Some before) × (node ≡ changed_all now ms q before)
      by_before (Some before) is = (before, is, same_Some node _ (sym e ∙ to_last q before is))
      by_before None is = absurd (by_rest (rest_below staging q) refl)
        where
          by_rest : (o : Option Names) → rest_below staging q ≡ o → ⊥
          by_rest (Some more) below = none-some node (sym (get-without_in staging _ q more below) ∙ e)
          by_rest None below = none-some node (sym (get-without_out staging _ q below ∙ after_modes-none ms now q (sym (get-without_out staging now q below) ∙ is)) ∙ e)

  placed : IsPlaced (added_by t (rows changes) made) (is_kept (rows changes)) (place (route_of (rows changes))) (with_new_mode t (rows changes)) t (rest (after (map mode_step ms) now))
  placed = record {
    added_stand = λ q node e. to_last q node (moved.placed.added_stand q node e) ∙ ap (λ (x : Node). Some x) (stays_added q node e);
    stay = λ p node kept stood none. to_last _ node (moved.placed.stay p node kept stood none) ∙ ap (λ (x : Node). Some x) (became p node kept stood);
    only = λ q node e. let b = from_last q node e in by_only q node b.0 b.2 (moved.placed.only q b.0 b.1);
  }
    where
      by_only : (q : Names) (node before : Node) → node ≡ changed_all now ms q before
          → IsTrue (is_some (find path_cmp q (added_by t (rows changes) made))) ⊎ Came (is_kept (rows changes)) (place (route_of (rows changes))) same_node t q before
          → IsTrue (is_some (find path_cmp q (added_by t (rows changes) made))) ⊎ Came (is_kept (rows changes)) (place (route_of (rows changes))) (with_new_mode t (rows changes)) t q node
      by_only q node before is (inl some) = inl some
      by_only q node before is (inr came) = inr (record {
        path = came.path;
        was = came.was;
        kept = came.kept;
        stood = came.stood;
        here = came.here;
        same = is ∙ ap (changed_all now ms q) came.same ∙ ap (λ (l : Names). changed_all now ms l came.was) (sym came.here) ∙ became came.path came.was came.kept came.stood;
      })

  -- the last tree is the edited one, and only what is put aside is left
  pub mode_ends : Ends (edited t (rows changes) made) (after (map mode_step ms) now)
  mode_ends = record {
    is = determined (is_kept (rows changes)) (place (route_of (rows changes))) (with_new_mode t (rows changes)) (added_by t (rows changes) made) t (rest (after (map mode_step ms) now)) (edited t (rows changes) made)
        placed (edited-IsEdited t (rows changes) made planned.tree planned.well_formed set.are);
    only = λ name node e. by_kind name node (last_holds.only name node e) (was_held name node e);
  }
    where
      last_holds : HoldsEntries (after (map mode_step ms) now)
      last_holds = run_ends (map mode_step ms) now mode_run

      was_held : (name : List ℕ) (node : Node) → get (after (map mode_step ms) now) (staged name) ≡ Some node → (before : Node) × IsHeld now name before
      was_held name node e = by_before (get now (staged name)) refl
        where
          by_before : (o : Option Node) → get now (staged name) ≡ o → (before : Node) × IsHeld now name before
          by_before None is = absurd (none-some node (sym (after_modes-none ms now (staged name) is) ∙ e))
          by_before (Some before) is = (before, moved.only name before is)

      by_kind : (name : List ℕ) (node : Node) → IsTemporary name ⊎ (IsHeld (after (map mode_step ms) now) name node ⊎ IsFresh name node) → (before : Node) × IsHeld now name before
          → IsHeld (after (map mode_step ms) now) name node
      by_kind name node (inl put) (before, h) = absurd (held_no_temporary h.number put.number (sym h.named ∙ put.named))
      by_kind name node (inr (inl is)) (before, h) = is
      by_kind name node (inr (inr f)) (before, h) = absurd (held_no_fresh h.number f.number (sym h.named ∙ f.named))
