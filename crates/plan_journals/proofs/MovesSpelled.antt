-- A journal can spell the moves: in whatever order ready changes are carried out, none leads above or below itself.
use Rattle.std.proofs.Common.{◌≡◌, ◌⊎◌, inl, inr, ℕ, ◌+◌, ◌<◌, ◌≤◌, ◌^◌, ◌==◌, not, ◌||◌, ◌&&◌, Bool, true, false, List, [], ◌∷◌, length, refl, sym, ◌∙◌, ap, subst, arith, length-append, Option, Some, None, is_some, eqb-true}
use Rattle.std.specs.Prelude.{Contains, unwrap_or}
use Rattle.std.specs.List.{AllByRecursion, list_any}
use Rattle.std.proofs.lemmas.Bool.{cond-true, cond-false, cases_Bool, and_parts, and_from, or_cases, or_parts, or_left, or_right, not-true, false_from_ne_true, eq-eqb}
use Rattle.std.proofs.lemmas.Option.{none-some}
use Rattle.dired_text.specs.Paths.{Names, parent}
use Rattle.commit_steps.specs.declared.step.Step.{Step}
use Rattle.commit_steps.specs.declared.step.Step.TheVariants.{Rename}
use Rattle.commit_steps.specs.Staging.{staged, temporary}
use Rattle.commit_steps.specs.Steps.{IsOutside, IsEntryPath, IsLawfulStep}
use Rattle.edit_words.specs.declared.row.Row.{Row}
use Rattle.edit_words.specs.Edited.{is_fresh}
use Rattle.edit_words.specs.Place.{IsAbove}
use Rattle.edit_words.specs.Rows.{row_from, written, is_at, is_elsewhere, is_elsewhere_of, is_same_path, last_name}
use Rattle.edit_words.specs.Sight.{Sight}
use Rattle.edit_words.proofs.AboveLemmas.{above_decides}
use Rattle.edit_words.proofs.SameLemmas.{same_path}
use Rattle.edit_laws.proofs.ListLemmas.{contains_filter, filter_parts, contains_map, map_parts, any_from}
use Rattle.edit_laws.proofs.PlacedIsTree.{some_of}
use Rattle.edit_laws.proofs.RowLemmas.{front_last, row_from-some, written-to, written-none, is_at-same}
use Rattle.plan_moves.specs.Waiting.{Waiting, waiting, HasDifferentLines, NoneReady, deepest, is_free, is_ready, is_unkept, is_above_source, keeps_in_place, put_away, without}
use Rattle.plan_moves.specs.Moves.{Moves, Spots, over, carry, knot, spot_of, with_spot, fresh_spots}
use Rattle.plan_moves.proofs.AtMost.{count_here, here_less, put_one, deepest-here}
use Rattle.plan_moves.proofs.Number.{own_lines, distinct_less, distinct_put, deepest-contains}
use Rattle.plan_moves.proofs.Order.{put}
use Rattle.plan_moves.proofs.StepCount.{waiting_listed, waiting_different}
use Rattle.plan_laws.proofs.AtSource.{none_below}
use Rattle.plan_laws.proofs.SoFarApart.{below_cases}
use Rattle.plan_laws.proofs.WaitLemmas.{longest}
use Rattle.plan_laws.proofs.WellLemmas.{waits_at_first, waiting_as, waiting_has, fresh_spot}
use Rattle.plan_journals.proofs.PlanCosts.{few_here}
use Rattle.plan_journals.proofs.Taken.{AreTaken}
use Rattle.plan_journals.proofs.StepPaths.{temporary_entry, fresh_entry, put_in, put_out, outside_root}

-- a change with a new path
record Goes (r : Row) : Type 0 where
  source : Names
  to : Names
  from_is : r.source ≡ Some source
  to_is : r.to ≡ Some to

-- a change waits at its source
record WaitsThere (ws : List Waiting) (r : Row) : Type 0 where
  wait : Waiting
  listed : Contains ws wait
  row : wait.row ≡ r
  here : wait.is_away ≡ false

-- What holds between two moves: above a source at which a change waits, each change with a new path waits at its source.
record AreOrdered (rs : List Row) (n : ℕ) (spots : Spots) (ws : List Waiting) : Type 0 where
  listed : (w : Waiting) → Contains ws w → Contains rs w.row
  different : HasDifferentLines ws
  goes : (w : Waiting) → Contains ws w → w.is_away ≡ false → Goes w.row
  entries : (w : Waiting) → Contains ws w → w.is_away ≡ true → IsEntryPath (spots w.row.line)
  above : (w : Waiting) (s a : Names) (o : Row) → Contains ws w → w.is_away ≡ false → w.row.source ≡ Some s → IsAbove a s → Contains rs o → o.source ≡ Some a → is_some o.to ≡ true → WaitsThere ws o
  room : n + count_here ws ≤ 2 ^ 32

not_not : (b : Bool) → not b ≡ false → b ≡ true
not_not true e = refl
not_not false e = cc

longer : (a s : Names) → IsAbove a s → length a < length s
longer a s above = let long = ap length above.2 ∙ length-append a (above.0 ∷ above.1) in omega arith

module _ (sight : Sight) (rs : List Row) (set : AreTaken sight rs) where
  -- ---- at first

  not_fresh : (r : Row) → is_fresh r ≡ false → (is_fresh r || is_some r.to) ≡ true → Goes r
  not_fresh r old waits =
      let s = some_of r.source (not_not _ (or_parts r.retargets _ old).1) in
      let x = some_of r.to (second (is_fresh r) (is_some r.to) old waits) in
      record { source = s.0; to = x.0; from_is = s.1; to_is = x.1 }
    where
      second : (a b : Bool) → a ≡ false → (a || b) ≡ true → b ≡ true
      second true b e waits = cc
      second false b e waits = waits

  old_above : (o r : Row) (s a : Names) → Contains rs o → Contains rs r → r.source ≡ Some s → IsAbove a s → o.source ≡ Some a → is_fresh o ≡ false
  old_above o r s a co cr source up at = false_from_ne_true _ (λ fresh. elim (or_cases o.retargets _ fresh) [
    | inl link ↦ set.links o a co link at (set.above s a (set.stands r s cr source) up)
    | inr made ↦ let both : true ≡ false = sym made ∙ ap (λ (x : Option Names). not (is_some x)) at in cc
  ])

  ordered_at_first : AreOrdered rs 0 (fresh_spots 0 rs) (waiting rs)
  ordered_at_first = record {
    listed = waiting_listed rs;
    different = waiting_different rs set.rise;
    goes = λ w c here. let as_first = waiting_as rs w c in not_fresh w.row (sym as_first.1 ∙ here) as_first.0;
    entries = λ w c away.
        let f = fresh_spot 0 rs w.row set.rise (waiting_listed rs w c) (sym (waiting_as rs w c).1 ∙ away) in
        let most : f.number < 0 + length rs = f.most in
        let few = set.few in
        subst IsEntryPath (sym f.is) (fresh_entry f.number (omega arith));
    above = λ w s a o c here source up co at to. record {
      wait = waits_at_first o;
      listed = waiting_has rs o co (or_right (is_fresh o) (is_some o.to) to);
      row = refl;
      here = old_above o w.row s a co (waiting_listed rs w c) source up at;
    };
    room = let few = set.few in let here = few_here rs in omega arith;
  }

  module _ (n : ℕ) (spots : Spots) (ws : List Waiting) (order : AreOrdered rs n spots ws) where
    -- ---- one is carried out

    module _ (w : Waiting) (c : Contains ws w) (ready : is_ready ws w ≡ true) where
      was : (v : Waiting) → Contains (without w ws) v → Contains ws v
      was v d = (filter_parts _ ws v d).0

      keeps : (v : Waiting) (s a : Names) → v.is_away ≡ false → v.row.source ≡ Some s → IsAbove a s → keeps_in_place a v ≡ true
      keeps v s a here source up = or_left _ _ (and_from _ _ (ap not here) (ap (is_above_source a) source ∙ (above_decides a s).1 up))

      -- what keeps a path in place doesn't let it be carried out
      not_this : (v u : Waiting) (s a : Names) (o : Row) → Contains ws v → v.is_away ≡ false → v.row.source ≡ Some s → IsAbove a s → o.source ≡ Some a → Contains ws u → u.row ≡ o → u.is_away ≡ false
          → u.row.line ≡ w.row.line → ⊥
      not_this v u s a o cv here source up at cu row stays line =
          let same : u ≡ w = own_lines ws order.different u w cu c line in
          let source_w : w.row.source ≡ Some a = ap (λ (x : Waiting). x.row.source) (sym same) ∙ ap (λ (x : Row). x.source) row ∙ at in
          let here_w : w.is_away ≡ false = ap (λ (x : Waiting). x.is_away) (sym same) ∙ stays in
          let second = (and_parts (is_free ws (written w.row)) _ ready).1 in
          elim (or_cases w.is_away _ second) [
            | inl away ↦ let both : true ≡ false = sym away ∙ here_w in cc
            | inr unkept ↦
                let free : not (list_any (keeps_in_place a) ws) ≡ true = sym (ap (is_unkept ws) source_w) ∙ unkept in
                let both : true ≡ false = sym (any_from (keeps_in_place a) ws v cv (keeps v s a here source up)) ∙ not-true _ free in cc
          ]

      still_there : (v : Waiting) (s a : Names) (o : Row) → Contains ws v → v.is_away ≡ false → v.row.source ≡ Some s → IsAbove a s → o.source ≡ Some a → WaitsThere ws o → WaitsThere (without w ws) o
      still_there v s a o cv here source up at there = record {
        wait = there.wait;
        listed = contains_filter _ ws there.wait there.listed (ap not (false_from_ne_true _ (λ same.
            not_this v there.wait s a o cv here source up at there.listed there.row there.here (eqb-true there.wait.row.line w.row.line same))));
        row = there.row;
        here = there.here;
      }

      ordered_carried : AreOrdered rs n spots (without w ws)
      ordered_carried = record {
        listed = λ v d. order.listed v (was v d);
        different = distinct_less _ ws order.different;
        goes = λ v d. order.goes v (was v d);
        entries = λ v d. order.entries v (was v d);
        above = λ v s a o d here source up co at to. still_there v s a o (was v d) here source up at (order.above v s a o (was v d) here source up co at to);
        room = let less : count_here (without w ws) ≤ count_here ws = here_less _ ws in let room = order.room in omega arith;
      }

      -- its written path is neither above nor below its source
      near_long : (s x : Names) → w.row.source ≡ Some s → w.row.to ≡ Some x → is_elsewhere w.row ≡ false → length s ≡ length x
      near_long s x source to near =
          let test : not (is_same_path (parent s) (parent x)) ≡ false = sym (ap (λ (o : Option Names). is_elsewhere_of o w.row.to) source ∙ ap (is_elsewhere_of (Some s)) to) ∙ near in
          let same = ap length (same_path (parent s) (parent x) (not_not _ test)) in
          let long_s = ap length (front_last s (outside_root s (set.outside w.row s (order.listed w c) (inl source)))) ∙ length-append (parent s) (last_name s ∷ []) in
          let long_x = ap length (front_last x (outside_root x (set.outside w.row x (order.listed w c) (inr to)))) ∙ length-append (parent x) (last_name x ∷ []) in
          omega arith

      not_below : (s x : Names) → w.row.source ≡ Some s → w.row.to ≡ Some x → IsAbove s x → ⊥
      not_below s x source to up = elim (cases_Bool (is_elsewhere w.row)) [
        | inl far ↦ set.unmoved w.row s (order.listed w c) far (source, ap is_some to) (subst (IsAbove s) (sym (written-to w.row x to)) up)
        | inr near ↦ let level = near_long s x source to near in let more = longer s x up in omega arith
      ]

      not_above : (s x : Names) → w.is_away ≡ false → w.row.source ≡ Some s → w.row.to ≡ Some x → IsAbove x s → ⊥
      not_above s x here source to up =
          let cr = order.listed w c in
          let dir = set.above s x (set.stands w.row s cr source) up in
          let o = some_of (row_from rs x) (set.replaceable w.row x cr to dir) in
          let at = row_from-some rs x o.0 o.1 in
          by_to o.0 at.0 at.1 (o.0).to refl
        where
          by_to : (o : Row) → Contains rs o → o.source ≡ Some x → (y : Option Names) → o.to ≡ y → ⊥
          by_to o co at None none =
              let row : w.row ≡ o = set.lines w.row o (order.listed w c) co (set.to_one w.row o (order.listed w c) co (written-to w.row x to ∙ sym (written-none o x at none))) in
              none-some x (sym none ∙ ap (λ (r : Row). r.to) (sym row) ∙ to)
          by_to o co at (Some y) some =
              let u = order.above w s x o c here source up co at (ap is_some some) in
              let free : is_free ws x ≡ true = ap (is_free ws) (sym (written-to w.row x to)) ∙ (and_parts (is_free ws (written w.row)) _ ready).0 in
              let there : (not u.wait.is_away && is_at x u.wait.row.source) ≡ true = and_from _ _ (ap not u.here) (is_at-same x u.wait.row.source (ap (λ (r : Row). r.source) u.row ∙ at)) in
              let both : true ≡ false = sym (any_from (λ (v : Waiting). not v.is_away && is_at x v.row.source) ws u.wait u.listed there) ∙ not-true _ free in
              absurd cc

      written_outside : IsOutside (written w.row)
      written_outside = by_to w.row.to refl
        where
          by_source : w.row.to ≡ None → (o : Option Names) → w.row.source ≡ o → IsOutside (written w.row)
          by_source none None no_source = let f = set.created w.row (order.listed w c) no_source in absurd (none-some f.0 (sym none ∙ f.1))
          by_source none (Some s) source = subst IsOutside (sym (written-none w.row s source none)) (set.outside w.row s (order.listed w c) (inl source))

          by_to : (o : Option Names) → w.row.to ≡ o → IsOutside (written w.row)
          by_to None none = by_source none w.row.source refl
          by_to (Some x) to = subst IsOutside (sym (written-to w.row x to)) (set.outside w.row x (order.listed w c) (inr to))

      carried_spelled : IsLawfulStep (Rename (spot_of spots w) (written w.row))
      carried_spelled = by_place (cases_Bool w.is_away)
        where
          by_place : (w.is_away ≡ true) ⊎ (w.is_away ≡ false) → IsLawfulStep (Rename (spot_of spots w) (written w.row))
          by_place (inl away) = subst (λ (from : Names). IsLawfulStep (Rename from (written w.row))) (sym (cond-true w.is_away (spots w.row.line) (unwrap_or w.row.source []) away))
              (put_out (spots w.row.line) (written w.row) (order.entries w c away) written_outside)
          by_place (inr here) =
              let g = order.goes w c here in
              subst (λ (from : Names). IsLawfulStep (Rename from (written w.row))) (sym (cond-false w.is_away (spots w.row.line) (unwrap_or w.row.source []) here ∙ ap (λ (o : Option Names). unwrap_or o []) g.from_is))
              (subst (λ (dest : Names). IsLawfulStep (Rename g.source dest)) (sym (written-to w.row g.to g.to_is)) (
                inl (set.outside w.row g.source (order.listed w c) (inl g.from_is)),
                inl (set.outside w.row g.to (order.listed w c) (inr g.to_is)),
                none_below g.source g.to (λ r e. elim (below_cases g.source g.to r e) [
                  | inl same ↦ set.goes w.row g.to (order.listed w c) (g.from_is ∙ ap (λ (l : Names). Some l) (sym same)) g.to_is
                  | inr up ↦ not_below g.source g.to g.from_is g.to_is up
                ]),
                none_below g.to g.source (λ r e. elim (below_cases g.to g.source r e) [
                  | inl same ↦ set.goes w.row g.source (order.listed w c) g.from_is (g.to_is ∙ ap (λ (l : Names). Some l) (sym same))
                  | inr up ↦ not_above g.source g.to here g.from_is g.to_is up
                ]),
              ))

    -- ---- one is put aside

    module _ (d : Waiting) (no_one : NoneReady ws) (deepest_is : deepest ws ≡ Some d) where
      in_ws : Contains ws d
      in_ws = deepest-contains ws d deepest_is

      at_source : d.is_away ≡ false
      at_source = deepest-here ws d deepest_is

      data Put (v : Waiting) : Type 0 where
        itself : v.row.line ≡ d.row.line → v.is_away ≡ true → Put v
        other : Contains ws v → (v.row.line == d.row.line) ≡ false → Put v

      put_cases : (v : Waiting) → Contains (put_away d ws) v → Put v
      put_cases v cv = let m = map_parts (put d) ws v cv in by_line m.0 m.1 m.2 (cases_Bool (m.0.row.line == d.row.line))
        where
          by_line : (x : Waiting) → Contains ws x → put d x ≡ v → ((x.row.line == d.row.line) ≡ true) ⊎ ((x.row.line == d.row.line) ≡ false) → Put v
          by_line x cx is (inl same) =
              let v_is : record x { is_away = true } ≡ v = sym (cond-true _ (record x { is_away = true }) x same) ∙ is in
              itself (ap (λ (y : Waiting). y.row.line) (sym v_is) ∙ eqb-true x.row.line d.row.line same) (ap (λ (y : Waiting). y.is_away) (sym v_is))
          by_line x cx is (inr differs) =
              let kept : x ≡ v = sym (cond-false _ (record x { is_away = true }) x differs) ∙ is in
              other (subst (Contains ws) kept cx) (ap (λ (y : Waiting). y.row.line == d.row.line) (sym kept) ∙ differs)

      row_listed : (v : Waiting) → Contains (put_away d ws) v → Contains rs v.row
      row_listed v cv = let m = map_parts (put d) ws v cv in subst (Contains rs) (row_kept m.0 ∙ ap (λ (y : Waiting). y.row) m.2) (order.listed m.0 m.1)
        where
          row_kept : (x : Waiting) → x.row ≡ (put d x).row
          row_kept x = elim (cases_Bool (x.row.line == d.row.line)) [
            | inl same ↦ sym (ap (λ (y : Waiting). y.row) (cond-true _ (record x { is_away = true }) x same))
            | inr differs ↦ sym (ap (λ (y : Waiting). y.row) (cond-false _ (record x { is_away = true }) x differs))
          ]

      was_there : (v : Waiting) → Put v → v.is_away ≡ false → Contains ws v
      was_there v (itself line away) here = let both : true ≡ false = sym away ∙ here in absurd cc
      was_there v (other cv differs) here = cv

      entry_now : (v : Waiting) → Put v → v.is_away ≡ true → IsEntryPath (with_spot spots d.row.line (staged (temporary n)) v.row.line)
      entry_now v (itself line away) is = subst IsEntryPath (sym (cond-true (v.row.line == d.row.line) (staged (temporary n)) (spots v.row.line) (eq-eqb v.row.line d.row.line line)))
          (temporary_entry n (let one = put_one d ws in_ws at_source in let room = order.room in omega arith))
      entry_now v (other cv differs) is = subst IsEntryPath (sym (cond-false (v.row.line == d.row.line) (staged (temporary n)) (spots v.row.line) differs)) (order.entries v cv is)

      not_it : (v u : Waiting) (s a : Names) (o : Row) → Contains ws v → v.is_away ≡ false → v.row.source ≡ Some s → IsAbove a s → o.source ≡ Some a → Contains ws u → u.row ≡ o → u.row.line ≡ d.row.line → ⊥
      not_it v u s a o cv here source up at cu row line =
          let same : u ≡ d = own_lines ws order.different u d cu in_ws line in
          let source_d : d.row.source ≡ Some a = ap (λ (x : Waiting). x.row.source) (sym same) ∙ ap (λ (x : Row). x.source) row ∙ at in
          let less = longest ws d v a s (λ x cx stays. let g = order.goes x cx stays in (g.source, g.from_is)) deepest_is cv here source source_d in
          let long = longer a s up in
          omega arith

      stays_there : (v : Waiting) (s a : Names) (o : Row) → Contains ws v → v.is_away ≡ false → v.row.source ≡ Some s → IsAbove a s → o.source ≡ Some a → WaitsThere ws o → WaitsThere (put_away d ws) o
      stays_there v s a o cv here source up at there =
          let differs = false_from_ne_true (there.wait.row.line == d.row.line) (λ same. not_it v there.wait s a o cv here source up at there.listed there.row (eqb-true there.wait.row.line d.row.line same)) in
          record {
            wait = there.wait;
            listed = subst (Contains (put_away d ws)) (cond-false _ (record there.wait { is_away = true }) there.wait differs) (contains_map (put d) ws there.wait there.listed);
            row = there.row;
            here = there.here;
          }

      ordered_put : AreOrdered rs (n + 1) (with_spot spots d.row.line (staged (temporary n))) (put_away d ws)
      ordered_put = record {
        listed = row_listed;
        different = distinct_put d ws order.different;
        goes = λ v cv here. order.goes v (was_there v (put_cases v cv) here) here;
        entries = λ v cv away. entry_now v (put_cases v cv) away;
        above = λ v s a o cv here source up co at to.
            let before = was_there v (put_cases v cv) here in
            stays_there v s a o before here source up at (order.above v s a o before here source up co at to);
        room = let one = put_one d ws in_ws at_source in let room = order.room in omega arith;
      }

      put_spelled : IsLawfulStep (Rename (spot_of spots d) (staged (temporary n)))
      put_spelled =
          let g = order.goes d in_ws at_source in
          subst (λ (from : Names). IsLawfulStep (Rename from (staged (temporary n)))) (sym (cond-false d.is_away (spots d.row.line) (unwrap_or d.row.source []) at_source ∙ ap (λ (o : Option Names). unwrap_or o []) g.from_is))
          (put_in g.source (staged (temporary n)) (set.outside d.row g.source (order.listed d in_ws) (inl g.from_is))
          (temporary_entry n (let one = put_one d ws in_ws at_source in let room = order.room in omega arith)))

  all_spelled : (n : ℕ) (spots : Spots) (ws : List Waiting) (steps : List Step) → AreOrdered rs n spots ws → Moves n spots ws steps → AllByRecursion IsLawfulStep steps
  all_spelled n spots ws steps order (over _ _ _ no_one end) = tt
  all_spelled n spots ws steps order (carry _ _ _ w rest c ready moves) = (
    carried_spelled n spots ws order w c ready,
    all_spelled n spots (without w ws) rest (ordered_carried n spots ws order w c ready) moves,
  )
  all_spelled n spots ws steps order (knot _ _ _ d rest no_one is moves) = (
    put_spelled n spots ws order d no_one is,
    all_spelled (n + 1) (with_spot spots d.row.line (staged (temporary n))) (put_away d ws) rest (ordered_put n spots ws order d no_one is) moves,
  )

  pub moves_spelled : (steps : List Step) → Moves 0 (fresh_spots 0 rs) (waiting rs) steps → AllByRecursion IsLawfulStep steps
  moves_spelled steps moves = all_spelled 0 (fresh_spots 0 rs) (waiting rs) steps ordered_at_first moves
