-- The knots of flat changes are their cycles.
use Rattle.std.proofs.Common.{◌≡◌, ◌⊎◌, inl, inr, ℕ, ◌+◌, ◌==◌, true, false, not, List, [], ◌∷◌, ◌++◌, map, length, refl, sym, ◌∙◌, ap, subst, arith, length-append, Some, Contains}
use Rattle.std.specs.List.{list_any}
use Rattle.std.proofs.lemmas.Grind.{flat_map-append}
use Rattle.std.proofs.lemmas.Bool.{cases_Bool, not_from_false, false_from_ne_true, eqb-true, eq-eqb}
use Rattle.std.proofs.lemmas.List.Elements.{Contains-append_right, Contains-append_left, Contains-append_cases}
use Rattle.dired_text.specs.Paths.{Names}
use Rattle.edit_words.specs.declared.row.Row.{Row}
use Rattle.edit_laws.proofs.ListLemmas.{contains_head, contains_tail, contains_none, contains_cases, contains_filter, filter_parts, any_parts, any_from, contains_map}
use Rattle.edit_laws.proofs.RowLemmas.{written-to}
use Rattle.plan_moves.specs.Waiting.{Waiting, is_ready, NoneReady, without, put_away}
use Rattle.plan_moves.proofs.Order.{Counts, over, carry, knot}
use Rattle.plan_moves.proofs.Number.{none_left, deepest-contains}
use Rattle.plan_moves.proofs.AtMost.{deepest-here}
use Rattle.least_renames.specs.Cycles.{GoesRound, IsCycle, HasNoRepeats, edits_of, AreCycles}
use Rattle.least_renames.proofs.ListLemmas.{no_repeats_joined, no_repeats_without, no_repeats_apart, no_repeats_back, split_at}
use Rattle.least_renames.proofs.CycleLemmas.{next_in, cycles_meet, edits_from, cycle_of}
use Rattle.least_renames.proofs.WalkLemmas.{CycleThrough, cycle_through, source_path}
use Rattle.least_renames.proofs.StateLemmas.{WaitsHere, waits_here, new_path_of, AreFlatRows, AreWaiting, next_waits, blocked, moves_here, listed_here, moving_here, waiting_less, waiting_put, here_before, here_after}

-- ---- cycles of alike edits

pub alike_cycles : (M N : Row → Type 0) (cycles : List (List Row)) → ((r : Row) → Contains (edits_of cycles) r → M r → N r) → ((r : Row) → N r → M r) → AreCycles M cycles → AreCycles N cycles
alike_cycles M N cycles to back are = record {
  each = are.each;
  move = λ r c. to r c (are.move r c);
  once = are.once;
  all = λ c cycle move. are.all c cycle (λ r d. back r (move r d));
}

-- where nothing moves there is none
no_cycles : (M : Row → Type 0) (cycles : List (List Row)) → ((r : Row) → M r → ⊥) → AreCycles M cycles → length cycles ≡ 0
no_cycles M [] none are = refl
no_cycles M (c ∷ cycles) none are = absurd (first c (are.each c (contains_head c cycles)).1 (λ r d. are.move r (edits_from (c ∷ cycles) c r (contains_head c cycles) d)))
  where
    first : (c : List Row) → GoesRound c → ((r : Row) → Contains c r → M r) → ⊥
    first [] cycle move = cycle
    first (r ∷ rs) cycle move = none r (move r (contains_head r rs))

no_edits : (M : Row → Type 0) → ((r : Row) → M r → ⊥) → AreCycles M []
no_edits M none = record {
  each = λ c d. absurd (contains_none c d);
  move = λ r d. absurd (contains_none r d);
  once = tt;
  all = λ c cycle move. absurd (first c cycle.1 move);
}
  where
    first : (c : List Row) → GoesRound c → ((r : Row) → Contains c r → M r) → ⊥
    first [] cycle move = cycle
    first (r ∷ rs) cycle move = none r (move r (contains_head r rs))

-- the edits of some cycles before and behind another one
edits_split : (front : List (List Row)) (c : List Row) (back : List (List Row)) → edits_of (front ++ c ∷ back) ≡ edits_of front ++ (c ++ edits_of back)
edits_split front c back = flat_map-append (λ (c : List Row). c) front (c ∷ back)

module _ (rs : List Row) (fine : AreFlatRows rs) where
  module _ (ws : List Waiting) (are : AreWaiting rs ws) where
    -- what is on a cycle isn't ready
    on_cycle : (c : List Row) → GoesRound c → ((r : Row) → Contains c r → WaitsHere ws r) → (w : Waiting) → Contains ws w → Contains c w.row → is_ready ws w ≡ false
    on_cycle c cycle here w listed on =
        let next = next_in c cycle w.row on in
        let to = new_path_of w.row (moves_here rs fine ws are w.row (here w.row on)) in
        blocked rs fine ws are w next.0 (here next.0 next.1) (sym next.2 ∙ to.1 ∙ ap (λ (p : Names). Some p) (sym (written-to w.row to.0 to.1)))

    -- so it waits still where a ready one is gone,
    stays_here : (w : Waiting) → Contains ws w → is_ready ws w ≡ true → (c : List Row) → GoesRound c → ((r : Row) → Contains c r → WaitsHere ws r) → (r : Row) → Contains c r → WaitsHere (without w ws) r
    stays_here w listed ready c cycle here r on =
        contains_filter (λ (v : Waiting). not (v.row.line == w.row.line)) ws (record { row = r; is_away = false }) (here r on)
        (not_from_false (r.line == w.row.line) (false_from_ne_true (r.line == w.row.line) (λ same.
        let is : r ≡ w.row = fine.lines r w.row (listed_here rs fine ws are r (here r on)) (are.listed w listed) (eqb-true r.line w.row.line same) in
        let both : true ≡ false = sym ready ∙ on_cycle c cycle here w listed (subst (Contains c) is on) in cc)))

    was_here : (w : Waiting) (r : Row) → WaitsHere (without w ws) r → WaitsHere ws r
    was_here w r here = (filter_parts (λ (v : Waiting). not (v.row.line == w.row.line)) ws (record { row = r; is_away = false }) here).0

    -- and where none is ready a cycle goes through each that waits at its source
    through : NoneReady ws → (d : Row) → WaitsHere ws d → CycleThrough (WaitsHere ws) d
    through no_one d here = cycle_through (WaitsHere ws) (moving_here rs fine ws are) next (map (λ (w : Waiting). source_path w.row) ws)
        (λ r at. contains_map (λ (w : Waiting). source_path w.row) ws (record { row = r; is_away = false }) at) d here
      where
        next : (r : Row) → WaitsHere ws r → (o : Row) × WaitsHere ws o × (r.to ≡ o.source)
        next r at =
            let to = new_path_of r (moves_here rs fine ws are r at) in
            let found = next_waits rs fine ws are (record { row = r; is_away = false }) at (no_one (record { row = r; is_away = false }) at) in
            (found.0, found.1, to.1 ∙ ap (λ (p : Names). Some p) (sym (written-to r to.0 to.1)) ∙ sym found.2)

    -- two cycles of those that wait at their sources, with an edit in common
    meet : (c e : List Row) → GoesRound c → GoesRound e → ((r : Row) → Contains c r → WaitsHere ws r) → ((r : Row) → Contains e r → WaitsHere ws r)
        → (x : Row) → Contains c x → Contains e x → (y : Row) → Contains c y → Contains e y
    meet = cycles_meet (WaitsHere ws) (moving_here rs fine ws are)

    module _ (d : Waiting) (d_here : WaitsHere ws d.row) where
      gone : WaitsHere (put_away d ws) d.row → ⊥
      gone here = (here_before rs fine d ws d.row here).1 refl

      before : (r : Row) → WaitsHere (put_away d ws) r → WaitsHere ws r
      before r here = (here_before rs fine d ws r here).0

      -- another one waits still
      still : (r : Row) → WaitsHere ws r → (d.row ≡ r → ⊥) → WaitsHere (put_away d ws) r
      still r here other = here_after rs fine d ws r here (λ same. other (sym (fine.lines r d.row (listed_here rs fine ws are r here) (listed_here rs fine ws are d.row d_here) same)))

      -- the cycles but the one of what was put away
      left_over : (front : List (List Row)) (c : List Row) (back : List (List Row)) → Contains c d.row → AreCycles (WaitsHere ws) (front ++ c ∷ back) → AreCycles (WaitsHere (put_away d ws)) (front ++ back)
      left_over front c back on cycles = record {
        each = λ x listed. cycles.each x (among x (Contains-append_cases front back x listed));
        move = λ r listed. still r (cycles.move r (edits_among r listed)) (λ same. outside r listed (subst (Contains c) same on));
        once = subst HasNoRepeats (sym (flat_map-append (λ (c : List Row). c) front back)) (no_repeats_without (edits_of front) c (edits_of back) parts);
        all = all;
      }
        where
          parts : HasNoRepeats (edits_of front ++ (c ++ edits_of back))
          parts = subst HasNoRepeats (edits_split front c back) cycles.once

          among : (x : List Row) → Contains front x ⊎ Contains back x → Contains (front ++ c ∷ back) x
          among x (inl first) = Contains-append_left front (c ∷ back) x first
          among x (inr last) = Contains-append_right front (c ∷ back) x (contains_tail c x back last)

          sides : (r : Row) → Contains (edits_of (front ++ back)) r → Contains (edits_of front) r ⊎ Contains (edits_of back) r
          sides r listed = Contains-append_cases (edits_of front) (edits_of back) r (subst (λ (l : List Row). Contains l r) (flat_map-append (λ (c : List Row). c) front back) listed)

          edits_among : (r : Row) → Contains (edits_of (front ++ back)) r → Contains (edits_of (front ++ c ∷ back)) r
          edits_among r listed = subst (λ (l : List Row). Contains l r) (sym (edits_split front c back)) (elim (sides r listed) [
            | inl first ↦ Contains-append_left (edits_of front) (c ++ edits_of back) r first
            | inr last ↦ Contains-append_right (edits_of front) (c ++ edits_of back) r (Contains-append_right c (edits_of back) r last)
          ])

          outside : (r : Row) → Contains (edits_of (front ++ back)) r → Contains c r → ⊥
          outside r listed in_c = elim (sides r listed) [
            | inl first ↦ no_repeats_apart (edits_of front) (c ++ edits_of back) parts r first (Contains-append_left c (edits_of back) r in_c)
            | inr last ↦ no_repeats_apart c (edits_of back) (no_repeats_back (edits_of front) (c ++ edits_of back) parts) r in_c last
          ]

          c_listed : Contains (front ++ c ∷ back) c
          c_listed = Contains-append_right front (c ∷ back) c (contains_head c back)

          all : (x : List Row) → IsCycle x → ((r : Row) → Contains x r → WaitsHere (put_away d ws) r) → (r : Row) × Contains x r × Contains (edits_of (front ++ back)) r
          all x cycle move = by_side (Contains-append_cases (edits_of front) (c ++ edits_of back) shared.0 (subst (λ (l : List Row). Contains l shared.0) (edits_split front c back) shared.2))
            where
              shared : (r : Row) × Contains x r × Contains (edits_of (front ++ c ∷ back)) r
              shared = cycles.all x cycle (λ r at. before r (move r at))

              kept : Contains (edits_of front) shared.0 ⊎ Contains (edits_of back) shared.0 → Contains (edits_of (front ++ back)) shared.0
              kept side = subst (λ (l : List Row). Contains l shared.0) (sym (flat_map-append (λ (c : List Row). c) front back)) (elim side [
                | inl first ↦ Contains-append_left (edits_of front) (edits_of back) shared.0 first
                | inr last ↦ Contains-append_right (edits_of front) (edits_of back) shared.0 last
              ])

              by_side : Contains (edits_of front) shared.0 ⊎ Contains (c ++ edits_of back) shared.0 → (r : Row) × Contains x r × Contains (edits_of (front ++ back)) r
              by_side (inl first) = (shared.0, shared.1, kept (inl first))
              by_side (inr later) = elim (Contains-append_cases c (edits_of back) shared.0 later) [
                | inl in_c ↦ absurd (gone (move d.row (meet c x (cycles.each c c_listed).1 cycle.1
                    (λ r at. cycles.move r (edits_from (front ++ c ∷ back) c r c_listed at)) (λ r at. before r (move r at)) shared.0 in_c shared.1 d.row on)))
                | inr last ↦ (shared.0, shared.1, kept (inr last))
              ]

      -- one of the cycles goes through what is put away
      one_through : NoneReady ws → (cycles : List (List Row)) → AreCycles (WaitsHere ws) cycles → (c : List Row) × Contains cycles c × Contains c d.row
      one_through no_one cycles all =
          let own = through no_one d.row d_here in
          let shared = all.all (d.row ∷ own.rest) (own.once, own.cycle) own.move in
          let c = cycle_of cycles shared.0 shared.2 in
          (c.0, c.1, meet (d.row ∷ own.rest) c.0 own.cycle (all.each c.0 c.1).1 own.move (λ r at. all.move r (edits_from cycles c.0 r c.1 at)) shared.0 shared.1 c.2 d.row (contains_head d.row own.rest))

      -- and the other way round
      joined : (own : CycleThrough (WaitsHere ws) d.row) (cycles : List (List Row)) → AreCycles (WaitsHere (put_away d ws)) cycles → AreCycles (WaitsHere ws) ((d.row ∷ own.rest) ∷ cycles)
      joined own cycles rest = record {
        each = λ x listed. elim (contains_cases (d.row ∷ own.rest) x cycles listed) [ inl same ↦ subst IsCycle same (own.once, own.cycle) | inr later ↦ rest.each x later ];
        move = λ r listed. elim (Contains-append_cases (d.row ∷ own.rest) (edits_of cycles) r listed) [ inl here ↦ own.move r here | inr later ↦ before r (rest.move r later) ];
        once = no_repeats_joined (d.row ∷ own.rest) (edits_of cycles) own.once rest.once apart;
        all = all;
      }
        where
          apart : (x : Row) → Contains (d.row ∷ own.rest) x → Contains (edits_of cycles) x → ⊥
          apart x here there =
              let e = cycle_of cycles x there in
              gone (rest.move d.row (edits_from cycles e.0 d.row e.1
              (meet (d.row ∷ own.rest) e.0 own.cycle (rest.each e.0 e.1).1 own.move (λ r at. before r (rest.move r (edits_from cycles e.0 r e.1 at))) x here e.2 d.row (contains_head d.row own.rest))))

          all : (x : List Row) → IsCycle x → ((r : Row) → Contains x r → WaitsHere ws r) → (r : Row) × Contains x r × Contains ((d.row ∷ own.rest) ++ edits_of cycles) r
          all x cycle move = go (cases_Bool (list_any (λ (r : Row). r.line == d.row.line) x))
            where
              go : (list_any (λ (r : Row). r.line == d.row.line) x ≡ true) ⊎ (list_any (λ (r : Row). r.line == d.row.line) x ≡ false) → (r : Row) × Contains x r × Contains ((d.row ∷ own.rest) ++ edits_of cycles) r
              go (inl some) =
                  let r = any_parts (λ (r : Row). r.line == d.row.line) x some in
                  let is : r.0 ≡ d.row = fine.lines r.0 d.row (listed_here rs fine ws are r.0 (move r.0 r.1)) (listed_here rs fine ws are d.row d_here) (eqb-true r.0.line d.row.line r.2) in
                  (d.row, subst (Contains x) is r.1, Contains-append_left (d.row ∷ own.rest) (edits_of cycles) d.row (contains_head d.row own.rest))
              go (inr none) =
                  let shared = rest.all x cycle (λ r at. still r (move r at) (λ same.
                  let both : true ≡ false = sym (any_from (λ (r : Row). r.line == d.row.line) x r at (eq-eqb r.line d.row.line (ap (λ (y : Row). y.line) (sym same)))) ∙ none in cc)) in
                  (shared.0, shared.1, Contains-append_right (d.row ∷ own.rest) (edits_of cycles) shared.0 shared.2)

      one_more : NoneReady ws → (cycles : List (List Row)) → AreCycles (WaitsHere (put_away d ws)) cycles → (c : List Row) × AreCycles (WaitsHere ws) (c ∷ cycles)
      one_more no_one cycles rest = let own = through no_one d.row d_here in (d.row ∷ own.rest, joined own cycles rest)

  -- ---- the count

  pub counted : (ws : List Waiting) (k : ℕ) → AreWaiting rs ws → Counts ws k → (cycles : List (List Row)) → AreCycles (WaitsHere ws) cycles → k ≡ length cycles
  counted ws k are (over _ no_one end) cycles all = sym (no_cycles (WaitsHere ws) cycles (λ r here. contains_none (record { row = r; is_away = false }) (subst (λ (l : List Waiting). WaitsHere l r) (none_left ws no_one end) here)) all)
  counted ws k are (carry _ w _ listed ready rest) cycles all = counted (without w ws) k (waiting_less rs fine (λ (v : Waiting). not (v.row.line == w.row.line)) ws are) rest cycles
      (alike_cycles (WaitsHere ws) (WaitsHere (without w ws)) cycles
      (λ r c here. let e = cycle_of cycles r c in stays_here ws are w listed ready e.0 (all.each e.0 e.1).1 (λ o at. all.move o (edits_from cycles e.0 o e.1 at)) r e.2)
      (λ r here. was_here ws are w r here) all)
  counted ws k are (knot _ d j no_one is rest) cycles all =
      let here : WaitsHere ws d.row = waits_here ws d (deepest-contains ws d is) (deepest-here ws d is) in
      let c = one_through ws are d here no_one cycles all in
      let at = split_at cycles c.0 c.1 in
      let less = left_over ws are d here at.0 c.0 at.1 c.2 (subst (AreCycles (WaitsHere ws)) at.2 all) in
      let more : j ≡ length (at.0 ++ at.1) = counted (put_away d ws) j (waiting_put rs fine d ws are) rest (at.0 ++ at.1) less in
      let long = ap length at.2 in
      let a : length (at.0 ++ c.0 ∷ at.1) ≡ length at.0 + length (c.0 ∷ at.1) = length-append at.0 (c.0 ∷ at.1) in
      let b : length (at.0 ++ at.1) ≡ length at.0 + length at.1 = length-append at.0 at.1 in
      omega arith

  pub found : (ws : List Waiting) (k : ℕ) → AreWaiting rs ws → Counts ws k → (cycles : List (List Row)) × AreCycles (WaitsHere ws) cycles
  found ws k are (over _ no_one end) = ([], no_edits (WaitsHere ws) (λ r here. contains_none (record { row = r; is_away = false }) (subst (λ (l : List Waiting). WaitsHere l r) (none_left ws no_one end) here)))
  found ws k are (carry _ w _ listed ready rest) =
      let more = found (without w ws) k (waiting_less rs fine (λ (v : Waiting). not (v.row.line == w.row.line)) ws are) rest in (
        more.0,
        record {
          each = more.1.each;
          move = λ r c. was_here ws are w r (more.1.move r c);
          once = more.1.once;
          all = λ c cycle move. more.1.all c cycle (λ r at. stays_here ws are w listed ready c cycle.1 move r at);
        },
      )
  found ws k are (knot _ d j no_one is rest) =
      let here : WaitsHere ws d.row = waits_here ws d (deepest-contains ws d is) (deepest-here ws d is) in
      let more = found (put_away d ws) j (waiting_put rs fine d ws are) rest in
      let one = one_more ws are d here no_one more.0 more.1 in
      (one.0 ∷ more.0, one.1)
