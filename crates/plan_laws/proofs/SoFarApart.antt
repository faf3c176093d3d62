-- Between two moves the places are apart too: each path is parked in the staging directory, rests where it was, or went where its
-- change sends it.
use Rattle.std.proofs.Common.{◌≡◌, ◌≢◌, ◌⊎◌, inl, inr, ℕ, Bool, true, false, not, ◌&&◌, List, [], ◌∷◌, ◌++◌, length, refl, sym, ◌∙◌, ap, subst, arith, append_assoc, length-append, Option, Some, None, is_some, IsTrue}
use Rattle.std.specs.Prelude.{Contains}
use Rattle.std.proofs.lemmas.Bool.{cond-true, cond-false, cases_Bool, not_from_false}
use Rattle.std.proofs.lemmas.Option.{none-some, same_Some}
use Rattle.std.proofs.lemmas.List.{append-nil}
use Rattle.dired_text.specs.Paths.{Names, parent, rest_below, is_below}
use Rattle.dired_text.proofs.PathLemmas.{rest_below-append}
use Rattle.commit_steps.specs.Staging.{staging, staged}
use Rattle.tree_core.specs.FileTree.{FileTree, IsDir, Stands}
use Rattle.tree_core.proofs.TreeLemmas.{dir_stands, above_stands, absent_not}
use Rattle.edit_words.specs.declared.row.Row.{Row}
use Rattle.edit_words.specs.declared.row.Route.{Route}
use Rattle.edit_words.specs.declared.row.Route.TheVariants.{Stays, Named, Sent}
use Rattle.edit_words.specs.Place.{routed, IsAbove}
use Rattle.edit_words.specs.Refusals.{staging as reserved}
use Rattle.edit_words.specs.Rows.{row_from, is_source, route_to, written, is_elsewhere, is_elsewhere_of, is_same_path, last_name, is_victim}
use Rattle.edit_laws.proofs.PlaceLemmas.{IsApart, by_last, push_not_root}
use Rattle.edit_laws.proofs.RowLemmas.{row_from-some, one_row, written-to, written-none, route_to-written, is_written-from, not_victim}
use Rattle.plan_laws.proofs.StagedNames.{one_staging, staged_name}
use Rattle.plan_laws.proofs.Setting.{ArePlannedRows}

pub route_to-sent : (p v w : Names) → route_to p (Some v) ≡ Sent w → (v ≡ w) × (is_same_path (parent p) (parent v) ≡ false)
route_to-sent p v w is = go (cases_Bool (is_same_path (parent p) (parent v)))
  where
    go : (is_same_path (parent p) (parent v) ≡ true) ⊎ (is_same_path (parent p) (parent v) ≡ false) → (v ≡ w) × (is_same_path (parent p) (parent v) ≡ false)
    go (inl same) = let no_way : Named (last_name v) ≡ Sent w = sym (cond-true _ (Named (last_name v)) (Sent v) same) ∙ is in absurd cc
    go (inr other) = let is_v : Sent v ≡ Sent w = sym (cond-false _ (Named (last_name v)) (Sent v) other) ∙ is in (cc, other)

-- above a path in the staging directory
pub staged_front : (u : Names) (k : List ℕ) (rest : Names) (name : List ℕ) → staged name ≡ u ++ k ∷ rest → (u ≡ []) ⊎ (u ≡ staging)
staged_front [] k rest name e = inl refl
staged_front (x ∷ []) k rest name e = inr cc
staged_front (x ∷ y ∷ u) k rest name e = absurd (let long = ap length e in let more = length-append u (k ∷ rest) in omega arith)

pub below_cases : (s v r : Names) → v ≡ s ++ r → (v ≡ s) ⊎ IsAbove s v
below_cases s v [] is = inl (is ∙ append-nil s)
below_cases s v (x ∷ r) is = inr (x, r, is)

module _ (t : FileTree) (rs : List Row) (set : ArePlannedRows t rs) where
  -- nothing stands in the staging directory
  pub not_staged : (p rest : Names) → Stands t p → p ≡ staging ++ rest → ⊥
  not_staged p rest stands is = absent_not _ set.fine.unstaged (subst (Stands t) one_staging (above_stands t set.tree rest staging (subst (Stands t) is stands)))

  in_staging : (p rest : Names) → p ≡ staging ++ rest → IsTrue (is_below reserved p)
  in_staging p rest is = ap is_some (ap (rest_below reserved) (is ∙ ap (λ (l : Names). l ++ rest) one_staging) ∙ rest_below-append reserved rest)

  -- and nothing leads there
  pub not_reserved : (r : Row) (w rest : Names) → Contains rs r → r.to ≡ Some w → w ≡ staging ++ rest → ⊥
  not_reserved r w rest listed to is = set.fine.unreserved r listed (inr (w, to, in_staging w rest is))

  pub source_not_reserved : (r : Row) (s rest : Names) → Contains rs r → r.source ≡ Some s → s ≡ staging ++ rest → ⊥
  source_not_reserved r s rest listed source is = set.fine.unreserved r listed (inl (s, source, in_staging s rest is))

  pub to_not_root : (r : Row) (w : Names) → Contains rs r → r.to ≡ Some w → w ≢ []
  to_not_root r w listed to root = (set.are.not_root r listed).1 (to ∙ ap (λ (l : Names). Some l) root)

  pub source_not_root : (r : Row) (s : Names) → Contains rs r → r.source ≡ Some s → s ≢ []
  source_not_root r s listed source root = (set.are.not_root r listed).0 (source ∙ ap (λ (l : Names). Some l) root)

  pub elsewhere_from : (r : Row) (p w : Names) → r.source ≡ Some p → r.to ≡ Some w → is_same_path (parent p) (parent w) ≡ false → is_elsewhere r ≡ true
  elsewhere_from r p w source to other = ap (λ (y : Option Names). is_elsewhere_of y r.to) source ∙ ap (is_elsewhere_of (Some p)) to ∙ not_from_false _ other

  -- above a path outside of its source's directory nothing is written
  pub never_above : (r o : Row) (v : Names) → Contains rs r → Contains rs o → is_elsewhere r ≡ true → o.to ≡ Some v → IsAbove v (written r) → ⊥
  never_above r o v listed listed_o far to above = by_source (row_from rs v) refl
    where
      stands_v : Stands t v
      stands_v = subst (Stands t) (written-to o v to) (set.fine.untaken r o listed listed_o far (subst (λ (l : Names). IsAbove l (written r)) (sym (written-to o v to)) above))

      dir : IsDir t v
      dir = set.fine.parents r v listed far above stands_v

      by_source : (x : Option Row) → row_from rs v ≡ x → ⊥
      by_source None none =
          let victim : is_victim rs v ≡ true = ap (λ (b : Bool). b && not (is_source rs v)) (is_written-from rs o v listed_o to) ∙ ap (λ (x : Option Row). not (is_some x)) none in
          let both : true ≡ false = sym victim ∙ not_victim t rs set.tree set.fine set.are v dir in
          cc
      by_source (Some x) some = by_to x.to refl
        where
          found : Contains rs x × (x.source ≡ Some v)
          found = row_from-some rs v x some

          by_to : (y : Option Names) → x.to ≡ y → ⊥
          by_to (Some u) to_x = set.fine.unmoved r x v listed found.0 far (found.1, ap (λ (y : Option Names). is_some y) to_x) above
          by_to None to_x =
              let same : o ≡ x = one_row t rs set.tree set.fine set.are o x listed_o found.0 (written-to o v to ∙ sym (written-none x v found.1 to_x)) in
              none-some v (sym (ap (λ (y : Row). y.to) same ∙ to_x) ∙ to)

  module _ (route : Names → Route) (IsDone : Row → Type 0) where
    -- A path is parked in the staging directory, rests where it was, or went where its change sends it.
    pub data Class (p : Names) (n : List ℕ) : Type 0 where
      parked : (name : List ℕ) → route (p ++ n ∷ []) ≡ Sent (staged name) → Class p n
      rests : route (p ++ n ∷ []) ≡ Stays → ((r : Row) → Contains rs r → IsDone r → r.to ≡ Some (p ++ n ∷ []) → ⊥) → Class p n
      gone : (r : Row) (w : Names) → Contains rs r → IsDone r → r.source ≡ Some (p ++ n ∷ []) → r.to ≡ Some w → route (p ++ n ∷ []) ≡ route_to (p ++ n ∷ []) (Some w) → Class p n

    module _ (class : (p : Names) (n : List ℕ) → Stands t (p ++ n ∷ []) → Class p n) (root : route [] ≡ Stays)
        (parked_apart : (p q : Names) (name : List ℕ) → Stands t p → Stands t q → route p ≡ Sent (staged name) → route q ≡ Sent (staged name) → p ≡ q) where
      here-parked : (p : Names) (n name : List ℕ) → route (p ++ n ∷ []) ≡ Sent (staged name) → routed (route (p ++ n ∷ [])) p n ≡ staged name
      here-parked p n name is = ap (λ (a : Route). routed a p n) is

      here-rests : (p : Names) (n : List ℕ) → route (p ++ n ∷ []) ≡ Stays → routed (route (p ++ n ∷ [])) p n ≡ p ++ n ∷ []
      here-rests p n is = ap (λ (a : Route). routed a p n) is

      here-gone : (p : Names) (n : List ℕ) (r : Row) (w : Names) → Contains rs r → r.to ≡ Some w → route (p ++ n ∷ []) ≡ route_to (p ++ n ∷ []) (Some w) → routed (route (p ++ n ∷ [])) p n ≡ w
      here-gone p n r w listed to is = ap (λ (a : Route). routed a p n) is ∙ route_to-written p n w (to_not_root r w listed to)

      meet : (p q : Names) (n m : List ℕ) → Stands t (p ++ n ∷ []) → Stands t (q ++ m ∷ []) → Class p n → Class q m
          → routed (route (p ++ n ∷ [])) p n ≡ routed (route (q ++ m ∷ [])) q m → p ++ n ∷ [] ≡ q ++ m ∷ []
      meet p q n m sp sq (parked a is_p) (parked b is_q) e =
          let same : a ≡ b = staged_name a b (sym (here-parked p n a is_p) ∙ e ∙ here-parked q m b is_q) in
          parked_apart (p ++ n ∷ []) (q ++ m ∷ []) b sp sq (is_p ∙ ap (λ (l : List ℕ). Sent (staged l)) same) is_q
      meet p q n m sp sq (parked a is_p) (rests is_q un) e = absurd (not_staged (q ++ m ∷ []) (a ∷ []) sq (sym (here-rests q m is_q) ∙ sym e ∙ here-parked p n a is_p))
      meet p q n m sp sq (parked a is_p) (gone o v listed done source to is_q) e = absurd (not_reserved o v (a ∷ []) listed to (sym (here-gone q m o v listed to is_q) ∙ sym e ∙ here-parked p n a is_p))
      meet p q n m sp sq (rests is_p un) (parked b is_q) e = absurd (not_staged (p ++ n ∷ []) (b ∷ []) sp (sym (here-rests p n is_p) ∙ e ∙ here-parked q m b is_q))
      meet p q n m sp sq (rests is_p un) (rests is_q un') e = sym (here-rests p n is_p) ∙ e ∙ here-rests q m is_q
      meet p q n m sp sq (rests is_p un) (gone o v listed done source to is_q) e =
          absurd (un o listed done (to ∙ ap (λ (l : Names). Some l) (sym (here-gone q m o v listed to is_q) ∙ sym e ∙ here-rests p n is_p)))
      meet p q n m sp sq (gone r w listed done source to is_p) (parked b is_q) e = absurd (not_reserved r w (b ∷ []) listed to (sym (here-gone p n r w listed to is_p) ∙ e ∙ here-parked q m b is_q))
      meet p q n m sp sq (gone r w listed done source to is_p) (rests is_q un) e =
          absurd (un r listed done (to ∙ ap (λ (l : Names). Some l) (sym (here-gone p n r w listed to is_p) ∙ e ∙ here-rests q m is_q)))
      meet p q n m sp sq (gone r w listed done source to is_p) (gone o v listed_o done_o source_o to_o is_q) e =
          let w_v : w ≡ v = sym (here-gone p n r w listed to is_p) ∙ e ∙ here-gone q m o v listed_o to_o is_q in
          let one : r ≡ o = one_row t rs set.tree set.fine set.are r o listed listed_o (written-to r w to ∙ w_v ∙ sym (written-to o v to_o)) in
          same_Some (p ++ n ∷ []) (q ++ m ∷ []) (sym source ∙ ap (λ (y : Row). y.source) one ∙ source_o)

      firm_at : (p w : Names) (n : List ℕ) (q : Names) (m : List ℕ) → Class p n → route (p ++ n ∷ []) ≡ Sent w → Class q m → IsAbove (routed (route (q ++ m ∷ [])) q m) w
          → q ++ m ∷ [] ≡ routed (route (q ++ m ∷ [])) q m
      firm_at p w n q m cp is (rests is_q un) above = sym (here-rests q m is_q)
      firm_at p w n q m (rests is_p un) is other above = let no_way : Stays ≡ Sent w = sym is_p ∙ is in absurd cc
      firm_at p w n q m (parked a is_p) is (parked b is_q) (k, rest, e) =
          let w_is : Sent (staged a) ≡ Sent w = sym is_p ∙ is in
          let w_at : staged a ≡ w = cc in
          let at : staged a ≡ staged b ++ k ∷ rest = w_at ∙ e ∙ ap (λ (l : Names). l ++ k ∷ rest) (here-parked q m b is_q) in
          absurd (let long = ap length at in omega arith)
      firm_at p w n q m (parked a is_p) is (gone o v listed done source to is_q) (k, rest, e) =
          let w_is : Sent (staged a) ≡ Sent w = sym is_p ∙ is in
          let w_at : staged a ≡ w = cc in
          elim (staged_front v k rest a (w_at ∙ e ∙ ap (λ (l : Names). l ++ k ∷ rest) (here-gone q m o v listed to is_q))) [
            | inl no_name ↦ absurd (to_not_root o v listed to no_name)
            | inr staged_itself ↦ absurd (not_reserved o v [] listed to (staged_itself ∙ sym (append-nil staging)))
          ]
      firm_at p w n q m (gone r v listed done source to is_p) is (parked b is_q) (k, rest, e) =
          let v_w = (route_to-sent (p ++ n ∷ []) v w (sym is_p ∙ is)).0 in
          absurd (not_reserved r v (b ∷ k ∷ rest) listed to (v_w ∙ e ∙ ap (λ (l : Names). l ++ k ∷ rest) (here-parked q m b is_q) ∙ append_assoc staging (b ∷ []) (k ∷ rest)))
      firm_at p w n q m (gone r v listed done source to is_p) is (gone o x listed_o done_o source_o to_o is_q) above =
          let s = route_to-sent (p ++ n ∷ []) v w (sym is_p ∙ is) in
          absurd (never_above r o x listed listed_o (elsewhere_from r (p ++ n ∷ []) v source to s.1) to_o
          (subst (λ (l : Names). IsAbove l (written r)) (here-gone q m o x listed_o to_o is_q) (subst (IsAbove (routed (route (q ++ m ∷ [])) q m)) (sym (written-to r v to ∙ s.0)) above)))

      parent_stands : (p : Names) (n : List ℕ) → Stands t (p ++ n ∷ []) → Stands t p
      parent_stands p n s = dir_stands _ (set.tree.parents p n s)

      sent_not_root : (p w : Names) → Stands t p → route p ≡ Sent w → w ≢ []
      sent_not_root = by_last (λ p. (w : Names) → Stands t p → route p ≡ Sent w → w ≢ [])
          (λ w s is no_name. let no_way : Stays ≡ Sent w = sym root ∙ is in cc)
          (λ p n before w s is no_name. go p n w (class p n s) is no_name)
        where
          go : (p : Names) (n : List ℕ) (w : Names) → Class p n → route (p ++ n ∷ []) ≡ Sent w → w ≡ [] → ⊥
          go p n w (rests is_p un) is no_name = let no_way : Stays ≡ Sent w = sym is_p ∙ is in cc
          go p n w (parked a is_p) is no_name = let w_is : Sent (staged a) ≡ Sent w = sym is_p ∙ is in let w_at : staged a ≡ w = cc in push_not_root staging a (w_at ∙ no_name)
          go p n w (gone r v listed done source to is_p) is no_name = to_not_root r v listed to ((route_to-sent (p ++ n ∷ []) v w (sym is_p ∙ is)).0 ∙ no_name)

      firm : (p w q : Names) (m : List ℕ) → Stands t p → route p ≡ Sent w → Stands t (q ++ m ∷ []) → IsAbove (routed (route (q ++ m ∷ [])) q m) w → q ++ m ∷ [] ≡ routed (route (q ++ m ∷ [])) q m
      firm = by_last (λ p. (w q : Names) (m : List ℕ) → Stands t p → route p ≡ Sent w → Stands t (q ++ m ∷ []) → IsAbove (routed (route (q ++ m ∷ [])) q m) w → q ++ m ∷ [] ≡ routed (route (q ++ m ∷ [])) q m)
          (λ w q m s is sq above. let no_way : Stays ≡ Sent w = sym root ∙ is in absurd cc)
          (λ p n before w q m s is sq above. firm_at p w n q m (class p n s) is (class q m sq) above)

      pub so_far_apart : IsApart (Stands t) route
      so_far_apart = record {
        up = parent_stands;
        not_root = sent_not_root;
        apart = λ p q n m sp sq e. meet p q n m sp sq (class p n sp) (class q m sq) e;
        firm = λ p w kept is q m kept_q above. firm p w q m kept is kept_q above;
      }

      in_front : (u rest : Names) (name : List ℕ) → Stands t u → staged name ≡ u ++ rest → u ≡ []
      in_front u [] name stands_u e = absurd (not_staged u (name ∷ []) stands_u (sym (append-nil u) ∙ sym e))
      in_front u (k ∷ rest) name stands_u e = elim (staged_front u k rest name e) [
        | inl no_name ↦ no_name
        | inr itself ↦ absurd (not_staged u [] stands_u (itself ∙ sym (append-nil staging)))
      ]

      -- no other path was sent below one that rests where it was and is to be moved
      pub outside : (row : Row) (s : Names) → Contains rs row → row.source ≡ Some s → IsTrue (is_some row.to) → ((r : Row) → Contains rs r → IsDone r → r.to ≡ Some s → ⊥)
          → (q v : Names) → Stands t q → route q ≡ Sent v → (rest : Names) → v ≡ s ++ rest → ⊥
      outside row s listed source to un = by_last (λ q. (v : Names) → Stands t q → route q ≡ Sent v → (rest : Names) → v ≡ s ++ rest → ⊥)
          (λ v sq is rest e. let no_way : Stays ≡ Sent v = sym root ∙ is in cc)
          (λ p n before v sq is rest e. by_class p n v (class p n sq) is rest e)
        where
          by_class : (p : Names) (n : List ℕ) (v : Names) → Class p n → route (p ++ n ∷ []) ≡ Sent v → (rest : Names) → v ≡ s ++ rest → ⊥
          by_class p n v (rests is_p un') is rest e = let no_way : Stays ≡ Sent v = sym is_p ∙ is in cc
          by_class p n v (parked a is_p) is rest e =
              let v_is : Sent (staged a) ≡ Sent v = sym is_p ∙ is in
              let v_at : staged a ≡ v = cc in
              source_not_root row s listed source (in_front s rest a (set.are.standing row s listed source) (v_at ∙ e))
          by_class p n v (gone r w listed_r done source_r to_r is_p) is rest e =
              let sent_w = route_to-sent (p ++ n ∷ []) w v (sym is_p ∙ is) in
              let w_is : w ≡ s ++ rest = sent_w.0 ∙ e in
              elim (below_cases s w rest w_is) [
                | inl same ↦ un r listed_r done (to_r ∙ ap (λ (l : Names). Some l) same)
                | inr above ↦ set.fine.unmoved r row s listed_r listed (elsewhere_from r (p ++ n ∷ []) w source_r to_r sent_w.1) (source, to) (subst (IsAbove s) (sym (written-to r w to_r)) above)
              ]
