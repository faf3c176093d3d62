-- Well-formed changes keep the places of the paths apart.
use Rattle.std.proofs.Common.{◌≡◌, ◌≢◌, ◌⊎◌, inl, inr, ℕ, Bool, true, false, not, ◌&&◌, ◌||◌, List, [], ◌∷◌, ◌++◌, refl, sym, ◌∙◌, ap, subst, append_assoc, Option, Some, None, is_some}
use Rattle.std.specs.Prelude.{Contains}
use Rattle.std.proofs.lemmas.Bool.{cond-true, cond-false, cases_Bool, and_parts, and_right, not-true, or_parts, false_from_ne_true, not_from_false, or_from}
use Rattle.std.proofs.lemmas.Option.{none-some, same_Some}
use Rattle.dired_text.specs.Paths.{Names, parent}
use Rattle.dired_text.proofs.PathLemmas.{path_decides, parent-push}
use Rattle.tree_core.specs.FileTree.{FileTree, IsTree, IsDir, Stands}
use Rattle.tree_core.proofs.TreeLemmas.{dir_stands, absent_not}
use Rattle.edit_words.specs.declared.row.Row.{Row}
use Rattle.edit_words.specs.declared.row.Route.{Route}
use Rattle.edit_words.specs.declared.row.Route.TheVariants.{Stays, Named, Sent}
use Rattle.edit_words.specs.Place.{routed, place, IsAbove}
use Rattle.edit_words.specs.Rows.{is_same_path, is_at, row_from, is_source, written, written_of, is_elsewhere, is_elsewhere_of, last_name, route_to, route_by, route_of, is_written, is_victim, is_removed, is_kept}
use Rattle.edit_words.specs.Edited.{is_fresh}
use Rattle.edit_words.specs.WellFormed.{IsWellFormed, IsNoRoot}
use Rattle.edit_laws.proofs.ListLemmas.{any_parts, any_from, any_none, find_parts, find_from}
use Rattle.edit_laws.proofs.PlaceLemmas.{IsApart, IsFirm, by_last, stays_above, written_at, place-stays}
use Rattle.edit_laws.proofs.PlacedIsTree.{Stayed}

pub is_at-true : (p : Names) (o : Option Names) → is_at p o ≡ true → o ≡ Some p
is_at-true p None e = cc
is_at-true p (Some q) e = ap (λ (l : Names). Some l) (sym ((path_decides p q).0 e))

pub is_at-same : (p : Names) (o : Option Names) → o ≡ Some p → is_at p o ≡ true
is_at-same p o e = ap (is_at p) e ∙ (path_decides p p).1 refl

pub row_from-some : (rs : List Row) (p : Names) (r : Row) → row_from rs p ≡ Some r → Contains rs r × (r.source ≡ Some p)
row_from-some rs p r e = let f = find_parts (λ (x : Row). is_at p x.source) rs r e in (f.0, is_at-true p r.source f.1)

pub row_there : (rs : List Row) (r : Row) (s : Names) → Contains rs r → r.source ≡ Some s → (o : Row) × (row_from rs s ≡ Some o)
row_there rs r s listed source = find_from (λ (x : Row). is_at s x.source) rs r listed (is_at-same s r.source source)

pub is_written-from : (rs : List Row) (r : Row) (w : Names) → Contains rs r → r.to ≡ Some w → is_written rs w ≡ true
is_written-from rs r w listed to = any_from (λ (x : Row). is_at w x.to) rs r listed (is_at-same w r.to to)

-- a path that isn't empty is its parent and its last name
pub last_name-push : (p : Names) (n : List ℕ) → last_name (p ++ n ∷ []) ≡ n
last_name-push [] n = refl
last_name-push (x ∷ []) n = refl
last_name-push (x ∷ y ∷ p) n = last_name-push (y ∷ p) n

pub front_last : (w : Names) → w ≢ [] → w ≡ parent w ++ last_name w ∷ []
front_last w = by_last (λ w. w ≢ [] → w ≡ parent w ++ last_name w ∷ []) (λ no. absurd (no refl)) (λ p n before no.
    ap (λ (l : Names). l ++ n ∷ []) (sym (parent-push p n)) ∙ ap (λ (m : List ℕ). parent (p ++ n ∷ []) ++ m ∷ []) (sym (last_name-push p n))) w

pub route_to-written : (p : Names) (n : List ℕ) (w : Names) → w ≢ [] → routed (route_to (p ++ n ∷ []) (Some w)) p n ≡ w
route_to-written p n w not_root = elim (cases_Bool (is_same_path (parent (p ++ n ∷ [])) (parent w))) [
  | inl same ↦ ap (λ (a : Route). routed a p n) (cond-true _ (Named (last_name w)) (Sent w) same)
      ∙ ap (λ (l : Names). l ++ last_name w ∷ []) (sym (parent-push p n) ∙ (path_decides (parent (p ++ n ∷ [])) (parent w)).0 same) ∙ sym (front_last w not_root)
  | inr other ↦ ap (λ (a : Route). routed a p n) (cond-false _ (Named (last_name w)) (Sent w) other)
]

pub written-to : (r : Row) (w : Names) → r.to ≡ Some w → written r ≡ w
written-to r w to = ap (written_of r.source) to

pub written-none : (r : Row) (s : Names) → r.source ≡ Some s → r.to ≡ None → written r ≡ s
written-none r s source to = ap (written_of r.source) to ∙ ap (λ (x : Option Names). written_of x None) source

-- what is elsewhere has a new path
pub far_to : (r : Row) → is_elsewhere r ≡ true → (w : Names) × (r.to ≡ Some w)
far_to r far = go r.to refl
  where
    go : (x : Option Names) → r.to ≡ x → (w : Names) × (r.to ≡ Some w)
    go None to = let both : false ≡ true = sym (ap (is_elsewhere_of r.source) to) ∙ far in absurd cc
    go (Some w) to = (w, to)

-- What the rows of changes that can be asked for are like, whatever their kind.
pub record AreRows (t : FileTree) (rs : List Row) : Type 0 where
  pub lines : (r o : Row) → Contains rs r → Contains rs o → r.line ≡ o.line → r ≡ o
  pub sources : (r o : Row) (s : Names) → Contains rs r → Contains rs o → r.source ≡ Some s → o.source ≡ Some s → r ≡ o
  pub not_root : (r : Row) → Contains rs r → IsNoRoot r
  -- each source stands,
  pub standing : (r : Row) (s : Names) → Contains rs r → r.source ≡ Some s → Stands t s
  -- that of a retargeted link as something else than a directory
  pub no_dir : (r : Row) (s : Names) → Contains rs r → r.retargets ≡ true → r.source ≡ Some s → IsDir t s → ⊥
  -- what has no source has a new path
  pub created : (r : Row) → Contains rs r → r.source ≡ None → (w : Names) × (r.to ≡ Some w)
  -- nothing is removed, or nothing is moved or made
  pub kinds : ((r : Row) → Contains rs r → r.removes ≡ false) ⊎ ((r : Row) → Contains rs r → (is_elsewhere r ≡ false) × (is_fresh r ≡ false))

-- what becomes of a path: it keeps its path, or goes to the new path of its row
data Fate (rs : List Row) (p here : Names) : Type 0 where
  keeps : here ≡ p → ((r : Row) → row_from rs p ≡ Some r → r.to ≡ None) → Fate rs p here
  goes : (r : Row) (w : Names) → Contains rs r → r.source ≡ Some p → r.to ≡ Some w → here ≡ w → Fate rs p here

module _ (t : FileTree) (rs : List Row) (tree : IsTree t) (fine : IsWellFormed t rs) (are : AreRows t rs) where
  by_row : (p : Names) (n : List ℕ) (o : Option Row) → row_from rs (p ++ n ∷ []) ≡ o → Fate rs (p ++ n ∷ []) (routed (route_of rs (p ++ n ∷ [])) p n)
  by_row p n None e = keeps (ap (λ (x : Option Row). routed (route_by (p ++ n ∷ []) x) p n) e) (λ r is. absurd (none-some r (sym e ∙ is)))
  by_row p n (Some r) e = by_to r.to refl
    where
      by_to : (x : Option Names) → r.to ≡ x → Fate rs (p ++ n ∷ []) (routed (route_of rs (p ++ n ∷ [])) p n)
      by_to None to = keeps (ap (λ (x : Option Row). routed (route_by (p ++ n ∷ []) x) p n) e ∙ ap (λ (x : Option Names). routed (route_to (p ++ n ∷ []) x) p n) to)
          (λ o is. ap (λ (y : Row). y.to) (same_Some o r (sym is ∙ e)) ∙ to)
      by_to (Some w) to =
          let found = row_from-some rs (p ++ n ∷ []) r e in
          goes r w found.0 found.1 to
          (ap (λ (x : Option Row). routed (route_by (p ++ n ∷ []) x) p n) e ∙ ap (λ (x : Option Names). routed (route_to (p ++ n ∷ []) x) p n) to
          ∙ route_to-written p n w (λ root. (are.not_root r found.0).1 (to ∙ ap (λ (l : Names). Some l) root)))

  fate : (p : Names) (n : List ℕ) → Fate rs (p ++ n ∷ []) (routed (route_of rs (p ++ n ∷ [])) p n)
  fate p n = by_row p n (row_from rs (p ++ n ∷ [])) refl

  -- two rows with one written path are one
  pub one_row : (r o : Row) → Contains rs r → Contains rs o → written r ≡ written o → r ≡ o
  one_row r o listed_r listed_o same = are.lines r o listed_r listed_o (fine.to_one r o listed_r listed_o same)

  -- nothing that keeps its path and stays stands at a new path
  no_meeting : (r : Row) (w : Names) → Contains rs r → r.to ≡ Some w → is_kept rs w ≡ true → ((o : Row) → row_from rs w ≡ Some o → o.to ≡ None) → ⊥
  no_meeting r w listed to kept stays = by_w (row_from rs w) refl
    where
      by_w : (x : Option Row) → row_from rs w ≡ x → ⊥
      by_w (Some o) e =
          let found = row_from-some rs w o e in
          let same : r ≡ o = one_row r o listed found.0 (written-to r w to ∙ sym (written-none o w found.1 (stays o e))) in
          none-some w (sym (ap (λ (y : Row). y.to) same ∙ stays o e) ∙ to)
      by_w None e =
          let seen : is_written rs w ≡ true = is_written-from rs r w listed to in
          let victim : is_victim rs w ≡ true = ap (λ (b : Bool). b && not (is_source rs w)) seen ∙ ap (λ (x : Option Row). not (is_some x)) e in
          let no : (is_victim rs w || is_removed rs w) ≡ false = not-true _ kept in
          let both : true ≡ false = sym victim ∙ (or_parts _ _ no).0 in
          cc

  meet : (p q a b : Names) → is_kept rs p ≡ true → is_kept rs q ≡ true → Fate rs p a → Fate rs q b → a ≡ b → p ≡ q
  meet p q a b kept_p kept_q (keeps is_p stays_p) (keeps is_q stays_q) same = sym is_p ∙ same ∙ is_q
  meet p q a b kept_p kept_q (keeps is_p stays_p) (goes o v listed source to is_v) same =
      absurd (no_meeting o p listed (to ∙ ap (λ (l : Names). Some l) (sym is_v ∙ sym same ∙ is_p)) kept_p stays_p)
  meet p q a b kept_p kept_q (goes r w listed source to is_w) (keeps is_q stays_q) same =
      absurd (no_meeting r q listed (to ∙ ap (λ (l : Names). Some l) (sym is_w ∙ same ∙ is_q)) kept_q stays_q)
  meet p q a b kept_p kept_q (goes r w listed source to is_w) (goes o v listed_o source_o to_o is_v) same =
      let one : r ≡ o = one_row r o listed listed_o (written-to r w to ∙ sym is_w ∙ same ∙ is_v ∙ sym (written-to o v to_o)) in
      same_Some p q (sym source ∙ ap (λ (y : Row). y.source) one ∙ source_o)

  written_apart : (p q : Names) (n m : List ℕ) → Stayed (is_kept rs) t (p ++ n ∷ []) → Stayed (is_kept rs) t (q ++ m ∷ [])
      → routed (route_of rs (p ++ n ∷ [])) p n ≡ routed (route_of rs (q ++ m ∷ [])) q m → p ++ n ∷ [] ≡ q ++ m ∷ []
  written_apart p q n m kept_p kept_q same = meet (p ++ n ∷ []) (q ++ m ∷ []) _ _ kept_p.kept kept_q.kept (fate p n) (fate q m) same

  not_source : (p : Names) → not (is_source rs p) ≡ true → is_source rs p ≡ false
  not_source p e = not-true _ e

  -- no directory is a victim
  pub not_victim : (p : Names) → IsDir t p → is_victim rs p ≡ false
  not_victim p dir = false_from_ne_true _ (λ victim.
      let parts = and_parts (is_written rs p) (not (is_source rs p)) victim in
      let r = any_parts (λ (x : Row). is_at p x.to) rs parts.0 in
      fine.replaceable r.0 p r.1 (is_at-true p r.0.to r.2, dir_stands _ dir, not_source p parts.1) dir)

  -- nothing with something below it is removed
  not_removed : (p : Names) (n : List ℕ) → Stands t (p ++ n ∷ []) → is_removed rs p ≡ false
  not_removed p n stands = false_from_ne_true _ (λ removed.
      let r = any_parts (λ (x : Row). x.removes && is_at p x.source) rs removed in
      let parts = and_parts r.0.removes (is_at p r.0.source) r.2 in
      absent_not _ (fine.removable r.0 p n r.1 parts.0 (is_at-true p r.0.source parts.1)) stands)

  pub kept_from : (p : Names) → is_victim rs p ≡ false → is_removed rs p ≡ false → is_kept rs p ≡ true
  kept_from p no_victim no_removed = not_from_false _ (or_from _ _ no_victim no_removed)

  -- nothing is removed where something is far or fresh
  pub none_removed : (r : Row) → Contains rs r → (is_elsewhere r ≡ true) ⊎ (is_fresh r ≡ true) → (p : Names) → is_removed rs p ≡ false
  none_removed r listed which p = elim are.kinds [
    | inl none ↦ any_none (λ (x : Row). x.removes && is_at p x.source) rs (λ x c. ap (λ (b : Bool). b && is_at p x.source) (none x c))
    | inr still ↦ absurd (elim which [
      | inl far ↦ let both : true ≡ false = sym far ∙ (still r listed).0 in cc
      | inr fresh ↦ let both : true ≡ false = sym fresh ∙ (still r listed).1 in cc
    ])
  ]

  pub root_kept : is_kept rs [] ≡ true
  root_kept = kept_from [] (not_victim [] tree.root) (any_none (λ (x : Row). x.removes && is_at [] x.source) rs (λ x c. false_from_ne_true _ (λ both.
      (are.not_root x c).0 (is_at-true [] x.source (and_parts x.removes (is_at [] x.source) both).1))))

  up_stays : (p : Names) (n : List ℕ) → Stands t (p ++ n ∷ []) → Stayed (is_kept rs) t p
  up_stays p n stands =
      let dir = tree.parents p n stands in
      record { kept = kept_from p (not_victim p dir) (not_removed p n stands); stands = dir_stands _ dir }

  -- the source of a retargeted link stays
  pub source_stays : (r : Row) (s : Names) → Contains rs r → is_fresh r ≡ true → r.source ≡ Some s → Stayed (is_kept rs) t s
  source_stays r s listed fresh source =
      let o = row_there rs r s listed source in
      record {
        kept = kept_from s (and_right _ _ (ap (λ (x : Option Row). not (is_some x)) o.1)) (none_removed r listed (inr fresh) s);
        stands = are.standing r s listed source;
      }

  -- what is sent away has a far row
  far_row : (p w : Names) (o : Option Row) → row_from rs p ≡ o → route_by p o ≡ Sent w → (r : Row) × Contains rs r × (r.to ≡ Some w) × (is_elsewhere r ≡ true)
  far_row p w None e is = absurd (stays_not_sent w is)
    where
      stays_not_sent : (w : Names) → Stays ≡ Sent w → ⊥
      stays_not_sent w e = cc
  far_row p w (Some r) e is = by_to r.to refl is
    where
      by_to : (x : Option Names) → r.to ≡ x → route_to p r.to ≡ Sent w → (r : Row) × Contains rs r × (r.to ≡ Some w) × (is_elsewhere r ≡ true)
      by_to None to sent = let no : Stays ≡ Sent w = sym (ap (route_to p) to) ∙ sent in absurd cc
      by_to (Some v) to sent = by_test (cases_Bool (is_same_path (parent p) (parent v)))
        where
          turned_is : route_to p (Some v) ≡ Sent w
          turned_is = sym (ap (route_to p) to) ∙ sent

          by_test : (is_same_path (parent p) (parent v) ≡ true) ⊎ (is_same_path (parent p) (parent v) ≡ false) → (r : Row) × Contains rs r × (r.to ≡ Some w) × (is_elsewhere r ≡ true)
          by_test (inl same) = let no : Named (last_name v) ≡ Sent w = sym (cond-true _ (Named (last_name v)) (Sent v) same) ∙ turned_is in absurd cc
          by_test (inr other) =
              let is_v : Sent v ≡ Sent w = sym (cond-false _ (Named (last_name v)) (Sent v) other) ∙ turned_is in
              let v_is : v ≡ w = cc in
              let found = row_from-some rs p r e in (
                r,
                found.0,
                to ∙ ap (λ (l : Names). Some l) v_is,
                ap (λ (x : Option Names). is_elsewhere_of x r.to) found.1 ∙ ap (is_elsewhere_of (Some p)) to ∙ not_from_false _ other,
              )

  -- above a far path no other is written
  above_far : (r : Row) (q here : Names) → Contains rs r → is_elsewhere r ≡ true → Fate rs q here → IsAbove here (written r) → q ≡ here
  above_far r q here listed far (keeps is_q stays) above = sym is_q
  above_far r q here listed far (goes o v listed_o source_o to_o is_v) above = absurd (by_source (row_from rs v) refl)
    where
      above_v : IsAbove v (written r)
      above_v = subst (λ (l : Names). IsAbove l (written r)) is_v above

      stands_v : Stands t v
      stands_v = subst (Stands t) (written-to o v to_o) (fine.untaken r o listed listed_o far (subst (λ (l : Names). IsAbove l (written r)) (sym (written-to o v to_o)) above_v))

      dir : IsDir t v
      dir = fine.parents r v listed far above_v stands_v

      by_source : (x : Option Row) → row_from rs v ≡ x → ⊥
      by_source None none =
          let victim : is_victim rs v ≡ true = ap (λ (b : Bool). b && not (is_source rs v)) (is_written-from rs o v listed_o to_o) ∙ ap (λ (x : Option Row). not (is_some x)) none in
          let both : true ≡ false = sym victim ∙ not_victim v dir in
          cc
      by_source (Some x) some = by_to x.to refl
        where
          found : Contains rs x × (x.source ≡ Some v)
          found = row_from-some rs v x some

          by_to : (y : Option Names) → x.to ≡ y → ⊥
          by_to (Some u) to_x = fine.unmoved r x v listed found.0 far (found.1, ap (λ (y : Option Names). is_some y) to_x) above_v
          by_to None to_x =
              let same : o ≡ x = one_row o x listed_o found.0 (written-to o v to_o ∙ sym (written-none x v found.1 to_x)) in
              none-some v (sym (ap (λ (y : Row). y.to) same ∙ to_x) ∙ to_o)

  pub firm_far : (r : Row) → Contains rs r → is_elsewhere r ≡ true → IsFirm (Stayed (is_kept rs) t) (route_of rs) (written r)
  firm_far r listed far q m kept above = above_far r (q ++ m ∷ []) _ listed far (fate q m) above

  pub sent_far : (p w : Names) → route_of rs p ≡ Sent w → (r : Row) × Contains rs r × (is_elsewhere r ≡ true) × (written r ≡ w) × (w ≢ [])
  sent_far p w is = let r = far_row p w (row_from rs p) refl is in
      (r.0, r.1, r.3, written-to r.0 w r.2, λ root. (are.not_root r.0 r.1).1 (r.2 ∙ ap (λ (l : Names). Some l) root))

  pub rows_apart : IsApart (Stayed (is_kept rs) t) (route_of rs)
  rows_apart = record {
    up = λ p n kept. up_stays p n kept.stands;
    not_root = λ p w kept is. (sent_far p w is).4;
    apart = written_apart;
    firm = λ p w kept is. let r = sent_far p w is in subst (IsFirm (Stayed (is_kept rs) t) (route_of rs)) r.3 (firm_far r.0 r.1 r.2);
  }

  -- what goes to a place above a far path stands there already
  pub there_already : (r : Row) (p : Names) → Contains rs r → is_elsewhere r ≡ true → Stayed (is_kept rs) t p → IsAbove (place (route_of rs) p) (written r) → p ≡ place (route_of rs) p
  there_already r p listed far stayed above = stays_above (Stayed (is_kept rs) t) (route_of rs) rows_apart (written r) (firm_far r listed far) p stayed above

  -- what goes to a far path is its row's source
  pub far_source : (o : Row) (p : Names) → Contains rs o → is_elsewhere o ≡ true → Stayed (is_kept rs) t p → place (route_of rs) p ≡ written o → o.source ≡ Some p
  far_source o p listed far = by_last (λ p. Stayed (is_kept rs) t p → place (route_of rs) p ≡ written o → o.source ≡ Some p)
      (λ stayed at. absurd ((are.not_root o listed).1 (to.1 ∙ ap (λ (l : Names). Some l) (sym (at ∙ written-to o to.0 to.1)))))
      (λ q m before stayed at. by_fate q m stayed (written_at (Stayed (is_kept rs) t) (route_of rs) rows_apart (written o) (firm_far o listed far) q m stayed at) (fate q m)) p
    where
      to : (w : Names) × (o.to ≡ Some w)
      to = far_to o far

      by_fate : (q : Names) (m : List ℕ) → Stayed (is_kept rs) t (q ++ m ∷ []) → routed (route_of rs (q ++ m ∷ [])) q m ≡ written o
          → Fate rs (q ++ m ∷ []) (routed (route_of rs (q ++ m ∷ [])) q m) → o.source ≡ Some (q ++ m ∷ [])
      by_fate q m stayed here (keeps is_q stays) = absurd (no_meeting o (q ++ m ∷ []) listed
          (to.1 ∙ ap (λ (l : Names). Some l) (sym (written-to o to.0 to.1) ∙ sym here ∙ is_q)) stayed.kept stays)
      by_fate q m stayed here (goes x v listed_x source to_x is_v) =
          let one : o ≡ x = one_row o x listed listed_x (sym here ∙ is_v ∙ sym (written-to x v to_x)) in
          ap (λ (y : Row). y.source) one ∙ source

  turn_stays : (r : Row) (v : Names) (n : List ℕ) → Contains rs r → is_elsewhere r ≡ true → IsAbove (v ++ n ∷ []) (written r) → route_of rs (v ++ n ∷ []) ≡ Stays
  turn_stays r v n listed far above = by_from (row_from rs (v ++ n ∷ [])) refl
    where
      by_from : (o : Option Row) → row_from rs (v ++ n ∷ []) ≡ o → route_by (v ++ n ∷ []) (row_from rs (v ++ n ∷ [])) ≡ Stays
      by_from None e = ap (route_by (v ++ n ∷ [])) e
      by_from (Some o) e = by_to o.to refl
        where
          by_to : (x : Option Names) → o.to ≡ x → route_by (v ++ n ∷ []) (row_from rs (v ++ n ∷ [])) ≡ Stays
          by_to None to = ap (route_by (v ++ n ∷ [])) e ∙ ap (route_to (v ++ n ∷ [])) to
          by_to (Some x) to = let found = row_from-some rs (v ++ n ∷ []) o e in
              absurd (fine.unmoved r o (v ++ n ∷ []) listed found.0 far (found.1, ap (λ (y : Option Names). is_some y) to) above)

  -- what stands above a far path is a directory that stays where it is
  pub settled : (r : Row) (u : Names) → Contains rs r → is_elsewhere r ≡ true → IsAbove u (written r) → Stands t u → Stayed (is_kept rs) t u × IsDir t u × (place (route_of rs) u ≡ u)
  settled r u listed far above stands = (
    record { kept = kept_from u (not_victim u dir) (none_removed r listed (inl far) u); stands = stands },
    dir,
    place-stays (route_of rs) u (λ v n rest is. turn_stays r v n listed far (longer v n rest is)),
  )
    where
      dir : IsDir t u
      dir = fine.parents r u listed far above stands

      join : (rest : Names) (m : List ℕ) (more : Names) → (k : List ℕ) × (l : Names) × (rest ++ m ∷ more ≡ k ∷ l)
      join [] m more = (m, more, refl)
      join (x ∷ rest) m more = (x, rest ++ m ∷ more, refl)

      longer : (v : Names) (n : List ℕ) (rest : Names) → u ≡ (v ++ n ∷ []) ++ rest → IsAbove (v ++ n ∷ []) (written r)
      longer v n rest is = let j = join rest above.0 above.1 in
          (j.0, j.1, above.2 ∙ ap (λ (l : Names). l ++ above.0 ∷ above.1) is ∙ append_assoc (v ++ n ∷ []) rest (above.0 ∷ above.1) ∙ ap (λ (l : Names). (v ++ n ∷ []) ++ l) j.2)
