-- From row to row.
use Rattle.std.proofs.Common.{◌≡◌, ℕ, ◌+◌, ◌-◌, List, [], ◌∷◌, ◌++◌, append_assoc, length, drop, refl, ap, sym, subst, ◌∙◌, arith, Contains, Option, Some, None, IfSome, inl, inr}
use Rattle.std.specs.Option.{option_map}
use Rattle.std.proofs.lemmas.Bool.Decides.{eqb_tells}
use Rattle.std.proofs.lemmas.List.Elements.{Contains-append_left, Contains-append_right, Contains-push}
use Rattle.link_rows.specs.Net.{Net, AllBelow, IsList}
use Rattle.link_rows.specs.Tables.{first_row}
use Rattle.link_rows.specs.declared.rows.RowId.{RowId}
use Rattle.link_rows.proofs.NetLemmas.{Misses, Unique, misses-append, unique-missed}
use Rattle.section_rows.specs.declared.undo.Undo.{Undo}
use Rattle.section_rows.specs.declared.undo.Undo.TheVariants as kept
use Rattle.section_rows.specs.Orders.{AreOut, Put, Taken, from_row, rows_from, run}
use Rattle.section_rows.specs.Kept.{IsHeld, IsKept, nodes_of, order_of, steps_of}
use Rattle.section_rows.proofs.OrderLemmas.{misses-not, nodes-join, stands}
use Rattle.section_rows.proofs.KeptLemmas.{put-misses, steps-put, steps-taken, taken-misses}
use Rattle.section_rows.proofs.ListLemmas.{order-unique}
use Rattle.section_rows.proofs.StepLemmas.{held-order}

-- the first of some rows
abbrev pub first_in : List ℕ → Option ℕ
first_in [] = None
first_in (r ∷ rows) = Some r

pub first-node : (s : Net) (rows : List ℕ) → s.heads ≡ 3 → first_row s (nodes_of rows) ≡ first_in rows
first-node s [] h = refl
first-node s (r ∷ rows) h = let e : 3 + r - s.heads ≡ r = omega arith in ap (λ x. Some x) e

pub from-at : (r : ℕ) (fs gs : List ℕ) → Misses r fs → from_row r (fs ++ r ∷ gs) ≡ r ∷ gs
from-at r [] gs m = elim (eqb_tells r r) [ inl same ↦ rw same.0 refl | inr other ↦ absurd (other.1 refl) ]
from-at r (x ∷ fs) gs m = elim (eqb_tells x r) [ inl same ↦ absurd (m.0 same.1) | inr other ↦ rw other.0 (from-at r fs gs m.1) ]

-- the rows from the first of the last ones on are these
pub from-first : (fs gs : List ℕ) → Unique (fs ++ gs) → rows_from (first_in gs) (fs ++ gs) ≡ gs
from-first fs [] u = refl
from-first fs (g ∷ gs) u = from-at g fs gs (unique-missed fs g gs u)

pub has-first : (fs gs : List ℕ) (o : Option ℕ) → o ≡ first_in gs → IfSome o (λ r. Contains (fs ++ gs) r)
has-first fs gs None e = tt
has-first fs [] (Some r) e = cc
has-first fs (g ∷ gs) (Some r) e =
    let same : r ≡ g = cc in
    subst (λ x. Contains (fs ++ g ∷ gs) x) (sym same) (Contains-append_right fs (g ∷ gs) g (Contains-append_left (g ∷ []) gs g (Contains-push [] g)))

pub some-row : (P : ℕ → Type 0) (o : Option RowId) → IfSome (option_map (λ (row : RowId). row.0) o) P → IfSome o (λ row. P row.0)
some-row P None h = h
some-row P (Some row) h = h

-- rows that were taken out stand nowhere
abbrev Wider : List ℕ → List ℕ → Type 0
Wider all now = (r : ℕ) → Misses r all → Misses r now

kept-out : (s : Net) (now order others : List ℕ) (us : List Undo) → Wider (order ++ others) now → IsKept s order others us → AreOut now (steps_of s order us)
kept-out s now order others [] wider k = tt
kept-out s now order others (kept.Taken row ∷ us) wider k =
    let fs = k.0 in
    let gs = k.1 in
    let g = k.2.0 in
    let deep = kept-out s now (fs ++ row.0 ∷ gs) others us (λ r m. wider r (taken-misses r row.0 order others fs gs g.parts m)) k.2.1 in
    let here : Contains now row.0 → ⊥ = misses-not row.0 now (wider row.0 g.out) in
    let all : AreOut now (Taken (length fs) row.0 ∷ steps_of s (fs ++ row.0 ∷ gs) us) = (here, deep) in
    subst (λ steps. AreOut now steps) (sym (steps-taken s order others fs gs row us g)) all
kept-out s now order others (kept.Put first count ∷ us) wider k =
    let fs = k.0 in
    let gs = k.1 in
    let i = k.2.0 in
    let deep = kept-out s now (fs ++ gs) (run first count ++ others) us (λ r m. wider r (put-misses r order others fs (run first count) gs i.parts m)) k.2.1 in
    let all : AreOut now (Put first count ∷ steps_of s (fs ++ gs) us) = deep in
    subst (λ steps. AreOut now steps) (sym (steps-put s order fs gs first count us i)) all

-- What is told of a row that is held, where o is the order that a clause sees.
module _ (s : Net) (count built len room : ℕ) (us : List Undo) (h : IsHeld s count built len room us) (o : List ℕ) (same : order_of s count ≡ o) where
  pub order-held : o ≡ h.order
  order-held = sym same ∙ held-order s count built len room us h

  pub length-held : count ≡ length o
  length-held = sym h.count ∙ ap length (sym order-held)

  pub once-held : Unique o
  once-held = subst (λ x. Unique x) (sym order-held) (order-unique s h.order (run (len - built) built) h.dead h.lists)

  pub below-held : (n : ℕ) → n ≡ len → AllBelow n o
  below-held n e = subst (λ k. AllBelow k o) (sym e) (subst (λ x. AllBelow len x) (sym order-held) h.below)

  pub out-held : AreOut o (steps_of s (order_of s count) us)
  out-held =
      let others = run (len - built) built ++ h.dead in
      let k : AreOut h.order (steps_of s h.order us) = kept-out s h.order h.order others us (λ r m. (misses-append r h.order others m).0) h.kept in
      let a : AreOut o (steps_of s h.order us) = subst (λ x. AreOut x (steps_of s h.order us)) (sym order-held) k in
      subst (λ x. AreOut o (steps_of s x us)) (sym (held-order s count built len room us h)) a

  pub first-held : (f : Option ℕ) → ((xs : List ℕ) → IsList s 0 xs → f ≡ first_row s xs) → IfSome f (λ r. Contains o r) × (rows_from f o ≡ o)
  first-held f tells =
      let e : f ≡ first_in h.order = tells (nodes_of h.order) h.lists.order ∙ first-node s h.order h.lists.heads in
      let k : f ≡ first_in o = e ∙ ap first_in (sym order-held) in
      (has-first [] o f k, ap (λ x. rows_from x o) k ∙ from-first [] o once-held)

  pub next-held : (r : ℕ) (f : Option ℕ) → Contains o r → ((l : ℕ) (xs ys : List ℕ) → IsList s l (xs ++ (s.heads + r) ∷ ys) → f ≡ first_row s ys)
      → IfSome f (λ r. Contains o r) × (rows_from f o ≡ drop 1 (from_row r o))
  next-held r f c tells =
      let k = stands o r c in
      let fs = k.0 in
      let gs = k.1 in
      let p : o ≡ fs ++ r ∷ gs = k.2.parts in
      let i : IsList s 0 (nodes_of fs ++ (3 + r) ∷ nodes_of gs) = subst (λ xs. IsList s 0 xs) (ap nodes_of (sym order-held ∙ p) ∙ nodes-join fs (r ∷ gs)) h.lists.order in
      let j : IsList s 0 (nodes_of fs ++ (s.heads + r) ∷ nodes_of gs) = subst (λ n. IsList s 0 (nodes_of fs ++ (n + r) ∷ nodes_of gs)) (sym h.lists.heads) i in
      let e : f ≡ first_in gs = tells 0 (nodes_of fs) (nodes_of gs) j ∙ first-node s gs h.lists.heads in
      let q : o ≡ (fs ++ r ∷ []) ++ gs = p ∙ sym (append_assoc fs (r ∷ []) gs) in
      let u : Unique ((fs ++ r ∷ []) ++ gs) = subst (λ x. Unique x) q once-held in
      let a : IfSome f (λ r. Contains o r) = subst (λ x. IfSome f (λ r. Contains x r)) (sym q) (has-first (fs ++ r ∷ []) gs f e) in
      let b : rows_from (first_in gs) o ≡ gs = subst (λ x. rows_from (first_in gs) x ≡ gs) (sym q) (from-first (fs ++ r ∷ []) gs u) in
      let d : from_row r o ≡ r ∷ gs = ap (from_row r) p ∙ from-at r fs gs k.2.first in
      (a, ap (λ x. rows_from x o) e ∙ (b ∙ sym (ap (drop 1) d)))
