-- The three lists, and what calls leave of them.
use Rattle.std.proofs.Common.{◌≡◌, ◌≢◌, ℕ, ◌+◌, ◌-◌, ◌<◌, suc, List, [], ◌∷◌, ◌++◌, refl, ap, sym, subst, ◌∙◌, arith, inl, inr, Contains, if◌then◌else◌, ◌==◌}
use Rattle.std.proofs.lemmas.Bool.Decides.{eqb_tells}
use Rattle.std.proofs.lemmas.List.Elements.{Contains-append_left, Contains-append_right, Contains-push}
use Rattle.link_rows.specs.Net.{Net, Chain, IsList, CanRelink, Cuts, Relinks, Splices, Unlinks, cut_out, last_of, next_of, nodes, prev_of, pushed, relinked, spliced, unlinked}
use Rattle.link_rows.specs.Unlinked.{IsUnlinked, KeepsNeighbours}
use Rattle.link_rows.proofs.NetLemmas.{Misses, Unique, chain-unique, last-next, misses-append, misses-join, split, unique-missed}
use Rattle.link_rows.proofs.KeptLemmas.{in-one-list, kept-by-cut, kept-by-relink, kept-by-splice, kept-by-unlink, neighbours-linked, next-missed, prev-missed}
use Rattle.section_rows.specs.Orders.{run}
use Rattle.section_rows.specs.Kept.{AreLists, IsGap, first_of, nodes_of, place_behind}
use Rattle.section_rows.proofs.OrderLemmas.{last-node, run-front, run-last, mid-unique, misses-by, nodes-join, nodes-missed, place-behind, rows-unique, stands, unique-back}
use Rattle.section_rows.proofs.KeptLemmas.{KeepsOut, taken-misses, unlinked-row}

pub order-unique : (s : Net) (order new dead : List ℕ) → AreLists s order new dead → Unique order
order-unique s order new dead a = rows-unique order (chain-unique s 0 (nodes_of order) 0 a.order.chain a.order.rows a.order.made).1

pub lists-taken : (s t : Net) (fs gs new dead : List ℕ) (r : ℕ) → AreLists s (fs ++ r ∷ gs) new dead → Unlinks s (3 + r) t → t.heads ≡ s.heads → AreLists t (fs ++ gs) new dead
lists-taken s t fs gs new dead r a u h =
    let i : IsList s 0 (nodes_of fs ++ (3 + r) ∷ nodes_of gs) = subst (λ xs. IsList s 0 xs) (nodes-join fs (r ∷ gs)) a.order in
    let k = u 0 (nodes_of fs) (nodes_of gs) i in
    record {
      heads = h ∙ a.heads;
      order = subst (λ xs. IsList t 0 xs) (sym (nodes-join fs gs)) k.0;
      new = k.1 1 (nodes_of new) a.new (λ (e : 1 ≡ 0). omega arith);
      dead = k.1 2 (nodes_of dead) a.dead (λ (e : 2 ≡ 0). omega arith);
    }

pub chain-first : (s : Net) (i : ℕ) (xs : List ℕ) (j : ℕ) → Chain s i xs j → next_of s i ≡ first_of j xs
chain-first s i [] j c = c.0
chain-first s i (x ∷ xs) j c = c.0.0

pub next-at : (s : Net) (i : ℕ) (xs ys : List ℕ) (j : ℕ) → Chain s i (xs ++ ys) j → next_of s (last_of i xs) ≡ first_of j ys
next-at s i [] ys j c = chain-first s i ys j c
next-at s i (x ∷ xs) ys j c = next-at s x xs ys j c.1

-- a row of the order is in no other list
contains-node : (r : ℕ) (xs : List ℕ) → Contains xs r → Contains (nodes_of xs) (3 + r)
contains-node r xs c =
    let k = stands xs r c in
    let fs = nodes_of k.0 in
    let gs = nodes_of k.1 in
    subst (λ ys. Contains ys (3 + r)) (sym (ap (λ ys. nodes_of ys) k.2.parts ∙ nodes-join k.0 (r ∷ k.1))) (Contains-append_right fs ((3 + r) ∷ gs) (3 + r) (Contains-append_left ((3 + r) ∷ []) gs (3 + r) (Contains-push [] (3 + r))))

pub others-missed : (s : Net) (order new dead : List ℕ) → AreLists s order new dead → (r : ℕ) → Contains order r → Misses r (new ++ dead)
others-missed s order new dead a r c =
    let d = contains-node r order c in
    misses-join r new dead
    (misses-by r new (λ e. let z : 0 ≡ 1 = in-one-list s 0 1 (3 + r) (nodes_of order) (nodes_of new) a.order a.new d (contains-node r new e) in omega arith))
    (misses-by r dead (λ e. let z : 0 ≡ 2 = in-one-list s 0 2 (3 + r) (nodes_of order) (nodes_of dead) a.order a.dead d (contains-node r dead e) in omega arith))

pub mid-contains : (r : ℕ) (fs gs : List ℕ) → Contains (fs ++ r ∷ gs) r
mid-contains r fs gs = Contains-append_right fs (r ∷ gs) r (Contains-append_left (r ∷ []) gs r (Contains-push [] r))

-- a row that was taken out keeps where it stood
pub gap-taken : (s t : Net) (fs gs new dead : List ℕ) (r : ℕ) → AreLists s (fs ++ r ∷ gs) new dead → t ≡ unlinked (3 + r) s → nodes t ≡ nodes s → 3 + r < nodes s → IsGap t (fs ++ gs) (new ++ dead) fs r gs
gap-taken s t fs gs new dead r a e n h =
    let u = order-unique s (fs ++ r ∷ gs) new dead a in
    let mf = unique-missed fs r gs u in
    let mg = (unique-back fs (r ∷ gs) u).0 in
    let i : Chain s 0 (nodes_of fs ++ (3 + r) ∷ nodes_of gs) 0 = subst (λ xs. Chain s 0 xs 0) (nodes-join fs (r ∷ gs)) a.order.chain in
    let d = split s 0 (nodes_of fs) (3 + r) (nodes_of gs) 0 i in
    let zero-not : 0 ≢ 3 + r = λ (z : 0 ≡ 3 + r). omega arith in
    let p : 3 + r ≢ prev_of s (3 + r) = prev-missed s (3 + r) 0 (nodes_of fs) (3 + r) d.0 (zero-not, nodes-missed r fs mf) in
    let q : 3 + r ≢ next_of s (3 + r) = next-missed s (3 + r) (3 + r) (nodes_of gs) 0 d.1 (nodes-missed r gs mg) zero-not in
    let k : KeepsNeighbours s (3 + r) t = subst (λ w. KeepsNeighbours s (3 + r) w) (sym e) (neighbours-linked s (prev_of s (3 + r)) (next_of s (3 + r)) (3 + r) p q) in
    let before : prev_of t (3 + r) ≡ last_of 0 (nodes_of fs) = k.1 ∙ (last-next s 0 (nodes_of fs) (3 + r) d.0).1 in
    record {
      parts = refl;
      place = ap (λ x. place_behind x (fs ++ gs)) before ∙ place-behind fs gs (mid-unique r fs gs u);
      pushed = omega (arith, h, n);
      before = before;
      behind = k.0 ∙ chain-first s (3 + r) (nodes_of gs) 0 d.1;
      out = misses-join r (fs ++ gs) (new ++ dead) (misses-join r fs gs mf mg) (others-missed s (fs ++ r ∷ gs) new dead a r (mid-contains r fs gs));
    }

pub keeps-taken : (s t : Net) (fs gs new dead : List ℕ) (r : ℕ) → AreLists s (fs ++ r ∷ gs) new dead → t ≡ unlinked (3 + r) s → KeepsOut s t (fs ++ r ∷ gs) (new ++ dead)
keeps-taken s t fs gs new dead r a e q h m =
    let i : IsList s 0 (nodes_of fs ++ (3 + r) ∷ nodes_of gs) = subst (λ xs. IsList s 0 xs) (nodes-join fs (r ∷ gs)) a.order in
    subst (λ w. KeepsNeighbours s (3 + q) w) (sym e) (kept-by-unlink s 0 (3 + r) (3 + q) (nodes_of fs) (nodes_of gs) i (unlinked-row s (fs ++ r ∷ gs) new dead a q h m))

-- a row that is put back
first-missed : (r : ℕ) (gs : List ℕ) → Misses r gs → first_of 0 (nodes_of gs) ≢ 3 + r
first-missed r [] m = λ (e : 0 ≡ 3 + r). omega arith
first-missed r (g ∷ gs) m = λ (e : 3 + g ≡ 3 + r). m.0 (omega arith)

gap-list : (s : Net) (order fs gs new dead : List ℕ) → AreLists s order new dead → order ≡ fs ++ gs → IsList s 0 (nodes_of fs ++ nodes_of gs)
gap-list s order fs gs new dead a e = subst (λ xs. IsList s 0 xs) (ap (λ ys. nodes_of ys) e ∙ nodes-join fs gs) a.order

pub can-relink : (s : Net) (order fs gs new dead : List ℕ) (r : ℕ) → AreLists s order new dead → IsGap s order (new ++ dead) fs r gs → CanRelink s (3 + r)
can-relink s order fs gs new dead r a g =
    let i = gap-list s order fs gs new dead a g.parts in
    let side : next_of s (prev_of s (3 + r)) ≡ first_of 0 (nodes_of gs) = ap (λ x. next_of s x) g.before ∙ next-at s 0 (nodes_of fs) (nodes_of gs) 0 i.chain in
    let m : Misses r (fs ++ gs) = subst (λ o. Misses r o) g.parts (misses-append r order (new ++ dead) g.out).0 in
    record {
      row = omega (arith, a.heads);
      pushed = g.pushed;
      out = λ e. first-missed r gs (misses-append r fs gs m).1 (sym side ∙ e);
      side_by_side = side ∙ sym g.behind;
    }

pub lists-put-back : (s t : Net) (order fs gs new dead : List ℕ) (r : ℕ) → AreLists s order new dead → IsGap s order (new ++ dead) fs r gs → Relinks s (3 + r) t → t.heads ≡ s.heads → AreLists t (fs ++ r ∷ gs) new dead
lists-put-back s t order fs gs new dead r a g u h =
    let k = u 0 (nodes_of fs) (nodes_of gs) (gap-list s order fs gs new dead a g.parts) (sym g.before) in
    record {
      heads = h ∙ a.heads;
      order = subst (λ xs. IsList t 0 xs) (sym (nodes-join fs (r ∷ gs))) k.0;
      new = k.1 1 (nodes_of new) a.new (λ (e : 1 ≡ 0). omega arith);
      dead = k.1 2 (nodes_of dead) a.dead (λ (e : 2 ≡ 0). omega arith);
    }

pub keeps-put-back : (s t : Net) (order fs gs new dead : List ℕ) (r : ℕ) → AreLists s order new dead → IsGap s order (new ++ dead) fs r gs → t ≡ relinked (3 + r) s → KeepsOut s t (fs ++ r ∷ gs) (new ++ dead)
keeps-put-back s t order fs gs new dead r a g e q h m =
    let i = gap-list s order fs gs new dead a g.parts in
    let p = misses-append q (fs ++ r ∷ gs) (new ++ dead) m in
    let differ : r ≢ q = (misses-append q fs (r ∷ gs) p.0).1.0 in
    let u = unlinked-row s order new dead a q h (taken-misses q r order (new ++ dead) fs gs g.parts m) in
    subst (λ w. KeepsNeighbours s (3 + q) w) (sym e)
    (kept-by-relink s 0 (3 + r) (3 + q) (nodes_of fs) (nodes_of gs) (can-relink s order fs gs new dead r a g) i (sym g.before) u (λ (z : 3 + q ≡ 3 + r). differ (omega arith)))

-- the new rows are put in
pub lists-put : (s t : Net) (order fs gs new dead : List ℕ) (a : ℕ) → AreLists s order new dead → order ≡ fs ++ gs → last_of 0 (nodes_of fs) ≡ a → Splices s a 1 t → t.heads ≡ s.heads → AreLists t (fs ++ (new ++ gs)) [] dead
lists-put s t order fs gs new dead x a e last u h =
    let k = u 0 (nodes_of fs) (nodes_of gs) (nodes_of new) (gap-list s order fs gs new dead a e) last a.new (λ (z : 0 ≡ 1). omega arith) in
    record {
      heads = h ∙ a.heads;
      order = subst (λ xs. IsList t 0 xs) (sym (nodes-join fs (new ++ gs) ∙ ap (λ ys. nodes_of fs ++ ys) (nodes-join new gs))) k.0;
      new = k.1.0;
      dead = k.1.1 2 (nodes_of dead) a.dead (λ (z : 2 ≡ 0). omega arith) (λ (z : 2 ≡ 1). omega arith);
    }

-- Where a list is empty, nothing is spliced.
abbrev pub WasSpliced : Net → ℕ → ℕ → Net → Type 0
WasSpliced s a o t = t ≡ (if next_of s o == o then s else spliced a o s)

keeps-spliced : (s t : Net) (l a o r : ℕ) (xs ys bs : List ℕ) → IsList s l (xs ++ ys) → last_of l xs ≡ a → IsList s o bs → l ≢ o → WasSpliced s a o t → IsUnlinked s r → KeepsNeighbours s r t
keeps-spliced s t l a o r xs ys bs i e j n w u = elim (eqb_tells (next_of s o) o) [
  | inl none ↦ let z : t ≡ s = w ∙ rw none.0 refl in subst (λ v. KeepsNeighbours s r v) (sym z) (refl, refl)
  | inr some ↦ let z : t ≡ spliced a o s = w ∙ rw some.0 refl in subst (λ v. KeepsNeighbours s r v) (sym z) (kept-by-splice s l a o r xs ys bs i e j n u)
]

pub keeps-put : (s t : Net) (order fs gs new dead : List ℕ) (a : ℕ) → AreLists s order new dead → order ≡ fs ++ gs → last_of 0 (nodes_of fs) ≡ a → WasSpliced s a 1 t → KeepsOut s t order (new ++ dead)
keeps-put s t order fs gs new dead x a e last w q h m =
    keeps-spliced s t 0 x 1 (3 + q) (nodes_of fs) (nodes_of gs) (nodes_of new) (gap-list s order fs gs new dead a e) last a.new (λ (z : 0 ≡ 1). omega arith) w (unlinked-row s order new dead a q h m)

-- the new rows are given up
pub lists-given-up : (s t : Net) (order new dead : List ℕ) → AreLists s order new dead → Splices s 2 1 t → t.heads ≡ s.heads → AreLists t order [] (new ++ dead)
lists-given-up s t order new dead a u h =
    let k = u 2 [] (nodes_of dead) (nodes_of new) a.dead refl a.new (λ (z : 2 ≡ 1). omega arith) in
    record {
      heads = h ∙ a.heads;
      order = k.1.1 0 (nodes_of order) a.order (λ (z : 0 ≡ 2). omega arith) (λ (z : 0 ≡ 1). omega arith);
      new = k.1.0;
      dead = subst (λ xs. IsList t 2 xs) (sym (nodes-join new dead)) k.0;
    }

pub keeps-given-up : (s t : Net) (order new dead : List ℕ) → AreLists s order new dead → WasSpliced s 2 1 t → KeepsOut s t order (new ++ dead)
keeps-given-up s t order new dead a w q h m =
    keeps-spliced s t 2 2 1 (3 + q) [] (nodes_of dead) (nodes_of new) a.dead refl a.new (λ (z : 2 ≡ 1). omega arith) w (unlinked-row s order new dead a q h m)

-- a run is cut out
run-list : (s : Net) (order fs gs dead : List ℕ) (first n : ℕ) → AreLists s order [] dead → order ≡ fs ++ (run first (suc n) ++ gs) → IsList s 0 (nodes_of fs ++ (((3 + first) ∷ nodes_of (run (suc first) n)) ++ nodes_of gs))
run-list s order fs gs dead first n a e =
    let z : nodes_of (run first (suc n) ++ gs) ≡ ((3 + first) ∷ nodes_of (run (suc first) n)) ++ nodes_of gs = nodes-join (run first (suc n)) gs ∙ ap (λ rows. nodes_of rows ++ nodes_of gs) (run-front first n) in
    subst (λ xs. IsList s 0 xs) (ap (λ ys. nodes_of ys) e ∙ (nodes-join fs (run first (suc n) ++ gs) ∙ ap (λ ys. nodes_of fs ++ ys) z)) a.order

run-end : (first n : ℕ) → last_of (3 + first) (nodes_of (run (suc first) n)) ≡ 3 + (first + n)
run-end first n = last-node first (run (suc first) n) ∙ ap (λ x. 3 + x) (run-last first n)

pub lists-cut : (s t : Net) (order fs gs dead : List ℕ) (first n : ℕ) → AreLists s order [] dead → order ≡ fs ++ (run first (suc n) ++ gs) → Cuts s (3 + first) (3 + (first + n)) 1 t → t.heads ≡ s.heads → AreLists t (fs ++ gs) (run first (suc n)) dead
lists-cut s t order fs gs dead first n a e u h =
    let k = u 0 (nodes_of fs) (nodes_of (run (suc first) n)) (nodes_of gs) (run-list s order fs gs dead first n a e) (run-end first n) a.new (λ (z : 0 ≡ 1). omega arith) in
    record {
      heads = h ∙ a.heads;
      order = subst (λ xs. IsList t 0 xs) (sym (nodes-join fs gs)) k.0;
      new = subst (λ xs. IsList t 1 xs) (ap (λ rows. nodes_of rows) (sym (run-front first n))) k.1.0;
      dead = k.1.1 2 (nodes_of dead) a.dead (λ (z : 2 ≡ 0). omega arith) (λ (z : 2 ≡ 1). omega arith);
    }

pub keeps-cut : (s t : Net) (order fs gs dead : List ℕ) (first n : ℕ) → AreLists s order [] dead → order ≡ fs ++ (run first (suc n) ++ gs) → t ≡ cut_out (3 + first) (3 + (first + n)) 1 s → KeepsOut s t order ([] ++ dead)
keeps-cut s t order fs gs dead first n a e w q h m =
    subst (λ v. KeepsNeighbours s (3 + q) v) (sym w)
    (kept-by-cut s 0 (3 + first) (3 + (first + n)) 1 (3 + q) (nodes_of fs) (nodes_of (run (suc first) n)) (nodes_of gs) (run-list s order fs gs dead first n a e) (run-end first n) a.new (λ (z : 0 ≡ 1). omega arith) (unlinked-row s order [] dead a q h m))
