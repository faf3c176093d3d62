-- What is kept of steps, and what calls leave of it.
use Rattle.std.proofs.Common.{◌≡◌, ℕ, ◌+◌, ◌-◌, ◌<◌, ◌≤◌, zero, suc, List, [], ◌∷◌, ◌++◌, length, map, refl, ap, sym, subst, ◌∙◌, arith, Contains}
use Rattle.link_rows.specs.Net.{Net, Chain, IsList, nodes}
use Rattle.link_rows.specs.Unlinked.{IsUnlinked, KeepsNeighbours}
use Rattle.link_rows.specs.declared.rows.RowId.{RowId}
use Rattle.link_rows.proofs.NetLemmas.{Misses, misses-append, misses-join, same}
use Rattle.link_rows.proofs.KeptLemmas.{not-missed}
use Rattle.section_rows.specs.declared.undo.Undo.{Undo}
use Rattle.section_rows.specs.declared.undo.Undo.TheVariants as kept
use Rattle.section_rows.specs.Orders.{Taken, Put, run, with_at}
use Rattle.section_rows.specs.Kept.{AreLists, IsGap, IsIn, IsKept, nodes_of, order_of, place_behind, steps_of, walk}
use Rattle.section_rows.proofs.OrderLemmas.{nodes-missed, rows-back, with-at}

pub walk-is : (s : Net) (a : ℕ) (xs : List ℕ) (b : ℕ) → Chain s a xs b → walk (length xs) s a ≡ xs
walk-is s a [] b c = refl
walk-is s a (x ∷ xs) b c = ap (λ y. y ∷ walk (length xs) s y) c.0.0 ∙ ap (λ rest. x ∷ rest) (walk-is s x xs b c.1)

nodes-length : (rows : List ℕ) → length (nodes_of rows) ≡ length rows
nodes-length [] = refl
nodes-length (r ∷ rows) = ap suc (nodes-length rows)

pub order-is : (s : Net) (order : List ℕ) (count : ℕ) → IsList s 0 (nodes_of order) → length order ≡ count → order_of s count ≡ order
order-is s order count i e =
    let n : length (nodes_of order) ≡ count = nodes-length order ∙ e in
    ap (λ k. order_of s k) (sym n) ∙ (ap (λ xs. map (λ x. x - 3) xs) (walk-is s 0 (nodes_of order) 0 i.chain) ∙ rows-back order)

one-of : (s : Net) (r l : ℕ) (rows xs : List ℕ) → IsList s l (nodes_of rows) → Misses r rows → IsList s l xs → Contains xs (3 + r) → ⊥
one-of s r l rows xs j m i c =
    let e : nodes_of rows ≡ xs = (same s l (nodes_of rows) l xs l j.chain i.chain j.rows i.rows j.made i.made).1 in
    not-missed (3 + r) (nodes_of rows) (nodes-missed r rows m) (subst (λ ys. Contains ys (3 + r)) (sym e) c)

three-at : (s : Net) (order new dead : List ℕ) → AreLists s order new dead → (r : ℕ) → Misses r order → Misses r new → Misses r dead → (l : ℕ) (xs : List ℕ) → IsList s l xs → Contains xs (3 + r) → l < 3 → ⊥
three-at s order new dead a r m n d zero xs i c h = one-of s r 0 order xs a.order m i c
three-at s order new dead a r m n d (suc zero) xs i c h = one-of s r 1 new xs a.new n i c
three-at s order new dead a r m n d (suc (suc zero)) xs i c h = one-of s r 2 dead xs a.dead d i c
three-at s order new dead a r m n d (suc (suc (suc l))) xs i c h = absurd (omega arith)

-- a row that is not among those of the three lists stands in none
three : (s : Net) (order new dead : List ℕ) → AreLists s order new dead → (r : ℕ) → Misses r (order ++ (new ++ dead)) → (l : ℕ) (xs : List ℕ) → IsList s l xs → Contains xs (3 + r) → ⊥
three s order new dead a r m l xs i c =
    let p = misses-append r order (new ++ dead) m in
    let q = misses-append r new dead p.1 in
    let below : l < 3 = omega (arith, i.made, a.heads) in
    three-at s order new dead a r p.0 q.0 q.1 l xs i c below

pub unlinked-row : (s : Net) (order new dead : List ℕ) → AreLists s order new dead → (r : ℕ) → 3 + r < nodes s → Misses r (order ++ (new ++ dead)) → IsUnlinked s (3 + r)
unlinked-row s order new dead a r h m = record { row = omega (arith, a.heads); pushed = h; out = three s order new dead a r m }

pub steps-taken : (s : Net) (order others fs gs : List ℕ) (row : RowId) (us : List Undo) → IsGap s order others fs row.0 gs → steps_of s order (kept.Taken row ∷ us) ≡ Taken (length fs) row.0 ∷ steps_of s (fs ++ row.0 ∷ gs) us
steps-taken s order others fs gs row us g =
    ap (λ at. Taken at row.0 ∷ steps_of s (with_at at row.0 order) us) g.place
    ∙ ap (λ o. Taken (length fs) row.0 ∷ steps_of s o us) (ap (λ o. with_at (length fs) row.0 o) g.parts ∙ with-at row.0 fs gs)

pub steps-put : (s : Net) (order fs gs : List ℕ) (first count : ℕ) (us : List Undo) → IsIn order fs first count gs → steps_of s order (kept.Put first count ∷ us) ≡ Put first count ∷ steps_of s (fs ++ gs) us
steps-put s order fs gs first count us i = ap (λ o. Put first count ∷ steps_of s o us) i.rest

-- with one row more among them
without-mid : (r x : ℕ) (fs gs : List ℕ) → Misses r (fs ++ x ∷ gs) → Misses r (fs ++ gs)
without-mid r x fs gs m = let p = misses-append r fs (x ∷ gs) m in misses-join r fs gs p.0 p.1.1

pub taken-misses : (r x : ℕ) (order others fs gs : List ℕ) → order ≡ fs ++ gs → Misses r ((fs ++ x ∷ gs) ++ others) → Misses r (order ++ others)
taken-misses r x order others fs gs e m =
    let p = misses-append r (fs ++ x ∷ gs) others m in
    subst (λ o. Misses r (o ++ others)) (sym e) (misses-join r (fs ++ gs) others (without-mid r x fs gs p.0) p.1)

pub put-misses : (r : ℕ) (order others fs rows gs : List ℕ) → order ≡ fs ++ (rows ++ gs) → Misses r ((fs ++ gs) ++ (rows ++ others)) → Misses r (order ++ others)
put-misses r order others fs rows gs e m =
    let p = misses-append r (fs ++ gs) (rows ++ others) m in
    let q = misses-append r fs gs p.0 in
    let z = misses-append r rows others p.1 in
    subst (λ o. Misses r (o ++ others)) (sym e) (misses-join r (fs ++ (rows ++ gs)) others (misses-join r fs (rows ++ gs) q.0 (misses-join r rows gs z.0 q.1)) z.1)

-- Rows that stand nowhere keep their neighbours.
abbrev pub KeepsOut : Net → Net → List ℕ → List ℕ → Type 0
KeepsOut s t order others = (r : ℕ) → 3 + r < nodes s → Misses r (order ++ others) → KeepsNeighbours s (3 + r) t

pub kept-frame : (s t : Net) (order others : List ℕ) (us : List Undo) → nodes s ≤ nodes t → KeepsOut s t order others → IsKept s order others us → IsKept t order others us × (steps_of t order us ≡ steps_of s order us)
kept-frame s t order others [] le keeps k = (tt, refl)
kept-frame s t order others (kept.Taken row ∷ us) le keeps k =
    let fs = k.0 in
    let gs = k.1 in
    let g = k.2.0 in
    let f = keeps row.0 g.pushed g.out in
    let g2 : IsGap t order others fs row.0 gs = record { parts = g.parts; place = ap (λ x. place_behind x order) f.1 ∙ g.place; pushed = omega (arith, g.pushed); before = f.1 ∙ g.before; behind = f.0 ∙ g.behind; out = g.out } in
    let deep = kept-frame s t (fs ++ row.0 ∷ gs) others us le (λ r h m. keeps r h (taken-misses r row.0 order others fs gs g.parts m)) k.2.1 in
    ((fs, gs, (g2, deep.0)), steps-taken t order others fs gs row us g2 ∙ (ap (λ rest. Taken (length fs) row.0 ∷ rest) deep.1 ∙ sym (steps-taken s order others fs gs row us g)))
kept-frame s t order others (kept.Put first count ∷ us) le keeps k =
    let fs = k.0 in
    let gs = k.1 in
    let i = k.2.0 in
    let deep = kept-frame s t (fs ++ gs) (run first count ++ others) us le (λ r h m. keeps r h (put-misses r order others fs (run first count) gs i.parts m)) k.2.1 in
    ((fs, gs, (i, deep.0)), steps-put t order fs gs first count us i ∙ (ap (λ rest. Put first count ∷ rest) deep.1 ∙ sym (steps-put s order fs gs first count us i)))

-- with more rows in the other lists, which are new
pub kept-others : (s : Net) (order others more : List ℕ) (us : List Undo) → ((r : ℕ) → 3 + r < nodes s → Misses r others → Misses r more) → IsKept s order others us → IsKept s order more us
kept-others s order others more [] wider k = tt
kept-others s order others more (kept.Taken row ∷ us) wider k =
    let g = k.2.0 in
    let p = misses-append row.0 order others g.out in
    let g2 : IsGap s order more k.0 row.0 k.1 = record { parts = g.parts; place = g.place; pushed = g.pushed; before = g.before; behind = g.behind; out = misses-join row.0 order more p.0 (wider row.0 g.pushed p.1) } in
    (k.0, k.1, (g2, kept-others s (k.0 ++ row.0 ∷ k.1) others more us wider k.2.1))
kept-others s order others more (kept.Put first count ∷ us) wider k =
    let rows = run first count in
    (k.0, k.1, (k.2.0, kept-others s (k.0 ++ k.1) (rows ++ others) (rows ++ more) us (λ r h m. let p = misses-append r rows others m in misses-join r rows more p.0 (wider r h p.1)) k.2.1))
