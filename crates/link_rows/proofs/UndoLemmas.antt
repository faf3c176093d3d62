-- A row that is unlinked and relinked.
use Rattle.std.proofs.Common.{◌≡◌, ◌≢◌, ℕ, ◌<◌, ◌≤◌, List, [], ◌∷◌, ◌++◌, length, get_or, refl, ap, sym, subst, ◌∙◌, arith, zero, suc}
use Rattle.std.proofs.Math.ListN.{set}
use Rattle.std.proofs.lemmas.List.{set-get_or, get_or-set_same, get_or-set_other, length-set}
use Rattle.link_rows.specs.Net.{Net, net, Chain, AllRows, IsList, IsNet, CanRelink, next_of, prev_of, relinked, unlinked}
use Rattle.link_rows.proofs.NetLemmas.{last-follows, prev-below, rows-split, split, tail-missed}

pub set-twice : (xs : List ℕ) (i a b : ℕ) → set (set xs i a) i b ≡ set xs i b
set-twice [] i a b = refl
set-twice (x ∷ xs) zero a b = refl
set-twice (x ∷ xs) (suc i) a b = ap (λ l. x ∷ l) (set-twice xs i a b)

pub set-same : (xs : List ℕ) (i a : ℕ) → get_or xs i 0 ≡ a → set xs i a ≡ xs
set-same xs i a e = subst (λ v. set xs i v ≡ xs) e (set-get_or xs i 0)

-- what follows r, and what leads on from it, is another node
pub next-other : (s : Net) (l r : ℕ) (ys : List ℕ) → Chain s r ys l → AllRows s (r ∷ ys) → l < s.heads → (next_of s r ≢ r) × (prev_of s (next_of s r) ≡ r)
next-other s l r [] c m h = ((λ e. let z : l ≡ r = sym c.0 ∙ e in absurd (omega (arith, m.0.0, h))), ap (λ v. prev_of s v) c.0 ∙ c.1)
next-other s l r (y ∷ ys) c m h =
    ((λ e. (tail-missed s r (y ∷ ys) l c m.1 h).0 (sym c.0.0 ∙ e)), ap (λ v. prev_of s v) c.0.0 ∙ c.0.1)

pub undone-by : (s : Net) (r : ℕ) → IsNet s → s.heads ≤ r → r < length s.next → next_of s (prev_of s r) ≡ r → next_of s r ≢ r → prev_of s (next_of s r) ≡ r → CanRelink (unlinked r s) r × (relinked r (unlinked r s) ≡ s)
undone-by s r t g h e n f =
    let p = prev_of s r in
    let k = next_of s r in
    let hp = prev-below s r t h in
    let pr : r ≢ p = λ z. n (ap (λ v. next_of s v) z ∙ e) in
    let rk : r ≢ k = λ z. n (sym z) in
    let a : get_or (set s.next p k) r 0 ≡ k = get_or-set_other s.next p r k 0 pr in
    let b : get_or (set s.prev k p) r 0 ≡ p = get_or-set_other s.prev k r p 0 rk in
    let d : get_or (set s.next p k) (get_or (set s.prev k p) r 0) 0 ≡ k = ap (λ v. get_or (set s.next p k) v 0) b ∙ get_or-set_same s.next p k 0 hp in
    let x : set (set (set s.next p k) p r) r k ≡ s.next = ap (λ v. set v r k) (set-twice s.next p k r ∙ set-same s.next p r e) ∙ set-same s.next r k refl in
    let y : set (set (set s.prev k p) r p) k r ≡ s.prev = ap (λ v. set v k r) (set-same (set s.prev k p) r p b) ∙ (set-twice s.prev k p r ∙ set-same s.prev k r f) in
    let w : net s.heads (set (set (set s.next p k) p r) r k) (set (set (set s.prev k p) r p) k r) ≡ s = ap (λ v. net s.heads v (set (set (set s.prev k p) r p) k r)) x ∙ ap (λ v. net s.heads s.next v) y in
    let w1 : net s.heads (set (set (set s.next p k) p r) r (get_or (set s.next p k) r 0)) (set (set (set s.prev k p) r p) (get_or (set s.next p k) r 0) r) ≡ s =
    subst (λ v. net s.heads (set (set (set s.next p k) p r) r v) (set (set (set s.prev k p) r p) v r) ≡ s) (sym a) w in (
      record { row = g; pushed = rw length-set h; out = λ z. n (sym d ∙ z); side_by_side = d ∙ sym a },
      subst (λ v. net s.heads (set (set (set s.next p k) v r) r (get_or (set s.next p k) r 0)) (set (set (set s.prev k p) r v) (get_or (set s.next p k) r 0) r) ≡ s) (sym b) w1,
    )

pub undone : (s : Net) (l : ℕ) (xs : List ℕ) (r : ℕ) (ys : List ℕ) → IsNet s → IsList s l (xs ++ r ∷ ys) → CanRelink (unlinked r s) r × (relinked r (unlinked r s) ≡ s)
undone s l xs r ys t i =
    let d = split s l xs r ys l i.chain in
    let m = rows-split s xs (r ∷ ys) i.rows in
    let o = next-other s l r ys d.1 m.1 i.made in
    undone-by s r t m.1.0.0 m.1.0.1 (last-follows s l xs r d.0).0 o.0 o.1
