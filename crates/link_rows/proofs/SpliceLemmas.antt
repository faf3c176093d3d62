-- A list that is put into another.
use Rattle.std.proofs.Common.{◌≡◌, ◌≢◌, ℕ, ◌<◌, List, [], ◌∷◌, ◌++◌, length, sym, subst, ◌∙◌, append_assoc, arith}
use Rattle.std.proofs.Math.ListN.{set}
use Rattle.std.proofs.lemmas.List.{get_or-set_other, length-set, append-nil}
use Rattle.link_rows.specs.Net.{Net, Chain, Follows, AllRows, IsList, IsNet, Splices, last_of, linked, next_of, prev_of, spliced}
use Rattle.link_rows.proofs.NetLemmas.{Misses, Unique, apart, away, bend, chain-unique, follows-linked, heads-missed, join, kept, last-follows, last-next, misses-append, other-kept, prev-below, rows-join, rows-linked, rows-split, split, tail-missed, unique-front, unique-missed}

-- both parts, up to the node n that followed a
pub spliced-front : (s : Net) (l a n o b : ℕ) (xs bs : List ℕ) → IsNet s → IsList s o (b ∷ bs) → Chain s l xs n → AllRows s xs → l < s.heads → prev_of s n ≡ a → Unique (l ∷ xs)
    → Misses b (l ∷ xs) → Misses (prev_of s o) (l ∷ xs) → Misses a (o ∷ b ∷ bs) → Misses n (o ∷ b ∷ bs) → Misses n xs → l ≢ o → a < length s.next → n < length s.next
    → Chain (linked o o (linked (prev_of s o) n (linked a b s))) l (xs ++ b ∷ bs) n
spliced-front s l a n o b xs bs t i c m h q u mb mc ma mn nx ne ha hn =
    let k = prev_of s o in
    let ho : o < length s.next = omega (arith, t.heads, i.made) in
    let hk : k < length s.next = prev-below s o t ho in
    let hb : b < length s.prev = omega (arith, t.as_many, i.rows.0.1) in
    let hn2 : n < length (set s.prev b a) = rw length-set (omega (arith, t.as_many, hn)) in
    let hk2 : k < length (set s.next a b) = rw length-set hk in
    let v = chain-unique s o (b ∷ bs) o i.chain i.rows i.made in
    let ob : o ≢ b = λ z. v.0.0 (sym z) in
    let bn : b ≢ n = mn.1.0 in
    let no : n ≢ o = λ z. mn.0 (sym z) in
    let s1 = linked a b s in
    let s2 = linked k n s1 in
    let c1 = bend s a b n l xs c q u mb.1 ha hb in
    let d1 = kept s a b b bs o i.chain.1 ma.1.0 ma.1.1 v.1.0 ob in
    let p1 : prev_of s1 o ≡ k = get_or-set_other s.prev b o a 0 ob in
    let d2 = bend s1 k n o b bs d1 p1 v.1 mn.1.1 hk2 hn2 in
    let c2 = kept s1 k n l xs b c1 mc.0 mc.1 nx bn in
    let c3 = kept s2 o o l xs b c2 ne (heads-missed s o xs m i.made) (heads-missed s o xs m i.made) v.0.0 in
    let d3 = kept s2 o o b bs n d2 v.0.0 v.0.1 v.0.1 no in
    join (linked o o s2) l xs b bs n c3 d3

pub spliced-o : (s : Net) (a b k n o : ℕ) → IsNet s → o < s.heads → IsList (linked o o (linked k n (linked a b s))) o []
spliced-o s a b k n o t h =
    let p : o < length (set (set s.next a b) k n) = rw (length-set, length-set) (omega (arith, t.heads)) in
    let q : o < length (set (set s.prev b a) n k) = rw (length-set, length-set) (omega (arith, t.heads, t.as_many)) in
    record { made = h; rows = tt; chain = follows-linked (linked k n (linked a b s)) o o p q }

pub splices-some : (s : Net) (l a o b : ℕ) (xs ys bs : List ℕ) → IsNet s → IsList s l (xs ++ ys) → last_of l xs ≡ a → IsList s o (b ∷ bs) → l ≢ o → a < length s.next → IsList (spliced a o s) l (xs ++ ((b ∷ bs) ++ ys))
splices-some s l a o b xs [] bs t i q j ne ha =
    let c : Chain s l xs l = rw append-nil at i.chain in
    let m : AllRows s xs = rw append-nil at i.rows in
    let f : Follows s a l = subst (λ z. Follows s z l) q (last-next s l xs l c) in
    let on : o ≢ l = λ z. ne (sym z) in
    let e : next_of s o ≡ b = j.chain.0.0 in
    let hl : l < length s.next = omega (arith, t.heads, i.made) in
    let w = spliced-front s l a l o b xs bs t j c m i.made f.1 (chain-unique s l xs l c m i.made)
    (away s l xs b bs o c j.chain.1 m j.rows.1 i.made j.made ne)
    (away s l xs (prev_of s o) [] o c (last-follows s o (b ∷ bs) o j.chain) m tt i.made j.made ne)
    (away s o (b ∷ bs) a [] l j.chain f j.rows tt j.made i.made on)
    (away s o (b ∷ bs) l xs l j.chain c j.rows m j.made i.made on)
    (heads-missed s l xs m i.made) ne ha hl in
    record {
      made = i.made;
      rows = rw append-nil (rows-linked (linked (prev_of s o) (next_of s a) (linked a (next_of s o) s)) o o (xs ++ b ∷ bs)
          (rows-linked (linked a (next_of s o) s) (prev_of s o) (next_of s a) (xs ++ b ∷ bs) (rows-linked s a (next_of s o) (xs ++ b ∷ bs) (rows-join s xs (b ∷ bs) m j.rows))));
      chain = rw append-nil (subst (λ z. Chain (linked o o (linked (prev_of s o) z (linked a (next_of s o) s))) l (xs ++ b ∷ bs) l) (sym f.0)
          (subst (λ z. Chain (linked o o (linked (prev_of s o) l (linked a z s))) l (xs ++ b ∷ bs) l) (sym e) w));
    }
splices-some s l a o b xs (y ∷ ys) bs t i q j ne ha =
    let d = split s l xs y ys l i.chain in
    let m = rows-split s xs (y ∷ ys) i.rows in
    let f : Follows s a y = subst (λ z. Follows s z y) q (last-next s l xs y d.0) in
    let on : o ≢ l = λ z. ne (sym z) in
    let e : next_of s o ≡ b = j.chain.0.0 in
    let k = prev_of s o in
    let u = chain-unique s l (xs ++ y ∷ ys) l i.chain i.rows i.made in
    let mb = away s l (xs ++ y ∷ ys) b bs o i.chain j.chain.1 i.rows j.rows.1 i.made j.made ne in
    let mc = away s l (xs ++ y ∷ ys) k [] o i.chain (last-follows s o (b ∷ bs) o j.chain) i.rows tt i.made j.made ne in
    let mb2 = misses-append b xs (y ∷ ys) mb.1 in
    let mc2 = misses-append k xs (y ∷ ys) mc.1 in
    let g : Chain s a (y ∷ ys) l = (f, d.1) in
    let ma = away s o (b ∷ bs) a (y ∷ ys) l j.chain g j.rows m.1 j.made i.made on in
    let mn = away s o (b ∷ bs) y ys l j.chain d.1 j.rows m.1.1 j.made i.made on in
    let v = unique-missed (l ∷ xs) y ys u in
    let r : Misses a (y ∷ ys) = apart s a (y ∷ ys) l y ys l d.1 g m.1.1 m.1 i.made i.made (λ _. omega arith) in
    let w = spliced-front s l a y o b xs bs t j d.0 m.0 i.made f.1 (unique-front (l ∷ xs) (y ∷ ys) u) (mb.0, mb2.0) (mc.0, mc2.0) ma mn v.1 ne ha m.1.0.1 in
    let z = heads-missed s o (y ∷ ys) m.1 j.made in
    let k1 = kept s a b y ys l d.1 r.0 r.1 mb2.1.1 mb.0 in
    let k2 = kept (linked a b s) k y y ys l k1 mc2.1.0 mc2.1.1 (tail-missed s y ys l d.1 m.1.1 i.made) v.0 in
    let k3 = kept (linked k y (linked a b s)) o o y ys l k2 z.0 z.1 z.1 ne in
    let x : Chain (linked o o (linked k y (linked a b s))) l (xs ++ (b ∷ (bs ++ y ∷ ys))) l =
    rw append_assoc at (join (linked o o (linked k y (linked a b s))) l (xs ++ b ∷ bs) y ys l w k3) in
    record {
      made = i.made;
      rows = rows-linked (linked k (next_of s a) (linked a (next_of s o) s)) o o (xs ++ ((b ∷ bs) ++ y ∷ ys))
          (rows-linked (linked a (next_of s o) s) k (next_of s a) (xs ++ ((b ∷ bs) ++ y ∷ ys)) (rows-linked s a (next_of s o) (xs ++ ((b ∷ bs) ++ y ∷ ys))
          (rows-join s xs ((b ∷ bs) ++ y ∷ ys) m.0 (rows-join s (b ∷ bs) (y ∷ ys) j.rows m.1))));
      chain = subst (λ z. Chain (linked o o (linked k z (linked a (next_of s o) s))) l (xs ++ (b ∷ (bs ++ y ∷ ys))) l) (sym f.0)
          (subst (λ z. Chain (linked o o (linked k y (linked a z s))) l (xs ++ (b ∷ (bs ++ y ∷ ys))) l) (sym e) x);
    }

-- Neither a node nor the one that follows it is in another list.
pub next-missed : (s : Net) (l a : ℕ) (xs ys : List ℕ) (m : ℕ) (zs : List ℕ) → IsList s l (xs ++ ys) → last_of l xs ≡ a → IsList s m zs → m ≢ l → Misses a (m ∷ zs) × Misses (next_of s a) (m ∷ zs)
next-missed s l a xs [] m zs i q k n =
    let c : Chain s l xs l = rw append-nil at i.chain in
    let v : AllRows s xs = rw append-nil at i.rows in
    let f : Follows s a l = subst (λ z. Follows s z l) q (last-next s l xs l c) in (
      away s m zs a [] l k.chain f k.rows tt k.made i.made n,
      subst (λ z. Misses z (m ∷ zs)) (sym f.0) (away s m zs l xs l k.chain c k.rows v k.made i.made n),
    )
next-missed s l a xs (y ∷ ys) m zs i q k n =
    let d = split s l xs y ys l i.chain in
    let v = rows-split s xs (y ∷ ys) i.rows in
    let f : Follows s a y = subst (λ z. Follows s z y) q (last-next s l xs y d.0) in
    let g : Chain s a (y ∷ ys) l = (f, d.1) in (
      away s m zs a (y ∷ ys) l k.chain g k.rows v.1 k.made i.made n,
      subst (λ z. Misses z (m ∷ zs)) (sym f.0) (away s m zs y ys l k.chain d.1 k.rows v.1.1 k.made i.made n),
    )

pub splices-others : (s : Net) (l a o b : ℕ) (xs ys bs : List ℕ) (m : ℕ) (zs : List ℕ) → IsList s l (xs ++ ys) → last_of l xs ≡ a → IsList s o (b ∷ bs) → IsList s m zs → m ≢ l → m ≢ o → IsList (spliced a o s) m zs
splices-others s l a o b xs ys bs m zs i q j k n1 n2 =
    let nb = next-missed s l a xs ys m zs i q k n1 in
    let x = away s m zs b bs o k.chain j.chain.1 k.rows j.rows.1 k.made j.made n2 in
    let x2 = subst (λ v. Misses v (m ∷ zs)) (sym j.chain.0.0) x in
    let w = away s m zs (prev_of s o) [] o k.chain (last-follows s o (b ∷ bs) o j.chain) k.rows tt k.made j.made n2 in
    let z : Misses o (m ∷ zs) = (n2, heads-missed s o zs k.rows j.made) in
    let s1 = linked a (next_of s o) s in
    other-kept (linked (prev_of s o) (next_of s a) s1) o o m zs
    (other-kept s1 (prev_of s o) (next_of s a) m zs (other-kept s a (next_of s o) m zs k nb.0 x2) w nb.1) z z

pub splices-none-at : (s : Net) (o l : ℕ) (xs ys bs : List ℕ) → next_of s o ≡ o → IsList s l (xs ++ ys) → IsList s o bs → IsList s l (xs ++ (bs ++ ys)) × IsList s o []
splices-none-at s o l xs ys [] e i j = (i, j)
splices-none-at s o l xs ys (b ∷ bs) e i j = let z : o ≡ b = sym e ∙ j.chain.0.0 in absurd (omega (arith, j.made, j.rows.0.0))

pub splices-none : (s : Net) (a o : ℕ) → next_of s o ≡ o → Splices s a o s
splices-none s a o e = λ l xs ys bs i q j ne.
    let r = splices-none-at s o l xs ys bs e i j in
    (r.0, (r.1, λ m zs k n1 n2. k))

pub splices-at : (s : Net) (a o l : ℕ) (xs ys bs : List ℕ) → IsNet s → a < length s.next → next_of s o ≢ o → IsList s l (xs ++ ys) → last_of l xs ≡ a → IsList s o bs → l ≢ o
    → IsList (spliced a o s) l (xs ++ (bs ++ ys)) × (IsList (spliced a o s) o [] × ((m : ℕ) (zs : List ℕ) → IsList s m zs → m ≢ l → m ≢ o → IsList (spliced a o s) m zs))
splices-at s a o l xs ys [] t h e i q j ne = absurd (e j.chain.0)
splices-at s a o l xs ys (b ∷ bs) t h e i q j ne = (
  splices-some s l a o b xs ys bs t i q j ne h,
  (
    spliced-o s a (next_of s o) (prev_of s o) (next_of s a) o t j.made,
    λ m zs k n1 n2. splices-others s l a o b xs ys bs m zs i q j k n1 n2,
  ),
)

pub splices : (s : Net) (a o : ℕ) → IsNet s → a < length s.next → next_of s o ≢ o → Splices s a o (spliced a o s)
splices s a o t h e = λ l xs ys bs i q j ne. splices-at s a o l xs ys bs t h e i q j ne
