-- A run of rows that is taken out of its list.
use Rattle.std.proofs.Common.{◌≡◌, ◌≢◌, ℕ, ◌<◌, List, [], ◌∷◌, ◌++◌, length, refl, sym, subst, ◌∙◌, append_assoc, arith}
use Rattle.std.proofs.Math.ListN.{set}
use Rattle.std.proofs.lemmas.List.{get_or-set_other, length-set, append-nil}
use Rattle.link_rows.specs.Net.{Net, Chain, Follows, AllRows, IsList, IsNet, Cuts, cut_out, last_of, linked, next_of, prev_of}
use Rattle.link_rows.proofs.SpliceLemmas.{next-missed}
use Rattle.link_rows.proofs.NetLemmas.{Misses, Unique, apart, away, bend, chain-unique, follows-linked, heads-missed, join, kept, last-follows, last-next, misses-append, other-kept, prev-below, rows-join, rows-linked, rows-split, split, tail-missed, unique-front, unique-missed}

pub last-row-missed : (ws : List ℕ) (f : ℕ) (rs : List ℕ) → Unique (ws ++ f ∷ rs) → Misses (last_of f rs) ws
last-row-missed ws f [] u = unique-missed ws f [] u
last-row-missed ws f (x ∷ rs) u =
    (misses-append (last_of x rs) ws (f ∷ []) (last-row-missed (ws ++ f ∷ []) x rs (rw append_assoc u))).0

pub cut-parts : (s : Net) (l f e o n : ℕ) (xs rs : List ℕ) → IsNet s → Chain s l xs f → Chain s f rs n → AllRows s xs → AllRows s (f ∷ rs) → l < s.heads → o < s.heads → l ≢ o → prev_of s n ≡ e
    → Unique (l ∷ xs) → Unique (f ∷ rs) → Misses n xs → Misses n (f ∷ rs) → Misses (prev_of s f) (f ∷ rs) → Misses f (l ∷ xs) → Misses e (l ∷ xs) → n ≢ o → e < length s.next → n < length s.next
    → Chain (linked o f (linked (prev_of s f) n (linked e o s))) l xs n × Chain (linked o f (linked (prev_of s f) n (linked e o s))) o (f ∷ rs) o
cut-parts s l f e o n xs rs t c r m w hl ho ne q u v nx nr mp mf me nh he hn =
    let p = prev_of s f in
    let hp : p < length s.next = prev-below s f t w.0.1 in
    let bo : o < length s.prev = omega (arith, t.as_many, t.heads, ho) in
    let hp2 : p < length (set s.next e o) = rw length-set hp in
    let hn2 : n < length (set s.prev o e) = rw length-set (omega (arith, t.as_many, hn)) in
    let ho3 : o < length (set (set s.next e o) p n) = rw (length-set, length-set) (omega (arith, t.heads, ho)) in
    let hf3 : f < length (set (set s.prev o e) n p) = rw (length-set, length-set) (omega (arith, t.as_many, w.0.1)) in
    let z = heads-missed s o (f ∷ rs) w ho in
    let y = heads-missed s o xs m ho in
    let of : o ≢ f = λ g. z.0 (sym g) in
    let on : o ≢ n = λ g. nh (sym g) in
    let nf : n ≢ f = λ g. nr.0 (sym g) in
    let s1 = linked e o s in
    let s2 = linked p n s1 in
    let r1 = bend s e o n f rs r q v z.1 he bo in
    let c1 = kept s e o l xs f c me.0 me.1 y z.0 in
    let p1 : prev_of s1 f ≡ p = get_or-set_other s.prev o f e 0 z.0 in
    let c2 = bend s1 p n f l xs c1 p1 u nx hp2 hn2 in
    let r2 = kept s1 p n f rs o r1 mp.0 mp.1 nr.1 on in
    let c3 = kept s2 o f l xs n c2 ne y mf.1 nf in
    let r3 = kept s2 o f f rs o r2 z.0 z.1 v.0 of in
    (c3, (follows-linked s2 o f ho3 hf3, r3))

pub last-of-append : (l : ℕ) (xs : List ℕ) (f : ℕ) (rs : List ℕ) → last_of l (xs ++ f ∷ rs) ≡ last_of f rs
last-of-append l [] f rs = refl
last-of-append l (x ∷ xs) f rs = last-of-append x xs f rs

rows-cut : (s : Net) (f e o : ℕ) (xs : List ℕ) → AllRows s xs → AllRows (cut_out f e o s) xs
rows-cut s f e o xs m = rows-linked (linked (prev_of s f) (next_of s e) (linked e o s)) o f xs (rows-linked (linked e o s) (prev_of s f) (next_of s e) xs (rows-linked s e o xs m))

pub cuts-own : (s : Net) (f e o l : ℕ) (xs rs ys : List ℕ) → IsNet s → e < length s.next → IsList s l (xs ++ ((f ∷ rs) ++ ys)) → last_of f rs ≡ e → o < s.heads → l ≢ o
    → IsList (cut_out f e o s) l (xs ++ ys) × IsList (cut_out f e o s) o (f ∷ rs)
cuts-own s f e o l xs rs [] t he i q ho ne =
    let c0 : Chain s l (xs ++ f ∷ rs) l = rw append-nil at i.chain in
    let m0 : AllRows s (xs ++ f ∷ rs) = rw append-nil at i.rows in
    let d = split s l xs f rs l c0 in
    let m = rows-split s xs (f ∷ rs) m0 in
    let u = chain-unique s l (xs ++ f ∷ rs) l c0 m0 i.made in
    let g : Follows s e l = subst (λ z. Follows s z l) q (last-next s f rs l d.1) in
    let hl : l < length s.next = omega (arith, t.heads, i.made) in
    let p : Chain s (prev_of s f) (f ∷ rs) l = (last-follows s l xs f d.0, d.1) in
    let w = cut-parts s l f e o l xs rs t d.0 d.1 m.0 m.1 i.made ho ne g.1 (unique-front (l ∷ xs) (f ∷ rs) u)
    (chain-unique s f rs l d.1 m.1.1 i.made) (heads-missed s l xs m.0 i.made) (heads-missed s l (f ∷ rs) m.1 i.made)
    (apart s (prev_of s f) (f ∷ rs) l f rs l d.1 p m.1.1 m.1 i.made i.made (λ _. omega arith))
    (unique-missed (l ∷ xs) f rs u) (subst (λ z. Misses z (l ∷ xs)) q (last-row-missed (l ∷ xs) f rs u)) ne he hl in
    let x = subst (λ z. Chain (linked o f (linked (prev_of s f) z (linked e o s))) l xs l × Chain (linked o f (linked (prev_of s f) z (linked e o s))) o (f ∷ rs) o) (sym g.0) w in (
      record { made = i.made; rows = rw append-nil (rows-cut s f e o xs m.0); chain = rw append-nil x.0 },
      record { made = ho; rows = rows-cut s f e o (f ∷ rs) m.1; chain = x.1 },
    )
cuts-own s f e o l xs rs (y ∷ ys) t he i q ho ne =
    let d = split s l xs f (rs ++ y ∷ ys) l i.chain in
    let a = split s f rs y ys l d.1 in
    let m = rows-split s xs (f ∷ (rs ++ y ∷ ys)) i.rows in
    let b = rows-split s (f ∷ rs) (y ∷ ys) m.1 in
    let u = chain-unique s l (xs ++ f ∷ (rs ++ y ∷ ys)) l i.chain i.rows i.made in
    let u1 : Unique ((l ∷ (xs ++ f ∷ rs)) ++ y ∷ ys) = rw append_assoc u in
    let u2 : Unique ((l ∷ xs) ++ f ∷ rs) = unique-front (l ∷ (xs ++ f ∷ rs)) (y ∷ ys) u1 in
    let ny = unique-missed (l ∷ (xs ++ f ∷ rs)) y ys u1 in
    let n2 = misses-append y xs (f ∷ rs) ny.1 in
    let g : Follows s e y = subst (λ z. Follows s z y) q (last-next s f rs y a.0) in
    let h : Chain s e (y ∷ ys) l = (g, a.1) in
    let p : Chain s (prev_of s f) (f ∷ (rs ++ y ∷ ys)) l = (last-follows s l xs f d.0, d.1) in
    let mp = misses-append (prev_of s f) (f ∷ rs) (y ∷ ys) (apart s (prev_of s f) (f ∷ (rs ++ y ∷ ys)) l f (rs ++ y ∷ ys) l d.1 p m.1.1 m.1 i.made i.made (λ _. omega arith)) in
    let v = chain-unique s f (rs ++ y ∷ ys) l d.1 m.1.1 i.made in
    let nh : y ≢ o = (heads-missed s o (y ∷ ys) b.1 ho).0 in
    let w = cut-parts s l f e o y xs rs t d.0 a.0 m.0 b.0 i.made ho ne g.1 (unique-front (l ∷ xs) (f ∷ rs) u2)
    (unique-front (f ∷ rs) (y ∷ ys) v) n2.0 n2.1 mp.0
    (unique-missed (l ∷ xs) f rs u2) (subst (λ z. Misses z (l ∷ xs)) q (last-row-missed (l ∷ xs) f rs u2)) nh he b.1.0.1 in
    let x = subst (λ z. Chain (linked o f (linked (prev_of s f) z (linked e o s))) l xs y × Chain (linked o f (linked (prev_of s f) z (linked e o s))) o (f ∷ rs) o) (sym g.0) w in
    let me : Misses e (y ∷ ys) = apart s e (y ∷ ys) l y ys l a.1 h b.1.1 b.1 i.made i.made (λ _. omega arith) in
    let mo = heads-missed s o (y ∷ ys) b.1 ho in
    let mf = misses-append f rs (y ∷ ys) v.0 in
    let lf : l ≢ f = (unique-missed (l ∷ xs) f rs u2).0 in
    let k1 = kept s e o y ys l a.1 me.0 me.1 mo.1 ne in
    let k2 = kept (linked e o s) (prev_of s f) y y ys l k1 mp.1.0 mp.1.1 (tail-missed s y ys l a.1 b.1.1 i.made) ny.0 in
    let k3 = kept (linked (prev_of s f) y (linked e o s)) o f y ys l k2 mo.0 mo.1 mf.1.1 lf in
    let k4 : Chain (cut_out f e o s) y ys l = subst (λ z. Chain (linked o f (linked (prev_of s f) z (linked e o s))) y ys l) (sym g.0) k3 in (
      record { made = i.made; rows = rows-cut s f e o (xs ++ y ∷ ys) (rows-join s xs (y ∷ ys) m.0 b.1); chain = join (cut_out f e o s) l xs y ys l x.0 k4 },
      record { made = ho; rows = rows-cut s f e o (f ∷ rs) b.0; chain = x.1 },
    )

pub run-next : (s : Net) (f e l : ℕ) (xs rs ys : List ℕ) (m : ℕ) (zs : List ℕ) → IsList s l (xs ++ ((f ∷ rs) ++ ys)) → last_of f rs ≡ e → IsList s m zs → m ≢ l → Misses e (m ∷ zs) × Misses (next_of s e) (m ∷ zs)
run-next s f e l xs rs ys m zs i q k n =
    let j : IsList s l ((xs ++ f ∷ rs) ++ ys) = rw append_assoc i in
    next-missed s l e (xs ++ f ∷ rs) ys m zs j (last-of-append l xs f rs ∙ q) k n

pub cuts-others : (s : Net) (f e o l : ℕ) (xs rs ys : List ℕ) (m : ℕ) (zs : List ℕ) → IsList s l (xs ++ ((f ∷ rs) ++ ys)) → last_of f rs ≡ e → o < s.heads → IsList s m zs → m ≢ l → m ≢ o → IsList (cut_out f e o s) m zs
cuts-others s f e o l xs rs ys m zs i q ho k n1 n2 =
    let x = run-next s f e l xs rs ys m zs i q k n1 in
    let d = split s l xs f (rs ++ ys) l i.chain in
    let v = rows-split s xs (f ∷ (rs ++ ys)) i.rows in
    let p : Chain s (prev_of s f) (f ∷ (rs ++ ys)) l = (last-follows s l xs f d.0, d.1) in
    let w = away s m zs (prev_of s f) (f ∷ (rs ++ ys)) l k.chain p k.rows v.1 k.made i.made n1 in
    let y = away s m zs f (rs ++ ys) l k.chain d.1 k.rows v.1.1 k.made i.made n1 in
    let z : Misses o (m ∷ zs) = (n2, heads-missed s o zs k.rows ho) in
    other-kept (linked (prev_of s f) (next_of s e) (linked e o s)) o f m zs
    (other-kept (linked e o s) (prev_of s f) (next_of s e) m zs (other-kept s e o m zs k x.0 z) w x.1) z y

pub cuts : (s : Net) (f e o : ℕ) → IsNet s → e < length s.next → Cuts s f e o (cut_out f e o s)
cuts s f e o t he = λ l xs rs ys i q j ne.
    let r = cuts-own s f e o l xs rs ys t he i q j.made ne in
    (r.0, (r.1, λ m zs k n1 n2. cuts-others s f e o l xs rs ys m zs i q j.made k n1 n2))
