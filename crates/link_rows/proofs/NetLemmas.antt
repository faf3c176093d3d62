-- What a link leaves of chains.
use Rattle.std.proofs.Common.{◌≡◌, ◌≢◌, ℕ, ◌+◌, ◌^◌, ◌<◌, ◌≤◌, List, [], ◌∷◌, ◌++◌, length, get_or, refl, ap, sym, subst, ◌∙◌, append_assoc, length-append, arith, zero, suc}
use Rattle.std.proofs.Math.ListN.{set}
use Rattle.std.proofs.lemmas.List.{get_or-set_same, get_or-set_other, get_or_append_left, length-set, append-nil}
use Rattle.std.proofs.lemmas.Grind.{get_or-set_at}
use Rattle.std.proofs.Common.{None, Some, ◌-◌}
use Rattle.std.proofs.lemmas.Bool.Decides.{nat_tests}
use Rattle.std.proofs.Math.Seq.{get_or-append_seam}
use Rattle.link_rows.specs.Tables.{row_of, first_row}
use Rattle.link_rows.specs.Net.{Net, AllBelow, Chain, Follows, AllRows, CanRelink, last_of, IsList, IsNet, Unlinks, Relinks, Pushes, linked, unlinked, relinked, alone, grown, numbers, pushed, next_of, prev_of}

pub below-get : (n : ℕ) (xs : List ℕ) (i d : ℕ) → AllBelow n xs → i < length xs → get_or xs i d < n
below-get n [] i d b h = absurd (omega arith)
below-get n (x ∷ xs) zero d b h = b.0
below-get n (x ∷ xs) (suc i) d b h = below-get n xs i d b.1 (omega arith)

pub below-set : (n : ℕ) (xs : List ℕ) (i y : ℕ) → AllBelow n xs → y < n → AllBelow n (set xs i y)
below-set n [] i y b h = tt
below-set n (x ∷ xs) zero y b h = (h, b.1)
below-set n (x ∷ xs) (suc i) y b h = (b.0, below-set n xs i y b.1 h)

-- none of these is a
abbrev pub Misses : ℕ → List ℕ → Type 0
Misses a [] = Unit {0}
Misses a (x ∷ xs) = (x ≢ a) × Misses a xs

abbrev pub Unique : List ℕ → Type 0
Unique [] = Unit {0}
Unique (x ∷ xs) = Misses x xs × Unique xs

pub misses-append : (a : ℕ) (xs ys : List ℕ) → Misses a (xs ++ ys) → Misses a xs × Misses a ys
misses-append a [] ys m = (tt, m)
misses-append a (x ∷ xs) ys m = let r = misses-append a xs ys m.1 in ((m.0, r.0), r.1)

pub misses-join : (a : ℕ) (xs ys : List ℕ) → Misses a xs → Misses a ys → Misses a (xs ++ ys)
misses-join a [] ys m n = n
misses-join a (x ∷ xs) ys m n = (m.0, misses-join a xs ys m.1 n)

pub unique-front : (xs ys : List ℕ) → Unique (xs ++ ys) → Unique xs
unique-front [] ys u = tt
unique-front (x ∷ xs) ys u = ((misses-append x xs ys u.0).0, unique-front xs ys u.1)

pub unique-missed : (xs : List ℕ) (y : ℕ) (ys : List ℕ) → Unique (xs ++ y ∷ ys) → Misses y xs
unique-missed [] y ys u = tt
unique-missed (x ∷ xs) y ys u =
    let m = (misses-append x xs (y ∷ ys) u.0).1 in
    ((λ e. m.0 (sym e)), unique-missed xs y ys u.1)

-- chains in parts
pub split : (s : Net) (i : ℕ) (xs : List ℕ) (r : ℕ) (ys : List ℕ) (j : ℕ) → Chain s i (xs ++ r ∷ ys) j → Chain s i xs r × Chain s r ys j
split s i [] r ys j c = c
split s i (x ∷ xs) r ys j c = let d = split s x xs r ys j c.1 in ((c.0, d.0), d.1)

pub join : (s : Net) (i : ℕ) (xs : List ℕ) (r : ℕ) (ys : List ℕ) (j : ℕ) → Chain s i xs r → Chain s r ys j → Chain s i (xs ++ r ∷ ys) j
join s i [] r ys j c d = (c, d)
join s i (x ∷ xs) r ys j c d = (c.0, join s x xs r ys j c.1 d)

pub rows-split : (s : Net) (xs ys : List ℕ) → AllRows s (xs ++ ys) → AllRows s xs × AllRows s ys
rows-split s [] ys m = (tt, m)
rows-split s (x ∷ xs) ys m = let r = rows-split s xs ys m.1 in ((m.0, r.0), r.1)

pub rows-join : (s : Net) (xs ys : List ℕ) → AllRows s xs → AllRows s ys → AllRows s (xs ++ ys)
rows-join s [] ys m n = n
rows-join s (x ∷ xs) ys m n = (m.0, rows-join s xs ys m.1 n)

pub rows-linked : (s : Net) (a b : ℕ) (xs : List ℕ) → AllRows s xs → AllRows (linked a b s) xs
rows-linked s a b [] m = tt
rows-linked s a b (x ∷ xs) m = ((m.0.0, rw length-set m.0.1), rows-linked s a b xs m.1)

pub heads-missed : (s : Net) (a : ℕ) (xs : List ℕ) → AllRows s xs → a < s.heads → Misses a xs
heads-missed s a [] m h = tt
heads-missed s a (x ∷ xs) m h = ((λ (e : x ≡ a). omega (arith, m.0.0)), heads-missed s a xs m.1 h)

-- what a link does
pub follows-linked : (s : Net) (a b : ℕ) → a < length s.next → b < length s.prev → Follows (linked a b s) a b
follows-linked s a b h k = (get_or-set_same s.next a b 0 h, get_or-set_same s.prev b a 0 k)

pub kept : (s : Net) (a b i : ℕ) (xs : List ℕ) (j : ℕ) → Chain s i xs j → i ≢ a → Misses a xs → Misses b xs → j ≢ b → Chain (linked a b s) i xs j
kept s a b i [] j c h m n k =
    (get_or-set_other s.next a i b 0 h ∙ c.0, get_or-set_other s.prev b j a 0 k ∙ c.1)
kept s a b i (x ∷ xs) j c h m n k =
    ((get_or-set_other s.next a i b 0 h ∙ c.0.0, get_or-set_other s.prev b x a 0 n.0 ∙ c.0.1), kept s a b x xs j c.1 m.0 m.1 n.1 k)

pub last-missed : (s : Net) (i x : ℕ) (xs : List ℕ) (r : ℕ) → Chain s x xs r → Misses i (x ∷ xs) → prev_of s r ≢ i
last-missed s i x [] r c m = λ e. m.0 (sym c.1 ∙ e)
last-missed s i x (y ∷ ys) r c m = last-missed s i y ys r c.1 m.1

pub last-follows : (s : Net) (i : ℕ) (xs : List ℕ) (r : ℕ) → Chain s i xs r → Follows s (prev_of s r) r
last-follows s i [] r c = (ap (λ v. next_of s v) c.1 ∙ c.0, refl)
last-follows s i (x ∷ xs) r c = last-follows s x xs r c.1

-- The last before r now leads to b.
pub bend : (s : Net) (a b r i : ℕ) (xs : List ℕ) → Chain s i xs r → prev_of s r ≡ a → Unique (i ∷ xs) → Misses b xs → a < length s.next → b < length s.prev → Chain (linked a b s) i xs b
bend s a b r i [] c p u m h k =
    let e : i ≡ a = sym c.1 ∙ p in
    (get_or-set_at s.next a i b 0 e h, get_or-set_same s.prev b a 0 k ∙ sym e)
bend s a b r i (x ∷ xs) c p u m h k =
    let n : i ≢ a = λ e. last-missed s i x xs r c.1 u.0 (p ∙ sym e) in
    ((get_or-set_other s.next a i b 0 n ∙ c.0.0, get_or-set_other s.prev b x a 0 m.0 ∙ c.0.1), bend s a b r x xs c.1 p u.1 m.1 h k)

-- Where two chains begin at one node and end at heads, they are one.
pub same : (s : Net) (x : ℕ) (zs : List ℕ) (e : ℕ) (ys : List ℕ) (f : ℕ) → Chain s x zs e → Chain s x ys f → AllRows s zs → AllRows s ys → e < s.heads → f < s.heads → (e ≡ f) × (zs ≡ ys)
same s x [] e [] f c d m n h k = (sym c.0 ∙ d.0, refl)
same s x [] e (y ∷ ys) f c d m n h k = let q : e ≡ y = sym c.0 ∙ d.0.0 in absurd (omega (arith, n.0.0))
same s x (z ∷ zs) e [] f c d m n h k = let q : f ≡ z = sym d.0 ∙ c.0.0 in absurd (omega (arith, m.0.0))
same s x (z ∷ zs) e (y ∷ ys) f c d m n h k =
    let q : y ≡ z = sym d.0.0 ∙ c.0.0 in
    let r = same s z zs e ys f c.1 (subst (λ v. Chain s v ys f) q d.1) m.1 n.1 h k in
    let t : zs ≡ ys = r.1 in
    (r.0, cc)

apart-first : (s : Net) (x : ℕ) (ys : List ℕ) (f z : ℕ) (zs : List ℕ) (e : ℕ) → Chain s z zs e → Chain s x ys f → AllRows s zs → AllRows s ys → e < s.heads → f < s.heads → (e ≡ f → length zs < length ys) → z ≢ x
apart-first s x ys f z zs e c d m n h k l = λ (q : z ≡ x).
    let t = same s x zs e ys f (subst (λ v. Chain s v zs e) q c) d m n h k in
    let w : length zs < length ys = l t.0 in
    let v : length zs ≡ length ys = ap length t.1 in
    omega arith

pub apart : (s : Net) (x : ℕ) (ys : List ℕ) (f z : ℕ) (zs : List ℕ) (e : ℕ) → Chain s z zs e → Chain s x ys f → AllRows s zs → AllRows s ys → e < s.heads → f < s.heads → (e ≡ f → length zs < length ys) → Misses x (z ∷ zs)
apart s x ys f z [] e c d m n h k l = (apart-first s x ys f z [] e c d m n h k l, tt)
apart s x ys f z (w ∷ ws) e c d m n h k l =
    (apart-first s x ys f z (w ∷ ws) e c d m n h k l, apart s x ys f w ws e c.1 d m.1 n h k (λ q. let v : length (w ∷ ws) < length ys = l q in omega arith))

pub tail-missed : (s : Net) (x : ℕ) (xs : List ℕ) (l : ℕ) → Chain s x xs l → AllRows s xs → l < s.heads → Misses x xs
tail-missed s x [] l c m h = tt
tail-missed s x (w ∷ ws) l c m h = apart s x (w ∷ ws) l w ws l c.1 c m.1 m h h (λ _. omega arith)

pub chain-unique : (s : Net) (i : ℕ) (xs : List ℕ) (l : ℕ) → Chain s i xs l → AllRows s xs → l < s.heads → Unique (i ∷ xs)
chain-unique s i [] l c m h = (tt, tt)
chain-unique s i (x ∷ xs) l c m h = (tail-missed s i (x ∷ xs) l c m h, chain-unique s x xs l c.1 m.1 h)

-- What leads to another list's head is not in this list.
pub away : (s : Net) (l : ℕ) (zs : List ℕ) (a : ℕ) (ys : List ℕ) (f : ℕ) → Chain s l zs l → Chain s a ys f → AllRows s zs → AllRows s ys → l < s.heads → f < s.heads → l ≢ f → Misses a (l ∷ zs)
away s l zs a ys f c d m n h k ne = apart s a ys f l zs l c d m n h k (λ q. absurd (ne q))

pub net-linked : (s : Net) (a b : ℕ) → IsNet s → a < length s.next → b < length s.next → IsNet (linked a b s)
net-linked s a b t h k = record {
  as_many = length-set s.prev b a ∙ (t.as_many ∙ sym (length-set s.next a b));
  heads = rw length-set t.heads;
  few = t.few;
  next = rw length-set (below-set (length s.next) s.next a b t.next k);
  prev = rw length-set (below-set (length s.next) s.prev b a t.prev h);
}

pub next-below : (s : Net) (i : ℕ) → IsNet s → i < length s.next → next_of s i < length s.next
next-below s i t h = below-get (length s.next) s.next i 0 t.next h

pub prev-below : (s : Net) (i : ℕ) → IsNet s → i < length s.next → prev_of s i < length s.next
prev-below s i t h = below-get (length s.next) s.prev i 0 t.prev (rw t.as_many h)

-- Another list stays.
pub other-kept : (s : Net) (a b m : ℕ) (zs : List ℕ) → IsList s m zs → Misses a (m ∷ zs) → Misses b (m ∷ zs) → IsList (linked a b s) m zs
other-kept s a b m zs t p q = record {
  made = t.made;
  rows = rows-linked s a b zs t.rows;
  chain = kept s a b m zs m t.chain p.0 p.1 q.1 q.0;
}

-- A list without a row of it.
pub unlinked-own : (s : Net) (l : ℕ) (xs : List ℕ) (r : ℕ) (ys : List ℕ) → IsNet s → r < length s.next → IsList s l (xs ++ r ∷ ys) → IsList (unlinked r s) l (xs ++ ys)
unlinked-own s l xs r [] t h i =
    let d = split s l xs r [] l i.chain in
    let e : next_of s r ≡ l = d.1.0 in
    let m = rows-split s xs (r ∷ []) i.rows in
    let u = chain-unique s l (xs ++ r ∷ []) l i.chain i.rows i.made in
    let b : l < length s.prev = omega (arith, t.as_many, t.heads, i.made) in
    record {
      made = i.made;
      rows = rw append-nil (rows-linked s (prev_of s r) (next_of s r) xs m.0);
      chain = rw append-nil (subst (λ v. Chain (linked (prev_of s r) v s) l xs l) (sym e) (bend s (prev_of s r) l r l xs d.0 refl (unique-front (l ∷ xs) (r ∷ []) u) (heads-missed s l xs m.0 i.made) (prev-below s r t h) b));
    }
unlinked-own s l xs r (y ∷ ys) t h i =
    let d = split s l xs r (y ∷ ys) l i.chain in
    let e : next_of s r ≡ y = d.1.0.0 in
    let m = rows-split s xs (r ∷ y ∷ ys) i.rows in
    let u = chain-unique s l (xs ++ r ∷ y ∷ ys) l i.chain i.rows i.made in
    let w : Unique (l ∷ ((xs ++ r ∷ []) ++ y ∷ ys)) = rw append_assoc u in
    let b : y < length s.prev = omega (arith, t.as_many, m.1.1.0.1) in
    let f : Chain s (prev_of s r) (r ∷ y ∷ ys) l = (last-follows s l xs r d.0, d.1) in
    let g : Misses (prev_of s r) (y ∷ ys) = apart s (prev_of s r) (r ∷ y ∷ ys) l y ys l d.1.1 f m.1.1.1 m.1 i.made i.made (λ _. omega arith) in
    let v = unique-missed (l ∷ (xs ++ r ∷ [])) y ys w in
    record {
      made = i.made;
      rows = rows-linked s (prev_of s r) (next_of s r) (xs ++ y ∷ ys) (rows-join s xs (y ∷ ys) m.0 m.1.1);
      chain = subst (λ v. Chain (linked (prev_of s r) v s) l (xs ++ y ∷ ys) l) (sym e) (join (linked (prev_of s r) y s) l xs y ys l
          (bend s (prev_of s r) y r l xs d.0 refl (unique-front (l ∷ xs) (r ∷ y ∷ ys) u) (misses-append y xs (r ∷ []) v.1).0 (prev-below s r t h) b)
          (kept s (prev_of s r) y y ys l d.1.1 g.0 g.1 (tail-missed s y ys l d.1.1 m.1.1.1 i.made) v.0));
    }

-- the first node of ys, or l
pub unlinked-other : (s : Net) (l : ℕ) (xs : List ℕ) (r : ℕ) (ys : List ℕ) (m : ℕ) (zs : List ℕ) → IsList s l (xs ++ r ∷ ys) → IsList s m zs → m ≢ l → IsList (unlinked r s) m zs
unlinked-other s l xs r [] m zs i j n =
    let d = split s l xs r [] l i.chain in
    let e : next_of s r ≡ l = d.1.0 in
    let p = rows-split s xs (r ∷ []) i.rows in
    let f : Chain s (prev_of s r) (r ∷ []) l = (last-follows s l xs r d.0, d.1) in
    other-kept s (prev_of s r) (next_of s r) m zs j
    (away s m zs (prev_of s r) (r ∷ []) l j.chain f j.rows p.1 j.made i.made n)
    (subst (λ v. Misses v (m ∷ zs)) (sym e) (away s m zs l (xs ++ r ∷ []) l j.chain i.chain j.rows i.rows j.made i.made n))
unlinked-other s l xs r (y ∷ ys) m zs i j n =
    let d = split s l xs r (y ∷ ys) l i.chain in
    let e : next_of s r ≡ y = d.1.0.0 in
    let p = rows-split s xs (r ∷ y ∷ ys) i.rows in
    let f : Chain s (prev_of s r) (r ∷ y ∷ ys) l = (last-follows s l xs r d.0, d.1) in
    other-kept s (prev_of s r) (next_of s r) m zs j
    (away s m zs (prev_of s r) (r ∷ y ∷ ys) l j.chain f j.rows p.1 j.made i.made n)
    (subst (λ v. Misses v (m ∷ zs)) (sym e) (away s m zs y ys l j.chain d.1.1 j.rows p.1.1.1 j.made i.made n))

-- the lists of a row's neighbours: where p is followed by n both ways, r is put between them
pub below-more : (n m : ℕ) (xs : List ℕ) → AllBelow n xs → n ≤ m → AllBelow m xs
below-more n m [] b h = tt
below-more n m (x ∷ xs) b h = (omega (arith, b.0), below-more n m xs b.1 h)

pub below-push : (m : ℕ) (xs : List ℕ) (y : ℕ) → AllBelow m xs → y < m → AllBelow m (xs ++ y ∷ [])
below-push m [] y b h = (h, tt)
below-push m (x ∷ xs) y b h = (b.0, below-push m xs y b.1 h)

pub numbers-length : (n : ℕ) → length (numbers n) ≡ n
numbers-length zero = refl
numbers-length (suc n) = omega (arith, length-append (numbers n) (n ∷ []), numbers-length n)

pub numbers-below : (n m : ℕ) → n ≤ m → AllBelow m (numbers n)
numbers-below zero m h = tt
numbers-below (suc n) m h = below-push m (numbers n) n (numbers-below n m (omega arith)) (omega arith)

pub net-alone : (n : ℕ) → n < 2 ^ 32 → IsNet (alone n)
net-alone n h = record {
  as_many = refl;
  heads = omega (arith, numbers-length n);
  few = h;
  next = rw numbers-length (numbers-below n n (omega arith));
  prev = rw numbers-length (numbers-below n n (omega arith));
}

pub net-grown : (s : Net) → IsNet s → IsNet (grown s)
net-grown s t =
    let e : length (s.next ++ length s.next ∷ []) ≡ length s.next + 1 = length-append s.next (length s.next ∷ []) in
    let f : length (s.prev ++ length s.next ∷ []) ≡ length s.prev + 1 = length-append s.prev (length s.next ∷ []) in
    record {
      as_many = omega (arith, e, f, t.as_many);
      heads = omega (arith, e, t.heads);
      few = t.few;
      next = rw e (below-push (length s.next + 1) s.next (length s.next) (below-more (length s.next) (length s.next + 1) s.next t.next (omega arith)) (omega arith));
      prev = rw e (below-push (length s.next + 1) s.prev (length s.next) (below-more (length s.next) (length s.next + 1) s.prev t.prev (omega arith)) (omega arith));
    }

pub row-met : (s : Net) (xs : List ℕ) (y : ℕ) (i j : ℕ) → Chain s i xs j → next_of s (prev_of s y) ≢ y → Misses y xs
row-met s [] y i j c n = tt
row-met s (x ∷ xs) y i j c n =
    ((λ (e : x ≡ y). n (subst (λ v. next_of s (prev_of s v) ≡ v) e (ap (λ v. next_of s v) c.0.1 ∙ c.0.0))), row-met s xs y x j c.1 n)

pub last-next : (s : Net) (i : ℕ) (xs : List ℕ) (j : ℕ) → Chain s i xs j → Follows s (last_of i xs) j
last-next s i [] j c = c
last-next s i (x ∷ xs) j c = last-next s x xs j c.1

-- A row that is put between its neighbours, which stand side by side.
pub relinked-own : (s : Net) (r l : ℕ) (xs ys : List ℕ) → IsNet s → CanRelink s r → IsList s l (xs ++ ys) → last_of l xs ≡ prev_of s r → IsList (relinked r s) l (xs ++ r ∷ ys)
relinked-own s r l xs [] t k i q =
    let c : Chain s l xs l = rw append-nil at i.chain in
    let m : AllRows s xs = rw append-nil at i.rows in
    let f = last-next s l xs l c in
    let e : next_of s r ≡ l = sym k.side_by_side ∙ (ap (λ v. next_of s v) (sym q) ∙ f.0) in
    let x : Misses r xs = row-met s xs r l l c k.out in
    let a : l ≢ r = λ (z : l ≡ r). omega (arith, k.row, i.made) in
    let b : r ≢ l = λ z. a (sym z) in
    let p = prev_of s r in
    let bp : r < length s.prev = omega (arith, t.as_many, k.pushed) in
    let bl : l < length (set s.prev r p) = rw length-set (omega (arith, t.as_many, t.heads, i.made)) in
    let bn : r < length (set s.next p r) = rw length-set k.pushed in
    let d = bend s p r l l xs c (f.1 ∙ q) (chain-unique s l xs l c m i.made) x (prev-below s r t k.pushed) bp in
    let g = kept (linked p r s) r l l xs r d a x (heads-missed s l xs m i.made) b in
    record {
      made = i.made;
      rows = rows-join (relinked r s) xs (r ∷ []) (rows-linked (linked p r s) r (next_of s r) xs (rows-linked s p r xs m))
          (rows-linked (linked p r s) r (next_of s r) (r ∷ []) (rows-linked s p r (r ∷ []) ((k.row, k.pushed), tt)));
      chain = subst (λ v. Chain (linked r v (linked p r s)) l (xs ++ r ∷ []) l) (sym e)
          (join (linked r l (linked p r s)) l xs r [] l g (follows-linked (linked p r s) r l bn bl));
    }
relinked-own s r l xs (y ∷ ys) t k i q =
    let w = split s l xs y ys l i.chain in
    let m = rows-split s xs (y ∷ ys) i.rows in
    let f = last-next s l xs y w.0 in
    let e : next_of s r ≡ y = sym k.side_by_side ∙ (ap (λ v. next_of s v) (sym q) ∙ f.0) in
    let u = chain-unique s l (xs ++ y ∷ ys) l i.chain i.rows i.made in
    let x = misses-append r xs (y ∷ ys) (row-met s (xs ++ y ∷ ys) r l l i.chain k.out) in
    let a : l ≢ r = λ (z : l ≡ r). omega (arith, k.row, i.made) in
    let b : r ≢ y = λ z. x.1.0 (sym z) in
    let p = prev_of s r in
    let bp : r < length s.prev = omega (arith, t.as_many, k.pushed) in
    let by : y < length (set s.prev r p) = rw length-set (omega (arith, t.as_many, m.1.0.1)) in
    let bn : r < length (set s.next p r) = rw length-set k.pushed in
    let v = unique-missed (l ∷ xs) y ys u in
    let h : Chain s p (y ∷ ys) l = (subst (λ z. Follows s z y) q f, w.1) in
    let o : Misses p (y ∷ ys) = apart s p (y ∷ ys) l y ys l w.1 h m.1.1 m.1 i.made i.made (λ _. omega arith) in
    let d = bend s p r y l xs w.0 (f.1 ∙ q) (unique-front (l ∷ xs) (y ∷ ys) u) x.0 (prev-below s r t k.pushed) bp in
    let g = kept (linked p r s) r y l xs r d a x.0 v.1 b in
    let j = kept s p r y ys l w.1 o.0 o.1 x.1.1 a in
    let n = kept (linked p r s) r y y ys l j x.1.0 x.1.1 (tail-missed s y ys l w.1 m.1.1 i.made) v.0 in
    record {
      made = i.made;
      rows = rows-linked (linked p r s) r (next_of s r) (xs ++ r ∷ y ∷ ys) (rows-linked s p r (xs ++ r ∷ y ∷ ys)
          (rows-join s xs (r ∷ y ∷ ys) m.0 ((k.row, k.pushed), m.1)));
      chain = subst (λ z. Chain (linked r z (linked p r s)) l (xs ++ r ∷ y ∷ ys) l) (sym e)
          (join (linked r y (linked p r s)) l xs r (y ∷ ys) l g (follows-linked (linked p r s) r y bn by, n));
    }

-- All lists but one stay.
pub relinked-other : (s : Net) (r l : ℕ) (xs ys : List ℕ) (m : ℕ) (zs : List ℕ) → CanRelink s r → IsList s l (xs ++ ys) → last_of l xs ≡ prev_of s r → IsList s m zs → m ≢ l → IsList (relinked r s) m zs
relinked-other s r l xs [] m zs k i q j n =
    let c : Chain s l xs l = rw append-nil at i.chain in
    let v : AllRows s xs = rw append-nil at i.rows in
    let f = last-next s l xs l c in
    let e : next_of s r ≡ l = sym k.side_by_side ∙ (ap (λ v. next_of s v) (sym q) ∙ f.0) in
    let x : Misses r (m ∷ zs) = ((λ (z : m ≡ r). omega (arith, k.row, j.made)), row-met s zs r m m j.chain k.out) in
    let h : Chain s (prev_of s r) [] l = subst (λ z. Follows s z l) q f in
    let w = away s m zs (prev_of s r) [] l j.chain h j.rows tt j.made i.made n in
    let g = other-kept s (prev_of s r) r m zs j w x in
    other-kept (linked (prev_of s r) r s) r (next_of s r) m zs g x
    (subst (λ z. Misses z (m ∷ zs)) (sym e) (away s m zs l xs l j.chain c j.rows v j.made i.made n))
relinked-other s r l xs (y ∷ ys) m zs k i q j n =
    let d = split s l xs y ys l i.chain in
    let v = rows-split s xs (y ∷ ys) i.rows in
    let f = last-next s l xs y d.0 in
    let e : next_of s r ≡ y = sym k.side_by_side ∙ (ap (λ v. next_of s v) (sym q) ∙ f.0) in
    let x : Misses r (m ∷ zs) = ((λ (z : m ≡ r). omega (arith, k.row, j.made)), row-met s zs r m m j.chain k.out) in
    let h : Chain s (prev_of s r) (y ∷ ys) l = (subst (λ z. Follows s z y) q f, d.1) in
    let w = away s m zs (prev_of s r) (y ∷ ys) l j.chain h j.rows v.1 j.made i.made n in
    let g = other-kept s (prev_of s r) r m zs j w x in
    other-kept (linked (prev_of s r) r s) r (next_of s r) m zs g x
    (subst (λ z. Misses z (m ∷ zs)) (sym e) (away s m zs y ys l j.chain d.1 j.rows v.1.1 j.made i.made n))

pub chain-grown : (s : Net) (i : ℕ) (xs : List ℕ) (j : ℕ) → IsNet s → Chain s i xs j → AllRows s xs → i < length s.next → j < length s.next → Chain (grown s) i xs j
chain-grown s i [] j t c m h k =
    let p : j < length s.prev = omega (arith, t.as_many) in
    (get_or_append_left s.next (length s.next ∷ []) 0 i h ∙ c.0, get_or_append_left s.prev (length s.next ∷ []) 0 j p ∙ c.1)
chain-grown s i (x ∷ xs) j t c m h k =
    let p : x < length s.prev = omega (arith, t.as_many, m.0.1) in
    ((get_or_append_left s.next (length s.next ∷ []) 0 i h ∙ c.0.0, get_or_append_left s.prev (length s.next ∷ []) 0 x p ∙ c.0.1), chain-grown s x xs j t c.1 m.1 m.0.1 k)

pub rows-grown : (s : Net) (xs : List ℕ) → AllRows s xs → AllRows (grown s) xs
rows-grown s [] m = tt
rows-grown s (x ∷ xs) m = ((m.0.0, omega (arith, m.0.1, length-append s.next (length s.next ∷ []))), rows-grown s xs m.1)

pub new-missed : (s : Net) (xs : List ℕ) → AllRows s xs → Misses (length s.next) xs
new-missed s [] m = tt
new-missed s (x ∷ xs) m = ((λ (e : x ≡ length s.next). omega (arith, m.0.1)), new-missed s xs m.1)

pub list-grown : (s : Net) (m : ℕ) (zs : List ℕ) → IsNet s → IsList s m zs → IsList (grown s) m zs
list-grown s m zs t i =
    let h : m < length s.next = omega (arith, i.made, t.heads) in
    record { made = i.made; rows = rows-grown s zs i.rows; chain = chain-grown s m zs m t i.chain i.rows h h }

pub pushes : (s : Net) (l : ℕ) → IsNet s → Pushes s l (pushed l s)
pushes s l t = λ (xs : List ℕ) (i : IsList s l xs).
    let k = length s.next in
    let p = prev_of s l in
    let h : l < length s.next = omega (arith, i.made, t.heads) in
    let hp : l < length s.prev = omega (arith, t.as_many, h) in
    let bp : p < length s.next = prev-below s l t h in
    let g = list-grown s l xs t i in
    let e : length (s.next ++ k ∷ []) ≡ length s.next + 1 = length-append s.next (k ∷ []) in
    let f : length (s.prev ++ k ∷ []) ≡ length s.prev + 1 = length-append s.prev (k ∷ []) in
    let q : prev_of (grown s) l ≡ p = get_or_append_left s.prev (k ∷ []) 0 l hp in
    let a1 : p < length (s.next ++ k ∷ []) = omega (arith, e, bp) in
    let a2 : k < length (s.prev ++ k ∷ []) = omega (arith, f, t.as_many) in
    let a3 : k < length (set (s.next ++ k ∷ []) p k) = rw length-set (omega (arith, e)) in
    let a4 : l < length (set (s.prev ++ k ∷ []) k p) = rw length-set (omega (arith, f, hp)) in
    let n1 : l ≢ k = λ (z : l ≡ k). omega (arith, h) in
    let n2 : k ≢ l = λ z. n1 (sym z) in
    let c1 = bend (grown s) p k l l xs g.chain q (chain-unique s l xs l i.chain i.rows i.made) (new-missed s xs i.rows) a1 a2 in
    let c2 = kept (linked p k (grown s)) k l l xs k c1 n1 (new-missed s xs i.rows) (heads-missed s l xs i.rows i.made) n2 in
    let own : IsList (pushed l s) l (xs ++ k ∷ []) = record {
      made = i.made;
      rows = rows-linked (linked p k (grown s)) k l (xs ++ k ∷ []) (rows-linked (grown s) p k (xs ++ k ∷ [])
          (rows-join (grown s) xs (k ∷ []) g.rows ((t.heads, omega (arith, e)), tt)));
      chain = join (pushed l s) l xs k [] l c2 (follows-linked (linked p k (grown s)) k l a3 a4);
    } in (
      own,
      λ (m : ℕ) (zs : List ℕ) (j : IsList s m zs) (n : m ≢ l).
          let x : Misses k (m ∷ zs) = ((λ (z : m ≡ k). omega (arith, j.made, t.heads)), new-missed s zs j.rows) in
          other-kept (linked p k (grown s)) k l m zs
          (other-kept (grown s) p k m zs (list-grown s m zs t j) (away s m zs p [] l j.chain (last-follows s l xs l i.chain) j.rows tt j.made i.made n) x)
          x (n, heads-missed s l zs j.rows i.made),
    )

pub unlinks : (s : Net) (r : ℕ) → IsNet s → r < length s.next → Unlinks s r (unlinked r s)
unlinks s r t h = λ l xs ys i. (unlinked-own s l xs r ys t h i, λ m zs j n. unlinked-other s l xs r ys m zs i j n)

pub relinks : (s : Net) (r : ℕ) → IsNet s → CanRelink s r → Relinks s r (relinked r s)
relinks s r t k = λ l xs ys i q. (relinked-own s r l xs ys t k i q, λ m zs j n. relinked-other s r l xs ys m zs k i q j n)

numbers-get-more : (n i : ℕ) → i < suc n → (i < n → get_or (numbers n) i 0 ≡ i) → get_or (numbers n ++ n ∷ []) i 0 ≡ i
numbers-get-more n i h before =
    let l : length (numbers n) ≡ n = numbers-length n in
    let last : get_or (numbers n ++ n ∷ []) (length (numbers n)) 0 ≡ n = get_or-append_seam (numbers n) n [] 0 in
    grind (arith, get_or_append_left (numbers n) (n ∷ []) 0 i, before, l, last)

pub numbers-get : (n i : ℕ) → i < n → get_or (numbers n) i 0 ≡ i
numbers-get zero i h = absurd (omega arith)
numbers-get (suc n) i h = numbers-get-more n i h (numbers-get n i)

pub alone-list : (n l : ℕ) → l < n → IsList (alone n) l []
alone-list n l h = record { made = h; rows = tt; chain = (numbers-get n l h, numbers-get n l h) }

pub row-of-head : (s : Net) (x : ℕ) → x < s.heads → row_of s x ≡ None
row-of-head s x h = grind (arith, nat_tests)

pub row-of-row : (s : Net) (x : ℕ) → s.heads ≤ x → row_of s x ≡ Some (x - s.heads)
row-of-row s x h = grind (arith, nat_tests)

pub next-row : (s : Net) (l : ℕ) (xs : List ℕ) (r : ℕ) (ys : List ℕ) → IsList s l (xs ++ r ∷ ys) → row_of s (next_of s r) ≡ first_row s ys
next-row s l xs r [] i =
    let d = split s l xs r [] l i.chain in
    let e : next_of s r ≡ l = d.1.0 in
    let h : l < s.heads = i.made in
    row-of-head s (next_of s r) (rw e h)
next-row s l xs r (y ∷ ys) i =
    let d = split s l xs r (y ∷ ys) l i.chain in
    let e : next_of s r ≡ y = d.1.0.0 in
    let m = rows-split s xs (r ∷ y ∷ ys) i.rows in
    let h : s.heads ≤ y = m.1.1.0.0 in
    subst (λ v. row_of s v ≡ Some (y - s.heads)) (sym e) (row-of-row s y h)
