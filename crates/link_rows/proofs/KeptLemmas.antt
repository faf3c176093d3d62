-- What calls leave of a row that stands in no list, and that a row stands in one list.
use Rattle.std.proofs.Common.{◌≡◌, ◌≢◌, ℕ, ◌<◌, List, [], ◌∷◌, ◌++◌, length, sym, subst, ap, ◌∙◌, arith, Contains, ◌⊎◌, inl, inr, true, false}
use Rattle.std.proofs.Math.Dec.{eqb}
use Rattle.std.proofs.lemmas.List.Elements.{Contains-append_cases, Contains-append_left, Contains-append_right, Contains-push, Contains-push_cases}
use Rattle.std.proofs.lemmas.Bool.Decides.{eqb_tells}
use Rattle.std.proofs.lemmas.List.{get_or-set_other, get_or_append_left}
use Rattle.link_rows.specs.Net.{Net, AllRows, Chain, IsList, IsNet, grown, last_of, linked, next_of, prev_of}
use Rattle.link_rows.specs.Unlinked.{IsUnlinked, IsInOneList, KeepsNeighbours, KeptByCut, KeptByPush, KeptByRelink, KeptBySplice, KeptByUnlink, StandsOnce}
use Rattle.link_rows.proofs.NetLemmas.{Misses, Unique, away, chain-unique, misses-append, split, unique-missed}

contains-tail : (x y : ℕ) (xs : List ℕ) → Contains xs y → Contains (x ∷ xs) y
contains-tail x y xs c = Contains-append_right (x ∷ []) xs y c

contains-head : (x : ℕ) (xs : List ℕ) → Contains (x ∷ xs) x
contains-head x xs = Contains-append_left (x ∷ []) xs x (Contains-push [] x)

contains-none : (y : ℕ) → Contains [] y → ⊥
contains-none y c = let below : c.0 < 0 = c.1 in omega arith

contains-cases : (x y : ℕ) (xs : List ℕ) → Contains (x ∷ xs) y → (x ≡ y) ⊎ Contains xs y
contains-cases x y xs c = elim (Contains-append_cases (x ∷ []) xs y c) [
  | inl one ↦ elim (Contains-push_cases [] x y one) [ inl no_one ↦ absurd (contains-none y no_one) | inr same ↦ inl same ]
  | inr more ↦ inr more
]

pub missed : (r : ℕ) (xs : List ℕ) → (Contains xs r → ⊥) → Misses r xs
missed r [] out = tt
missed r (x ∷ xs) out =
    ((λ (e : x ≡ r). out (subst (λ z. Contains (z ∷ xs) r) (sym e) (contains-head r xs))), missed r xs (λ h. out (contains-tail x r xs h)))

pub not-missed : (r : ℕ) (xs : List ℕ) → Misses r xs → Contains xs r → ⊥
not-missed r [] m h = contains-none r h
not-missed r (x ∷ xs) m h = elim (contains-cases x r xs h) [ inl e ↦ m.0 e | inr h2 ↦ not-missed r xs m.1 h2 ]

-- a row that stands in no list is neither a list's head nor one of its rows
pub out-of : (s : Net) (r l : ℕ) (xs : List ℕ) → IsUnlinked s r → IsList s l xs → Misses r (l ∷ xs)
out-of s r l xs u i = ((λ (e : l ≡ r). omega (arith, u.row, i.made)), missed r xs (u.out l xs i))

pub prev-missed : (s : Net) (r i : ℕ) (xs : List ℕ) (j : ℕ) → Chain s i xs j → Misses r (i ∷ xs) → r ≢ prev_of s j
prev-missed s r i [] j c m = λ e. m.0 (sym c.1 ∙ sym e)
prev-missed s r i (x ∷ xs) j c m = prev-missed s r x xs j c.1 m.1

pub next-missed : (s : Net) (r i : ℕ) (xs : List ℕ) (j : ℕ) → Chain s i xs j → Misses r xs → j ≢ r → r ≢ next_of s i
next-missed s r i [] j c m n = λ e. n (sym c.0 ∙ sym e)
next-missed s r i (x ∷ xs) j c m n = λ e. m.0 (sym c.0.0 ∙ sym e)

pub neighbours-linked : (s : Net) (a b r : ℕ) → r ≢ a → r ≢ b → KeepsNeighbours s r (linked a b s)
neighbours-linked s a b r n k = (get_or-set_other s.next a r b 0 n, get_or-set_other s.prev b r a 0 k)

pub neighbours-twice : (s t u : Net) (r : ℕ) → KeepsNeighbours s r t → KeepsNeighbours t r u → KeepsNeighbours s r u
neighbours-twice s t u r a b = (b.0 ∙ a.0, b.1 ∙ a.1)

pub last-missed-by : (r i : ℕ) (xs : List ℕ) → Misses r (i ∷ xs) → r ≢ last_of i xs
last-missed-by r i [] m = λ e. m.0 (sym e)
last-missed-by r i (x ∷ xs) m = last-missed-by r x xs m.1

pub kept-by-push : (s : Net) → IsNet s → KeptByPush s
kept-by-push s t = λ l r xs i u.
    let m = out-of s r l xs u i in
    let k = length s.next in
    let rk : r ≢ k = λ (e : r ≡ k). omega (arith, u.pushed) in
    let rl : r ≢ l = λ e. m.0 (sym e) in
    let rp : r ≢ prev_of s l = prev-missed s r l xs l i.chain m in
    let hp : r < length s.prev = omega (arith, t.as_many, u.pushed) in
    let g : KeepsNeighbours s r (grown s) = (get_or_append_left s.next (k ∷ []) 0 r u.pushed, get_or_append_left s.prev (k ∷ []) 0 r hp) in
    let s1 = linked (prev_of s l) k (grown s) in
    neighbours-twice s s1 (linked k l s1) r (neighbours-twice s (grown s) s1 r g (neighbours-linked (grown s) (prev_of s l) k r rp rk)) (neighbours-linked s1 k l r rk rl)

pub kept-by-unlink : (s : Net) → KeptByUnlink s
kept-by-unlink s = λ l q r xs ys i u.
    let m = out-of s r l (xs ++ q ∷ ys) u i in
    let p = misses-append r xs (q ∷ ys) m.1 in
    let d = split s l xs q ys l i.chain in
    neighbours-linked s (prev_of s q) (next_of s q) r (prev-missed s r l xs q d.0 (m.0, p.0)) (next-missed s r q ys l d.1 p.1.1 m.0)

-- the node behind the last of the first ones
pub next-of-last : (s : Net) (r i j a : ℕ) (xs ys : List ℕ) → Chain s i (xs ++ ys) j → last_of i xs ≡ a → Misses r (xs ++ ys) → j ≢ r → r ≢ next_of s a
next-of-last s r i j a [] ys c q m n = λ e. next-missed s r i ys j c m n (e ∙ ap (λ v. next_of s v) (sym q))
next-of-last s r i j a (x ∷ xs) ys c q m n = next-of-last s r x j a xs ys c.1 q m.1 n

pub kept-by-relink : (s : Net) → KeptByRelink s
kept-by-relink s = λ l q r xs ys k i e u n.
    let m = out-of s r l (xs ++ ys) u i in
    let p = misses-append r xs ys m.1 in
    let a : r ≢ prev_of s q = λ z. last-missed-by r l xs (m.0, p.0) (z ∙ sym e) in
    let b : r ≢ next_of s q = λ z. next-of-last s r l l (prev_of s q) xs ys i.chain e m.1 m.0 (z ∙ sym k.side_by_side) in
    let s1 = linked (prev_of s q) q s in
    neighbours-twice s s1 (linked q (next_of s q) s1) r (neighbours-linked s (prev_of s q) q r a n) (neighbours-linked s1 q (next_of s q) r n b)

pub kept-by-splice : (s : Net) → KeptBySplice s
kept-by-splice s = λ l a o r xs ys bs i e j ne u.
    let m = out-of s r l (xs ++ ys) u i in
    let p = misses-append r xs ys m.1 in
    let z = out-of s r o bs u j in
    let ra : r ≢ a = λ y. last-missed-by r l xs (m.0, p.0) (y ∙ sym e) in
    let rn : r ≢ next_of s a = next-of-last s r l l a xs ys i.chain e m.1 m.0 in
    let ro : r ≢ o = λ w. z.0 (sym w) in
    let rf : r ≢ next_of s o = next-missed s r o bs o j.chain z.1 z.0 in
    let rl : r ≢ prev_of s o = prev-missed s r o bs o j.chain z in
    let s1 = linked a (next_of s o) s in
    let s2 = linked (prev_of s o) (next_of s a) s1 in
    neighbours-twice s s2 (linked o o s2) r (neighbours-twice s s1 s2 r (neighbours-linked s a (next_of s o) r ra rf) (neighbours-linked s1 (prev_of s o) (next_of s a) r rl rn)) (neighbours-linked s2 o o r ro ro)

pub kept-by-cut : (s : Net) → KeptByCut s
kept-by-cut s = λ l f e o r xs rs ys i q j ne u.
    let m = out-of s r l (xs ++ ((f ∷ rs) ++ ys)) u i in
    let p = misses-append r xs ((f ∷ rs) ++ ys) m.1 in
    let w = misses-append r (f ∷ rs) ys p.1 in
    let d = split s l xs f (rs ++ ys) l i.chain in
    let z = out-of s r o [] u j in
    let ro : r ≢ o = λ w. z.0 (sym w) in
    let rf : r ≢ f = λ v. w.0.0 (sym v) in
    let re : r ≢ e = λ v. last-missed-by r f rs w.0 (v ∙ sym q) in
    let rp : r ≢ prev_of s f = prev-missed s r l xs f d.0 (m.0, p.0) in
    let rn : r ≢ next_of s e = next-of-last s r f l e rs ys d.1 q p.1.1 m.0 in
    let s1 = linked e o s in
    let s2 = linked (prev_of s f) (next_of s e) s1 in
    neighbours-twice s s2 (linked o f s2) r (neighbours-twice s s1 s2 r (neighbours-linked s e o r re ro) (neighbours-linked s1 (prev_of s f) (next_of s e) r rp rn)) (neighbours-linked s2 o f r ro rf)

-- what follows a row of a list, up to its end
pub behind : (s : Net) (i : ℕ) (xs : List ℕ) (j r : ℕ) → Chain s i xs j → AllRows s xs → Contains xs r → (ys : List ℕ) × (Chain s r ys j × AllRows s ys)
behind s i [] j r c m h = absurd (contains-none r h)
behind s i (x ∷ xs) j r c m h = elim (contains-cases x r xs h) [
  | inl e ↦ (xs, (subst (λ v. Chain s v xs j) e c.1, m.1))
  | inr h2 ↦ behind s x xs j r c.1 m.1 h2
]

in-other : (s : Net) (l m r : ℕ) (xs ys : List ℕ) → IsList s l xs → IsList s m ys → Contains xs r → Contains ys r → m ≢ l → ⊥
in-other s l m r xs ys i j h k n =
    let b = behind s l xs l r i.chain i.rows h in
    not-missed r ys (away s m ys r b.0 l j.chain b.1.0 j.rows b.1.1 j.made i.made n).1 k

in-one-by : (s : Net) (l m r : ℕ) (xs ys : List ℕ) → IsList s l xs → IsList s m ys → Contains xs r → Contains ys r → ((eqb m l ≡ true) × (m ≡ l)) ⊎ ((eqb m l ≡ false) × (m ≢ l)) → l ≡ m
in-one-by s l m r xs ys i j h k (inl e) = sym e.1
in-one-by s l m r xs ys i j h k (inr n) = absurd (in-other s l m r xs ys i j h k n.1)

pub in-one-list : (s : Net) → IsInOneList s
in-one-list s = λ l m r xs ys i j h k. in-one-by s l m r xs ys i j h k (eqb_tells m l)

unique-back : (xs ys : List ℕ) → Unique (xs ++ ys) → Unique ys
unique-back [] ys u = u
unique-back (x ∷ xs) ys u = unique-back xs ys u.1

pub stands-once : (s : Net) → StandsOnce s
stands-once s = λ l r xs ys i.
    let u = (chain-unique s l (xs ++ r ∷ ys) l i.chain i.rows i.made).1 in
    (not-missed r xs (unique-missed xs r ys u), not-missed r ys (unique-back xs (r ∷ ys) u).0)
