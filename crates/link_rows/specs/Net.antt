-- Nodes that are linked both ways by their numbers. The first nodes are heads, one for each list, and the others are rows.
-- A list's head, its rows in order and its head again follow each other both ways.
use Rattle.std.specs.Prelude.{ℕ, ◌≡◌, ◌≢◌, ◌<◌, ◌≤◌, ◌^◌, zero, suc, List, [], ◌∷◌, ◌++◌, length, slice_index, set, refl}
use Rattle.std.specs.Coded.{Coded, code_by, coded×, coded_ℕ, coded_list}

pub record Net : Type 0 where
  pub heads : ℕ
  pub next : List ℕ
  pub prev : List ℕ

abbrev pub net : ℕ → List ℕ → List ℕ → Net
net heads next prev = record { heads = heads; next = next; prev = prev }

-- the numbers below n
abbrev pub numbers : ℕ → List ℕ
numbers zero = []
numbers (suc n) = numbers n ++ n ∷ []

-- so many heads, each linked to itself
abbrev pub alone : ℕ → Net
alone heads = net heads (numbers heads) (numbers heads)

abbrev pub net_code : Coded Net
net_code =
    code_by (ℕ × (List ℕ × List ℕ)) (coded× coded_ℕ (coded× (coded_list coded_ℕ) (coded_list coded_ℕ)))
    (λ s. (s.heads, (s.next, s.prev))) (λ p. record { heads = p.0; next = p.1.0; prev = p.1.1 }) (λ _. refl)

abbrev pub next_of : Net → ℕ → ℕ
next_of s i = slice_index s.next i

abbrev pub prev_of : Net → ℕ → ℕ
prev_of s i = slice_index s.prev i

-- how many nodes there are
abbrev pub nodes : Net → ℕ
nodes s = length s.next

-- b stands behind a
abbrev pub linked : ℕ → ℕ → Net → Net
linked a b s = record { heads = s.heads; next = set s.next a b; prev = set s.prev b a }

-- with one node more, which is linked to no other
abbrev pub grown : Net → Net
grown s = record { heads = s.heads; next = s.next ++ length s.next ∷ []; prev = s.prev ++ length s.next ∷ [] }

-- each of these numbers is below n
abbrev pub AllBelow : ℕ → List ℕ → Type 0
AllBelow n [] = Unit {0}
AllBelow n (x ∷ xs) = (x < n) × AllBelow n xs

-- each link leads to a node
pub record IsNet (s : Net) : Type 0 where
  pub as_many : length s.prev ≡ length s.next
  pub heads : s.heads ≤ length s.next
  pub few : s.heads < 2 ^ 32
  pub next : AllBelow (length s.next) s.next
  pub prev : AllBelow (length s.next) s.prev

-- b follows a both ways
abbrev pub Follows : Net → ℕ → ℕ → Type 0
Follows s a b = (next_of s a ≡ b) × (prev_of s b ≡ a)

-- from a through xs to b
abbrev pub Chain : Net → ℕ → List ℕ → ℕ → Type 0
Chain s a [] b = Follows s a b
Chain s a (x ∷ xs) b = Follows s a x × Chain s x xs b

-- each is the node of a row
abbrev pub AllRows : Net → List ℕ → Type 0
AllRows s [] = Unit {0}
AllRows s (x ∷ xs) = ((s.heads ≤ x) × (x < nodes s)) × AllRows s xs

-- the rows of the list l, by their nodes
pub record IsList (s : Net) (l : ℕ) (xs : List ℕ) : Type 0 where
  pub made : l < s.heads
  pub rows : AllRows s xs
  pub chain : Chain s l xs l

abbrev pub unlinked : ℕ → Net → Net
unlinked r s = linked (prev_of s r) (next_of s r) s

abbrev pub relinked : ℕ → Net → Net
relinked r s = linked r (next_of s r) (linked (prev_of s r) r s)

-- pushed behind the last of the list l, as a new node
abbrev pub pushed : ℕ → Net → Net
pushed l s = linked (nodes s) l (linked (prev_of s l) (nodes s) (grown s))

-- the last of xs, or i where there is none
abbrev pub last_of : ℕ → List ℕ → ℕ
last_of i [] = i
last_of i (x ∷ xs) = last_of x xs

-- the row r is in no list, and the nodes between which it stood follow each other
pub record CanRelink (s : Net) (r : ℕ) : Type 0 where
  pub row : s.heads ≤ r
  pub pushed : r < nodes s
  pub out : next_of s (prev_of s r) ≢ r
  pub side_by_side : next_of s (prev_of s r) ≡ next_of s r

-- From s to t the row r leaves its list, and the others stay.
abbrev pub Unlinks : Net → ℕ → Net → Type 0
Unlinks s r t =
    (l : ℕ) (xs ys : List ℕ) → IsList s l (xs ++ r ∷ ys)
    → IsList t l (xs ++ ys) × ((m : ℕ) (zs : List ℕ) → IsList s m zs → m ≢ l → IsList t m zs)

-- From s to t the row r comes behind the node that it stood behind, and the other lists stay.
abbrev pub Relinks : Net → ℕ → Net → Type 0
Relinks s r t =
    (l : ℕ) (xs ys : List ℕ) → IsList s l (xs ++ ys) → last_of l xs ≡ prev_of s r
    → IsList t l (xs ++ r ∷ ys) × ((m : ℕ) (zs : List ℕ) → IsList s m zs → m ≢ l → IsList t m zs)

-- From s to t the list l gets a new row at its end, and the others stay.
abbrev pub Pushes : Net → ℕ → Net → Type 0
Pushes s l t =
    (xs : List ℕ) → IsList s l xs
    → IsList t l (xs ++ nodes s ∷ []) × ((m : ℕ) (zs : List ℕ) → IsList s m zs → m ≢ l → IsList t m zs)

-- From s to t the rows of the list o come behind the node a of another list, and the others stay.
abbrev pub Splices : Net → ℕ → ℕ → Net → Type 0
Splices s a o t =
    (l : ℕ) (xs ys bs : List ℕ) → IsList s l (xs ++ ys) → last_of l xs ≡ a → IsList s o bs → l ≢ o
    → IsList t l (xs ++ (bs ++ ys)) × (IsList t o [] × ((m : ℕ) (zs : List ℕ) → IsList s m zs → m ≢ l → m ≢ o → IsList t m zs))

-- the rows from the first to the last of the list o, put behind a
abbrev pub spliced : ℕ → ℕ → Net → Net
spliced a o s = linked o o (linked (prev_of s o) (next_of s a) (linked a (next_of s o) s))

-- From s to t the rows from f to e leave their list and are all of the list o, which was empty, and the others stay.
abbrev pub Cuts : Net → ℕ → ℕ → ℕ → Net → Type 0
Cuts s f e o t =
    (l : ℕ) (xs rs ys : List ℕ) → IsList s l (xs ++ ((f ∷ rs) ++ ys)) → last_of f rs ≡ e → IsList s o [] → l ≢ o
    → IsList t l (xs ++ ys) × (IsList t o (f ∷ rs) × ((m : ℕ) (zs : List ℕ) → IsList s m zs → m ≢ l → m ≢ o → IsList t m zs))

abbrev pub cut_out : ℕ → ℕ → ℕ → Net → Net
cut_out f e o s = linked o f (linked (prev_of s f) (next_of s e) (linked e o s))
