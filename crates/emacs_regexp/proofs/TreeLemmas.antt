-- Trees, and the tokens that write them.
use Rattle.std.proofs.Common.{◌≡◌, ◌<◌, ℕ, zero, suc, List, [], ◌∷◌, ◌++◌, Option, Some, None, length, refl, ap, sym, ◌∙◌, arith, append_assoc}
use Rattle.std.proofs.lemmas.List.{append-nil}
use Rattle.emacs_regexp.specs.declared.lexing.Before.{Before}
use Rattle.emacs_regexp.specs.declared.lexing.Before.TheVariants.{Start, Item as BehindItem}
use Rattle.emacs_regexp.specs.declared.token.Token.{Token}
use Rattle.emacs_regexp.specs.declared.token.Token.TheVariants.{Atom as one, Repeat, Open, Close, Or}
use Rattle.emacs_regexp.specs.Tokens.{before_behind}
use Rattle.emacs_regexp.specs.Trees.{Tree, Empty, One, Then, Either, Repeated, Group, Sort, Item, Sequence, Regexp, IsTree, Outer, Writes, tokens_of, joined, built, tree_of}

-- the alternatives but for the last, and the last
abbrev left_of : Tree → Option Tree
left_of Empty = None
left_of (One atom) = None
left_of (Then first second) = None
left_of (Either first second) = Some first
left_of (Repeated tree quantifier) = None
left_of (Group is_numbered tree) = None

abbrev last_of : Tree → Tree
last_of Empty = Empty
last_of (One atom) = One atom
last_of (Then first second) = Then first second
last_of (Either first second) = second
last_of (Repeated tree quantifier) = Repeated tree quantifier
last_of (Group is_numbered tree) = Group is_numbered tree

joined-parts : (tree : Tree) → joined (left_of tree) (last_of tree) ≡ tree
joined-parts Empty = refl
joined-parts (One atom) = refl
joined-parts (Then first second) = refl
joined-parts (Either first second) = refl
joined-parts (Repeated tree quantifier) = refl
joined-parts (Group is_numbered tree) = refl

-- where the tokens of a tree lead
abbrev Leads : Sort → Tree → Type 0
Leads Item tree = (outer : Outer) (left : Option Tree) (last : Tree) (tokens : List Token) →
    built outer left last (tokens_of tree ++ tokens) ≡ built outer left (Then last tree) tokens
Leads Sequence tree = (outer : Outer) (left : Option Tree) (tokens : List Token) →
    built outer left Empty (tokens_of tree ++ tokens) ≡ built outer left tree tokens
Leads Regexp tree = (outer : Outer) (tokens : List Token) →
    built outer None Empty (tokens_of tree ++ tokens) ≡ built outer (left_of tree) (last_of tree) tokens

leads : (sort : Sort) (tree : Tree) → IsTree sort tree → Leads sort tree
leads Item Empty ok = absurd (ok refl)
leads Sequence Empty ok = λ outer left tokens. refl
leads Regexp Empty ok = λ outer tokens. refl
leads Item (One atom) ok = λ outer left last tokens. refl
leads Sequence (One atom) ok = absurd (cc)
leads Regexp (One atom) ok = absurd (cc)
leads Item (Then first second) ok = absurd (ok.0 refl)
leads Sequence (Then first second) ok = λ outer left tokens.
    simp append_assoc (leads Sequence first ok.1 outer left (tokens_of second ++ tokens) ∙ leads Item second ok.2 outer left first tokens)
leads Regexp (Then first second) ok = λ outer tokens.
    simp append_assoc (leads Sequence first ok.1 outer None (tokens_of second ++ tokens) ∙ leads Item second ok.2 outer None first tokens)
leads Item (Either first second) ok = absurd (cc (ok.0))
leads Sequence (Either first second) ok = absurd (cc (ok.0))
leads Regexp (Either first second) ok = λ outer tokens.
    simp append_assoc (
    leads Regexp first ok.1 outer (Or ∷ tokens_of second ++ tokens)
    ∙ ap (λ t. built outer (Some t) Empty (tokens_of second ++ tokens)) (joined-parts first)
    ∙ leads Sequence second ok.2 outer (Some first) tokens
    )
leads Item (Repeated tree quantifier) ok = λ outer left last tokens.
    simp append_assoc (leads Item tree ok.1 outer left last (Repeat quantifier ∷ tokens))
leads Sequence (Repeated tree quantifier) ok = absurd (cc (ok.0))
leads Regexp (Repeated tree quantifier) ok = absurd (cc (ok.0))
leads Item (Group is_numbered tree) ok = λ outer left last tokens.
    simp append_assoc (
    leads Regexp tree ok.1 ((is_numbered, (left, last)) ∷ outer) (Close ∷ tokens)
    ∙ ap (λ t. built outer left (Then last (Group is_numbered t)) tokens) (joined-parts tree)
    )
leads Sequence (Group is_numbered tree) ok = absurd (cc (ok.0))
leads Regexp (Group is_numbered tree) ok = absurd (cc (ok.0))

-- the tree comes back from its tokens
pub tree_of-tokens_of : (tree : Tree) → IsTree Regexp tree → tree_of (tokens_of tree) ≡ tree
tree_of-tokens_of tree ok =
    ap tree_of (sym (append-nil (tokens_of tree))) ∙ leads Regexp tree ok [] [] ∙ joined-parts tree

-- which tokens can stand in which places: a `\)` behind its `\(`, and a repeat behind an item
abbrev pub CanFollow : ℕ → Before → Token → Type 0
CanFollow depth before (one atom) = Unit {0}
CanFollow depth before (Repeat quantifier) = before ≡ BehindItem
CanFollow depth before (Open is_numbered) = Unit {0}
CanFollow depth before Close = 0 < depth
CanFollow depth before Or = Unit {0}

abbrev pub depth_behind : Token → ℕ → ℕ
depth_behind (one atom) depth = depth
depth_behind (Repeat quantifier) depth = depth
depth_behind (Open is_numbered) depth = suc depth
depth_behind Close zero = zero
depth_behind Close (suc depth) = depth
depth_behind Or depth = depth

abbrev pub Follow : ℕ → Before → List Token → Type 0
Follow depth before [] = depth ≡ 0
Follow depth before (token ∷ tokens) = CanFollow depth before token × Follow (depth_behind token depth) (before_behind token) tokens

-- the tokens that wrote what is open
abbrev front : Option Tree → List Token
front None = []
front (Some left) = tokens_of left ++ Or ∷ []

abbrev outer_tokens : Outer → List Token
outer_tokens [] = []
outer_tokens ((is_numbered, (left, last)) ∷ outer) = outer_tokens outer ++ (front left ++ (tokens_of last ++ Open is_numbered ∷ []))

abbrev written : Outer → Option Tree → Tree → List Token
written outer left last = outer_tokens outer ++ (front left ++ tokens_of last)

abbrev IsLeft : Option Tree → Type 0
IsLeft None = Unit {0}
IsLeft (Some left) = IsTree Regexp left

abbrev IsOuter : Outer → Type 0
IsOuter [] = Unit {0}
IsOuter ((is_numbered, (left, last)) ∷ outer) = (IsLeft left × IsTree Sequence last) × IsOuter outer

abbrev HasLast : Tree → Type 0
HasLast Empty = ⊥
HasLast (One atom) = ⊥
HasLast (Then first second) = Unit {0}
HasLast (Either first second) = ⊥
HasLast (Repeated tree quantifier) = ⊥
HasLast (Group is_numbered tree) = ⊥

tokens_of-joined : (left : Option Tree) (last : Tree) → tokens_of (joined left last) ≡ front left ++ tokens_of last
tokens_of-joined None last = refl
tokens_of-joined (Some left) last = simp append_assoc

joined-regexp : (left : Option Tree) (last : Tree) → IsLeft left → IsTree Sequence last → IsTree Regexp (joined left last)
joined-regexp None Empty l s = λ e. cc
joined-regexp None (One atom) l s = absurd (cc)
joined-regexp None (Then first second) l s = ((λ e. cc), s.1, s.2)
joined-regexp None (Either first second) l s = absurd (cc (s.0))
joined-regexp None (Repeated tree quantifier) l s = absurd (cc (s.0))
joined-regexp None (Group is_numbered tree) l s = absurd (cc (s.0))
joined-regexp (Some left) last l s = (refl, l, s)

moved : {xs ys : List Token} {tree : Tree} → Writes xs tree → xs ≡ ys → Writes ys tree
moved w e = record { written = w.written ∙ e; is_regexp = w.is_regexp }

-- what is read behind what is open is written by both
writes-built : (outer : Outer) (left : Option Tree) (last : Tree) (before : Before) (tokens : List Token) →
    IsOuter outer → IsLeft left → IsTree Sequence last → (before ≡ BehindItem → HasLast last) → Follow (length outer) before tokens →
    Writes (written outer left last ++ tokens) (built outer left last tokens)
writes-built [] left last before [] o l s h f =
    record { written = simp (tokens_of-joined, append-nil); is_regexp = joined-regexp left last l s }
writes-built (frame ∷ outer) left last before [] o l s h f = absurd (cc (f))
writes-built outer left last before (one atom ∷ tokens) o l s h f =
    moved (writes-built outer left (Then last (One atom)) (before_behind (one atom)) tokens o l ((λ e. cc), s, refl) (λ _. tt) f.1) (simp append_assoc)
writes-built outer left Empty before (Repeat quantifier ∷ tokens) o l s h f = absurd (h f.0)
writes-built outer left (One atom) before (Repeat quantifier ∷ tokens) o l s h f = absurd (h f.0)
writes-built outer left (Then first second) before (Repeat quantifier ∷ tokens) o l s h f =
    moved (writes-built outer left (Then first (Repeated second quantifier)) BehindItem tokens o l (s.0, s.1, (refl, s.2)) (λ _. tt) f.1) (simp append_assoc)
writes-built outer left (Either first second) before (Repeat quantifier ∷ tokens) o l s h f = absurd (h f.0)
writes-built outer left (Repeated tree other) before (Repeat quantifier ∷ tokens) o l s h f = absurd (h f.0)
writes-built outer left (Group is_numbered tree) before (Repeat quantifier ∷ tokens) o l s h f = absurd (h f.0)
writes-built outer left last before (Open is_numbered ∷ tokens) o l s h f =
    moved (writes-built ((is_numbered, (left, last)) ∷ outer) None Empty Start tokens ((l, s), o) tt (λ e. cc) (λ e. absurd (cc)) f.1)
    (simp (append_assoc, append-nil))
writes-built outer left last before (Or ∷ tokens) o l s h f =
    moved (writes-built outer (Some (joined left last)) Empty Start tokens o (joined-regexp left last l s) (λ e. cc) (λ e. absurd (cc)) f.1)
    (simp (tokens_of-joined, append_assoc, append-nil))
writes-built [] left last before (Close ∷ tokens) o l s h f = absurd (omega (arith, f.0))
writes-built ((is_numbered, (outer_left, outer_last)) ∷ outer) left last before (Close ∷ tokens) o l s h f =
    moved (writes-built outer outer_left (Then outer_last (Group is_numbered (joined left last))) BehindItem tokens o.1 o.0.0
    ((λ e. cc), o.0.1, (refl, joined-regexp left last l s)) (λ _. tt) f.1)
    (simp (tokens_of-joined, append_assoc))

-- tokens in lawful places write a regexp
pub writes-tree_of : (tokens : List Token) → Follow 0 Start tokens → Writes tokens (tree_of tokens)
writes-tree_of tokens f = writes-built [] None Empty Start tokens tt tt (λ e. cc) (λ e. absurd (cc)) f
