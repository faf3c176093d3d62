-- Regexps as trees.
use Rattle.std.specs.Prelude.{◌≡◌, ◌≢◌, ℕ, ◌+◌, Bool, false, List, [], ◌∷◌, ◌++◌, Option, Some, None, if◌then◌else◌}
use Rattle.emacs_regexp.specs.declared.token.Atom.{Atom}
use Rattle.emacs_regexp.specs.declared.token.Quantifier.{Quantifier}
use Rattle.emacs_regexp.specs.declared.token.Token.{Token}
use Rattle.emacs_regexp.specs.declared.token.Token.TheVariants.{Atom as one, Repeat, Open, Close, Or}

pub data Tree : Type 0 where
  Empty : Tree
  One : Atom → Tree
  -- one behind the other
  Then : Tree → Tree → Tree
  Either : Tree → Tree → Tree
  Repeated : Tree → Quantifier → Tree
  -- a group, with `true` one that has a number
  Group : Bool → Tree → Tree

-- how a tree is written
abbrev pub tokens_of : Tree → List Token
tokens_of Empty = []
tokens_of (One atom) = one atom ∷ []
tokens_of (Then first second) = tokens_of first ++ tokens_of second
tokens_of (Either first second) = tokens_of first ++ Or ∷ tokens_of second
tokens_of (Repeated tree quantifier) = tokens_of tree ++ Repeat quantifier ∷ []
tokens_of (Group is_numbered tree) = Open is_numbered ∷ tokens_of tree ++ Close ∷ []

-- Repeats bind tightest, then comes what stands one behind the other, and `\|` binds least.
pub data Sort : Type 0 where
  -- an atom, a group, or an item that is repeated
  Item : Sort
  -- items one behind the other
  Sequence : Sort
  -- sequences as alternatives
  Regexp : Sort

abbrev pub IsTree : Sort → Tree → Type 0
IsTree sort Empty = sort ≢ Item
IsTree sort (One atom) = sort ≡ Item
IsTree sort (Then first second) = (sort ≢ Item) × IsTree Sequence first × IsTree Item second
IsTree sort (Either first second) = (sort ≡ Regexp) × IsTree Regexp first × IsTree Sequence second
IsTree sort (Repeated tree quantifier) = (sort ≡ Item) × IsTree Item tree
IsTree sort (Group is_numbered tree) = (sort ≡ Item) × IsTree Regexp tree

-- these tokens write this regexp
pub record Writes (tokens : List Token) (tree : Tree) : Type 0 where
  pub written : tokens_of tree ≡ tokens
  pub is_regexp : IsTree Regexp tree

-- what is open while tokens are read: for each group whether it has a number, and what stands before it
abbrev pub Outer : Type 0
Outer = List (Bool × (Option Tree × Tree))

-- the alternatives so far, and one more
abbrev pub joined : Option Tree → Tree → Tree
joined None last = last
joined (Some left) last = Either left last

-- the item that comes last is repeated
abbrev pub with_last_repeated : Tree → Quantifier → Tree
with_last_repeated (Then first second) quantifier = Then first (Repeated second quantifier)
with_last_repeated Empty quantifier = Empty
with_last_repeated (One atom) quantifier = One atom
with_last_repeated (Either first second) quantifier = Either first second
with_last_repeated (Repeated tree other) quantifier = Repeated tree other
with_last_repeated (Group is_numbered tree) quantifier = Group is_numbered tree

-- what is read with the rest of the tokens, where these groups are open, and in the innermost stand these alternatives
-- and this sequence
abbrev pub built : Outer → Option Tree → Tree → List Token → Tree
built outer left last [] = joined left last
built outer left last (one atom ∷ tokens) = built outer left (Then last (One atom)) tokens
built outer left last (Repeat quantifier ∷ tokens) = built outer left (with_last_repeated last quantifier) tokens
built outer left last (Open is_numbered ∷ tokens) = built ((is_numbered, (left, last)) ∷ outer) None Empty tokens
built outer left last (Or ∷ tokens) = built outer (Some (joined left last)) Empty tokens
built [] left last (Close ∷ tokens) = built [] left last tokens
built ((is_numbered, (outer_left, outer_last)) ∷ outer) left last (Close ∷ tokens) =
    built outer outer_left (Then outer_last (Group is_numbered (joined left last))) tokens

-- the regexp that tokens write
abbrev pub tree_of : List Token → Tree
tree_of tokens = built [] None Empty tokens

-- how many groups have a number
abbrev pub group_count : Tree → ℕ
group_count Empty = 0
group_count (One atom) = 0
group_count (Then first second) = group_count first + group_count second
group_count (Either first second) = group_count first + group_count second
group_count (Repeated tree quantifier) = group_count tree
group_count (Group is_numbered tree) = if is_numbered then group_count tree + 1 else group_count tree

-- a token that begins a group with a number
abbrev pub is_numbered_open : Token → Bool
is_numbered_open (one atom) = false
is_numbered_open (Repeat quantifier) = false
is_numbered_open (Open is_numbered) = is_numbered
is_numbered_open Close = false
is_numbered_open Or = false
