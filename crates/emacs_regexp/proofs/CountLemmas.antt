-- How many groups have a number.
use Rattle.std.proofs.Common.{◌≡◌, ◌+◌, true, false, List, [], ◌∷◌, ◌++◌, refl, arith, count_by, if◌then◌else◌}
use Rattle.std.proofs.lemmas.List.Sums.{sum_by-append}
use Rattle.emacs_regexp.specs.declared.token.Token.{Token}
use Rattle.emacs_regexp.specs.declared.token.Token.TheVariants.{Open, Close, Or, Repeat}
use Rattle.emacs_regexp.specs.Trees.{Tree, Empty, One, Then, Either, Repeated, Group, tokens_of, group_count, is_numbered_open}

counted : (xs ys : List Token) → count_by is_numbered_open (xs ++ ys) ≡ count_by is_numbered_open xs + count_by is_numbered_open ys
counted xs ys = sum_by-append (λ token. if is_numbered_open token then 1 else 0) xs ys

pub count_by-tokens_of : (tree : Tree) → count_by is_numbered_open (tokens_of tree) ≡ group_count tree
count_by-tokens_of Empty = refl
count_by-tokens_of (One atom) = refl
count_by-tokens_of (Then first second) =
    omega (arith, counted (tokens_of first) (tokens_of second), count_by-tokens_of first, count_by-tokens_of second)
count_by-tokens_of (Either first second) =
    omega (arith, counted (tokens_of first) (Or ∷ tokens_of second), counted (Or ∷ []) (tokens_of second), count_by-tokens_of first, count_by-tokens_of second)
count_by-tokens_of (Repeated tree quantifier) =
    omega (arith, counted (tokens_of tree) (Repeat quantifier ∷ []), count_by-tokens_of tree)
count_by-tokens_of (Group true tree) =
    omega (arith, counted (Open true ∷ []) (tokens_of tree ++ Close ∷ []), counted (tokens_of tree) (Close ∷ []), count_by-tokens_of tree)
count_by-tokens_of (Group false tree) =
    omega (arith, counted (Open false ∷ []) (tokens_of tree ++ Close ∷ []), counted (tokens_of tree) (Close ∷ []), count_by-tokens_of tree)
