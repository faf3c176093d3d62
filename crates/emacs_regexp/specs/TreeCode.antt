-- A tree as a list without trees in it, as which a proof stores it: each part behind its own parts.
use Rattle.std.specs.Prelude.{◌≡◌, List, [], ◌∷◌, ◌++◌, Option, Some, None, refl}
use Rattle.std.proofs.Common.{◌∙◌, append_assoc}
use Rattle.std.proofs.lemmas.List.{append-nil}
use Rattle.emacs_regexp.specs.declared.token.Token.{Token}
use Rattle.emacs_regexp.specs.declared.token.Token.TheVariants.{Atom as one, Repeat, Open, Close, Or}
use Rattle.emacs_regexp.specs.Trees.{Tree, Empty, One, Then, Either, Repeated, Group}

abbrev pub flat : Tree → List (Option Token)
flat Empty = None ∷ []
flat (One atom) = Some (one atom) ∷ []
flat (Then first second) = flat first ++ (flat second ++ Some Close ∷ [])
flat (Either first second) = flat first ++ (flat second ++ Some Or ∷ [])
flat (Repeated tree quantifier) = flat tree ++ Some (Repeat quantifier) ∷ []
flat (Group is_numbered tree) = flat tree ++ Some (Open is_numbered) ∷ []

-- the trees behind one more part
abbrev pub with_part : Option Token → List Tree → List Tree
with_part None trees = Empty ∷ trees
with_part (Some (one atom)) trees = One atom ∷ trees
with_part (Some Close) [] = []
with_part (Some Close) (tree ∷ []) = []
with_part (Some Close) (second ∷ first ∷ trees) = Then first second ∷ trees
with_part (Some Or) [] = []
with_part (Some Or) (tree ∷ []) = []
with_part (Some Or) (second ∷ first ∷ trees) = Either first second ∷ trees
with_part (Some (Repeat quantifier)) [] = []
with_part (Some (Repeat quantifier)) (tree ∷ trees) = Repeated tree quantifier ∷ trees
with_part (Some (Open is_numbered)) [] = []
with_part (Some (Open is_numbered)) (tree ∷ trees) = Group is_numbered tree ∷ trees

abbrev pub last_tree : List Tree → Tree
last_tree [] = Empty
last_tree (tree ∷ trees) = tree

abbrev pub unflat_from : List Tree → List (Option Token) → Tree
unflat_from trees [] = last_tree trees
unflat_from trees (part ∷ parts) = unflat_from (with_part part trees) parts

abbrev pub unflat : List (Option Token) → Tree
unflat parts = unflat_from [] parts

pub flat-behind : (tree : Tree) (trees : List Tree) (parts : List (Option Token)) → unflat_from trees (flat tree ++ parts) ≡ unflat_from (tree ∷ trees) parts
flat-behind Empty trees parts = refl
flat-behind (One atom) trees parts = refl
flat-behind (Then first second) trees parts =
    simp append_assoc (flat-behind first trees (flat second ++ Some Close ∷ parts) ∙ flat-behind second (first ∷ trees) (Some Close ∷ parts))
flat-behind (Either first second) trees parts =
    simp append_assoc (flat-behind first trees (flat second ++ Some Or ∷ parts) ∙ flat-behind second (first ∷ trees) (Some Or ∷ parts))
flat-behind (Repeated tree quantifier) trees parts =
    simp append_assoc (flat-behind tree trees (Some (Repeat quantifier) ∷ parts))
flat-behind (Group is_numbered tree) trees parts =
    simp append_assoc (flat-behind tree trees (Some (Open is_numbered) ∷ parts))

pub unflat-flat : (tree : Tree) → unflat (flat tree) ≡ tree
unflat-flat tree = simp append-nil at (flat-behind tree [] [])
