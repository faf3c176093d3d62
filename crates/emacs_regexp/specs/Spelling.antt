-- How a regexp is spelled as a pattern of `regex` (its documentation, "Syntax").
use Rattle.std.specs.Prelude.{ℕ, ◌+◌, ◌/◌, ◌%◌, ◌==◌, nat_lt, Bool, List, [], ◌∷◌, ◌++◌, flat_map, codes, if◌then◌else◌}
use Rattle.std.specs.List.{list_any}
use Rattle.emacs_regexp.specs.declared.token.Atom.{Atom}
use Rattle.emacs_regexp.specs.declared.token.Atom.TheVariants.{Any, LineBegin, LineEnd, TextBegin, TextEnd, Char, Set, Word, NotWord, Boundary, NotBoundary}
use Rattle.emacs_regexp.specs.declared.token.Member.{Member}
use Rattle.emacs_regexp.specs.declared.token.Member.TheVariants.{One as one, Range}
use Rattle.emacs_regexp.specs.declared.token.Quantifier.{Quantifier}
use Rattle.emacs_regexp.specs.declared.token.Quantifier.TheVariants.{Star, Plus, Optional, LazyStar, LazyPlus, LazyOptional, Times, Between}
use Rattle.emacs_regexp.specs.Trees.{Tree, Empty, One, Then, Either, Repeated, Group}

-- the characters that mean something to `regex`
abbrev pub is_special : ℕ → Bool
is_special c = list_any (λ special. c == special) (codes "\\.+*?()|[]{}^$#&-~")

-- a character, behind a backslash where it means something
abbrev pub escaped : ℕ → List ℕ
escaped c = if is_special c then codes "\\" ++ c ∷ [] else c ∷ []

abbrev pub spelled_member : Member → List ℕ
spelled_member (one c) = escaped c
spelled_member (Range from to) = escaped from ++ codes "-" ++ escaped to

abbrev pub spelled_set : Bool → List Member → List ℕ
spelled_set is_negated members = (if is_negated then codes "[^" else codes "[") ++ flat_map spelled_member members ++ codes "]"

abbrev pub spelled_atom : Atom → List ℕ
spelled_atom Any = codes "."
spelled_atom LineBegin = codes "(?m:^)"
spelled_atom LineEnd = codes "(?m:$)"
spelled_atom TextBegin = codes "\\A"
spelled_atom TextEnd = codes "\\z"
spelled_atom (Char c) = escaped c
spelled_atom (Set is_negated members) = spelled_set is_negated members
spelled_atom Word = codes "\\w"
spelled_atom NotWord = codes "\\W"
spelled_atom Boundary = codes "\\b"
spelled_atom NotBoundary = codes "\\B"

-- a number below 1,000 in decimal
abbrev pub decimal : ℕ → List ℕ
decimal n =
    if nat_lt n 10 then (48 + n) ∷ []
    else if nat_lt n 100 then (48 + n / 10) ∷ (48 + n % 10) ∷ []
    else (48 + n / 100) ∷ (48 + n / 10 % 10) ∷ (48 + n % 10) ∷ []

abbrev pub spelled_quantifier : Quantifier → List ℕ
spelled_quantifier Star = codes "*"
spelled_quantifier Plus = codes "+"
spelled_quantifier Optional = codes "?"
spelled_quantifier LazyStar = codes "*?"
spelled_quantifier LazyPlus = codes "+?"
spelled_quantifier LazyOptional = codes "??"
spelled_quantifier (Times count) = codes "{" ++ decimal count ++ codes "}"
spelled_quantifier (Between least most) = codes "{" ++ decimal least ++ codes "," ++ decimal most ++ codes "}"

abbrev pub open_text : Bool → List ℕ
open_text is_numbered = if is_numbered then codes "(" else codes "(?:"

-- the characters of the pattern
abbrev pub spelled : Tree → List ℕ
spelled Empty = []
spelled (One atom) = spelled_atom atom
spelled (Then first second) = spelled first ++ spelled second
spelled (Either first second) = spelled first ++ codes "|" ++ spelled second
spelled (Repeated tree quantifier) = codes "(?:" ++ spelled tree ++ codes ")" ++ spelled_quantifier quantifier
spelled (Group is_numbered tree) = open_text is_numbered ++ spelled tree ++ codes ")"
