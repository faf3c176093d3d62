-- How a name is written so that the shell reads it as one word (POSIX, Shell Command Language, "Quoting").
use Rattle.std.specs.Prelude.{ℕ, ◌==◌, Bool, ◌&&◌, ◌||◌, nat_le, List, [], ◌∷◌, ◌++◌, if◌then◌else◌, flat_map, codes}
use Rattle.std.specs.List.{list_all, list_any}

-- `'`
abbrev pub quote_mark : ℕ
quote_mark = 39

-- whether a byte is itself to the shell everywhere in a word: a letter, a digit, or one of these marks
abbrev pub is_plain : ℕ → Bool
is_plain b =
    (nat_le 65 b && nat_le b 90) || (nat_le 97 b && nat_le b 122) || (nat_le 48 b && nat_le b 57)
    || list_any (λ mark. b == mark) (codes "_-./,:=@%+")

-- what a program is given to name a file: the name, with `./` in front where it would be taken for an option
abbrev pub argument : List ℕ → List ℕ
argument [] = []
argument (b ∷ bs) = if b == 45 then codes "./" ++ b ∷ bs else b ∷ bs

-- how a byte is written between single quotes: `'` ends them, stands behind a backslash, and begins them anew
abbrev pub within_quotes : ℕ → List ℕ
within_quotes b = if b == quote_mark then codes "'\\''" else b ∷ []

-- a word as it is written for the shell
abbrev pub written : List ℕ → List ℕ
written word = if list_all is_plain word then word else quote_mark ∷ flat_map within_quotes word ++ quote_mark ∷ []

abbrev pub quoted : List ℕ → List ℕ
quoted name = written (argument name)
