-- The commands that a text and some file names make (GNU Emacs Manual, "Shell Commands in Dired").
use Rattle.std.specs.Prelude.{ℕ, zero, suc, ◌==◌, Bool, true, false, ◌&&◌, ◌||◌, List, [], ◌∷◌, ◌++◌, length, map, take, codes, flat_map, if◌then◌else◌, Result, Ok, Err}
use Rattle.std.specs.List.{list_all, list_any}
use Rattle.std.specs.Str.{bytes_eq}
use Rattle.shell_subst.specs.Quoting.{quoted}
use Rattle.shell_subst.specs.declared.substituting.SubstFault.{SubstFault}
use Rattle.shell_subst.specs.declared.substituting.SubstFault.TheVariants.{Both, NoFiles, EmptyCommand}

-- what a command text is made of: bytes that stay, marks for all names, and marks for one name
pub data Piece : Type 0 where
  Byte : ℕ → Piece
  AllNames : Piece
  OneName : Piece

abbrev pub is_all_names : Piece → Bool
is_all_names (Byte b) = false
is_all_names AllNames = true
is_all_names OneName = false

abbrev pub is_one_name : Piece → Bool
is_one_name (Byte b) = false
is_one_name AllNames = false
is_one_name OneName = true

-- whitespace: space and tab
abbrev pub is_blank : ℕ → Bool
is_blank b = b == 32 || b == 9

-- whether whitespace comes next, as which the end of the text counts
abbrev pub is_blank_next : List ℕ → Bool
is_blank_next [] = true
is_blank_next (b ∷ bs) = is_blank b

-- the pieces of the rest of a text. `after_blank` says that whitespace or the text's start stands before it, and so
-- many bytes still belong to the mark before it.
abbrev pub pieces_from : Bool → ℕ → List ℕ → List Piece
pieces_from after_blank more [] = []
pieces_from after_blank (suc more) (b ∷ bs) = pieces_from false more bs
pieces_from after_blank zero (b ∷ bs) =
    let is_alone = after_blank && is_blank_next bs in
    if is_alone && b == 42 then AllNames ∷ pieces_from false 0 bs
    else if is_alone && b == 63 then OneName ∷ pieces_from false 0 bs
    else if bytes_eq (take 3 (b ∷ bs)) (codes "`?`") then OneName ∷ pieces_from false 2 bs
    else Byte b ∷ pieces_from (is_blank b) 0 bs

abbrev pub pieces : List ℕ → List Piece
pieces text = pieces_from true 0 text

-- a piece as it stands in the command, with these bytes in the place of a mark
abbrev pub put : List ℕ → Piece → List ℕ
put shown (Byte b) = b ∷ []
put shown AllNames = shown
put shown OneName = shown

-- the text with these bytes in the place of each mark
abbrev pub filled : List ℕ → List ℕ → List ℕ
filled shown text = flat_map (put shown) (pieces text)

-- all names, quoted, with one space between
abbrev pub in_a_row : List (List ℕ) → List ℕ
in_a_row [] = []
in_a_row (name ∷ names) = quoted name ++ flat_map (λ next. 32 ∷ quoted next) names

-- the commands of a text with a mark for all names, with one for one name, or with neither
abbrev pub runs : List ℕ → List (List ℕ) → Bool → Bool → List (List ℕ)
runs text names all one =
    if all then filled (in_a_row names) text ∷ []
    else if one then map (λ name. filled (quoted name) text) names
    else map (λ name. text ++ 32 ∷ quoted name) names

abbrev pub substituted : List ℕ → List (List ℕ) → Result (List (List ℕ)) SubstFault
substituted text names =
    let all = list_any is_all_names (pieces text) in
    let one = list_any is_one_name (pieces text) in
    if list_all is_blank text then Err EmptyCommand
    else if length names == 0 then Err NoFiles
    else if all && one then Err Both
    else Ok (runs text names all one)
