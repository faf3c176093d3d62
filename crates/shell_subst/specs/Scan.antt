-- How a scan cuts a command text, one token after another.
use Rattle.std.specs.Prelude.{◌≡◌, ◌<◌, ℕ, Bool, false, List, [], ◌∷◌, ◌++◌, length, map, encode_utf8}
use Rattle.shell_subst.specs.Commands.{Piece, Byte, AllNames, OneName, is_blank, pieces_from}
use Rattle.shell_subst.specs.declared.scanning.Token.{Token}
use Rattle.shell_subst.specs.declared.scanning.Token.TheVariants.{Char as Char_token, AllNames as AllNames_token, OneName as OneName_token}

-- the pieces that a token stands for
abbrev pub token_pieces : Token → List Piece
token_pieces (Char_token c) = map Byte (encode_utf8 c)
token_pieces AllNames_token = AllNames ∷ []
token_pieces OneName_token = OneName ∷ []

-- whether a token is whitespace
abbrev pub is_blank_token : Token → Bool
is_blank_token (Char_token c) = is_blank c
is_blank_token AllNames_token = false
is_blank_token OneName_token = false

-- a token stands at the head of a text, and `later` behind it
abbrev pub Cuts : Bool → List ℕ → Token → List ℕ → Type 0
Cuts after_blank text token later =
    (pieces_from after_blank 0 text ≡ token_pieces token ++ pieces_from (is_blank_token token) 0 later)
    × (length later < length text)
