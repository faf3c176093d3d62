-- What each field of a file's line takes off the front of a text: its value and what stands behind it, or nothing where
-- the field is bad.
use Rattle.std.specs.Prelude.{ℕ, suc, ◌==◌, Bool, not, ◌&&◌, nat_le, List, [], ◌∷◌, length, take, drop, ℤ, Option, Some, None, Result, Ok, Err, option_map, if◌then◌else◌}
use Rattle.std.specs.List.{list_all, position_or_len}
use Rattle.std.specs.Str.{bytes_eq, is_utf8}
use Rattle.dired_text.specs.Escape.{unescaped}
use Rattle.dired_text.specs.Modes.{read_letters}
use Rattle.dired_text.specs.declared.escaping.EscapeError.{EscapeError}
use Rattle.tree_core.specs.declared.node.Kind.{Kind}
use Rattle.tree_core.specs.declared.node.Kind.TheVariants.{File, Dir, Link}
use Rattle.listing_text.specs.Dates.{minute_of, ◌>>=◌}
use Rattle.listing_text.specs.Listed.{arrow, is_link}
use Rattle.listing_text.specs.Numbers.{is_digit, number_of}

-- a value and the text behind it
abbrev pub Taken : Type 0 → Type 0
Taken A = Option (A × List ℕ)

-- how many bytes of a kind a text begins with
abbrev pub run_len : (ℕ → Bool) → List ℕ → ℕ
run_len kind text = position_or_len (λ b. not (kind b)) text

abbrev pub is_space : ℕ → Bool
is_space b = b == 32

-- the mark: a byte from 32 to 126
unfoldable pub mark_in : List ℕ → Taken ℕ
mark_in [] = None
mark_in (b ∷ rest) = if nat_le 32 b && nat_le b 126 then Some (b, rest) else None

-- the kind: `-`, `d` or `l`
unfoldable pub kind_in : List ℕ → Taken Kind
kind_in [] = None
kind_in (b ∷ rest) =
    if b == 45 then Some (File, rest)
    else if b == 100 then Some (Dir, rest)
    else if b == 108 then Some (Link, rest)
    else None

-- the mode: nine letters, which of a link are `rwxrwxrwx`
unfoldable pub mode_in : Kind → List ℕ → Taken ℕ
mode_in kind text = do
  mode ← read_letters (take 9 text)
  if is_link kind && not (mode == 0o777) then None else Some (mode, drop 9 text)

-- a number: the digits that the text begins with
unfoldable pub number_in : ℕ → List ℕ → Taken ℕ
number_in most text = option_map (λ number. (number, drop (run_len is_digit text) text)) (number_of most (take (run_len is_digit text) text))

-- owner or group: 1 to 64 bytes from 33 to 126
abbrev pub is_word_byte : ℕ → Bool
is_word_byte b = nat_le 33 b && nat_le b 126

abbrev pub is_word : List ℕ → Bool
is_word word = nat_le 1 (length word) && nat_le (length word) 64 && list_all is_word_byte word

-- a word reaches to the next space
abbrev pub word_len : List ℕ → ℕ
word_len text = position_or_len is_space text

unfoldable pub word_in : List ℕ → Taken (List ℕ)
word_in text = if is_word (take (word_len text) text) then Some (take (word_len text) text, drop (word_len text) text) else None

-- the date: 16 bytes
unfoldable pub date_in : List ℕ → Taken ℤ
date_in text = option_map (λ minute. (minute, drop 16 text)) (minute_of (take 16 text))

-- the text, where it was read
abbrev pub if_read : Result (List ℕ) EscapeError → Option (List ℕ)
if_read (Ok text) = Some text
if_read (Err e) = None

-- what an escaped text stands for, where it is one and is UTF-8
unfoldable pub plain_of : List ℕ → Option (List ℕ)
plain_of shown = if is_utf8 shown then if_read (unescaped shown) else None

-- a name isn't empty
unfoldable pub name_of : List ℕ → Option (List ℕ)
name_of shown = do
  name ← plain_of shown
  if nat_le 1 (length name) then Some name else None

-- a target has 1 to 4,095 bytes
unfoldable pub target_of : List ℕ → Option (List ℕ)
target_of shown = do
  target ← plain_of shown
  if nat_le 1 (length target) && nat_le (length target) 4095 then Some target else None

-- how many bytes stand before the first ` -> ` of a text
unfoldable pub arrow_place : List ℕ → Option ℕ
arrow_place [] = None
arrow_place (b ∷ bs) = if bytes_eq (take 4 (b ∷ bs)) arrow then Some 0 else option_map suc (arrow_place bs)
