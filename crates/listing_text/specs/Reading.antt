-- A file's line read field by field, from the left. The first field that is bad is the fault, at the place where it
-- begins behind its spaces. A missing space, and one too many, is a fault of the field behind.
use Rattle.std.specs.Prelude.{ℕ, ◌+◌, ◌-◌, ◌==◌, Bool, nat_le, List, [], ◌∷◌, length, take, drop, ℤ, Option, Some, None, Result, Ok, Err, if◌then◌else◌}
use Rattle.tree_core.specs.declared.node.Kind.{Kind}
use Rattle.tree_core.specs.declared.node.Kind.TheVariants.{File, Dir, Link}
use Rattle.listing_text.specs.declared.faults.Field.{Field}
use Rattle.listing_text.specs.declared.faults.Field.TheVariants as field
use Rattle.listing_text.specs.declared.faults.LineFault.{LineFault}
use Rattle.listing_text.specs.declared.faults.LineFault.TheVariants.{Bad}
use Rattle.listing_text.specs.declared.line.Line.{Line}
use Rattle.listing_text.specs.declared.reading.Head.{Head}
use Rattle.listing_text.specs.Fields.{Taken, run_len, is_space, mark_in, kind_in, mode_in, number_in, word_in, date_in, name_of, target_of, arrow_place}
use Rattle.listing_text.specs.Numbers.{most_links, most_size}

infixl 10 ◌>>=◌
abbrev pub ◌>>=◌ : {A B E : Type 0} → Result A E → (A → Result B E) → Result B E
Ok a >>= f = f a
Err e >>= f = Err e

-- a field of a text of so many bytes, and the rest of the text where it begins: its value, or its fault there
abbrev pub or_bad : {A : Type 0} → Field → ℕ → List ℕ → Option A → Result A LineFault
or_bad field bytes rest (Some a) = Ok a
or_bad field bytes rest None = Err (Bad field (bytes - length rest))

-- how many spaces a text begins with, and what stands behind them
abbrev pub gap : List ℕ → ℕ
gap text = run_len is_space text

abbrev pub behind_gap : List ℕ → List ℕ
behind_gap text = drop (gap text) text

-- the numbers of spaces that may stand before a field
abbrev pub one : ℕ → Bool
one count = count == 1

abbrev pub some : ℕ → Bool
some count = nat_le 1 count

-- what stands behind the spaces before a field, or its fault
unfoldable pub gapped : Field → (ℕ → Bool) → ℕ → List ℕ → Result (List ℕ) LineFault
gapped field due bytes text = or_bad field bytes (behind_gap text) (if due (gap text) then Some (behind_gap text) else None)

-- a field behind its spaces
unfoldable pub spaced : {A : Type 0} → Field → (ℕ → Bool) → (List ℕ → Taken A) → ℕ → List ℕ → Result (A × List ℕ) LineFault
spaced field due take_in bytes text = do
  rest ← gapped field due bytes text
  or_bad field bytes rest (take_in rest)

-- the fields before the name, and the rest of the line
pub record Front : Type 0 where
  pub mark : ℕ
  pub kind : Kind
  pub mode : ℕ
  pub links : ℕ
  pub owner : List ℕ
  pub group : List ℕ
  pub size : ℕ
  pub minute : ℤ
  pub rest : List ℕ

-- what the fields are of which a program holds the slices
abbrev pub seen : Head → Front
seen head = record { mark = head.mark; kind = head.kind; mode = head.mode; links = head.links; owner = head.owner.now; group = head.group.now; size = head.size; minute = head.minute; rest = head.rest.now }

unfoldable pub front_of : List ℕ → Result Front LineFault
front_of text = do
  let bytes = length text
  mark ← or_bad field.Mark bytes text (mark_in text)
  kind ← spaced field.Kind one kind_in bytes mark.1
  mode ← or_bad field.Mode bytes kind.1 (mode_in kind.0 kind.1)
  links ← spaced field.Links some (number_in most_links) bytes mode.1
  owner ← spaced field.Owner some word_in bytes links.1
  group ← spaced field.Group some word_in bytes owner.1
  size ← spaced field.Size some (number_in most_size) bytes group.1
  date ← spaced field.Date one date_in bytes size.1
  Ok (record { mark = mark.0; kind = kind.0; mode = mode.0; links = links.0; owner = owner.0; group = group.0; size = size.0; minute = date.0; rest = date.1 })

-- the name begins behind one space; a further one belongs to it
abbrev pub behind_space : List ℕ → Option (List ℕ)
behind_space [] = None
behind_space (b ∷ rest) = if is_space b then Some rest else None

abbrev pub name_at : ℕ → List ℕ → List ℕ → Result (List ℕ) LineFault
name_at bytes rest shown = or_bad field.Name bytes rest (name_of shown)

-- the name of a link, which ends before this place, and its target behind ` -> `
unfoldable pub link_names : ℕ → List ℕ → Option ℕ → Result (List ℕ × List ℕ) LineFault
link_names bytes rest None = Err (Bad field.Target bytes)
link_names bytes rest (Some place) = do
  name ← name_at bytes rest (take place rest)
  target ← or_bad field.Target bytes (drop (place + 4) rest) (target_of (drop (place + 4) rest))
  Ok (name, target)

-- the name, and the target of a link
unfoldable pub names_in : Kind → ℕ → List ℕ → Result (List ℕ × List ℕ) LineFault
names_in Link bytes rest = link_names bytes rest (arrow_place rest)
names_in File bytes rest = name_at bytes rest rest >>= λ name. Ok (name, [])
names_in Dir bytes rest = name_at bytes rest rest >>= λ name. Ok (name, [])

-- the mark and the line that a text shows, or its first fault
unfoldable pub line_of : List ℕ → Result (ℕ × Line) LineFault
line_of text = do
  front ← front_of text
  rest ← or_bad field.Name (length text) front.rest (behind_space front.rest)
  names ← names_in front.kind (length text) rest
  Ok (front.mark, record { kind = front.kind; mode = front.mode; links = front.links; owner = front.owner; group = front.group; size = front.size; minute = front.minute; name = names.0; target = names.1 })
