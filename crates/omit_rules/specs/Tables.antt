-- What settings read from a TOML table.
use Rattle.std.specs.Prelude.{ℕ, ℤ, nat_le, pos, negsuc, List, [], ◌∷◌, codes, Option, Some, None, option_and_then, if◌then◌else◌}
use Rattle.toml.specs.Data.{Data, Items, no_items, item, Members, no_members, member, get_member, as_str, as_array, as_integer, as_table}

-- the keys of a table. A table has them in the order of their bytes.
abbrev pub keys_of : Members → List (List ℕ)
keys_of no_members = []
keys_of (member key value more) = key ∷ keys_of more

abbrev pub items_list : Items → List Data
items_list no_items = []
items_list (item value more) = value ∷ items_list more

-- the items of an array, and none of what is no array
abbrev pub items_of : Option Items → List Data
items_of None = []
items_of (Some items) = items_list items

abbrev pub members_of : Option Members → Members
members_of None = no_members
members_of (Some members) = members

-- the guesses that a table of settings lists, each as it stands there
abbrev pub guesses_in : Members → List Data
guesses_in table = items_of (option_and_then as_array (get_member (codes "guess") table))

-- the table that a guess is
abbrev pub guess_table : Data → Members
guess_table guess = members_of (as_table guess)

abbrev pub text_at : List ℕ → Members → Option (List ℕ)
text_at key table = option_and_then as_str (get_member key table)

-- a whole number from 0 to 1,000,000
abbrev pub kept_number : Option ℤ → Option ℕ
kept_number None = None
kept_number (Some (negsuc n)) = None
kept_number (Some (pos n)) = if nat_le n 1000000 then Some n else None

abbrev pub number_of : Data → Option ℕ
number_of value = kept_number (as_integer value)
