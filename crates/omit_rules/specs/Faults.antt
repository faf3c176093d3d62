-- The faults of settings, in the order in which they are told: keys that settings don't have, values of another type, and
-- regexps with a fault, each first of the settings' own keys, in the order of their bytes, and then of the guesses in turn.
use Rattle.std.specs.Prelude.{ℕ, Bool, false, ◌||◌, List, [], ◌∷◌, ◌++◌, codes, is_some, flat_map, Option, Some, None, Result, Ok, Err, if◌then◌else◌}
use Rattle.std.specs.List.{list_all}
use Rattle.std.specs.Option.{unwrap_or}
use Rattle.std.specs.Str.{bytes_eq}
use Rattle.toml.specs.Data.{Data, Members, Items, get_member, as_str, as_array, as_table}
use Rattle.emacs_regexp.specs.Reading.{regexp_of}
use Rattle.emacs_regexp.specs.Trees.{Tree}
use Rattle.emacs_regexp.specs.declared.fault.RegexpFault.{RegexpFault}
use Rattle.omit_rules.specs.declared.fault.SettingsFault.{SettingsFault}
use Rattle.omit_rules.specs.declared.fault.SettingsFault.TheVariants.{UnknownKey, WrongType, BadRegexp}
use Rattle.omit_rules.specs.Tables.{keys_of, items_list, guesses_in, guess_table, text_at, number_of}

-- ---- keys

abbrev pub is_setting : List ℕ → Bool
is_setting key =
    bytes_eq key (codes "guess") || bytes_eq key (codes "kept_new") || bytes_eq key (codes "kept_old")
    || bytes_eq key (codes "omit_extensions") || bytes_eq key (codes "omit_regexp")

abbrev pub is_of_guess : List ℕ → Bool
is_of_guess key = bytes_eq key (codes "command") || bytes_eq key (codes "regexp")

-- how a key of a guess is named
abbrev pub in_guess : List ℕ → List ℕ
in_guess key = codes "guess." ++ key

abbrev pub unknown_setting : List ℕ → List SettingsFault
unknown_setting key = if is_setting key then [] else UnknownKey key ∷ []

abbrev pub unknown_of_guess : List ℕ → List SettingsFault
unknown_of_guess key = if is_of_guess key then [] else UnknownKey (in_guess key) ∷ []

abbrev pub unknown_in_guess : Data → List SettingsFault
unknown_in_guess guess = flat_map unknown_of_guess (keys_of (guess_table guess))

abbrev pub unknown_keys : Members → List SettingsFault
unknown_keys table = flat_map unknown_setting (keys_of table) ++ flat_map unknown_in_guess (guesses_in table)

-- ---- types

abbrev pub is_text : Data → Bool
is_text value = is_some (as_str value)

abbrev pub is_array : Data → Bool
is_array value = is_some (as_array value)

abbrev pub are_texts_in : Option Items → Bool
are_texts_in None = false
are_texts_in (Some items) = list_all is_text (items_list items)

abbrev pub are_texts : Data → Bool
are_texts value = are_texts_in (as_array value)

abbrev pub is_kept_number : Data → Bool
is_kept_number value = is_some (number_of value)

-- the fault of a value that stands at a key and has to be of a type
abbrev pub unless_right : List ℕ → (Data → Bool) → Option Data → List SettingsFault
unless_right key is_right None = []
unless_right key is_right (Some value) = if is_right value then [] else WrongType key ∷ []

abbrev pub wrong_at : List ℕ → (Data → Bool) → Members → List SettingsFault
wrong_at key is_right table = unless_right key is_right (get_member key table)

abbrev pub wrong_settings : Members → List SettingsFault
wrong_settings table =
    wrong_at (codes "guess") is_array table ++ (wrong_at (codes "kept_new") is_kept_number table
    ++ (wrong_at (codes "kept_old") is_kept_number table ++ (wrong_at (codes "omit_extensions") are_texts table
    ++ wrong_at (codes "omit_regexp") is_text table)))

-- a guess has both its keys, and each is a text
abbrev pub no_text_at : List ℕ → Members → List SettingsFault
no_text_at key table = if is_some (text_at key table) then [] else WrongType (in_guess key) ∷ []

abbrev pub wrong_table : Option Members → List SettingsFault
wrong_table None = WrongType (codes "guess") ∷ []
wrong_table (Some table) = no_text_at (codes "command") table ++ no_text_at (codes "regexp") table

abbrev pub wrong_in_guess : Data → List SettingsFault
wrong_in_guess guess = wrong_table (as_table guess)

abbrev pub wrong_types : Members → List SettingsFault
wrong_types table = wrong_settings table ++ flat_map wrong_in_guess (guesses_in table)

-- ---- regexps

abbrev pub fault_read : List ℕ → Result Tree RegexpFault → List SettingsFault
fault_read key (Ok tree) = []
fault_read key (Err fault) = BadRegexp key fault ∷ []

-- the fault of the text that stands at a key as a regexp
abbrev pub bad_regexp : List ℕ → List ℕ → List SettingsFault
bad_regexp key text = fault_read key (regexp_of text)

abbrev pub bad_in_guess : Data → List SettingsFault
bad_in_guess guess = bad_regexp (in_guess (codes "regexp")) (unwrap_or (text_at (codes "regexp") (guess_table guess)) [])

abbrev pub bad_omit_regexp : Option (List ℕ) → List SettingsFault
bad_omit_regexp None = []
bad_omit_regexp (Some text) = bad_regexp (codes "omit_regexp") text

abbrev pub bad_regexps : Members → List SettingsFault
bad_regexps table = bad_omit_regexp (text_at (codes "omit_regexp") table) ++ flat_map bad_in_guess (guesses_in table)

-- ---- all of them

abbrev pub faults_in : Members → List SettingsFault
faults_in table = unknown_keys table ++ (wrong_types table ++ bad_regexps table)

-- the fault that is told
abbrev pub first : List SettingsFault → Option SettingsFault
first [] = None
first (fault ∷ faults) = Some fault
