-- What settings hold.
use Rattle.std.specs.Prelude.{ℕ, List, [], map, codes, Option, None, option_map, option_and_then, Result, Ok, Err}
use Rattle.std.specs.List.{filter_map}
use Rattle.std.specs.Option.{unwrap_or}
use Rattle.toml.specs.Data.{Data, Members, get_member, as_str, as_array}
use Rattle.emacs_regexp.specs.Reading.{regexp_of}
use Rattle.emacs_regexp.specs.Trees.{Tree, Empty}
use Rattle.emacs_regexp.specs.declared.fault.RegexpFault.{RegexpFault}
use Rattle.omit_rules.specs.declared.settings.Guess.{Guess}
use Rattle.omit_rules.specs.declared.settings.Settings.{Settings}
use Rattle.omit_rules.specs.Tables.{items_of, guesses_in, guess_table, text_at, number_of}

pub record Values : Type 0 where
  pub omit_regexp : Option Tree
  pub omit_extensions : List (List ℕ)
  pub kept_old : ℕ
  pub kept_new : ℕ
  pub guesses : List Guess

abbrev pub values_of : Settings → Values
values_of settings = record {
  omit_regexp = settings.omit_regexp;
  omit_extensions = settings.omit_extensions.items;
  kept_old = settings.kept_old;
  kept_new = settings.kept_new;
  guesses = settings.guesses.items;
}

-- the values of absent keys
abbrev pub no_values : Values
no_values = record { omit_regexp = None; omit_extensions = []; kept_old = 2; kept_new = 2; guesses = [] }

-- the regexp that was read, where one was
abbrev pub regexp_read : Result Tree RegexpFault → Tree
regexp_read (Ok tree) = tree
regexp_read (Err fault) = Empty

-- the regexp that a text writes, where it writes one
abbrev pub regexp_in : List ℕ → Tree
regexp_in text = regexp_read (regexp_of text)

abbrev pub texts_at : List ℕ → Members → List (List ℕ)
texts_at key table = filter_map as_str (items_of (option_and_then as_array (get_member key table)))

-- a number of versions that are kept, 2 where none is given
abbrev pub kept_at : List ℕ → Members → ℕ
kept_at key table = unwrap_or (option_and_then number_of (get_member key table)) 2

abbrev pub guess_of : Data → Guess
guess_of guess = record {
  regexp = regexp_in (unwrap_or (text_at (codes "regexp") (guess_table guess)) []);
  command = unwrap_or (text_at (codes "command") (guess_table guess)) [];
}

-- the values that a table gives, where it has no fault
abbrev pub values_in : Members → Values
values_in table = record {
  omit_regexp = option_map regexp_in (text_at (codes "omit_regexp") table);
  omit_extensions = texts_at (codes "omit_extensions") table;
  kept_old = kept_at (codes "kept_old") table;
  kept_new = kept_at (codes "kept_new") table;
  guesses = map guess_of (guesses_in table);
}
