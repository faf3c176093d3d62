-- What a parse gives, by the definition of a command, and directories one by one.
use Rattle.std.proofs.Common.{◌≡◌, ◌≢◌, ℕ, true, false, List, [], ◌∷◌, ◌++◌, Result, Ok, Err, refl, append_assoc, sym, ap, option_map}
use Rattle.std.proofs.lemmas.Bool.{and_parts}
use Rattle.dired_text.specs.Paths.{Names}
use Rattle.clap.specs.Words.{App, Row, Kinds, fault_of, matches_of, first_of, all_of, rows_of, first_value, raw_values, matched_of, is_simple, is_simple_and_free}
use Rattle.clap.proofs.WalkLemmas.{first_value-rows, raw_values-rows}
use Rattle.clap.specs.declared.parser.matches.Found.{Found}
use Rattle.command_words.specs.declared.command.Command.{Command}
use Rattle.command_words.specs.declared.command.WordsFault.{WordsFault}
use Rattle.command_words.specs.declared.command.WordsFault.TheVariants.{Usage}
use Rattle.command_words.specs.Commands.{is_empty, asked_by, paths_of, in_front_of}

pub first_by_rows : (f : Found) (id : List ℕ) → first_value f id ≡ first_of id (rows_of f)
first_by_rows f id = first_value-rows f id

pub all_by_rows : (f : Found) (id : List ℕ) → option_map raw_values (matched_of f id) ≡ all_of id (rows_of f)
all_by_rows f id = raw_values-rows f id

-- the words are taken, and these are their rows
pub asked_taken : (app a : App) (read : List Row → Result Command WordsFault) (words : List (List ℕ)) (rows : List Row) → app ≡ a → fault_of app words ≡ [] → rows ≡ matches_of app words → asked_by a read words ≡ read rows
unfolding asked_by
asked_taken app a read words rows same none are = rw (← same, none, are) refl

some_faults : (kinds : Kinds) → kinds ≢ [] → is_empty kinds ≡ false
some_faults [] some = absurd (some refl)
some_faults (k ∷ ks) some = refl

-- the words are refused
pub asked_refused : (app a : App) (read : List Row → Result Command WordsFault) (words : List (List ℕ)) → app ≡ a → fault_of app words ≢ [] → asked_by a read words ≡ Err Usage
unfolding asked_by
asked_refused app a read words same some = rw (← same, some_faults (fault_of app words) some) refl

-- these in front of the later ones
abbrev pub with_paths : List Names → Result (List Names) WordsFault → Result (List Names) WordsFault
with_paths paths (Ok later) = Ok (paths ++ later)
with_paths paths (Err e) = Err e

-- a command that is simple and free is simple
pub simple : (a : App) → is_simple_and_free a ≡ true → is_simple a ≡ true
simple a both = (and_parts (is_simple a) _ both).0

-- one more path
pub paths-more : (named : List ℕ → Result Names WordsFault) (paths : List Names) (word : List ℕ) (path : Names) (words : List (List ℕ)) → named word ≡ Ok path → with_paths paths (paths_of named (word ∷ words)) ≡ with_paths (paths ++ path ∷ []) (paths_of named words)
paths-more named paths word path words e = rw e (go (paths_of named words))
  where
    go : (later : Result (List Names) WordsFault) → with_paths paths (in_front_of (Ok path) later) ≡ with_paths (paths ++ path ∷ []) later
    go (Ok later) = ap Ok (sym (append_assoc paths (path ∷ []) later))
    go (Err e) = refl

-- a word that names no path
pub paths-refused : (named : List ℕ → Result Names WordsFault) (paths : List Names) (word : List ℕ) (fault : WordsFault) (words : List (List ℕ)) → named word ≡ Err fault → with_paths paths (paths_of named (word ∷ words)) ≡ Err fault
paths-refused named paths word fault words e = rw e refl
