-- The commands, each as one simple command of `clap`, and what words ask for.
use Rattle.std.specs.Prelude.{ℕ, zero, suc, Bool, true, false, ◌||◌, not, List, [], ◌∷◌, Option, Some, None, Result, Ok, Err, codes, if◌then◌else◌}
use Rattle.std.specs.Str.{bytes_eq}
use Rattle.dired_text.specs.Paths.{Names}
use Rattle.dired_text.specs.Resolve.{resolved}
use Rattle.dired_text.specs.declared.resolving.NameError.{NameError}
use Rattle.dired_text.specs.declared.resolving.NameError.TheVariants as name_error
use Rattle.listing_text.specs.Numbers.{number_of}
use Rattle.listing_text.specs.declared.switches.Switches.{Switches}
use Rattle.clap.specs.Words.{App, Rule, Row, new_app, new_rule, with_rule, fault_of, matches_of, first_of, all_of}
use Rattle.clap.specs.Simple.{on_top}
use Rattle.clap.specs.declared.builder.action.ArgAction.TheVariants.{Set, Append, SetTrue}
use Rattle.command_words.specs.declared.command.Command.{Command}
use Rattle.command_words.specs.declared.command.Command.TheVariants.{Commit, Drill, List as Lists, Recover}
use Rattle.command_words.specs.declared.command.WordsFault.{WordsFault}
use Rattle.command_words.specs.declared.command.WordsFault.TheVariants.{Usage, Memory}

-- a command of this name without flags for help and version, whose words stand alone
abbrev pub plain_app : List ℕ → App
plain_app name = on_top (λ s. record s { no_binary_name = true; disable_help_flag = true; disable_version_flag = true }) (new_app name)

-- one word that has to be there
abbrev pub one_word : List ℕ → Rule
one_word id = record (new_rule id) { required = true; action = Some Set }

-- any number of words
abbrev pub more_words : List ℕ → Rule
more_words id = record (new_rule id) { action = Some Append }

-- a flag of one letter
abbrev pub flag_rule : List ℕ → ℕ → Rule
flag_rule id letter = record (new_rule id) { short = Some letter; action = Some SetTrue }

abbrev pub is_empty : {X : Type 0} → List X → Bool
is_empty [] = true
is_empty (x ∷ xs) = false

-- what the words of a command ask for, where its definition refuses none of them
unfoldable pub asked_by : App → (List Row → Result Command WordsFault) → List (List ℕ) → Result Command WordsFault
asked_by app read words = if is_empty (fault_of app words) then read (matches_of app words) else Err Usage

-- the words of an argument
abbrev pub words_or_none : Option (List (List ℕ)) → List (List ℕ)
words_or_none None = []
words_or_none (Some words) = words

abbrev pub is_true : Option (List ℕ) → Bool
is_true None = false
is_true (Some value) = bytes_eq value (codes "true")

-- whether a flag was given
abbrev pub is_set : List ℕ → List Row → Bool
is_set id rows = is_true (first_of id rows)

-- ---- paths

-- a path that was found, or a refusal of the words. Want of memory stays what it is
abbrev pub by_name : Result Names NameError → Result Names WordsFault
by_name (Ok path) = Ok path
by_name (Err name_error.Memory) = Err Memory
by_name (Err e) = Err Usage

-- the path that a word names from the root
abbrev pub path_named : List ℕ → Result Names WordsFault
path_named word = by_name (resolved [] word)

-- the directory that a word names, where `.` is the root
abbrev pub dir_named : List ℕ → Result Names WordsFault
dir_named word = if bytes_eq word (codes ".") then Ok [] else path_named word

abbrev pub in_front_of : Result Names WordsFault → Result (List Names) WordsFault → Result (List Names) WordsFault
in_front_of (Ok path) (Ok paths) = Ok (path ∷ paths)
in_front_of (Ok path) (Err e) = Err e
in_front_of (Err e) paths = Err e

-- the paths that words name, or the first refusal
abbrev pub paths_of : (List ℕ → Result Names WordsFault) → List (List ℕ) → Result (List Names) WordsFault
paths_of named [] = Ok []
paths_of named (word ∷ words) = in_front_of (named word) (paths_of named words)

-- ---- `commit [--all] BEFORE AFTER [CONFIRMED]...`

-- a flag with a name
abbrev pub named_flag : List ℕ → Rule
named_flag id = record (new_rule id) { long = Some id; action = Some SetTrue }

abbrev pub commit_app : App
commit_app =
    with_rule (with_rule (with_rule (with_rule (plain_app (codes "commit"))
    (named_flag (codes "all"))) (one_word (codes "BEFORE"))) (one_word (codes "AFTER")))
    (more_words (codes "CONFIRMED"))

abbrev pub commit_asked : Bool → Option (List ℕ) → Option (List ℕ) → Result (List Names) WordsFault → Result Command WordsFault
commit_asked all (Some before) (Some after) (Ok confirmed) = Ok (Commit all before after confirmed)
commit_asked all (Some before) (Some after) (Err e) = Err e
commit_asked all (Some before) None confirmed = Err Usage
commit_asked all None after confirmed = Err Usage

abbrev pub commit_by : List Row → Result Command WordsFault
commit_by rows =
    commit_asked (is_set (codes "all") rows) (first_of (codes "BEFORE") rows) (first_of (codes "AFTER") rows)
    (paths_of path_named (words_or_none (all_of (codes "CONFIRMED") rows)))

-- ---- `list [-A] [-l] [-t] [-S] [-r] [DIR]...`

abbrev pub list_app : App
list_app =
    with_rule (with_rule (with_rule (with_rule (with_rule (with_rule (plain_app (codes "list"))
    (flag_rule (codes "all") 65)) (flag_rule (codes "long") 108)) (flag_rule (codes "time") 116)) (flag_rule (codes "size") 83)) (flag_rule (codes "reverse") 114))
    (more_words (codes "DIR"))

-- without a flag the listing is made as with `-A` and `-l`
abbrev pub switches_by : List Row → Switches
switches_by rows = record {
  all = is_set (codes "all") rows || not (is_set (codes "long") rows || is_set (codes "time") rows || is_set (codes "size") rows || is_set (codes "reverse") rows);
  by_time = is_set (codes "time") rows;
  by_size = is_set (codes "size") rows;
  reverse = is_set (codes "reverse") rows;
}

abbrev pub list_asked : Switches → Result (List Names) WordsFault → Result Command WordsFault
list_asked switches (Ok dirs) = Ok (Lists switches dirs)
list_asked switches (Err e) = Err e

abbrev pub list_by : List Row → Result Command WordsFault
list_by rows = list_asked (switches_by rows) (paths_of dir_named (words_or_none (all_of (codes "DIR") rows)))

-- ---- `recover [--back]`

abbrev pub recover_app : App
recover_app = with_rule (plain_app (codes "recover")) (named_flag (codes "back"))

abbrev pub recover_by : List Row → Result Command WordsFault
recover_by rows = Ok (Recover (is_set (codes "back") rows))

-- ---- `drill N`

abbrev pub drill_app : App
drill_app = with_rule (plain_app (codes "drill")) (one_word (codes "N"))

-- the most directories of a drill
abbrev pub max_groups : ℕ
max_groups = 20_000

abbrev pub drill_of : Option ℕ → Result Command WordsFault
drill_of None = Err Usage
drill_of (Some zero) = Err Usage
drill_of (Some (suc n)) = Ok (Drill (suc n))

-- from 1 to 20,000 directories, in decimal without a leading zero
abbrev pub drill_asked : Option (List ℕ) → Result Command WordsFault
drill_asked None = Err Usage
drill_asked (Some number) = drill_of (number_of max_groups number)

abbrev pub drill_by : List Row → Result Command WordsFault
drill_by rows = drill_asked (first_of (codes "N") rows)

-- ---- the commands

-- what words ask for: the first is compared, and the rest are the words of that command
abbrev pub command_of : List (List ℕ) → Result Command WordsFault
command_of [] = Err Usage
command_of (command ∷ words) =
    if bytes_eq command (codes "list") then asked_by list_app list_by words
    else if bytes_eq command (codes "commit") then asked_by commit_app commit_by words
    else if bytes_eq command (codes "recover") then asked_by recover_app recover_by words
    else if bytes_eq command (codes "drill") then asked_by drill_app drill_by words
    else Err Usage
