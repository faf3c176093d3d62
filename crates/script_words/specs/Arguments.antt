-- The arguments of commands, each by the number of its line and its text.
use Rattle.std.specs.Prelude.{◌≡◌, ◌⊎◌, ℕ, ◌+◌, ◌-◌, ◌*◌, ◌^◌, min, List, [], ◌∷◌, Option, Some, None, Result, Ok, Err, codes, if◌then◌else◌}
use Rattle.std.specs.Str.{bytes_eq}
use Rattle.dired_text.specs.Paths.{Names}
use Rattle.dired_text.specs.Escape.{unescaped, is_octal_digit}
use Rattle.dired_text.specs.Resolve.{resolved}
use Rattle.emacs_regexp.specs.Reading.{regexp_of}
use Rattle.emacs_regexp.specs.Trees.{Tree, group_count}
use Rattle.find_words.specs.declared.fault.FindFault.{FindFault}
use Rattle.find_words.specs.Expressions.{Expression}
use Rattle.listing_text.specs.Reading.{◌>>=◌}
use Rattle.listing_text.specs.Switches.{switches_of}
use Rattle.listing_text.specs.declared.switches.Switches.{Switches}
use Rattle.mark_table.specs.PathMarks.{is_mark}
use Rattle.rename_regexp.specs.Templates.{template_of}
use Rattle.rename_regexp.specs.declared.template.Piece.{Piece}
use Rattle.script_words.specs.Predicates.{Says}
use Rattle.script_words.specs.declared.fault.CommandFault.{CommandFault}
use Rattle.script_words.specs.declared.fault.CommandFault.TheVariants.{Bad, Memory}
use Rattle.script_words.specs.declared.fault.ScriptCause.{ScriptCause}
use Rattle.script_words.specs.declared.fault.ScriptCause.TheVariants.{BadArgument, BadRegexp, BadTo, BadFind}

-- an argument is read by the number of its line and its text
abbrev pub Reads : Type 0 → Type 0
Reads A = ℕ → List ℕ → Result A CommandFault

-- what was read at a line, or a cause for a refusal
abbrev pub or_cause : {A E : Type 0} → ℕ → (E → ScriptCause) → Result A E → Result A CommandFault
or_cause line cause (Ok a) = Ok a
or_cause line cause (Err e) = Err (Bad line (cause e))

abbrev pub or_bad : {A : Type 0} → ℕ → Option A → Result A CommandFault
or_bad line None = Err (Bad line BadArgument)
or_bad line (Some a) = Ok a

-- the text that an escaped one stands for
abbrev pub plain_text : Reads (List ℕ)
plain_text line text = or_cause line (λ e. BadArgument) (unescaped text)

-- a path from the root
abbrev pub path : Reads Names
path line text = plain_text line text >>= λ plain. or_cause line (λ e. BadArgument) (resolved [] plain)

-- `.` alone is the root
abbrev pub directory : Reads Names
directory line text = if bytes_eq text (codes ".") then Ok [] else path line text

-- one character that may be a mark
abbrev pub mark : Reads ℕ
mark line [] = Err (Bad line BadArgument)
mark line (b ∷ []) = if is_mark b then Ok b else Err (Bad line BadArgument)
mark line (b ∷ c ∷ text) = Err (Bad line BadArgument)

-- a text that isn't empty
abbrev pub ending : Reads (List ℕ)
ending line [] = Err (Bad line BadArgument)
ending line (b ∷ text) = Ok (b ∷ text)

-- an octal digit
unfoldable pub digit_of : ℕ → Option ℕ
digit_of c = if is_octal_digit c then Some (c - 48) else None

abbrev pub four_digits : Option ℕ → Option ℕ → Option ℕ → Option ℕ → Option ℕ
four_digits None b c d = None
four_digits (Some a) None c d = None
four_digits (Some a) (Some b) None d = None
four_digits (Some a) (Some b) (Some c) None = None
four_digits (Some a) (Some b) (Some c) (Some d) = Some (512 * a + 64 * b + 8 * c + d)

-- 1 to 4 octal digits; those that are left out in front are 0
abbrev pub octal_of : List ℕ → Option ℕ
octal_of [] = None
octal_of (d ∷ []) = four_digits (Some 0) (Some 0) (Some 0) (digit_of d)
octal_of (c ∷ d ∷ []) = four_digits (Some 0) (Some 0) (digit_of c) (digit_of d)
octal_of (b ∷ c ∷ d ∷ []) = four_digits (Some 0) (digit_of b) (digit_of c) (digit_of d)
octal_of (a ∷ b ∷ c ∷ d ∷ []) = four_digits (digit_of a) (digit_of b) (digit_of c) (digit_of d)
octal_of (a ∷ b ∷ c ∷ d ∷ e ∷ text) = None

abbrev pub mode : Reads ℕ
mode line text = or_bad line (octal_of text)

abbrev pub switches : Reads Switches
switches line text = or_bad line (switches_of text)

abbrev pub regexp : Reads Tree
regexp line text = or_cause line BadRegexp (regexp_of text)

-- how many groups a regexp has, as a number of 32 bits
abbrev pub groups_of : Tree → ℕ
groups_of tree = min (group_count tree) (2 ^ 32 - 1)

-- behind a regexp with so many groups
abbrev pub template : ℕ → Reads (List Piece)
template groups line text = or_cause line BadTo (template_of groups text)

-- where the text says this as a predicate
abbrev pub predicate : Result Expression FindFault → Reads Expression
predicate said line text = or_cause line BadFind said

-- want of memory, or exactly what the text says
abbrev pub IsPredicate : ℕ → List ℕ → Result Expression CommandFault → Type 0
IsPredicate line text result =
    (result ≡ Err Memory) ⊎ ((said : Result Expression FindFault) × Says text said × (result ≡ predicate said line text))

abbrev pub any : Reads (List ℕ)
any line text = Ok text
