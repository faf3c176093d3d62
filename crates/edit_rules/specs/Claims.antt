-- Claims of lines, as they come.
use Rattle.std.specs.Prelude.{ℕ, ◌==◌, Bool, ◌||◌, List, [], ◌∷◌, Option, Some, None, if◌then◌else◌, is_some, min}
use Rattle.std.specs.Option.{option_map}
use Rattle.edit_words.specs.declared.row.Row.{Row}
use Rattle.edit_rules.specs.declared.claims.Claim.{Claim}

-- with the claim of a later line
abbrev pub claimed_by : ℕ → ℕ → Option Claim → Claim
claimed_by value line None = record { line = line; value = value; other = None }
claimed_by value line (Some c) = if c.value == value || is_some c.other then c else record { line = c.line; value = c.value; other = Some line }

abbrev pub first_line : Option Claim → Option ℕ
first_line claim = option_map (λ (c : Claim). c.line) claim

-- the first line that claims it with another value
abbrev pub other_line : Option Claim → ℕ → Option ℕ
other_line None value = None
other_line (Some c) value = if c.value == value then c.other else Some c.line

-- the claims of the rows that make one, each with its value, behind an earlier claim
abbrev pub claims_behind : (Row → Bool) → (Row → ℕ) → Option Claim → List Row → Option Claim
claims_behind claims value claim [] = claim
claims_behind claims value claim (r ∷ rs) = claims_behind claims value (if claims r then Some (claimed_by (value r) r.line claim) else claim) rs

abbrev pub lesser : Option ℕ → Option ℕ → Option ℕ
lesser None b = b
lesser (Some a) None = Some a
lesser (Some a) (Some b) = Some (min a b)

-- the least of this line and of those that others have
abbrev pub least_line : {A : Type 0} → (A → Option ℕ) → Option ℕ → List A → Option ℕ
least_line line so_far [] = so_far
least_line line so_far (x ∷ xs) = least_line line (lesser so_far (line x)) xs

-- the line that names another mode for a file, where there is a file and a mode
abbrev pub other_mode_line : (ℕ → Option Claim) → Option ℕ → Option ℕ → Option ℕ
other_mode_line claims None mode = None
other_mode_line claims (Some number) None = None
other_mode_line claims (Some number) (Some mode) = other_line (claims number) mode
