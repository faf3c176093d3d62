-- The marks that paths have, at most one each (GNU Emacs Manual, "Dired Marks vs. Flags").
use Rattle.std.specs.Prelude.{ℕ, ◌==◌, ◌≤◌, Bool, ◌&&◌, nat_le, List, [], ◌∷◌, Option, Some, None, if◌then◌else◌}
use Rattle.std.specs.FinMap.{FinMap, get, insert, remove, keys}
use Rattle.std.specs.List.{list_any}
use Rattle.std.specs.Option.{option_eq}
use Rattle.std.specs.Ordering.{eq_by_cmp}
use Rattle.dired_text.specs.Paths.{Names, path_cmp}

abbrev pub PathMarks : Type 0
PathMarks = FinMap path_cmp ℕ

-- a mark is a byte of printed ASCII
abbrev pub is_mark : ℕ → Bool
is_mark b = nat_le 33 b && nat_le b 126

abbrev pub IsMark : ℕ → Type 0
IsMark b = (33 ≤ b) × (b ≤ 126)

abbrev pub is_among : Names → List Names → Bool
is_among p ps = list_any (eq_by_cmp path_cmp p) ps

-- whether p has this mark, or none where that is asked for
abbrev pub has_mark : PathMarks → Option ℕ → Names → Bool
has_mark m mark p = option_eq (λ a b. a == b) (get m p) mark

-- with this mark at p, or none
abbrev pub marked : PathMarks → Names → Option ℕ → PathMarks
marked m p None = remove m p
marked m p (Some b) = insert m p b

-- each of these paths has what the rule says of it, and every other path what it has in m
abbrev pub with_each : (Names → Option ℕ) → List Names → PathMarks → PathMarks
with_each rule [] m = m
with_each rule (p ∷ ps) m = with_each rule ps (marked m p (rule p))

-- the marks of these paths, changed
abbrev pub changed : (Option ℕ → Option ℕ) → List Names → PathMarks → PathMarks
changed change ps m = with_each (λ p. change (get m p)) ps m

-- the mark that `m` gives, `*`
abbrev pub star : ℕ
star = 42

-- `*` and no mark change places
abbrev pub flipped : Option ℕ → Option ℕ
flipped None = Some star
flipped (Some b) = if b == star then None else Some b

abbrev pub toggled : List Names → PathMarks → PathMarks
toggled shown m = changed flipped shown m

-- any mark but this one
abbrev pub other_than : ℕ → Option ℕ → Option ℕ
other_than mark None = None
other_than mark (Some b) = if b == mark then None else Some b

abbrev pub cleared : ℕ → PathMarks → PathMarks
cleared mark m = changed (other_than mark) (keys m) m

-- new in the place of old
abbrev pub with_new : ℕ → ℕ → Option ℕ → Option ℕ
with_new old new None = None
with_new old new (Some b) = Some (if b == old then new else b)

abbrev pub replaced : ℕ → ℕ → PathMarks → PathMarks
replaced old new m = changed (with_new old new) (keys m) m
