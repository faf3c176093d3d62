-- The sets of a regexp (GNU Emacs Manual, "Syntax of Regular Expressions").
use Rattle.std.specs.Prelude.{ℕ, zero, suc, ◌+◌, ◌==◌, Bool, false, ◌&&◌, not, nat_lt, List, [], ◌∷◌, Option, Some, None, Result, Ok, Err, if◌then◌else◌}
use Rattle.emacs_regexp.specs.declared.fault.RegexpFault.{RegexpFault}
use Rattle.emacs_regexp.specs.declared.fault.RegexpFault.TheVariants.{Unclosed, BadClass, NotInProfile}
use Rattle.emacs_regexp.specs.declared.token.Member.{Member}
use Rattle.emacs_regexp.specs.declared.token.Member.TheVariants.{One, Range}
use Rattle.emacs_regexp.specs.Intervals.{is_next}

-- a member and how many characters it takes
abbrev pub range_of : ℕ → ℕ → ℕ → List ℕ → Result (Option (Member × ℕ)) RegexpFault
range_of at from to rest =
    if nat_lt to from then Err (BadClass at)
    else if to == 91 && is_next 58 rest then Err (NotInProfile (at + 2))
    else Ok (Some (Range from to, 3))

-- a character is a member by itself, or a range with the `-` behind it and a character that isn't the `]`
abbrev pub one_or_range : ℕ → ℕ → List ℕ → Result (Option (Member × ℕ)) RegexpFault
one_or_range at c [] = Ok (Some (One c, 1))
one_or_range at c (_ ∷ []) = Ok (Some (One c, 1))
one_or_range at c (dash ∷ to ∷ rest) =
    if dash == 45 && not (to == 93) then range_of at c to rest else Ok (Some (One c, 1))

-- the member that begins with a character, or None at the `]` that closes the set. A `]` that comes first is a member.
abbrev pub member_of : Bool → ℕ → ℕ → List ℕ → Result (Option (Member × ℕ)) RegexpFault
member_of is_first at c rest =
    if c == 93 && not is_first then Ok None
    else if c == 91 && is_next 58 rest then Err (NotInProfile at)
    else one_or_range at c rest

-- a member that takes so many characters, in front of the others
abbrev pub with_member : Member → ℕ → Result (List Member × ℕ) RegexpFault → Result (List Member × ℕ) RegexpFault
with_member member taken (Ok (members, more)) = Ok (member ∷ members, taken + more)
with_member member taken (Err fault) = Err fault

-- the member that was read and what follows it: the function is given how many further characters belong to the member
abbrev pub then_member : Result (Option (Member × ℕ)) RegexpFault → (ℕ → Result (List Member × ℕ) RegexpFault) → Result (List Member × ℕ) RegexpFault
then_member (Err fault) later = Err fault
then_member (Ok None) later = Ok ([], 1)
then_member (Ok (Some (member, zero))) later = with_member member 0 (later 0)
then_member (Ok (Some (member, suc more))) later = with_member member (suc more) (later more)

-- the members of the set that was opened at a place, up to its `]`, and how many characters they and it take. So many
-- characters still belong to the member before.
abbrev pub members_from : ℕ → Bool → ℕ → ℕ → List ℕ → Result (List Member × ℕ) RegexpFault
members_from opened is_first at more [] = Err (Unclosed opened)
members_from opened is_first at (suc more) (c ∷ cs) = members_from opened is_first (at + 1) more cs
members_from opened is_first at zero (c ∷ cs) =
    then_member (member_of is_first at c cs) (λ more. members_from opened false (at + 1) more cs)
