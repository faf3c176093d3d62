-- Reading the members of a set, one after another.
use Rattle.std.proofs.Common.{◌≡◌, ◌≤◌, ◌<◌, ℕ, zero, suc, ◌+◌, Bool, false, List, [], ◌∷◌, ◌++◌, length, drop, refl, ap, ◌∙◌, arith, append_assoc, Result, Ok, Err, Some}
use Rattle.emacs_regexp.specs.declared.fault.RegexpFault.{RegexpFault}
use Rattle.emacs_regexp.specs.declared.token.Member.{Member}
use Rattle.emacs_regexp.specs.Sets.{members_from, member_of, with_member, then_member}

-- these members, of so many characters, in front of others
abbrev pub in_front : List Member → ℕ → Result (List Member × ℕ) RegexpFault → Result (List Member × ℕ) RegexpFault
in_front front taken (Ok (members, more)) = Ok (front ++ members, taken + more)
in_front front taken (Err fault) = Err fault

pub in_front-none : (read : Result (List Member × ℕ) RegexpFault) → in_front [] 0 read ≡ read
in_front-none (Ok (members, more)) = ap (λ n. Ok (members, n)) (omega arith)
in_front-none (Err fault) = refl

pub in_front-member : (front : List Member) (taken : ℕ) (member : Member) (more : ℕ) (read : Result (List Member × ℕ) RegexpFault) →
    in_front front taken (with_member member more read) ≡ in_front (front ++ member ∷ []) (taken + more) read
in_front-member front taken member more (Ok (members, last)) =
    let count : taken + (more + last) ≡ (taken + more) + last = omega arith in
    let list : front ++ member ∷ members ≡ (front ++ member ∷ []) ++ members = simp append_assoc in
    ap (λ n. Ok (front ++ member ∷ members, n)) count ∙ ap (λ l. Ok (l, (taken + more) + last)) list
in_front-member front taken member more (Err fault) = refl

-- the characters that belong to the member before are passed over
pub members-past : (opened : ℕ) (is_first : Bool) (at more : ℕ) (cs : List ℕ) → more ≤ length cs →
    members_from opened is_first at more cs ≡ members_from opened is_first (at + more) 0 (drop more cs)
members-past opened is_first at zero cs h = ap (λ n. members_from opened is_first n 0 cs) (omega arith)
members-past opened is_first at (suc more) [] h = absurd (omega arith)
members-past opened is_first at (suc more) (c ∷ cs) h =
    members-past opened is_first (at + 1) more cs (omega arith)
    ∙ ap (λ n. members_from opened is_first n 0 (drop more cs)) (omega arith)

-- one member more
pub members-next : (opened : ℕ) (is_first : Bool) (at c : ℕ) (cs : List ℕ) (member : Member) (taken : ℕ) →
    member_of is_first at c cs ≡ Ok (Some (member, taken)) → 0 < taken → taken ≤ length cs + 1 →
    members_from opened is_first at 0 (c ∷ cs) ≡ with_member member taken (members_from opened false (at + taken) 0 (drop taken (c ∷ cs)))
members-next opened is_first at c cs member zero e some within = absurd (omega arith)
members-next opened is_first at c cs member (suc more) e some within =
    ap (λ r. then_member r (λ more. members_from opened false (at + 1) more cs)) e
    ∙ ap (with_member member (suc more))
    (members-past opened false (at + 1) more cs (omega arith)
    ∙ ap (λ n. members_from opened false n 0 (drop more cs)) (omega arith))

-- the same behind other members
pub front-next : (opened : ℕ) (is_first : Bool) (at c : ℕ) (cs text : List ℕ) (front : List Member) (before : ℕ) (member : Member) (taken : ℕ) →
    text ≡ c ∷ cs → member_of is_first at c cs ≡ Ok (Some (member, taken)) → 0 < taken → taken ≤ length cs + 1 →
    in_front front before (members_from opened is_first at 0 text)
    ≡ in_front (front ++ member ∷ []) (before + taken) (members_from opened false (at + taken) 0 (drop taken text))
front-next opened is_first at c cs text front before member taken is e some within =
    rw is (
    ap (in_front front before) (members-next opened is_first at c cs member taken e some within)
    ∙ in_front-member front before member taken (members_from opened false (at + taken) 0 (drop taken (c ∷ cs)))
    )
