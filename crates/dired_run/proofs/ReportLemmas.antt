-- One piece of a text after another.
use Rattle.std.proofs.Common.{◌≡◌, inr, false, ℕ, ◌+◌, List, ◌++◌, length, take, sym, ◌∙◌, ap, subst, arith, decimal, append_assoc, length-append, Result, Ok, Err}
use Rattle.std.proofs.lemmas.List.{take-append-le}
use Rattle.std.proofs.Math.Seq.{take-append-add}
use Rattle.dired_text.specs.declared.text.Failed.{Failed}
use Rattle.dired_text.specs.Outside.{TakesPartOf, TakesAs}
use Rattle.tree_core.specs.declared.node.CallName.{CallName}
use Rattle.dired_run.specs.declared.output.Output.{Output}
use Rattle.run_status.specs.declared.status.Status.{Status}
use Rattle.run_status.specs.declared.status.Status.TheVariants.{Memory}
use Rattle.dired_run.specs.Reports.{Said, Reported, decided_of}
use Rattle.run_status.specs.Statuses.{call_failed_text, call_text, number_text, text_of, has_fixed_text}

-- some of the first piece is some of both
pub part_of_first : (p q old new : List ℕ) → TakesPartOf p old new → TakesPartOf (p ++ q) old new
part_of_first p q old new (n, short, is) = (n, omega (arith, length-append p q), is ∙ ap (λ l. old ++ l) (sym (take-append-le n p q short)))

part_of_both : (p q old mid new : List ℕ) → mid ≡ old ++ p → TakesPartOf q mid new → TakesPartOf (p ++ q) old new
part_of_both p q old mid new first (n, short, is) = (
  length p + n,
  omega (arith, length-append p q),
  is ∙ ap (λ l. l ++ take n q) first ∙ append_assoc old p (take n q) ∙ ap (λ l. old ++ l) (sym (take-append-add p q n)),
)

-- the first piece whole, and then what became of the second
pub then_second : (r : Result (Unit {0}) Failed) (p q old mid new : List ℕ) → mid ≡ old ++ p → TakesAs r q mid new → TakesAs r (p ++ q) old new
then_second (Ok v) p q old mid new first second = second ∙ ap (λ l. l ++ q) first ∙ append_assoc old p q
then_second (Err e) p q old mid new first second = part_of_both p q old mid new first second

-- what is said of a failed call
pub call_second : (call : CallName) (r : Result (Unit {0}) Failed) (said said_bytes name name_bytes behind behind_bytes old mid new : List ℕ) → said_bytes ≡ said → name_bytes ≡ name → name ≡ call_text call → behind_bytes ≡ behind
    → mid ≡ old ++ said_bytes → TakesAs r (name_bytes ++ behind_bytes) mid new → TakesAs r (call_failed_text said call behind) old new
call_second call r said said_bytes name name_bytes behind behind_bytes old mid new said_is name_is call_is behind_is mid_is second =
    let rest : name_bytes ++ behind_bytes ≡ call_text call ++ behind = ap (λ l. l ++ behind_bytes) (name_is ∙ call_is) ∙ ap (λ l. call_text call ++ l) behind_is in
    subst (λ (l : List ℕ). TakesAs r l old new) (sym (append_assoc said (call_text call) behind))
    (then_second r said (call_text call ++ behind) old mid new (mid_is ∙ ap (λ l. old ++ l) said_is) (subst (λ l. TakesAs r l mid new) rest second))

pub call_first : (call : CallName) (said said_bytes behind old new : List ℕ) → said_bytes ≡ said → TakesPartOf said_bytes old new → TakesPartOf (call_failed_text said call behind) old new
call_first call said said_bytes behind old new said_is part =
    subst (λ (l : List ℕ). TakesPartOf l old new) (sym (append_assoc said (call_text call) behind))
    (part_of_first said (call_text call ++ behind) old new (subst (λ l. TakesPartOf l old new) said_is part))

-- what is said of a number
pub number_second : (number : ℕ) (r : Result (Unit {0}) Failed) (said said_bytes digits digits_bytes behind behind_bytes old mid new : List ℕ) → said_bytes ≡ said → digits_bytes ≡ digits → digits ≡ decimal number → behind_bytes ≡ behind
    → mid ≡ old ++ said_bytes → TakesAs r (digits_bytes ++ behind_bytes) mid new → TakesAs r (number_text said number behind) old new
number_second number r said said_bytes digits digits_bytes behind behind_bytes old mid new said_is digits_is number_is behind_is mid_is second =
    let rest : digits_bytes ++ behind_bytes ≡ decimal number ++ behind = ap (λ l. l ++ behind_bytes) (digits_is ∙ number_is) ∙ ap (λ l. decimal number ++ l) behind_is in
    subst (λ (l : List ℕ). TakesAs r l old new) (sym (append_assoc said (decimal number) behind))
    (then_second r said (decimal number ++ behind) old mid new (mid_is ∙ ap (λ l. old ++ l) said_is) (subst (λ l. TakesAs r l mid new) rest second))

pub number_first : (number : ℕ) (said said_bytes behind old new : List ℕ) → said_bytes ≡ said → TakesPartOf said_bytes old new → TakesPartOf (number_text said number behind) old new
number_first number said said_bytes behind old new said_is part =
    subst (λ (l : List ℕ). TakesPartOf l old new) (sym (append_assoc said (decimal number) behind))
    (part_of_first said (decimal number ++ behind) old new (subst (λ l. TakesPartOf l old new) said_is part))

-- the text of a status, where it is known which
pub status_takes : (r : Result (Unit {0}) Failed) (status other : Status) (old new : List ℕ) → status ≡ other → TakesAs r (text_of other) old new → TakesAs r (text_of status) old new
status_takes r status other old new is takes = subst (λ (s : Status). TakesAs r (text_of s) old new) (sym is) takes

-- a text that could not be made gives way to that of `Memory`
pub short_of_memory : (Told : Type 0) (ended : Result Output Status) (status : Status) (text taken_before taken : List ℕ) (count_before count : ℕ) (result : Status)
    → ended ≡ Err status → has_fixed_text status ≡ false → text ≡ text_of Memory → Said Told Memory text taken_before taken count_before count result → Reported Told ended taken_before taken count_before count result
short_of_memory Told ended status text taken_before taken count_before count result is made text_is said =
    inr (ap (λ r. has_fixed_text (decided_of r)) is ∙ made, subst (λ t. Said Told Memory t taken_before taken count_before count result) text_is said)
