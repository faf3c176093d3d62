-- What is put aside, with its kinds, as the victims come with their lines.
use Rattle.std.proofs.Common.{◌≡◌, ℕ, ◌+◌, Bool, false, List, [], ◌∷◌, ◌++◌, length, refl, sym, ◌∙◌, ap, arith, append_assoc, length-append}
use Rattle.std.specs.List.{cons_option, filter_map, flat_map}
use Rattle.dired_text.specs.Paths.{Names}
use Rattle.commit_plan.specs.Holding.{victims_past}
use Rattle.commit_plan.proofs.FirstLemmas.{rise_tail, rises}
use Rattle.commit_plan.proofs.HoldLemmas.{first_other, one_held}
use Rattle.commit_run.specs.HeldFrom.{given_by, kinds_from}
use Rattle.commit_states.specs.declared.held.Held.{Held}
use Rattle.edit_rules.specs.Plans.{victim_line, victims_of}
use Rattle.edit_words.specs.declared.row.Row.{Row}
use Rattle.edit_words.specs.Refusals.{victim_of}
use Rattle.edit_words.specs.Sight.{Sight}
use Rattle.edit_words.specs.WellFormed.{LinesRise}
use Rattle.plan_fits.specs.HeldKinds.{held_kinds, kinds_by, numbered, with_kind}
use Rattle.plan_moves.specs.Plan.{listed}

all_kinds : (sight : Sight) (all rs : List Row) → LinesRise rs → kinds_from (filter_map (victim_line sight all) rs) rs ≡ flat_map (kinds_by sight all) rs
all_kinds sight all [] h = refl
all_kinds sight all (r ∷ rs) h =
    let vs = filter_map (victim_line sight all) rs in
    let one = one_held r (victim_of sight all r) vs (first_other sight all r.line rs (rises r rs h)) in
    ap (λ (l : List Names). (with_kind false l ++ given_by r) ++ kinds_from (victims_past r.line (cons_option (victim_line sight all r) vs)) rs) one.0
    ∙ (ap (λ (l : List (ℕ × Names)). (with_kind false (listed (victim_of sight all r)) ++ given_by r) ++ kinds_from l rs) one.1
    ∙ ap (λ (l : List (Names × Bool)). (with_kind false (listed (victim_of sight all r)) ++ given_by r) ++ l) (all_kinds sight all rs (rise_tail r rs h)))

-- what is put aside by the victims that a check found
pub kinds_are : (sight : Sight) (rs : List Row) → LinesRise rs → kinds_from (victims_of sight rs) rs ≡ held_kinds sight rs
kinds_are sight rs h = all_kinds sight rs rs h

-- ---- numbers

pub numbered-append : (n : ℕ) (xs ys : List (Names × Bool)) → numbered n (xs ++ ys) ≡ numbered n xs ++ numbered (n + length xs) ys
numbered-append n [] ys = ap (λ (k : ℕ). numbered k ys) (omega arith)
numbered-append n (x ∷ xs) ys =
    ap (λ (l : List Held). record { number = n; is_dir = x.1 } ∷ l)
    (numbered-append (n + 1) xs ys ∙ ap (λ (k : ℕ). numbered (n + 1) xs ++ numbered k ys) (let l : length (x ∷ xs) ≡ length xs + 1 = omega arith in omega arith))

pub length-numbered : (n : ℕ) (xs : List (Names × Bool)) → length (numbered n xs) ≡ length xs
length-numbered n [] = refl
length-numbered n (x ∷ xs) = let e = length-numbered (n + 1) xs in omega arith

-- one row more
pub next_row : (held after_victim after_both : List Held) (v g more : List (Names × Bool)) → after_victim ≡ held ++ numbered (length held) v → after_both ≡ after_victim ++ numbered (length after_victim) g
    → after_both ++ numbered (length after_both) more ≡ held ++ numbered (length held) ((v ++ g) ++ more)
next_row held after_victim after_both v g more first second =
    let n_v = length-numbered (length held) v in
    let n_g = length-numbered (length after_victim) g in
    let one : length after_victim ≡ length held + length v = ap length first ∙ (let l = length-append held (numbered (length held) v) in omega arith) in
    let two : length after_both ≡ length held + length (v ++ g) =
    ap length second ∙ (let l = length-append after_victim (numbered (length after_victim) g) in let k = length-append v g in omega arith) in
    let both : after_both ≡ held ++ numbered (length held) (v ++ g) =
    second
    ∙ ap (λ (n : ℕ). after_victim ++ numbered n g) one
    ∙ ap (λ (l : List Held). l ++ numbered (length held + length v) g) first
    ∙ append_assoc held (numbered (length held) v) (numbered (length held + length v) g)
    ∙ ap (λ (l : List Held). held ++ l) (sym (numbered-append (length held) v g)) in
    ap (λ (n : ℕ). after_both ++ numbered n more) two
    ∙ ap (λ (l : List Held). l ++ numbered (length held + length (v ++ g)) more) both
    ∙ append_assoc held (numbered (length held) (v ++ g)) (numbered (length held + length (v ++ g)) more)
    ∙ ap (λ (l : List Held). held ++ l) (sym (numbered-append (length held) (v ++ g) more))
