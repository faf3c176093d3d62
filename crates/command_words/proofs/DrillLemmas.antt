-- How many directories a drill has.
use Rattle.std.proofs.Common.{◌≡◌, ℕ, zero, suc, ◌≤◌, Bool, true, false, ◌&&◌, nat_le, List, [], ◌∷◌, Option, Some, None, Result, Ok, Err, refl, subst, arith, codes, if◌then◌else◌}
use Rattle.std.specs.Str.{bytes_eq}
use Rattle.std.specs.Str.Parse.{digits_value}
use Rattle.std.proofs.lemmas.Bool.{leb-true}
use Rattle.dired_text.specs.Paths.{Names}
use Rattle.clap.specs.Words.{App, Row, fault_of, matches_of, first_of}
use Rattle.listing_text.specs.declared.switches.Switches.{Switches}
use Rattle.listing_text.specs.Numbers.{is_decimal, number_of}
use Rattle.command_words.specs.declared.command.Command.{Command}
use Rattle.command_words.specs.declared.command.Command.TheVariants.{Drill}
use Rattle.command_words.specs.declared.command.WordsFault.{WordsFault}
use Rattle.command_words.specs.declared.command.WordsFault.TheVariants.{Usage}
use Rattle.command_words.specs.Commands.{asked_by, command_of, commit_app, commit_asked, commit_by, drill_app, drill_asked, drill_by, drill_of, is_empty, list_app, list_asked, list_by, max_groups, recover_app, recover_by}

-- words that are taken have rows of which the command is read
taken_rows : (app : App) (read : List Row → Result Command WordsFault) (words : List (List ℕ)) (c : Command) → asked_by app read words ≡ Ok c → (rows : List Row) × (read rows ≡ Ok c)
unfolding asked_by
taken_rows app read words c is = go (is_empty (fault_of app words)) is
  where
    go : (b : Bool) → (if b then read (matches_of app words) else Err Usage) ≡ Ok c → (rows : List Row) × (read rows ≡ Ok c)
    go true is = (matches_of app words, is)
    go false is = cc

at_most : (most : ℕ) (text : List ℕ) (n : ℕ) → number_of most text ≡ Some n → n ≤ most
unfolding number_of
at_most most text n is = go (is_decimal text) (nat_le (digits_value 10 text) most) refl is
  where
    go : (a b : Bool) → nat_le (digits_value 10 text) most ≡ b → (if a && b then Some (digits_value 10 text) else None) ≡ Some n → n ≤ most
    go true true small is = subst (λ k. k ≤ most) (let same : digits_value 10 text ≡ n = cc in same) (leb-true (digits_value 10 text) most small)
    go true false small is = cc
    go false b small is = cc

abbrev AreFew : ℕ → Type 0
AreFew groups = (1 ≤ groups) × (groups ≤ max_groups)

few_of : (found : Option ℕ) (groups : ℕ) → ((n : ℕ) → found ≡ Some n → n ≤ max_groups) → drill_of found ≡ Ok (Drill groups) → AreFew groups
few_of None groups bound is = cc
few_of (Some zero) groups bound is = cc
few_of (Some (suc n)) groups bound is = subst AreFew (let same : suc n ≡ groups = cc in same) (omega arith, bound (suc n) refl)

few_asked : (word : Option (List ℕ)) (groups : ℕ) → drill_asked word ≡ Ok (Drill groups) → AreFew groups
few_asked None groups is = cc
few_asked (Some word) groups is = few_of (number_of max_groups word) groups (at_most max_groups word) is

no_list : (switches : Switches) (dirs : Result (List Names) WordsFault) (groups : ℕ) → list_asked switches dirs ≡ Ok (Drill groups) → ⊥
no_list switches (Ok dirs) groups is = cc
no_list switches (Err e) groups is = cc

no_commit : (all : Bool) (before after : Option (List ℕ)) (confirmed : Result (List Names) WordsFault) (groups : ℕ) → commit_asked all before after confirmed ≡ Ok (Drill groups) → ⊥
no_commit all (Some before) (Some after) (Ok confirmed) groups is = cc
no_commit all (Some before) (Some after) (Err e) groups is = cc
no_commit all (Some before) None confirmed groups is = cc
no_commit all None after confirmed groups is = cc

-- A drill that is asked for has from 1 to 20,000 directories.
pub few_groups : (words : List (List ℕ)) (groups : ℕ) → command_of words ≡ Ok (Drill groups) → (1 ≤ groups) × (groups ≤ max_groups)
few_groups [] groups is = cc
few_groups (command ∷ words) groups is = go (bytes_eq command (codes "list")) (bytes_eq command (codes "commit")) (bytes_eq command (codes "recover")) (bytes_eq command (codes "drill")) is
  where
    go : (a b c d : Bool)
        → (if a then asked_by list_app list_by words
        else if b then asked_by commit_app commit_by words
        else if c then asked_by recover_app recover_by words
        else if d then asked_by drill_app drill_by words
        else Err Usage) ≡ Ok (Drill groups)
        → AreFew groups
    go true b c d is = absurd (no_list _ _ groups (taken_rows list_app list_by words (Drill groups) is).1)
    go false true c d is = absurd (no_commit _ _ _ _ groups (taken_rows commit_app commit_by words (Drill groups) is).1)
    go false false true d is = let read = (taken_rows recover_app recover_by words (Drill groups) is).1 in cc
    go false false false true is =
        let taken = taken_rows drill_app drill_by words (Drill groups) is in
        few_asked (first_of (codes "N") taken.0) groups taken.1
    go false false false false is = cc
