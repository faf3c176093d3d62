-- From what was read to what a run decides.
use Rattle.std.proofs.Common.{◌≡◌, inl, inr, ℕ, Bool, List, refl, sym, ◌∙◌, ap, subst, Some, Result, Ok, Err}
use Rattle.dired_text.specs.Answers.{IsOrMemory}
use Rattle.dired_text.specs.Counts.{raised}
use Rattle.dired_text.specs.Paths.{Names}
use Rattle.tree_core.specs.History.{current_tree}
use Rattle.command_words.specs.declared.command.Command.{Command}
use Rattle.command_words.specs.declared.command.Command.TheVariants as command
use Rattle.command_words.specs.declared.command.WordsFault.{WordsFault}
use Rattle.command_words.specs.declared.command.WordsFault.TheVariants as words_fault
use Rattle.command_words.specs.Commands.{command_of}
use Rattle.listing_text.specs.declared.switches.Switches.{Switches}
use Rattle.subdir_list.specs.Listings.{first_other}
use Rattle.dired_run.specs.declared.requests.Request.{Request}
use Rattle.run_status.specs.declared.status.Status.{Status}
use Rattle.run_status.specs.declared.status.Status.TheVariants.{Done, Usage, Memory, ReadFault, TreeFault, WriteFault, Missing, BadBuffer, Faulty, Unconfirmed, Stale, Pending, RolledBack, Unfinished, Unclean, BadJournal, Foreign, BadScript, TooLarge, Strange}
use Rattle.dired_run.specs.Inputs.{Files}
use Rattle.dired_run.specs.Requests.{request_of}
use Rattle.dired_run.specs.Runs.{Outside, Decides, IsSameTree, no_memory, read_failed, refused, of_command, of_request, verdict}
use Rattle.run_status.specs.Statuses.{ByCause, IsRefusal, text_of}
use Rattle.dired_run.specs.Verdicts.{Recovers, on_dirs, on_tree}

-- ---- the words

pub is_command : (words : List (List ℕ)) (r : Result Command WordsFault) (f c : Command) → IsOrMemory words_fault.Memory (command_of words) r → r ≡ Ok f → f ≡ c → command_of words ≡ Ok c
is_command words r f c (inl full) is field = let wrong : Err words_fault.Memory ≡ Ok f = sym full ∙ is in cc
is_command words r f c (inr wanted) is field = let whole : command_of words ≡ Ok f = sym wanted ∙ is in cc

pub usage_decides : (words : List (List ℕ)) (files : Files) (before now : Outside) (r : Result Command WordsFault) (f : WordsFault) → IsOrMemory words_fault.Memory (command_of words) r → r ≡ Err f → f ≡ words_fault.Usage → IsSameTree before now → now.read_faults ≡ before.read_faults
    → Decides (verdict words files (current_tree before.history)) before now Usage (text_of Usage)
usage_decides words files before now r f (inl full) is field same reads = absurd (let wrong : Err words_fault.Memory ≡ Err f = sym full ∙ is in cc)
usage_decides words files before now r f (inr wanted) is field same reads =
    let whole : command_of words ≡ Err f = sym wanted ∙ is in
    let asked : command_of words ≡ Err words_fault.Usage = cc in
    refused (ap (λ (c : Result Command WordsFault). of_command c files (current_tree before.history)) asked) refl same reads

pub list_decides : (words : List (List ℕ)) (files : Files) (before now : Outside) (switches : Switches) (dirs shown : List Names) (decided : Status) (text : List ℕ) → command_of words ≡ Ok (command.List switches dirs) → shown ≡ dirs
    → Decides (on_dirs switches shown (first_other (current_tree before.history) shown)) before now decided text → Decides (verdict words files (current_tree before.history)) before now decided text
list_decides words files before now switches dirs shown decided text is same decides =
    subst (λ c. Decides (of_command c files (current_tree before.history)) before now decided text) (sym is)
    (subst (λ (ds : List Names). Decides (on_dirs switches ds (first_other (current_tree before.history) ds)) before now decided text) same decides)

pub buffers_decide : (words : List (List ℕ)) (files : Files) (before now : Outside) (all : Bool) (b a : List ℕ) (confirmed paths : List Names) (decided : Status) (text : List ℕ) → command_of words ≡ Ok (command.Commit all b a confirmed) → paths ≡ confirmed
    → Decides (of_request (request_of files b a (record { all = all; paths = paths })) (current_tree before.history)) before now decided text
    → Decides (verdict words files (current_tree before.history)) before now decided text
buffers_decide words files before now all b a confirmed paths decided text is paths_is decides =
    subst (λ c. Decides (of_command c files (current_tree before.history)) before now decided text) (sym is)
    (subst (λ ps. Decides (of_request (request_of files b a (record { all = all; paths = ps })) (current_tree before.history)) before now decided text) paths_is decides)

pub recovery_decides : (words : List (List ℕ)) (files : Files) (before now : Outside) (back : Bool) (decided : Status) (text : List ℕ) → command_of words ≡ Ok (command.Recover back)
    → Decides (Recovers back) before now decided text → Decides (verdict words files (current_tree before.history)) before now decided text
recovery_decides words files before now back decided text is decides = subst (λ c. Decides (of_command c files (current_tree before.history)) before now decided text) (sym is) decides

-- ---- the inputs

pub request_decides : (asked : Result Request Status) (before now : Outside) (request : Request) (decided : Status) (text : List ℕ) → asked ≡ Ok request
    → Decides (on_tree request (current_tree before.history)) before now decided text → Decides (of_request asked (current_tree before.history)) before now decided text
request_decides asked before now request decided text is decides = subst (λ r. Decides (of_request r (current_tree before.history)) before now decided text) (sym is) decides

-- how many reads failed behind a refusal of inputs
abbrev pub InputsCount : Status → ℕ → ℕ → Type 0
InputsCount status old new = ByCause status (new ≡ old) (λ _. ⊥) (λ failed. new ≡ raised old) (new ≡ old)

pub inputs_decide : (asked : Result Request Status) (before now : Outside) (status : Status) → IsRefusal status → IsSameTree before now
    → ByCause status (Unit {0}) (λ _. ⊥) (λ failed. now.last_read ≡ Some failed) (asked ≡ Err status) → InputsCount status before.read_faults now.read_faults
    → Decides (of_request asked (current_tree before.history)) before now status (text_of status)
inputs_decide asked before now Done no_way same cause count = absurd no_way
inputs_decide asked before now Usage is same cause count = refused (ap (λ r. of_request r (current_tree before.history)) cause) refl same count
inputs_decide asked before now Memory is same cause count = no_memory refl refl same
inputs_decide asked before now (ReadFault name) is same cause count = read_failed name refl refl same count cause
inputs_decide asked before now (TreeFault first) is same no_way count = absurd no_way
inputs_decide asked before now (WriteFault held) no_way same cause count = absurd no_way
inputs_decide asked before now (Missing name) is same cause count = refused (ap (λ r. of_request r (current_tree before.history)) cause) refl same count
inputs_decide asked before now (BadBuffer name line why) is same cause count = refused (ap (λ r. of_request r (current_tree before.history)) cause) refl same count
inputs_decide asked before now (Faulty line why) is same cause count = refused (ap (λ r. of_request r (current_tree before.history)) cause) refl same count
inputs_decide asked before now (Unconfirmed line path) is same cause count = refused (ap (λ r. of_request r (current_tree before.history)) cause) refl same count
inputs_decide asked before now (Stale line) is same cause count = refused (ap (λ r. of_request r (current_tree before.history)) cause) refl same count
inputs_decide asked before now Pending is same cause count = refused (ap (λ r. of_request r (current_tree before.history)) cause) refl same count
inputs_decide asked before now (RolledBack first) is same no_way count = absurd no_way
inputs_decide asked before now (Unfinished first second) is same no_way count = absurd no_way
inputs_decide asked before now (Unclean first) is same no_way count = absurd no_way
inputs_decide asked before now (BadJournal offset) is same cause count = refused (ap (λ r. of_request r (current_tree before.history)) cause) refl same count
inputs_decide asked before now (Foreign name) is same cause count = refused (ap (λ r. of_request r (current_tree before.history)) cause) refl same count
inputs_decide asked before now (BadScript line why) is same cause count = refused (ap (λ r. of_request r (current_tree before.history)) cause) refl same count
inputs_decide asked before now (TooLarge what number) is same cause count = refused (ap (λ r. of_request r (current_tree before.history)) cause) refl same count
inputs_decide asked before now (Strange step) is same cause count = refused (ap (λ r. of_request r (current_tree before.history)) cause) refl same count
