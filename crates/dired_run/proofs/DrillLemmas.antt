-- What a run decides that is a drill.
use Rattle.std.proofs.Common.{◌≡◌, inl, inr, ℕ, List, refl, sym, ◌∙◌, ap, subst, Result, Ok, Err, IfOk, IfErr}
use Rattle.tree_core.specs.FileTree.{FileTree}
use Rattle.tree_core.specs.History.{History, current_tree, next_number}
use Rattle.command_words.specs.declared.command.Command.{Command}
use Rattle.command_words.specs.declared.command.Command.TheVariants as command
use Rattle.command_words.specs.declared.command.WordsFault.{WordsFault}
use Rattle.command_words.specs.Commands.{command_of}
use Rattle.drill_tree.specs.Drill.{IsDrillTree}
use Rattle.drill_memory.specs.Numbered.{HaveOwnNumbers}
use Rattle.drill_run.specs.declared.counts.DrillCounts.{DrillCounts}
use Rattle.drill_run.specs.Counts.{counts_of}
use Rattle.drill_run.specs.Drills.{IsDrilled}
use Rattle.dired_run.specs.declared.output.Output.{Output}
use Rattle.run_status.specs.declared.status.Status.{Status}
use Rattle.run_status.specs.declared.status.Status.TheVariants.{Done, Memory}
use Rattle.dired_run.specs.Drills.{IsCounted, IsDrillText}
use Rattle.dired_run.specs.Inputs.{Files}
use Rattle.dired_run.specs.Reports.{bytes_of_output, decided_of, output_of}
use Rattle.dired_run.specs.Runs.{Outside, Decides, IsDecided, IsSameTree, no_memory, drilled, of_command, verdict}
use Rattle.run_status.specs.Statuses.{text_of}
use Rattle.dired_run.proofs.DecidedLemmas.{memory_decided}

-- The counts of a commit are those of the edited tree.
pub counted : (groups : ℕ) (begun now : History) (before : FileTree) (counts : DrillCounts) → IsDrillTree groups (current_tree begun) → HaveOwnNumbers (current_tree begun)
    → IsDrilled groups begun now before (Ok counts) → IsCounted groups counts
counted groups begun now before counts is own done = record {
  tree = current_tree begun;
  next = next_number begun;
  is_drill = is;
  own_numbers = own;
  counted = done.1 ∙ ap (counts_of groups (current_tree begun)) done.0.1.ends.stands.0;
}

-- what ends with the line of a drill, or for want of memory
module _ (groups : ℕ) (ended : Result Output Status) (said : IfOk ended (λ output. IsDrillText groups (bytes_of_output output))) (short : IfErr ended (λ status. status ≡ Memory)) where
  pub drill_decides : (words : List (List ℕ)) (files : Files) (before : Outside) → command_of words ≡ Ok (command.Drill groups) → Decides (verdict words files (current_tree before.history)) before before (decided_of ended) (output_of ended)
  drill_decides words files before is = go ended said short
    where
      go : (r : Result Output Status) → IfOk r (λ output. IsDrillText groups (bytes_of_output output)) → IfErr r (λ status. status ≡ Memory) → Decides (verdict words files (current_tree before.history)) before before (decided_of r) (output_of r)
      go (Ok output) line none = drilled groups (ap (λ (c : Result Command WordsFault). of_command c files (current_tree before.history)) is) refl line (record { history = refl; faults = refl }) refl
      go (Err status) none full = no_memory full (ap text_of full) (record { history = refl; faults = refl })

pub drill_decided : (TreeTells InputsTell : Type 0) (before : Outside) (ended : Result Output Status) → IfErr ended (λ status. status ≡ Memory) → IsDecided TreeTells InputsTell before before (decided_of ended) (output_of ended)
drill_decided TreeTells InputsTell before (Ok output) short = record { decision = tt; said = inl refl; calls = refl; reads = refl; last_read = λ tells. tt; unchanged = tt; kept = λ tells. tt }
drill_decided TreeTells InputsTell before (Err status) short = subst (λ (s : Status). IsDecided TreeTells InputsTell before before s (text_of s)) (sym short) (memory_decided TreeTells InputsTell before)
