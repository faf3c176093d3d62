use Rattle.tree_core.specs.History.{current_tree}
use Rattle.commit_states.proofs.EarlyLemmas.{early_once}
use Rattle.commit_states.proofs.LawLemmas.{names_staging}
use Rattle.commit_states.proofs.ReadLemmas.{early_no_dir}
use Rattle.commit_states.proofs.StageLemmas.{no_journal_yet}
use Rattle.commit_states.proofs.laws.failed_stagings_tell_names.Goals as goal

pub returns-clause-names : goal.returns-clause-names
returns-clause-names c = names_staging

pub returns-clause-once : goal.returns-clause-once
returns-clause-once c = early_once

pub returns-clause-kinds : goal.returns-clause-kinds
returns-clause-kinds c = early_no_dir

pub returns-clause-no_journal : goal.returns-clause-no_journal
returns-clause-no_journal c = λ kind steps old new fresh target began now stop. no_journal_yet target (current_tree now) stop.sound.tree stop.reads
