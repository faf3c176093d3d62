use Rattle.commit_states.proofs.ReadLemmas.{early_suffice, sealed_suffice, undone_suffice, held_suffice, fresh_suffice}
use Rattle.commit_states.proofs.FreshLemmas.{fresh_entries}
use Rattle.commit_states.proofs.ReadNameLemmas.{names_read, others_read}
use Rattle.commit_states.proofs.laws.names_suffice.Goals as goal

pub returns-clause-early : goal.returns-clause-early
returns-clause-early c = early_suffice

pub returns-clause-sealed : goal.returns-clause-sealed
returns-clause-sealed c = sealed_suffice

pub returns-clause-undone : goal.returns-clause-undone
returns-clause-undone c = undone_suffice

pub returns-clause-held : goal.returns-clause-held
returns-clause-held c = held_suffice

pub returns-clause-fresh : goal.returns-clause-fresh
returns-clause-fresh c = fresh_suffice

pub returns-clause-start : goal.returns-clause-start
returns-clause-start c = fresh_entries

pub returns-clause-all : goal.returns-clause-all
returns-clause-all c = names_read

pub returns-clause-others : goal.returns-clause-others
returns-clause-others c = others_read
