use Rattle.std.proofs.Common.{ℕ, List, refl, ap, sym, ◌∙◌}
use Rattle.subdir_list.specs.Listings.{first_other}
use Rattle.tree_core.specs.History.{current_tree}
use Rattle.dired_run.specs.Runs.{look_failed, listed, refused}
use Rattle.dired_run.specs.Verdicts.{Refuses, on_dirs}
use Rattle.run_status.specs.declared.status.Status.TheVariants.{Missing}
use Rattle.dired_run.proofs.ListLemmas.{dirs_look, failed_faults, failed_look, other_faults, other_named}
use Rattle.dired_run.proofs.listing.list.Goals as goal

pub returns-in-Ok-clause-decides : goal.returns-in-Ok-clause-decides
returns-in-Ok-clause-decides g c tells reads reads_now last last_now same =
    listed c.args.switches.now c.args.dirs.now (ap (on_dirs c.args.switches.now c.args.dirs.now) (c.in-Ok.ensures.all tells)) refl (c.in-Ok.ensures.listing tells)
    (record { history = (c.list_dirs.ensures.looked tells).history; faults = c.in-Ok.ensures.faults }) same

pub returns-in-Ok-text-clause-decides : goal.returns-in-Ok-text-clause-decides
returns-in-Ok-text-clause-decides g c tells reads reads_now last last_now same =
    refused (ap (on_dirs c.args.switches.now c.args.dirs.now) (other_named _ _ _ c.in-Err-NotDirectory.field-0-is (c.in-Err-NotDirectory.ensures.refused tells)) ∙ ap (λ (name : List ℕ). Refuses (Missing name)) (sym c.in-Ok-text.ensures)) refl
    (record { history = (c.list_dirs.ensures.looked tells).history; faults = other_faults _ _ _ _ c.in-Err-NotDirectory.field-0-is c.in-Err-NotDirectory.ensures.faults }) same

pub returns-in-Err-TreeFault-clause-decides : goal.returns-in-Err-TreeFault-clause-decides
returns-in-Err-TreeFault-clause-decides g c tells reads reads_now last last_now same =
    look_failed _ (dirs_look c.args.switches.now c.args.dirs.now (first_other (current_tree (g.T.Tree.history c.args.tree.now)) c.args.dirs.now) _) refl refl (c.list_dirs.ensures.looked tells).history
    (failed_look _ _ _ _ _ _ _ _ c.in-Err-TreeFault.field-0-is (c.in-Err-TreeFault.ensures.looked tells)) (failed_faults _ _ _ _ c.in-Err-TreeFault.field-0-is c.in-Err-TreeFault.ensures.faults) same
