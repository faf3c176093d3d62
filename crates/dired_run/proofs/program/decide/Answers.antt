use Rattle.std.proofs.Common.{map, refl, string_bytes, ◌∙◌}
use Rattle.command_words.proofs.DrillLemmas.{few_groups}
use Rattle.dired_run.specs.Runs.{no_memory, outside}
use Rattle.dired_run.proofs.DecidedLemmas.{memory_decided, tree_decided, usage_decided}
use Rattle.dired_run.proofs.DrillLemmas.{drill_decided, drill_decides}
use Rattle.dired_run.proofs.InputLemmas.{buffers_decide, is_command, list_decides, recovery_decides, usage_decides}
use Rattle.dired_run.proofs.program.decide.Goals as goal

pub returns-in-Ok-List-clause-decides : goal.returns-in-Ok-List-clause-decides
returns-in-Ok-List-clause-decides g c tells also =
    let before = outside (g.T.Tree.history c.args.tree.now) (g.T.Tree.fields c.args.tree.now) (g.T.Tree.faults c.args.tree.now) (g.T.Tree.changes c.args.tree.now) (g.T.Tree.before_failed c.args.tree.now) (g.H.Shelf.faults c.args.shelf.now) (g.H.Shelf.last_failed c.args.shelf.now) in
    let now = outside (g.T.Tree.history c.list.new.tree) (g.T.Tree.fields c.list.new.tree) (g.T.Tree.faults c.list.new.tree) (g.T.Tree.changes c.list.new.tree) (g.T.Tree.before_failed c.list.new.tree) (g.H.Shelf.faults c.args.shelf.now) (g.H.Shelf.last_failed c.args.shelf.now) in
    list_decides (map string_bytes c.args.words.now) (g.H.Shelf.files c.args.shelf.now) before now c.in-Ok-List.switches c.in-Ok-List.dirs c.as_slice.result.now _ _ (is_command (map string_bytes c.args.words.now) c.read_words.result _ _ c.read_words.ensures c.in-Ok-List.is c.in-Ok-List.field-0-is) c.as_slice.ensures
    (c.list.ensures.decides tells (g.H.Shelf.faults c.args.shelf.now) (g.H.Shelf.faults c.args.shelf.now) (g.H.Shelf.last_failed c.args.shelf.now) (g.H.Shelf.last_failed c.args.shelf.now) refl)

pub returns-in-Ok-List-clause-decided : goal.returns-in-Ok-List-clause-decided
returns-in-Ok-List-clause-decided g c =
    let before = outside (g.T.Tree.history c.args.tree.now) (g.T.Tree.fields c.args.tree.now) (g.T.Tree.faults c.args.tree.now) (g.T.Tree.changes c.args.tree.now) (g.T.Tree.before_failed c.args.tree.now) (g.H.Shelf.faults c.args.shelf.now) (g.H.Shelf.last_failed c.args.shelf.now) in
    let now = outside (g.T.Tree.history c.list.new.tree) (g.T.Tree.fields c.list.new.tree) (g.T.Tree.faults c.list.new.tree) (g.T.Tree.changes c.list.new.tree) (g.T.Tree.before_failed c.list.new.tree) (g.H.Shelf.faults c.args.shelf.now) (g.H.Shelf.last_failed c.args.shelf.now) in
    tree_decided g.T.Tree.Tells g.H.Shelf.Tells _ before now c.list.result c.list.ensures.end c.list.ensures.calls c.list.ensures.kept refl
    (λ tells. c.list.ensures.decides tells (g.H.Shelf.faults c.args.shelf.now) (g.H.Shelf.faults c.args.shelf.now) (g.H.Shelf.last_failed c.args.shelf.now) (g.H.Shelf.last_failed c.args.shelf.now) refl)

pub returns-in-Ok-Commit-clause-decides : goal.returns-in-Ok-Commit-clause-decides
returns-in-Ok-Commit-clause-decides g c tells also =
    let before = outside (g.T.Tree.history c.args.tree.now) (g.T.Tree.fields c.args.tree.now) (g.T.Tree.faults c.args.tree.now) (g.T.Tree.changes c.args.tree.now) (g.T.Tree.before_failed c.args.tree.now) (g.H.Shelf.faults c.args.shelf.now) (g.H.Shelf.last_failed c.args.shelf.now) in
    let now = outside (g.T.Tree.history c.commit_buffers.new.tree) (g.T.Tree.fields c.commit_buffers.new.tree) (g.T.Tree.faults c.commit_buffers.new.tree) (g.T.Tree.changes c.commit_buffers.new.tree) (g.T.Tree.before_failed c.commit_buffers.new.tree) (g.H.Shelf.faults c.commit_buffers.new.shelf) (g.H.Shelf.last_failed c.commit_buffers.new.shelf) in
    buffers_decide (map string_bytes c.args.words.now) (g.H.Shelf.files c.args.shelf.now) before now c.in-Ok-Commit.all c.in-Ok-Commit.before c.in-Ok-Commit.after c.in-Ok-Commit.confirmed _ _ _
    (is_command (map string_bytes c.args.words.now) c.read_words.result _ _ c.read_words.ensures c.in-Ok-Commit.is c.in-Ok-Commit.field-0-is) (c.from_vec.ensures ∙ c.into_vec.ensures) (c.commit_buffers.ensures.decides tells also)

pub returns-in-Ok-Recover-clause-decides : goal.returns-in-Ok-Recover-clause-decides
returns-in-Ok-Recover-clause-decides g c tells also =
    let before = outside (g.T.Tree.history c.args.tree.now) (g.T.Tree.fields c.args.tree.now) (g.T.Tree.faults c.args.tree.now) (g.T.Tree.changes c.args.tree.now) (g.T.Tree.before_failed c.args.tree.now) (g.H.Shelf.faults c.args.shelf.now) (g.H.Shelf.last_failed c.args.shelf.now) in
    let now = outside (g.T.Tree.history c.recover_tree.new.tree) (g.T.Tree.fields c.recover_tree.new.tree) (g.T.Tree.faults c.recover_tree.new.tree) (g.T.Tree.changes c.recover_tree.new.tree) (g.T.Tree.before_failed c.recover_tree.new.tree) (g.H.Shelf.faults c.args.shelf.now) (g.H.Shelf.last_failed c.args.shelf.now) in
    recovery_decides (map string_bytes c.args.words.now) (g.H.Shelf.files c.args.shelf.now) before now c.in-Ok-Recover.back _ _ (is_command (map string_bytes c.args.words.now) c.read_words.result _ _ c.read_words.ensures c.in-Ok-Recover.is c.in-Ok-Recover.field-0-is)
    (c.recover_tree.ensures.decides tells (g.H.Shelf.faults c.args.shelf.now) (g.H.Shelf.faults c.args.shelf.now) (g.H.Shelf.last_failed c.args.shelf.now) (g.H.Shelf.last_failed c.args.shelf.now) refl)

pub returns-in-Ok-Recover-clause-decided : goal.returns-in-Ok-Recover-clause-decided
returns-in-Ok-Recover-clause-decided g c =
    let before = outside (g.T.Tree.history c.args.tree.now) (g.T.Tree.fields c.args.tree.now) (g.T.Tree.faults c.args.tree.now) (g.T.Tree.changes c.args.tree.now) (g.T.Tree.before_failed c.args.tree.now) (g.H.Shelf.faults c.args.shelf.now) (g.H.Shelf.last_failed c.args.shelf.now) in
    let now = outside (g.T.Tree.history c.recover_tree.new.tree) (g.T.Tree.fields c.recover_tree.new.tree) (g.T.Tree.faults c.recover_tree.new.tree) (g.T.Tree.changes c.recover_tree.new.tree) (g.T.Tree.before_failed c.recover_tree.new.tree) (g.H.Shelf.faults c.args.shelf.now) (g.H.Shelf.last_failed c.args.shelf.now) in
    tree_decided g.T.Tree.Tells g.H.Shelf.Tells _ before now c.recover_tree.result c.recover_tree.ensures.end c.recover_tree.ensures.calls c.recover_tree.ensures.kept refl
    (λ tells. c.recover_tree.ensures.decides tells (g.H.Shelf.faults c.args.shelf.now) (g.H.Shelf.faults c.args.shelf.now) (g.H.Shelf.last_failed c.args.shelf.now) (g.H.Shelf.last_failed c.args.shelf.now) refl)

pub drill-requires-clause-some : goal.drill-requires-clause-some
drill-requires-clause-some g c = (few_groups (map string_bytes c.args.words.now) c.in-Ok-Drill.groups (is_command (map string_bytes c.args.words.now) c.read_words.result _ _ c.read_words.ensures c.in-Ok-Drill.is c.in-Ok-Drill.field-0-is)).0

pub drill-requires-clause-few : goal.drill-requires-clause-few
drill-requires-clause-few g c = (few_groups (map string_bytes c.args.words.now) c.in-Ok-Drill.groups (is_command (map string_bytes c.args.words.now) c.read_words.result _ _ c.read_words.ensures c.in-Ok-Drill.is c.in-Ok-Drill.field-0-is)).1

pub returns-in-Ok-Drill-clause-decides : goal.returns-in-Ok-Drill-clause-decides
returns-in-Ok-Drill-clause-decides g c tells also =
    let before = outside (g.T.Tree.history c.args.tree.now) (g.T.Tree.fields c.args.tree.now) (g.T.Tree.faults c.args.tree.now) (g.T.Tree.changes c.args.tree.now) (g.T.Tree.before_failed c.args.tree.now) (g.H.Shelf.faults c.args.shelf.now) (g.H.Shelf.last_failed c.args.shelf.now) in
    drill_decides c.in-Ok-Drill.groups c.drill.result c.drill.ensures.line c.drill.ensures.end (map string_bytes c.args.words.now) (g.H.Shelf.files c.args.shelf.now) before (is_command (map string_bytes c.args.words.now) c.read_words.result _ _ c.read_words.ensures c.in-Ok-Drill.is c.in-Ok-Drill.field-0-is)

pub returns-in-Ok-Drill-clause-decided : goal.returns-in-Ok-Drill-clause-decided
returns-in-Ok-Drill-clause-decided g c =
    let before = outside (g.T.Tree.history c.args.tree.now) (g.T.Tree.fields c.args.tree.now) (g.T.Tree.faults c.args.tree.now) (g.T.Tree.changes c.args.tree.now) (g.T.Tree.before_failed c.args.tree.now) (g.H.Shelf.faults c.args.shelf.now) (g.H.Shelf.last_failed c.args.shelf.now) in
    drill_decided g.T.Tree.Tells g.H.Shelf.Tells before c.drill.result c.drill.ensures.end

pub returns-in-Err-Usage-clause-decides : goal.returns-in-Err-Usage-clause-decides
returns-in-Err-Usage-clause-decides g c tells also =
    let before = outside (g.T.Tree.history c.args.tree.now) (g.T.Tree.fields c.args.tree.now) (g.T.Tree.faults c.args.tree.now) (g.T.Tree.changes c.args.tree.now) (g.T.Tree.before_failed c.args.tree.now) (g.H.Shelf.faults c.args.shelf.now) (g.H.Shelf.last_failed c.args.shelf.now) in
    usage_decides (map string_bytes c.args.words.now) (g.H.Shelf.files c.args.shelf.now) before before c.read_words.result _ c.read_words.ensures c.in-Err-Usage.is c.in-Err-Usage.field-0-is (record { history = refl; faults = refl }) refl

pub returns-in-Err-Usage-clause-decided : goal.returns-in-Err-Usage-clause-decided
returns-in-Err-Usage-clause-decided g c =
    let before = outside (g.T.Tree.history c.args.tree.now) (g.T.Tree.fields c.args.tree.now) (g.T.Tree.faults c.args.tree.now) (g.T.Tree.changes c.args.tree.now) (g.T.Tree.before_failed c.args.tree.now) (g.H.Shelf.faults c.args.shelf.now) (g.H.Shelf.last_failed c.args.shelf.now) in
    usage_decided g.T.Tree.Tells g.H.Shelf.Tells before

pub returns-in-Err-Memory-clause-decides : goal.returns-in-Err-Memory-clause-decides
returns-in-Err-Memory-clause-decides g c tells also = no_memory refl refl (record { history = refl; faults = refl })

pub returns-in-Err-Memory-clause-decided : goal.returns-in-Err-Memory-clause-decided
returns-in-Err-Memory-clause-decided g c =
    let before = outside (g.T.Tree.history c.args.tree.now) (g.T.Tree.fields c.args.tree.now) (g.T.Tree.faults c.args.tree.now) (g.T.Tree.changes c.args.tree.now) (g.T.Tree.before_failed c.args.tree.now) (g.H.Shelf.faults c.args.shelf.now) (g.H.Shelf.last_failed c.args.shelf.now) in
    memory_decided g.T.Tree.Tells g.H.Shelf.Tells before
