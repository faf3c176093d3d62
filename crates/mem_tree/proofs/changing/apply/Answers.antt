use Rattle.std.proofs.Common.{inl, inr, sym, ◌∙◌, ap, subst, pos, is_some}
use Rattle.std.specs.FinMap.{get, insert, remove}
use Rattle.dired_text.specs.Paths.{Names}
use Rattle.tree_core.specs.declared.node.Node.TheVariants.{Dir, Link, File}
use Rattle.tree_core.specs.declared.node.Change.{Change}
use Rattle.tree_core.specs.FileTree.{IsFile, CanDo, done, insert_same, set_mode_of}
use Rattle.mem_tree.specs.Slots.{tree_in, times_in, timed}
use Rattle.mem_tree.specs.Times.{times_after}
use Rattle.mem_tree.proofs.Answering.{on_ok}
use Rattle.mem_tree.proofs.Keeping.{keep_as, fresh, absent_at, no_file, no_body, file_at, same_as_old}
use Rattle.mem_tree.proofs.changing.apply.Goals as goal

pub make-requires-clause-absent : goal.make-requires-clause-absent
make-requires-clause-absent c = absent_at c.args.slots.now c.args.files.now c.names.result.now c.in-MakeDir.path c.names.ensures.names (subst (λ (ch : Change). CanDo ch (tree_in c.args.slots.now c.args.files.now)) c.in-MakeDir.is c.requires.can).0

pub make-requires-in-MakeLink-clause-absent : goal.make-requires-in-MakeLink-clause-absent
make-requires-in-MakeLink-clause-absent c = absent_at c.args.slots.now c.args.files.now c.names-in-MakeLink.result.now c.in-MakeLink.path c.names-in-MakeLink.ensures.names (subst (λ (ch : Change). CanDo ch (tree_in c.args.slots.now c.args.files.now)) c.in-MakeLink.is c.requires.can).0

pub make_hard-requires-clause-absent : goal.make_hard-requires-clause-absent
make_hard-requires-clause-absent c = absent_at c.args.slots.now c.args.files.now c.names-in-Some.result.now c.in-MakeHard.path c.names-in-Some.ensures.names (subst (λ (ch : Change). CanDo ch (tree_in c.args.slots.now c.args.files.now)) c.in-MakeHard.is c.requires.can).0

pub make_hard-requires-clause-known : goal.make_hard-requires-clause-known
make_hard-requires-clause-known c = ap is_some (file_at c.args.slots.now c.args.files.now c.names-in-MakeHard.result.now c.in-Some.number c.requires.counted (sym c.in-Some.ensures)).known

pub write_file-requires-clause-absent : goal.write_file-requires-clause-absent
write_file-requires-clause-absent c = absent_at c.args.slots.now c.args.files.now c.names-in-WriteFile.result.now c.in-WriteFile.path c.names-in-WriteFile.ensures.names (subst (λ (ch : Change). CanDo ch (tree_in c.args.slots.now c.args.files.now)) c.in-WriteFile.is c.requires.can).0

pub write_file-requires-clause-new : goal.write_file-requires-clause-new
write_file-requires-clause-new c = no_body c.args.slots.now c.args.files.now c.args.next c.requires.counted c.requires.new

pub returns-in-MakeDir-clause-ok : goal.returns-in-MakeDir-clause-ok
returns-in-MakeDir-clause-ok c =
    let t = tree_in c.args.slots.now c.args.files.now in
    let w = times_in c.args.slots.now in
    on_ok c.make.result (keep_as c.make.new.slots c.args.files.now _ (done c.args.change.now c.args.next t) _ (times_after c.args.change.now w)
    (ap (λ (p : Names). insert t p (Dir c.in-MakeDir.mode)) c.names.ensures.names ∙ sym (ap (λ (ch : Change). done ch c.args.next t) c.in-MakeDir.is))
    (fresh c.args.slots.now c.names.result.now (absent_at c.args.slots.now c.args.files.now c.names.result.now c.in-MakeDir.path c.names.ensures.names (subst (λ (ch : Change). CanDo ch t) c.in-MakeDir.is c.requires.can).0)
    ∙ sym (ap (λ (ch : Change). times_after ch w) c.in-MakeDir.is))) c.make.ensures.ok

pub returns-in_ok-copy-in-MakeLink-clause-ok : goal.returns-in_ok-copy-in-MakeLink-clause-ok
returns-in_ok-copy-in-MakeLink-clause-ok c =
    let t = tree_in c.args.slots.now c.args.files.now in
    let w = times_in c.args.slots.now in
    on_ok c.make-in-MakeLink.result (keep_as c.make-in-MakeLink.new.slots c.args.files.now _ (done c.args.change.now c.args.next t) _ (times_after c.args.change.now w)
    ((λ i. insert t (c.names-in-MakeLink.ensures.names i) (Link (c.in_ok-copy-in-MakeLink.ensures i))) ∙ sym (ap (λ (ch : Change). done ch c.args.next t) c.in-MakeLink.is))
    (fresh c.args.slots.now c.names-in-MakeLink.result.now (absent_at c.args.slots.now c.args.files.now c.names-in-MakeLink.result.now c.in-MakeLink.path c.names-in-MakeLink.ensures.names (subst (λ (ch : Change). CanDo ch t) c.in-MakeLink.is c.requires.can).0)
    ∙ sym (ap (λ (ch : Change). times_after ch w) c.in-MakeLink.is))) c.make-in-MakeLink.ensures.ok

pub returns-in-Some-clause-ok : goal.returns-in-Some-clause-ok
returns-in-Some-clause-ok c =
    let t = tree_in c.args.slots.now c.args.files.now in
    let w = times_in c.args.slots.now in
    on_ok c.make_hard.result (keep_as c.make_hard.new.slots c.make_hard.new.files _ (done c.args.change.now c.args.next t) _ (times_after c.args.change.now w)
    (same_as_old c.args.slots.now c.args.files.now c.names-in-Some.result.now c.names-in-MakeHard.result.now c.in-Some.number c.requires.counted (sym c.in-Some.ensures)
    ∙ (λ i. insert_same (get t (c.names-in-MakeHard.ensures.names i)) t (c.names-in-Some.ensures.names i)) ∙ sym (ap (λ (ch : Change). done ch c.args.next t) c.in-MakeHard.is))
    (fresh c.args.slots.now c.names-in-Some.result.now (absent_at c.args.slots.now c.args.files.now c.names-in-Some.result.now c.in-MakeHard.path c.names-in-Some.ensures.names (subst (λ (ch : Change). CanDo ch t) c.in-MakeHard.is c.requires.can).0)
    ∙ sym (ap (λ (ch : Change). times_after ch w) c.in-MakeHard.is))) c.make_hard.ensures.ok

pub returns-in-None-clause-ok : goal.returns-in-None-clause-ok
returns-in-None-clause-ok c =
    let t = tree_in c.args.slots.now c.args.files.now in
    absurd (no_file c.args.slots.now c.args.files.now c.names-in-MakeHard.result.now
    (subst (λ (p : Names). IsFile t p) (sym c.names-in-MakeHard.ensures.names) (subst (λ (ch : Change). CanDo ch t) c.in-MakeHard.is c.requires.can).1) (sym c.in-None.ensures))

pub returns-in_ok-copy-in-WriteFile-clause-ok : goal.returns-in_ok-copy-in-WriteFile-clause-ok
returns-in_ok-copy-in-WriteFile-clause-ok c =
    let t = tree_in c.args.slots.now c.args.files.now in
    let w = times_in c.args.slots.now in
    on_ok c.write_file.result (keep_as c.write_file.new.slots c.write_file.new.files _ (done c.args.change.now c.args.next t) _ (times_after c.args.change.now w)
    ((λ i. insert t (c.names-in-WriteFile.ensures.names i) (File c.args.next (c.in_ok-copy-in-WriteFile.ensures i) c.in-WriteFile.mode)) ∙ sym (ap (λ (ch : Change). done ch c.args.next t) c.in-WriteFile.is))
    (fresh c.args.slots.now c.names-in-WriteFile.result.now (absent_at c.args.slots.now c.args.files.now c.names-in-WriteFile.result.now c.in-WriteFile.path c.names-in-WriteFile.ensures.names (subst (λ (ch : Change). CanDo ch t) c.in-WriteFile.is c.requires.can).0)
    ∙ sym (ap (λ (ch : Change). times_after ch w) c.in-WriteFile.is))) c.write_file.ensures.ok

pub returns-in-SetMode-clause-ok : goal.returns-in-SetMode-clause-ok
returns-in-SetMode-clause-ok c =
    let t = tree_in c.args.slots.now c.args.files.now in
    keep_as c.set_mode.new.slots c.set_mode.new.files _ (done c.args.change.now c.args.next t) _ (times_after c.args.change.now (times_in c.args.slots.now))
    (ap (λ (p : Names). set_mode_of (get t p) t p c.in-SetMode.mode) c.names-in-SetMode.ensures.names ∙ sym (ap (λ (ch : Change). done ch c.args.next t) c.in-SetMode.is))
    (sym (ap (λ (ch : Change). times_after ch (times_in c.args.slots.now)) c.in-SetMode.is)) c.set_mode.ensures

pub returns-in-Remove-clause-ok : goal.returns-in-Remove-clause-ok
returns-in-Remove-clause-ok c =
    let t = tree_in c.args.slots.now c.args.files.now in
    let w = times_in c.args.slots.now in
    elim c.in-Remove.is [
      | inl is ↦ keep_as c.remove.new.slots c.remove.new.files _ (done c.args.change.now c.args.next t) _ (times_after c.args.change.now w)
          (ap (remove t) c.names-in-Remove.ensures.names ∙ sym (ap (λ (ch : Change). done ch c.args.next t) is))
          (ap (λ (p : Names). timed p (pos 0) w) c.names-in-Remove.ensures.names ∙ sym (ap (λ (ch : Change). times_after ch w) is)) c.remove.ensures
      | inr is ↦ keep_as c.remove.new.slots c.remove.new.files _ (done c.args.change.now c.args.next t) _ (times_after c.args.change.now w)
          (ap (remove t) c.names-in-Remove.ensures.names ∙ sym (ap (λ (ch : Change). done ch c.args.next t) is))
          (ap (λ (p : Names). timed p (pos 0) w) c.names-in-Remove.ensures.names ∙ sym (ap (λ (ch : Change). times_after ch w) is)) c.remove.ensures
    ]
