use Rattle.std.proofs.Common.{◌≡◌, [], length, sym, ◌∙◌, ap, rules}
use Rattle.std.proofs.lemmas.List.{nil_from_length}
use Rattle.commit_run.specs.declared.end.CommitEnd.TheVariants as end
use Rattle.commit_run.proofs.CommitLemmas.{ends_empty, ends_fault, kept_begun}
use Rattle.commit_run.proofs.PromiseLemmas.{begins, commits, edited_tree}
use Rattle.commit_run.proofs.committing.commit.Goals as goal

pub returns-in-Err-clause-commit : goal.returns-in-Err-clause-commit
returns-in-Err-clause-commit g c tells =
    let T = g.T.Tree in
    let checked = c.args.checked in
    let p = c.in-Ok.prepared in
    let o = T.history c.args.tree.now in
    let last = T.history c.sync.new.tree in
    let before = T.before_failed c.sync.new.tree in
    let old = c.requires.stands tells in
    let durable = c.requires.durable tells in
    let sound = g.met.T.Tree.is_sound c.args.tree.now tells in
    let fits = c.in-Ok.ensures.fits in
    let first = c.in-Err.first in
    commits checked p fits o old durable sound c.in-Ok.ensures.fresh c.in-Ok.ensures.count last before (end.TreeFault first)
    (ends_fault p c.in-Ok.ensures.prepared o (edited_tree checked p fits o old durable sound) (begins checked p fits o old durable sound) last before first (c.in-Err.ensures.ran tells))

pub returns-then-is_empty-clause-commit : goal.returns-then-is_empty-clause-commit
returns-then-is_empty-clause-commit g c tells =
    let T = g.T.Tree in
    let checked = c.args.checked in
    let p = c.in-Ok.prepared in
    let o = T.history c.args.tree.now in
    let now = T.history c.sync.new.tree in
    let after = T.before_failed c.sync.new.tree in
    let old = c.requires.stands tells in
    let durable = c.requires.durable tells in
    let sound = g.met.T.Tree.is_sound c.args.tree.now tells in
    let fits = c.in-Ok.ensures.fits in
    let same : c.as_slice.result.now ≡ p.steps = search rules in
    let zero : length c.as_slice.result.now ≡ 0 = search rules in
    let none : p.steps ≡ [] = nil_from_length p.steps (sym (ap length same) ∙ zero) in
    commits checked p fits o old durable sound c.in-Ok.ensures.fresh c.in-Ok.ensures.count now after end.Done
    (ends_empty p c.in-Ok.ensures.prepared o (edited_tree checked p fits o old durable sound) (begins checked p fits o old durable sound) now after none (c.in_default-sync.ensures.ran tells).0)

pub carry_out-requires-clause-begun : goal.carry_out-requires-clause-begun
carry_out-requires-clause-begun g c tells =
    let T = g.T.Tree in
    let checked = c.args.checked in
    let p = c.in-Ok.prepared in
    let o = T.history c.args.tree.now in
    let old = c.requires.stands tells in
    let durable = c.requires.durable tells in
    let sound = g.met.T.Tree.is_sound c.args.tree.now tells in
    let fits = c.in-Ok.ensures.fits in
    (o, edited_tree checked p fits o old durable sound, begins checked p fits o old durable sound, (c.in_default-sync.ensures.ran tells).0)

pub returns-clause-commit : goal.returns-clause-commit
returns-clause-commit g c tells =
    let T = g.T.Tree in
    let checked = c.args.checked in
    let p = c.in-Ok.prepared in
    let o = T.history c.args.tree.now in
    let now = T.history c.carry_out.new.tree in
    let after = T.before_failed c.carry_out.new.tree in
    let old = c.requires.stands tells in
    let durable = c.requires.durable tells in
    let sound = g.met.T.Tree.is_sound c.args.tree.now tells in
    let fits = c.in-Ok.ensures.fits in
    commits checked p fits o old durable sound c.in-Ok.ensures.fresh c.in-Ok.ensures.count now after c.carry_out.result
    (c.carry_out.ensures.ends tells o (edited_tree checked p fits o old durable sound) (begins checked p fits o old durable sound) (c.in_default-sync.ensures.ran tells).0)

pub returns-clause-kept : goal.returns-clause-kept
returns-clause-kept g c =
    let T = g.T.Tree in
    kept_begun (T.changes c.args.tree.now) (T.changes c.carry_out.new.tree) c.carry_out.result c.carry_out.ensures.begun
