use Rattle.std.proofs.Common.{◌≡◌, sym, ◌∙◌, subst}
use Rattle.tree_core.specs.FileTree.{IsFile}
use Rattle.tree_core.specs.History.{History, current_tree}
use Rattle.tree_core.specs.declared.changes.Changes.{Changes}
use Rattle.edit_check.specs.StandFor.{StandsFor}
use Rattle.edit_words.specs.WellFormed.{LinksHaveFiles}
use Rattle.commit_cases.proofs.checking.check_asked.Goals as goal

abbrev HaveFiles : Changes → History → Type 0
HaveFiles changes h = LinksHaveFiles (IsFile (current_tree h)) changes

pub check-requires-clause-asked : goal.check-requires-clause-asked
check-requires-clause-asked g c = c.in_ok-are_asked.ensures c.if-not-are_asked.false

pub check-requires-clause-files : goal.check-requires-clause-files
check-requires-clause-files g c tells =
    subst (HaveFiles c.args.changes) (sym (c.in_ok-have_files.ensures.looked tells)) (c.in_ok-have_files.ensures.files tells c.if-not-have_files.false)

pub returns-in-Ok : goal.returns-in-Ok
returns-in-Ok g c tells =
    let T = g.T.Tree in
    let checked = c.in-Ok.checked in
    let behind = T.history c.check.new.tree in
    let looked : behind ≡ T.history c.links_have_files.new.tree = (c.check.ensures.looked tells).history in
    let files = subst (HaveFiles c.args.changes) (sym (looked ∙ c.in_ok-have_files.ensures.looked tells)) (c.in_ok-have_files.ensures.files tells c.if-not-have_files.false) in
    record {
      tree = (g.met.T.Tree.is_sound c.check.new.tree tells).tree;
      found = subst (λ (h : History). StandsFor checked (current_tree h)) (sym looked) (c.in-Ok.ensures.stands_for tells);
      files = subst (λ (k : Changes). HaveFiles k behind) (sym c.in-Ok.ensures.keeps.0) files;
    }
