use Rattle.std.proofs.Common.{◌<◌, ◌∙◌, All, List, length, rules, subst}
use Rattle.std.proofs.lemmas.List.{take_all}
use Rattle.tree_core.specs.declared.changes.Creation.{Creation}
use Rattle.tree_core.specs.FileTree.{IsFile}
use Rattle.tree_core.specs.History.{History, current_tree}
use Rattle.edit_words.specs.WellFormed.{IsFileFor}
use Rattle.asked_changes.proofs.AskedLemmas.{all_more}
use Rattle.asked_changes.proofs.files.all_have_files.Goals as goal

abbrev HasFile : History → Creation → Type 0
HasFile h k = IsFileFor (IsFile (current_tree h)) k.what

pub loop-creation-preserved : goal.loop-creation-preserved
loop-creation-preserved g c =
    let T = g.T.Tree in
    let within : c.loop-creation.creation-index < length c.args.creations.now = search rules in
    record {
      files = λ tells.
          let here = subst (λ (h : History). HasFile h c.creation-item.result) (c.loop-creation.invariant.looked tells) (c.in_ok-has_file.ensures.file tells c.if-not-branch.false) in
          all_more (HasFile (T.history c.args.tree.now)) c.args.creations.now c.loop-creation.creation-index c.creation-item.result within c.creation-item.is (c.loop-creation.invariant.files tells) here;
      looked = λ tells. c.has_file.ensures.looked tells ∙ c.loop-creation.invariant.looked tells;
    }

pub returns-clause-files : goal.returns-clause-files
returns-clause-files g c tells t =
    let T = g.T.Tree in
    subst (λ (ks : List Creation). All (HasFile (T.history c.args.tree.now)) ks) (take_all c.loop-creation.creation-index c.args.creations.now c.loop-creation-test.false) (c.loop-creation.invariant.files tells)
