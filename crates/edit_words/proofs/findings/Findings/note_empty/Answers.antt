use Rattle.std.proofs.Common.{◌∙◌, ap, cond, Some}
use Rattle.std.specs.BTreeMap.{get}
use Rattle.std.specs.Ordering.{is_eq}
use Rattle.dired_text.specs.Paths.{Names, path_cmp}
use Rattle.edit_words.proofs.FindingsLemmas.{IsInserted, inserted_stays, inserted_one}
use Rattle.edit_words.proofs.findings.Findings.note_empty.Goals as goal

pub returns-clause-grown : goal.returns-clause-grown
returns-clause-grown c =
    let is : IsInserted c.args.path.now c.args.empty c.args.self.now.empty c.insert.new.self = λ q. c.in_ok-insert.ensures.updates.0 q ∙ ap (λ (p : Names). cond (is_eq (path_cmp p q)) (Some c.args.empty) (get path_cmp c.args.self.now.empty q)) c.in_ok-copy.ensures in
    record { found = λ p o e. e; empty = inserted_stays c.args.path.now c.args.empty c.args.self.now.empty c.insert.new.self is c.requires.unseen }

pub returns-clause-one : goal.returns-clause-one
returns-clause-one c =
    let is : IsInserted c.args.path.now c.args.empty c.args.self.now.empty c.insert.new.self = λ q. c.in_ok-insert.ensures.updates.0 q ∙ ap (λ (p : Names). cond (is_eq (path_cmp p q)) (Some c.args.empty) (get path_cmp c.args.self.now.empty q)) c.in_ok-copy.ensures in
    inserted_one c.args.path.now c.args.empty c.args.self.now.empty c.insert.new.self is
