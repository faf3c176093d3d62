use Rattle.std.proofs.Common.{Option, sym, subst}
use Rattle.std.specs.Prelude.{MatchOption}
use Rattle.commit_recover.specs.Answers.{Answers}
use Rattle.commit_recover.specs.Faults.{IsKept, NamesFaults}
use Rattle.commit_recover.proofs.RecoverLemmas.{answers_recover}
use Rattle.commit_recover.proofs.StartLemmas.{from_start, kept_from_start, not_begun, not_begun_faults, not_begun_kept}
use Rattle.commit_steps.specs.Staging.{staging}
use Rattle.recovery_start.specs.declared.leftovers.Leftovers.{Leftovers}
use Rattle.recovery_start.specs.Start.{IsStanding}
use Rattle.tree_core.specs.FileTree.{IsAbsent}
use Rattle.tree_core.specs.History.{History, current_tree}
use Rattle.commit_recover.proofs.recovering.recover.Goals as goal

pub settled-requires : goal.settled-requires
settled-requires g c = record {
  absent = λ tells.
      let t = current_tree (g.T.Tree.history c.args.tree.now) in
      let none : IsAbsent t staging = subst (λ (o : Option Leftovers). MatchOption o (IsAbsent t staging) (IsStanding t)) c.in-Ok-None.field-0-is (c.in-Ok-None.ensures.found tells) in
      subst (λ (h : History). IsAbsent (current_tree h) staging) (sym (c.in-Ok-None.ensures.looked tells).history) none;
}

pub returns-in-Ok-None-clause-answers : goal.returns-in-Ok-None-clause-answers
returns-in-Ok-None-clause-answers g c tells =
    let T = g.T.Tree in
    from_start c.args.back (T.history c.args.tree.now) (T.history c.find_leftovers.new.tree) (T.history c.settled.new.tree) (T.before_failed c.settled.new.tree) c.settled.result
    (c.in-Ok-None.ensures.looked tells).history (c.settled.ensures.answers tells)

pub returns-in-Ok-None-clause-recovers : goal.returns-in-Ok-None-clause-recovers
returns-in-Ok-None-clause-recovers g c tells =
    let T = g.T.Tree in
    answers_recover c.args.back (T.history c.args.tree.now) (T.history c.settled.new.tree) (T.before_failed c.settled.new.tree) c.settled.result (g.met.T.Tree.is_sound c.args.tree.now tells)
    (from_start c.args.back (T.history c.args.tree.now) (T.history c.find_leftovers.new.tree) (T.history c.settled.new.tree) (T.before_failed c.settled.new.tree) c.settled.result
    (c.in-Ok-None.ensures.looked tells).history (c.settled.ensures.answers tells))

pub recovered-requires-clause-standing : goal.recovered-requires-clause-standing
recovered-requires-clause-standing g c tells =
    let t = current_tree (g.T.Tree.history c.args.tree.now) in
    let left = c.in-Ok-Some.left in
    let standing : IsStanding t left = subst (λ (o : Option Leftovers). MatchOption o (IsAbsent t staging) (IsStanding t)) c.in-Ok-Some.field-0-is (c.in-Ok-Some.ensures.found tells) in
    subst (λ (h : History). IsStanding (current_tree h) left) (sym (c.in-Ok-Some.ensures.looked tells).history) standing

pub returns-in-Ok-Some-clause-answers : goal.returns-in-Ok-Some-clause-answers
returns-in-Ok-Some-clause-answers g c tells =
    let T = g.T.Tree in
    from_start c.args.back (T.history c.args.tree.now) (T.history c.find_leftovers.new.tree) (T.history c.recovered.new.tree) (T.before_failed c.recovered.new.tree) c.recovered.result
    (c.in-Ok-Some.ensures.looked tells).history (c.recovered.ensures.answers tells)

pub returns-in-Ok-Some-clause-recovers : goal.returns-in-Ok-Some-clause-recovers
returns-in-Ok-Some-clause-recovers g c tells =
    let T = g.T.Tree in
    answers_recover c.args.back (T.history c.args.tree.now) (T.history c.recovered.new.tree) (T.before_failed c.recovered.new.tree) c.recovered.result (g.met.T.Tree.is_sound c.args.tree.now tells)
    (from_start c.args.back (T.history c.args.tree.now) (T.history c.find_leftovers.new.tree) (T.history c.recovered.new.tree) (T.before_failed c.recovered.new.tree) c.recovered.result
    (c.in-Ok-Some.ensures.looked tells).history (c.recovered.ensures.answers tells))

pub returns-in-Err-clause-answers : goal.returns-in-Err-clause-answers
returns-in-Err-clause-answers g c tells =
    let T = g.T.Tree in
    subst (Answers c.args.back (T.history c.args.tree.now) (T.history c.find_leftovers.new.tree) (T.before_failed c.find_leftovers.new.tree)) (sym c.into.ensures)
    (not_begun c.args.back (T.history c.args.tree.now) (T.history c.find_leftovers.new.tree) (T.fields c.args.tree.now) (T.fields c.find_leftovers.new.tree)
    (T.before_failed c.args.tree.now) (T.before_failed c.find_leftovers.new.tree) c.in-Err.end (c.in-Err.ensures.looked tells) (c.in-Err.ensures.found tells))

pub returns-in-Err-clause-recovers : goal.returns-in-Err-clause-recovers
returns-in-Err-clause-recovers g c tells =
    let T = g.T.Tree in
    answers_recover c.args.back (T.history c.args.tree.now) (T.history c.find_leftovers.new.tree) (T.before_failed c.find_leftovers.new.tree) c.into.result (g.met.T.Tree.is_sound c.args.tree.now tells)
    (returns-in-Err-clause-answers g c tells)

pub returns-in-Err-clause-faults : goal.returns-in-Err-clause-faults
returns-in-Err-clause-faults g c =
    let T = g.T.Tree in
    subst (NamesFaults (T.faults c.args.tree.now) (T.faults c.find_leftovers.new.tree)) (sym c.into.ensures)
    (not_begun_faults (T.faults c.args.tree.now) (T.faults c.find_leftovers.new.tree) c.in-Err.end c.in-Err.ensures.faults)

pub returns-in-Ok-None-clause-kept : goal.returns-in-Ok-None-clause-kept
returns-in-Ok-None-clause-kept g c =
    let T = g.T.Tree in
    kept_from_start (T.changes c.args.tree.now) (T.changes c.find_leftovers.new.tree) (T.changes c.settled.new.tree) c.settled.result c.find_leftovers.ensures.unchanged c.settled.ensures.kept

pub returns-in-Ok-Some-clause-kept : goal.returns-in-Ok-Some-clause-kept
returns-in-Ok-Some-clause-kept g c =
    let T = g.T.Tree in
    kept_from_start (T.changes c.args.tree.now) (T.changes c.find_leftovers.new.tree) (T.changes c.recovered.new.tree) c.recovered.result c.find_leftovers.ensures.unchanged c.recovered.ensures.kept

pub returns-in-Err-clause-kept : goal.returns-in-Err-clause-kept
returns-in-Err-clause-kept g c =
    let T = g.T.Tree in
    subst (IsKept (T.changes c.args.tree.now) (T.changes c.find_leftovers.new.tree)) (sym c.into.ensures)
    (not_begun_kept (T.changes c.args.tree.now) (T.changes c.find_leftovers.new.tree) c.in-Err.end c.find_leftovers.ensures.unchanged)
