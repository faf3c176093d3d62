use Rattle.std.proofs.Common.{◌≡◌, ◌∙◌, inl, List, [], ◌∷◌, ◌++◌, length, refl, sym, ap, subst, rules, Err}
use Rattle.std.specs.List.{AllByRecursion}
use Rattle.commit_calls.specs.Parts.{close_up_calls}
use Rattle.commit_states.specs.Calls.{Items, removals_by}
use Rattle.commit_steps.specs.Staging.{plan, staged, staging}
use Rattle.recovery_calls.specs.declared.work.Entry.{Entry}
use Rattle.recovery_calls.specs.Endings.{MayEnd, ended_calls, gone_in, last_marker, last_name}
use Rattle.recovery_calls.specs.Underway.{AreOnce}
use Rattle.recovery_calls.specs.Works.{HasPath, entries_of, names_of}
use Rattle.recovery_calls.proofs.EndRunLemmas.{can_last, can_seal_at, close_as, ended_as, gone_there, may_there, rename_as}
use Rattle.recovery_calls.proofs.RestLemmas.{Ended, ended_first, ran_ended, ran_left, ran_looked, rest_all, rest_as, rest_next}
use Rattle.tree_core.specs.declared.node.Change.{Change}
use Rattle.tree_core.specs.declared.node.Change.TheVariants as call
use Rattle.tree_core.specs.History.{current_tree}
use Rattle.tree_core.specs.Runs.{CanAll, FailedIn, Ran, then_all}
use Rattle.recovery_calls.proofs.ending.end_unbarred.Goals as goal

pub journal-journal-requires : goal.journal-journal-requires
journal-journal-requires g c = c.requires.work.paths

pub rename_and_sync-requires : goal.rename_and_sync-requires
rename_and_sync-requires g c = record {
  can = λ tells.
      let T = g.T.Tree in
      let work = c.args.work.now in
      let end = c.args.ending in
      let n = length work.steps in
      let es = entries_of work in
      let began = T.history c.args.tree.now in
      let first = T.before_failed c.args.tree.now in
      let t = current_tree began in
      let sound = g.met.T.Tree.is_sound c.args.tree.now tells in
      let once = c.requires.work.once in
      let may = c.requires.may tells in
      let u = c.requires.marked tells in
      let from : c.args.work.now.paths.plan ≡ staged plan = c.requires.work.paths.plan_is in
      let to : c.journal-journal.result.now ≡ staged (last_name c.args.ending) = c.journal-journal.ensures in
      can_seal_at end n es began sound once may u c.args.work.now.paths.plan c.journal-journal.result.now from to;
}

pub returns-in_err-rename_and_sync-clause-ran : goal.returns-in_err-rename_and_sync-clause-ran
returns-in_err-rename_and_sync-clause-ran g c tells = let T = g.T.Tree in
    let work = c.args.work.now in
    let end = c.args.ending in
    let n = length work.steps in
    let es = entries_of work in
    let began = T.history c.args.tree.now in
    let first = T.before_failed c.args.tree.now in
    let t = current_tree began in
    let sound = g.met.T.Tree.is_sound c.args.tree.now tells in
    let once = c.requires.work.once in
    let may = c.requires.may tells in
    let u = c.requires.marked tells in
    let from : c.args.work.now.paths.plan ≡ staged plan = c.requires.work.paths.plan_is in
    let to : c.journal-journal.result.now ≡ staged (last_name c.args.ending) = c.journal-journal.ensures in
    let rs = call.Rename (staged plan) (staged (last_name end)) ∷ call.Sync ∷ [] in
    let gone = removals_by (gone_in end t es) in
    let last = close_up_calls (staged (last_marker end n)) (staged (last_name end)) staging in
    let all = ended_calls end n es t in
    let begin = rest_as all began began all (rs ++ (gone ++ last)) (rest_all all began began refl) (ended_as end n es t) in
    let new = T.history c.rename_and_sync.new.tree in
    let behind = T.before_failed c.rename_and_sync.new.tree in
    let e = c.in_err-rename_and_sync.field-0.0 in
    let is : c.from_residual.result ≡ Err e = search rules in
    let failed = subst (λ (l : List Change). FailedIn l began new behind e) (rename_as c.args.work.now.paths.plan c.journal-journal.result.now end from to) (c.in_err-rename_and_sync.ensures.ran tells) in
    ran_ended all began new first behind c.from_residual.result e is (ended_first all began began rs (gone ++ last) begin new behind e (inl failed))

pub returns-in_err-rename_and_sync-clause-cause : goal.returns-in_err-rename_and_sync-clause-cause
returns-in_err-rename_and_sync-clause-cause g c = search rules

pub remove_gone-requires-clause-paths : goal.remove_gone-requires-clause-paths
remove_gone-requires-clause-paths g c = subst (AllByRecursion HasPath) (sym c.entries.ensures) c.requires.work.entries

pub remove_gone-requires-clause-once : goal.remove_gone-requires-clause-once
remove_gone-requires-clause-once g c = subst (λ (l : List Entry). AreOnce (names_of l)) (sym c.entries.ensures) c.requires.work.once

pub remove_gone-requires-clause-may : goal.remove_gone-requires-clause-may
remove_gone-requires-clause-may g c tells = let T = g.T.Tree in
    let work = c.args.work.now in
    let end = c.args.ending in
    let n = length work.steps in
    let es = entries_of work in
    let began = T.history c.args.tree.now in
    let first = T.before_failed c.args.tree.now in
    let t = current_tree began in
    let sound = g.met.T.Tree.is_sound c.args.tree.now tells in
    let once = c.requires.work.once in
    let may = c.requires.may tells in
    let u = c.requires.marked tells in
    let from : c.args.work.now.paths.plan ≡ staged plan = c.requires.work.paths.plan_is in
    let to : c.journal-journal.result.now ≡ staged (last_name c.args.ending) = c.journal-journal.ensures in
    let rs = call.Rename (staged plan) (staged (last_name end)) ∷ call.Sync ∷ [] in
    let gone = removals_by (gone_in end t es) in
    let last = close_up_calls (staged (last_marker end n)) (staged (last_name end)) staging in
    let all = ended_calls end n es t in
    let begin = rest_as all began began all (rs ++ (gone ++ last)) (rest_all all began began refl) (ended_as end n es t) in
    let mid = T.history c.rename_and_sync.new.tree in
    let middle = T.before_failed c.rename_and_sync.new.tree in
    let ran = c.in_ok-rename_and_sync.ensures.ran tells in
    let is : mid ≡ then_all began rs = ran.0 ∙ ap (then_all began) (rename_as c.args.work.now.paths.plan c.journal-journal.result.now end from to) in
    let gone_mid = removals_by (gone_in end (current_tree mid) es) in
    let next = rest_as all began mid (gone ++ last) (gone_mid ++ last) (rest_next all began began mid rs (gone ++ last) begin is)
    (ap (λ (l : Items). removals_by l ++ last) (sym (gone_there end n es began sound once may u mid is))) in
    subst (λ (l : List Entry). AllByRecursion (MayEnd end (current_tree mid)) (names_of l)) (sym c.entries.ensures) (may_there end n es began sound once may u mid is)

pub returns-in_err-remove_gone-clause-ran : goal.returns-in_err-remove_gone-clause-ran
returns-in_err-remove_gone-clause-ran g c tells = let T = g.T.Tree in
    let work = c.args.work.now in
    let end = c.args.ending in
    let n = length work.steps in
    let es = entries_of work in
    let began = T.history c.args.tree.now in
    let first = T.before_failed c.args.tree.now in
    let t = current_tree began in
    let sound = g.met.T.Tree.is_sound c.args.tree.now tells in
    let once = c.requires.work.once in
    let may = c.requires.may tells in
    let u = c.requires.marked tells in
    let from : c.args.work.now.paths.plan ≡ staged plan = c.requires.work.paths.plan_is in
    let to : c.journal-journal.result.now ≡ staged (last_name c.args.ending) = c.journal-journal.ensures in
    let rs = call.Rename (staged plan) (staged (last_name end)) ∷ call.Sync ∷ [] in
    let gone = removals_by (gone_in end t es) in
    let last = close_up_calls (staged (last_marker end n)) (staged (last_name end)) staging in
    let all = ended_calls end n es t in
    let begin = rest_as all began began all (rs ++ (gone ++ last)) (rest_all all began began refl) (ended_as end n es t) in
    let mid = T.history c.rename_and_sync.new.tree in
    let middle = T.before_failed c.rename_and_sync.new.tree in
    let ran = c.in_ok-rename_and_sync.ensures.ran tells in
    let is : mid ≡ then_all began rs = ran.0 ∙ ap (then_all began) (rename_as c.args.work.now.paths.plan c.journal-journal.result.now end from to) in
    let gone_mid = removals_by (gone_in end (current_tree mid) es) in
    let next = rest_as all began mid (gone ++ last) (gone_mid ++ last) (rest_next all began began mid rs (gone ++ last) begin is)
    (ap (λ (l : Items). removals_by l ++ last) (sym (gone_there end n es began sound once may u mid is))) in
    let new = T.history c.remove_gone.new.tree in
    let behind = T.before_failed c.remove_gone.new.tree in
    let e = c.in_err-remove_gone.field-0.0 in
    let err : c.from_residual-in_err-remove_gone.result ≡ Err e = search rules in
    let failed = subst (λ (l : List Entry). Ended (removals_by (gone_in end (current_tree mid) (names_of l))) mid new behind e) c.entries.ensures (c.in_err-remove_gone.ensures.ran tells) in
    ran_ended all began new first behind c.from_residual-in_err-remove_gone.result e err (ended_first all began mid gone_mid last next new behind e failed)

pub returns-in_err-remove_gone-clause-cause : goal.returns-in_err-remove_gone-clause-cause
returns-in_err-remove_gone-clause-cause g c = search rules

pub close_up-requires : goal.close_up-requires
close_up-requires g c = record {
  can = λ tells.
      let T = g.T.Tree in
      let work = c.args.work.now in
      let end = c.args.ending in
      let n = length work.steps in
      let es = entries_of work in
      let began = T.history c.args.tree.now in
      let first = T.before_failed c.args.tree.now in
      let t = current_tree began in
      let sound = g.met.T.Tree.is_sound c.args.tree.now tells in
      let once = c.requires.work.once in
      let may = c.requires.may tells in
      let u = c.requires.marked tells in
      let from : c.args.work.now.paths.plan ≡ staged plan = c.requires.work.paths.plan_is in
      let to : c.journal-journal.result.now ≡ staged (last_name c.args.ending) = c.journal-journal.ensures in
      let rs = call.Rename (staged plan) (staged (last_name end)) ∷ call.Sync ∷ [] in
      let gone = removals_by (gone_in end t es) in
      let last = close_up_calls (staged (last_marker end n)) (staged (last_name end)) staging in
      let all = ended_calls end n es t in
      let begin = rest_as all began began all (rs ++ (gone ++ last)) (rest_all all began began refl) (ended_as end n es t) in
      let mid = T.history c.rename_and_sync.new.tree in
      let middle = T.before_failed c.rename_and_sync.new.tree in
      let ran = c.in_ok-rename_and_sync.ensures.ran tells in
      let is : mid ≡ then_all began rs = ran.0 ∙ ap (then_all began) (rename_as c.args.work.now.paths.plan c.journal-journal.result.now end from to) in
      let gone_mid = removals_by (gone_in end (current_tree mid) es) in
      let next = rest_as all began mid (gone ++ last) (gone_mid ++ last) (rest_next all began began mid rs (gone ++ last) begin is)
      (ap (λ (l : Items). removals_by l ++ last) (sym (gone_there end n es began sound once may u mid is))) in
      let low = T.history c.remove_gone.new.tree in
      let lower = T.before_failed c.remove_gone.new.tree in
      let removed = c.in_ok-remove_gone.ensures.ran tells in
      let done : low ≡ then_all mid gone_mid = removed.0 ∙ ap (λ (l : List Entry). then_all mid (removals_by (gone_in end (current_tree mid) (names_of l)))) c.entries.ensures in
      let rest = rest_next all began mid low gone_mid last next done in
      let closes = close_as c.args.marker.now c.journal-journal.result.now c.args.work.now.paths.staging (last_marker end n) (last_name end) c.requires.marker to c.requires.work.paths.staging_is in
      subst (λ (l : List Change). CanAll l low) (sym closes) (can_last end n es began sound once may u mid is low done);
}

pub returns-clause-ran : goal.returns-clause-ran
returns-clause-ran g c tells = let T = g.T.Tree in
    let work = c.args.work.now in
    let end = c.args.ending in
    let n = length work.steps in
    let es = entries_of work in
    let began = T.history c.args.tree.now in
    let first = T.before_failed c.args.tree.now in
    let t = current_tree began in
    let sound = g.met.T.Tree.is_sound c.args.tree.now tells in
    let once = c.requires.work.once in
    let may = c.requires.may tells in
    let u = c.requires.marked tells in
    let from : c.args.work.now.paths.plan ≡ staged plan = c.requires.work.paths.plan_is in
    let to : c.journal-journal.result.now ≡ staged (last_name c.args.ending) = c.journal-journal.ensures in
    let rs = call.Rename (staged plan) (staged (last_name end)) ∷ call.Sync ∷ [] in
    let gone = removals_by (gone_in end t es) in
    let last = close_up_calls (staged (last_marker end n)) (staged (last_name end)) staging in
    let all = ended_calls end n es t in
    let begin = rest_as all began began all (rs ++ (gone ++ last)) (rest_all all began began refl) (ended_as end n es t) in
    let mid = T.history c.rename_and_sync.new.tree in
    let middle = T.before_failed c.rename_and_sync.new.tree in
    let ran = c.in_ok-rename_and_sync.ensures.ran tells in
    let is : mid ≡ then_all began rs = ran.0 ∙ ap (then_all began) (rename_as c.args.work.now.paths.plan c.journal-journal.result.now end from to) in
    let gone_mid = removals_by (gone_in end (current_tree mid) es) in
    let next = rest_as all began mid (gone ++ last) (gone_mid ++ last) (rest_next all began began mid rs (gone ++ last) begin is)
    (ap (λ (l : Items). removals_by l ++ last) (sym (gone_there end n es began sound once may u mid is))) in
    let low = T.history c.remove_gone.new.tree in
    let lower = T.before_failed c.remove_gone.new.tree in
    let removed = c.in_ok-remove_gone.ensures.ran tells in
    let done : low ≡ then_all mid gone_mid = removed.0 ∙ ap (λ (l : List Entry). then_all mid (removals_by (gone_in end (current_tree mid) (names_of l)))) c.entries.ensures in
    let rest = rest_next all began mid low gone_mid last next done in
    let closes = close_as c.args.marker.now c.journal-journal.result.now c.args.work.now.paths.staging (last_marker end n) (last_name end) c.requires.marker to c.requires.work.paths.staging_is in
    let new = T.history c.close_up.new.tree in
    let behind = T.before_failed c.close_up.new.tree in
    let kept : lower ≡ first = removed.1 ∙ ran.1 in
    let closed = subst (λ (l : List Change). Ran l low new lower behind c.close_up.result) closes (c.close_up.ensures.ran tells) in
    ran_left all began low last rest new first lower behind c.close_up.result kept (ran_looked last low new lower behind c.close_up.result closed)

pub returns-clause-cause : goal.returns-clause-cause
returns-clause-cause g c = search rules
