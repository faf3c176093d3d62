use Rattle.std.proofs.Common.{◌≡◌, ◌∙◌, List, length, sym, ap, subst, true, false, rules, Err}
use Rattle.std.specs.List.{AllByRecursion, list_any}
use Rattle.recovery_calls.specs.declared.work.Entry.{Entry}
use Rattle.recovery_calls.specs.Endings.{MayEnd, barred_at, bars, ended, ended_calls, last_marker}
use Rattle.recovery_calls.specs.Works.{HasPath, IsMarked, entries_of, names_of}
use Rattle.recovery_calls.proofs.CourseLemmas.{follows_look, follows_told, these_done, these_ended}
use Rattle.recovery_calls.proofs.EndRunLemmas.{end_barred, end_open}
use Rattle.recovery_calls.proofs.EndingLemmas.{none_bars}
use Rattle.recovery_calls.proofs.RestLemmas.{Ended}
use Rattle.tree_core.specs.History.{History, current_tree}
use Rattle.tree_core.specs.Runs.{then_all}
use Rattle.recovery_calls.proofs.ending.end.Goals as goal

pub is_barred-requires : goal.is_barred-requires
is_barred-requires g c = record { paths = subst (AllByRecursion HasPath) (sym c.entries.ensures) c.requires.work.entries }

pub returns-in_err-is_barred-clause-follows : goal.returns-in_err-is_barred-clause-follows
returns-in_err-is_barred-clause-follows g c tells = let T = g.T.Tree in
    let work = c.args.work.now in
    let end = c.args.ending in
    let n = length work.steps in
    let es = entries_of work in
    let began = T.history c.args.tree.now in
    let first = T.before_failed c.args.tree.now in
    let new = T.history c.is_barred.new.tree in
    let behind = T.before_failed c.is_barred.new.tree in
    let e = c.in_err-is_barred.field-0.0 in
    let is : c.from_residual.result ≡ Err e = search rules in
    let same : new ≡ began = search rules in
    let tree : behind ≡ current_tree began = search rules in
    follows_look (ended end n es began) began new first behind c.from_residual.result e is same tree

pub returns-in_err-is_barred-clause-cause : goal.returns-in_err-is_barred-clause-cause
returns-in_err-is_barred-clause-cause g c = search rules

pub returns-then-branch-clause-follows : goal.returns-then-branch-clause-follows
returns-then-branch-clause-follows g c tells = let T = g.T.Tree in
    let work = c.args.work.now in
    let end = c.args.ending in
    let n = length work.steps in
    let es = entries_of work in
    let began = T.history c.args.tree.now in
    let first = T.before_failed c.args.tree.now in
    let new = T.history c.is_barred.new.tree in
    let behind = T.before_failed c.is_barred.new.tree in
    let same : new ≡ began = search rules in
    let tree : behind ≡ first = search rules in
    let is : list_any (bars c.args.ending (current_tree (g.T.Tree.history c.args.tree.now))) (names_of c.entries.result.now) ≡ true = search rules in
    let there : list_any (bars end (current_tree began)) es ≡ true = ap (λ (l : List Entry). list_any (bars end (current_tree began)) (names_of l)) (sym c.entries.ensures) ∙ is in
    let number : c.barred_at.result ≡ barred_at end n = search rules in
    follows_told (ended end n es began) began new first behind c.barred_at.result (end_barred end n es began c.barred_at.result there number) same tree

pub returns-then-branch-clause-cause : goal.returns-then-branch-clause-cause
returns-then-branch-clause-cause g c = search rules

pub end_unbarred-requires-clause-work : goal.end_unbarred-requires-clause-work
end_unbarred-requires-clause-work g c = c.requires.work

pub end_unbarred-requires-clause-marker : goal.end_unbarred-requires-clause-marker
end_unbarred-requires-clause-marker g c = c.requires.marker

pub end_unbarred-requires-clause-marked : goal.end_unbarred-requires-clause-marked
end_unbarred-requires-clause-marked g c tells = let T = g.T.Tree in
    let work = c.args.work.now in
    let end = c.args.ending in
    let n = length work.steps in
    let es = entries_of work in
    let began = T.history c.args.tree.now in
    let first = T.before_failed c.args.tree.now in
    let new = T.history c.is_barred.new.tree in
    let same : new ≡ began = search rules in
    subst (λ (h : History). IsMarked (last_marker end n) work h) (sym same) (c.requires.marked tells)

pub end_unbarred-requires-clause-may : goal.end_unbarred-requires-clause-may
end_unbarred-requires-clause-may g c tells = let T = g.T.Tree in
    let work = c.args.work.now in
    let end = c.args.ending in
    let n = length work.steps in
    let es = entries_of work in
    let began = T.history c.args.tree.now in
    let first = T.before_failed c.args.tree.now in
    let new = T.history c.is_barred.new.tree in
    let same : new ≡ began = search rules in
    let is : list_any (bars c.args.ending (current_tree (g.T.Tree.history c.args.tree.now))) (names_of c.entries.result.now) ≡ false = search rules in
    let there : list_any (bars end (current_tree began)) es ≡ false = ap (λ (l : List Entry). list_any (bars end (current_tree began)) (names_of l)) (sym c.entries.ensures) ∙ is in
    subst (λ (h : History). AllByRecursion (MayEnd end (current_tree h)) es) (sym same) (none_bars (bars end (current_tree began)) es there)

pub returns-in_err-end_unbarred-clause-follows : goal.returns-in_err-end_unbarred-clause-follows
returns-in_err-end_unbarred-clause-follows g c tells = let T = g.T.Tree in
    let work = c.args.work.now in
    let end = c.args.ending in
    let n = length work.steps in
    let es = entries_of work in
    let began = T.history c.args.tree.now in
    let first = T.before_failed c.args.tree.now in
    let mid = T.history c.is_barred.new.tree in
    let new = T.history c.end_unbarred.new.tree in
    let behind = T.before_failed c.end_unbarred.new.tree in
    let e = c.in_err-end_unbarred.field-0.0 in
    let is : c.from_residual-in_err-end_unbarred.result ≡ Err e = search rules in
    let same : mid ≡ began = search rules in
    let no_bar : list_any (bars c.args.ending (current_tree (g.T.Tree.history c.args.tree.now))) (names_of c.entries.result.now) ≡ false = search rules in
    let there : list_any (bars end (current_tree began)) es ≡ false = ap (λ (l : List Entry). list_any (bars end (current_tree began)) (names_of l)) (sym c.entries.ensures) ∙ no_bar in
    let failed = subst (λ (h : History). Ended (ended_calls end n es (current_tree h)) h new behind e) same (c.in_err-end_unbarred.ensures.ran tells) in
    these_ended (ended end n es began) (ended_calls end n es (current_tree began)) (end_open end n es began there) began new first behind c.from_residual-in_err-end_unbarred.result e is failed

pub returns-in_err-end_unbarred-clause-cause : goal.returns-in_err-end_unbarred-clause-cause
returns-in_err-end_unbarred-clause-cause g c = search rules

pub returns-clause-follows : goal.returns-clause-follows
returns-clause-follows g c tells = let T = g.T.Tree in
    let work = c.args.work.now in
    let end = c.args.ending in
    let n = length work.steps in
    let es = entries_of work in
    let began = T.history c.args.tree.now in
    let first = T.before_failed c.args.tree.now in
    let mid = T.history c.is_barred.new.tree in
    let middle = T.before_failed c.is_barred.new.tree in
    let new = T.history c.end_unbarred.new.tree in
    let behind = T.before_failed c.end_unbarred.new.tree in
    let same : mid ≡ began = search rules in
    let tree : middle ≡ first = search rules in
    let no_bar : list_any (bars c.args.ending (current_tree (g.T.Tree.history c.args.tree.now))) (names_of c.entries.result.now) ≡ false = search rules in
    let there : list_any (bars end (current_tree began)) es ≡ false = ap (λ (l : List Entry). list_any (bars end (current_tree began)) (names_of l)) (sym c.entries.ensures) ∙ no_bar in
    let ran = c.in_ok-end_unbarred.ensures.ran tells in
    let done = subst (λ (h : History). new ≡ then_all h (ended_calls end n es (current_tree h))) same ran.0 in
    these_done (ended end n es began) (ended_calls end n es (current_tree began)) (end_open end n es began there) began new first behind done (ran.1 ∙ tree)

pub returns-clause-cause : goal.returns-clause-cause
returns-clause-cause g c = search rules
