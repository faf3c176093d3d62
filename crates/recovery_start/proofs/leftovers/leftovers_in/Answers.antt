use Rattle.std.proofs.Common.{◌<◌, ◌∙◌, ℕ, List, length, sym, ap, subst}
use Rattle.std.specs.List.{slice_get}
use Rattle.dired_text.specs.Paths.{Names}
use Rattle.commit_steps.specs.declared.step.Step.{Step}
use Rattle.commit_steps.specs.Staging.{staged, staging}
use Rattle.staging_names.specs.declared.standing.Found.{Found}
use Rattle.staging_names.specs.Names.{journal_name}
use Rattle.staging_names.specs.Tests.{beyond_place, foreign_place, standing_of}
use Rattle.tree_core.specs.FileTree.{IsDir}
use Rattle.tree_core.specs.History.{current_tree}
use Rattle.recovery_start.specs.Start.{HasSteps, IsForeignEnd}
use Rattle.recovery_start.proofs.EndLemmas.{Read, Sorted, foreign_count, foreign_name, place_in, same_file, same_steps, steps_file}
use Rattle.recovery_start.proofs.leftovers.leftovers_in.Goals as goal

pub returns-in-Err-clause-found : goal.returns-in-Err-clause-found
returns-in-Err-clause-found g c tells =
    let T = g.T.Tree in
    let t = current_tree (T.history c.args.tree.now) in
    let read : Read t c.deref-in-Err.result.now c.deref.result.now = record {
      dir = subst (λ (p : Names). IsDir t p) c.requires.staging (c.requires.dir tells);
      names_are = c.deref-in-Err.ensures.value ∙ c.in_ok-scan.ensures.names tells;
      found_is = c.deref.ensures.value ∙ c.in_ok-scan.ensures.found tells;
    } in
    foreign_name t c.deref-in-Err.result.now c.deref.result.now c.in-Err.place c.foreign.result read c.in-Err.ensures.sorted c.foreign.ensures.foreign

pub steps_of-requires : goal.steps_of-requires
steps_of-requires g c = record {
  file = λ tells j is.
      let T = g.T.Tree in
      let t = current_tree (T.history c.args.tree.now) in
      let read : Read t c.in_ok-scan.scan.names.items c.deref.result.now = record {
        dir = subst (λ (p : Names). IsDir t p) c.requires.staging (c.requires.dir tells);
        names_are = c.in_ok-scan.ensures.names tells;
        found_is = c.deref.ensures.value ∙ c.in_ok-scan.ensures.found tells;
      } in
      let sorted : Sorted t c.deref.result.now c.in-Ok.standing = record { none = c.in-Ok.ensures.sorted.0; is = c.in-Ok.ensures.sorted.1 } in
      same_file (T.history c.list_staging.new.tree) (T.history c.args.tree.now) (staged (journal_name j)) (c.in_ok-scan.ensures.looked tells).history
      (steps_file t c.in_ok-scan.scan.names.items c.deref.result.now c.in-Ok.standing read sorted j is);
}

pub foreign-requires-in-Some : goal.foreign-requires-in-Some
foreign-requires-in-Some g c = record {
  within =
      subst (λ (l : List (List ℕ)). c.in-Some.place < length l) (sym c.deref-in-Some.ensures.value)
      (place_in c.in_ok-scan.scan.names.items c.in_ok-scan.scan.found.items c.in-Some.place c.in_ok-scan.ensures.named
      (subst (λ (l : List Found). c.in-Some.place < length l) c.deref-2.ensures.value c.in-Some.ensures.within));
}

pub returns-in-Some-clause-found : goal.returns-in-Some-clause-found
returns-in-Some-clause-found g c tells =
    let T = g.T.Tree in
    let t = current_tree (T.history c.args.tree.now) in
    let read : Read t c.in_ok-scan.scan.names.items c.in_ok-scan.scan.found.items = record {
      dir = subst (λ (p : Names). IsDir t p) c.requires.staging (c.requires.dir tells);
      names_are = c.in_ok-scan.ensures.names tells;
      found_is = c.in_ok-scan.ensures.found tells;
    } in
    let sorted : Sorted t c.in_ok-scan.scan.found.items c.in-Ok.standing = record {
      none = sym (ap foreign_place c.deref.ensures.value) ∙ c.in-Ok.ensures.sorted.0;
      is = c.in-Ok.ensures.sorted.1 ∙ ap standing_of c.deref.ensures.value;
    } in
    let has : HasSteps t c.in-Ok.standing.journal c.in_ok-steps.steps =
    same_steps (T.history c.list_staging.new.tree) (T.history c.args.tree.now) c.in-Ok.standing.journal c.in_ok-steps.steps (c.in_ok-scan.ensures.looked tells).history (c.in_ok-steps.ensures.read tells) in
    foreign_count t c.in_ok-scan.scan.names.items c.in_ok-scan.scan.found.items c.in-Ok.standing c.as_slice.result.now c.in-Some.place c.foreign-in-Some.result read sorted
    (subst (λ (l : List Step). HasSteps t c.in-Ok.standing.journal l) (sym c.as_slice.ensures) has)
    (sym (ap (λ (l : List Found). beyond_place l (length c.as_slice.result.now)) c.deref-2.ensures.value) ∙ sym c.in-Some.ensures.marker)
    (subst (λ (l : List (List ℕ)). IsForeignEnd (slice_get l c.in-Some.place) c.foreign-in-Some.result) c.deref-in-Some.ensures.value c.foreign-in-Some.ensures.foreign)
