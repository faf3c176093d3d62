use Rattle.std.proofs.Common.{◌≡◌, ◌<◌, ℕ, List, Contains, length, sym, subst, ◌∙◌, rules}
use Rattle.commit_plan.specs.declared.changes.Change.{Change}
use Rattle.commit_plan.specs.Stands.{first_changes}
use Rattle.commit_plan.specs.Boards.{HasKeepers, HasOwnSources}
use Rattle.commit_plan.proofs.StartLemmas.{own_sources, sound_first}
use Rattle.commit_plan.proofs.board.Board.new.Goals as goal

pub keepers_of-requires : goal.keepers_of-requires
keepers_of-requires c =
    let are : c.deref.result.now ≡ first_changes 0 c.args.rows.items = c.deref.ensures.value ∙ c.in_ok-changes.ensures in
    subst (λ (l : List Change). HasOwnSources l) (sym are) (own_sources c.args.rows.items c.requires.sources)

pub returns-clause-sound : goal.returns-clause-sound
returns-clause-sound c =
    let cs = c.in_ok-changes.changes.items in
    let keepers = subst (λ (l : List Change). HasKeepers l c.in_ok-keepers.keepers) c.deref.ensures.value c.in_ok-keepers.ensures in
    let sized : length c.in_ok-awaiting.awaiting.items ≡ length cs = search rules in
    let long : c.len-2.result ≡ length cs = search rules in
    let within = subst (λ (n : ℕ). (k : ℕ) → Contains c.in_ok-queue.queue.items k → k < n) long c.in_ok-queue.ensures.within in
    sound_first _ c.args.rows.items c.in_ok-changes.ensures c.requires.lines c.requires.rooted keepers sized c.in_ok-awaiting.ensures.empty within
