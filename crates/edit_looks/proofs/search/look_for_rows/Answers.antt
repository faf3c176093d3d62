use Rattle.std.proofs.Common.{◌≡◌, All, Some, None}
use Rattle.std.specs.BTreeMap.{get}
use Rattle.std.proofs.lemmas.List.Elements.{All-weaker}
use Rattle.dired_text.specs.Paths.{path_cmp}
use Rattle.edit_words.specs.Refusals.{staging}
use Rattle.edit_words.specs.Found.{HasGrown}
use Rattle.edit_looks.specs.Looks.{IsShownIn, IsToSeen}
use Rattle.edit_words.proofs.FindingsLemmas.{grown_on}
use Rattle.edit_looks.proofs.SearchLemmas.{shown_stays, to_stays, none_stale, covered}
use Rattle.edit_looks.proofs.search.look_for_rows.Goals as goal

pub returns-clause-covered : goal.returns-clause-covered
returns-clause-covered g c =
    let f = c.see_removed.new.findings in
    let later : HasGrown c.see_sources.new.findings f = grown_on c.see_new_paths.ensures.grown c.see_removed.ensures.grown in
    let unstaged : get path_cmp f.found staging ≡ Some None = (grown_on c.see_sources.ensures.grown later).found staging None c.in_ok-findings.ensures.unstaged in
    let shown : All (IsShownIn f) c.args.rows.now = All-weaker (IsShownIn c.see_sources.new.findings) (IsShownIn f) (shown_stays later c.see_sources.ensures.closed c.see_removed.ensures.closed) c.args.rows.now c.in_ok-see_sources.ensures.shown in
    let to : All (IsToSeen f) c.args.rows.now = All-weaker (IsToSeen c.see_new_paths.new.findings) (IsToSeen f) (to_stays c.see_removed.ensures.grown) c.args.rows.now c.in_ok-see_new_paths.ensures.seen in
    covered f c.args.rows.now unstaged shown to c.in_ok-see_removed.ensures.asked

pub returns-clause-shown : goal.returns-clause-shown
returns-clause-shown g c =
    let f = c.see_removed.new.findings in
    let later : HasGrown c.see_sources.new.findings f = grown_on c.see_new_paths.ensures.grown c.see_removed.ensures.grown in
    none_stale f c.args.rows.now (All-weaker (IsShownIn c.see_sources.new.findings) (IsShownIn f) (shown_stays later c.see_sources.ensures.closed c.see_removed.ensures.closed) c.args.rows.now c.in_ok-see_sources.ensures.shown)
