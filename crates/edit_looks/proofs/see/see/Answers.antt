use Rattle.std.proofs.Common.{◌≡◌, ◌<◌, length, true, is_some, IsTrue, rules}
use Rattle.dired_text.specs.Paths.{parent}
use Rattle.edit_words.specs.Found.{sight_in}
use Rattle.edit_words.specs.Sight.{is_dir}
use Rattle.edit_words.proofs.FindingsLemmas.{seen_stays}
use Rattle.edit_looks.proofs.LookLemmas.{dir_seen, dirs_in, dirs_over, stands_seen}
use Rattle.edit_looks.proofs.see.see.Goals as goal

pub returns-then-stands-clause-seen : goal.returns-then-stands-clause-seen
returns-then-stands-clause-seen g c =
    let stands : IsTrue (is_some ((sight_in c.args.findings.now).at c.args.path.now)) = search rules in
    stands_seen c.args.findings.now c.args.path.now stands

pub returns-then-stands-clause-above : goal.returns-then-stands-clause-above
returns-then-stands-clause-above g c u over =
    let stands : IsTrue (is_some ((sight_in c.args.findings.now).at c.args.path.now)) = search rules in
    dir_seen c.args.findings.now u (dirs_over c.args.findings.now c.args.path.now u c.requires.closed stands over)

pub see_here-requires-clause-above : goal.see_here-requires-clause-above
see_here-requires-clause-above g c u over =
    let f = c.args.findings.now in
    let some : 0 < length c.args.path.now = search rules in
    let dir : c.in_ok-dir.dir ≡ parent c.args.path.now = search rules in
    let found : is_dir ((sight_in f).at c.in_ok-dir.dir) ≡ true = search rules in
    dirs_in f c.args.path.now c.in_ok-dir.dir u c.requires.closed some dir found over

pub returns-then-is_dir-clause-above : goal.returns-then-is_dir-clause-above
returns-then-is_dir-clause-above g c u over =
    let f = c.args.findings.now in
    let some : 0 < length c.args.path.now = search rules in
    let dir : c.in_ok-dir.dir ≡ parent c.args.path.now = search rules in
    let found : is_dir ((sight_in f).at c.in_ok-dir.dir) ≡ true = search rules in
    seen_stays u c.see_here.ensures.grown (dir_seen f u (dirs_in f c.args.path.now c.in_ok-dir.dir u c.requires.closed some dir found over))
