use Rattle.std.proofs.Common.{◌≤◌, length, arith}
use Rattle.session_sections.proofs.LineLemmas.{last-path, next-path}
use Rattle.session_sections.proofs.StateLemmas.{more-killed}
use Rattle.session_sections.proofs.steps.kill_paths.Goals as goal

pub loop-path-preserved : goal.loop-path-preserved
loop-path-preserved c =
    let paths = c.args.paths.now in
    let old = c.loop-path.buffer in
    let new = c.kill_path.new.buffer in
    record {
      lines = next-path paths c.loop-path.path-index c.path-item.result old.sections new.sections _ c.loop-path-test.true c.path-item.is c.kill_path.ensures.lines c.loop-path.invariant.lines;
      kills = more-killed c.args.buffer.now old new c.loop-path.invariant.kills c.kill_path.ensures.kills;
    }

pub returns-clause-lines : goal.returns-clause-lines
returns-clause-lines c =
    let paths = c.args.paths.now in
    let past : length paths ≤ c.loop-path.path-index = omega (arith, c.loop-path-test.false, c.loop-path.auto.path-index-end) in
    last-path paths c.loop-path.path-index c.loop-path.buffer.sections _ past c.loop-path.invariant.lines
