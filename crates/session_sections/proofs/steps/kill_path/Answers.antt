use Rattle.std.proofs.Common.{◌∙◌, sym, ap}
use Rattle.section_buffer.specs.Buffers.{BufferState, line_killed}
use Rattle.session_sections.proofs.StateLemmas.{leads-done, leads-not, line-end, line-kill, more-killed}
use Rattle.session_sections.proofs.steps.kill_path.Goals as goal

pub loop-smaller : goal.loop-smaller
loop-smaller c =
    let old = c.loop.buffer in
    let new = c.kill_line.new.self in
    let path = c.args.path.now in
    (line-kill path old new (leads-done (line_killed path old) c.kill_line.result old new c.kill_line.ensures (sym c.is_ok.ensures.value ∙ c.loop-test.true))).fewer

pub loop-preserved : goal.loop-preserved
loop-preserved c =
    let old = c.loop.buffer in
    let new = c.kill_line.new.self in
    let path = c.args.path.now in
    let k = line-kill path old new (leads-done (line_killed path old) c.kill_line.result old new c.kill_line.ensures (sym c.is_ok.ensures.value ∙ c.loop-test.true)) in
    record { lines = k.same ∙ c.loop.invariant.lines; kills = more-killed c.args.buffer.now old new c.loop.invariant.kills k.kill }

pub returns-clause-lines : goal.returns-clause-lines
returns-clause-lines c =
    let old = c.loop.buffer in
    let new = c.kill_line.new.self in
    let path = c.args.path.now in
    let k = leads-not (line_killed path old) c.kill_line.result old new c.kill_line.ensures (sym c.is_ok.ensures.value ∙ c.loop-test.false) in
    ap (λ (b : BufferState). b.sections) k.1 ∙ (sym (line-end path old k.0) ∙ c.loop.invariant.lines)
