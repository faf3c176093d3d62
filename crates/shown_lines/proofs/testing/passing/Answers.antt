use Rattle.std.proofs.Common.{◌≡◌, List, IfOk, subst, ap, ◌∙◌, is_some, filter}
use Rattle.std.specs.FinMap.{get}
use Rattle.std.specs.Option.{option_map}
use Rattle.regex.specs.Strings.{matcher_pattern, regex_pattern}
use Rattle.dired_text.specs.Paths.{Names}
use Rattle.mark_table.specs.Excess.{excess}
use Rattle.mark_table.specs.PathMarks.{is_among}
use Rattle.shown_lines.specs.Named.{passes_by}
use Rattle.shown_lines.specs.Sections.{current_paths}
use Rattle.shown_lines.specs.Tests.{paths}
use Rattle.shown_lines.proofs.TestLemmas.{passing-by}
use Rattle.shown_lines.proofs.testing.passing.Goals as goal

pub returns : goal.returns
returns c =
    let re = option_map (λ regex. regex_pattern regex.now) c.args.pattern in
    let section = current_paths (option_map (λ path. path.now) c.args.current) c.args.buffer.now.sections in
    let backups = excess c.args.kept.oldest c.args.kept.newest (paths c.args.entries.now) in
    let is_named = λ (p : Names). is_some (get c.in_ok-table.table.marks p) in
    let same = ap (λ m. paths (filter (passes_by m is_named c.args.test.now) c.args.entries.now)) c.in_ok-matcher.ensures
    ∙ passing-by re section backups is_named c.args.test.now c.args.entries.now (λ p. c.in_ok-table.ensures p ∙ ap (is_among p) (c.deref.ensures.value ∙ c.in_ok-named.ensures)) in
    subst (λ (ps : List Names). IfOk c.passing_by.result (λ found. found.items ≡ ps)) same c.passing_by.ensures
