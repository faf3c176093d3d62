use Rattle.std.proofs.Common.{◌≡◌, ◌∙◌, ap, cond, List, count_by, rules}
use Rattle.std.proofs.lemmas.List.Sorted.{sum_by-IsPermutation}
use Rattle.edit_words.specs.Found.{sight_in}
use Rattle.edit_rules.specs.Plans.{ModeChange, mode_changes}
use Rattle.edit_rules.proofs.modes.modes_by_depth.Goals as goal

pub returns : goal.returns
returns c =
    let all : c.in_ok-modes.modes.items ≡ mode_changes (sight_in c.args.findings.now) c.args.table.now.rows.items = search rules in
    record {
      sorted = c.deepen.ensures.sorted;
      same = λ test. sum_by-IsPermutation (λ (m : ModeChange). cond (test m) 1 0) c.in_ok-modes.modes.items c.deepen.new.modes.items c.deepen.ensures.modes
          ∙ ap (λ (l : List ModeChange). count_by test l) all;
    }
