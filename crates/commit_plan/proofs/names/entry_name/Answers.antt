use Rattle.std.proofs.Common.{◌≡◌, ◌++◌, ◌<◌, ◌^◌, ap, ◌∙◌, decimal, rules, List, ℕ}
use Rattle.dired_text.specs.Paths.{is_name}
use Rattle.commit_plan.specs.Stands.{letter_of}
use Rattle.commit_plan.proofs.NameLemmas.{entry_name}
use Rattle.commit_plan.proofs.names.entry_name.Goals as goal

pub known_name-requires : goal.known_name-requires
known_name-requires c =
    let text : c.deref.result.now ≡ letter_of c.args.entry ++ decimal c.args.number = search rules in
    let small : c.args.number < 2 ^ 32 = search rules in
    ap (λ (l : List ℕ). is_name l) text ∙ entry_name c.args.entry c.args.number small
