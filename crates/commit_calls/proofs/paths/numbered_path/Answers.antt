use Rattle.std.proofs.Common.{◌≡◌, ◌++◌, ◌<◌, ◌^◌, ap, ◌∙◌, decimal, rules, List, ℕ}
use Rattle.dired_text.specs.Paths.{is_name}
use Rattle.commit_calls.specs.Paths.{letters_of}
use Rattle.commit_calls.proofs.NameLemmas.{numbered_name}
use Rattle.commit_calls.proofs.paths.numbered_path.Goals as goal

pub named_path-requires : goal.named_path-requires
named_path-requires c = record {
  name =
      let text : c.deref.result.now ≡ letters_of c.args.what ++ decimal c.args.number = search rules in
      let small : c.args.number < 2 ^ 64 = search rules in
      ap (λ (l : List ℕ). is_name l) text ∙ numbered_name c.args.what c.args.number small;
}
