use Rattle.std.proofs.Common.{◌≡◌, ◌++◌, ◌<◌, ◌^◌, ◌∙◌, ap, sym, decimal, rules, List, ℕ}
use Rattle.commit_steps.specs.Staging.{staged}
use Rattle.dired_text.specs.Paths.{is_name}
use Rattle.recovery_calls.specs.Works.{letter_of}
use Rattle.recovery_calls.proofs.MarkerLemmas.{entry_named, spelled_is}
use Rattle.recovery_calls.proofs.entries.entry_of.Goals as goal

pub staged_path-requires : goal.staged_path-requires
staged_path-requires c = record {
  name =
      let text : c.deref.result.now ≡ letter_of c.args.name.role ++ decimal c.args.name.number = search rules in
      let small : c.args.name.number < 2 ^ 64 = search rules in
      ap (λ (l : List ℕ). is_name l) text ∙ entry_named c.args.name.role c.args.name.number small;
}

pub returns-clause-path : goal.returns-clause-path
returns-clause-path c = let text : c.deref.result.now ≡ letter_of c.args.name.role ++ decimal c.args.name.number = search rules in
    c.in_ok-path.ensures ∙ ap (λ (l : List ℕ). staged l) (text ∙ sym (spelled_is c.args.name.role c.args.name.number))
