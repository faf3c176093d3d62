use Rattle.std.proofs.Common.{◌≡◌, ◌++◌, ◌∷◌, [], ℕ, List, sym, ap, ◌∙◌, subst, ◌+◌, take}
use Rattle.std.specs.Str.{IsUtf8}
use Rattle.std.proofs.lemmas.List.{take_more}
use Rattle.commit_steps.specs.Steps.{IsName}
use Rattle.commit_journal.proofs.TextLemmas.{all_push, name_written}
use Rattle.commit_journal.proofs.encoding.push_slashed.Goals as goal

pub loop-name-preserved : goal.loop-name-preserved
loop-name-preserved c =
    let i = c.loop-name.name-index in
    let n = c.name-item.result in
    let front = take i c.args.names.now in
    let next : take (i + 1) c.args.names.now ≡ front ++ n ∷ [] = take_more c.args.names.now i n c.loop-name-test.true ∙ ap (λ (m : List ℕ). front ++ m ∷ []) (sym c.name-item.is) in
    let name : IsName n = record { name = c.as_str.ensures.name; utf8 = subst IsUtf8 c.as_str.ensures.value c.as_str.utf8 } in
    record {
      text = rw next (name_written c.args.text.now.items c.loop-name.text.items c.push.new.self.items c.extend_from_slice.new.self.items c.as_bytes.result.now n front
          c.loop-name.invariant.text c.in_ok-push.ensures.items c.in_ok-extend_from_slice.ensures.items (c.as_bytes.ensures.value ∙ c.as_str.ensures.value));
      names = rw next (all_push IsName front n c.loop-name.invariant.names name);
    }
