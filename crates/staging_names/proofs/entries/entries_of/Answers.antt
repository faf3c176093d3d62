use Rattle.std.proofs.Common.{◌≡◌, ◌++◌, ◌∙◌, ap, List, subst}
use Rattle.std.specs.List.{dedup}
use Rattle.std.proofs.lemmas.List.Filters.{dedup_is}
use Rattle.staging_names.specs.declared.entry_name.EntryName.{EntryName}
use Rattle.staging_names.specs.Entries.{AreEntries, entries_found, entries_named}
use Rattle.staging_names.proofs.EntryLemmas.{kept_once, same_entry}
use Rattle.staging_names.proofs.entries.entries_of.Goals as goal

pub returns : goal.returns
returns c =
    let is : c.dedup.new.self.items ≡ dedup same_entry c.sort_unstable.new.self.items = dedup_is _ _ _ c.dedup.ensures.filtered in
    let all : c.push_named.new.entries.items ≡ entries_found c.args.found.now ++ entries_named c.args.steps.now =
    c.in_ok-push_named.ensures ∙ ap (λ (l : List EntryName). l ++ entries_named c.args.steps.now) c.in_ok-entries.ensures in
    let P : List EntryName → Type 0 = λ wanted. AreEntries wanted c.dedup.new.self.items in
    subst P all (kept_once c.push_named.new.entries.items c.sort_unstable.new.self.items c.dedup.new.self.items c.sort_unstable.ensures.permutation c.sort_unstable.ensures.sorted is)
