use Rattle.std.proofs.Common.{◌∙◌, ap}
use Rattle.std.specs.List.{list_all}
use Rattle.toml.specs.View.{view}
use Rattle.omit_rules.specs.Faults.{is_text, are_texts_in}
use Rattle.omit_rules.proofs.TableLemmas.{texts-seen}
use Rattle.omit_rules.proofs.checking.are_texts.Goals as goal

pub returns-in-Some : goal.returns-in-Some
returns-in-Some c =
    c.are_all_texts.ensures ∙ ap (list_all (λ v. is_text (view v))) c.as_slice.ensures.value ∙ texts-seen c.in-Some.array.now.items ∙ ap are_texts_in c.in-Some.ensures
