use Rattle.std.proofs.Common.{◌≡◌, ap, sym, ◌∙◌}
use Rattle.std.specs.Str.{chars}
use Rattle.std.proofs.lemmas.Str.{chars_past_char}
use Rattle.emacs_regexp.proofs.places.behind_first.Goals as goal

pub returns-in-Some-clause-behind : goal.returns-in-Some-clause-behind
returns-in-Some-clause-behind c =
    let spelled = c.in-Some.ensures.steps.0 in
    let past : chars c.args.text.now ≡ _ = chars_past_char c.args.text.now c.next.new.self.rest.now c.in-Some.field-0 c.utf8.text (sym c.chars-chars.ensures.rest ∙ spelled) in
    rw past (ap chars c.as_str.ensures)
