use Rattle.std.proofs.Common.{◌≡◌, sym, ap, subst, inr, Ok, List, ℕ, Option, rules}
use Rattle.dired_text.specs.Answers.{IsOrMemory}
use Rattle.dired_text.specs.Escape.{unescaped}
use Rattle.listing_text.specs.Fields.{if_read, plain_of}
use Rattle.listing_text.specs.declared.faults.LineFault.TheVariants.{Memory}
use Rattle.listing_text.proofs.FieldLemmas.{plain-none, plain-is}
use Rattle.listing_text.proofs.reading.read_plain_text.Goals as goal

pub returns-in-Ok : goal.returns-in-Ok
returns-in-Ok c =
    let same : if_read (unescaped c.in-Ok.text.now) ≡ plain_of c.args.shown.now =
    plain-is c.args.shown.now c.in-Ok.text.now (search rules) c.in-Ok.ensures.cases.0 in
    let P : Option (List ℕ) → Type 0 = λ o. IsOrMemory Memory (Ok o) c.read_escaped.result in
    subst P same c.read_escaped.ensures

pub returns-in-Err : goal.returns-in-Err
returns-in-Err c = inr (ap Ok (sym (plain-none c.args.shown.now c.in-Err.ensures.cases.0)))
