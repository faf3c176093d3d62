use Rattle.std.proofs.Common.{◌≡◌, ◌++◌, ◌<◌, [], ◌∷◌, get_or, length, ap, ◌∙◌}
use Rattle.std.specs.String.{string_bytes}
use Rattle.shell_subst.specs.Quoting.{quoted}
use Rattle.shell_subst.proofs.QuoteLemmas.{row-first, row-later}
use Rattle.shell_subst.proofs.substituting.in_a_row.Goals as goal
use Rattle.shell_subst.proofs.substituting.in_a_row.Goals.{then-i-gt0+in_ok-push_str, else-i-gt0}

pub loop-i-preserved : goal.loop-i-preserved
loop-i-preserved c =
    let names = c.args.names.now in
    let i = c.loop-i.i in
    let name = c.index-names-i.result in
    let row = string_bytes c.loop-i.row in
    let within : i < length names = c.loop-i-test.true in
    let word : c.as_str-in-loop-i.result.now ≡ quoted (get_or names i name) =
    c.as_str-in-loop-i.ensures ∙ c.in_ok-word.ensures ∙ ap quoted (c.as_str.ensures ∙ c.index-names-i.is) in
    c.in_ok-push_str-2.ensures.bytes ∙ ap (λ l. string_bytes c.if-i-gt0.row ++ l) word ∙ elim c.if-i-gt0.branch [
      | then-i-gt0+in_ok-push_str w ↦
          let spaced : string_bytes c.if-i-gt0.row ≡ row ++ 32 ∷ [] = ap string_bytes w.row-is ∙ w.in_ok-push_str.ensures.bytes in
          ap (λ l. l ++ quoted (get_or names i name)) spaced ∙ row-later names i name row w.if-i-gt0.true within c.loop-i.invariant
      | else-i-gt0 w ↦
          ap (λ r. string_bytes r ++ quoted (get_or names i name)) w.row-is ∙ row-first names i name row w.if-i-gt0.false within c.loop-i.invariant
    ]
