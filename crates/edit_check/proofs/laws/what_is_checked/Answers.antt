use Rattle.std.proofs.Common.{◌≡◌, List, None, ap, ◌∙◌, subst}
use Rattle.edit_words.specs.declared.row.Row.{Row}
use Rattle.edit_words.specs.Counting.{counts_of}
use Rattle.edit_words.specs.Found.{sight_in, IsCovered}
use Rattle.edit_words.specs.Refusals.{refusal}
use Rattle.edit_looks.proofs.LookLemmas.{dirs_over}
use Rattle.edit_check.proofs.CheckLemmas.{modes_found, root_found}
use Rattle.edit_check.proofs.laws.what_is_checked.Goals as goal

pub returns : goal.returns
returns c =
    let k = c.args.checked.now in
    let covered = subst (IsCovered k.findings) k.rows_are k.covered in
    record {
      asked = k.asked;
      taken = subst (λ (rs : List Row). refusal (sight_in k.findings) k.confirmed rs ≡ None) k.rows_are k.taken;
      above = λ p u is over. dirs_over k.findings p u k.closed is over;
      root = λ r w listed to. root_found k.findings w k.closed (covered.new_paths r w listed to) (λ u over. covered.above r w u listed to over);
      modes = modes_found k.findings k.closed;
      counted = k.counted ∙ ap (counts_of (sight_in k.findings)) k.rows_are;
    }
