-- What is told of what is changed, by whatever tree.
use Rattle.std.proofs.Common.{◌≡◌, inl, inr, ℕ, true, List, [], ◌∷◌, refl, Option, Some, None, is_some, IsTrue}
use Rattle.std.specs.Prelude.{Contains}
use Rattle.dired_text.specs.Paths.{Names}
use Rattle.commit_steps.specs.Steps.{IsModeBits}
use Rattle.edit_check.specs.declared.checked.Checked.{Checked}
use Rattle.edit_check.specs.StandFor.{IsChecked, changes_in, found_in}
use Rattle.edit_words.specs.declared.row.Row.{Row}
use Rattle.edit_words.specs.declared.seen.Seen.{Seen}
use Rattle.edit_words.specs.Found.{seen_mode}
use Rattle.edit_words.specs.Place.{IsAbove}
use Rattle.edit_words.specs.Rows.{rows}
use Rattle.edit_words.specs.Sight.{Sight, is_dir}
use Rattle.plan_journals.proofs.Taken.{AreTaken}
use Rattle.plan_journals.proofs.StepPaths.{outside_root}

-- Where something is changed something stands at the root, and modes have at most the bits 0o7777.
pub record IsTold (sight : Sight) (rs : List Row) : Type 0 where
  pub root : (r : Row) → Contains rs r → IsTrue (is_some (sight.at []))
  pub modes : (p : Names) (mode : ℕ) → seen_mode (sight.at p) ≡ Some mode → IsModeBits mode

root_above : (p : Names) → (p ≡ [] → ⊥) → IsAbove [] p
root_above [] un = absurd (un refl)
root_above (x ∷ p) un = (x, p, refl)

dir_some : (o : Option Seen) → is_dir o ≡ true → IsTrue (is_some o)
dir_some None e = absurd cc
dir_some (Some x) e = refl

module _ (sight : Sight) (rs : List Row) (set : AreTaken sight rs) where
  -- it stands above what is changed, or above what is made
  root_by : (r : Row) → Contains rs r → ((w : Names) → r.to ≡ Some w → is_dir (sight.at []) ≡ true) → IsTrue (is_some (sight.at []))
  root_by r c far = by_source r.source refl
    where
      by_source : (o : Option Names) → r.source ≡ o → IsTrue (is_some (sight.at []))
      by_source (Some s) source = dir_some (sight.at []) (set.above s [] (set.stands r s c source) (root_above s (outside_root s (set.outside r s c (inl source)))))
      by_source None none = let w = set.created r c none in dir_some (sight.at []) (far w.0 w.1)

pub told : (checked : Checked) → IsChecked checked → AreTaken (found_in checked) (rows (changes_in checked)) → IsTold (found_in checked) (rows (changes_in checked))
told checked is set = record {
  root = λ r c. root_by (found_in checked) (rows (changes_in checked)) set r c (λ w to. is.root r w c to);
  modes = λ p mode e. is.modes p mode e;
}
