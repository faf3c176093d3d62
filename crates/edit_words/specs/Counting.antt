-- How much changes change.
use Rattle.std.specs.Prelude.{ℕ, ◌+◌, not, ◌&&◌, List, [], ◌∷◌, is_some, count_by, if◌then◌else◌}
use Rattle.std.specs.List.{flat_map, list_any}
use Rattle.dired_text.specs.Paths.{Names}
use Rattle.edit_words.specs.declared.row.Row.{Row}
use Rattle.edit_words.specs.declared.counts.Counts.{Counts}
use Rattle.edit_words.specs.Rows.{is_same_path}
use Rattle.edit_words.specs.Sight.{Sight}
use Rattle.edit_words.specs.Refusals.{missing_above, victim_of}

-- how many different paths there are: each is counted where it stands last
abbrev pub different : List Names → ℕ
different [] = 0
different (p ∷ ps) = (if list_any (is_same_path p) ps then 0 else 1) + different ps

abbrev pub counts_of : Sight → List Row → Counts
counts_of sight rs = record {
  renamed = count_by (λ (r : Row). is_some r.source && is_some r.to) rs;
  retargeted = count_by (λ (r : Row). r.retargets) rs;
  modes = count_by (λ (r : Row). is_some r.mode) rs;
  replaced = count_by (λ (r : Row). is_some (victim_of sight rs r)) rs;
  made = different (flat_map (missing_above sight) rs);
  removed = count_by (λ (r : Row). r.removes) rs;
  created = count_by (λ (r : Row). not (is_some r.source)) rs;
}
