-- Sets of paths that come one by one.
use Rattle.std.specs.Prelude.{◌≡◌, List}
use Rattle.std.specs.List.{list_any}
use Rattle.std.specs.BTreeSet.{BTreeSet, contains, btree_set_len}
use Rattle.dired_text.specs.Paths.{Names, path_cmp}
use Rattle.edit_words.specs.Rows.{is_same_path}
use Rattle.edit_words.specs.Counting.{different}

-- a set has these paths, of which some may be the same
pub record HasPaths (set : BTreeSet Names) (ps : List Names) : Type 0 where
  pub has : (p : Names) → contains path_cmp set p ≡ list_any (is_same_path p) ps
  pub len : btree_set_len set ≡ different ps
