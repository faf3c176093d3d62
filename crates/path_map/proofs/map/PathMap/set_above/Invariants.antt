use Rattle.std.proofs.Common.{◌≡◌, ◌<◌, Some, cond, length, take}
use Rattle.dired_text.specs.Paths.{Names}
use Rattle.path_map.specs.Walks.{IsPathMap, is_above, value_at, walk}
use Rattle.path_map.proofs.map.PathMap.set_above.Given as goal

abbrev pub invariant-loop-name : goal.invariant-loop-name
invariant-loop-name g l = record {
  is : IsPathMap l.self;
  made : l.at < length l.self.below.items;
  walked : walk l.self.below.items 0 (take l.name-index l.path) ≡ Some l.at;
  kept : (p : Names) → value_at l.self p ≡ cond (is_above p (take l.name-index l.path)) (Some l.fn.mark) (value_at l.fn.self p);
}
