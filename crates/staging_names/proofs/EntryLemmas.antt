-- A list that was sorted and of which each was kept once.
use Rattle.std.proofs.Common.{◌≡◌, Bool, true, List, rules}
use Rattle.std.specs.Cmp.{IsEquivalence, IsTotalOrder}
use Rattle.std.specs.List.{dedup}
use Rattle.std.specs.List.Sorted.{IsPermutation, IsSorted}
use Rattle.std.specs.Ordering.{eq_by_cmp}
use Rattle.std.proofs.lemmas.List.Kept.{Contains-dedup, Contains-from_dedup, IsStrictlySortedBy-dedup}
use Rattle.std.proofs.lemmas.List.Sorted.{Contains-permutation, IsPermutation-sym}
use Rattle.staging_names.specs.contracts.entry_name.EntryNameEq.TheImpl.Laws as entry_same
use Rattle.staging_names.specs.contracts.entry_name.EntryNameOrd.TheImpl.Laws as entry_ordered
use Rattle.staging_names.specs.contracts.entry_name.EntryNamePartialEq.TheImpl as entry_eq
use Rattle.staging_names.specs.declared.entry_name.EntryName.{EntryName}
use Rattle.staging_names.specs.Entries.{AreEntries, entry_cmp}

abbrev pub same_entry : EntryName → EntryName → Bool
same_entry = (entry_eq.ghosts).eq

equal : IsEquivalence same_entry
equal = entry_same.laws-law

total : IsTotalOrder entry_cmp
total = entry_ordered.total-law

ties : (x y : EntryName) → same_entry x y ≡ eq_by_cmp entry_cmp x y
ties = entry_ordered.matches_eq-law

exact : (x y : EntryName) → same_entry x y ≡ true → x ≡ y
exact x y e = search rules

pub kept_once : (wanted sorted es : List EntryName) → IsPermutation wanted sorted → IsSorted entry_cmp sorted → es ≡ dedup same_entry sorted → AreEntries wanted es
kept_once wanted sorted es moved order is = record {
  rise = rw is (IsStrictlySortedBy-dedup total ties sorted order);
  same = λ e. (
    λ has. Contains-permutation sorted wanted e (IsPermutation-sym wanted sorted moved) (Contains-from_dedup same_entry sorted e (rw is at has)),
    λ has. rw is (Contains-dedup equal exact sorted e (Contains-permutation wanted sorted e moved has)),
  );
}
