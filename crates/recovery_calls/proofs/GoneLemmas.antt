-- The entries that are removed at the end, one after another.
use Rattle.std.proofs.Common.{◌≡◌, ℕ, zero, suc, ◌+◌, ◌<◌, List, [], ◌∷◌, ◌++◌, length, drop, get_or, sym, ◌∙◌, ap, subst, arith}
use Rattle.std.proofs.lemmas.List.{drop_more}
use Rattle.std.specs.List.{AllByRecursion}
use Rattle.commit_states.specs.Calls.{Items, removals_by}
use Rattle.recovery_calls.specs.declared.ending.Ending.{Ending}
use Rattle.recovery_calls.specs.declared.work.Entry.{Entry}
use Rattle.recovery_calls.specs.Endings.{MayEnd, gone_in, gone_one}
use Rattle.recovery_calls.specs.Underway.{AreOnce}
use Rattle.recovery_calls.specs.Works.{names_of}
use Rattle.recovery_calls.proofs.EndingLemmas.{Alike, gone_alike, gone_first, may_alike, others_same}
use Rattle.recovery_calls.proofs.RestLemmas.{Rest, rest_as, rest_next}
use Rattle.staging_names.specs.declared.entry_name.EntryName.{EntryName}
use Rattle.tree_core.specs.declared.node.Change.{Change}
use Rattle.tree_core.specs.History.{History, current_tree}
use Rattle.tree_core.specs.Runs.{then_all}

pub all_at : {X : Type 0} (P : X → Type 0) (xs : List X) (k : ℕ) (x : X) → k < length xs → x ≡ get_or xs k x → AllByRecursion P xs → P x
all_at P [] k x lt is all = absurd (omega arith)
all_at P (y ∷ xs) zero x lt is all = subst P (sym is) all.0
all_at P (y ∷ xs) (suc k) x lt is all = all_at P xs k x (omega arith) is all.1

once_drop : (entries : List Entry) (n : ℕ) → AreOnce (names_of entries) → AreOnce (names_of (drop n entries))
once_drop entries zero once = once
once_drop [] (suc n) once = tt
once_drop (e ∷ entries) (suc n) once = once_drop entries n once.1

module _ (end : Ending) (entries : List Entry) (i : ℕ) (entry : Entry) (lt : i < length entries) (is : entry ≡ get_or entries i entry) where
  next : drop i entries ≡ entry ∷ drop (i + 1) entries
  next = drop_more entries i entry lt ∙ ap (λ (x : Entry). x ∷ drop (i + 1) entries) (sym is)

  abbrev pub rest_names : List EntryName
  rest_names = names_of (drop (i + 1) entries)

  names : names_of (drop i entries) ≡ entry.name ∷ rest_names
  names = ap names_of next

  once_here : AreOnce (names_of entries) → AreOnce (entry.name ∷ rest_names)
  once_here once = subst AreOnce names (once_drop entries i once)

  module _ (now : History) where
    pub may_here : AllByRecursion (MayEnd end (current_tree now)) (names_of (drop i entries)) → AllByRecursion (MayEnd end (current_tree now)) (entry.name ∷ rest_names)
    may_here may = subst (AllByRecursion (MayEnd end (current_tree now))) names may

    module _ (once : AreOnce (names_of entries)) (new : History) (done : new ≡ then_all now (removals_by (gone_one end (current_tree now) entry.name))) where
      alike : AllByRecursion (Alike (current_tree now) (current_tree new)) rest_names
      alike = subst (λ (h : History). AllByRecursion (Alike (current_tree now) (current_tree h)) rest_names) (sym done) (others_same end entry.name rest_names now (once_here once))

      pub may_next : AllByRecursion (MayEnd end (current_tree now)) (names_of (drop i entries)) → AllByRecursion (MayEnd end (current_tree new)) rest_names
      may_next may = may_alike end (current_tree now) (current_tree new) rest_names alike (may_here may).1

      gone_same : gone_in end (current_tree now) rest_names ≡ gone_in end (current_tree new) rest_names
      gone_same = sym (gone_alike end (current_tree now) (current_tree new) rest_names alike)

    module _ (all : List Change) (began : History) (r : Rest all began now (removals_by (gone_in end (current_tree now) (names_of (drop i entries))))) where
      pub gone_split : Rest all began now (removals_by (gone_one end (current_tree now) entry.name) ++ removals_by (gone_in end (current_tree now) rest_names))
      gone_split =
          rest_as all began now (removals_by (gone_in end (current_tree now) (names_of (drop i entries)))) (removals_by (gone_one end (current_tree now) entry.name) ++ removals_by (gone_in end (current_tree now) rest_names)) r
          (ap (λ (l : List EntryName). removals_by (gone_in end (current_tree now) l)) names ∙ gone_first end (current_tree now) entry.name rest_names)

      pub gone_next : AreOnce (names_of entries) → (new : History) → new ≡ then_all now (removals_by (gone_one end (current_tree now) entry.name)) → Rest all began new (removals_by (gone_in end (current_tree new) rest_names))
      gone_next once new done =
          rest_as all began new (removals_by (gone_in end (current_tree now) rest_names)) (removals_by (gone_in end (current_tree new) rest_names))
          (rest_next all began now new (removals_by (gone_one end (current_tree now) entry.name)) (removals_by (gone_in end (current_tree now) rest_names)) gone_split done)
          (ap (λ (l : Items). removals_by l) (gone_same once new done))
