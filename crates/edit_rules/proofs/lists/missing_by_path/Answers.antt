use Rattle.std.proofs.Common.{◌≡◌, ◌∙◌, ap, Bool, List, rules, subst, sym}
use Rattle.std.specs.Cmp.Rules.{comparing}
use Rattle.std.specs.Cmp.{IsEquivalence, unsigned_ties}
use Rattle.std.specs.Cmp.Lexicographic.{pointwise, slice_cmp, lists_ties}
use Rattle.std.specs.List.{dedup, flat_map, list_any}
use Rattle.std.specs.Ordering.{eq_by_cmp, nat_cmp}
use Rattle.std.specs.Prelude.{nat_eq}
use Rattle.std.proofs.lemmas.List.Filters.{dedup_is}
use Rattle.std.proofs.lemmas.List.Kept.{IsStrictlySortedBy-dedup}
use Rattle.dired_text.specs.Paths.{Names, path_cmp}
use Rattle.dired_text.proofs.PathLemmas.{path_cmp-total}
use Rattle.edit_words.proofs.SameLemmas.{same_path}
use Rattle.edit_words.specs.Found.{sight_in}
use Rattle.edit_words.specs.Refusals.{missing_above}
use Rattle.edit_words.specs.Rows.{is_same_path}
use Rattle.edit_rules.proofs.PlanLemmas.{sorted_same}
use Rattle.edit_rules.proofs.lists.missing_by_path.Goals as goal

abbrev same : Names → Names → Bool
same = pointwise (pointwise nat_eq)

equal : IsEquivalence same
equal = search (comparing, rules)

ties : (p q : Names) → same p q ≡ eq_by_cmp path_cmp p q
ties = lists_ties (slice_cmp nat_cmp) (lists_ties nat_cmp unsigned_ties)

pub returns : goal.returns
returns c =
    let is : c.dedup.new.self.items ≡ dedup same c.sort_unstable.new.self.items = dedup_is _ _ _ c.dedup.ensures.filtered in
    let all : c.in_ok-missing.missing.items ≡ flat_map (missing_above (sight_in c.args.findings.now)) c.args.table.now.rows.items = search rules in
    record {
      sorted = rw is (IsStrictlySortedBy-dedup path_cmp-total ties c.sort_unstable.new.self.items c.sort_unstable.ensures.sorted);
      same = λ p. sorted_same equal (λ a b e. same_path a b (sym (ties a b) ∙ e)) c.in_ok-missing.missing.items c.sort_unstable.new.self.items c.dedup.new.self.items c.sort_unstable.ensures.permutation is p
          ∙ ap (λ (l : List Names). list_any (is_same_path p) l) all;
    }
