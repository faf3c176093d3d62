use Rattle.std.proofs.Common.{◌≡◌, ◌&&◌, [], ◌∷◌, not, is_none, sym, ◌∙◌, ap}
use Rattle.std.proofs.lemmas.List.Folds.{list_all-append}
use Rattle.std.specs.Ordering.{eq_by_cmp}
use Rattle.dired_text.specs.Paths.{path_cmp}
use Rattle.path_map.specs.Walks.{is_above, value_at}
use Rattle.step_cuts.proofs.ApartLemmas.{apart_more, both_of, first_of, none_more}
use Rattle.step_cuts.proofs.named_paths.NamedPaths.name.Goals.{then-self, else-self}
use Rattle.step_cuts.proofs.named_paths.NamedPaths.name.Goals as goal

pub returns-clause-paths : goal.returns-clause-paths
returns-clause-paths c ps holds =
    let path = c.args.path.now in
    let old = c.args.self.now in
    let is_apart = c.in_ok-is_apart.is_apart in
    let apart : c.if-self.self ≡ (old.are_apart && is_apart) = elim c.if-self.branch [
      | then-self w ↦ both_of c.if-self.self old.are_apart is_apart w.if-self.true w.self-is
      | else-self w ↦ first_of c.if-self.self old.are_apart is_apart w.if-self.false w.self-is
    ] in
    record {
      named = λ p.
          ap is_none (c.in_ok-set.ensures.set p)
          ∙ none_more (eq_by_cmp path_cmp path p) _ (value_at old.named p) _ (holds.named p)
          ∙ sym (list_all-append (λ q. not (eq_by_cmp path_cmp q p)) ps (path ∷ []));
      above = λ p.
          ap is_none (c.in_ok-set_above.ensures.set p)
          ∙ none_more (is_above p path) _ (value_at old.above p) _ (holds.above p)
          ∙ sym (list_all-append (λ q. not (is_above p q)) ps (path ∷ []));
      apart = apart ∙ apart_more ps path old.are_apart is_apart holds.apart (c.in_ok-is_apart.ensures ps holds);
    }
