use Rattle.std.proofs.Common.{◌∙◌, ap, sym, map}
use Rattle.std.specs.FinMap.{get, same_map}
use Rattle.dired_text.proofs.PathLemmas.{path_cmp-total, path_cmp-exact}
use Rattle.mem_tree.specs.Slots.{Slots}
use Rattle.mem_tree.specs.Moves.{Pairs, pairs_of, is_target, with_copies, without_each}
use Rattle.mem_tree.proofs.Answering.{on_ok, on_err_not, on_ok_not, on_err_all}
use Rattle.mem_tree.proofs.MoveLemmas.{moved_all, moved_back}
use Rattle.mem_tree.proofs.renaming.rename.Goals.{then-is_ok, else-is_ok}
use Rattle.mem_tree.proofs.renaming.rename.Goals as goal

pub returns-clause-ok : goal.returns-clause-ok
returns-clause-ok c = elim c.if-is_ok.branch [
  | then-is_ok w ↦ on_ok c.copy_slots-copied.result (λ is q.
      ap (λ (s : Slots). get s q) (w.slots-is ∙ w.remove_olds.ensures
      ∙ (λ i. without_each (map (λ p. p.0) ((ap pairs_of w.deref-then-is_ok.ensures.value ∙ c.in_ok-moves.ensures) i)) ((is ∙ ap (λ (l : Pairs). with_copies l c.args.slots.now) (ap pairs_of c.deref.ensures.value ∙ c.in_ok-moves.ensures)) i)))
      ∙ moved_all c.args.from.now c.args.to.now c.args.slots.now c.requires.clear q) c.copy_slots-copied.ensures.ok
  | else-is_ok w ↦ on_ok_not _ c.copy_slots-copied.result (sym c.is_ok.ensures.value ∙ w.if-is_ok.false)
]

pub returns-clause-err : goal.returns-clause-err
returns-clause-err c = elim c.if-is_ok.branch [
  | then-is_ok w ↦ on_err_not _ c.copy_slots-copied.result (sym c.is_ok.ensures.value ∙ w.if-is_ok.true)
  | else-is_ok w ↦ on_err_all c.copy_slots-copied.result (w.slots-is ∙ w.remove_news.ensures
      ∙ (λ i. without_each (map (λ p. p.1) ((ap pairs_of w.deref-else-is_ok.ensures.value ∙ c.in_ok-moves.ensures) i)) c.copy_slots-copied.new.slots)
      ∙ same_map path_cmp-total path_cmp-exact _ _ (moved_back c.args.from.now c.args.to.now c.args.slots.now c.requires.clear c.copy_slots-copied.new.slots
      (λ q other. c.copy_slots-copied.ensures.others q (ap (is_target q) (ap pairs_of c.deref.ensures.value ∙ c.in_ok-moves.ensures) ∙ other))))
]
