use Rattle.std.proofs.Common.{ℕ, List, ◌∙◌, ap, sym, Some, Bor}
use Rattle.std.specs.Option.{option_map}
use Rattle.std.specs.FinMap.{get}
use Rattle.mem_tree.specs.Slots.{file_number}
use Rattle.mem_tree.specs.Stores.{times_of, tree_of}
use Rattle.mem_tree.proofs.StoreLooks.{bytes_none, bytes_some}
use Rattle.mem_tree.proofs.store.Store.bytes.Goals as goal

pub returns-in_err-number : goal.returns-in_err-number
unfolding tree_of times_of
returns-in_err-number c =
    ap (option_map (λ (b : Bor (List ℕ)). b.now)) c.from_residual.ensures
    ∙ sym (bytes_none c.args.self.now.slots c.args.self.now.files c.args.path.now (ap (λ p. file_number (get c.args.self.now.slots p)) (sym c.names.ensures.names) ∙ sym c.in_err-number.ensures))

pub returns : goal.returns
unfolding tree_of times_of
returns c =
    ap (λ b. Some b) c.bytes.ensures
    ∙ bytes_some c.args.self.now.slots c.args.self.now.files c.args.path.now c.in_ok-number.number c.args.self.now.counted (ap (λ p. file_number (get c.args.self.now.slots p)) (sym c.names.ensures.names) ∙ sym c.in_ok-number.ensures)
