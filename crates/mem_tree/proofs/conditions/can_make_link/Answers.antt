use Rattle.std.proofs.Common.{true, refl}
use Rattle.mem_tree.specs.Stores.{tree_of}
use Rattle.mem_tree.proofs.LawfulLemmas.{target_told}
use Rattle.mem_tree.proofs.StoreLooks.{made_told}
use Rattle.mem_tree.proofs.conditions.can_make_link.Goals as goal

pub returns-then-can_make : goal.returns-then-can_make
returns-then-can_make c =
    let told = target_told c.is_target.result c.args.target.now c.is_target.ensures.lawful in
    (λ t. ((made_told (tree_of c.args.store.now) c.args.path.now true c.if-can_make.ensures.named c.if-can_make.ensures.can).0 refl, told.0 t, c.is_target.ensures.text), λ can. told.1 can.1)
