use Rattle.std.proofs.Common.{OnOk, subst, sym}
use Rattle.step_trees.specs.Groups.{paths_of}
use Rattle.step_layers.specs.Layering.{IsRaised}
use Rattle.step_layers.proofs.SoundLemmas.{on_ok, raised_both}
use Rattle.step_layers.proofs.layering.Layering.raise_step.Goals as goal

pub returns-in_ok-raise_path-in-Rename : goal.returns-in_ok-raise_path-in-Rename
returns-in_ok-raise_path-in-Rename c =
    let old = c.args.self.now in
    let mid = c.raise_path-in-Rename.new.self in
    let new = c.raise_path-in-Rename-2.new.self in
    subst (λ s. OnOk c.raise_path-in-Rename-2.result (IsRaised (paths_of s) c.args.floor old new)) (sym c.in-Rename.is)
    (on_ok c.raise_path-in-Rename-2.result (raised_both c.in-Rename.from c.in-Rename.to c.args.floor old mid new c.in_ok-raise_path-in-Rename.ensures) c.raise_path-in-Rename-2.ensures)
