-- The counts of a drill, put together.
use Rattle.std.proofs.Common.{◌≡◌, ℕ}
use Rattle.tree_core.specs.FileTree.{FileTree}
use Rattle.drill_run.specs.declared.counts.DrillCounts.{DrillCounts}
use Rattle.drill_run.specs.Counts.{counts_with}

pub with_counts : (n : ℕ) (t : FileTree) (entries edits cycles replaced temporaries steps : ℕ)
    → entries ≡ (counts_with n t 0).entries → edits ≡ (counts_with n t 0).edits → cycles ≡ (counts_with n t 0).cycles → replaced ≡ (counts_with n t 0).replaced
    → temporaries ≡ (counts_with n t 0).temporaries → steps ≡ (counts_with n t 0).steps
    → ◌≡◌ {A = DrillCounts} (record { entries = entries; edits = edits; cycles = cycles; replaced = replaced; temporaries = temporaries; steps = steps; left = 0 }) (counts_with n t 0)
with_counts n t entries edits cycles replaced temporaries steps a b c d e f =
    λ i. record { entries = a i; edits = b i; cycles = c i; replaced = d i; temporaries = e i; steps = f i; left = 0 }
