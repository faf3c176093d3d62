use Rattle.std.proofs.lemmas.Grind.{common_steps}
use Rattle.std.proofs.Common.{arith}
use Rattle.dired_text.proofs.PathLemmas.{slashed-push}
use Rattle.host_looks.proofs.host_paths.push_names.Goals as goal

pub loop-name-preserved : goal.loop-name-preserved
loop-name-preserved c = grind (arith, common_steps, slashed-push)
