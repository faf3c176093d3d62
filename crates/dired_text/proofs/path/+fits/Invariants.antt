use Rattle.std.proofs.Common.{length}
use Rattle.dired_text.proofs.path.+fits.Given as goal

abbrev pub decreases-fits : goal.decreases-fits
decreases-fits l = length l.names.now
