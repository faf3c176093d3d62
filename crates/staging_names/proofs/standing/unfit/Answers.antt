use Rattle.std.proofs.Common.{Option, position, not, ◌∙◌, ap}
use Rattle.staging_names.specs.declared.staged_name.Journal.{Journal}
use Rattle.staging_names.specs.Tests.{fits}
use Rattle.staging_names.proofs.standing.unfit.Goals as goal

pub returns : goal.returns
returns c = c.unfit_in.ensures ∙ ap (λ (row : Option Journal). position (λ f. not (fits row f)) c.args.found.now) c.requires
