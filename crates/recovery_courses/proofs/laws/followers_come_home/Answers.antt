use Rattle.recovery_courses.proofs.FollowLemmas.{followers_come_home}
use Rattle.recovery_courses.proofs.laws.followers_come_home.Goals as goal

pub returns : goal.returns
returns c = followers_come_home
