use Rattle.std.proofs.Common.{◌≡◌, ◌++◌, ◌∷◌, [], rules}
use Rattle.commit_steps.specs.Staging.{staged, temporary}
use Rattle.commit_plan.proofs.RunLemmas.{sound_put_away}
use Rattle.commit_plan.proofs.TurnLemmas.{turns_put_away}
use Rattle.commit_plan.proofs.board.Board.put_away.Goals as goal

pub returns-clause-sound : goal.returns-clause-sound
returns-clause-sound c =
    let pushed : c.push.new.self.items ≡ c.args.self.now.queue.items ++ c.args.i ∷ [] = search rules in
    sound_put_away c.args.self.now _ c.args.i (staged (temporary c.args.number)) c.in_ok-step.step c.index.result.now c.push.new.self.items c.requires.sound c.in_ok-step.ensures c.index.ensures c.drop_put_away.ensures pushed c.in_ok-release.ensures

pub returns-clause-turns : goal.returns-clause-turns
returns-clause-turns c =
    let pushed : c.push.new.self.items ≡ c.args.self.now.queue.items ++ c.args.i ∷ [] = search rules in
    turns_put_away c.args.self.now _ c.args.i (staged (temporary c.args.number)) c.in_ok-step.step c.push.new.self.items c.in_ok-step.ensures pushed c.in_ok-release.ensures c.requires.turns
