use Rattle.std.proofs.Common.{true, false}
use Rattle.mark_table.proofs.MoveLemmas.{arrived_at, elsewhere}
use Rattle.mark_table.proofs.laws.moved_at_each_path.Goals as goal

pub returns : goal.returns
returns c = record {
  arrived = λ front back e is none. arrived_at c.args.moves.now front back c.args.marks.now.marks e is none;
  departed = λ p s d. elsewhere c.args.moves.now c.args.marks.now.marks p true s d;
  stayed = λ p s d. elsewhere c.args.moves.now c.args.marks.now.marks p false s d;
}
