use Rattle.std.proofs.Common.{◌≡◌, ◌≤◌, ◌<◌, ◌+◌, [], ◌∷◌, length, take, true, false, arith, rules, sym}
use Rattle.std.proofs.lemmas.List.{append-nil}
use Rattle.edit_words.specs.Found.{sight_in}
use Rattle.edit_words.specs.Sight.{is_dir}
use Rattle.edit_words.proofs.FindingsLemmas.{grown_on}
use Rattle.edit_looks.proofs.LookLemmas.{dirs_above, dirs_next, dirs_stay, seen_all, seen_cut}
use Rattle.edit_looks.proofs.see.see_down.Goals as goal

pub see_here-requires-clause-above : goal.see_here-requires-clause-above
see_here-requires-clause-above g c =
    let path = c.args.path.now in
    let is : c.in_ok-at.at ≡ take c.loop-len.len path = search rules in
    let below : c.loop-len.len < length path + 1 = search rules in
    dirs_above c.loop-len.findings path c.in_ok-at.at c.loop-len.len c.loop-len.invariant.dirs is (omega (arith, below))

pub returns-then-not-branch-clause-seen : goal.returns-then-not-branch-clause-seen
returns-then-not-branch-clause-seen g c =
    let path = c.args.path.now in
    let is : c.in_ok-at.at ≡ take c.loop-len.len path = search rules in
    let below : c.loop-len.len < length path + 1 = search rules in
    let other : is_dir ((sight_in c.see_here.new.findings).at c.in_ok-at.at) ≡ false = search rules in
    seen_cut c.see_here.new.findings path c.in_ok-at.at c.loop-len.len (dirs_stay path c.loop-len.len c.see_here.ensures.grown c.loop-len.invariant.dirs) is (omega (arith, below)) c.in_ok-see_here.ensures.looked_at other path [] (sym (append-nil path))

pub returns-then-not-branch-clause-above : goal.returns-then-not-branch-clause-above
returns-then-not-branch-clause-above g c u over =
    let path = c.args.path.now in
    let is : c.in_ok-at.at ≡ take c.loop-len.len path = search rules in
    let below : c.loop-len.len < length path + 1 = search rules in
    let other : is_dir ((sight_in c.see_here.new.findings).at c.in_ok-at.at) ≡ false = search rules in
    seen_cut c.see_here.new.findings path c.in_ok-at.at c.loop-len.len (dirs_stay path c.loop-len.len c.see_here.ensures.grown c.loop-len.invariant.dirs) is (omega (arith, below)) c.in_ok-see_here.ensures.looked_at other u (over.0 ∷ over.1) over.2

pub loop-len-preserved : goal.loop-len-preserved
loop-len-preserved g c =
    let path = c.args.path.now in
    let is : c.in_ok-at.at ≡ take c.loop-len.len path = search rules in
    let below : c.loop-len.len < length path + 1 = search rules in
    let here : is_dir ((sight_in c.see_here.new.findings).at c.in_ok-at.at) ≡ true = search rules in
    record {
      dirs = dirs_next path c.in_ok-at.at c.loop-len.len c.loop-len.invariant.dirs c.see_here.ensures.grown is (omega (arith, below)) here;
      grown = grown_on c.loop-len.invariant.grown c.see_here.ensures.grown;
      closed = search rules;
      told = search rules;
      history = search rules;
      fields = search rules;
      before = search rules;
      faults = search rules;
      changes = search rules;
    }

pub returns-clause-seen : goal.returns-clause-seen
returns-clause-seen g c =
    let path = c.args.path.now in
    let over : length path < c.loop-len.len = search rules in
    seen_all c.loop-len.findings path c.loop-len.len c.loop-len.invariant.dirs over path [] (sym (append-nil path))

pub returns-clause-above : goal.returns-clause-above
returns-clause-above g c u above =
    let path = c.args.path.now in
    let over : length path < c.loop-len.len = search rules in
    seen_all c.loop-len.findings path c.loop-len.len c.loop-len.invariant.dirs over u (above.0 ∷ above.1) above.2
