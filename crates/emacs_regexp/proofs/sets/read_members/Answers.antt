use Rattle.std.proofs.Common.{◌≡◌, ◌≤◌, ◌<◌, ◌+◌, ◌-◌, Ok, Some, length, ap, sym, ◌∙◌, arith, length-drop}
use Rattle.emacs_regexp.specs.Sets.{member_of}
use Rattle.emacs_regexp.proofs.SetLemmas.{front-next}
use Rattle.emacs_regexp.proofs.sets.read_members.Goals as goal

pub loop-c-preserved : goal.loop-c-preserved
loop-c-preserved c =
    let taken = c.in-Some-2.taken in
    let rest = c.loop-c.rest.now in
    let cs = c.in-Some.later.now in
    let is = c.in-Some.ensures.cases.0 in
    let read : member_of c.loop-c.is_first c.loop-c.at c.in-Some.c.now cs ≡ Ok (Some (c.in-Some-2.member, taken)) = sym c.next_member.ensures.member ∙ c.in_ok-member.was ∙ ap Ok c.in-Some-2.is in
    let some : 0 < taken = rw c.in-Some-2.is at c.in_ok-member.ensures.some in
    let within : taken ≤ length cs + 1 = rw c.in-Some-2.is at c.in_ok-member.ensures.within in
    let left : length c.behind-rest.result.now + taken ≡ length rest = omega (arith, ap length is, ap length c.behind-rest.ensures, length-drop taken rest) in
    let count : (length c.args.text.now - length rest) + taken ≡ length c.args.text.now - length c.behind-rest.result.now = omega arith in (
      omega arith,
      omega arith,
      c.loop-c.invariant.2
          ∙ front-next c.args.opened c.loop-c.is_first c.loop-c.at c.in-Some.c.now cs rest c.loop-c.members (length c.args.text.now - length rest) c.in-Some-2.member taken is read some within
          ∙ cc (count, c.behind-rest.ensures, c.in_ok-push-in-Some-2.ensures),
    )
