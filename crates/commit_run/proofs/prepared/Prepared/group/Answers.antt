use Rattle.std.proofs.Common.{◌≡◌, ◌∙◌, ◌-◌, ◌+◌, List, ℕ, length, get_or, take, drop, ap, arith, rules}
use Rattle.commit_calls.specs.Cuts.{cut_at}
use Rattle.commit_steps.specs.declared.step.Step.{Step}
use Rattle.step_trees.specs.Groups.{groups}
use Rattle.commit_run.proofs.GroupLemmas.{cut_within, cuts_rise, end_is, ends_many, group_slice}
use Rattle.commit_run.proofs.prepared.Prepared.group.Goals as goal

pub end_at-end-requires : goal.end_at-end-requires
end_at-end-requires c =
    let same : c.deref.result.now ≡ c.args.self.now.ends.items = search rules in
    let long : length c.deref.result.now ≡ length c.args.self.now.ends.items = ap length same in
    let many = ends_many c.args.self.now c.requires.prepared in
    let lt = c.requires.number in
    omega arith

pub slice_bounds-result-count : goal.slice_bounds-result-count
slice_bounds-result-count c =
    let same : c.deref.result.now ≡ c.args.self.now.ends.items = search rules in
    let end : c.end_at-end.result ≡ cut_at (c.args.k + 1) (groups c.args.self.now.steps) = c.end_at-end.ensures ∙ ap (λ (l : List ℕ). get_or l c.args.k 0) same ∙ end_is c.args.self.now c.requires.prepared c.args.k c.requires.number in
    let from = c.place-from.ensures.place in
    let rise = cuts_rise c.args.self.now c.requires.prepared c.args.k c.requires.number in
    omega arith

pub slice_bounds-result-start : goal.slice_bounds-result-start
slice_bounds-result-start c =
    let same : c.deref.result.now ≡ c.args.self.now.ends.items = search rules in
    let end : c.end_at-end.result ≡ cut_at (c.args.k + 1) (groups c.args.self.now.steps) = c.end_at-end.ensures ∙ ap (λ (l : List ℕ). get_or l c.args.k 0) same ∙ end_is c.args.self.now c.requires.prepared c.args.k c.requires.number in
    let from = c.place-from.ensures.place in
    let rise = cuts_rise c.args.self.now c.requires.prepared c.args.k c.requires.number in
    let lt = c.requires.number in
    let within = cut_within c.args.self.now c.requires.prepared (c.args.k + 1) (omega arith) in
    omega arith

pub slice_bounds-result-end : goal.slice_bounds-result-end
slice_bounds-result-end c =
    let same : c.deref.result.now ≡ c.args.self.now.ends.items = search rules in
    let end : c.end_at-end.result ≡ cut_at (c.args.k + 1) (groups c.args.self.now.steps) = c.end_at-end.ensures ∙ ap (λ (l : List ℕ). get_or l c.args.k 0) same ∙ end_is c.args.self.now c.requires.prepared c.args.k c.requires.number in
    let lt = c.requires.number in
    let within = cut_within c.args.self.now c.requires.prepared (c.args.k + 1) (omega arith) in
    let all : length c.as_slice.result.now ≡ length c.args.self.now.steps = search rules in
    omega arith

pub returns : goal.returns
returns c =
    let same : c.deref.result.now ≡ c.args.self.now.ends.items = search rules in
    let end : c.end_at-end.result ≡ cut_at (c.args.k + 1) (groups c.args.self.now.steps) = c.end_at-end.ensures ∙ ap (λ (l : List ℕ). get_or l c.args.k 0) same ∙ end_is c.args.self.now c.requires.prepared c.args.k c.requires.number in
    let all : c.as_slice.result.now ≡ c.args.self.now.steps = search rules in
    ap (λ (l : List Step). take (c.end_at-end.result - c.place-from.result) (drop c.place-from.result l)) all
    ∙ ap (λ n. take (n - c.place-from.result) (drop c.place-from.result c.args.self.now.steps)) end
    ∙ ap (λ n. take (cut_at (c.args.k + 1) (groups c.args.self.now.steps) - n) (drop n c.args.self.now.steps)) c.place-from.ensures.place
    ∙ group_slice c.args.self.now c.requires.prepared c.args.k c.requires.number
