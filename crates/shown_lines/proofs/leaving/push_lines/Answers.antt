use Rattle.std.proofs.Common.{◌≡◌, ◌++◌, List, [], ◌∷◌, append_assoc, ap, sym, ◌∙◌, Option, None}
use Rattle.std.specs.Option.{option_map}
use Rattle.dired_text.specs.Paths.{Names}
use Rattle.dired_text.specs.Resolve.{resolved}
use Rattle.listing_text.specs.declared.line.Line.{Line}
use Rattle.mark_table.specs.PathMarks.{PathMarks}
use Rattle.omit_rules.specs.Omitters.{rules_of}
use Rattle.omit_rules.specs.declared.rules.Rules.{Rules}
use Rattle.shown_lines.specs.Omitted.{omitted_lines}
use Rattle.shown_lines.specs.Outcomes.{outcome_of}
use Rattle.shown_lines.specs.Shown.{omits}
use Rattle.shown_lines.proofs.OmittedLemmas.{at-shown, at-unnamed, omitted-more, omitted-same}
use Rattle.shown_lines.proofs.leaving.push_lines.Goals as goal
use Rattle.shown_lines.proofs.leaving.push_lines.Goals.{in-Omitted+in_ok-push-in-Omitted, in-Shown, in-Unnamed}

pub loop-line-preserved : goal.loop-line-preserved
loop-line-preserved c =
    let rules : Option Rules = option_map rules_of c.args.omitter.now in
    let marks : PathMarks = c.args.marks.now.marks in
    let dir : Names = c.args.dir.now in
    let line : Line = c.in-Some.line in
    let lines : List Line = c.loop-line.yielded in
    let old : List Names = c.args.paths.now.items in
    let outcome : c.in_ok-path.field-0 ≡ outcome_of (omits rules marks) (resolved dir line.name) =
    c.in_ok-path.ensures.outcome ∙ ap (λ (r : Option Rules). outcome_of (omits r marks) (resolved dir line.name)) c.loop-line.invariant.same in
    elim c.match-branch-2.branch [
      | in-Omitted+in_ok-push-in-Omitted w ↦
          let path : Names = w.in-Omitted.path in
          let pushed : w.push.new.self.items ≡ c.loop-line.paths.items ++ path ∷ [] = w.in_ok-push-in-Omitted.ensures.items in
          record {
            paths = ap (λ v. v.items) w.paths-is
                ∙ (pushed
                ∙ (ap (λ (ps : List Names). ps ++ path ∷ []) c.loop-line.invariant.paths
                ∙ (append_assoc old (omitted_lines rules marks dir lines) (path ∷ [])
                ∙ ap (λ (ps : List Names). old ++ ps) (sym (omitted-more rules marks dir lines line path (sym w.in-Omitted.is ∙ outcome))))));
            same = c.decide.ensures.same ∙ c.loop-line.invariant.same;
          }
      | in-Shown w ↦
          let kept = omitted-same rules marks dir lines line (at-shown rules marks (resolved dir line.name) w.in-Shown.field-0 (sym w.in-Shown.is ∙ outcome)) in
          record {
            paths = ap (λ v. v.items) w.paths-is ∙ (c.loop-line.invariant.paths ∙ ap (λ (ps : List Names). old ++ ps) (sym kept));
            same = c.decide.ensures.same ∙ c.loop-line.invariant.same;
          }
      | in-Unnamed w ↦
          let kept = omitted-same rules marks dir lines line (at-unnamed rules marks (resolved dir line.name) (sym w.in-Unnamed.is ∙ outcome)) in
          record {
            paths = ap (λ v. v.items) w.paths-is ∙ (c.loop-line.invariant.paths ∙ ap (λ (ps : List Names). old ++ ps) (sym kept));
            same = c.decide.ensures.same ∙ c.loop-line.invariant.same;
          }
    ]
