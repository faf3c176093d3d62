use Rattle.std.proofs.Common.{rules, ◌≡◌, ◌<◌, ◌++◌, ◌∷◌, [], List, length, ◌∙◌, ap, arith}
use Rattle.commit_steps.specs.declared.step.Step.{Step}
use Rattle.step_layers.specs.Layering.{contents}
use Rattle.step_layers.specs.Layers.{put}
use Rattle.step_layers.proofs.PutLemmas.{put_pad}
use Rattle.step_layers.proofs.SoundLemmas.{contents_length, contents_push, put_there}
use Rattle.step_layers.proofs.layering.put_step.Goals.{then-layer-len+in_ok-push, else-layer-len}
use Rattle.step_layers.proofs.layering.put_step.Goals as goal

pub returns : goal.returns
returns c =
    let v = c.index_mut.result.now in
    let layers = c.if-layer-len.layers.items in
    let n = c.args.layer in
    let within : n < length layers = search rules in
    let pushed : c.push-2.new.self.items ≡ v.items ++ c.args.step ∷ [] = search rules in
    put_there layers n c.args.step v c.push-2.new.self within c.index_mut.ensures.value pushed
    ∙ elim c.if-layer-len.branch [
      | then-layer-len+in_ok-push w ↦
          let old = c.args.layers.now.items in
          let more : w.push.new.self.items ≡ old ++ w.new.result ∷ [] = search rules in
          let none : w.new.result.items ≡ [] = search rules in
          let count : n ≡ length old = search rules in
          let long = contents_length old in
          ap (λ ls. put n c.args.step (contents ls.items)) w.layers-is
          ∙ ap (λ ls. put n c.args.step (contents ls)) more
          ∙ ap (put n c.args.step) (contents_push old w.new.result ∙ ap (λ (l : List Step). contents old ++ l ∷ []) none)
          ∙ put_pad c.args.step n (contents old) (omega (arith, count, long))
      | else-layer-len w ↦ ap (λ ls. put n c.args.step (contents ls.items)) w.layers-is
    ]
