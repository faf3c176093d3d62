use Rattle.std.proofs.Common.{◌∙◌, ap, arith, length, ℕ, List, ◌^◌}
use Rattle.std.specs.Int.{w32, to_be_bytes}
use Rattle.std.proofs.lemmas.List.{length-append}
use Rattle.commit_journal.specs.Grammar.{magic}
use Rattle.commit_journal.proofs.ReadLemmas.{wide32, number_takes}
use Rattle.commit_journal.proofs.JournalLemmas.{magic_takes}
use Rattle.commit_journal.proofs.decoding.read_journal.Goals as goal

pub at-requires-in-Err-read_four : goal.at-requires-in-Err-read_four
at-requires-in-Err-read_four c =
    let t = magic_takes c.args.bytes.now c.in-Ok.read.0 c.in-Ok.read.1.now (λ i. omega (arith, c.type_inv.bytes i)) c.in-Ok.ensures in
    let len = ap (λ (l : List ℕ). length l) t.parts ∙ length-append (magic c.in-Ok.read.0) c.in-Ok.read.1.now in
    omega arith

pub read_steps-requires : goal.read_steps-requires
read_steps-requires c =
    let t = magic_takes c.args.bytes.now c.in-Ok.read.0 c.in-Ok.read.1.now (λ i. omega (arith, c.type_inv.bytes i)) c.in-Ok.ensures in
    let len = ap (λ (l : List ℕ). length l) t.parts ∙ length-append (magic c.in-Ok.read.0) c.in-Ok.read.1.now in
    let n = number_takes w32 (2 ^ 32) wide32 c.in-Ok.read.1.now c.in-Ok-read_four.read.0 c.in-Ok-read_four.read.1.now t.rest_fits c.in-Ok-read_four.ensures in
    let behind = ap (λ (l : List ℕ). length l) n.0.parts ∙ length-append (to_be_bytes w32 c.in-Ok-read_four.read.0) c.in-Ok-read_four.read.1.now in
    omega arith
