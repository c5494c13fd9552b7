use Rattle.std.proofs.Common.{◌<◌, ◌∙◌, sym, ap, length, arith}
use Rattle.proof_trim.specs.Puts.{put_by}
use Rattle.proof_trim.proofs.StoreLaws.{length-steps}
use Rattle.proof_trim.proofs.PutLaws.{head_within, put_there}
use Rattle.proof_trim.proofs.store.StepStore.put_at.Goals as goal

pub start_of-start-requires : goal.start_of-start-requires
start_of-start-requires c = omega (arith, length-steps c.self.inside.integers 0 c.self.inside.ends, ap length c.self.view_is, c.requires)

pub end_of-end-requires : goal.end_of-end-requires
end_of-end-requires c = omega (arith, length-steps c.self.inside.integers 0 c.self.inside.ends, ap length c.self.view_is, c.requires)

pub at-step-requires-clause-low : goal.at-step-requires-clause-low
at-step-requires-clause-low c =
    let less : c.args.place < length c.self.inside.ends = omega (arith, length-steps c.self.inside.integers 0 c.self.inside.ends, ap length c.self.view_is, c.requires) in
    (head_within c.self.inside.integers c.self.inside.ends c.self.inside.longest c.args.place _ _ c.self.invariant.0 less c.start_of-start.ensures c.end_of-end.ensures).0

pub at-step-requires-clause-high : goal.at-step-requires-clause-high
at-step-requires-clause-high c =
    let less : c.args.place < length c.self.inside.ends = omega (arith, length-steps c.self.inside.integers 0 c.self.inside.ends, ap length c.self.view_is, c.requires) in
    (head_within c.self.inside.integers c.self.inside.ends c.self.inside.longest c.args.place _ _ c.self.invariant.0 less c.start_of-start.ensures c.end_of-end.ensures).1

pub returns : goal.returns
returns c =
    let zs = c.self.inside.integers in
    let ends = c.self.inside.ends in
    let less : c.args.place < length ends = omega (arith, length-steps zs 0 ends, ap length c.self.view_is, c.requires) in
    let head = c.at-step.ensures in
    c.put_by.ensures ∙ (λ i. put_by (head.kind i) (head.id i)) ∙ sym (put_there zs ends c.self.inside.longest c.args.place _ _ c.self.invariant.0 less c.start_of-start.ensures c.end_of-end.ensures _ c.self.view_is)
