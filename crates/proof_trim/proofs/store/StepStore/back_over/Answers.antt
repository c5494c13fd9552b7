use Rattle.std.proofs.Common.{◌≡◌, ◌<◌, ◌+◌, ◌∙◌, ◌||◌, ◌&&◌, not, pos, sym, ap, get_or, length, arith}
use Rattle.proof_trim.specs.Heads.{literals_in}
use Rattle.proof_trim.specs.Integers.{part, unsigned}
use Rattle.proof_trim.specs.Names.{has_hint, puts}
use Rattle.proof_trim.specs.NameSets.{has_name, hinted, names_put, wants_put}
use Rattle.proof_trim.specs.Puts.{hint_kind, put_by, put_of, step_at}
use Rattle.proof_trim.proofs.StoreLaws.{length-steps, if_ok}
use Rattle.proof_trim.proofs.PutLaws.{head_within, hints_there, hints_within, put_there, puts_named, wanted_named}
use Rattle.proof_trim.proofs.store.StepStore.back_over.Goals as goal

pub start_of-start-requires : goal.start_of-start-requires
start_of-start-requires c = omega (arith, length-steps c.self.inside.integers 0 c.self.inside.ends, ap length c.self.view_is, c.requires)

pub end_of-end-requires : goal.end_of-end-requires
end_of-end-requires c = omega (arith, length-steps c.self.inside.integers 0 c.self.inside.ends, ap length c.self.view_is, c.requires)

pub at-step-requires-clause-low : goal.at-step-requires-clause-low
at-step-requires-clause-low c =
    let less : c.args.place < length c.self.inside.ends = omega (arith, length-steps c.self.inside.integers 0 c.self.inside.ends, ap length c.self.view_is, c.requires) in
    (head_within c.self.inside.integers c.self.inside.ends c.self.inside.longest c.args.place _ _ c.self.invariant.0 less c.start_of-start.ensures c.end_of-end.ensures).0

pub at-step-requires-clause-high : goal.at-step-requires-clause-high
at-step-requires-clause-high c =
    let less : c.args.place < length c.self.inside.ends = omega (arith, length-steps c.self.inside.integers 0 c.self.inside.ends, ap length c.self.view_is, c.requires) in
    (head_within c.self.inside.integers c.self.inside.ends c.self.inside.longest c.args.place _ _ c.self.invariant.0 less c.start_of-start.ensures c.end_of-end.ensures).1

pub want_before-requires-clause-lists : goal.want_before-requires-clause-lists
want_before-requires-clause-lists c =
    let less : c.args.place < length c.self.inside.ends = omega (arith, length-steps c.self.inside.integers 0 c.self.inside.ends, ap length c.self.view_is, c.requires) in
    let is = c.at-step.ensures in
    omega (arith, is.start, is.literals, is.end, hints_within c.self.inside.integers c.self.inside.ends c.self.inside.longest c.args.place _ _ c.self.invariant.0 less c.start_of-start.ensures c.end_of-end.ensures)

pub want_before-requires-clause-high : goal.want_before-requires-clause-high
want_before-requires-clause-high c =
    let less : c.args.place < length c.self.inside.ends = omega (arith, length-steps c.self.inside.integers 0 c.self.inside.ends, ap length c.self.view_is, c.requires) in
    let within = head_within c.self.inside.integers c.self.inside.ends c.self.inside.longest c.args.place _ _ c.self.invariant.0 less c.start_of-start.ensures c.end_of-end.ensures in
    omega (arith, c.at-step.ensures.end, within.1)

pub returns-clause-needed : goal.returns-clause-needed
returns-clause-needed c =
    let zs = c.self.inside.integers in
    let ends = c.self.inside.ends in
    let less : c.args.place < length ends = omega (arith, length-steps zs 0 ends, ap length c.self.view_is, c.requires) in
    let is = c.at-step.ensures in
    let step = step_at c.args.self.now c.args.place in
    let old = has_name c.args.wanted.now in
    let put : put_by c.at-step.result.head.kind c.at-step.result.id ≡ put_of step =
    (λ i. put_by (is.kind i) (is.id i)) ∙ sym (put_there zs ends c.self.inside.longest c.args.place _ _ c.self.invariant.0 less c.start_of-start.ensures c.end_of-end.ensures _ c.self.view_is) in
    if_ok c.want_before.result _ _ (λ needed same. same ∙ ap (λ b. c.args.is_last || b) (ap (wants_put old) put ∙ sym (wanted_named old step))) c.want_before.ensures.needed

pub returns-clause-wanted : goal.returns-clause-wanted
returns-clause-wanted c =
    let zs = c.self.inside.integers in
    let ends = c.self.inside.ends in
    let less : c.args.place < length ends = omega (arith, length-steps zs 0 ends, ap length c.self.view_is, c.requires) in
    let packed = c.at-step.result in
    let is = c.at-step.ensures in
    let step = step_at c.args.self.now c.args.place in
    let put : put_by packed.head.kind packed.id ≡ put_of step =
    (λ i. put_by (is.kind i) (is.id i)) ∙ sym (put_there zs ends c.self.inside.longest c.args.place _ _ c.self.invariant.0 less c.start_of-start.ensures c.end_of-end.ensures _ c.self.view_is) in
    let there = hints_there zs ends c.self.inside.longest c.args.place _ _ c.self.invariant.0 less c.start_of-start.ensures c.end_of-end.ensures _ c.self.view_is in
    let from : packed.start + packed.head.literals ≡ c.start_of-start.result + 2 + literals_in (unsigned (get_or zs c.start_of-start.result (pos 0))) = omega (arith, is.start, is.literals) in
    if_ok c.want_before.result _ _
    (λ needed has name.
    let hint : hinted (hint_kind packed.head.kind) (part zs (packed.start + packed.head.literals) packed.end) name ≡ has_hint step name =
    (λ i. hinted (hint_kind (is.kind i)) (part zs (from i) (is.end i)) name) ∙ sym (there name) in
    let named : names_put name (put_by packed.head.kind packed.id) ≡ puts step name = ap (names_put name) put ∙ sym (puts_named step name) in
    has name ∙ (λ i. (needed && hint i) || (not (named i) && has_name c.args.wanted.now name)))
    c.want_before.ensures.wanted
