use Rattle.std.proofs.Common.{◌≡◌, ◌+◌, sym, ap, ◌∙◌, subst, not, [], ◌∷◌, length, length-append, arith}
use Rattle.cx_base.specs.Problem.{Meets}
use Rattle.cx_trail.specs.Sequence.{IsTrueIn}
use Rattle.cdcl_search.proofs.FullTrails.{AreValues, full_trail_meets, as_many_variables, one_value_more}
use Rattle.cdcl_search.proofs.models.values_of.Goals as goal

pub loop-index-init : goal.loop-index-init
loop-index-init g c = record { long = ap length c.in_ok-values.ensures.items; are = λ k less. absurd (omega (arith, less)) }

pub loop-index-preserved : goal.loop-index-preserved
loop-index-preserved g c =
    let before = c.loop-index.invariant in
    let more = one_value_more c.args.state.now.trail c.loop-index.index c.loop-index.values.items c.value_on.result before.long before.are
    (subst (λ v. IsTrueIn c.args.state.now.trail.entries (record { variable = v; negative = not c.value_on.result })) c.new.ensures c.value_on.ensures) in
    let n = length-append c.loop-index.values.items (c.value_on.result ∷ []) in
    record {
      long = ap length c.in_ok-push.ensures.items ∙ (let m = before.long in omega (arith, n, m));
      are = subst (AreValues c.args.state.now.trail (c.loop-index.index + 1)) (sym c.in_ok-push.ensures.items) more;
    }

pub returns : goal.returns
returns g c =
    let high = c.loop-index.auto.index-end in
    let past = c.loop-index-test.false in
    let n = c.vars-vars.ensures.variables in
    let all : c.loop-index.index ≡ c.args.formula.now.variables = omega (arith, high, past, n) in
    subst (Meets c.args.formula.now) (sym c.from_vec.ensures)
    (full_trail_meets c.args.formula.now c.args.state.now (g.P.ParityEngine.state c.args.engine.now) c.requires.stands.0 c.requires.stands.1 c.requires.quiet c.requires.full c.requires.assumed c.vars-vars.ensures.within
    c.loop-index.values.items (c.loop-index.invariant.long ∙ all) (subst (λ k. AreValues c.args.state.now.trail k c.loop-index.values.items) all c.loop-index.invariant.are))

pub value_on-requires-clause-within : goal.value_on-requires-clause-within
value_on-requires-clause-within g c =
    let n = c.vars-vars.ensures.variables in
    let m = as_many_variables c.args.formula.now c.args.state.now (g.P.ParityEngine.state c.args.engine.now) c.requires.stands.0 c.requires.stands.1 in
    let less = c.loop-index-test.true in
    let is = c.new.ensures in
    omega (arith, n, m, less, is)

pub value_on-requires-clause-assigned : goal.value_on-requires-clause-assigned
value_on-requires-clause-assigned g c =
    let n = c.vars-vars.ensures.variables in
    let m = as_many_variables c.args.formula.now c.args.state.now (g.P.ParityEngine.state c.args.engine.now) c.requires.stands.0 c.requires.stands.1 in
    let less = c.loop-index-test.true in
    let is = c.new.ensures in
    c.requires.full c.new.result (omega (arith, is)) (omega (arith, n, m, less, is))
