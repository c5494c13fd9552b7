use Rattle.std.proofs.Common.{◌≤◌, ℕ, ◌∙◌, sym, ap, subst, map, List}
use Rattle.std.specs.List.{AllByRecursion}
use Rattle.cx_base.specs.Literals.{Literal, differ}
use Rattle.cx_semantics.specs.Chain.{has_literal}
use Rattle.parity_engine.specs.Written.{IsWritten, literals_with}
use Rattle.xor_reason.specs.LiteralChoice.{AreLiteralsFor}
use Rattle.xor_reason.specs.Sums.{IsSumOf}
use Rattle.xor_reason.specs.declared.reason.ReasonOf.{ReasonOf}
use Rattle.xor_reason.proofs.SumForms.{assigned_in, some_variable, sum_has, sum_is_reason, sum_is_written, sum_of_two, sum_within}
use Rattle.xor_reason.proofs.sums.sum_of_reasons.Goals as goal

pub written-requires : goal.written-requires
written-requires g c =
    let x = c.requires.one in
    let y = c.requires.other in
    let var = λ (m : Literal). m.variable in
    let of_p = c.in_ok-of_one.ensures.variables ∙ ap (map var) c.as_slice.ensures in
    let of_q = c.in_ok-of_other.ensures.variables ∙ ap (map var) c.as_slice-2.ensures in
    let is = subst (λ (a : List ℕ). IsSumOf a (map var c.args.pair.other.now.parity) c.in_ok-variables.variables.items) (c.deref.ensures.value ∙ of_p)
    (subst (λ (b : List ℕ). IsSumOf c.deref.result.now b c.in_ok-variables.variables.items) (c.deref-2.ensures.value ∙ of_q) c.in_ok-variables.ensures) in
    let in_p = subst (AllByRecursion (λ v. (1 ≤ v) × (v ≤ 268435455))) of_p c.in_ok-of_one.ensures.within in
    let in_q = subst (AllByRecursion (λ v. (1 ≤ v) × (v ≤ 268435455))) of_q c.in_ok-of_other.ensures.within in
    subst (AllByRecursion (λ v. (1 ≤ v) × (v ≤ 268435455))) (sym c.deref-3.ensures.value)
    (sum_within x.0 y.1.0 c.args.pair.one.now.parity c.args.pair.other.now.parity x.1.written y.1.1.written 268435455 c.in_ok-variables.variables.items is in_p in_q)

pub literals_for-requires : goal.literals_for-requires
literals_for-requires g c =
    let x = c.requires.one in
    let y = c.requires.other in
    let var = λ (m : Literal). m.variable in
    let of_p = c.in_ok-of_one.ensures.variables ∙ ap (map var) c.as_slice.ensures in
    let of_q = c.in_ok-of_other.ensures.variables ∙ ap (map var) c.as_slice-2.ensures in
    let is = subst (λ (a : List ℕ). IsSumOf a (map var c.args.pair.other.now.parity) c.in_ok-variables.variables.items) (c.deref.ensures.value ∙ of_p)
    (subst (λ (b : List ℕ). IsSumOf c.deref.result.now b c.in_ok-variables.variables.items) (c.deref-2.ensures.value ∙ of_q) c.in_ok-variables.ensures) in
    let in_p = subst (AllByRecursion (λ v. (1 ≤ v) × (v ≤ 268435455))) of_p c.in_ok-of_one.ensures.within in
    let in_q = subst (AllByRecursion (λ v. (1 ≤ v) × (v ≤ 268435455))) of_q c.in_ok-of_other.ensures.within in
    let right = c.sum_of_bits-right.ensures
    ∙ (λ i. differ (c.right_side-of_one_right.ensures x.0 (subst (IsWritten x.0) (sym c.as_slice-3.ensures) x.1.written) i) (c.right_side-of_other_right.ensures y.1.0 (subst (IsWritten y.1.0) (sym c.as_slice-4.ensures) y.1.1.written) i)) in
    let some = c.requires.some in
    let has = some_variable (g.P.ParityEngine.state c.args.engine.now).parities c.args.trail.now c.args.implied y.0 x.0 y.1.0 c.args.pair.one.now c.args.pair.other.now x.1 y.1.1 some.0 some.1 in
    let w = subst (IsWritten (sum_of_two x.0 y.1.0)) (sym (c.in_ok-parity.ensures ∙ ap (literals_with c.sum_of_bits-right.result) c.deref-3.ensures.value))
    (sum_is_written x.0 y.1.0 c.args.pair.one.now.parity c.args.pair.other.now.parity x.1.written y.1.1.written 268435455 c.in_ok-variables.variables.items is in_p in_q c.sum_of_bits-right.result right some.0 has) in
    record { assigned = λ l h. assigned_in (g.P.ParityEngine.state c.args.engine.now).parities c.args.trail.now c.args.implied y.0 x.0 y.1.0 c.args.pair.one.now c.args.pair.other.now x.1 y.1.1 c.in_ok-parity.parity w l (ap (λ ls. has_literal ls l) (sym c.as_slice-7.ensures) ∙ h) }

pub returns-clause-reason : goal.returns-clause-reason
returns-clause-reason g c =
    let x = c.requires.one in
    let y = c.requires.other in
    let var = λ (m : Literal). m.variable in
    let of_p = c.in_ok-of_one.ensures.variables ∙ ap (map var) c.as_slice.ensures in
    let of_q = c.in_ok-of_other.ensures.variables ∙ ap (map var) c.as_slice-2.ensures in
    let is = subst (λ (a : List ℕ). IsSumOf a (map var c.args.pair.other.now.parity) c.in_ok-variables.variables.items) (c.deref.ensures.value ∙ of_p)
    (subst (λ (b : List ℕ). IsSumOf c.deref.result.now b c.in_ok-variables.variables.items) (c.deref-2.ensures.value ∙ of_q) c.in_ok-variables.ensures) in
    let in_p = subst (AllByRecursion (λ v. (1 ≤ v) × (v ≤ 268435455))) of_p c.in_ok-of_one.ensures.within in
    let in_q = subst (AllByRecursion (λ v. (1 ≤ v) × (v ≤ 268435455))) of_q c.in_ok-of_other.ensures.within in
    let right = c.sum_of_bits-right.ensures
    ∙ (λ i. differ (c.right_side-of_one_right.ensures x.0 (subst (IsWritten x.0) (sym c.as_slice-3.ensures) x.1.written) i) (c.right_side-of_other_right.ensures y.1.0 (subst (IsWritten y.1.0) (sym c.as_slice-4.ensures) y.1.1.written) i)) in
    let some = c.requires.some in
    let has = some_variable (g.P.ParityEngine.state c.args.engine.now).parities c.args.trail.now c.args.implied y.0 x.0 y.1.0 c.args.pair.one.now c.args.pair.other.now x.1 y.1.1 some.0 some.1 in
    let w = subst (IsWritten (sum_of_two x.0 y.1.0)) (sym (c.in_ok-parity.ensures ∙ ap (literals_with c.sum_of_bits-right.result) c.deref-3.ensures.value))
    (sum_is_written x.0 y.1.0 c.args.pair.one.now.parity c.args.pair.other.now.parity x.1.written y.1.1.written 268435455 c.in_ok-variables.variables.items is in_p in_q c.sum_of_bits-right.result right some.0 has) in
    let r : ReasonOf = record { parity = c.in_ok-parity.parity; sources = c.from_vec.result; clause = c.in_ok-clause.clause } in
    let sources = subst (IsSumOf c.args.pair.one.now.sources c.args.pair.other.now.sources) (sym c.from_vec.ensures)
    (subst (λ (a : List ℕ). IsSumOf a c.args.pair.other.now.sources c.in_ok-sources.sources.items) c.as_slice-5.ensures
    (subst (λ (b : List ℕ). IsSumOf c.as_slice-5.result.now b c.in_ok-sources.sources.items) c.as_slice-6.ensures c.in_ok-sources.ensures)) in
    let are = subst (λ ls. AreLiteralsFor c.args.trail.now c.args.implied ls c.in_ok-clause.clause) c.as_slice-7.ensures c.in_ok-clause.ensures.literals in
    (sum_of_two x.0 y.1.0, sum_is_reason (g.P.ParityEngine.state c.args.engine.now).parities c.args.trail.now c.args.implied y.0 x.0 y.1.0 c.args.pair.one.now c.args.pair.other.now x.1 y.1.1 c.in_ok-clause.ensures.sound c.requires.apart r w sources are)

pub returns-clause-variables : goal.returns-clause-variables
returns-clause-variables g c =
    let x = c.requires.one in
    let y = c.requires.other in
    let var = λ (m : Literal). m.variable in
    let of_p = c.in_ok-of_one.ensures.variables ∙ ap (map var) c.as_slice.ensures in
    let of_q = c.in_ok-of_other.ensures.variables ∙ ap (map var) c.as_slice-2.ensures in
    let is = subst (λ (a : List ℕ). IsSumOf a (map var c.args.pair.other.now.parity) c.in_ok-variables.variables.items) (c.deref.ensures.value ∙ of_p)
    (subst (λ (b : List ℕ). IsSumOf c.deref.result.now b c.in_ok-variables.variables.items) (c.deref-2.ensures.value ∙ of_q) c.in_ok-variables.ensures) in
    let in_p = subst (AllByRecursion (λ v. (1 ≤ v) × (v ≤ 268435455))) of_p c.in_ok-of_one.ensures.within in
    let in_q = subst (AllByRecursion (λ v. (1 ≤ v) × (v ≤ 268435455))) of_q c.in_ok-of_other.ensures.within in
    let right = c.sum_of_bits-right.ensures
    ∙ (λ i. differ (c.right_side-of_one_right.ensures x.0 (subst (IsWritten x.0) (sym c.as_slice-3.ensures) x.1.written) i) (c.right_side-of_other_right.ensures y.1.0 (subst (IsWritten y.1.0) (sym c.as_slice-4.ensures) y.1.1.written) i)) in
    let some = c.requires.some in
    let has = some_variable (g.P.ParityEngine.state c.args.engine.now).parities c.args.trail.now c.args.implied y.0 x.0 y.1.0 c.args.pair.one.now c.args.pair.other.now x.1 y.1.1 some.0 some.1 in
    let w = subst (IsWritten (sum_of_two x.0 y.1.0)) (sym (c.in_ok-parity.ensures ∙ ap (literals_with c.sum_of_bits-right.result) c.deref-3.ensures.value))
    (sum_is_written x.0 y.1.0 c.args.pair.one.now.parity c.args.pair.other.now.parity x.1.written y.1.1.written 268435455 c.in_ok-variables.variables.items is in_p in_q c.sum_of_bits-right.result right some.0 has) in
    let r : ReasonOf = record { parity = c.in_ok-parity.parity; sources = c.from_vec.result; clause = c.in_ok-clause.clause } in
    let sources = subst (IsSumOf c.args.pair.one.now.sources c.args.pair.other.now.sources) (sym c.from_vec.ensures)
    (subst (λ (a : List ℕ). IsSumOf a c.args.pair.other.now.sources c.in_ok-sources.sources.items) c.as_slice-5.ensures
    (subst (λ (b : List ℕ). IsSumOf c.as_slice-5.result.now b c.in_ok-sources.sources.items) c.as_slice-6.ensures c.in_ok-sources.ensures)) in
    let are = subst (λ ls. AreLiteralsFor c.args.trail.now c.args.implied ls c.in_ok-clause.clause) c.as_slice-7.ensures c.in_ok-clause.ensures.literals in
    sum_has (g.P.ParityEngine.state c.args.engine.now).parities c.args.trail.now c.args.implied y.0 x.0 y.1.0 c.args.pair.one.now c.args.pair.other.now x.1 y.1.1 c.in_ok-clause.ensures.sound c.requires.apart r w sources are
