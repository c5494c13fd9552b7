use Rattle.std.proofs.Common.{◌≡◌, sym, subst, ℕ, Option, List, [], arith}
use Rattle.cx_base.specs.Literals.{Literal}
use Rattle.cx_base.specs.Borrowed.{constraint_of}
use Rattle.cx_base.specs.Problem.{Problem, parities_of}
use Rattle.xor_blast.specs.Blasted.{in_clauses, new_count}
use Rattle.xor_blast.specs.Extending.{ExtendInOneWay}
use Rattle.xor_blast.specs.Adding.{Adds}
use Rattle.xor_blast.proofs.ExtendingLaws.{extend_in_one_way}
use Rattle.xor_blast.proofs.BlastingLaws.{blasting_more, passes_here, blasting_all, blasted_alone}
use Rattle.xor_blast.proofs.blasting.blast.Goals as goal

pub returns-in_default-clause-refused : goal.returns-in_default-clause-refused
returns-in_default-clause-refused c =
    let formula = c.args.formula.now in
    let vars = c.loop-place.vars in
    let item = constraint_of c.item-item.result in
    let added = c.in_ok-next.ensures formula.variables c.item-item.ensures.within in
    let passes = subst (λ (o : Option ℕ). Adds c.loop-place.builder c.push_constraint.new.builder (in_clauses formula.variables vars item) vars (new_count formula.variables vars item) o) c.in_default.is added in
    passes_here formula c.loop-place.place vars c.loop-place.builder c.loop-place.invariant (omega (arith, c.loop-place-test.true, c.len-place-end.ensures.len)) item c.item-item.ensures.item passes

pub loop-place-preserved : goal.loop-place-preserved
loop-place-preserved c =
    let formula = c.args.formula.now in
    let vars = c.loop-place.vars in
    let item = constraint_of c.item-item.result in
    let added = c.in_ok-next.ensures formula.variables c.item-item.ensures.within in
    let some = subst (λ (o : Option ℕ). Adds c.loop-place.builder c.push_constraint.new.builder (in_clauses formula.variables vars item) vars (new_count formula.variables vars item) o) c.in-Some.is added in
    blasting_more formula c.loop-place.place vars c.loop-place.builder c.loop-place.invariant (omega (arith, c.loop-place-test.true, c.len-place-end.ensures.len)) item c.item-item.ensures.item c.push_constraint.new.builder c.in-Some.next some

pub returns-clause-made : goal.returns-clause-made
returns-clause-made c =
    blasting_all c.args.formula.now c.finish.result c.loop-place.place c.loop-place.vars c.loop-place.builder c.loop-place.invariant (omega (arith, c.loop-place-test.false, c.len-place-end.ensures.len)) c.vars-vars.ensures.within.1 c.finish.ensures

pub returns-clause-no_parity : goal.returns-clause-no_parity
returns-clause-no_parity c =
    let made = blasting_all c.args.formula.now c.finish.result c.loop-place.place c.loop-place.vars c.loop-place.builder c.loop-place.invariant (omega (arith, c.loop-place-test.false, c.len-place-end.ensures.len)) c.vars-vars.ensures.within.1 c.finish.ensures in
    subst (λ (p : Problem). ◌≡◌ {A = List (List Literal)} (parities_of p.constraints) []) (sym made) (blasted_alone c.args.formula.now)

pub returns-clause-extends : goal.returns-clause-extends
returns-clause-extends c =
    let made = blasting_all c.args.formula.now c.finish.result c.loop-place.place c.loop-place.vars c.loop-place.builder c.loop-place.invariant (omega (arith, c.loop-place-test.false, c.len-place-end.ensures.len)) c.vars-vars.ensures.within.1 c.finish.ensures in
    subst (λ (p : Problem). ExtendInOneWay c.args.formula.now p) (sym made) (extend_in_one_way c.args.formula.now c.vars-vars.ensures.within)
