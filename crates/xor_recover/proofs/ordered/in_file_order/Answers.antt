use Rattle.std.proofs.Common.{◌≡◌, ◌+◌, ◌<◌, sym, ap, ◌∙◌, subst, length, arith}
use Rattle.std.specs.Prelude.{IfSome}
use Rattle.std.specs.List.{AllByRecursion}
use Rattle.cx_base.specs.Problem.{clauses_of}
use Rattle.cx_base.proofs.Elements.{all_push}
use Rattle.xor_recover.specs.Wholes.{IsWhole, starts_of_all}
use Rattle.xor_recover.proofs.Within.{widened}
use Rattle.xor_recover.proofs.StartRows.{one_start, no_start, all_starts, read_at}
use Rattle.xor_recover.proofs.WholeRows.{whole_more}
use Rattle.xor_recover.proofs.ordered.in_file_order.Goals as goal
use Rattle.xor_recover.proofs.ordered.in_file_order.Goals.{in-Some-of+in_ok-push-in-Some-of, in-None-of}

pub of-requires : goal.of-requires
of-requires c = widened _ _ c.vars-vars.ensures.within.0 c.clause.ensures.within

pub loop-next-preserved-in-Continue-branch-6 : goal.loop-next-preserved-in-Continue-branch-6
loop-next-preserved-in-Continue-branch-6 c =
    let C = clauses_of c.args.formula.now.constraints in
    let w = c.in-Some.whole in
    let whole = subst (λ o. IfSome o (IsWhole C)) c.in-Some.is c.in_ok-whole.ensures.whole in
    let number = subst (λ o. IfSome o (λ v. v.start.number ≡ c.loop-next.next + 1)) c.in-Some.is c.in_ok-whole.ensures.here in
    record {
      upto = whole_more C c.loop-next.starts.items c.loop-next.wholes.items _ w c.loop-next.next c.count-next.result whole number c.count-next.ensures c.in_ok-push-in-Some.ensures.items c.loop-next.invariant.upto;
      wholes = subst (AllByRecursion (IsWhole C)) (sym c.in_ok-push-in-Some.ensures.items) (all_push (IsWhole C) c.loop-next.wholes.items w c.loop-next.invariant.wholes whole);
    }

pub loop-next-preserved : goal.loop-next-preserved
loop-next-preserved c =
    let C = clauses_of c.args.formula.now.constraints in
    let k = c.loop-next.next in
    let lits = c.clause.result.now in
    let others = starts_of_all c.loop-next.wholes.items in
    let read = read_at C _ lits c.clause.ensures.clause in
    let len = c.clause_count-len.ensures in
    let lt : k < length C = omega arith in
    record {
      upto = elim c.match-of.branch [
        | in-Some-of+in_ok-push-in-Some-of w ↦ one_start C c.loop-next.starts.items _ others k lits w.in-Some-of.start lt read w.in-Some-of.ensures.0 w.in-Some-of.ensures.1 w.in-Some-of.ensures.2 (ap (λ v. v.items) w.starts-is ∙ w.in_ok-push-in-Some-of.ensures.items) c.loop-next.invariant.upto
        | in-None-of w ↦ no_start C c.loop-next.starts.items _ others k lits lt read w.in-None-of.ensures (ap (λ v. v.items) w.starts-is) c.loop-next.invariant.upto
      ];
      wholes = c.loop-next.invariant.wholes;
    }

pub returns-clause-starts : goal.returns-clause-starts
returns-clause-starts c =
    let len = c.clause_count-len.ensures in
    all_starts (clauses_of c.args.formula.now.constraints) c.loop-next.starts.items (starts_of_all c.loop-next.wholes.items) c.loop-next.next (omega arith) c.loop-next.invariant.upto
