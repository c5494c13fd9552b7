use Rattle.std.proofs.Common.{◌≡◌, ◌∙◌, refl, sym, ap, subst, length, min, if◌then◌else◌, arith}
use Rattle.std.specs.List.{All}
use Rattle.std.proofs.lemmas.Result.{err_from_is_err_and}
use Rattle.cx_base.specs.Literals.{Literal}
use Rattle.cx_trail.specs.Sequence.{IsAssignedIn}
use Rattle.clause_arena.specs.Clauses.{ArenaState, literals_at, lbd_at}
use Rattle.conflict_learn.specs.Levels.{distinct, levels_in}
use Rattle.cdcl_core.specs.Grading.{ungraded}
use Rattle.cdcl_core.proofs.GradedClauses.{graded_set, lbd_of_set}
use Rattle.cdcl_core.proofs.GradedTies.{graded_still}
use Rattle.cdcl_core.proofs.grading.grade.Goals as goal

pub count_levels-requires : goal.count_levels-requires
count_levels-requires c = record {
  assigned = subst (All (λ (l : Literal). IsAssignedIn c.args.state.now.trail.entries l.variable)) (sym c.lits.ensures) c.requires.assigned;
  clear = c.requires.clear;
}

pub returns-then-not-may_be_removed : goal.returns-then-not-may_be_removed
returns-then-not-may_be_removed c =
    let a = c.args.state.now.arena in
    let r = c.args.reference in
    let count = length (distinct (levels_in c.args.state.now.trail (literals_at a r))) in
    record {
      graded = graded_still c.args.state.now;
      least = sym (ap (λ b. if b then min count (lbd_at a r) else lbd_at a r) (sym c.may_be_removed.ensures ∙ c.if-not-may_be_removed.true));
      clear = c.requires.clear;
    }

pub returns-in_err-count : goal.returns-in_err-count
returns-in_err-count c =
    let fault = err_from_is_err_and c.from_residual.result c.from_residual.ensures.1 in
    rw fault.1 (record { graded = graded_still c.args.state.now; least = tt; clear = c.in_err-count.ensures.clear })

pub returns : goal.returns
returns c =
    let a = c.args.state.now.arena in
    let r = c.args.reference in
    let count = length (distinct (levels_in c.args.state.now.trail (literals_at a r))) in
    let lits = c.lits.ensures in
    let counted : c.in_ok-count.count ≡ count = c.in_ok-count.ensures.count ∙ ap (λ ls. length (distinct (levels_in c.args.state.now.trail ls))) lits in
    record {
      graded = record { clauses = ap ungraded c.set_lbd.ensures ∙ graded_set a.clauses r _; rest = refl };
      least = ap (λ (x : ArenaState). lbd_at x r) c.set_lbd.ensures ∙ lbd_of_set a.clauses r _ c.requires.live
          ∙ (let least = c.min-least.ensures in let lbd = c.lbd-lbd.ensures in omega (arith, least, lbd, counted))
          ∙ sym (ap (λ b. if b then min count (lbd_at a r) else lbd_at a r) (sym c.may_be_removed.ensures ∙ c.if-not-may_be_removed.false));
      clear = c.in_ok-count.ensures.clear;
    }
