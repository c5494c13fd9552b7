use Rattle.std.proofs.Common.{refl, sym, subst, List, Option, None, Ok}
use Rattle.std.specs.Prelude.{IsNone}
use Rattle.cx_base.specs.Literals.{Literal}
use Rattle.clause_tidy.specs.Answers.{TidiesOn, MendsTo}
use Rattle.clause_tidy.specs.Done.{TidiesTo}
use Rattle.clause_tidy.proofs.DoneLaws.{outcome_is}
use Rattle.clause_tidy.proofs.Tellings.{other_answer, out_of_memory}
use Rattle.clause_tidy.proofs.tidier.Tidier.tidy_all.Goals as goal

pub returns-in-Ok : goal.returns-in-Ok
returns-in-Ok g c =
    let f = c.args.self.now.formula.now in
    let s = c.args.self.now.spare in
    let a = c.args.arena.now in
    let m = c.tidy_clauses.new.arena in
    let b = c.done.new.arena in
    let none = c.in-Ok-None.field-0-is in
    let told = subst (λ e. TidiesOn {T = Option (List Literal)} g.L.Sink f s a c.args.log.now (Ok e) (MendsTo f s a m) c.tidy_clauses.new.log) none c.in-Ok-None.ensures.tidies in
    other_answer g.L.Sink f s a (MendsTo f s a m) (TidiesTo f s a b) c.args.log.now c.tidy_clauses.new.log None c.in-Ok.outcome
    (λ ss d. outcome_is f s a m b ss c.len-first.result c.in-Ok.outcome d (c.in-Ok-None.ensures.tidied (subst IsNone (sym none) refl)) c.len-first.ensures.len c.in-Ok.ensures) told

pub returns-in-Err-done : goal.returns-in-Err-done
returns-in-Err-done g c =
    let f = c.args.self.now.formula.now in
    let s = c.args.self.now.spare in
    let a = c.args.arena.now in
    let m = c.tidy_clauses.new.arena in
    let told = subst (λ e. TidiesOn {T = Option (List Literal)} g.L.Sink f s a c.args.log.now (Ok e) (MendsTo f s a m) c.tidy_clauses.new.log) c.in-Ok-None.field-0-is c.in-Ok-None.ensures.tidies in
    out_of_memory g.L.Sink f s a (MendsTo f s a m) (TidiesTo f s a c.done.new.arena) c.args.log.now c.tidy_clauses.new.log None (λ ss d tables h. let w = d.runs tables h in (w.0, w.1)) told
