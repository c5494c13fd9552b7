use Rattle.std.proofs.Common.{◌∙◌, ap, sym, subst, None, Some}
use Rattle.cx_base.specs.Assumptions.{is_ending}
use Rattle.clause_tidy.specs.Answers.{IsEnded, MendsTo}
use Rattle.clause_tidy.specs.Tidying.{Tidies}
use Rattle.clause_tidy.proofs.ShorterTold.{nothing_on}
use Rattle.clause_tidy.proofs.Tellings.{other_answer, same_fault}
use Rattle.clause_tidy.proofs.tidier.Tidier.strengthen.Goals as goal

pub returns-in-Err-clause-tidies : goal.returns-in-Err-clause-tidies
returns-in-Err-clause-tidies g c =
    nothing_on g.L.Sink c.args.arena.now c.args.log.now (MendsTo c.args.self.now.formula.now c.args.self.now.spare c.args.arena.now c.args.arena.now) (g.met.L.Sink.keeps_itself c.args.log.now) c.args.self.now.formula.now c.args.self.now.spare

pub returns-in-Ok-end-clause-tidies : goal.returns-in-Ok-end-clause-tidies
returns-in-Ok-end-clause-tidies g c =
    let f = c.args.self.now.formula.now in
    let s = c.args.self.now.spare in
    let a = c.args.arena.now in
    other_answer g.L.Sink f s a (λ _. IsEnded f s a c.deref-then-is_ending.result.now) (MendsTo f s a a) c.args.log.now c.end.new.log tt (Some c.from_vec.result)
    (λ ss ended. subst (λ lits. IsEnded f s a lits ss) (c.deref-then-is_ending.ensures.value ∙ sym c.from_vec.ensures) ended) c.in-Ok-end.ensures

pub returns-in-Err-end-clause-tidies : goal.returns-in-Err-end-clause-tidies
returns-in-Err-end-clause-tidies g c =
    let f = c.args.self.now.formula.now in
    let s = c.args.self.now.spare in
    let a = c.args.arena.now in
    same_fault g.L.Sink f s a (λ _. IsEnded f s a c.deref-then-is_ending.result.now) (MendsTo f s a a) c.args.log.now c.end.new.log c.in-Err-end.fault c.in-Err-end.ensures

pub returns-in-Ok-shorten-clause-tidies : goal.returns-in-Ok-shorten-clause-tidies
returns-in-Ok-shorten-clause-tidies g c =
    let f = c.args.self.now.formula.now in
    let s = c.args.self.now.spare in
    let a = c.args.arena.now in
    let b = c.shorten.new.arena in
    other_answer g.L.Sink f s a (λ _. Tidies f s a b) (MendsTo f s a b) c.args.log.now c.shorten.new.log tt None (λ ss t. t) c.in-Ok-shorten.ensures.tidies

pub returns-clause-tidies : goal.returns-clause-tidies
returns-clause-tidies g c =
    let f = c.args.self.now.formula.now in
    let s = c.args.self.now.spare in
    let a = c.args.arena.now in
    let b = c.shorten.new.arena in
    same_fault g.L.Sink f s a (λ _. Tidies f s a b) (MendsTo f s a b) c.args.log.now c.shorten.new.log c.in-Err-shorten.fault c.in-Err-shorten.ensures.tidies

pub end-requires-clause-ends : goal.end-requires-clause-ends
end-requires-clause-ends g c = ap (is_ending c.args.self.now.formula.now.constraints) (c.deref-then-is_ending.ensures.value ∙ sym c.deref.ensures.value) ∙ sym c.is_ending.ensures ∙ c.if-is_ending.true

pub shorten-requires-clause-goes_on : goal.shorten-requires-clause-goes_on
shorten-requires-clause-goes_on g c = ap (is_ending c.args.self.now.formula.now.constraints) (c.deref-2.ensures.value ∙ sym c.deref.ensures.value) ∙ sym c.is_ending.ensures ∙ c.if-is_ending.false
