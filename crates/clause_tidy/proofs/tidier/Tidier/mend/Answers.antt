use Rattle.std.proofs.Common.{◌∙◌, sym, None}
use Rattle.clause_arena.specs.Clauses.{literals_at}
use Rattle.clause_tidy.specs.Answers.{MendsTo}
use Rattle.clause_tidy.specs.Tidying.{Tidies}
use Rattle.clause_tidy.proofs.MendLaws.{inside_by, strengthens_by, none_bears}
use Rattle.clause_tidy.proofs.Tellings.{other_answer, same_fault}
use Rattle.clause_tidy.proofs.tidier.Tidier.mend.Goals as goal

pub subsume-requires-clause-id : goal.subsume-requires-clause-id
subsume-requires-clause-id g c = c.requires.may.proper.ids c.args.pair.now.whole c.requires.live.whole

pub returns-in-Ok-clause-tidies : goal.returns-in-Ok-clause-tidies
returns-in-Ok-clause-tidies g c =
    let f = c.args.self.now.formula.now in
    let a = c.args.arena.now in
    let b = c.subsume.new.arena in
    let s = c.args.self.now.spare in
    other_answer g.L.Sink f s a (λ _. Tidies f s a b) (MendsTo f s a b) c.args.log.now c.subsume.new.log tt None (λ ss t. t) (c.in-Ok.ensures.tidies f s)

pub returns-in-Err-clause-tidies : goal.returns-in-Err-clause-tidies
returns-in-Err-clause-tidies g c =
    let f = c.args.self.now.formula.now in
    let a = c.args.arena.now in
    let b = c.subsume.new.arena in
    let s = c.args.self.now.spare in
    same_fault g.L.Sink f s a (λ _. Tidies f s a b) (MendsTo f s a b) c.args.log.now c.subsume.new.log c.in-Err.fault (c.in-Err.ensures.tidies f s)

pub subsume-requires-clause-inside : goal.subsume-requires-clause-inside
subsume-requires-clause-inside g c = inside_by _ _ _ _ _ c.lits.ensures c.lits-2.ensures (sym c.lies_inside.ensures ∙ c.if-lies_inside.true)

pub returns-in-None : goal.returns-in-None
returns-in-None g c =
    let part = literals_at c.args.arena.now c.args.pair.now.part in
    let whole = literals_at c.args.arena.now c.args.pair.now.whole in
    absurd (none_bears part whole c.requires.bears (inside_by _ _ _ _ _ c.lits.ensures c.lits-2.ensures (sym c.lies_inside.ensures ∙ c.if-lies_inside.false))
    (strengthens_by _ _ _ _ _ c.lits-3.ensures c.lits-4.ensures c.in-None.ensures))
