use Rattle.std.proofs.Common.{◌∙◌, arith}
use Rattle.clause_tidy.specs.Answers.{MendsTo}
use Rattle.clause_tidy.specs.Tidying.{Tidies}
use Rattle.clause_tidy.proofs.BelowLaws.{below_left, free_below}
use Rattle.clause_tidy.proofs.Stages.{stage_on, mend_on, proper_on}
use Rattle.clause_tidy.proofs.Tellings.{same_fault}
use Rattle.clause_tidy.proofs.tidier.Tidier.tidy_clauses.Goals as goal

pub settle-requires-clause-may : goal.settle-requires-clause-may
settle-requires-clause-may g c =
    let f = c.args.self.now.formula.now in
    let s = c.args.self.now.spare in
    let told = c.in-Ok.ensures.tidies f s in
    record { proper = proper_on f s c.args.arena.now c.drop_tautologies.new.arena told.steps told.done c.requires.may.proper; spare_id = c.requires.may.spare_id; going = told.failed ∙ c.requires.may.going }

pub settle-requires-clause-within : goal.settle-requires-clause-within
settle-requires-clause-within g c = let size = c.in-Ok.ensures.left.size in let within = c.requires.within in omega (arith, size, within)

pub settle-requires-clause-tidy : goal.settle-requires-clause-tidy
settle-requires-clause-tidy g c = below_left c.args.arena.now c.drop_tautologies.new.arena c.in-Ok.ensures.left c.args.self.now.from c.requires.tidy

pub drop_tautologies-requires-clause-free : goal.drop_tautologies-requires-clause-free
drop_tautologies-requires-clause-free g c = free_below c.args.arena.now c.args.self.now.from c.requires.tidy

pub returns-in-Err-clause-tidies : goal.returns-in-Err-clause-tidies
returns-in-Err-clause-tidies g c =
    let f = c.args.self.now.formula.now in
    let s = c.args.self.now.spare in
    let a = c.args.arena.now in
    let b = c.drop_tautologies.new.arena in
    same_fault g.L.Sink f s a (λ _. Tidies f s a b) (MendsTo f s a b) c.args.log.now c.drop_tautologies.new.log c.in-Err.fault (c.in-Err.ensures.tidies f s)

pub returns-in-Ok-clause-tidies : goal.returns-in-Ok-clause-tidies
returns-in-Ok-clause-tidies g c =
    let f = c.args.self.now.formula.now in
    let s = c.args.self.now.spare in
    let a = c.args.arena.now in
    let b = c.drop_tautologies.new.arena in
    let d = c.settle.new.arena in
    stage_on g.L.Sink f s a b c.args.log.now c.drop_tautologies.new.log c.settle.new.log c.settle.result (MendsTo f s b d) (MendsTo f s a d) (c.in-Ok.ensures.tidies f s)
    (λ k l. g.met.L.Sink.keeps_on c.args.log.now c.drop_tautologies.new.log c.settle.new.log k l) (λ t ss ts h k. mend_on f s a b d ss ts t h k) c.settle.ensures.tidies
