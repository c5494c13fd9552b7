use Rattle.std.proofs.Common.{subst}
use Rattle.gauss_incremental.specs.ShortFirst.{IsFoundShort}
use Rattle.gauss_incremental.proofs.ShortNames.{matrix_reports, matrix_shorts, unit_reports, unit_shorts, unmet_reports, unmet_shorts}
use Rattle.gauss_incremental.proofs.short_first.answer.Goals as goal

pub returns-in-Nothing-clause-reports : goal.returns-in-Nothing-clause-reports
returns-in-Nothing-clause-reports c = λ t. matrix_reports c.args.engine.now.state c.next_event.new.self.state c.args.shorts.now c.args.named.now c.next_event.result c.next_event.ensures.reports t

pub returns-in-Nothing-clause-shorts : goal.returns-in-Nothing-clause-shorts
returns-in-Nothing-clause-shorts c = matrix_shorts c.args.engine.now.state c.next_event.new.self.state c.args.shorts.now c.args.named.now c.next_event.result c.next_event.ensures.reports c.requires.shorts

pub returns-in-Implication-clause-reports : goal.returns-in-Implication-clause-reports
returns-in-Implication-clause-reports c = λ t.
    let s = c.args.engine.now.state in
    let found = subst (IsFoundShort s c.args.shorts.now c.args.named.now) c.in-Implication.is c.requires.found in
    rw (c.name_short-row.ensures.row, c.name_short-row.ensures.named) (unit_reports s c.args.shorts.now c.args.named.now c.requires.shorts c.in-Implication.place c.in-Implication.lit found t)

pub returns-in-Implication-clause-shorts : goal.returns-in-Implication-clause-shorts
returns-in-Implication-clause-shorts c =
    let s = c.args.engine.now.state in
    let found = subst (IsFoundShort s c.args.shorts.now c.args.named.now) c.in-Implication.is c.requires.found in
    rw c.name_short-row.ensures.named (unit_shorts s c.args.shorts.now c.args.named.now c.requires.shorts c.in-Implication.place c.in-Implication.lit found)

pub returns-in-Contradiction-clause-reports : goal.returns-in-Contradiction-clause-reports
returns-in-Contradiction-clause-reports c = λ t.
    let s = c.args.engine.now.state in
    let found = subst (IsFoundShort s c.args.shorts.now c.args.named.now) c.in-Contradiction.is c.requires.found in
    rw (c.name_short-row-in-Contradiction.ensures.row, c.name_short-row-in-Contradiction.ensures.named) (unmet_reports s c.args.shorts.now c.args.named.now c.requires.shorts c.in-Contradiction.place found t)

pub returns-in-Contradiction-clause-shorts : goal.returns-in-Contradiction-clause-shorts
returns-in-Contradiction-clause-shorts c =
    let s = c.args.engine.now.state in
    let found = subst (IsFoundShort s c.args.shorts.now c.args.named.now) c.in-Contradiction.is c.requires.found in
    rw c.name_short-row-in-Contradiction.ensures.named (unmet_shorts s c.args.shorts.now c.args.named.now c.requires.shorts c.in-Contradiction.place found)
