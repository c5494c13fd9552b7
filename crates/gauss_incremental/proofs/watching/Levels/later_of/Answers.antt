use Rattle.std.proofs.Common.{◌∙◌, sym}
use Rattle.gauss_incremental.proofs.Latest.{last_kept, last_next, last_skip, named_is, named_not}
use Rattle.gauss_incremental.proofs.watching.Levels.later_of.Goals as goal

pub returns-then-is_column : goal.returns-then-is_column
returns-then-is_column c = λ r on last.
    last_skip c.args.self.now.matrix.now c.args.self.now.held.now r c.args.basic c.args.next c.args.best last
    (λ other. other.2 (named_is c.args.basic c.args.next (sym c.is_column.ensures ∙ c.if-is_column.true)))

pub returns-then-is_later : goal.returns-then-is_later
returns-then-is_later c = λ r on last.
    last_next c.args.self.now.matrix.now c.args.self.now.held.now r c.args.basic c.args.next c.args.best last
    (c.requires.next_in, on, named_not c.args.basic c.args.next (sym c.is_column.ensures ∙ c.if-is_column.false)) (sym c.is_later.ensures ∙ c.if-is_later.true)

pub returns-else-is_later : goal.returns-else-is_later
returns-else-is_later c = λ r on last.
    last_kept c.args.self.now.matrix.now c.args.self.now.held.now r c.args.basic c.args.next c.args.best last (sym c.is_later.ensures ∙ c.if-is_later.false)
