use Rattle.std.proofs.Common.{◌≡◌, ◌∙◌, ap, subst, set, None}
use Rattle.std.specs.Bool.{MatchBool}
use Rattle.std.specs.FinMap as map
use Rattle.proof_rules.specs.FirstLists.{StandsThere}
use Rattle.proof_rules.specs.FirstLists.{behind}
use Rattle.proof_rules.proofs.TableLaws.{insert-behind, restore-behind}
use Rattle.proof_rules.proofs.table.LiveTable.insert_copy.Goals as goal

pub returns-then-branch-clause-ok : goal.returns-then-branch-clause-ok
returns-then-branch-clause-ok c =
    let old = c.self.inside.first in
    let new = c.restore.new.self in
    let stands = subst (λ b. MatchBool b (StandsThere c.args.id c.args.lits.now old new) (new ≡ old)) c.if-branch.true c.in_ok-restore.ensures.ok in
    restore-behind old new c.self.inside.lists c.args.id c.args.lits.now stands ∙ ap (λ t. map.insert t c.args.id c.args.lits.now) c.self.view_is

pub returns-clause-ok : goal.returns-clause-ok
returns-clause-ok c =
    let old = c.self.inside.first in
    let new = c.restore.new.self in
    let same = subst (λ b. MatchBool b (StandsThere c.args.id c.args.lits.now old new) (new ≡ old)) c.if-branch.false c.in_ok-restore.ensures.ok in
    let cleared = c.clear.ensures ∙ ap (λ first. set first c.args.id None) same in
    (λ i. behind (cleared i) (c.in_ok-insert.ensures.ok i)) ∙ insert-behind old c.self.inside.lists c.args.id c.args.lits.now ∙ ap (λ t. map.insert t c.args.id c.args.lits.now) c.self.view_is
