use Rattle.std.proofs.Common.{◌+◌, sym, subst, Option, Some, None, MatchOption}
use Rattle.cx_base.specs.Literals.{Literal}
use Rattle.cx_trail.specs.declared.entry.Reason.TheVariants.{Decision}
use Rattle.cx_trail.specs.Sequence.{pushed}
use Rattle.search_policy.specs.Assuming.{KeepsAssumptions}
use Rattle.search_policy.proofs.AssumingLaws.{assumed_keeps, free_keeps, first_is_assumed}
use Rattle.cdcl_search.proofs.deciding.next_decision.Goals as goal

of_option : (o : Option Literal) (P : Type 0) (Q : Literal → Type 0) → P → ((l : Literal) → Q l) → MatchOption o P Q
of_option None P Q p q = p
of_option (Some l) P Q p q = q l

pub returns-in-Some-clause-keeps : goal.returns-in-Some-clause-keeps
returns-in-Some-clause-keeps c =
    let cs = c.args.formula.now.constraints in
    let t = c.args.state.now.trail in
    let a = c.next_open.new.self in
    let l = c.in-Some.literal in
    let e = c.in-Some.ensures in
    subst (λ n. KeepsAssumptions cs (record a { level = n + 1 }) (pushed t (t.level + 1) l Decision)) (sym c.level.ensures.level)
    (assumed_keeps cs a t e.keeps c.len-sound.ensures.sound l (e.keeps.rest e.passed) (first_is_assumed cs t l e.first))

pub returns-clause-keeps : goal.returns-clause-keeps
returns-clause-keeps c =
    let cs = c.args.formula.now.constraints in
    let t = c.args.state.now.trail in
    let a = c.next_open.new.self in
    let e = c.in_default.ensures in
    of_option c.picked.result (KeepsAssumptions cs a t) (λ l. KeepsAssumptions cs a (pushed t (t.level + 1) l Decision)) e.keeps (λ l. free_keeps cs a t e.keeps c.len-sound.ensures.sound l e.passed)
