use Rattle.std.proofs.Common.{◌≡◌, Bool, true, false, cond, subst, ap, ◌∙◌, refl, rules, length, ◌<◌}
use Rattle.std.proofs.lemmas.Option.{IfSome_then}
use Rattle.cx_desk.specs.declared.desk.Slot.TheVariants.{Second}
use Rattle.cx_desk.specs.Outside.{Bytes, Outside}
use Rattle.cx_texts.specs.LogText.{log_steps, LogReads}
use Rattle.step_text.specs.Slots.{SlotState, SlotLeaves, is_too_long}
use Rattle.proof_text.specs.Told.{steps_told, TornOn}
use Rattle.solve_cli.specs.Seen.{seen}
use Rattle.solve_cli.specs.Steps.{Acts}
use Rattle.solve_cli.specs.TwoEnds.{ReadsAndPrints}
use Rattle.solve_cli.specs.SlotTexts.{HasRead, ElaboratedAs}
use Rattle.solve_cli.proofs.Gaining.{settled, whole_port, has_read_and_printed}
use Rattle.solve_cli.proofs.SlotTexts.{acts_by_text, whole_text, is_long}
use Rattle.solve_cli.proofs.elab.elaborate_on.Goals as goal

pub invariant_of-ends : goal.invariant_of-ends
invariant_of-ends g c = record { started = c.requires.started; whole = λ _. whole_port (g.D.Desk.outside c.args.desk.now) c.requires.empty }

pub returns-clause-elaborated : goal.returns-clause-elaborated
returns-clause-elaborated g c = λ name limit first ready.
    let s = c.args.reader.now in
    let o = g.D.Desk.outside c.args.desk.now in
    let n = g.D.Desk.outside c.elaborate.new.ends.desk.now in
    let t = c.elaborate.new.ends.reader.now.bytes in
    let last = c.elaborate.new.ends.failed in
    let e = c.elaborate.ensures in
    let between = subst (λ (x : SlotState). ReadsAndPrints x.bytes false o t last n) first e.ends.frame.2 in
    let done : Acts limit o n (λ w. ElaboratedAs c.args.formula.now name limit (seen w o) c.elaborate.result (seen w n)) =
    acts_by_text name limit o ready t n (has_read_and_printed name limit o t last n ready between) (λ w text may is.
    settled Second between.got o n w c.args.formula.now name limit c.requires.empty {X = Bool} (λ _. SlotLeaves log_steps s o text) (λ x. cond x (steps_told n) (steps_told o)) (λ _ step. TornOn step n)
    false true last (is_too_long s.bytes o text) c.elaborate.result
    (λ steps ending h. IfSome_then w is (λ files same. subst (λ (x : Bytes). LogReads x steps ending) same
    (whole_text log_steps Second limit o name ready text steps ending (subst (λ (x : SlotState). SlotLeaves log_steps x o text steps ending) first h))))
    (λ h. IfSome_then w is (λ files same. subst (λ (x : Bytes). limit < length x) same (is_long Second limit o name text ready (λ k. h (ap (λ (x : SlotState). is_too_long x.bytes o text) first ∙ k)))))
    refl refl (λ step h. h) between.goes (e.judged text may) e.cut_off (e.ends.cause text may) e.ends.reads e.ends.writes) in
    let same : ◌≡◌ {A = Outside} n (g.D.Desk.outside c.desk-1.given.0) = search rules in
    subst (λ (x : Outside). Acts limit o x (λ w. ElaboratedAs c.args.formula.now name limit (seen w o) c.elaborate.result (seen w x))) same done

pub returns-clause-read : goal.returns-clause-read
returns-clause-read g c = λ name limit first ready.
    let o = g.D.Desk.outside c.args.desk.now in
    let n = g.D.Desk.outside c.elaborate.new.ends.desk.now in
    let t = c.elaborate.new.ends.reader.now.bytes in
    let last = c.elaborate.new.ends.failed in
    let between = subst (λ (x : SlotState). ReadsAndPrints x.bytes false o t last n) first c.elaborate.ensures.ends.frame.2 in
    let has = has_read_and_printed name limit o t last n ready between in
    let desk : ◌≡◌ {A = Outside} n (g.D.Desk.outside c.desk-1.given.0) = search rules in
    let reader : ◌≡◌ {A = SlotState} c.elaborate.new.ends.reader.now c.reader-1.given.0 = search rules in
    subst (λ (x : SlotState). HasRead limit o x.bytes (g.D.Desk.outside c.desk-1.given.0)) reader (subst (λ (x : Outside). HasRead limit o t x) desk has)
