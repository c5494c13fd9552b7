use Rattle.std.proofs.Common.{◌≡◌, ◌≢◌, refl, sym, ◌∙◌, ◌+◌, false, true≢false, List, [], rules}
use Rattle.cx_texts.specs.Tokens.{Token}
use Rattle.cx_texts.specs.Grammar.{IsClosed}
use Rattle.step_text.proofs.SlotSteps.{LooksAt, found_step, found_last, refusal_stays, some_bytes}
use Rattle.step_text.proofs.slot_reader.find_step.Goals as goal
use Rattle.step_text.proofs.slot_reader.find_step.Goals.{else-not-ended-via-then-not-ended+else-not-is_closed, else-not-ended-via-else-not-ended}

pub returns-then-not-is_empty : goal.returns-then-not-is_empty
returns-then-not-is_empty g c =
    let len = c.whole_len-len.result in
    let bytes = c.args.bytes.now in
    let tokens : List Token = c.within-tokens.result in
    let look : LooksAt c.args.ended c.args.place len bytes tokens = record { within = c.whole_len-len.ensures.within; all = c.whole_len-len.ensures.all; blank = c.whole_len-len.ensures.blank; are = c.within-tokens.ensures } in
    let some : c.read_step.new.tokens ≢ [] = search rules in
    found_step c.args.ended c.args.place len bytes tokens look g.G.StepGrammar.steps g.met.G.StepGrammar.forms c.in-Ok.step c.read_step.new.tokens c.place.result c.in-Ok.ensures some c.place.ensures

pub returns-else-not-ended : goal.returns-else-not-ended
returns-else-not-ended g c =
    let len = c.whole_len-len.result in
    let bytes = c.args.bytes.now in
    let tokens : List Token = c.within-tokens.result in
    let look : LooksAt c.args.ended c.args.place len bytes tokens = record { within = c.whole_len-len.ensures.within; all = c.whole_len-len.ensures.all; blank = c.whole_len-len.ensures.blank; are = c.within-tokens.ensures } in
    let none : c.read_step.new.tokens ≡ [] = search rules in
    let closed : c.args.ended ≡ false → IsClosed g.G.StepGrammar.steps c.in-Ok.step =
    λ e. elim c.else-not-ended.branch [ else-not-ended-via-then-not-ended+else-not-is_closed w ↦ w.is_closed.ensures (search rules) | else-not-ended-via-else-not-ended w ↦ absurd (true≢false (sym w.if-not-ended.false ∙ e)) ] in
    found_last c.args.ended c.args.place len bytes tokens look g.G.StepGrammar.steps g.met.G.StepGrammar.forms c.in-Ok.step c.read_step.new.tokens c.line_behind.result c.in-Ok.ensures none closed c.line_behind.ensures

pub returns-else-not-counts : goal.returns-else-not-counts
returns-else-not-counts g c =
    let len = c.whole_len-len.result in
    let bytes = c.args.bytes.now in
    let tokens : List Token = c.within-tokens.result in
    let look : LooksAt c.args.ended c.args.place len bytes tokens = record { within = c.whole_len-len.ensures.within; all = c.whole_len-len.ensures.all; blank = c.whole_len-len.ensures.blank; are = c.within-tokens.ensures } in
    let some : tokens ≢ [] = search rules in (
      some_bytes c.args.ended c.args.place len bytes tokens look some,
      refusal_stays c.args.ended c.args.place len bytes tokens look g.G.StepGrammar.steps g.met.G.StepGrammar.forms (c.args.place + len) c.in-Err.refusal c.in-Err.ensures (c.counts.ensures.yes c.if-not-counts.false) refl,
    )
