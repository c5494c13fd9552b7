use Rattle.std.proofs.Common.{◌≡◌, ◌≢◌, ◌∙◌, ◌+◌, ◌-◌, ◌≤◌, sym, ap, subst, ℕ, Bool, List, [], drop, Ok, Err, Some, None, arith}
use Rattle.cx_desk.specs.SlotBytes.{BytesState, taken_by}
use Rattle.cx_texts.specs.declared.line_state.LineState.TheVariants.{Kept}
use Rattle.step_text.specs.Slots.{SlotState}
use Rattle.step_text.specs.SlotAnswers.{IsAnswer}
use Rattle.step_text.specs.Found.{FoundStep, IsFound}
use Rattle.step_text.specs.declared.slot_reader.StepFinding.TheVariants.{Refused, End}
use Rattle.step_text.proofs.AnswerLaws.{refusal_answer, step_answer, end_answer}
use Rattle.step_text.proofs.slot_reader.SlotReader.take_found.Goals as goal

pub returns-in-Refused : goal.returns-in-Refused
returns-in-Refused g c =
    let i = c.self.inside in
    let steps = g.G.StepGrammar.steps in
    let s : SlotState = record { bytes = i.bytes; line = i.line; refused = i.refused } in
    let is : s ≡ c.args.self.now = c.self.view_is in
    let fresh : s.refused ≡ None = ap (λ (x : SlotState). x.refused) is ∙ c.requires.fresh in
    let line : s.bytes.bytes ≢ [] → s.line ≡ Kept = subst (λ (x : SlotState). x.bytes.bytes ≢ [] → x.line ≡ Kept) (sym is) c.requires.line in
    let refusal = c.in-Refused.refusal in
    let found : IsFound steps s.bytes.ended s.bytes.place s.bytes.bytes (Refused refusal) = subst (λ (e : Bool). IsFound steps e i.bytes.place i.bytes.bytes (Refused refusal)) c.has_ended.ensures
    (subst (λ (b : List ℕ). IsFound steps c.has_ended.result i.bytes.place b (Refused refusal)) c.bytes.ensures
    (subst (λ (n : ℕ). IsFound steps c.has_ended.result n c.bytes.result.now (Refused refusal)) c.place-place.ensures.place c.in-Refused.ensures)) in
    let within : taken_by s.bytes ≤ s.bytes.limit = c.self.invariant.3 (λ e. cc (fresh, e)) in
    record { answer = λ o. subst (λ (x : SlotState). IsAnswer steps x o (Err refusal) x o) is (refusal_answer steps s fresh line o refusal within found) }

pub returns-in-End : goal.returns-in-End
returns-in-End g c =
    let i = c.self.inside in
    let steps = g.G.StepGrammar.steps in
    let s : SlotState = record { bytes = i.bytes; line = i.line; refused = i.refused } in
    let is : s ≡ c.args.self.now = c.self.view_is in
    let fresh : s.refused ≡ None = ap (λ (x : SlotState). x.refused) is ∙ c.requires.fresh in
    let line : s.bytes.bytes ≢ [] → s.line ≡ Kept = subst (λ (x : SlotState). x.bytes.bytes ≢ [] → x.line ≡ Kept) (sym is) c.requires.line in
    let found : IsFound steps s.bytes.ended s.bytes.place s.bytes.bytes End = subst (λ (e : Bool). IsFound steps e i.bytes.place i.bytes.bytes End) c.has_ended.ensures
    (subst (λ (b : List ℕ). IsFound steps c.has_ended.result i.bytes.place b End) c.bytes.ensures
    (subst (λ (n : ℕ). IsFound steps c.has_ended.result n c.bytes.result.now End) c.place-place.ensures.place c.in-End.ensures)) in
    record { answer = λ o. subst (λ (x : SlotState). IsAnswer steps x o (Ok None) x o) is (end_answer steps s fresh line o (c.self.invariant.3 (λ e. cc (fresh, e))) found) }

pub returns-in-Step : goal.returns-in-Step
returns-in-Step g c =
    let i = c.self.inside in
    let steps = g.G.StepGrammar.steps in
    let s : SlotState = record { bytes = i.bytes; line = i.line; refused = i.refused } in
    let is : s ≡ c.args.self.now = c.self.view_is in
    let fresh : s.refused ≡ None = ap (λ (x : SlotState). x.refused) is ∙ c.requires.fresh in
    let line : s.bytes.bytes ≢ [] → s.line ≡ Kept = subst (λ (x : SlotState). x.bytes.bytes ≢ [] → x.line ≡ Kept) (sym is) c.requires.line in
    let step = c.in-Step.step in
    let next = c.in-Step.next in
    let found : FoundStep steps s.bytes.ended s.bytes.place s.bytes.bytes step next c.in-Step.line = subst (λ (e : Bool). FoundStep steps e i.bytes.place i.bytes.bytes step next c.in-Step.line) c.has_ended.ensures
    (subst (λ (b : List ℕ). FoundStep steps c.has_ended.result i.bytes.place b step next c.in-Step.line) c.bytes.ensures
    (subst (λ (n : ℕ). FoundStep steps c.has_ended.result n c.bytes.result.now step next c.in-Step.line) c.place-place.ensures.place c.in-Step.ensures)) in
    let to : i.bytes.place + (next - i.bytes.place) ≡ next = omega (arith, found.at) in
    let moved : c.pass.new.self ≡ record i.bytes { bytes = drop (next - i.bytes.place) i.bytes.bytes; place = next } = c.pass.ensures
    ∙ ap (λ (n : ℕ). record i.bytes { bytes = drop (next - n) i.bytes.bytes; place = i.bytes.place + (next - n) }) c.place-place.ensures.place
    ∙ ap (λ (n : ℕ). record i.bytes { bytes = drop (next - i.bytes.place) i.bytes.bytes; place = n }) to in
    let after : BytesState → SlotState = λ b. record { bytes = b; line = c.in-Step.line; refused = i.refused } in
    record {
      answer = λ o. subst (λ (x : SlotState). IsAnswer steps x o (Ok (Some step)) (after c.pass.new.self) o) is
          (subst (λ (b : BytesState). IsAnswer steps s o (Ok (Some step)) (after b) o) (sym moved) (step_answer steps s fresh line o step next c.in-Step.line found));
    }
