use Rattle.std.proofs.Common.{◌≡◌, ◌∙◌, sym, ap, subst, ℕ, ◌+◌, ◌≤◌, List, ◌++◌, length, drop, arith, length-drop}
use Rattle.cx_desk.specs.SlotBytes.{BytesState}
use Rattle.cx_texts.specs.Pieces.{tokens_in}
use Rattle.step_text.specs.Slots.{SlotState, ReadsOn}
use Rattle.step_text.proofs.SlotLaws.{passes_on}
use Rattle.step_text.proofs.slot_reader.SlotReader.pass_blanks.Goals as goal

pub invariant_of-self : goal.invariant_of-self
invariant_of-self g c =
    let i = c.self.inside in
    let b = c.pass.new.self in
    let at = c.pass_blanks-stop.result.at in
    let high : at ≤ length i.bytes.bytes = subst (λ (x : List ℕ). at ≤ length x) c.bytes.ensures c.pass_blanks-stop.ensures.high in
    let fresh = ap (λ (s : SlotState). s.refused) c.self.view_is ∙ c.requires in
    let taken : i.bytes.place + length i.bytes.bytes ≤ i.bytes.limit = c.self.invariant.3 (λ e. cc (fresh, e)) in
    let limit : b.limit ≡ i.bytes.limit = ap (λ (x : BytesState). x.limit) c.pass.ensures in
    let place : b.place ≡ i.bytes.place + at = ap (λ (x : BytesState). x.place) c.pass.ensures in
    let sum : b.place + length b.bytes ≡ i.bytes.place + length i.bytes.bytes = omega (arith, place, ap (λ (x : BytesState). length x.bytes) c.pass.ensures, length-drop at i.bytes.bytes, high) in
    (omega (arith, limit, c.self.invariant.0), omega (arith, limit, place, high, taken), omega (arith, limit, sum, taken), (λ e. omega (arith, limit, sum, taken)), (λ e. omega (arith, limit, sum, c.self.invariant.4 e)))

pub returns-clause-on : goal.returns-clause-on
returns-clause-on g c = λ o.
    let i = c.self.inside in
    let at = c.pass_blanks-stop.result.at in
    let line = c.pass_blanks-stop.result.line in
    let s : SlotState = record { bytes = i.bytes; line = i.line; refused = i.refused } in
    let high : at ≤ length i.bytes.bytes = subst (λ (x : List ℕ). at ≤ length x) c.bytes.ensures c.pass_blanks-stop.ensures.high in
    let left : (place : ℕ) (more : List ℕ) → tokens_in i.line place (i.bytes.bytes ++ more) ≡ tokens_in line (place + at) (drop at i.bytes.bytes ++ more) =
    subst (λ (x : List ℕ). (place : ℕ) (more : List ℕ) → tokens_in i.line place (x ++ more) ≡ tokens_in line (place + at) (drop at x ++ more)) c.bytes.ensures c.pass_blanks-stop.ensures.left in
    let on = subst (λ (x : BytesState). ReadsOn s o (record s { bytes = x; line = line }) o) (sym c.pass.ensures) (passes_on s at line high left o) in
    subst (λ (x : SlotState). ReadsOn x o (record s { bytes = c.pass.new.self; line = line }) o) c.self.view_is on
