use Rattle.std.proofs.Common.{◌≡◌, ◌∙◌, ◌+◌, ◌++◌, subst, decimal}
use Rattle.std.proofs.lemmas.Result.{err_from_is_err_and}
use Rattle.cx_desk.specs.Outside.{Bytes}
use Rattle.cx_texts.specs.AnswerText.{printed_value}
use Rattle.model_out.specs.Waiting.{Fails, Adds}
use Rattle.model_out.proofs.Puts.{takes_more, takes_then_fails, fails_before, adds_more}
use Rattle.model_out.proofs.put.add_value.Goals as goal

pub returns-in_err-add-2 : goal.returns-in_err-add-2
returns-in_err-add-2 g c =
    let p = err_from_is_err_and c.from_residual-in_err-add-2.result c.from_residual-in_err-add-2.ensures.1 in
    let old = g.D.Desk.outside c.args.desk.now in
    let mid = g.D.Desk.outside c.add.new.desk in
    let new = g.D.Desk.outside c.add-2.new.desk in
    let u : Bytes = c.args.waiting.now.items in
    let v : Bytes = c.add.new.waiting.items in
    let a : Bytes = c.space_before.result.now in
    let b : Bytes = c.sign_of.result.now in
    let front = takes_then_fails a b old mid new u v c.in_ok-add.ensures c.in_err-add-2.ensures in
    let whole : Fails (u ++ ((a ++ b) ++ decimal (c.args.place + 1))) old new = fails_before (a ++ b) (decimal (c.args.place + 1)) old new u front in
    let is : (a ++ b) ++ decimal (c.args.place + 1) ≡ printed_value (c.args.place, c.args.value) = (λ i. (c.space_before.ensures i ++ c.sign_of.ensures i) ++ decimal (c.args.place + 1)) in
    rw p.1 (subst (λ (t : Bytes). Fails (u ++ t) old new) is whole)

pub returns : goal.returns
returns g c =
    let old = g.D.Desk.outside c.args.desk.now in
    let mid = g.D.Desk.outside c.add.new.desk in
    let late = g.D.Desk.outside c.add-2.new.desk in
    let new = g.D.Desk.outside c.add-3.new.desk in
    let u : Bytes = c.args.waiting.now.items in
    let v : Bytes = c.add.new.waiting.items in
    let w : Bytes = c.add-2.new.waiting.items in
    let z : Bytes = c.add-3.new.waiting.items in
    let a : Bytes = c.space_before.result.now in
    let b : Bytes = c.sign_of.result.now in
    let d : Bytes = c.as_bytes.result.now in
    let number : d ≡ decimal (c.args.place + 1) = c.as_bytes.ensures.value ∙ c.format-number.ensures.text in
    let front = takes_more a b old mid late u v w c.in_ok-add.ensures c.in_ok-add-2.ensures in
    let is : (a ++ b) ++ d ≡ printed_value (c.args.place, c.args.value) = (λ i. (c.space_before.ensures i ++ c.sign_of.ensures i) ++ number i) in
    subst (λ (t : Bytes). Adds t old u c.add-3.result new z) is (adds_more (a ++ b) d old late new u w z c.add-3.result front c.add-3.ensures)
