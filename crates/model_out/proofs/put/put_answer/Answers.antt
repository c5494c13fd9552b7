use Rattle.std.proofs.Common.{◌≡◌, ◌∙◌, subst, ◌++◌, ◌∷◌, [], codes, flat_map, append_assoc}
use Rattle.std.specs.List.{enumerate_from}
use Rattle.std.proofs.lemmas.Result.{err_from_is_err_and}
use Rattle.cx_desk.specs.Outside.{Bytes}
use Rattle.cx_desk.specs.Calls.{PutsAll}
use Rattle.cx_desk.specs.declared.desk.Port.TheVariants.{Answer}
use Rattle.cx_texts.specs.AnswerText.{printed_value, answer_text}
use Rattle.model_out.specs.Waiting.{Takes, Fails}
use Rattle.model_out.proofs.Puts.{takes_more, takes_then_fails, fails_before, writes_all, text_is}
use Rattle.model_out.proofs.put.put_answer.Goals as goal

abbrev head : Bytes
head = codes "s SATISFIABLE" ++ 10 ∷ codes "v"

abbrev tail : Bytes
tail = codes " 0" ++ 10 ∷ []

pub returns-in_err-add : goal.returns-in_err-add
returns-in_err-add g c =
    let p = err_from_is_err_and c.from_residual.result c.from_residual.ensures.1 in
    let old = g.D.Desk.outside c.args.desk.now in
    let new = g.D.Desk.outside c.add.new.desk in
    let u : Bytes = c.new-waiting.result.items in
    let middle : Bytes = flat_map printed_value (enumerate_from 0 c.args.values.now) in
    let is : u ++ (head ++ (middle ++ tail)) ≡ answer_text c.args.values.now = (λ i. c.new-waiting.ensures i ++ text_is c.args.values.now i) in
    rw p.1 (subst (λ (t : Bytes). Fails t old new) is (fails_before head (middle ++ tail) old new u c.in_err-add.ensures))

pub returns-in_err-add_values : goal.returns-in_err-add_values
returns-in_err-add_values g c =
    let p = err_from_is_err_and c.from_residual-in_err-add_values.result c.from_residual-in_err-add_values.ensures.1 in
    let old = g.D.Desk.outside c.args.desk.now in
    let mid = g.D.Desk.outside c.add.new.desk in
    let new = g.D.Desk.outside c.add_values.new.desk in
    let u : Bytes = c.new-waiting.result.items in
    let middle : Bytes = flat_map printed_value (enumerate_from 0 c.args.values.now) in
    let is : u ++ ((head ++ middle) ++ tail) ≡ answer_text c.args.values.now = (λ i. c.new-waiting.ensures i ++ (append_assoc head middle tail ∙ text_is c.args.values.now) i) in
    let front = takes_then_fails head middle old mid new u c.add.new.waiting.items c.in_ok-add.ensures c.in_err-add_values.ensures in
    rw p.1 (subst (λ (t : Bytes). Fails t old new) is (fails_before (head ++ middle) tail old new u front))

pub returns-in_err-add-2 : goal.returns-in_err-add-2
returns-in_err-add-2 g c =
    let p = err_from_is_err_and c.from_residual-in_err-add-2.result c.from_residual-in_err-add-2.ensures.1 in
    let old = g.D.Desk.outside c.args.desk.now in
    let mid = g.D.Desk.outside c.add.new.desk in
    let late = g.D.Desk.outside c.add_values.new.desk in
    let new = g.D.Desk.outside c.add-2.new.desk in
    let u : Bytes = c.new-waiting.result.items in
    let v : Bytes = c.add.new.waiting.items in
    let w : Bytes = c.add_values.new.waiting.items in
    let middle : Bytes = flat_map printed_value (enumerate_from 0 c.args.values.now) in
    let is : u ++ ((head ++ middle) ++ tail) ≡ answer_text c.args.values.now = (λ i. c.new-waiting.ensures i ++ (append_assoc head middle tail ∙ text_is c.args.values.now) i) in
    let front = takes_more head middle old mid late u v w c.in_ok-add.ensures c.in_ok-add_values.ensures in
    rw p.1 (subst (λ (t : Bytes). Fails t old new) is (takes_then_fails (head ++ middle) tail old late new u w front c.in_err-add-2.ensures))

pub returns : goal.returns
returns g c =
    let old = g.D.Desk.outside c.args.desk.now in
    let mid = g.D.Desk.outside c.add.new.desk in
    let late = g.D.Desk.outside c.add_values.new.desk in
    let last = g.D.Desk.outside c.add-2.new.desk in
    let new = g.D.Desk.outside c.put_all.new.desk in
    let u : Bytes = c.new-waiting.result.items in
    let v : Bytes = c.add.new.waiting.items in
    let w : Bytes = c.add_values.new.waiting.items in
    let z : Bytes = c.add-2.new.waiting.items in
    let middle : Bytes = flat_map printed_value (enumerate_from 0 c.args.values.now) in
    let front = takes_more head middle old mid late u v w c.in_ok-add.ensures c.in_ok-add_values.ensures in
    let taken : Takes ((head ++ middle) ++ tail) old u last z = takes_more (head ++ middle) tail old late last u w z front c.in_ok-add-2.ensures in
    let text : Takes (answer_text c.args.values.now) old u last z = subst (λ (t : Bytes). Takes t old u last z) (append_assoc head middle tail ∙ text_is c.args.values.now) taken in
    let start : Takes (answer_text c.args.values.now) old [] last z = subst (λ (t : Bytes). Takes (answer_text c.args.values.now) old t last z) c.new-waiting.ensures text in
    writes_all (answer_text c.args.values.now) old last new z c.put_all.result start (subst (λ (t : Bytes). PutsAll Answer t last c.put_all.result new) c.as_slice.ensures.value c.put_all.ensures)
