use Rattle.std.proofs.Common.{◌∙◌, sym, ap, subst, cond, take, take_all, get_or, nat_cmp, Some, None, arith}
use Rattle.std.proofs.Math.Bool.{or_comm}
use Rattle.std.proofs.lemmas.List.Folds.{list_any_more}
use Rattle.std.specs.List.{list_any}
use Rattle.std.specs.Ordering.{eq_by_cmp}
use Rattle.std.specs.FinMap as map
use Rattle.proof_rules.specs.Places.{HasKeys}
use Rattle.fratx_elab.proofs.OwnLaws.{listed_id, get-insert_itself, all_themselves}
use Rattle.fratx_elab.proofs.own_ids.own_numbers.Goals as goal

pub loop-id-init : goal.loop-id-init
loop-id-init c q = ap (λ m. map.get m q) c.beside-numbers.ensures ∙ map.get-empty nat_cmp q

pub new-requires : goal.new-requires
new-requires c =
    let ids = c.args.ids.now in
    let is = listed_id ids c.deref-id-items.result.now c.loop-id.id-index (subst (HasKeys ids) (sym c.deref-id-items.ensures.value) c.in_ok-list.ensures) c.requires c.loop-id-test.true in
    record { low = is.0; high = is.1 }

pub loop-id-preserved : goal.loop-id-preserved
loop-id-preserved c q =
    let ids = c.deref-id-items.result.now in
    let i = c.loop-id.id-index in
    let n = get_or ids i 0 in
    let test = eq_by_cmp nat_cmp q in
    ap (λ m. map.get m q) (c.in_ok-insert.ensures.ok ∙ ap (map.insert c.loop-id.numbers n) c.new.ensures)
    ∙ get-insert_itself c.loop-id.numbers n q (list_any test (take i ids)) (c.loop-id.invariant q)
    ∙ ap (λ b. cond b (Some q) None) (or_comm (test n) (list_any test (take i ids)) ∙ sym (list_any_more test ids i 0 c.loop-id-test.true))

pub returns : goal.returns
returns c =
    let ids = c.deref-id-items.result.now in
    all_themselves c.args.ids.now ids c.loop-id.numbers (subst (HasKeys c.args.ids.now) (sym c.deref-id-items.ensures.value) c.in_ok-list.ensures)
    (λ q. c.loop-id.invariant q ∙ ap (λ ns. cond (list_any (eq_by_cmp nat_cmp q) ns) (Some q) None) (take_all c.loop-id.id-index ids (omega arith)))
