use Rattle.std.proofs.Common.{◌∙◌, sym, ap, subst, cond, take, take_all, get_or, nat_cmp, None, arith}
use Rattle.std.proofs.lemmas.List.Folds.{list_any_more}
use Rattle.std.specs.List.{list_any}
use Rattle.std.specs.Ordering.{eq_by_cmp}
use Rattle.std.specs.FinMap as map
use Rattle.proof_rules.specs.Places.{HasKeys}
use Rattle.proof_rules.proofs.KeptLaws.{one_copied, all_copied}
use Rattle.proof_rules.proofs.kept.KeptLists.gathered.Goals as goal

pub loop-id-init : goal.loop-id-init
loop-id-init c q = ap (λ t. map.get t q) c.in_ok-gathered.ensures ∙ map.get-empty nat_cmp q

pub loop-id-preserved : goal.loop-id-preserved
loop-id-preserved c q =
    let old = c.args.self.now in
    let ids = c.deref-id-items.result.now in
    let i = c.loop-id.id-index in
    let is = eq_by_cmp nat_cmp q in
    one_copied old c.loop-id.gathered c.copy_list.new.self (get_or ids i 0) q (list_any is (take i ids)) c.in_ok-copy_list.ensures (c.loop-id.invariant q)
    ∙ ap (λ b. cond b (map.get old q) None) (sym (list_any_more is ids i 0 c.loop-id-test.true))

pub returns : goal.returns
returns c =
    let old = c.args.self.now in
    let ids = c.deref-id-items.result.now in
    let keys = subst (HasKeys old) (sym c.deref-id-items.ensures.value) c.in_ok-ids.ensures in
    all_copied old c.loop-id.gathered ids keys
    (λ q. c.loop-id.invariant q ∙ ap (λ ns. cond (list_any (eq_by_cmp nat_cmp q) ns) (map.get old q) None) (take_all c.loop-id.id-index ids (omega arith)))
