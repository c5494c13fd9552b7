use Rattle.std.proofs.Common.{◌≡◌, ◌≤◌, ◌+◌, ◌-◌, ◌*◌, ◌%◌, ◌^◌, ap, ◌∙◌, refl, length, get_or, not, List, ℕ, arith}
use Rattle.cx_base.specs.Literals.{Literal}
use Rattle.cx_base.specs.Parity.{odd_sum}
use Rattle.cx_base.specs.Problem.{clauses_of}
use Rattle.cx_semantics.proofs.Widths.{variables}
use Rattle.xor_recover.proofs.Numbers.{negatives}
use Rattle.xor_recover.proofs.Grouping.{power_small}
use Rattle.xor_recover.proofs.Within.{formula_within, widened}
use Rattle.xor_recover.proofs.StartRows.{read_at}
use Rattle.xor_recover.proofs.Signs.{taken_is}
use Rattle.xor_recover.proofs.WholeRows.{whole_is}
use Rattle.xor_recover.proofs.wholes.whole_at.Goals as goal

pub are_once-requires-clause-first : goal.are_once-requires-clause-first
are_once-requires-clause-first c = read_at (clauses_of c.args.formula.now.constraints) (c.args.number - 1) c.clause-lits.result.now c.clause-lits.ensures.clause

pub put_in_order-requires-clause-within : goal.put_in_order-requires-clause-within
put_in_order-requires-clause-within c = widened _ _ c.vars-vars.ensures.within.0 c.clause-lits.ensures.within

pub returns-clause-whole : goal.returns-clause-whole
returns-clause-whole c =
    let cs = c.args.formula.now.constraints in
    let C = clauses_of cs in
    let n = c.args.number in
    let lits = c.clause-lits.result.now in
    let r = c.put_in_order.new.normal.items in
    let k = length lits in
    let two : 2 ≤ k = c.if-lits-lt2.false in
    let six : k ≤ 6 = c.if-lits-gt-WIDEST.false in
    let count = 1 * 2 ^ (k - 1) % 18446744073709551616 in
    let counts : count ≡ 2 ^ (k - 1) = power_small k (omega arith) six in
    let len = c.clause_count.ensures in
    let room = c.if-left-count.false in
    let high : n + count ≤ length C + 1 = omega arith in
    let taken = taken_is _ _ _ c.if-not-branch.false c.in_ok-put_in_order.ensures in
    let vars : c.of-key.result.vars.items ≡ variables r = c.of-key.ensures.vars ∙ ap variables c.deref.ensures.value in
    let right : c.of-key.result.right ≡ not (odd_sum (negatives r)) = c.of-key.ensures.right ∙ ap (λ (ls : List Literal). not (odd_sum (negatives ls))) c.deref.ensures.value in
    whole_is C n count lits r _ (formula_within _ cs c.vars-vars.ensures.within) c.if-not-are_once.ensures (read_at C (n - 1) lits c.clause-lits.ensures.clause) taken.0 taken.1 two six c.requires.low high counts refl vars right
    (ap (λ (vs : List ℕ). get_or vs 0 0) (c.deref-2.ensures.0 ∙ vars)) (ap (λ (vs : List ℕ). get_or vs 1 0) (c.deref-3.ensures.0 ∙ vars))
