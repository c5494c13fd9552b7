use Rattle.std.proofs.Common.{◌≡◌, ◌≤◌, ◌<◌, ◌+◌, ◌∙◌, ◌++◌, ◌∷◌, [], ℕ, Bool, true, false, cond, List, length, get_or, drop, ap, sym, subst, append-nil, append_assoc}
use Rattle.std.proofs.ByRecursion.{All-push}
use Rattle.std.proofs.Math.ListN.{drop_of_length-le}
use Rattle.std.specs.List.{AllByRecursion}
use Rattle.proof_rules.specs.VariableMarks.{mark_at, is_odd, left_over}
use Rattle.proof_rules.specs.declared.parity_sum.Mark.{Mark}
use Rattle.proof_rules.proofs.LiteralLaws.{next_item}
use Rattle.proof_rules.proofs.parity_sum.list_left.Goals as goal
use Rattle.proof_rules.proofs.parity_sum.list_left.Goals.{then-is_odd+in_ok-push, else-is_odd}

-- what is left from a variable on
left_here : (marks : List Mark) (met : List ℕ) (i x : ℕ) (b : Bool) → i < length met → x ≡ get_or met i x → is_odd (mark_at marks x) ≡ b → left_over marks (drop i met) ≡ cond b (x ∷ left_over marks (drop (i + 1) met)) (left_over marks (drop (i + 1) met))
left_here marks met i x b less is odd = ap (left_over marks) (next_item met i x less is) ∙ ap (λ t. cond t (x ∷ left_over marks (drop (i + 1) met)) (left_over marks (drop (i + 1) met))) odd

pub loop-variable-preserved : goal.loop-variable-preserved
loop-variable-preserved c =
    let marks = c.args.marks.now in
    let met : List ℕ = c.args.met.now in
    let list : List ℕ = c.loop-variable.list.items in
    let i = c.loop-variable.variable-index in
    let x = c.variable-item.result in
    let rest = left_over marks (drop (i + 1) met) in
    let so_far = c.loop-variable.invariant in
    let tested : is_odd (mark_at marks x) ≡ c.is_odd.result = sym (c.is_odd.ensures ∙ ap is_odd (c.mark_at.ensures ∙ ap (mark_at marks) c.number.ensures.number)) in
    elim c.if-is_odd.branch [
      | then-is_odd+in_ok-push w ↦
          let pushed : c.if-is_odd.list.items ≡ list ++ x ∷ [] = ap (λ v. v.items) w.list-is ∙ w.in_ok-push.ensures.items in
          let here = left_here marks met i x true c.loop-variable-test.true c.variable-item.is (tested ∙ w.if-is_odd.true) in
          record {
            left = ap (λ (xs : List ℕ). xs ++ rest) pushed ∙ append_assoc list (x ∷ []) rest ∙ ap (λ (xs : List ℕ). list ++ xs) (sym here) ∙ so_far.left;
            positive = subst (AllByRecursion (λ y. 1 ≤ y)) (sym pushed) (All-push (λ y. 1 ≤ y) list x so_far.positive (subst (λ n. 1 ≤ n) c.number.ensures.number c.number.ensures.low));
          }
      | else-is_odd w ↦
          let same : c.if-is_odd.list.items ≡ list = ap (λ v. v.items) w.list-is in
          let here = left_here marks met i x false c.loop-variable-test.true c.variable-item.is (tested ∙ w.if-is_odd.false) in
          record {
            left = ap (λ (xs : List ℕ). xs ++ rest) same ∙ ap (λ (xs : List ℕ). list ++ xs) (sym here) ∙ so_far.left;
            positive = subst (AllByRecursion (λ y. 1 ≤ y)) (sym same) so_far.positive;
          }
    ]

pub returns-clause-left : goal.returns-clause-left
returns-clause-left c =
    let list : List ℕ = c.loop-variable.list.items in
    sym (append-nil list)
    ∙ ap (λ (ms : List ℕ). list ++ left_over c.args.marks.now ms) (sym (drop_of_length-le c.args.met.now c.loop-variable-test.false))
    ∙ c.loop-variable.invariant.left
