use Rattle.std.proofs.Common.{◌≡◌, refl, ◌∙◌, ◌∷◌, ap, subst, ℕ, Bool, true, false, List, cond}
use mir.Val.{bool_byte}
use Rattle.std.specs.List.Sorted.{IsPermutation}
use Rattle.std.proofs.lemmas.List.Sorted.{IsNonDecreasingBy-from_sort}
use Rattle.proof_rules.proofs.ContentLaws.{variables_of_sorted}
use Rattle.proof_rules.proofs.content.fill_parity_content.Goals as goal

as_number : (b : Bool) → bool_byte b ≡ cond b 1 0
as_number true = refl
as_number false = refl

pub cancel_pairs-requires : goal.cancel_pairs-requires
cancel_pairs-requires c = IsNonDecreasingBy-from_sort (λ x. x) _ c.sort_unstable.ensures.sorted

pub returns : goal.returns
returns c =
    let sorted = c.sort_unstable.new.self.items in
    let variables = c.cancel_pairs.new.numbers.items in
    let moved = subst (λ (xs : List ℕ). IsPermutation xs sorted) c.in_ok-fill_numbers.ensures c.sort_unstable.ensures.permutation in
    let side = c.from.ensures ∙ as_number c.right_side.result ∙ ap (λ b. cond {A = ℕ} b 1 0) c.right_side.ensures in
    (variables, c.in_ok-insert.ensures.items ∙ ap (λ n. n ∷ variables) side, variables_of_sorted c.args.lits.now sorted variables moved c.cancel_pairs.ensures)
