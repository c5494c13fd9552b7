use Rattle.std.proofs.Common.{◌∙◌, ◌≤◌, ◌<◌, ◌+◌, ◌++◌, ap, [], ◌∷◌, length, sym, true, false, drop, arith, append-nil}
use Rattle.std.specs.Map.{keys_of}
use Rattle.std.proofs.lemmas.List.{drop_all}
use Rattle.proof_rules.specs.FirstLists.{lists_of}
use Rattle.proof_rules.specs.Places.{entries_from}
use Rattle.proof_rules.proofs.FirstLaws.{length-left}
use Rattle.proof_rules.proofs.PlaceLaws.{keys_of-place}
use Rattle.proof_rules.proofs.first.FirstLists.push_ids.Goals as goal
use Rattle.proof_rules.proofs.first.FirstLists.push_ids.Goals.{then-has+in_ok-push, else-has}

pub loop-id-preserved : goal.loop-id-preserved
loop-id-preserved c =
    let xs = c.args.self.now in
    let n = c.loop-id.id in
    let ids = c.loop-id.ids.items in
    let counted = ap length (sym c.self.view_is) ∙ length-left c.self.inside.gone.items ([] ∷ lists_of c.self.inside.lists) (omega arith) in
    let less = c.loop-id-test.true in
    let ended = c.len-id-end.ensures in
    let inside : n < length xs = grind (arith, less, ended, counted) in
    elim c.if-has.branch [
      | then-has+in_ok-push w ↦
          (λ i. (w.ids-is i).items ++ keys_of (entries_from (n + 1) (drop (n + 1) xs)))
          ∙ ap (λ js. js ++ keys_of (entries_from (n + 1) (drop (n + 1) xs))) w.in_ok-push.ensures.items
          ∙ keys_of-place true xs n n ids _ inside (sym w.if-has.true ∙ c.has.ensures) c.loop-id.invariant
      | else-has w ↦
          (λ i. (w.ids-is i).items ++ keys_of (entries_from (n + 1) (drop (n + 1) xs)))
          ∙ keys_of-place false xs n n ids _ inside (sym w.if-has.false ∙ c.has.ensures) c.loop-id.invariant
    ]

pub returns : goal.returns
returns c =
    let xs = c.args.self.now in
    let ids = c.loop-id.ids.items in
    let counted = ap length (sym c.self.view_is) ∙ length-left c.self.inside.gone.items ([] ∷ lists_of c.self.inside.lists) (omega arith) in
    let past = c.loop-id-test.false in
    let ended = c.len-id-end.ensures in
    let all : length xs ≤ c.loop-id.id = grind (arith, past, ended, counted) in
    sym (append-nil ids) ∙ ap (λ ys. ids ++ keys_of (entries_from c.loop-id.id ys)) (sym (drop_all c.loop-id.id xs all)) ∙ c.loop-id.invariant
