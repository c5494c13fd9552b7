use Rattle.std.proofs.Common.{◌≡◌, ◌∙◌, ◌≤◌, ◌<◌, ◌+◌, ◌++◌, ap, length, sym, true, false, drop, arith}
use Rattle.std.specs.Map.{keys_of}
use Rattle.proof_rules.specs.Places.{entries_from}
use Rattle.proof_rules.proofs.PageLaws.{keys_pushed, length-held_in}
use Rattle.proof_rules.proofs.PlaceLaws.{keys_of-place}
use Rattle.proof_rules.proofs.page.Page.push_taken.Goals as goal
use Rattle.proof_rules.proofs.page.Page.push_taken.Goals.{then-holds+in_ok-push, else-holds}

pub loop-place-preserved : goal.loop-place-preserved
loop-place-preserved g c =
    let xs = c.args.self.now in
    let n = c.loop-place.place in
    let m = c.args.first + n in
    let ids = c.loop-place.ids.items in
    let later : c.args.first + (n + 1) ≡ m + 1 = omega arith in
    let counted = ap length (sym c.self.view_is) ∙ length-held_in c.self.inside.taken c.self.inside.places.items in
    let less = c.loop-place-test.true in
    let ended = c.len-place-end.ensures in
    let inside : n < length xs = grind (arith, less, ended, counted) in
    elim c.if-holds.branch [
      | then-holds+in_ok-push w ↦
          (λ i. (w.ids-is i).items ++ keys_of (entries_from (later i) (drop (n + 1) xs)))
          ∙ ap (λ js. js ++ keys_of (entries_from (m + 1) (drop (n + 1) xs))) w.in_ok-push.ensures.items
          ∙ keys_of-place true xs m n ids _ inside (sym w.if-holds.true ∙ c.holds.ensures) c.loop-place.invariant
      | else-holds w ↦
          (λ i. (w.ids-is i).items ++ keys_of (entries_from (later i) (drop (n + 1) xs)))
          ∙ keys_of-place false xs m n ids _ inside (sym w.if-holds.false ∙ c.holds.ensures) c.loop-place.invariant
    ]

pub returns : goal.returns
returns g c =
    let held = c.args.self.now in
    let counted = ap length (sym c.self.view_is) ∙ length-held_in c.self.inside.taken c.self.inside.places.items in
    let past = c.loop-place-test.false in
    let ended = c.len-place-end.ensures in
    let all : length held ≤ c.loop-place.place = grind (arith, past, ended, counted) in
    keys_pushed c.args.first c.loop-place.place held c.loop-place.ids.items c.args.ids.now.items (λ some. counted ∙ c.self.invariant.0 (grind (arith, some, counted))) all c.loop-place.invariant
