use Rattle.std.proofs.Common.{◌≡◌, ◌∙◌, ◌≤◌, refl, ap, sym, false, true≢false, List, [], ◌∷◌, Option, None, Some, is_some, get_or, length, arith}
use Rattle.std.proofs.lemmas.List.{get_or_past}
use Rattle.proof_rules.specs.Places.{HasAllOrNone}
use Rattle.proof_rules.proofs.PageLaws.{has_place, held_value, length-held_in}
use Rattle.proof_rules.proofs.page.Page.get.Goals as goal
use Rattle.proof_rules.proofs.page.Page.get.Goals.{else-place-lt64-via-then-place-lt64+else-holds, else-place-lt64-via-else-place-lt64}

pub index-requires : goal.index-requires
index-requires g c =
    let there = has_place c.args.self.now c.args.place (sym c.holds.ensures ∙ c.if-holds.true) in
    let all = ap length (sym c.self.view_is) ∙ length-held_in c.self.inside.taken c.self.inside.places.items in
    grind (arith, there, all)

pub returns-then-holds : goal.returns-then-holds
returns-then-holds g c =
    let places = c.self.inside.places.items in
    let some = sym c.holds.ensures ∙ c.if-holds.true in
    let there = has_place c.args.self.now c.args.place some in
    let all = ap length (sym c.self.view_is) ∙ length-held_in c.self.inside.taken places in
    let seen = ap (λ xs. get_or xs c.args.place None) c.self.view_is in
    sym seen
    ∙ held_value c.self.inside.taken places c.args.place _ (grind (arith, there, all)) (ap is_some seen ∙ some)
    ∙ ap Some (sym c.index.ensures)

nothing : {V : Type 0} (o : Option V) → is_some o ≡ false → o ≡ None
nothing None e = refl
nothing (Some v) e = absurd (true≢false e)

few : {V : Type 0} (xs : List V) → HasAllOrNone xs → length xs ≤ 64
few [] h = omega arith
few (x ∷ xs) h = let all = h (omega arith) in omega (arith, all)

pub returns-else-place-lt64 : goal.returns-else-place-lt64
returns-else-place-lt64 g c =
    elim c.else-place-lt64.branch [
      | else-place-lt64-via-then-place-lt64+else-holds w ↦ nothing _ (sym w.holds.ensures ∙ w.if-holds.false)
      | else-place-lt64-via-else-place-lt64 w ↦
          let past = w.if-place-lt64.false in
          let all = ap length (sym c.self.view_is) ∙ length-held_in c.self.inside.taken c.self.inside.places.items in
          let most = few c.self.inside.places.items c.self.invariant.0 in
          get_or_past c.args.self.now c.args.place None (grind (arith, past, all, most))
    ]
