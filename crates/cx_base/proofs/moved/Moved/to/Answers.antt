use Rattle.std.proofs.Common.{◌≡◌, ◌<◌, ◌≤◌, ℕ, List, length, Some, ap, sym, subst, ◌∙◌, arith}
use Rattle.std.proofs.lemmas.Bool.{eqb-true, eqb-false}
use Rattle.std.proofs.lemmas.List.{get_or_read}
use Rattle.cx_base.specs.declared.moved.Move.{Move}
use Rattle.cx_base.specs.Moved.{moved_to, move_at}
use Rattle.cx_base.proofs.MovedLaws.{moved_at, moved_past}
use Rattle.cx_base.proofs.moved.Moved.to.Goals.{After-place_of-place, else-place-len-via-then-place-len+else-eq, else-place-len-via-else-place-len}
use Rattle.cx_base.proofs.moved.Moved.to.Goals as goal

below : (c : After-place_of-place) → (i : ℕ) → i < c.place_of-place.result → (move_at c.self.inside.moves.items i).old < c.args.old
below c = subst (λ r. (i : ℕ) → i < c.place_of-place.result → (move_at c.self.inside.moves.items i).old < r) c.place.ensures
    (subst (λ (xs : List Move). (i : ℕ) → i < c.place_of-place.result → (move_at xs i).old < c.place.result) c.deref.ensures.value c.place_of-place.ensures.below)

above : (c : After-place_of-place) → (i : ℕ) → c.place_of-place.result ≤ i → i < length c.self.inside.moves.items → c.args.old ≤ (move_at c.self.inside.moves.items i).old
above c = subst (λ r. (i : ℕ) → c.place_of-place.result ≤ i → i < length c.self.inside.moves.items → r ≤ (move_at c.self.inside.moves.items i).old) c.place.ensures
    (subst (λ (xs : List Move). (i : ℕ) → c.place_of-place.result ≤ i → i < length xs → c.place.result ≤ (move_at xs i).old) c.deref.ensures.value c.place_of-place.ensures.above)

pub returns-then-eq : goal.returns-then-eq
returns-then-eq c =
    let moves = c.self.inside.moves.items in
    let place = c.place_of-place.result in
    let inside : place < length moves = omega (arith, c.if-place-len.true, c.len.ensures, c.self.inside.moves.ok.0) in
    let none : Move = record { old = 0; new = 0 } in
    let first = get_or_read moves place _ inside c.index.ensures none in
    let second = get_or_read moves place _ inside c.index-then-eq.ensures none in
    let old : c.args.old ≡ (move_at moves place).old = sym (eqb-true _ _ (sym c.eq.ensures ∙ c.if-eq.true)) ∙ ap (λ (m : Move). m.old) first in
    ap (λ (m : Move). Some m.new) second ∙ sym (moved_at moves place c.self.invariant inside) ∙ ap (moved_to moves) (sym old) ∙ ap (λ (xs : List Move). moved_to xs c.args.old) c.self.view_is

pub returns : goal.returns
returns c =
    let moves = c.self.inside.moves.items in
    let place = c.place_of-place.result in
    let p = (goal.at.returns c).After-place_of-place in
    elim c.else-place-len.branch [
      | else-place-len-via-then-place-len+else-eq w ↦
          let inside : place < length moves = omega (arith, w.if-place-len.true, c.len.ensures, c.self.inside.moves.ok.0) in
          let first = get_or_read moves place _ inside w.index.ensures (record { old = 0; new = 0 }) in
          sym (moved_past moves c.args.old place c.self.invariant (below p) (above p) (λ h e. eqb-false _ _ (sym w.eq.ensures ∙ w.if-eq.false) (ap (λ (m : Move). m.old) first ∙ e)))
          ∙ ap (λ (xs : List Move). moved_to xs c.args.old) c.self.view_is
      | else-place-len-via-else-place-len w ↦
          sym (moved_past moves c.args.old place c.self.invariant (below p) (above p) (λ h e. omega (arith, w.if-place-len.false, c.len.ensures, c.self.inside.moves.ok.0)))
          ∙ ap (λ (xs : List Move). moved_to xs c.args.old) c.self.view_is
    ]
