use Rattle.std.proofs.Common.{◌≡◌, ◌≢◌, ℕ, ◌+◌, ◌-◌, ◌<◌, ◌≤◌, Bool, List, [], ◌∷◌, ◌++◌, length, get_or, drop, sym, ap, ◌∙◌, subst, arith, ◌⊎◌}
use Rattle.std.proofs.lemmas.List.{get_or_default}
use Rattle.gf2_lists.specs.declared.row.ListedRow.{ListedRow}
use Rattle.gf2_lists.proofs.RowLaws.{read_vars, read_right}
use Rattle.gf2_lists.proofs.ReduceLaws.{Reducing, reducing_none, variable_low, variable_high, walk_stays, stays_smaller, walk_added, added_smaller, owner_row, owner_some, differ_is, cut_sum}
use Rattle.gf2_lists.proofs.reducing.reduced.Goals as goal

pub walk-init : goal.walk-init
walk-init c =
    let owners = c.args.owners.now in
    let rows = c.args.rows.now in
    let first = c.index-rows-row.result in
    let second = c.index-rows-row-2.result in (
      omega arith,
      subst (λ (done : List ℕ). Reducing owners rows c.args.row done c.in_ok-rest.rest.items (get_or rows c.args.row second).right) (sym c.new-done.ensures.items)
          (reducing_none owners rows c.args.row c.in_ok-rest.rest.items (get_or rows c.args.row second).right c.requires.row_in c.requires.listed c.requires.owned
          (c.in_ok-rest.ensures.items_if_clones_equal (λ x y h. h) ∙ c.deref.ensures.value ∙ ap (λ (r : ListedRow). r.vars.items) (sym c.index-rows-row.is)
          ∙ sym (read_vars rows c.args.row first c.requires.row_in c.index-rows-row.is))
          (ap (λ (r : ListedRow). r.right) (sym c.index-rows-row-2.is) ∙ sym (read_right rows c.args.row second c.requires.row_in c.index-rows-row-2.is))),
    )

pub overflow_sub-owner : goal.overflow_sub-owner
overflow_sub-owner c =
    let rest = c.walk.rest.items in
    let lt : c.walk.at < length rest = let l = c.len.ensures in let t = c.walk-test.true in omega (arith, c.walk.rest.ok.0) in
    let y = c.index-var.ensures ∙ get_or_default rest c.walk.at c.index-var.result.now 0 lt in
    let low = variable_low c.args.owners.now c.args.rows.now c.args.row c.walk.done.items rest c.walk.at c.walk.right c.walk.invariant.1 lt in
    omega arith

pub bounds-owners-var : goal.bounds-owners-var
bounds-owners-var c =
    let rest = c.walk.rest.items in
    let lt : c.walk.at < length rest = let l = c.len.ensures in let t = c.walk-test.true in omega (arith, c.walk.rest.ok.0) in
    let y = c.index-var.ensures ∙ get_or_default rest c.walk.at c.index-var.result.now 0 lt in
    let low = variable_low c.args.owners.now c.args.rows.now c.args.row c.walk.done.items rest c.walk.at c.walk.right c.walk.invariant.1 lt in
    let high = variable_high c.args.owners.now c.args.rows.now c.args.row c.walk.done.items rest c.walk.at c.walk.right c.walk.invariant.1 lt in
    omega arith

pub walk-smaller-then-is_own : goal.walk-smaller-then-is_own
walk-smaller-then-is_own c =
    let rest = c.walk.rest.items in
    let lt : c.walk.at < length rest = let l = c.len.ensures in let t = c.walk-test.true in omega (arith, c.walk.rest.ok.0) in
    stays_smaller c.args.owners.now c.args.rows.now c.args.row c.walk.done.items rest c.walk.at c.walk.right c.walk.invariant.1 lt

pub walk-preserved-then-is_own : goal.walk-preserved-then-is_own
walk-preserved-then-is_own c =
    let owners = c.args.owners.now in
    let rows = c.args.rows.now in
    let rest = c.walk.rest.items in
    let lt : c.walk.at < length rest = let l = c.len.ensures in let t = c.walk-test.true in omega (arith, c.walk.rest.ok.0) in
    let y : c.index-var.result.now ≡ get_or rest c.walk.at 0 = c.index-var.ensures ∙ get_or_default rest c.walk.at c.index-var.result.now 0 lt in
    let here : (get_or owners (get_or rest c.walk.at 0 - 1) 0 ≡ 0) ⊎ (get_or owners (get_or rest c.walk.at 0 - 1) 0 ≡ c.args.row + 1) =
    subst (λ (z : ℕ). (get_or owners (z - 1) 0 ≡ 0) ⊎ (get_or owners (z - 1) 0 ≡ c.args.row + 1)) y (c.is_own.ensures.yes c.if-is_own.true) in (
      omega arith,
      subst (λ (done : List ℕ). Reducing owners rows c.args.row done (drop (c.walk.at + 1) rest) c.walk.right)
          (sym (c.in_ok-push.ensures.items ∙ ap (λ (z : ℕ). c.walk.done.items ++ z ∷ []) y))
          (walk_stays owners rows c.args.row c.walk.done.items rest c.walk.at c.walk.right c.walk.invariant.1 lt here),
    )

pub bounds-rows-owner : goal.bounds-rows-owner
bounds-rows-owner c =
    let rest = c.walk.rest.items in
    let lt : c.walk.at < length rest = let l = c.len.ensures in let t = c.walk-test.true in omega (arith, c.walk.rest.ok.0) in
    let y = c.index-var.ensures ∙ get_or_default rest c.walk.at c.index-var.result.now 0 lt in
    let low = variable_low c.args.owners.now c.args.rows.now c.args.row c.walk.done.items rest c.walk.at c.walk.right c.walk.invariant.1 lt in
    let high = variable_high c.args.owners.now c.args.rows.now c.args.row c.walk.done.items rest c.walk.at c.walk.right c.walk.invariant.1 lt in
    owner_row c.args.owners.now c.args.rows.now c.index-var.result.now c.requires.owned (omega arith) (omega arith) (c.is_own.ensures.no c.if-is_own.false).0

pub slice_bounds-sum_of-count-else-is_own : goal.slice_bounds-sum_of-count-else-is_own
slice_bounds-sum_of-count-else-is_own c =
    let owners = c.args.owners.now in
    let rows = c.args.rows.now in
    let rest = c.walk.rest.items in
    let lt : c.walk.at < length rest = let l = c.len.ensures in let t = c.walk-test.true in omega (arith, c.walk.rest.ok.0) in
    let y = c.index-var.ensures ∙ get_or_default rest c.walk.at c.index-var.result.now 0 lt in
    let low = variable_low owners rows c.args.row c.walk.done.items rest c.walk.at c.walk.right c.walk.invariant.1 lt in
    let high = variable_high owners rows c.args.row c.walk.done.items rest c.walk.at c.walk.right c.walk.invariant.1 lt in
    let other = (c.is_own.ensures.no c.if-is_own.false).0 in
    let s_in = owner_row owners rows c.index-var.result.now c.requires.owned (omega arith) (omega arith) other in
    let some = owner_some owners rows c.index-var.result.now c.requires.owned (omega arith) (omega arith) other in
    let e = ap (λ (l : List ℕ). length l) (c.deref-else-is_own-2.ensures.value ∙ sym (read_vars rows (get_or owners (c.index-var.result.now - 1) 0 - 1) c.index-rows-owner.result s_in c.index-rows-owner.is)) in
    omega arith

pub slice_bounds-sum_of-start-else-is_own : goal.slice_bounds-sum_of-start-else-is_own
slice_bounds-sum_of-start-else-is_own c =
    let owners = c.args.owners.now in
    let rows = c.args.rows.now in
    let rest = c.walk.rest.items in
    let lt : c.walk.at < length rest = let l = c.len.ensures in let t = c.walk-test.true in omega (arith, c.walk.rest.ok.0) in
    let y = c.index-var.ensures ∙ get_or_default rest c.walk.at c.index-var.result.now 0 lt in
    let low = variable_low owners rows c.args.row c.walk.done.items rest c.walk.at c.walk.right c.walk.invariant.1 lt in
    let high = variable_high owners rows c.args.row c.walk.done.items rest c.walk.at c.walk.right c.walk.invariant.1 lt in
    let other = (c.is_own.ensures.no c.if-is_own.false).0 in
    let s_in = owner_row owners rows c.index-var.result.now c.requires.owned (omega arith) (omega arith) other in
    let some = owner_some owners rows c.index-var.result.now c.requires.owned (omega arith) (omega arith) other in
    let e = ap (λ (l : List ℕ). length l) (c.deref-else-is_own-2.ensures.value ∙ sym (read_vars rows (get_or owners (c.index-var.result.now - 1) 0 - 1) c.index-rows-owner.result s_in c.index-rows-owner.is)) in
    let long : 1 ≤ length c.deref-else-is_own-2.result.now = omega arith in
    long

pub walk-smaller : goal.walk-smaller
walk-smaller c =
    let owners = c.args.owners.now in
    let rows = c.args.rows.now in
    let rest = c.walk.rest.items in
    let lt : c.walk.at < length rest = let l = c.len.ensures in let t = c.walk-test.true in omega (arith, c.walk.rest.ok.0) in
    let y : c.index-var.result.now ≡ get_or rest c.walk.at 0 = c.index-var.ensures ∙ get_or_default rest c.walk.at c.index-var.result.now 0 lt in
    let low = variable_low owners rows c.args.row c.walk.done.items rest c.walk.at c.walk.right c.walk.invariant.1 lt in
    let high = variable_high owners rows c.args.row c.walk.done.items rest c.walk.at c.walk.right c.walk.invariant.1 lt in
    let no = c.is_own.ensures.no c.if-is_own.false in
    let s : ℕ = get_or owners (c.index-var.result.now - 1) 0 - 1 in
    let s_in = owner_row owners rows c.index-var.result.now c.requires.owned (omega arith) (omega arith) no.0 in
    let other = c.index-rows-owner.result in
    let owner : get_or owners (get_or rest c.walk.at 0 - 1) 0 ≡ s + 1 =
    ap (λ (z : ℕ). get_or owners (z - 1) 0) (sym y) ∙ (let some = no.0 in let back : get_or owners (c.index-var.result.now - 1) 0 ≡ get_or owners (c.index-var.result.now - 1) 0 - 1 + 1 = omega arith in back) in
    added_smaller owners rows c.args.row c.walk.done.items rest c.walk.at c.walk.right s other.vars.items c.in_ok-rest-2.rest.items c.walk.invariant.1 lt owner c.requires.listed c.requires.owned
    (sym (read_vars rows s other s_in c.index-rows-owner.is))
    (cut_sum rest c.deref-else-is_own.result.now other.vars.items c.deref-else-is_own-2.result.now c.in_ok-rest-2.rest.items c.walk.at c.deref-else-is_own.ensures.value c.deref-else-is_own-2.ensures.value
    c.in_ok-rest-2.ensures)

pub walk-preserved : goal.walk-preserved
walk-preserved c =
    let owners = c.args.owners.now in
    let rows = c.args.rows.now in
    let rest = c.walk.rest.items in
    let lt : c.walk.at < length rest = let l = c.len.ensures in let t = c.walk-test.true in omega (arith, c.walk.rest.ok.0) in
    let y : c.index-var.result.now ≡ get_or rest c.walk.at 0 = c.index-var.ensures ∙ get_or_default rest c.walk.at c.index-var.result.now 0 lt in
    let low = variable_low owners rows c.args.row c.walk.done.items rest c.walk.at c.walk.right c.walk.invariant.1 lt in
    let high = variable_high owners rows c.args.row c.walk.done.items rest c.walk.at c.walk.right c.walk.invariant.1 lt in
    let no = c.is_own.ensures.no c.if-is_own.false in
    let s : ℕ = get_or owners (c.index-var.result.now - 1) 0 - 1 in
    let s_in = owner_row owners rows c.index-var.result.now c.requires.owned (omega arith) (omega arith) no.0 in
    let other = c.index-rows-owner.result in
    let owner : get_or owners (get_or rest c.walk.at 0 - 1) 0 ≡ s + 1 =
    ap (λ (z : ℕ). get_or owners (z - 1) 0) (sym y) ∙ (let some = no.0 in let back : get_or owners (c.index-var.result.now - 1) 0 ≡ get_or owners (c.index-var.result.now - 1) 0 - 1 + 1 = omega arith in back) in
    let ne : s ≢ c.args.row = λ e. let some = no.0 in no.1 (omega arith) in (
      omega arith,
      subst (λ (b : Bool). Reducing owners rows c.args.row c.walk.done.items c.in_ok-rest-2.rest.items b) (differ_is c.walk.right other.right)
          (walk_added owners rows c.args.row c.walk.done.items rest c.walk.at c.walk.right s other.vars.items c.in_ok-rest-2.rest.items other.right c.walk.invariant.1 lt ne owner c.requires.listed
          c.requires.owned (sym (read_vars rows s other s_in c.index-rows-owner.is)) (sym (read_right rows s other s_in c.index-rows-owner.is))
          (cut_sum rest c.deref-else-is_own.result.now other.vars.items c.deref-else-is_own-2.result.now c.in_ok-rest-2.rest.items c.walk.at c.deref-else-is_own.ensures.value
          c.deref-else-is_own-2.ensures.value c.in_ok-rest-2.ensures)),
    )
