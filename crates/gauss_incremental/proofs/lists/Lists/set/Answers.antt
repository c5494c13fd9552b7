use Rattle.std.proofs.Common.{◌≡◌, ◌∙◌, ◌*◌, ◌+◌, ◌-◌, ◌<◌, ◌^◌, length, take, drop, ap, sym, subst, arith}
use Rattle.gauss_incremental.specs.Lists.{IsSetOf, Listing}
use Rattle.gauss_incremental.proofs.Listing.{place_small, set_of}
use Rattle.gauss_incremental.proofs.lists.Lists.set.Goals as goal
use Rattle.gauss_incremental.proofs.lists.Lists.set.Goals.{After-len-wide}

k_in : (c : After-len-wide) → c.args.column < c.self.inside.columns
k_in c = subst (λ (l : Listing). c.args.column < l.columns) (sym c.self.view_is) c.requires

wide_is : (c : After-len-wide) → c.len-wide.result ≡ length c.self.inside.none.items
wide_is c = c.len-wide.ensures ∙ c.self.inside.none.ok.0

small : (c : After-len-wide) → c.args.column * c.len-wide.result + c.len-wide.result < 2 ^ 64
small c =
    let m = c.self.inside in
    let s = place_small m.words.items m.none.items m.columns c.args.column c.len-wide.result 0 c.self.invariant (k_in c) (wide_is c) (omega (arith, c.self.invariant.some)) in
    omega (arith, wide_is c, c.self.invariant.narrow)

pub overflow_mul-start : goal.overflow_mul-start
overflow_mul-start c = let s = small (goal.at.overflow_mul-start c).After-len-wide in omega arith

pub overflow_add-result : goal.overflow_add-result
overflow_add-result c = let s = small (goal.at.overflow_add-result c).After-len-wide in omega arith

pub returns : goal.returns
returns c =
    let m = c.self.inside in
    let s = (goal.at.returns c).After-len-wide in
    let from = c.args.column * c.len-wide.result in
    let wide = c.len-wide.result in
    rw c.deref.ensures.value
    (subst (λ (l : Listing). IsSetOf l c.args.column (take (from + wide - from) (drop from m.words.items))) c.self.view_is
    (set_of m.words.items m.none.items m.columns c.args.column from (from + wide - from) c.self.invariant (k_in s) (ap (λ n. c.args.column * n) (wide_is s)) (omega (arith, wide_is s))))
