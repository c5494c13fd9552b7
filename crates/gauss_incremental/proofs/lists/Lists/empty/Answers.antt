use Rattle.std.proofs.Common.{◌≡◌, ◌∙◌, ◌*◌, ◌+◌, ◌<◌, ◌^◌, length, ap, sym, subst, arith}
use Rattle.std.proofs.lemmas.List.{with_items_is}
use Rattle.gauss_incremental.specs.Lists.{IsEmptied, Listing, listing}
use Rattle.gauss_incremental.proofs.Listing.{emptied, fits, place_small, same_long}
use Rattle.gauss_incremental.proofs.lists.Lists.empty.Goals as goal
use Rattle.gauss_incremental.proofs.lists.Lists.empty.Goals.{After-len-wide}

k_in : (c : After-len-wide) → c.args.column < c.self.inside.columns
k_in c = subst (λ (l : Listing). c.args.column < l.columns) (sym c.self.view_is) c.requires

wide_is : (c : After-len-wide) → c.len-wide.result ≡ length c.self.inside.none.items
wide_is c = c.len-wide.ensures ∙ c.self.inside.none.ok.0

small : (c : After-len-wide) → c.args.column * c.len-wide.result + c.len-wide.result < 2 ^ 64
small c =
    let m = c.self.inside in
    let s = place_small m.words.items m.none.items m.columns c.args.column c.len-wide.result 0 c.self.invariant (k_in c) (wide_is c) (omega (arith, c.self.invariant.some)) in
    omega (arith, wide_is c, c.self.invariant.narrow)

pub overflow_mul-start : goal.overflow_mul-start
overflow_mul-start c = let s = small (goal.at.overflow_mul-start c).After-len-wide in omega arith

pub overflow_add-start : goal.overflow_add-start
overflow_add-start c = let s = small (goal.at.overflow_add-start c).After-len-wide in omega arith

pub clear_part-requires : goal.clear_part-requires
clear_part-requires c =
    let m = c.self.inside in
    let s = (goal.at.clear_part-requires c).After-len-wide in
    let f = fits m.words.items m.none.items m.columns c.args.column (c.args.column * c.len-wide.result) c.len-wide.result c.self.invariant (k_in s) (ap (λ n. c.args.column * n) (wide_is s)) (wide_is s) in
    rw c.deref_mut.ensures.value (record { order = omega arith; within = omega arith })

pub returns : goal.returns
returns c =
    let m = c.self.inside in
    let s = (goal.at.returns c).After-len-wide in
    let long : length c.clear_part.new.words ≡ length m.words.items = c.clear_part.auto.words ∙ ap length c.deref_mut.ensures.value in
    rw (with_items_is m.words c.clear_part.new.words (long ∙ sym m.words.ok.0))
    (subst (λ (l : Listing). IsEmptied l (listing c.clear_part.new.words m.none.items m.columns) c.args.column) c.self.view_is
    (emptied m.words.items m.none.items c.clear_part.new.words m.columns c.args.column (c.args.column * c.len-wide.result) (c.args.column * c.len-wide.result + c.len-wide.result) (k_in s)
    (ap (λ n. c.args.column * n) (wide_is s)) (ap (λ n. c.args.column * c.len-wide.result + n) (wide_is s)) (rw c.deref_mut.ensures.value at c.clear_part.ensures)))

pub invariant_of-self : goal.invariant_of-self
invariant_of-self c =
    let m = c.self.inside in
    let long : length c.clear_part.new.words ≡ length m.words.items = c.clear_part.auto.words ∙ ap length c.deref_mut.ensures.value in
    rw (with_items_is m.words c.clear_part.new.words (long ∙ sym m.words.ok.0)) (same_long m.words.items m.none.items c.clear_part.new.words m.columns long c.self.invariant)
