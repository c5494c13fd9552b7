use Rattle.std.proofs.Common.{◌≡◌, ◌∙◌, sym, ap, subst, ◌<◌, ◌-◌, List, get_or, length, arith}
use Rattle.std.specs.List.{All}
use Rattle.std.proofs.lemmas.List.Elements.{Contains-get_or}
use Rattle.std.proofs.lemmas.List.Sorted.{All-permutation, Contains-permutation, length_permutation}
use Rattle.fratx_elab.specs.declared.content_index.ContentEntry.{ContentEntry}
use Rattle.fratx_elab.specs.Contents.{NumbersWithin, EachOnce, HasFront, IsLeastOf}
use Rattle.fratx_elab.proofs.EntryOrder.{numbers_moved, once_moved, least_moved}
use Rattle.fratx_elab.proofs.content_index.ContentIndex.of.Goals as goal

pub firsts_of-requires-clause-fronts : goal.firsts_of-requires-clause-fronts
firsts_of-requires-clause-fronts c =
    subst (All HasFront) (sym c.deref.ensures.value) (All-permutation HasFront c.args.entries.items c.sort_unstable.new.self.items c.sort_unstable.ensures.permutation c.requires.fronts)

pub firsts_of-requires-clause-within : goal.firsts_of-requires-clause-within
firsts_of-requires-clause-within c =
    subst (λ (es : List ContentEntry). NumbersWithin (length es) es) (sym c.deref.ensures.value) (numbers_moved c.args.entries.items c.sort_unstable.new.self.items c.requires.numbered c.sort_unstable.ensures.permutation)

pub firsts_of-requires-clause-once : goal.firsts_of-requires-clause-once
firsts_of-requires-clause-once c =
    subst EachOnce (sym c.deref.ensures.value) (once_moved c.args.entries.items c.sort_unstable.new.self.items c.requires.numbered c.sort_unstable.ensures.permutation)

pub returns : goal.returns
returns c =
    let old = c.args.entries.items in
    let new = c.sort_unstable.new.self.items in
    let moved = c.sort_unstable.ensures.permutation in
    let is = c.deref.ensures.value in
    record {
      same = moved;
      sorted = c.sort_unstable.ensures.sorted;
      count = c.in_ok-firsts.ensures.count ∙ ap (λ (es : List ContentEntry). length es) is ∙ length_permutation old new moved;
      firsts = λ i d lt.
          let e = get_or old i d in
          let has = Contains-permutation old new e moved (Contains-get_or old i d lt) in
          let below : has.0 < length c.deref.result.now = (let w = has.1 in let l = ap (λ (es : List ContentEntry). length es) is in omega (arith, w, l)) in
          let least = c.in_ok-firsts.ensures.least has.0 e below in
          let at : get_or c.deref.result.now has.0 e ≡ e = ap (λ (es : List ContentEntry). get_or es has.0 e) is ∙ has.2 in
          let own : e.number - 1 ≡ i = (let n = c.requires.numbered i d lt in omega (arith, n)) in
          let firsts = c.in_ok-firsts.firsts.items in
          least_moved old new e.content.items (get_or firsts i 0) moved
          (subst (λ k. IsLeastOf new e.content.items (get_or firsts k 0)) own
          (subst (λ (es : List ContentEntry). IsLeastOf es e.content.items (get_or firsts (e.number - 1) 0)) is
          (subst (λ (x : ContentEntry). IsLeastOf c.deref.result.now x.content.items (get_or firsts (x.number - 1) 0)) at least)));
    }
