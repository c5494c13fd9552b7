use Rattle.std.proofs.Common.{rules, arith, ◌≡◌, ◌≤◌, ◌<◌, ◌∙◌, sym, ap, subst, ℤ, pos, nat_abs, List, length, get_or, set}
use Rattle.std.proofs.lemmas.List.{get_or_default}
use Rattle.std.specs.Prelude.{vec_len}
use Rattle.cx_base.specs.Numbers.{AreStepIntegers}
use Rattle.fratx_elab.specs.Names.{stands_for}
use Rattle.fratx_elab.proofs.NameLaws.{hints_stay, renamed_in_place, left_out_in_place, all_renamed, proper_in_place}
use Rattle.fratx_elab.proofs.take.rename.Goals as goal
use Rattle.fratx_elab.proofs.take.rename.Goals.{in-Some, in_default}

pub returns-then-stand_for_themselves : goal.returns-then-stand_for_themselves
returns-then-stand_for_themselves c = hints_stay c.args.names.now c.args.hints.now (c.stand_for_themselves.ensures.themselves c.if-stand_for_themselves.true) c.requires.named c.requires.plain

pub loop-place-preserved : goal.loop-place-preserved
loop-place-preserved c =
    let naming = c.args.names.now in
    let list : List ℤ = c.loop-place.list.items in
    let place = c.loop-place.place in
    let kept = c.loop-place.kept in
    let before = c.loop-place.invariant in
    let low = before.kept_before in
    let less : place < length list = search rules in
    let found : c.index.result.now ≡ get_or list place (pos 0) = c.index.ensures ∙ get_or_default list place _ (pos 0) less in
    let sized : c.unsigned_abs.result ≡ nat_abs c.index.result.now = search rules in
    let here : c.unsigned_abs.result ≡ nat_abs (get_or list place (pos 0)) = sized ∙ ap nat_abs found in
    elim c.match-get.branch [
      | in-Some w ↦
          let hint = w.hint.ensures in
          let put : c.match-get.list.items ≡ set list kept w.hint.result = search rules in
          let more = w.kept-is in
          record {
            so_far = rw (put, w.kept-is, hint.hint) (renamed_in_place naming list place kept w.in-Some.id _ less low (w.in-Some.ensures ∙ ap (stands_for naming) here) before.so_far);
            proper = subst AreStepIntegers (sym put) (proper_in_place list kept w.hint.result hint.some hint.within before.proper);
            kept_before = omega (arith, more, low);
            same_count = ap vec_len w.list-is ∙ before.same_count;
          }
      | in_default w ↦
          let same = w.kept-is in
          record {
            so_far = rw (w.list-is, w.kept-is) (left_out_in_place naming list place kept _ less (w.in_default.ensures ∙ ap (stands_for naming) here) before.so_far);
            proper = rw w.list-is before.proper;
            kept_before = omega (arith, same, low);
            same_count = ap vec_len w.list-is ∙ before.same_count;
          }
    ]

pub returns : goal.returns
returns c =
    let list : List ℤ = c.loop-place.list.items in
    let past : length list ≤ c.loop-place.place = search rules in
    c.from_vec.ensures ∙ c.truncate.ensures.items ∙ all_renamed c.args.names.now list c.loop-place.place c.loop-place.kept _ past c.loop-place.invariant.so_far
