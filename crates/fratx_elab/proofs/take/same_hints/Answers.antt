use Rattle.std.proofs.Common.{rules, ◌≡◌, ◌≤◌, pos, map, length, ◌∙◌, sym, ap, subst, arith}
use Rattle.std.proofs.lemmas.List.{take_all}
use Rattle.cx_base.specs.Numbers.{AreStepIntegers}
use Rattle.fratx_elab.proofs.NameLaws.{ids_step}
use Rattle.fratx_elab.proofs.take.same_hints.Goals as goal

pub from_vec-requires : goal.from_vec-requires
from_vec-requires c =
    let ids = c.args.ids.now in
    let hints = c.loop-place.hints.items in
    let place = c.loop-place.place in
    let past : length ids ≤ place = search rules in
    let done = c.loop-place.invariant in
    let all : hints ≡ map pos ids = sym (take_all place hints (let n = done.count in omega (arith, n, past))) ∙ done.so_far ∙ ap (map pos) (take_all place ids past) in
    subst AreStepIntegers (sym all) (ids_step ids c.requires)
