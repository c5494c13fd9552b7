use Rattle.std.proofs.Common.{◌≤◌, ◌+◌, ◌-◌, ◌*◌, ◌^◌, ◌%◌, ◌<◌, ℕ, refl, sym, ap, ◌∙◌, subst, length, get_or, cond, Some, None, take, drop, map, arith, Bool}
use Rattle.xor_recover.specs.Entries.{row_of}
use Rattle.xor_recover.proofs.Grouping.{group_found, group_missing, at_any, power_low, power_small}
use Rattle.xor_recover.proofs.recovering.group_at.Goals as goal
use Rattle.xor_recover.proofs.recovering.group_at.Goals.{else-end-entries-via-then-end-entries+else-eq, else-end-entries-via-else-end-entries}

pub returns-then-eq : goal.returns-then-eq
returns-then-eq c =
    let xs = c.args.entries.now in
    let start = c.args.start in
    let e = get_or xs start c.index-entries-start.result in
    let stop = start + 1 * 2 ^ (c.len.result - 1) % 18446744073709551616 in
    let last = get_or xs (stop - 1) c.index-entries-end.result in
    let low : 1 ≤ c.len.result = subst (λ (n : ℕ). 1 ≤ n) (sym c.len.ensures.value) (c.requires.wide start c.index-entries-start.result c.requires.here) in
    let positive = power_low c.len.result low c.len.ensures.fits in
    let small = power_small c.len.result low c.len.ensures.fits in
    let within : stop ≤ length xs = c.if-end-entries.true in
    let inside : stop - 1 < length xs = omega arith in
    group_found xs start c.len.result stop e last c.eq.result c.requires.here (at_any xs start _ _ c.requires.here) c.len.ensures.value low c.len.ensures.fits refl within (at_any xs (stop - 1) _ _ inside) c.eq.ensures
    ∙ ap (λ (b : Bool). cond b (Some (map row_of (take (stop - start) (drop start xs)))) None) c.if-eq.true

pub returns-else-end-entries : goal.returns-else-end-entries
returns-else-end-entries c =
    let xs = c.args.entries.now in
    let start = c.args.start in
    let e = get_or xs start c.index-entries-start.result in
    let stop = start + 1 * 2 ^ (c.len.result - 1) % 18446744073709551616 in
    let low : 1 ≤ c.len.result = subst (λ (n : ℕ). 1 ≤ n) (sym c.len.ensures.value) (c.requires.wide start c.index-entries-start.result c.requires.here) in
    let positive = power_low c.len.result low c.len.ensures.fits in
    let small = power_small c.len.result low c.len.ensures.fits in
    elim c.else-end-entries.branch [
      | else-end-entries-via-then-end-entries+else-eq w ↦
          let within : stop ≤ length xs = w.if-end-entries.true in
          let inside : stop - 1 < length xs = omega arith in
          group_found xs start c.len.result stop e (get_or xs (stop - 1) w.index-entries-end.result) w.eq.result c.requires.here (at_any xs start _ _ c.requires.here) c.len.ensures.value low c.len.ensures.fits refl within
          (at_any xs (stop - 1) _ _ inside) w.eq.ensures
          ∙ ap (λ (b : Bool). cond b (Some (map row_of (take (stop - start) (drop start xs)))) None) w.if-eq.false
      | else-end-entries-via-else-end-entries w ↦
          group_missing xs start c.len.result stop e c.requires.here (at_any xs start _ _ c.requires.here) c.len.ensures.value low c.len.ensures.fits refl w.if-end-entries.false
    ]
