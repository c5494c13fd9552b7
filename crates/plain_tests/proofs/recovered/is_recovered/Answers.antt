use Rattle.std.proofs.Common.{◌≡◌, ◌∙◌, ap, List, [], rules, arith}
use Rattle.cx_base.specs.Literals.{Literal}
use Rattle.cx_base.specs.declared.literal.TheConstants.{MAX_VARIABLE}
use Rattle.parity_engine.specs.Written.{AreRising}
use Rattle.plain_tests.specs.Standing.{all_stand}
use Rattle.plain_tests.proofs.StandingLaws.{ok_maps, recovered_by, too_short, too_long}
use Rattle.plain_tests.proofs.recovered.is_recovered.Goals.{then-vars-lt2-via-then-vars-lt2, then-vars-lt2-via-else-vars-lt2+then-vars-gt6}
use Rattle.plain_tests.proofs.recovered.is_recovered.Goals as goal

pub returns-then-vars-lt2 : goal.returns-then-vars-lt2
returns-then-vars-lt2 c = elim c.then-vars-lt2.branch [
  | then-vars-lt2-via-then-vars-lt2 w ↦ too_short c.args.formula.now c.args.vars.now c.args.right (let h = w.if-vars-lt2.true in omega (arith, h))
  | then-vars-lt2-via-else-vars-lt2+then-vars-gt6 w ↦ too_long c.args.formula.now c.args.vars.now c.args.right (let h = w.if-vars-gt6.true in omega (arith, h))
]

pub returns : goal.returns
returns c =
    let formula = c.args.formula.now in
    let vars = c.args.vars.now in
    let rise : AreRising 1 MAX_VARIABLE vars = search rules in
    let none : ◌≡◌ {A = List Literal} c.deref.result.now [] = c.deref.ensures.value ∙ c.new-none.ensures.items in
    let low = c.if-vars-lt2.false in
    let high = c.if-vars-gt6.false in
    ok_maps c.all_stand.result c.all_stand.ensures (λ b e. recovered_by formula vars c.args.right b rise (omega (arith, low)) (omega (arith, high)) (e ∙ ap (λ xs. all_stand formula c.args.right xs vars) none))
