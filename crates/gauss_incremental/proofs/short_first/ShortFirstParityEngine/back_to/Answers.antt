use Rattle.std.proofs.Common.{◌<◌, ◌∙◌, List, Option, ap, sym, subst}
use Rattle.parity_engine.specs.declared.state.Naming.{Naming}
use Rattle.parity_engine.specs.State.{State, back}
use Rattle.gauss_incremental.specs.Engine.{Stand}
use Rattle.gauss_incremental.specs.declared.short_first.Told.TheVariants.{ByMatrix}
use Rattle.gauss_incremental.specs.ShortFirst.{AreShortsOf, with_shorts}
use Rattle.gauss_incremental.proofs.ShortNames.{clashes_above, shorts_back, states_back}
use Rattle.gauss_incremental.proofs.short_first.ShortFirstParityEngine.back_to.Goals as goal

pub back_to-requires : goal.back_to-requires
back_to-requires c = subst (λ (s : State). c.args.level < s.level) (sym c.self.view_is) c.requires

pub forget_above-requires : goal.forget_above-requires
forget_above-requires c =
    let m = c.self.inside in
    clashes_above m.engine.state m.shorts.items m.named m.told c.args.level c.self.invariant (subst (λ (s : State). c.args.level < s.level) (sym c.self.view_is) c.requires)

pub invariant_of-self : goal.invariant_of-self
invariant_of-self c =
    let m = c.self.inside in
    subst (λ (e : Stand). AreShortsOf e.state m.shorts.items c.forget_above.new.self ByMatrix) (sym c.back_to.ensures)
    (subst (λ (ns : List (Option Naming)). AreShortsOf (back c.args.level m.engine.state) m.shorts.items ns ByMatrix) (sym c.forget_above.ensures)
    (shorts_back m.engine.state m.shorts.items m.named m.told c.args.level c.self.invariant))

pub returns : goal.returns
returns c =
    let m = c.self.inside in
    ap (λ (e : Stand). with_shorts e.state m.shorts.items c.forget_above.new.self ByMatrix) c.back_to.ensures
    ∙ ap (λ (ns : List (Option Naming)). with_shorts (back c.args.level m.engine.state) m.shorts.items ns ByMatrix) c.forget_above.ensures
    ∙ states_back m.engine.state m.shorts.items m.named m.told c.args.level
    ∙ ap (back c.args.level) c.self.view_is
