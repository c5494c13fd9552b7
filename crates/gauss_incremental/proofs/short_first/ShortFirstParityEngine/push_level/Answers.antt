use Rattle.std.proofs.Common.{◌≡◌, ◌<◌, ◌∙◌, ap, sym, subst}
use Rattle.parity_engine.specs.declared.state.Mood.TheVariants.{Calm}
use Rattle.parity_engine.specs.State.{State, pushed}
use Rattle.gauss_incremental.specs.Engine.{Stand}
use Rattle.gauss_incremental.specs.ShortFirst.{AreShortsOf, with_shorts}
use Rattle.gauss_incremental.proofs.ShortNames.{inner_calm, shorts_pushed}
use Rattle.gauss_incremental.proofs.short_first.ShortFirstParityEngine.push_level.Goals as goal

pub push_level-requires : goal.push_level-requires
push_level-requires c =
    let m = c.self.inside in
    record {
      quiet = inner_calm m.engine.state m.told (subst (λ (s : State). s.mood ≡ Calm) (sym c.self.view_is) c.requires.quiet);
      room = subst (λ (s : State). s.level < s.vars) (sym c.self.view_is) c.requires.room;
    }

pub invariant_of-self : goal.invariant_of-self
invariant_of-self c =
    let m = c.self.inside in
    subst (λ (e : Stand). AreShortsOf e.state m.shorts.items m.named m.told) (sym c.push_level.ensures)
    (shorts_pushed m.engine.state m.shorts.items m.named m.told c.self.invariant (subst (λ (s : State). s.mood ≡ Calm) (sym c.self.view_is) c.requires.quiet))

pub returns : goal.returns
returns c =
    let m = c.self.inside in
    ap (λ (e : Stand). with_shorts e.state m.shorts.items m.named m.told) c.push_level.ensures ∙ ap pushed c.self.view_is
