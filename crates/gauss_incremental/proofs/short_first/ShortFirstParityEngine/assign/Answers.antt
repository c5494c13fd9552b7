use Rattle.std.proofs.Common.{◌≡◌, ◌≢◌, ◌≤◌, ◌∙◌, true, ap, sym, subst}
use Rattle.parity_engine.specs.declared.state.Mood.TheVariants.{Broken}
use Rattle.parity_engine.specs.State.{State, assigned, held_at, is_unassigned}
use Rattle.gauss_incremental.specs.Engine.{Stand}
use Rattle.gauss_incremental.specs.declared.short_first.Told.TheVariants.{ByMatrix}
use Rattle.gauss_incremental.specs.ShortFirst.{AreShortsOf, with_shorts}
use Rattle.gauss_incremental.proofs.ShortNames.{inner_whole, shorts_assigned}
use Rattle.gauss_incremental.proofs.short_first.ShortFirstParityEngine.assign.Goals as goal

pub assign-requires : goal.assign-requires
assign-requires c =
    let m = c.self.inside in
    record {
      within = subst (λ (s : State). c.args.var ≤ s.vars) (sym c.self.view_is) c.requires.within;
      unassigned = subst (λ (s : State). is_unassigned (held_at s.values c.args.var) ≡ true) (sym c.self.view_is) c.requires.unassigned;
      no_conflict = inner_whole m.engine.state m.shorts.items m.named m.told c.self.invariant.by (subst (λ (s : State). s.mood ≢ Broken) (sym c.self.view_is) c.requires.no_conflict);
    }

pub invariant_of-self : goal.invariant_of-self
invariant_of-self c =
    let m = c.self.inside in
    subst (λ (e : Stand). AreShortsOf e.state m.shorts.items m.named ByMatrix) (sym c.assign.ensures)
    (shorts_assigned m.engine.state m.shorts.items m.named m.told c.args.var c.args.value c.self.invariant (subst (λ (s : State). s.mood ≢ Broken) (sym c.self.view_is) c.requires.no_conflict))

pub returns : goal.returns
returns c =
    let m = c.self.inside in
    ap (λ (e : Stand). with_shorts e.state m.shorts.items m.named ByMatrix) c.assign.ensures ∙ ap (λ (s : State). assigned s c.args.var c.args.value) c.self.view_is
