use Rattle.std.proofs.Common.{subst, sym}
use Rattle.cx_trail.specs.Sequence.{TrailState, IsTrail}
use Rattle.cdcl_core.specs.Tidying.{IsAtRestart, StandsUnwatched}
use Rattle.cdcl_core.proofs.ForgottenTies.{restarts_still, stands_unwatched}
use Rattle.cdcl_core.proofs.tidying.forget.Goals as goal

pub returns-clause-restart : goal.returns-clause-restart
returns-clause-restart c = subst (λ (t : TrailState). IsAtRestart (record c.args.state.now { trail = t })) (sym c.forget_reasons.ensures.forgotten) (restarts_still c.args.state.now c.requires)

pub returns-clause-unwatched : goal.returns-clause-unwatched
returns-clause-unwatched c = λ formula e told stands. subst (λ (t : TrailState). StandsUnwatched formula (record c.args.state.now { trail = t }) e told) (sym c.forget_reasons.ensures.forgotten)
    (stands_unwatched formula c.args.state.now e told c.requires (subst IsTrail c.forget_reasons.ensures.forgotten c.forget_reasons.ensures.sound) stands)
