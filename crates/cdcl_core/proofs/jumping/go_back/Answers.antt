use Rattle.std.proofs.Common.{refl, rules, arith}
use Rattle.cdcl_search.specs.declared.state.SearchState.{SearchState}
use Rattle.parity_engine.specs.State.{State}
use Rattle.cdcl_core.proofs.GoingBack.{GoesBack, ties_then, watched_then, units_are_all, above_too}
use Rattle.cdcl_core.proofs.jumping.go_back.Goals as goal

pub back_to-requires-4 : goal.back_to-requires-4
back_to-requires-4 g c = above_too c.args.formula.now c.args.level c.args.state.now (g.P.ParityEngine.state c.args.engine.now) c.requires.stands.0 c.requires.stands.1 c.requires.stands.3 c.requires.lower

pub returns : goal.returns
returns g c =
    let old : State = g.P.ParityEngine.state c.args.engine.now in
    let new : State = g.P.ParityEngine.state c.back_to-4.new.self in
    let now : SearchState = record c.args.state.now { trail = c.back_to-2.new.self; watches = c.back_to-3.new.self; order = c.back_to.new.self; phases = c.save_phases.new.phases; given = c.len-state.result } in
    let goes : GoesBack c.args.level c.args.state.now now old new = record {
      lower = c.requires.lower;
      takes = c.back_to-2.ensures.back;
      sound = c.back_to-2.ensures.sound;
      arena = refl;
      watches = c.back_to-3.ensures;
      stand = c.back_to.ensures.back _ c.back_to-2.ensures.back;
      phases = c.save_phases.ensures;
      units = refl;
      next = refl;
      given = c.len-state.ensures.len;
      conflicts = refl;
      learned = refl;
      reductions = refl;
      tidies = refl;
      tidy_below = refl;
      engine = c.back_to-4.ensures;
    } in
    record {
      back = record {
        ties = λ rows s ok t. ties_then c.args.formula.now c.args.level c.args.state.now now old new rows s ok t goes;
        watched = watched_then c.args.formula.now c.args.level c.args.state.now now old new c.requires.stands.0 c.requires.stands.1 c.requires.stands.2 c.requires.stands.3 goes c.requires.stands.4;
        back = c.back_to-2.ensures.back;
        units = units_are_all c.args.formula.now c.args.level c.args.state.now now old new c.requires.stands.0 c.requires.stands.1 c.requires.stands.2 c.requires.stands.3 goes;
        counts = record { next = refl; conflicts = refl; learned = refl; reductions = refl; tidies = refl; tidy_below = refl };
        parities = search rules;
        unbroken = search rules;
      };
      keeps = λ constraints k. c.back_to-5.ensures constraints c.args.state.now.trail k (let low = c.requires.lower in omega (arith, low)) c.back_to-2.ensures.back;
    }
