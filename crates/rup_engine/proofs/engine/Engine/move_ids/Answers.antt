use Rattle.std.proofs.Common.{refl}
use Rattle.rup_engine.proofs.MovingLaws.{on_ok, rest_moved, holds_moved}
use Rattle.rup_engine.proofs.engine.Engine.move_ids.Goals as goal

pub returns-clause-rest : goal.returns-clause-rest
returns-clause-rest c =
    on_ok c.move_ids.result (λ refs. rest_moved c.args.self.now _ c.args.moves.now c.requires.rest c.requires.apart c.rename_all.ensures refs refl refl refl refl refl) c.move_ids.ensures

pub returns-clause-holds : goal.returns-clause-holds
returns-clause-holds c =
    on_ok c.move_ids.result (λ refs. holds_moved c.args.self.now _ c.args.moves.now c.requires.rest c.requires.apart c.rename_all.ensures refs refl refl refl refl refl) c.move_ids.ensures
