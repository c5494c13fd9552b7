use Rattle.std.proofs.Common.{rules, ◌≡◌, None}
use Rattle.fratx_elab.proofs.OwnLaws.{stand_themselves, stand_within}
use Rattle.fratx_elab.proofs.own_ids.OwnIds.has_no_other.Goals as goal

pub returns-clause-themselves : goal.returns-clause-themselves
returns-clause-themselves c e =
    let alone : c.self.inside.other ≡ None = search rules in
    rw (← c.self.view_is, alone) (stand_themselves c.self.inside.ids)

pub returns-clause-within : goal.returns-clause-within
returns-clause-within c e =
    let alone : c.self.inside.other ≡ None = search rules in
    rw (← c.self.view_is, alone) (stand_within c.self.inside.ids c.self.invariant)
