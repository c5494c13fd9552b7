use Rattle.std.proofs.Common.{◌≡◌, IfOk, subst}
use Rattle.fratx_elab.proofs.NameLaws.{hints_themselves, themselves_within}
use Rattle.fratx_elab.proofs.take.hints_of.Goals as goal

pub same_hints-requires : goal.same_hints-requires
same_hints-requires c =
    let is = c.if-stand_for_themselves.true in
    themselves_within c.args.names.now c.args.ids.now (c.stand_for_themselves.ensures.themselves is) (c.stand_for_themselves.ensures.within is) c.requires

pub returns-then-stand_for_themselves : goal.returns-then-stand_for_themselves
returns-then-stand_for_themselves c =
    let same = hints_themselves c.args.names.now c.args.ids.now (c.stand_for_themselves.ensures.themselves c.if-stand_for_themselves.true) c.requires in
    subst (λ zs. IfOk c.same_hints.result (λ hints. hints ≡ zs)) same c.same_hints.ensures
