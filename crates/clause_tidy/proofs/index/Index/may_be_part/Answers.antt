use Rattle.std.proofs.Common.{subst, List, Bool, true, ◌≡◌}
use Rattle.std.specs.List.{Contains}
use Rattle.cx_base.specs.Literals.{Literal}
use Rattle.clause_tidy.specs.Listing.{is_chosen}
use Rattle.clause_tidy.proofs.LookLaws.{match_not, no_whole}
use Rattle.clause_tidy.proofs.index.Index.may_be_part.Goals as goal

pub returns : goal.returns
returns c =
    let index = c.args.self.now in
    match_not c.lacks_one.result _ _ (c.is_live.ensures.0 c.if-not-is_live.false)
    (λ lacks live.
    let w = c.lacks_one.ensures lacks in
    no_whole c.args.arena.now c.args.clause index.first index.lists index.chosen.items index.signatures.items w.0 c.requires (subst (λ (lits : List Literal). Contains lits w.0) c.lits.ensures w.1, subst (λ (bs : List Bool). is_chosen bs w.0.variable ≡ true) c.deref.ensures.value w.2) w.3)
