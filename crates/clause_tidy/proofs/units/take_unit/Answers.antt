use Rattle.std.proofs.Common.{sym, ap, subst, ℕ, List, [], ◌∷◌, ◌++◌}
use Rattle.cx_base.specs.Literals.{Literal}
use Rattle.clause_arena.specs.Clauses.{ArenaState}
use Rattle.clause_tidy.specs.Taking.{Takes}
use Rattle.clause_tidy.proofs.TakingLaws.{takes_more}
use Rattle.clause_tidy.proofs.units.take_unit.Goals as goal

pub returns-in_ok-push-in-Some-2-clause-takes : goal.returns-in_ok-push-in-Some-2-clause-takes
returns-in_ok-push-in-Some-2-clause-takes c = λ a h.
    let b = c.args.arena.now in
    let d = c.remove.new.self in
    subst (λ (us : List Literal). Takes a d us c.push-in-Some.new.self.items) (sym c.in_ok-push-in-Some.ensures.items)
    (subst (λ (ns : List ℕ). Takes a d (c.args.units.now.items ++ c.in-Some.lit ∷ []) ns) (sym c.in_ok-push-in-Some-2.ensures.items)
    (takes_more a b d c.args.units.now.items c.args.ids.now.items c.args.clause c.in-Some.lit c.id.result h (c.in-Some.ensures.0, c.in-Some.ensures.1, sym c.id.ensures) (ap (λ (x : ArenaState). x.clauses) c.remove.ensures)))
