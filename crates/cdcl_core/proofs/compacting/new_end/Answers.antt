use Rattle.std.proofs.Common.{ℕ, sym, subst}
use Rattle.cdcl_core.specs.Compacting.{IsFirstLive, MovesBelow}
use Rattle.cdcl_core.proofs.TidyBefore.{moves_to}
use Rattle.cdcl_core.proofs.compacting.new_end.Goals as goal

pub returns-in-Some-to : goal.returns-in-Some-to
returns-in-Some-to c = λ a from renamed first.
    let b = c.args.arena.now in
    let moved = c.args.moved.now in
    subst (λ (n : ℕ). MovesBelow moved b from n) (sym c.place.ensures)
    (moves_to a b moved renamed from c.in-Some.clause (subst (IsFirstLive a from) c.in-Some.is first) c.in-Some-to.new (sym c.in-Some-to.ensures))
