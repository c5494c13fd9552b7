use Rattle.std.proofs.Common.{sym, subst, ℕ}
use Rattle.cx_trail.specs.declared.entry.Truth.{Truth}
use Rattle.cx_trail.specs.Sequence.{Means, HasEntry}
use Rattle.rup_engine.proofs.SearchLaws.{gives_by}
use Rattle.rup_engine.proofs.refuter.giver.Goals as goal

pub returns-in-True : goal.returns-in-True
returns-in-True c =
    let t = c.args.trail.now in
    gives_by c.args.lit t.entries c.reason_of.result c.clause_of.result c.clause_of.ensures (subst (λ (x : Truth). Means t.entries c.args.lit x) c.in-True.is c.truth.ensures.means)
    (λ e has. c.reason_of.ensures e (subst (λ (v : ℕ). HasEntry t.entries v e) (sym c.var.ensures) has))
