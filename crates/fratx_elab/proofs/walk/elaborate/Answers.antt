use Rattle.std.proofs.Common.{ap, sym, ◌∙◌, arith}
use Rattle.std.proofs.lemmas.Result.{err_from_is_err_and}
use Rattle.fratx_elab.specs.Names.{Naming, first_naming}
use Rattle.fratx_elab.proofs.Leaving.{judged_at_once, no_memory_at_once}
use Rattle.fratx_elab.proofs.Turns.{kept_first, nothing_gained, clash_is_done}
use Rattle.fratx_elab.proofs.walk.elaborate.Goals as goal

pub take_all-done-requires-clause-room : goal.take_all-done-requires-clause-room
take_all-done-requires-clause-room g c =
    record {
      clauses = omega (arith, ap (λ (n : Naming). n.last) c.new-state.ensures.clauses, c.count_kinds-counts.ensures.kinds, c.count_kinds-counts.ensures.few);
      parities = omega (arith, ap (λ (n : Naming). n.last) c.new-state.ensures.parities, c.count_kinds-counts.ensures.kinds, c.count_kinds-counts.ensures.few);
    }

pub take_all-done-requires-clause-kept : goal.take_all-done-requires-clause-kept
take_all-done-requires-clause-kept g c = λ text may.
    let clauses = c.new-state.ensures.clauses ∙ ap first_naming c.count_kinds-counts.ensures.counts.clauses in
    let parities = c.new-state.ensures.parities ∙ ap first_naming c.count_kinds-counts.ensures.counts.parities in
    kept_first _ _ _ c.args.formula.now c.args.ends.now _ (sym c.clash.ensures.some ∙ sym c.is_some.ensures ∙ c.if-is_some.false) c.new-state.ensures.live clauses parities

pub returns-in_err-originals-clause-cut_off : goal.returns-in_err-originals-clause-cut_off
returns-in_err-originals-clause-cut_off g c =
    let p = err_from_is_err_and c.from_residual.result c.from_residual.ensures.1 in
    rw (p.1, p.2) (nothing_gained c.args.formula.now (g.E.ElabEnds.view.steps c.args.ends.now) (sym c.clash.ensures.some ∙ sym c.is_some.ensures ∙ c.if-is_some.false))

pub returns-then-is_some-clause-judged : goal.returns-then-is_some-clause-judged
returns-then-is_some-clause-judged g c = λ text may.
    clash_is_done (λ a. g.E.ElabEnds.view.leaves a text) g.E.ElabEnds.view.steps g.E.ElabEnds.view.torn c.args.formula.now c.args.ends.now (sym c.clash.ensures.some ∙ sym c.is_some.ensures ∙ c.if-is_some.true) (g.met.E.ElabEnds.leaves_some c.args.ends.now text may)

pub returns-in_err-originals-clause-ends : goal.returns-in_err-originals-clause-ends
returns-in_err-originals-clause-ends g c =
    let p = err_from_is_err_and c.from_residual.result c.from_residual.ensures.1 in
    rw (p.1, p.2) (no_memory_at_once g.E.ElabEnds.view c.args.ends.now (g.met.E.ElabEnds.keeps_itself c.args.ends.now))

pub returns-then-is_some-clause-ends : goal.returns-then-is_some-clause-ends
returns-then-is_some-clause-ends g c = judged_at_once g.E.ElabEnds.view c.args.ends.now _ (g.met.E.ElabEnds.keeps_itself c.args.ends.now)
