use Rattle.std.proofs.Common.{refl, sym, ap, ◌∙◌, ℕ}
use Rattle.fratx_elab.specs.Elaborates.{deleted_id}
use Rattle.fratx_elab.specs.Names.{stands_for}
use Rattle.fratx_elab.proofs.Taking.{keeps_parity, deletes_parity}
use Rattle.fratx_elab.proofs.delete.delete_parity.Goals as goal

pub returns-in_ok-parity_deletion-in-Some-clause-taken : goal.returns-in_ok-parity_deletion-in-Some-clause-taken
returns-in_ok-parity_deletion-in-Some-clause-taken c = λ formula e.
    let state = c.args.state.now in
    let p : ℕ = c.in-Some.gone in
    let some = ap (λ n. deleted_id n (stands_for state.parities c.args.id)) (sym e) ∙ sym c.deleted-gone.ensures.found ∙ c.in-Some.is in
    deletes_parity formula state (record { live = _; clauses = _; parities = _; marks = state.marks; spare = state.spare }) c.args.id p c.args.lits c.in_ok-parity_deletion-in-Some.field-0 some c.remove.ensures refl c.deleted-gone.ensures.gone c.in_ok-parity_deletion-in-Some.ensures.step

pub returns-in-None-clause-taken : goal.returns-in-None-clause-taken
returns-in-None-clause-taken c = λ formula e.
    let state = c.args.state.now in
    let none = ap (λ n. deleted_id n (stands_for state.parities c.args.id)) (sym e) ∙ sym c.deleted-gone.ensures.found ∙ c.in-None.is in
    keeps_parity formula state (record { live = _; clauses = _; parities = _; marks = state.marks; spare = state.spare }) c.args.id c.args.lits none c.remove.ensures refl c.deleted-gone.ensures.gone
