use Rattle.std.proofs.Common.{◌≡◌, refl, sym, ap, ◌∙◌, ℕ, max, arith}
use Rattle.fratx_elab.specs.Elaborates.{deleted_id}
use Rattle.fratx_elab.specs.Names.{stands_for}
use Rattle.fratx_elab.proofs.Taking.{keeps_clause, deletes_clause}
use Rattle.fratx_elab.proofs.delete.delete_clause.Goals as goal

pub returns-in_ok-clause_deletion-in-Some-clause-taken : goal.returns-in_ok-clause_deletion-in-Some-clause-taken
returns-in_ok-clause_deletion-in-Some-clause-taken c = λ formula e.
    let state = c.args.state.now in
    let p : ℕ = c.in-Some.gone in
    let front : ℕ = c.front_of.result in
    let last : ℕ = c.last-last.result in
    let some = ap (λ n. deleted_id n (stands_for state.clauses c.args.id)) (sym e) ∙ sym c.deleted-gone.ensures.found ∙ c.in-Some.is in
    deletes_clause formula state (record { live = _; clauses = _; parities = _; marks = state.marks; spare = state.spare }) c.args.id p front c.args.lits c.in_ok-clause_deletion-in-Some.field-0 some
    (λ h. let at : front ≡ max last p = c.front_of.ensures in let l : last ≡ state.clauses.last = c.last-last.ensures ∙ ap (λ n. n.last) c.deleted-gone.ensures.gone in omega arith)
    c.remove.ensures c.deleted-gone.ensures.gone refl c.in_ok-clause_deletion-in-Some.ensures.step

pub returns-in-None-clause-taken : goal.returns-in-None-clause-taken
returns-in-None-clause-taken c = λ formula e.
    let state = c.args.state.now in
    let none = ap (λ n. deleted_id n (stands_for state.clauses c.args.id)) (sym e) ∙ sym c.deleted-gone.ensures.found ∙ c.in-None.is in
    keeps_clause formula state (record { live = _; clauses = _; parities = _; marks = state.marks; spare = state.spare }) c.args.id c.args.lits none c.remove.ensures c.deleted-gone.ensures.gone refl
