use Rattle.std.proofs.Common.{refl, ap, ◌∙◌, subst, ℕ, List, Option, MatchOption}
use Rattle.cx_base.specs.Literals.{Literal}
use Rattle.cx_semantics.specs.LogRules.{IsOriginalParity}
use Rattle.cx_semantics.specs.Tables.{put_parity}
use Rattle.fratx_elab.specs.Elaborates.{IsParityNumber}
use Rattle.fratx_elab.proofs.Taking.{takes_original_parity}
use Rattle.fratx_elab.proofs.elaboration.Elaboration.take_original_parity.Goals as goal

pub returns-in_ok-put_original-in-Some-clause-taken : goal.returns-in_ok-put_original-in-Some-clause-taken
returns-in_ok-put_original-in-Some-clause-taken c =
    let formula = c.args.self.now.formula.now in
    let lits = c.args.lits in
    let k = c.in-Some.number in
    let added = c.in_ok-target.ensures.0 in
    let target = c.in_ok-target.ensures.1 in
    let seen = c.as_slice.result.now in
    let P : Option ℕ → Type 0 = λ o. MatchOption o (¬ IsOriginalParity formula seen) (IsParityNumber formula seen) in
    let number = subst P c.in-Some.is c.in_ok-number.ensures in
    takes_original_parity formula c.args.state.now (record { live = _; clauses = _; parities = _; marks = c.args.state.now.marks; spare = c.args.state.now.spare }) c.args.id k lits added (subst (λ (l : List Literal). IsParityNumber formula l k) (c.as_slice.ensures ∙ target) number)
    (c.in_ok-put_live-in-Some.ensures ∙ ap (put_parity c.args.state.now.live c.args.id) target) refl c.in_ok-put_original-in-Some.ensures
