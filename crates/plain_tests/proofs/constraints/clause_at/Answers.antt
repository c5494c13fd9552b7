use Rattle.std.proofs.Common.{◌≡◌, ◌+◌, ◌-◌, ◌∙◌, sym, ap, List, [], get_or, arith}
use Rattle.std.proofs.lemmas.Option.{get_or_from_slice_get}
use Rattle.cx_base.specs.Literals.{Literal}
use Rattle.cx_base.specs.Problem.{clauses_of}
use Rattle.plain_tests.proofs.constraints.clause_at.Goals as goal

pub returns : goal.returns
returns c =
    let all : List (List Literal) = clauses_of c.args.formula.now.constraints in
    let n = c.args.place in
    let back : n + 1 - 1 ≡ n = omega arith in
    sym (ap (λ i. get_or all i []) (sym back) ∙ get_or_from_slice_get all (n + 1 - 1) c.clause.result.now [] c.clause.ensures.clause)
