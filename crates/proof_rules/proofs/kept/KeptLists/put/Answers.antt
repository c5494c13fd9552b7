use Rattle.std.proofs.Common.{◌∙◌, ◌++◌, ap, sym, subst, Result, Ok, Err, OnErr}
use Rattle.std.specs.FinMap as map
use Rattle.proof_rules.specs.KeptLists.{AreWithin, kept_in}
use Rattle.proof_rules.proofs.KeptLaws.{AreWithin-insert, kept_in-append, kept_in-insert}
use Rattle.proof_rules.proofs.kept.KeptLists.put.Goals as goal

fails : {T E P : Type 0} (r : Result T E) → P → OnErr r P
fails (Ok x) p = tt
fails (Err e) p = p

pub returns-in_err-insert-clause-err : goal.returns-in_err-insert-clause-err
returns-in_err-insert-clause-err c =
    let lits = c.self.inside.lits.items in
    fails c.from_residual-in_err-insert.result
    ((λ i. kept_in (c.in_ok-span.ensures.items i) (c.in_err-insert.ensures.err i))
    ∙ kept_in-append lits c.args.lits.now c.self.inside.spans c.self.invariant ∙ c.self.view_is)

pub invariant_of-self-2 : goal.invariant_of-self-2
invariant_of-self-2 c =
    let lits = c.self.inside.lits.items in
    let more = c.args.lits.now in
    let spans = c.self.inside.spans in
    let put = c.in_ok-insert.ensures.ok ∙ ap (map.insert spans c.args.id) c.in_ok-span.ensures.span in
    subst (λ all. AreWithin all c.insert.new.self) (sym c.in_ok-span.ensures.items)
    (subst (AreWithin (lits ++ more)) (sym put) (AreWithin-insert lits more spans c.self.invariant c.args.id))

pub returns-clause-ok : goal.returns-clause-ok
returns-clause-ok c =
    let lits = c.self.inside.lits.items in
    let more = c.args.lits.now in
    let spans = c.self.inside.spans in
    let put = c.in_ok-insert.ensures.ok ∙ ap (map.insert spans c.args.id) c.in_ok-span.ensures.span in
    (λ i. kept_in (c.in_ok-span.ensures.items i) (put i)) ∙ kept_in-insert lits more spans c.self.invariant c.args.id
    ∙ ap (λ t. map.insert t c.args.id more) c.self.view_is
