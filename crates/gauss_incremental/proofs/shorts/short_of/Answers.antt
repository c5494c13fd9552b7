use Rattle.std.proofs.Common.{ap, length, refl, List, arith, subst}
use Rattle.std.proofs.lemmas.List.{length-map}
use Rattle.std.proofs.lemmas.List.Sorted.{length_permutation}
use Rattle.cx_base.specs.Literals.{Literal}
use Rattle.gauss_incremental.specs.declared.shorts.Short.{Short}
use Rattle.gauss_incremental.specs.ShortFirst.{IsWrittenOf}
use Rattle.gauss_incremental.proofs.ShortMaking.{is_short_of}
use Rattle.gauss_incremental.proofs.shorts.short_of.Goals as goal

pub written-requires : goal.written-requires
written-requires c =
    let lits = c.args.lits.now in
    let order = rw c.in-Some.is at c.in_ok-ordered.ensures in
    let same = length_permutation lits c.in-Some.ordered.items order.moved in
    omega (arith, ap length c.deref.ensures.value)

pub returns-in_ok-lits-in-Some : goal.returns-in_ok-lits-in-Some
returns-in_ok-lits-in-Some c =
    let lits = c.args.lits.now in
    let order = rw c.in-Some.is at c.in_ok-ordered.ensures in
    let same = length_permutation lits c.in-Some.ordered.items order.moved in
    let short : Short = record { number = c.args.number; lits = c.in_ok-lits-in-Some.lits } in
    is_short_of c.args.vars lits c.in-Some.ordered.items c.args.number short order (omega (arith, length-map c.in-Some.ordered.items (λ (l : Literal). l.variable)))
    refl (subst (λ (ls : List Literal). IsWrittenOf ls c.in_ok-lits-in-Some.lits) c.deref.ensures.value c.in_ok-lits-in-Some.ensures)
