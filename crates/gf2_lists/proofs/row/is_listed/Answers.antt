use Rattle.std.proofs.Common.{sym, nat_eq, arith, get_or, inl, inr}
use Rattle.std.specs.Prelude.{Ok, Err}
use Rattle.std.proofs.lemmas.Bool.{cases_lt, eq-eqb}
use Rattle.std.proofs.lemmas.List.Folds.{list_any_at}
use Rattle.std.proofs.lemmas.List.Sorted.{searched}
use Rattle.parity_engine.proofs.Rising.{rises_along}
use Rattle.gf2_lists.proofs.Rises.{any_none}
use Rattle.gf2_lists.proofs.row.is_listed.Goals as goal

pub returns-in-Ok : goal.returns-in-Ok
returns-in-Ok c =
    let numbers = c.args.numbers.now in
    let found = searched numbers c.args.number (Ok c.in-Ok.field-0) c.in-Ok.ensures.position (λ i j le lt. rises_along 1 numbers i j c.requires le lt) in
    sym (list_any_at (λ y. nat_eq y c.args.number) numbers c.in-Ok.field-0 0 found.0 (eq-eqb (get_or numbers c.in-Ok.field-0 0) c.args.number found.1))

pub returns-in-Err : goal.returns-in-Err
returns-in-Err c =
    let numbers = c.args.numbers.now in
    let missing = searched numbers c.args.number (Err c.in-Err.field-0) c.in-Err.ensures.position (λ i j le lt. rises_along 1 numbers i j c.requires le lt) in
    sym (any_none numbers c.args.number (λ i lt e.
    elim (cases_lt i c.in-Err.field-0) [ inl small ↦ let h = missing.1 i small in omega arith | inr large ↦ let h = missing.2 i large lt in omega arith ]))
