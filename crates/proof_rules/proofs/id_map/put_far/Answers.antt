use Rattle.std.proofs.Common.{Result, Ok, Err, OnErr}
use Rattle.proof_rules.proofs.id_map.put_far.Goals as goal

fails : {T E P : Type 0} (r : Result T E) → P → OnErr r P
fails (Ok x) p = tt
fails (Err e) p = p

pub returns-in_err-insert-clause-err : goal.returns-in_err-insert-clause-err
returns-in_err-insert-clause-err g c = fails c.from_residual.result c.in_err-insert.ensures.err
