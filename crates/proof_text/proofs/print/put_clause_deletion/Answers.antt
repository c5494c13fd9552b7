use Rattle.std.proofs.lemmas.Result.{err_from_is_err_and}
use Rattle.std.proofs.Common.{◌≡◌, subst, ℕ, length, slice_index_or, arith, List, map, pos, decimal, ◌∷◌, ◌++◌, []}
use Rattle.cx_desk.specs.Calls.{PutsAll}
use Rattle.cx_texts.specs.Words.{number, letter}
use Rattle.cx_texts.specs.Printed.{printed_line}
use Rattle.cx_texts.specs.Grammar.{spelled_list}
use Rattle.step_text.specs.Spaced.{spaced}
use Rattle.step_text.proofs.Puts.{first_fails, two_puts, clause_names_line, one_name_line}
use Rattle.proof_text.proofs.print.put_clause_deletion.Goals as goal

one_line : (n : ℕ) (ns : List ℕ) → length ns ≡ 1 → decimal n ++ (32 ∷ 100 ∷ 32 ∷ (decimal (slice_index_or ns 0 0) ++ 32 ∷ 48 ∷ 10 ∷ [])) ≡ printed_line (number (pos n) ∷ letter 100 ∷ (spelled_list (map pos ns) ++ []))
one_line n [] h = absurd (omega arith)
one_line n (m ∷ []) h = one_name_line n m
one_line n (m ∷ k ∷ ns) h = absurd (omega arith)

pub returns-in-len1 : goal.returns-in-len1
returns-in-len1 g c =
    let old = g.D.Desk.outside c.args.desk.now in
    let new = g.D.Desk.outside c.put_deletion.new.desk in
    subst (λ l. PutsAll c.args.port l old c.put_deletion.result new) (one_line c.args.name c.args.names.now (omega arith)) c.put_deletion.ensures

pub returns-in_err-put_id : goal.returns-in_err-put_id
returns-in_err-put_id g c =
    let p = err_from_is_err_and c.from_residual.result c.from_residual.ensures.1 in
    let first = decimal c.args.name ++ (32 ∷ 100 ∷ []) in
    let second = spaced (spelled_list (map pos c.args.names.now)) ++ 10 ∷ [] in
    let line = clause_names_line c.args.name c.args.names.now in
    let old = g.D.Desk.outside c.args.desk.now in
    let new = g.D.Desk.outside c.put_id.new.desk in
    rw p.1 (first_fails c.args.port first second _ old new line c.in_err-put_id.ensures)

pub returns : goal.returns
returns g c =
    let first = decimal c.args.name ++ (32 ∷ 100 ∷ []) in
    let second = spaced (spelled_list (map pos c.args.names.now)) ++ 10 ∷ [] in
    let line = clause_names_line c.args.name c.args.names.now in
    let old = g.D.Desk.outside c.args.desk.now in
    let mid = g.D.Desk.outside c.put_id.new.desk in
    let new = g.D.Desk.outside c.put_ids.new.desk in
    two_puts c.args.port first second _ old mid new c.put_ids.result line c.in_ok-put_id.ensures c.put_ids.ensures
