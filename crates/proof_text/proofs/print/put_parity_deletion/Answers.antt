use Rattle.std.proofs.lemmas.Result.{err_from_is_err_and}
use Rattle.std.proofs.Common.{◌≡◌, subst, ℕ, length, slice_index_or, arith, List, map, pos, decimal, ◌∷◌, ◌++◌, []}
use Rattle.cx_desk.specs.Calls.{PutsAll}
use Rattle.cx_texts.specs.Words.{letter}
use Rattle.cx_texts.specs.Printed.{printed_line}
use Rattle.cx_texts.specs.Grammar.{spelled_list}
use Rattle.step_text.specs.Spaced.{spaced}
use Rattle.step_text.proofs.Puts.{first_fails, two_puts, parity_names_line, one_parity_name_line}
use Rattle.proof_text.proofs.print.put_parity_deletion.Goals as goal

one_line : (ns : List ℕ) → length ns ≡ 1 → (120 ∷ 32 ∷ 100 ∷ 32 ∷ []) ++ (decimal (slice_index_or ns 0 0) ++ 32 ∷ 48 ∷ 10 ∷ []) ≡ printed_line (letter 120 ∷ letter 100 ∷ (spelled_list (map pos ns) ++ []))
one_line [] h = absurd (omega arith)
one_line (m ∷ []) h = one_parity_name_line m
one_line (m ∷ k ∷ ns) h = absurd (omega arith)

pub returns-in-len1 : goal.returns-in-len1
returns-in-len1 g c =
    let old = g.D.Desk.outside c.args.desk.now in
    let new = g.D.Desk.outside c.put_parity_deletion.new.desk in
    subst (λ l. PutsAll c.args.port l old c.put_parity_deletion.result new) (one_line c.args.names.now (omega arith)) c.put_parity_deletion.ensures

pub returns-in_err-put_all : goal.returns-in_err-put_all
returns-in_err-put_all g c =
    let p = err_from_is_err_and c.from_residual.result c.from_residual.ensures.1 in
    let first = 120 ∷ 32 ∷ 100 ∷ [] in
    let second = spaced (spelled_list (map pos c.args.names.now)) ++ 10 ∷ [] in
    let line = parity_names_line c.args.names.now in
    let old = g.D.Desk.outside c.args.desk.now in
    let new = g.D.Desk.outside c.put_all.new.desk in
    rw p.1 (first_fails c.args.port first second _ old new line c.in_err-put_all.ensures)

pub returns : goal.returns
returns g c =
    let first = 120 ∷ 32 ∷ 100 ∷ [] in
    let second = spaced (spelled_list (map pos c.args.names.now)) ++ 10 ∷ [] in
    let line = parity_names_line c.args.names.now in
    let old = g.D.Desk.outside c.args.desk.now in
    let mid = g.D.Desk.outside c.put_all.new.desk in
    let new = g.D.Desk.outside c.put_ids.new.desk in
    two_puts c.args.port first second _ old mid new c.put_ids.result line c.in_ok-put_all.ensures c.put_ids.ensures
