use Rattle.std.proofs.Common.{◌≡◌, ◌∙◌, ◌+◌, ◌-◌, [], ◌∷◌, ◌++◌, ℕ, Bool, List, subst, sym, ap, get_or, arith, codes, flat_map}
use Rattle.std.proofs.lemmas.Result.{err_from_is_err_and}
use Rattle.cx_desk.specs.Outside.{Bytes}
use Rattle.parity_engine.specs.Equations.{numbers_from}
use Rattle.model_out.specs.Waiting.{Takes, Fails, Adds}
use Rattle.model_out.proofs.Puts.{takes_more, adds_more}
use Rattle.gf2_space.specs.AffineText.{listed_variable, line_end, vector_text}
use Rattle.gf2_space.proofs.Printing.{piece_fails, vector_is, grouped}
use Rattle.gf2_space.proofs.put.add_vector.Goals as goal

-- the line, where the next number's place is the given one
line_at : (vectors : List (List Bool)) (free below : List ℕ) (i : ℕ) → numbers_from 1 (get_or vectors (i + 1 - 1) []) ≡ below ++ get_or free (i + 1 - 1) 0 ∷ []
    → numbers_from 1 (get_or vectors i []) ≡ below ++ get_or free (i + 1 - 1) 0 ∷ []
line_at vectors free below i e =
    let back : i + 1 - 1 ≡ i = omega arith in
    ap (λ k. numbers_from 1 (get_or vectors k [])) (sym back) ∙ e

pub returns-in_err-add_variables : goal.returns-in_err-add_variables
returns-in_err-add_variables g c =
    let p = err_from_is_err_and c.from_residual-in_err-add_variables.result c.from_residual-in_err-add_variables.ensures.1 in
    let old = g.D.Desk.outside c.args.desk.now in
    let mid = g.D.Desk.outside c.add.new.desk in
    let new = g.D.Desk.outside c.add_variables.new.desk in
    let i : ℕ = c.args.place in
    let v : ℕ = get_or c.args.space.now.free (i + 1 - 1) 0 in
    let vector : List Bool = get_or c.args.space.now.vectors i [] in
    let line = line_at c.args.space.now.vectors c.args.space.now.free c.below.result.now i c.below.ensures in
    rw p.1
    (piece_fails (codes "b") (flat_map listed_variable c.below.result.now) (listed_variable v ++ line_end) (vector_text vector) old mid new c.args.waiting.now.items c.add.new.waiting.items
    (vector_is c.below.result.now v vector line) c.in_ok-add.ensures c.in_err-add_variables.ensures)

pub returns-in_err-add_number : goal.returns-in_err-add_number
returns-in_err-add_number g c =
    let p = err_from_is_err_and c.from_residual-in_err-add_number.result c.from_residual-in_err-add_number.ensures.1 in
    let old = g.D.Desk.outside c.args.desk.now in
    let mid = g.D.Desk.outside c.add.new.desk in
    let late = g.D.Desk.outside c.add_variables.new.desk in
    let new = g.D.Desk.outside c.add_number.new.desk in
    let i : ℕ = c.args.place in
    let v : ℕ = get_or c.args.space.now.free (i + 1 - 1) 0 in
    let vector : List Bool = get_or c.args.space.now.vectors i [] in
    let line = line_at c.args.space.now.vectors c.args.space.now.free c.below.result.now i c.below.ensures in
    let many : Bytes = flat_map listed_variable c.below.result.now in
    let front = takes_more (codes "b") many old mid late c.args.waiting.now.items c.add.new.waiting.items c.add_variables.new.waiting.items c.in_ok-add.ensures c.in_ok-add_variables.ensures in
    let number : c.from.result ≡ v = c.from.ensures ∙ c.number.ensures.number ∙ c.free.ensures in
    rw p.1
    (piece_fails (codes "b" ++ many) (listed_variable v) line_end (vector_text vector) old late new c.args.waiting.now.items c.add_variables.new.waiting.items
    (grouped (codes "b") many (listed_variable v) line_end (vector_text vector) (vector_is c.below.result.now v vector line)) front
    (subst (λ n. Fails (c.add_variables.new.waiting.items ++ listed_variable n) late new) number c.in_err-add_number.ensures))

pub returns : goal.returns
returns g c =
    let old = g.D.Desk.outside c.args.desk.now in
    let mid = g.D.Desk.outside c.add.new.desk in
    let late = g.D.Desk.outside c.add_variables.new.desk in
    let last = g.D.Desk.outside c.add_number.new.desk in
    let new = g.D.Desk.outside c.add-2.new.desk in
    let i : ℕ = c.args.place in
    let v : ℕ = get_or c.args.space.now.free (i + 1 - 1) 0 in
    let vector : List Bool = get_or c.args.space.now.vectors i [] in
    let line = line_at c.args.space.now.vectors c.args.space.now.free c.below.result.now i c.below.ensures in
    let many : Bytes = flat_map listed_variable c.below.result.now in
    let u : Bytes = c.args.waiting.now.items in
    let front = takes_more (codes "b") many old mid late u c.add.new.waiting.items c.add_variables.new.waiting.items c.in_ok-add.ensures c.in_ok-add_variables.ensures in
    let number : c.from.result ≡ v = c.from.ensures ∙ c.number.ensures.number ∙ c.free.ensures in
    let more = takes_more (codes "b" ++ many) (listed_variable v) old late last u c.add_variables.new.waiting.items c.add_number.new.waiting.items front
    (subst (λ n. Takes (listed_variable n) late c.add_variables.new.waiting.items last c.add_number.new.waiting.items) number c.in_ok-add_number.ensures) in
    subst (λ (t : Bytes). Adds t old u c.add-2.result new c.add-2.new.waiting.items)
    (grouped (codes "b") many (listed_variable v) line_end (vector_text vector) (vector_is c.below.result.now v vector line))
    (adds_more ((codes "b" ++ many) ++ listed_variable v) line_end old last new u c.add_number.new.waiting.items c.add-2.new.waiting.items c.add-2.result more c.add-2.ensures)
