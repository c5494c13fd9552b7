use Rattle.std.proofs.Common.{◌≡◌, ◌∙◌, sym, ap, subst, [], length}
use Rattle.std.proofs.lemmas.Result.{err_from_is_err_and}
use Rattle.cx_base.specs.Drafts.{Draft}
use Rattle.cx_texts.specs.FormulaText.{header}
use Rattle.cx_texts.specs.Words.{placed_formula_words}
use Rattle.cnfx_reader.specs.declared.pending.Pending.TheVariants as pending
use Rattle.cnfx_reader.specs.Body.{outcome, IsEndedBy}
use Rattle.cnfx_reader.proofs.TextReading.{refused_header, refused_body, read_formula_is}
use Rattle.cnfx_reader.proofs.read.read_formula.Goals as goal

pub returns-in_err-vars : goal.returns-in_err-vars
returns-in_err-vars c =
    let text = c.args.text.now in
    let p = err_from_is_err_and c.from_residual.result c.from_residual.ensures.1 in
    rw (p.1, p.2) (refused_header text c.in_err-vars.field-0.0 (ap (header (length text)) (sym c.new-tokens.ensures) ∙ c.in_err-vars.ensures.read))

pub returns-in_err-read_body : goal.returns-in_err-read_body
returns-in_err-read_body c =
    let text = c.args.text.now in
    let head = ap (header (length text)) (sym c.new-tokens.ensures) ∙ c.in_ok-vars.ensures.read in
    let p = err_from_is_err_and c.from_residual-in_err-read_body.result c.from_residual-in_err-read_body.ensures.1 in
    let empty : c.new-builder.result ≡ record { constraints = []; unfinished = [] } = c.new-builder.ensures in
    let ended = subst (λ (d : Draft). IsEndedBy c.in_err-read_body.field-0.0 (outcome (length text) pending.Nothing d (placed_formula_words c.read_header.new.tokens)).ending) empty c.in_err-read_body.ensures in
    rw (p.1, p.2) (refused_body text c.in_ok-vars.vars c.read_header.new.tokens head c.in_err-read_body.field-0.0 ended)

pub returns : goal.returns
returns c =
    let text = c.args.text.now in
    let head = ap (header (length text)) (sym c.new-tokens.ensures) ∙ c.in_ok-vars.ensures.read in
    let empty : c.new-builder.result ≡ record { constraints = []; unfinished = [] } = c.new-builder.ensures in
    let whole = ap (λ (d : Draft). outcome (length text) pending.Nothing d (placed_formula_words c.read_header.new.tokens)) (sym empty) ∙ c.in_ok-read_body.ensures.1 in
    rw c.finish.ensures (read_formula_is text c.in_ok-vars.vars c.read_header.new.tokens head c.read_body.new.builder.constraints whole)
