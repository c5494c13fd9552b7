use Rattle.std.proofs.Common.{rules, ◌∙◌, sym, ap, subst}
use Rattle.std.proofs.lemmas.Result.{err_from_is_err_and}
use Rattle.cx_texts.specs.Words.{placed_formula_words, formula_words_of}
use Rattle.cnfx_reader.specs.Body.{outcome, Outcome, IsEndedBy}
use Rattle.cnfx_reader.proofs.body.read_body.Goals as goal

pub loop-at-preserved : goal.loop-at-preserved
loop-at-preserved c =
    let next = c.in-Some.ensures in (
      c.in_ok-state.ensures.fits,
      c.loop-at.invariant.1 ∙ ap (λ ts. outcome c.args.len c.loop-at.state c.loop-at.builder (placed_formula_words ts)) next.1
          ∙ c.in_ok-state.ensures.ok c.args.len (formula_words_of next.0) (placed_formula_words c.next_as.new.self) next.2,
    )

pub returns-in_err-state : goal.returns-in_err-state
returns-in_err-state c =
    let next = c.in-Some.ensures in
    let p = err_from_is_err_and c.from_residual.result c.from_residual.ensures.1 in
    let e = c.loop-at.invariant.1 ∙ ap (λ ts. outcome c.args.len c.loop-at.state c.loop-at.builder (placed_formula_words ts)) next.1 in
    let ended = c.in_err-state.ensures.err c.args.len (formula_words_of next.0) (placed_formula_words c.next_as.new.self) next.2 in
    rw (p.1, p.2) (subst (λ (o : Outcome). IsEndedBy c.in_err-state.field-0.0 o.ending) (sym e) ended)

pub returns-in_default-state : goal.returns-in_default-state
returns-in_default-state c = search rules
