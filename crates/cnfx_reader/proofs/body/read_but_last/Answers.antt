use Rattle.std.proofs.Common.{◌∙◌, refl, sym, ap, subst, [], ◌∷◌, ◌++◌, append_assoc}
use Rattle.std.proofs.lemmas.Result.{err_from_is_err_and}
use Rattle.cx_texts.specs.Tokens.{Token}
use Rattle.cx_texts.specs.Words.{placed_formula_words, formula_words_of}
use Rattle.cnfx_reader.specs.Body.{outcome, Outcome, IsEndedBy}
use Rattle.cnfx_reader.specs.PieceReading.{PieceRefused}
use Rattle.cnfx_reader.proofs.body.read_but_last.Goals as goal

pub loop-next-preserved : goal.loop-next-preserved
loop-next-preserved c =
    let inv = c.loop-next.invariant in
    let next = c.in-Some-next_as.ensures in
    let token : Token = record { place = c.loop-next.last.place; text = inv.text } in
    let other : Token = record { place = c.in-Some-next_as.next.place; text = next.0 } in
    record {
      text = next.0;
      before = inv.before ++ token ∷ [];
      split = inv.split ∙ ap (λ ts. inv.before ++ token ∷ ts) next.1 ∙ sym (append_assoc inv.before (token ∷ []) (other ∷ c.next_as-in-loop-next.new.self));
      says = next.2;
      fits = c.in_ok-state.ensures.fits;
      same = λ len more.
          inv.same len more ∙ c.in_ok-state.ensures.ok len (formula_words_of inv.text) (placed_formula_words (c.loop-next.tokens ++ more)) inv.says
          ∙ ap (λ ts. outcome len c.in_ok-state.state c.take_token.new.builder (placed_formula_words (ts ++ more))) next.1;
    }

pub returns-in_err-state : goal.returns-in_err-state
returns-in_err-state c =
    let inv = c.loop-next.invariant in
    let p = err_from_is_err_and c.from_residual.result c.from_residual.ensures.1 in
    let refused : PieceRefused c.args.pending c.args.builder.now c.args.tokens.now c.in_err-state.field-0.0 = λ len more.
    subst (λ (o : Outcome). IsEndedBy c.in_err-state.field-0.0 o.ending) (sym (inv.same len more))
    (c.in_err-state.ensures.err len (formula_words_of inv.text) (placed_formula_words (c.loop-next.tokens ++ more)) inv.says) in
    rw (p.1, p.2) refused

pub returns : goal.returns
returns c =
    let inv = c.loop-next.invariant in
    let none = c.in_default-next_as.ensures.0 in
    let token : Token = record { place = c.loop-next.last.place; text = inv.text } in
    record {
      before = inv.before;
      last = token;
      split = inv.split ∙ ap (λ ts. inv.before ++ token ∷ ts) none;
      at = refl;
      fits = inv.fits;
      same = λ len more. inv.same len more ∙ ap (λ ts. outcome len c.loop-next.state c.loop-next.builder (placed_formula_words (token ∷ ts ++ more))) none;
    }
