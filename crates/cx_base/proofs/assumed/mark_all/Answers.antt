use Rattle.std.proofs.Common.{◌≡◌, ◌∙◌, ◌∷◌, ◌||◌, ◌<◌, ◌+◌, ◌/◌, ◌%◌, ◌*◌, ◌^◌, suc, get_or, length, length-set, drop, drop-cons, set, bit_or, ap, sym, arith}
use Rattle.std.specs.List.{list_any}
use Rattle.std.proofs.lemmas.Grind.{get_or_default_zero}
use Rattle.cx_base.specs.Literals.{same_literal, code_of}
use Rattle.cx_base.specs.Assumed.{is_marked}
use Rattle.cx_base.proofs.MarkLaws.{with_bit}
use Rattle.cx_base.proofs.AssumedLaws.{has_place, marked_more}
use Rattle.cx_base.proofs.assumed.mark_all.Goals as goal

pub loop-lit-preserved : goal.loop-lit-preserved
loop-lit-preserved c =
    let marks = c.loop-lit.marks.items in
    let lits = c.args.lits.now in
    let place = c.loop-lit.lit-index in
    let lit = c.lit-item.result in
    let code : c.code-code.result ≡ code_of lit = c.code-code.ensures.code in
    let place_of = has_place c.args.greatest (length marks) lits place lit c.requires.within c.lit-item.is c.loop-lit-test.true (omega (arith, c.requires.room, c.loop-lit.invariant.len)) in
    let inside : c.code-code.result / 64 < length marks = omega (arith, place_of, code) in
    let word : c.index_mut.result.now ≡ get_or marks (code_of lit / 64) 0 = c.index_mut.ensures.value ∙ get_or_default_zero marks (c.code-code.result / 64) c.index_mut.result.now inside ∙ ap (λ p. get_or marks (p / 64) 0) code in
    let new : set marks (c.code-code.result / 64) (bit_or c.index_mut.result.now (1 * 2 ^ (c.code-code.result % 64) % 2 ^ 64)) ≡ with_bit marks (code_of lit) =
    (λ i. set marks (code i / 64) (bit_or (word i) (1 * 2 ^ (code i % 64) % 2 ^ 64))) in
    let next : suc place ≡ place + 1 = omega arith in
    let is = sym c.lit-item.is in
    let left : drop place lits ≡ lit ∷ drop (place + 1) lits = drop-cons lits place lit c.loop-lit-test.true ∙ (λ i. is i ∷ drop (next i) lits) in
    record {
      marked = λ x. ap (λ ms. is_marked ms x || list_any (same_literal x) (drop (place + 1) lits)) new
          ∙ marked_more marks lit x (drop (place + 1) lits) place_of
          ∙ ap (λ ls. is_marked marks x || list_any (same_literal x) ls) (sym left) ∙ c.loop-lit.invariant.marked x;
      len = length-set _ _ _ ∙ c.loop-lit.invariant.len;
    }
