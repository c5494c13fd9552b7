use Rattle.std.proofs.Common.{sym, ◌∙◌, ap, ◌≡◌, length, arith, map, subst, IfOk, ◌*◌, List, Bool}
use Rattle.cx_base.specs.Problem.{Problem}
use Rattle.inst_gen.specs.Words.{stream, words}
use Rattle.inst_gen.specs.Planting.{clauses_of}
use Rattle.inst_gen.specs.Triples.{literals_in}
use Rattle.inst_gen.proofs.Whole.{length_drawn, whole_is}
use Rattle.inst_gen.proofs.building.planted.Goals as goal

pub draw_parities-requires : goal.draw_parities-requires
draw_parities-requires c =
    let size : length c.deref.result.now ≡ c.args.size = ap length c.deref.ensures.value ∙ length_drawn c.args.size _ _ c.in_ok-values.ensures.values in
    omega arith

pub draw_clauses-requires-clause-low : goal.draw_clauses-requires-clause-low
draw_clauses-requires-clause-low c =
    let size : length c.deref-2.result.now ≡ c.args.size = ap length c.deref-2.ensures.value ∙ length_drawn c.args.size _ _ c.in_ok-values.ensures.values in
    omega arith

pub draw_clauses-requires-clause-few : goal.draw_clauses-requires-clause-few
draw_clauses-requires-clause-few c =
    let size : length c.deref-2.result.now ≡ c.args.size = ap length c.deref-2.ensures.value ∙ length_drawn c.args.size _ _ c.in_ok-values.ensures.values in
    omega arith

pub returns : goal.returns
returns c =
    let values = c.deref.ensures.value ∙ c.in_ok-values.ensures.values in
    let parities = ap (map literals_in) c.deref-3.ensures.value ∙ c.in_ok-parities.ensures.parities in
    let clauses = ap (map literals_in) c.deref-4.ensures.value ∙ c.in_ok-clauses.ensures.clauses in
    let same : c.deref-2.result.now ≡ c.deref.result.now = c.deref-2.ensures.value ∙ sym c.deref.ensures.value in
    subst (λ (whole : Problem). IfOk c.instance.result (λ f. f ≡ whole))
    (whole_is c.args.kind c.args.size c.args.seed c.deref.result.now _ _ _ _ _ c.requires.low (ap stream c.seed_from_u64-generator.ensures.same) values c.in_ok-values.ensures.left
    parities c.in_ok-parities.ensures.left
    (clauses ∙ ap (λ (v : List Bool). clauses_of v (length v) (length v) (words (3 * length v) (stream c.draw_parities.new.generator))) same))
    c.instance.ensures
