use Rattle.std.proofs.Common.{◌≡◌, true, ◌<◌, ℕ, sym, subst, ◌∙◌, List, length, arith}
use Rattle.std.specs.List.{Contains}
use Rattle.cx_base.specs.Literals.{Literal}
use Rattle.std.proofs.lemmas.List.{take_all}
use Rattle.clause_tidy.specs.Listing.{is_chosen, list_of, IsListed}
use Rattle.clause_tidy.proofs.ListingLaws.{listed_more}
use Rattle.clause_tidy.proofs.lists.enter.Goals as goal

pub put_chosen-requires : goal.put_chosen-requires
put_chosen-requires c =
    let known = subst (λ (l : Literal). l.variable < length c.args.lists.now) (sym c.lit-item.is) (c.requires c.loop-lit.lit-index c.lit-item.result c.loop-lit-test.true) in
    let same = c.var.ensures in
    let count = c.loop-lit.invariant.count in
    omega (arith, known, same, count)

pub loop-lit-preserved : goal.loop-lit-preserved
loop-lit-preserved c =
    let put = c.in_ok-put_chosen.ensures in
    let new = c.put_chosen.new.lists in
    let x = c.lit-item.result in
    let r = c.args.clause in
    let chosen = c.args.chosen.now in
    record {
      count = put.count ∙ c.loop-lit.invariant.count;
      kept = λ v q h. put.kept v q (c.loop-lit.invariant.kept v q h);
      listed = listed_more c.loop-lit.lists new chosen c.args.lits.now c.loop-lit.lit-index x r c.loop-lit-test.true c.lit-item.is put.kept
          (subst (λ (v : ℕ). is_chosen chosen v ≡ true → Contains (list_of new v) r) c.var.ensures put.has) c.loop-lit.invariant.listed;
    }

pub returns-clause-listed : goal.returns-clause-listed
returns-clause-listed c = subst (λ (ls : List Literal). IsListed c.loop-lit.lists c.args.chosen.now ls c.args.clause) (take_all c.loop-lit.lit-index c.args.lits.now (omega (arith, c.loop-lit-test.false))) c.loop-lit.invariant.listed
