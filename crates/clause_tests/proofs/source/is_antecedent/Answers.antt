use Rattle.std.proofs.Common.{◌≡◌, ◌≢◌, ◌∙◌, get_or, sym, ap, subst, refl, eqb-true, arith}
use Rattle.cx_base.specs.Literals.{Literal, code_of}
use Rattle.cx_base.proofs.LiteralLaws.{same_code}
use Rattle.cx_semantics.specs.Chain.{has_literal}
use Rattle.cx_semantics.proofs.Members.{has_by_index}
use Rattle.cx_trail.specs.Sequence.{IsFalseBefore}
use Rattle.clause_tests.proofs.Members.{place_of_member, not_same, one_more}
use Rattle.clause_tests.proofs.source.is_antecedent.Goals.{then-eq, else-eq+else-not-is_false_before}
use Rattle.clause_tests.proofs.source.is_antecedent.Goals as goal

pub loop-lit-preserved : goal.loop-lit-preserved
loop-lit-preserved c =
    let i = c.loop-lit.lit-index in
    let inv = c.loop-lit.invariant in
    let lits = c.args.lits.now in
    let x = c.lit-item.result in
    let inside = c.loop-lit-test.true in
    let P : Literal → Type 0 = λ y. y ≢ c.args.literal → IsFalseBefore c.args.trail.now.entries c.args.place y in
    elim c.if-eq.branch [
      | then-eq w ↦
          let same : x ≡ c.args.literal = same_code x c.args.literal (eqb-true (code_of x) (code_of c.args.literal) (sym c.eq.ensures ∙ w.if-eq.true)) in
          record {
            others = one_more P lits i x c.lit-item.is inside (λ ne. absurd (ne same)) inv.others;
            met = λ t. ap (has_literal lits) (sym same ∙ c.lit-item.is) ∙ has_by_index lits i x inside;
          }
      | else-eq+else-not-is_false_before w ↦ record {
        others = one_more P lits i x c.lit-item.is inside (λ ne. w.if-not-is_false_before.ensures refl) inv.others;
        met = λ t. inv.met (sym w.found-is ∙ t);
      }
    ]

pub returns : goal.returns
returns c = λ t.
    let inv = c.loop-lit.invariant in
    let lits = c.args.lits.now in
    let stands = c.requires.stands in
    record {
      has_it = ap (has_literal lits) stands ∙ inv.met t;
      others_false = λ m h n.
          let r = place_of_member lits m h in
          let less = r.1 in
          let e : get_or lits r.0 m ≡ m = r.2 m in
          subst (λ (y : Literal). IsFalseBefore c.args.trail.now.entries c.args.place y) e
          (inv.others r.0 m (omega (arith, less, c.loop-lit-test.false)) (λ q. not_same _ m n (sym e ∙ q ∙ sym stands)));
    }
