use Rattle.std.proofs.Common.{◌∙◌, length, sym, ap, subst, refl, arith}
use Rattle.cx_base.specs.Literals.{Literal}
use Rattle.cx_semantics.specs.Chain.{has_literal}
use Rattle.cx_semantics.proofs.Members.{has_by_index}
use Rattle.cx_trail.specs.Sequence.{IsFalseBefore, entry_at}
use Rattle.clause_tests.proofs.Members.{place_of_member, one_more}
use Rattle.clause_tests.proofs.source.is_conflict.Goals.{then-level_of-level+then-level-gt0, else-level_of-level}
use Rattle.clause_tests.proofs.source.is_conflict.Goals as goal

pub loop-lit-preserved : goal.loop-lit-preserved
loop-lit-preserved c =
    let i = c.loop-lit.lit-index in
    let inv = c.loop-lit.invariant in
    let lits = c.args.lits.now in
    let t = c.args.trail.now in
    let x = c.lit-item.result in
    let inside = c.loop-lit-test.true in
    let P : Literal → Type 0 = λ y. IsFalseBefore t.entries (length t.entries) y in
    let here : IsFalseBefore t.entries (length t.entries) x = subst (λ n. IsFalseBefore t.entries n x) c.len.ensures.len (c.if-not-is_false_before.ensures refl) in
    record {
      all = one_more P lits i x c.lit-item.is inside here inv.all;
      met = λ f. elim c.if-level_of-level.branch [
        | then-level_of-level+then-level-gt0 w ↦ (
          x,
          ap (has_literal lits) c.lit-item.is ∙ has_by_index lits i x inside,
          λ p h e. sym (c.level_of.ensures (entry_at t.entries p) (p, h, refl, ap (λ (y : Literal). y.variable) e ∙ sym c.var.ensures)) ∙ w.if-level_of-level.true ∙ c.level.ensures.level,
          omega (arith, w.if-level-gt0.true, w.level-then-level_of-level.ensures.level),
        )
        | else-level_of-level w ↦ inv.met (sym w.found-is ∙ f)
      ];
    }

pub returns : goal.returns
returns c =
    let inv = c.loop-lit.invariant in
    let lits = c.args.lits.now in
    record {
      conflict = λ f.
          let m = inv.met f in
          record {
            above = m.3;
            all_false = λ y h.
                let r = place_of_member lits y h in
                let less = r.1 in
                let w = subst (λ (z : Literal). IsFalseBefore c.args.trail.now.entries (length c.args.trail.now.entries) z) (r.2 y) (inv.all r.0 y (omega (arith, less, c.loop-lit-test.false))) in
                (w.0, (w.1, w.2));
            one_now = (m.0, m.1, m.2);
          };
    }
