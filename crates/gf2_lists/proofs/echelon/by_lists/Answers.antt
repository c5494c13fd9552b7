use Rattle.std.proofs.Common.{ℕ, List, ◌<◌, ◌^◌, ◌∙◌, true, sym, ap, subst, length}
use Rattle.std.proofs.lemmas.List.{with_items_is}
use Rattle.gf2_lists.specs.declared.row.ListedRow.{ListedRow}
use Rattle.gf2_lists.specs.Listed.{AreListed}
use Rattle.gf2_lists.specs.Eliminating.{AreEliminated}
use Rattle.gf2_lists.proofs.MadeLaws.{rows_listed, by_lists_are}
use Rattle.gf2_lists.specs.Echelon.{AreEchelonOf}
use Rattle.gf2_lists.proofs.echelon.by_lists.Goals as goal

pub eliminate-requires-clause-few : goal.eliminate-requires-clause-few
eliminate-requires-clause-few c = subst (λ (m : ℕ). m < 2 ^ 32) (sym (ap length c.deref_mut.ensures.value ∙ c.in_ok-rows.ensures.count)) c.requires.few

pub eliminate-requires-clause-listed : goal.eliminate-requires-clause-listed
eliminate-requires-clause-listed c =
    subst (AreListed c.args.vars) (sym c.deref_mut.ensures.value) (rows_listed c.args.vars c.args.parities.now c.in_ok-rows.rows.items c.requires.within c.in_ok-rows.ensures)

pub returns-then-done : goal.returns-then-done
returns-then-done c =
    let n = c.args.vars in
    let old = c.in_ok-rows.rows in
    let new = c.eliminate.new.rows in
    let value = c.deref_mut.ensures.value in
    let made : AreEliminated n old.items new = subst (λ (o : List ListedRow). AreEliminated n o new) value (c.in_ok-done.ensures c.if-done.true) in
    subst (AreEchelonOf n c.args.parities.now) (sym (with_items_is old new (made.same.count ∙ sym old.ok.0)))
    (by_lists_are n c.args.parities.now old.items new c.requires.few c.requires.within c.in_ok-rows.ensures made)
