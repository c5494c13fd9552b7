use Rattle.std.proofs.Common.{sym, ap, ◌∙◌, subst, pos, [], ◌∷◌, ◌++◌, IfSome}
use Rattle.std.proofs.lemmas.List.{map-append, take_all}
use Rattle.std.specs.List.{Contains}
use Rattle.cx_base.specs.Numbers.{AreStepIntegers}
use Rattle.cx_base.proofs.Elements.{all_push}
use Rattle.cdcl_search.specs.Units.{HaveUnitsAgainst}
use Rattle.cdcl_search.proofs.LowIds.{is_one}
use Rattle.cdcl_search.proofs.UnitHints.{against_one_more, against_none_more}
use Rattle.cdcl_search.proofs.chains.hints_of.Goals as goal
use Rattle.cdcl_search.proofs.chains.hints_of.Goals.{in-Some+in_ok-push_hint, in_default}

pub loop-lit-preserved : goal.loop-lit-preserved
loop-lit-preserved c =
    let old = c.loop-lit.invariant in
    let state = c.args.state.now in
    let held_ids = state.units.items in
    let i = c.loop-lit.lit-index in
    let finds = c.id_against.ensures.finds in
    elim c.match-id_against.branch [
      | in-Some+in_ok-push_hint w ↦
          let held : Contains held_ids w.in-Some.unit = subst (λ o. IfSome o (Contains held_ids)) w.in-Some.is c.id_against.ensures.held in
          let grown = ap (λ v. v.items) w.hints-is ∙ w.in_ok-push_hint.ensures.pushed ∙ ap (λ xs. xs ++ pos w.in-Some.unit ∷ []) old.1.3 ∙ sym (map-append pos old.1.0 (w.in-Some.unit ∷ [])) in (
            subst (λ v. AreStepIntegers v.items) (sym w.hints-is) w.in_ok-push_hint.ensures.integers,
            (
              old.1.0 ++ w.in-Some.unit ∷ [],
              all_push (Contains held_ids) old.1.0 w.in-Some.unit old.1.1 held,
              against_one_more state c.args.lits.now i c.lit-item.result c.loop-lit-test.true c.lit-item.is c.id_against.result finds old.1.0 w.in-Some.unit w.in-Some.is old.1.2,
              grown,
            ),
          )
      | in_default w ↦ (
        subst (λ v. AreStepIntegers v.items) (sym w.hints-is) old.0,
        (old.1.0, old.1.1, against_none_more state c.args.lits.now i c.lit-item.result c.loop-lit-test.true c.lit-item.is c.id_against.result finds old.1.0 w.in_default.is old.1.2, ap (λ v. v.items) w.hints-is ∙ old.1.3),
      )
    ]

pub push_hint-requires-clause-id : goal.push_hint-requires-clause-id
push_hint-requires-clause-id c =
    let held_ids = c.args.state.now.units.items in
    is_one held_ids c.in-Some.unit c.requires.ids (subst (λ o. IfSome o (Contains held_ids)) c.in-Some.is c.id_against.ensures.held)

pub returns : goal.returns
returns c =
    let so = c.loop-lit.invariant in
    record {
      units = so.1.0;
      held = so.1.1;
      against = subst (λ ls. HaveUnitsAgainst c.args.state.now ls so.1.0) (take_all c.loop-lit.lit-index c.args.lits.now c.loop-lit-test.false) so.1.2;
      spelled = c.from_vec.ensures ∙ c.in_ok-push_hint-2.ensures.pushed ∙ ap (λ xs. xs ++ pos c.args.id ∷ []) so.1.3 ∙ sym (map-append pos so.1.0 (c.args.id ∷ []));
    }
