use Rattle.std.proofs.Common.{◌≡◌, sym, ap, ◌∙◌, subst, ◌+◌, ◌^◌, ◌<◌, ◌||◌, Bool, false, List, drop, length, get_or, arith}
use Rattle.std.proofs.lemmas.List.{drop_more, get_or-replicate, length-replicate, with_items_is}
use Rattle.cx_semantics.specs.Tables.{named}
use Rattle.proof_rules.specs.Exclusions.{HasPlaces, excluded}
use Rattle.proof_rules.proofs.ExclusionLaws.{length-excluded}
use Rattle.proof_rules.proofs.ClausesParity.{reach_of_power, marks, marks-hint, marks-no_hint, one_more}
use Rattle.proof_rules.proofs.clauses_parity.exclude_all.Goals.{in-Some+in_ok-set_to, in_default}
use Rattle.proof_rules.proofs.clauses_parity.exclude_all.Goals as goal

pub loop-id-init : goal.loop-id-init
loop-id-init c =
    let xs = c.args.variables.now in
    let items = c.in_ok-clear_table.ensures in
    let long : length c.clear_table.new.table.items ≡ 2 ^ length xs = ap length items ∙ length-replicate (2 ^ length xs) false in
    record {
      reach = reach_of_power xs (length c.clear_table.new.table.items) long;
      marked = λ j h.
          let k : j < 2 ^ length xs = omega arith in
          ap (λ b. b || marks xs j (named c.args.live.now.clauses c.args.ids.now)) (ap (λ t. get_or t j false) items ∙ get_or-replicate (2 ^ length xs) j false false k);
    }

pub loop-id-preserved : goal.loop-id-preserved
loop-id-preserved c =
    let xs = c.args.variables.now in
    let ids = c.args.ids.now in
    let here = get_or ids c.loop-id.id-index 0 in
    let rest = drop (c.loop-id.id-index + 1) ids in
    let clauses = c.args.live.now.clauses in
    let old = c.loop-id.table.items in
    let next = sym (drop_more ids c.loop-id.id-index 0 c.loop-id-test.true) in
    elim c.match-clause.branch [
      | in-Some+in_ok-set_to w ↦
          let new = w.exclude.new.table in
          let marked = w.exclude.ensures ∙ ap (excluded w.set_to.new.self xs 0 1) w.deref_mut.ensures.value in
          let same : length new ≡ length old = ap length marked ∙ length-excluded w.set_to.new.self xs 0 1 old in
          let items : ◌≡◌ {A = List Bool} c.match-clause.table.items new = ap (λ t. t.items) w.table-is ∙ with_items_is c.loop-id.table new (same ∙ sym c.loop-id.table.ok.0) in
          let long : length c.match-clause.table.items ≡ length old = ap length items ∙ same in
          record {
            reach = subst (HasPlaces xs 1) (sym long) c.loop-id.invariant.reach;
            marked = λ j h.
                let k : j < length old = omega arith in
                ap (λ t. get_or t j false || marks xs j (named clauses rest)) items
                ∙ one_more w.set_to.new.self w.in-Some.clause.now w.in_ok-set_to.ensures.same xs j old new (marks xs j (named clauses rest)) marked k
                ∙ ap (λ b. get_or old j false || b) (marks-hint xs j clauses here rest w.in-Some.clause.now w.in-Some.ensures)
                ∙ ap (λ zs. get_or old j false || marks xs j (named clauses zs)) next ∙ c.loop-id.invariant.marked j k;
          }
      | in_default w ↦
          let items : ◌≡◌ {A = List Bool} c.match-clause.table.items old = ap (λ t. t.items) w.table-is in
          record {
            reach = subst (HasPlaces xs 1) (sym (ap length items)) c.loop-id.invariant.reach;
            marked = λ j h.
                let k : j < length old = omega (arith, ap length items) in
                ap (λ t. get_or t j false || marks xs j (named clauses rest)) items
                ∙ ap (λ b. get_or old j false || b) (marks-no_hint xs j clauses here rest w.in_default.ensures)
                ∙ ap (λ zs. get_or old j false || marks xs j (named clauses zs)) next ∙ c.loop-id.invariant.marked j k;
          }
    ]
