use Rattle.std.proofs.Common.{◌≡◌, sym, ap, ◌∙◌, subst, length, ◌≤◌, ◌<◌, arith}
use Rattle.std.specs.List.{list_any}
use Rattle.std.specs.FinSet as set
use Rattle.cx_base.specs.Parity.{NormalForm, normal_form}
use Rattle.cx_semantics.proofs.RecoveredLaws.{len-distinct}
use Rattle.proof_rules.specs.Assignments.{Lists}
use Rattle.proof_rules.specs.Exclusions.{is_outside, all_excluded, Excludes}
use Rattle.cx_semantics.specs.Tables.{named}
use Rattle.proof_rules.proofs.ClausesParity.{too_wide_fails, outside_fails, refused_fails, implied_holds}
use Rattle.proof_rules.proofs.clauses_parity.judge_target.Goals as goal

pub returns-then-len-gt-WIDEST : goal.returns-then-len-gt-WIDEST
returns-then-len-gt-WIDEST c =
    let target = c.args.target.now in
    let xs = c.variables.new.list.items in
    let P : NormalForm → Type 0 = λ p. Lists p.variables xs in
    let lists = subst P c.in_ok-set_to.ensures c.in_ok-variables.ensures in
    let long : set.len (normal_form target).variables ≡ length xs = sym (ap set.len lists.same) ∙ len-distinct xs lists.once in
    let wide : 12 < set.len (normal_form target).variables = omega (arith, long) in
    too_wide_fails target (named c.args.live.now.clauses c.args.ids.now) wide

pub returns-then-any_outside : goal.returns-then-any_outside
returns-then-any_outside c =
    let target = c.args.target.now in
    let clauses = named c.args.live.now.clauses c.args.ids.now in
    let form = c.in_ok-set_to.ensures in
    let xs = c.variables.new.list.items in
    let P : NormalForm → Type 0 = λ p. Lists p.variables xs in
    let lists = subst P form c.in_ok-variables.ensures in
    let long : set.len (normal_form target).variables ≡ length xs = sym (ap set.len lists.same) ∙ len-distinct xs lists.once in
    let narrow : set.len (normal_form target).variables ≤ 12 = omega (arith, long) in
    outside_fails target clauses narrow (ap (λ p. list_any (is_outside p.variables) clauses) (sym form) ∙ sym c.any_outside.ensures ∙ c.if-any_outside.true)

pub exclude_all-requires : goal.exclude_all-requires
exclude_all-requires c = omega (arith, ap length c.deref.ensures.value)

pub returns-then-all_excluded : goal.returns-then-all_excluded
returns-then-all_excluded c =
    let target = c.args.target.now in
    let clauses = named c.args.live.now.clauses c.args.ids.now in
    let form = c.in_ok-set_to.ensures in
    let xs = c.variables.new.list.items in
    let table = c.exclude_all.new.table.items in
    let P : NormalForm → Type 0 = λ p. Lists p.variables xs in
    let lists = subst P form c.in_ok-variables.ensures in
    let long : set.len (normal_form target).variables ≡ length xs = sym (ap set.len lists.same) ∙ len-distinct xs lists.once in
    let narrow : set.len (normal_form target).variables ≤ 12 = omega (arith, long) in
    implied_holds target clauses xs table lists (subst (λ ys. Excludes ys clauses table) c.deref.ensures.value c.in_ok-exclude_all.ensures) narrow
    (ap (λ p. list_any (is_outside p.variables) clauses) (sym form) ∙ sym c.any_outside.ensures ∙ c.if-any_outside.false)
    ((λ i. all_excluded (sym c.deref-3.ensures.value i) 0 1 ((ap (λ p. p.right_side) (sym form) ∙ sym c.right_side.ensures) i) (sym c.deref-2.ensures.value i)) ∙ sym c.all_excluded.ensures ∙ c.if-all_excluded.true)

pub returns-else-all_excluded : goal.returns-else-all_excluded
returns-else-all_excluded c =
    let target = c.args.target.now in
    let clauses = named c.args.live.now.clauses c.args.ids.now in
    let form = c.in_ok-set_to.ensures in
    let xs = c.variables.new.list.items in
    let table = c.exclude_all.new.table.items in
    let P : NormalForm → Type 0 = λ p. Lists p.variables xs in
    let lists = subst P form c.in_ok-variables.ensures in
    let long : set.len (normal_form target).variables ≡ length xs = sym (ap set.len lists.same) ∙ len-distinct xs lists.once in
    let narrow : set.len (normal_form target).variables ≤ 12 = omega (arith, long) in
    refused_fails target clauses xs table lists (subst (λ ys. Excludes ys clauses table) c.deref.ensures.value c.in_ok-exclude_all.ensures) narrow
    (ap (λ p. list_any (is_outside p.variables) clauses) (sym form) ∙ sym c.any_outside.ensures ∙ c.if-any_outside.false)
    ((λ i. all_excluded (sym c.deref-3.ensures.value i) 0 1 ((ap (λ p. p.right_side) (sym form) ∙ sym c.right_side.ensures) i) (sym c.deref-2.ensures.value i)) ∙ sym c.all_excluded.ensures ∙ c.if-all_excluded.false)
