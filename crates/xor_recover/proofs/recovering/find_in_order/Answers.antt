use Rattle.std.proofs.Common.{◌≡◌, ◌<◌, ◌≤◌, sym, ap, ◌∙◌, ◌++◌, subst, map, drop, length, List, arith}
use Rattle.std.proofs.lemmas.List.{length-map}
use Rattle.std.specs.List.{All}
use Rattle.cx_base.specs.Problem.{clauses_of}
use Rattle.xor_recover.specs.declared.entry.ClauseEntry.{ClauseEntry}
use Rattle.xor_recover.specs.Entries.{row_of}
use Rattle.xor_recover.specs.Rows.{Row, IsProper}
use Rattle.xor_recover.specs.Groups.{IsFoundAt}
use Rattle.xor_recover.proofs.Within.{all_by_contains, all_entries, formula_within}
use Rattle.xor_recover.proofs.Runs.{run_stays, run_grows, run_ends, rows_proper}
use Rattle.xor_recover.proofs.WholeRows.{wholes_each}
use Rattle.xor_recover.specs.Starts.{IsStart}
use Rattle.xor_recover.specs.Wholes.{starts_of_all}
use Rattle.cx_base.proofs.Elements.{all_append}
use Rattle.xor_recover.proofs.recovering.find_in_order.Goals as goal
use Rattle.xor_recover.proofs.recovering.find_in_order.Goals.{in-Some+in_ok-push-in-Some, in-None}

pub found_at-requires-clause-proper : goal.found_at-requires-clause-proper
found_at-requires-clause-proper c =
    let cs = c.args.formula.now.constraints in
    let items = c.fill.new.self.entries.items in
    let rows = map row_of items in
    let each = all_append (IsStart (clauses_of cs)) c.args.alike.starts.now (starts_of_all c.args.alike.wholes.now) c.requires.starts (wholes_each (clauses_of cs) c.args.alike.wholes.now c.requires.wholes) in
    subst (λ (es : List ClauseEntry). All (λ (e : ClauseEntry). IsProper (row_of e)) es) (sym c.deref.ensures.value)
    (all_entries items (all_by_contains IsProper rows (λ x cx. rows_proper (clauses_of cs) (c.args.alike.starts.now ++ starts_of_all c.args.alike.wholes.now) (formula_within _ cs c.vars-vars.ensures.within) each x (c.in_ok-fill.ensures.firsts.from x cx))))

pub loop-start-preserved : goal.loop-start-preserved
loop-start-preserved c =
    let items = c.fill.new.self.entries.items in
    let rows = map row_of items in
    let start = c.loop-start.start in
    let old = c.args.finds.now.items in
    let same : map row_of c.deref.result.now ≡ rows = ap (map row_of) c.deref.ensures.value in
    let long : length rows ≡ length items = length-map items row_of in
    let lt : start < length rows = omega arith in
    let found = subst (λ (rs : List Row). IsFoundAt (drop start rs) c.in_ok-find.field-0) same c.in_ok-find.ensures in
    elim c.match-branch-3.branch [
      | in-Some+in_ok-push-in-Some w ↦
          let f = subst (λ o. IsFoundAt (drop start rows) o) w.in-Some.is found in
          run_grows rows start old c.loop-start.finds.items _ f.0 w.in-Some.find lt f.1 f.2 (ap (λ v. v.items) w.finds-is ∙ w.in_ok-push-in-Some.ensures.items) c.loop-start.invariant
      | in-None w ↦
          let f = subst (λ o. IsFoundAt (drop start rows) o) w.in-None.is found in
          run_stays rows start old c.loop-start.finds.items _ lt f (ap (λ v. v.items) w.finds-is) c.loop-start.invariant
    ]

pub returns : goal.returns
returns c =
    let items = c.fill.new.self.entries.items in
    let rows = map row_of items in
    let long : length rows ≡ length items = length-map items row_of in
    let fewer = c.in_ok-fill.ensures.few in
    let le : length rows ≤ c.loop-start.start = omega arith in
    let few : length rows ≤ length (c.args.alike.starts.now ++ starts_of_all c.args.alike.wholes.now) = omega (arith, long, fewer) in
    run_ends (clauses_of c.args.formula.now.constraints) (c.args.alike.starts.now ++ starts_of_all c.args.alike.wholes.now) rows c.loop-start.start c.args.finds.now.items c.loop-start.finds.items c.in_ok-fill.ensures.firsts le few c.loop-start.invariant
