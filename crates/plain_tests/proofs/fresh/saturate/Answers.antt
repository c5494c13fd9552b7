use Rattle.std.proofs.Common.{◌≡◌, ◌∙◌, sym, ap, subst, ℕ, List, get_or, is_some, Some, None, inr, rules}
use Rattle.cx_semantics.specs.Chain.{left, one, count_left, negations}
use Rattle.cx_semantics.specs.Tables.{get}
use Rattle.proof_rules.specs.Kinds.{ListsLive}
use Rattle.plain_tests.specs.Propagating.{AllWait, as_left}
use Rattle.plain_tests.proofs.Saturating.{IsSeen, clash, follow_on, first_follow, first_inside, inside_on, seen_on, closed_now}
use Rattle.plain_tests.proofs.fresh.saturate.Goals as goal

pub loop-ready-init : goal.loop-ready-init
loop-ready-init c =
    let table = c.args.live.now.clauses in
    let given = negations c.args.lits.now in
    let known = c.set_to_negations.new.self in
    let same = c.in_ok-set_to_negations.ensures.ok in
    let lists = subst (λ (ids : List ℕ). ListsLive table ids) (sym c.into_vec-waiting.ensures) c.in_ok-clause_ids.ensures in
    record {
      follow = first_follow table given known same;
      has_given = first_inside given known same;
      seen = λ n clause e. inr (lists n ∙ ap is_some e);
    }

pub returns-in_default-left : goal.returns-in_default-left
returns-in_default-left c =
    let table = c.args.live.now.clauses in
    let ids : List ℕ = c.deref.result.now in
    let ready = c.in-Some.ensures in
    let nothing : c.in-Some.ready.left ≡ None = search rules in
    clash table (negations c.args.lits.now) c.loop-ready.known (get_or ids c.in-Some.ready.place 0) ready.clause c.loop-ready.invariant.follow ready.live (ready.is_left ∙ ap as_left nothing)

pub loop-ready-preserved : goal.loop-ready-preserved
loop-ready-preserved c =
    let table = c.args.live.now.clauses in
    let given = negations c.args.lits.now in
    let old = c.loop-ready.known in
    let new = c.insert.new.self in
    let lit = c.in-Some-left.lit in
    let ready = c.in-Some.ensures in
    let place = c.in-Some.ready.place in
    let clause = ready.clause in
    let waiting : List ℕ = c.loop-ready.waiting.items in
    let same = c.in_ok-insert.ensures.ok in
    let some : c.in-Some.ready.left ≡ Some lit = search rules in
    let left_is : count_left (left old clause) ≡ one lit = ready.is_left ∙ ap as_left some in
    let live : get table (get_or waiting place 0) ≡ Some clause = subst (λ (ids : List ℕ). get table (get_or ids place 0) ≡ Some clause) c.deref.ensures.value ready.live in
    record {
      follow = follow_on table given old new (get_or waiting place 0) clause lit c.loop-ready.invariant.follow live left_is same;
      has_given = inside_on given old new lit same c.loop-ready.invariant.has_given;
      seen = subst (λ (ids : List ℕ). IsSeen table new ids) (sym c.remove.ensures.items) (seen_on table old new lit waiting place clause same live left_is c.loop-ready.invariant.seen);
    }

pub returns : goal.returns
returns c =
    let table = c.args.live.now.clauses in
    let known = c.loop-ready.known in
    let waiting : List ℕ = c.loop-ready.waiting.items in
    let wait = subst (λ (ids : List ℕ). AllWait table known ids) c.deref.ensures.value c.in_default.ensures in
    record {
      closed = closed_now table known waiting c.loop-ready.invariant.seen wait;
      has_given = c.loop-ready.invariant.has_given;
      least = c.loop-ready.invariant.follow;
    }
