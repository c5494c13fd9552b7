use Rattle.std.proofs.Common.{◌≡◌, ◌∙◌, sym, ap, subst, ℕ, Bool, List, [], length, is_some, inr, rules}
use Rattle.proof_rules.specs.Kinds.{ListsLive}
use Rattle.rup_finder.specs.Saturation.{HasPassed, Passes}
use Rattle.rup_finder.specs.declared.search.PartialChain.{PartialChain}
use Rattle.rup_finder.proofs.Propagation.{come_first, saturated_by, seen_on, has_no_chain}
use Rattle.rup_finder.proofs.search.find.Goals as goal

pub loop-later-init : goal.loop-later-init
loop-later-init c =
    let table = c.args.live.now.clauses in
    let lists = subst (λ (ids : List ℕ). ListsLive table ids) (sym c.into_vec-waiting.ensures) c.in_ok-clause_ids.ensures in
    record {
      come = come_first table c.args.target.now c.in_ok-reached.reached c.in_ok-reached.ensures;
      seen = λ n clause e. inr (lists n ∙ ap is_some e);
    }

pub returns-then-len : goal.returns-then-len
returns-then-len c =
    let table = c.args.live.now.clauses in
    let ids : List ℕ = c.loop-later.waiting.items in
    let later : List ℕ = c.pass.new.later.items in
    let old : PartialChain = c.loop-later.reached in
    let new : PartialChain = c.pass.new.reached in
    let P : Bool → Type 0 = λ t. Passes table c.deref.result.now old new later t in
    let passed = subst (λ (ks : List ℕ). HasPassed table ks [] (length ks) old new later) c.deref.ensures.value (subst P c.if-branch.false c.in_ok-pass.ensures) in
    let all : length later ≡ length ids = search rules in
    has_no_chain table c.args.target.now new (passed.advances.come c.args.target.now c.loop-later.invariant.come) (saturated_by table ids later old new c.loop-later.invariant.seen passed all)

pub loop-later-preserved : goal.loop-later-preserved
loop-later-preserved c =
    let table = c.args.live.now.clauses in
    let ids : List ℕ = c.loop-later.waiting.items in
    let later : List ℕ = c.pass.new.later.items in
    let old : PartialChain = c.loop-later.reached in
    let new : PartialChain = c.pass.new.reached in
    let P : Bool → Type 0 = λ t. Passes table c.deref.result.now old new later t in
    let passed = subst (λ (ks : List ℕ). HasPassed table ks [] (length ks) old new later) c.deref.ensures.value (subst P c.if-branch.false c.in_ok-pass.ensures) in
    record {
      come = passed.advances.come c.args.target.now c.loop-later.invariant.come;
      seen = seen_on table ids later old new c.loop-later.invariant.seen passed;
    }
