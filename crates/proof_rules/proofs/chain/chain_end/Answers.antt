use Rattle.std.proofs.Common.{◌≡◌, sym, ap, ◌∙◌, ◌+◌, subst, true, drop, get_or, nat_abs, pos, w64, rules, Some}
use Rattle.std.proofs.lemmas.List.{drop_more, drop_all}
use Rattle.std.proofs.lemmas.Int.{to_z-of_z}
use mir.Val.{SFits}
use Rattle.cx_semantics.specs.Chain.{chain}
use Rattle.cx_semantics.specs.Tables.{get}
use Rattle.proof_rules.specs.declared.chain.End.TheVariants.{HintsEnd}
use Rattle.proof_rules.specs.Ends.{left_seen, EndsAs}
use Rattle.proof_rules.specs.Kinds.{hinted, names_live, all_named}
use Rattle.proof_rules.proofs.ChainSteps.{ends_on}
use Rattle.proof_rules.proofs.chain.chain_end.Goals as goal

pub loop-place-preserved : goal.loop-place-preserved
loop-place-preserved c end h =
    let table = c.args.live.now.clauses in
    let hints = c.args.hints.now in
    let place = c.loop-place.place in
    let here = get_or hints place (pos 0) in
    let fits : SFits w64 here = search rules in
    let clause = c.in-Some.clause.now in
    let found = subst (λ z. (names_live table z ≡ true) × (get table (nat_abs z) ≡ Some clause)) (to_z-of_z w64 here fits) c.in-Some.ensures in
    let behind = ends_on table c.loop-place.assumed c.insert.new.self clause c.in-One.lit here (drop (place + 1) hints) found.0 found.1 (sym (ap left_seen c.in-One.is) ∙ c.left_of.ensures) c.in_ok-insert-in-One.ensures.ok end h in
    c.loop-place.invariant end (subst (λ zs. EndsAs table c.loop-place.assumed zs end) (sym (drop_more hints place (pos 0) c.loop-place-test.true)) behind)

pub returns : goal.returns
returns c =
    let table = c.args.live.now.clauses in
    let gone = drop_all c.loop-place.place c.args.hints.now c.loop-place-test.false in
    c.loop-place.invariant (Some HintsEnd) (ap (all_named table) gone, sym (ap (λ zs. chain c.loop-place.assumed (hinted table zs)) gone))
