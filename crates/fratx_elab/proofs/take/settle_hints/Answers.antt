use Rattle.std.proofs.Common.{◌∙◌, ap, sym, subst, ℤ, List, None, Some, take}
use Rattle.cx_base.specs.Integers.{sizes}
use Rattle.cx_semantics.specs.Chain.{IsChain}
use Rattle.cx_semantics.specs.LogRules.{AreLive}
use Rattle.cx_semantics.specs.Tables.{Tables, named}
use Rattle.fratx_elab.specs.Names.{AreNamed, hints_for}
use Rattle.rup_finder.specs.Front.{NoneNegative}
use Rattle.fratx_elab.proofs.NameLaws.{named_as_live}
use Rattle.fratx_elab.proofs.Settling.{is_none, length_of}
use Rattle.fratx_elab.proofs.take.settle_hints.Goals as goal

pub rename-requires-clause-named : goal.rename-requires-clause-named
rename-requires-clause-named c =
    let given : List ℤ = c.args.hints.now in
    let front = length_of c.args.live.now.clauses c.args.target.now _ given _ (Some c.in-Some.count) _ c.as_slice.ensures c.as_slice-2.ensures.elements c.in-Some.is c.in_ok-count.ensures.length in
    subst (λ (zs : List ℤ). AreNamed c.args.names.now (sizes zs)) (sym c.shorten.ensures) (named_as_live c.args.live.now.clauses c.args.names.now c.requires.keyed (sizes (take c.in-Some.count given)) front.0.live)

pub rename-requires-clause-plain : goal.rename-requires-clause-plain
rename-requires-clause-plain c =
    let front = length_of c.args.live.now.clauses c.args.target.now _ c.args.hints.now _ (Some c.in-Some.count) _ c.as_slice.ensures c.as_slice-2.ensures.elements c.in-Some.is c.in_ok-count.ensures.length in
    subst NoneNegative (sym c.shorten.ensures) front.0.plain

pub returns-in-Some-clause-chain : goal.returns-in-Some-clause-chain
returns-in-Some-clause-chain c =
    let given : List ℤ = c.args.hints.now in
    let front = length_of c.args.live.now.clauses c.args.target.now _ given _ (Some c.in-Some.count) _ c.as_slice.ensures c.as_slice-2.ensures.elements c.in-Some.is c.in_ok-count.ensures.length in
    (sizes (take c.in-Some.count given), front.0.live, front.0.chain, c.rename.ensures ∙ ap (λ (zs : List ℤ). hints_for c.args.names.now (sizes zs)) c.shorten.ensures)

pub returns-in-Some-clause-kept : goal.returns-in-Some-clause-kept
returns-in-Some-clause-kept c = λ k other.
    let front = length_of c.args.live.now.clauses c.args.target.now _ c.args.hints.now _ (Some c.in-Some.count) _ c.as_slice.ensures c.as_slice-2.ensures.elements c.in-Some.is c.in_ok-count.ensures.length in
    (c.in-Some.count, front, c.rename.ensures ∙ ap (λ (zs : List ℤ). hints_for c.args.names.now (sizes zs)) c.shorten.ensures)

pub returns-clause-chain : goal.returns-clause-chain
returns-clause-chain c =
    let ids = c.in_ok-ids.ids in
    let chain = subst (λ (tables : Tables). AreLive tables.clauses ids × IsChain c.args.target.now (named tables.clauses ids)) c.in_ok-count.ensures.same c.in_ok-ids.ensures.chain in
    (ids, chain.0, chain.1, c.in_ok-hints.ensures ∙ ap (hints_for c.args.names.now) c.as_slice-4.ensures)

pub returns-clause-kept : goal.returns-clause-kept
returns-clause-kept c =
    let none = length_of c.args.live.now.clauses c.args.target.now _ c.args.hints.now _ None _ c.as_slice.ensures c.as_slice-2.ensures.elements (is_none c.in_ok-count.field-0 c.in_default.not-Some) c.in_ok-count.ensures.length in
    λ k front. absurd (none k front)
