use Rattle.std.proofs.Common.{◌≡◌, ◌∙◌, arith}
use Rattle.cdcl_search.proofs.UnitHints.{one_place, nowhere_by, read_there}
use Rattle.cdcl_search.proofs.chains.id_against.Goals as goal

pub returns-in-False-clause-finds : goal.returns-in-False-clause-finds
returns-in-False-clause-finds c = λ i low stands.
    let state = c.args.state.now in
    let one : i ≡ c.place_of.result = one_place state.trail c.truth.ensures.sound c.args.lit c.place_of.result c.place_of.ensures.within c.place_of.ensures.negated i stands in
    c.copied.ensures ∙ read_there c.deref.result.now state.units.items c.place_of.result i _ c.deref.ensures.value one low (c.get.ensures.lookup.4 (omega arith))

pub returns-in_default : goal.returns-in_default
returns-in_default c = record {
  held = tt;
  finds = λ i low stands. absurd (nowhere_by c.args.state.now.trail c.truth.ensures.sound c.args.lit c.truth.result c.in_default.not-False c.truth.ensures.means i stands);
}
