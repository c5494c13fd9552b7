use Rattle.std.proofs.Common.{◌≡◌, ◌||◌, refl, subst, nat_abs, w64, rules}
use mir.Val.{SFits}
use Rattle.std.proofs.lemmas.Int.{to_z-of_z}
use Rattle.proof_trim.specs.Names.{same_name}
use Rattle.proof_trim.specs.NameSets.{has_name, name_of}
use Rattle.proof_trim.proofs.PutLaws.{hint_more, hint_done}
use Rattle.proof_trim.proofs.names.NameSet.insert_hints.Goals as goal

pub loop-place-init : goal.loop-place-init
loop-place-init c = λ name. refl

pub loop-place-preserved : goal.loop-place-preserved
loop-place-preserved c = λ name.
    let here = c.at.result in
    let fits : SFits w64 here = search rules in
    let told = subst (λ z. has_name c.insert_hint.new.self name ≡ same_name name (name_of c.args.kind (nat_abs z)) || has_name c.loop-place.self name) (to_z-of_z w64 here fits) (c.in_ok-insert_hint.ensures name) in
    hint_more c.args.kind _ name c.args.packed.now c.loop-place.place c.args.end (has_name c.loop-place.self name) (has_name c.insert_hint.new.self name) c.at.result c.loop-place-test.true c.requires.high c.at.ensures
    (c.loop-place.invariant name) told

pub returns : goal.returns
returns c = λ name.
    hint_done c.args.kind _ name c.args.packed.now c.loop-place.place c.args.end (has_name c.loop-place.self name) (has_name c.loop-place.self name) c.loop-place-test.false (c.loop-place.invariant name)
