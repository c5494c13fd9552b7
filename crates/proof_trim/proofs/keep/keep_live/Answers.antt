use Rattle.std.proofs.Common.{◌≡◌, refl, ◌∙◌, ap, sym, subst, ◌+◌, ◌++◌, ◌∷◌, [], Bool, List, length, drop, drop-cons, add-one, length-append, arith}
use Rattle.std.specs.List.{AllByRecursion}
use Rattle.cx_semantics.specs.Tables.{Tables, first_tables}
use Rattle.cx_base.specs.declared.steps.ProofStep.TheVariants as step
use Rattle.proof_trim.specs.Kept.{chosen}
use Rattle.proof_trim.specs.Marking.{marked}
use Rattle.proof_trim.specs.NameSets.{Has, live_in}
use Rattle.proof_trim.specs.Puts.{step_at}
use Rattle.proof_trim.specs.Stored.{FitsIn}
use Rattle.proof_trim.specs.Trimmed.{staying, trimmed}
use Rattle.proof_trim.proofs.PassLaws.{keep_more}
use Rattle.proof_trim.proofs.keep.keep_live.Goals as goal

pub loop-place-init : goal.loop-place-init
loop-place-init c =
    let first = first_tables c.args.formula.now in
    record {
      long = ap length c.new-kept.ensures.items;
      kept = (
        first,
        c.in_ok-live.ensures,
        ap (λ (bs : List Bool). chosen bs c.args.proof.now ++ staying (marked c.args.marks.now) 1 first c.args.proof.now) c.new-kept.ensures.items,
      );
      room = refl;
    }

pub keep_at-requires-clause-room : goal.keep_at-requires-clause-room
keep_at-requires-clause-room c = subst (λ room. AllByRecursion (FitsIn room) c.args.proof.now) (sym c.loop-place.invariant.room) c.requires.room

pub loop-place-preserved : goal.loop-place-preserved
loop-place-preserved c =
    let before = c.loop-place.invariant in
    let place = c.loop-place.place in
    let proof = c.args.proof.now in
    let marks = c.args.marks.now in
    let items : c.push.new.self.items ≡ c.loop-place.kept.items ++ c.in_ok-stays.stays ∷ [] = c.in_ok-push.ensures.items in
    let split = drop-cons proof place (step.DeleteParities []) (omega (arith, c.loop-place-test.true, c.len-place-end.ensures)) ∙ ap (λ k. step_at proof place ∷ drop k proof) (sym (add-one place)) in
    record {
      long = omega (arith, before.long, ap length items, length-append c.loop-place.kept.items (c.in_ok-stays.stays ∷ []));
      kept = subst (λ (bs : List Bool). (t : Tables) × Has c.keep_at.new.live (live_in t) × (chosen bs proof ++ staying (marked marks) (place + 1 + 1) t (drop (place + 1) proof) ≡ trimmed c.args.formula.now (marked marks) proof)) (sym items)
          (keep_more marks place before.kept.0 (step_at proof place) proof (drop (place + 1) proof) c.loop-place.kept.items c.in_ok-stays.stays _ c.loop-place.live c.keep_at.new.live before.long split
          before.kept.1 before.kept.2 c.in_ok-stays.ensures.kept);
      room = c.in_ok-stays.ensures.room ∙ before.room;
    }
