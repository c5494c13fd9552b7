use Rattle.std.proofs.Common.{◌+◌, ◌∙◌, sym, subst, refl, arith}
use Rattle.clause_tidy.specs.Indexes.{IsIndexed}
use Rattle.clause_tidy.proofs.RoomLaws.{nothing_indexed, all_wait_more}
use Rattle.clause_tidy.proofs.room.TidyRoom.fill.Goals as goal

pub loop-place-init : goal.loop-place-init
loop-place-init c = record {
  indexed = let index = c.args.self.now.index in nothing_indexed c.args.arena.now index.first index.lists index.chosen.items index.signatures.items c.requires.none;
  lists = refl;
  waits = λ p low past live. absurd (omega (arith, low));
  keeps = record { look = refl; first = refl; from = refl; passed = refl; place = refl; found = refl };
}

pub enter-requires-clause-indexed : goal.enter-requires-clause-indexed
enter-requires-clause-indexed c = let index = c.loop-place.self.index in subst (λ n. IsIndexed c.args.arena.now index.first n index.lists index.chosen.items index.signatures.items) (sym c.new.ensures) c.loop-place.invariant.indexed

pub enter-requires-clause-known : goal.enter-requires-clause-known
enter-requires-clause-known c = λ live k d low. let known = c.requires.known c.new.result live k d low in let same = c.loop-place.invariant.lists in omega (arith, known, same)

pub loop-place-preserved : goal.loop-place-preserved
loop-place-preserved c =
    let before = c.loop-place.invariant in
    let index = c.enter.new.self.index in
    let entered = c.in_ok-enter.ensures in
    let keeps = c.enter.ensures.keeps in
    let same = before.keeps.from in
    record {
      indexed = subst (λ n. IsIndexed c.args.arena.now index.first (n + 1) index.lists index.chosen.items index.signatures.items) c.new.ensures entered.indexed;
      lists = entered.lists ∙ before.lists;
      waits = all_wait_more c.args.arena.now c.loop-place.self.queue.items c.enter.new.self.queue.items c.args.self.now.from c.loop-place.place c.new.result c.new.ensures entered.kept
          (λ place past live low. entered.waits place (omega (arith, past, same)) live low) before.waits;
      keeps = record {
        look = keeps.look ∙ before.keeps.look;
        first = keeps.first ∙ before.keeps.first;
        from = keeps.from ∙ same;
        passed = keeps.passed ∙ before.keeps.passed;
        place = keeps.place ∙ before.keeps.place;
        found = keeps.found ∙ before.keeps.found;
      };
    }
