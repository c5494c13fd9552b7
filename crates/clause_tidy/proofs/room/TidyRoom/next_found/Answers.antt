use Rattle.std.proofs.Common.{◌≡◌, ◌-◌, ◌∙◌, ◌++◌, ◌<◌, refl, sym, ap, ℕ, get_or, vec_len, Option, Some, arith}
use Rattle.std.specs.Option.{option_to_list}
use Rattle.std.proofs.lemmas.Bool.Decides.{nat_tests}
use Rattle.clause_tidy.specs.declared.room.TidyRoom.{TidyRoom}
use Rattle.clause_tidy.proofs.Literals.{not_both}
use Rattle.clause_tidy.proofs.RoomLaws.{due_without}
use Rattle.clause_tidy.proofs.room.TidyRoom.next_found.Goals as goal

pub loop-self-preserved : goal.loop-self-preserved
loop-self-preserved c =
    let old = c.loop-self.self in
    let new : TidyRoom = record { index = old.index; look = old.look; from = old.from; passed = old.passed; queue = old.queue; place = old.place; found = c.pop.new.self } in
    let before = c.loop-self.invariant.room in
    let r = c.index-whole.result.now in
    let test = c.loop-self-test.ensures in
    let some : 0 < vec_len old.found = grind (arith, nat_tests) in
    let is_last : c.pop.result ≡ Some r = c.pop.ensures.value r some ∙ ap Some (ap (λ (n : ℕ). get_or old.found.items (n - 1) r) (sym c.len.ensures) ∙ sym c.index-whole.ensures) in
    record {
      room = record {
        indexed = before.indexed;
        first = before.first;
        from = before.from;
        marks = before.marks;
        clear = before.clear;
        place = before.place;
        due = due_without c.args.arena.now old new r before.due (λ pair. not_both c.is_pair.result (c.is_pair.ensures.1 pair) c.if-is_pair.false)
            (c.pop.ensures.items ∙ ap (λ (o : Option ℕ). c.pop.new.self.items ++ option_to_list o) is_last) refl refl refl refl refl;
      };
      looks = c.loop-self.invariant.looks;
    }
