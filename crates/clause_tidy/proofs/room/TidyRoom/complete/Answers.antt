use Rattle.std.proofs.Common.{◌*◌, ◌∙◌, refl, ap, sym, ℕ, arith}
use Rattle.clause_tidy.specs.declared.room.TidyRoom.{TidyRoom}
use Rattle.clause_tidy.proofs.RoomLaws.{on_oks, still_due}
use Rattle.clause_tidy.proofs.room.TidyRoom.complete.Goals as goal

pub complete-requires-clause-within : goal.complete-requires-clause-within
complete-requires-clause-within c = let first = c.requires.first in let from = c.requires.from in omega (arith, first, from)

pub returns-clause-room : goal.returns-clause-room
returns-clause-room c =
    let a = c.args.arena.now in
    let old = c.args.self.now in
    let new : TidyRoom = record { index = c.complete.new.self; look = old.look; from = old.from; passed = old.passed; queue = old.queue; place = old.place; found = old.found } in
    let before = c.requires in
    on_oks c.complete.result _ _ _ _
    (λ indexed lists first. record {
      indexed = indexed;
      first = omega (arith, first);
      from = before.from;
      marks = before.marks ∙ ap (λ (n : ℕ). 2 * n) (sym lists);
      clear = before.clear;
      place = before.place;
      due = still_due a old new refl refl refl refl refl refl before.due;
    })
    c.complete.ensures.indexed c.complete.ensures.lists c.complete.ensures.first
