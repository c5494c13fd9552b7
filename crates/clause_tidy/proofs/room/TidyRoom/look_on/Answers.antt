use Rattle.std.proofs.Common.{◌≡◌, ◌+◌, ◌≤◌, refl, sym, ap, length, arith}
use Rattle.std.specs.List.{HoldsAt}
use Rattle.std.proofs.lemmas.List.{get_or_read}
use Rattle.clause_tidy.specs.declared.room.Queued.{Queued}
use Rattle.clause_tidy.specs.declared.room.TidyRoom.{TidyRoom}
use Rattle.clause_tidy.proofs.Literals.{not_both}
use Rattle.clause_tidy.proofs.RoomLaws.{due_after_dead, due_after_look, on_oks}
use Rattle.clause_tidy.proofs.room.TidyRoom.look_on.Goals as goal

pub returns-then-not-is_live-clause-room : goal.returns-then-not-is_live-clause-room
returns-then-not-is_live-clause-room c =
    let a = c.args.arena.now in
    let old = c.args.self.now in
    let new : TidyRoom = record { index = old.index; look = old.look; from = old.from; passed = old.passed; queue = old.queue; place = old.place + 1; found = old.found } in
    let before = c.requires.room in
    let more = c.requires.more in
    let item = c.index.result.now in
    let at : HoldsAt (λ x. x.clause ≡ item.clause) old.queue.items old.place = λ d. ap (λ (x : Queued). x.clause) (sym (get_or_read old.queue.items old.place item more c.index.ensures d)) in
    record {
      indexed = before.indexed;
      first = before.first;
      from = before.from;
      marks = before.marks;
      clear = before.clear;
      place = omega (arith, more);
      due = due_after_dead a old new item.clause before c.requires.none at refl refl refl refl (λ live. not_both c.is_live.result (c.is_live.ensures.1 live) c.if-not-is_live.true);
    }

pub look-requires-clause-blank : goal.look-requires-clause-blank
look-requires-clause-blank c = record { clear = c.requires.room.clear; room = c.requires.room.marks }

pub returns-clause-room : goal.returns-clause-room
returns-clause-room c =
    let a = c.args.arena.now in
    let old = c.args.self.now in
    let new : TidyRoom = record { index = old.index; look = c.look.new.self; from = old.from; passed = old.passed; queue = old.queue; place = old.place + 1; found = c.look.new.found } in
    let before = c.requires.room in
    let more = c.requires.more in
    let item = c.index.result.now in
    let at : HoldsAt (λ x. x.clause ≡ item.clause) old.queue.items old.place = λ d. ap (λ (x : Queued). x.clause) (sym (get_or_read old.queue.items old.place item more c.index.ensures d)) in
    on_oks c.look.result _ _ _ _
    (λ has part blank. record {
      indexed = before.indexed;
      first = before.first;
      from = before.from;
      marks = blank.room;
      clear = blank.clear;
      place = let after : old.place + 1 ≤ length old.queue.items = omega (arith, more) in after;
      due = due_after_look a old new item.clause before c.requires.none at refl refl refl refl part c.requires.all has;
    })
    c.look.ensures.found c.look.ensures.part c.look.ensures.blank
