use Rattle.std.proofs.Common.{◌≤◌, ◌+◌, refl, ◌∙◌, subst, ℕ}
use Rattle.clause_tidy.specs.declared.room.TidyRoom.{TidyRoom}
use Rattle.clause_arena.specs.Clauses.{IsLive}
use Rattle.clause_tidy.specs.Indexes.{HasNoWholeFrom}
use Rattle.clause_tidy.specs.Looks.{HasWholesOf}
use Rattle.clause_tidy.proofs.RoomLaws.{due_past_none, due_past_look, on_oks}
use Rattle.clause_tidy.proofs.room.TidyRoom.look_at_old.Goals as goal

pub returns-then-not-may_be_part-clause-room : goal.returns-then-not-may_be_part-clause-room
returns-then-not-may_be_part-clause-room c =
    let a = c.args.arena.now in
    let old = c.args.self.now in
    let new : TidyRoom = record { index = old.index; look = old.look; from = old.from; passed = old.passed + 1; queue = old.queue; place = old.place; found = old.found } in
    let before = c.requires.room in
    record {
      indexed = before.indexed;
      first = before.first;
      from = before.from;
      marks = before.marks;
      clear = before.clear;
      place = before.place;
      due = due_past_none a old new before c.requires.none refl refl refl refl (subst (λ (p : ℕ). IsLive a p → HasNoWholeFrom a p old.index.first) c.new-part.ensures c.if-not-may_be_part.ensures);
    }

pub look-requires-clause-blank : goal.look-requires-clause-blank
look-requires-clause-blank c = record { clear = c.requires.room.clear; room = c.requires.room.marks }

pub returns-clause-room : goal.returns-clause-room
returns-clause-room c =
    let a = c.args.arena.now in
    let old = c.args.self.now in
    let new : TidyRoom = record { index = old.index; look = c.look.new.self; from = old.from; passed = old.passed + 1; queue = old.queue; place = old.place; found = c.look.new.found } in
    let before = c.requires.room in
    let is = c.new-part.ensures in
    on_oks c.look.result _ _ _ _
    (λ has part blank. record {
      indexed = before.indexed;
      first = before.first;
      from = before.from;
      marks = blank.room;
      clear = blank.clear;
      place = before.place;
      due = due_past_look a old new before c.requires.none refl refl refl refl (part ∙ is) (subst (λ (p : ℕ). HasWholesOf a p (λ q. old.index.first ≤ q) c.look.new.found.items) is has);
    })
    c.look.ensures.found c.look.ensures.part c.look.ensures.blank
