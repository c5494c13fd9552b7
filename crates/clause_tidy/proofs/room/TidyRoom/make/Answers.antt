use Rattle.std.proofs.Common.{◌*◌, ◌∙◌, sym, ap, subst, ℕ, length, arith}
use Rattle.clause_tidy.specs.declared.look.Look.{Look}
use Rattle.clause_tidy.specs.declared.room.TidyRoom.{TidyRoom}
use Rattle.tidy_rules.specs.Below.{TidiedBelow}
use Rattle.clause_tidy.specs.Marks.{AreClear}
use Rattle.clause_tidy.proofs.RoomLaws.{all_due}
use Rattle.clause_tidy.proofs.room.TidyRoom.make.Goals as goal

pub returns : goal.returns
returns c =
    let a = c.args.arena.now in
    let filled = c.fill.new.self in
    let new : TidyRoom = record { index = filled.index; look = filled.look; from = filled.from; passed = filled.passed; queue = c.sort.new.queue; place = filled.place; found = filled.found } in
    let fill = c.in_ok-fill.ensures in
    let made = c.in_ok-room.ensures in
    let keeps = fill.keeps in
    let place = keeps.place ∙ made.place in
    let first = keeps.first ∙ made.first in
    let from = keeps.from ∙ made.from.0 in
    let same = keeps.from in
    let within = c.requires.within in
    record {
      indexed = fill.indexed;
      first = omega (arith, first, from);
      from = omega (arith, from, within);
      marks = ap (λ (l : Look). length l.marks.items) keeps.look ∙ made.marks.long ∙ ap (λ (n : ℕ). 2 * n) (sym fill.lists);
      clear = subst (λ (l : Look). AreClear l.marks.items) (sym keeps.look) made.marks.clear;
      place = omega (arith, place);
      due = all_due a new place (keeps.passed ∙ made.from.1) (subst (λ n. TidiedBelow a n) (sym from) c.requires.tidy) (λ p past live. c.sort.ensures p (fill.waits p (omega (arith, past, same)) live));
    }
