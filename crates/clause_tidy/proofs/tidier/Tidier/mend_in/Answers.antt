use Rattle.std.proofs.Common.{refl, sym, subst, List, Option, None, Ok, arith}
use Rattle.std.specs.Prelude.{IsNone}
use Rattle.cx_base.specs.Literals.{Literal}
use Rattle.clause_tidy.specs.Answers.{TidiesOn, MendsTo}
use Rattle.clause_tidy.proofs.RoomLaws.{both_live, they_differ, part_bears}
use Rattle.clause_tidy.proofs.Tellings.{out_of_memory}
use Rattle.clause_tidy.proofs.tidier.Tidier.mend_in.Goals as goal

pub mend-requires-clause-live : goal.mend-requires-clause-live
mend-requires-clause-live g c = both_live c.args.arena.now c.args.pair.now c.requires.pair

pub mend-requires-clause-differ : goal.mend-requires-clause-differ
mend-requires-clause-differ g c = they_differ c.args.arena.now c.args.pair.now c.requires.pair

pub mend-requires-clause-bears : goal.mend-requires-clause-bears
mend-requires-clause-bears g c = part_bears c.args.arena.now c.args.pair.now c.requires.pair

pub admit-requires-clause-room : goal.admit-requires-clause-room
admit-requires-clause-room g c =
    let shrunk = c.in-Ok-None.ensures.shrinks (subst IsNone (sym c.in-Ok-None.field-0-is) refl) in
    (c.args.arena.now, c.len-before.ensures.len, shrunk.0, c.requires.room)

pub admit-requires-clause-few : goal.admit-requires-clause-few
admit-requires-clause-few g c =
    let shrunk = c.in-Ok-None.ensures.shrinks (subst IsNone (sym c.in-Ok-None.field-0-is) refl) in
    let few = shrunk.1 in
    let was = c.len-before.ensures.len in
    omega (arith, few, was)

pub returns-in-Ok-clause-less : goal.returns-in-Ok-clause-less
returns-in-Ok-clause-less g c = λ _. c.in-Ok-None.ensures.less (subst IsNone (sym c.in-Ok-None.field-0-is) refl)

pub returns-in-Ok-clause-room : goal.returns-in-Ok-clause-room
returns-in-Ok-clause-room g c = λ _. c.in-Ok.ensures

pub returns-in-Ok-clause-tidies : goal.returns-in-Ok-clause-tidies
returns-in-Ok-clause-tidies g c =
    let f = c.args.self.now.formula.now in
    let s = c.args.self.now.spare in
    let a = c.args.arena.now in
    subst (λ e. TidiesOn {T = Option (List Literal)} g.L.Sink f s a c.args.log.now (Ok e) (MendsTo f s a c.mend.new.arena) c.mend.new.log) c.in-Ok-None.field-0-is c.in-Ok-None.ensures.tidies

pub returns-in-Err-admit-clause-tidies : goal.returns-in-Err-admit-clause-tidies
returns-in-Err-admit-clause-tidies g c =
    let f = c.args.self.now.formula.now in
    let s = c.args.self.now.spare in
    let a = c.args.arena.now in
    let d = c.mend.new.arena in
    let told = subst (λ e. TidiesOn {T = Option (List Literal)} g.L.Sink f s a c.args.log.now (Ok e) (MendsTo f s a d) c.mend.new.log) c.in-Ok-None.field-0-is c.in-Ok-None.ensures.tidies in
    out_of_memory g.L.Sink f s a (MendsTo f s a d) (MendsTo f s a d) c.args.log.now c.mend.new.log None (λ ss t tables h. let w = t.runs tables h in (w.0, w.1)) told

pub returns-in-Ok-Some-clause-tidies : goal.returns-in-Ok-Some-clause-tidies
returns-in-Ok-Some-clause-tidies g c =
    let f = c.args.self.now.formula.now in
    let s = c.args.self.now.spare in
    let a = c.args.arena.now in
    subst (λ e. TidiesOn {T = Option (List Literal)} g.L.Sink f s a c.args.log.now (Ok e) (MendsTo f s a c.mend.new.arena) c.mend.new.log) c.in-Ok-Some.field-0-is c.in-Ok-Some.ensures.tidies
