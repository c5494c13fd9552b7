use Rattle.std.proofs.Common.{refl}
use Rattle.cx_desk.proofs.memory.MemDesk.with_schedule.Goals as goal

pub returns-clause-fresh : goal.returns-clause-fresh
returns-clause-fresh c =
    let empty = c.in_ok-answer.ensures in
    rw (c.nowhere.ensures, c.nowhere-2.ensures, empty.answer.0, empty.proof.0, empty.message.0)

pub returns-clause-rooms : goal.returns-clause-rooms
returns-clause-rooms c =
    let made = c.in_ok-answer.ensures in
    rw (made.answer.1, made.proof.1, made.message.1)

pub returns-clause-no_memory : goal.returns-clause-no_memory
returns-clause-no_memory c = λ _. refl
