use Rattle.std.proofs.Common.{◌∙◌}
use Rattle.clause_tidy.proofs.LookLaws.{known_clause, room_for}
use Rattle.clause_arena.specs.Clauses.{literals_at}
use Rattle.clause_tidy.proofs.look.Look.look.Goals as goal

pub begin-requires-clause-room : goal.begin-requires-clause-room
begin-requires-clause-room c =
    let index = c.args.index.now in
    room_for c.args.self.now.marks.items index.lists (literals_at c.args.arena.now c.args.part) c.requires.blank.room
    (known_clause c.args.arena.now index.first index.lists index.chosen.items index.signatures.items c.args.part c.requires.indexed c.requires.live)

pub returns-clause-blank : goal.returns-clause-blank
returns-clause-blank c = record { clear = c.end.ensures.clear; room = c.end.ensures.room ∙ c.begin.ensures.room ∙ c.requires.blank.room }
