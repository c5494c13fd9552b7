use Rattle.std.proofs.Common.{arith}
use Rattle.gf2_matrix.specs.Content.{IsPlaceOf}
use Rattle.gf2_matrix.proofs.matrix.Matrix.next_with.Goals as goal
use Rattle.gf2_matrix.proofs.matrix.Matrix.next_with.Goals.{After-count_up_to-place}

at_place : (c : After-count_up_to-place) → IsPlaceOf c.column_set-words.result.0.now c.args.from c.count_up_to-place.result
at_place c = record { before = c.count_up_to-place.ensures.low; after = c.count_up_to-place.ensures.high }

pub count_up_to-place-requires : goal.count_up_to-place-requires
count_up_to-place-requires c = c.column_set-words.ensures.set.rise

pub next_in_set-requires-clause-rise : goal.next_in_set-requires-clause-rise
next_in_set-requires-clause-rise c = c.column_set-words.ensures.set.rise

pub next_in_set-requires-clause-few : goal.next_in_set-requires-clause-few
next_in_set-requires-clause-few c = c.column_set-words.ensures.set.few

pub next_in_set-requires-clause-room : goal.next_in_set-requires-clause-room
next_in_set-requires-clause-room c = c.column_set-words.ensures.set.room

pub returns-in-Some : goal.returns-in-Some
returns-in-Some c =
    (c.in-Some.ensures.some c.args.self.now.rows _ c.args.from c.column_set-words.ensures.set (at_place (goal.at.returns-in-Some c).After-count_up_to-place)).0

pub returns-in-None : goal.returns-in-None
returns-in-None c = c.in-None.ensures.none c.args.self.now.rows _ c.args.from c.column_set-words.ensures.set (at_place (goal.at.returns-in-None c).After-count_up_to-place)

pub overflow_cast-from : goal.overflow_cast-from
overflow_cast-from c = record { fits = omega (arith, c.requires.from_in, c.column_set-words.ensures.few) }
