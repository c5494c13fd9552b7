use Rattle.std.proofs.Common.{◌∙◌, ◌<◌, ◌≤◌, ◌-◌, [], length, arith}
use Rattle.gf2_matrix.proofs.Updates.{same_read}
use Rattle.gf2_matrix.proofs.crowded.is_over.Goals as goal
use Rattle.gf2_matrix.proofs.crowded.is_over.Goals.{After-home_of-home}

pub home_of-home-requires-clause-together : goal.home_of-home-requires-clause-together
home_of-home-requires-clause-together c =
    let k = c.loop-parity.parity-index in
    let is = c.as_slice.ensures ∙ c.parity-item.is ∙ same_read c.args.parities.now k c.parity-item.result [] c.loop-parity-test.true in
    rw (c.deref.ensures.value, is) (c.requires.labels.together k c.loop-parity-test.true)

home_in : (c : After-home_of-home) → c.home_of-home.result < length c.loop-parity.room
home_in c =
    let highest = rw c.deref.ensures.value at c.home_of-home.ensures.high c.args.labels.now.count in
    let in_part : c.home_of-home.result ≤ c.args.labels.now.count - 1 = highest c.requires.labels.high in
    let same = c.loop-parity.auto.room in
    let count = c.requires.count in
    omega arith

pub offset_bounds-room-home : goal.offset_bounds-room-home
offset_bounds-room-home c = let h = home_in (goal.at.offset_bounds-room-home c).After-home_of-home in omega (arith, c.well_formed)

pub bounds-room-home : goal.bounds-room-home
bounds-room-home c = home_in (goal.at.bounds-room-home c).After-home_of-home
