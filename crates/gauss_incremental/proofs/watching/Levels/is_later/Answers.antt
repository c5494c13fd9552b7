use Rattle.gauss_incremental.proofs.watching.Levels.is_later.Goals as goal

pub returns-in-Some : goal.returns-in-Some
returns-in-Some c = rw (c.of.ensures, c.of-in-Some.ensures, c.in-Some.is)
