use Rattle.plain_tests.proofs.settled.+some_solve.Given as goal

abbrev pub decreases-some_solve : goal.decreases-some_solve
decreases-some_solve l = l.left
