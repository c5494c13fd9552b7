use Rattle.tidy_rules.proofs.PartLaws.{ListsBelow}
use Rattle.tidy_rules.proofs.parts.put_clauses.Given as goal

-- the clauses below this place
abbrev pub invariant-loop-place : goal.invariant-loop-place
invariant-loop-place l = ListsBelow l.place l.arena l.parts.items
