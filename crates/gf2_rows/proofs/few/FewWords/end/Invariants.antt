use Rattle.std.proofs.Common.{ℕ, ◌<◌, ◌≤◌, get_or}
use Rattle.gf2_rows.proofs.few.FewWords.end.Given as goal

abbrev pub invariant-loop-i : goal.invariant-loop-i
invariant-loop-i l = record {
  least : l.least ≤ l.end;
  within : l.end ≤ l.self-inside.len;
  places : (j : ℕ) → j < l.i → get_or l.self-inside.places j 0 < l.end;
}
