use Rattle.std.proofs.Common.{subst, map, get_or, List, ℕ}
use Rattle.std.specs.List.Sorted.{IsPermutation}
use Rattle.xor_recover.specs.Entries.{row_of}
use Rattle.xor_recover.proofs.Within.{group_begins, numbers_of}
use Rattle.xor_recover.proofs.recovering.found_at.Goals as goal

pub returns-in_ok-clauses-in-Some : goal.returns-in_ok-clauses-in-Some
returns-in_ok-clauses-in-Some c =
    let es = c.args.entries.now in
    let d = c.index-entries-start.result in
    let proper = c.requires.proper c.args.start d c.requires.here in (
      map row_of c.in-Some.group.now,
      c.in-Some.ensures,
      record {
        first = row_of (get_or es c.args.start d);
        rest = _;
        is = group_begins es c.args.start d (map row_of c.in-Some.group.now) c.requires.here proper c.in-Some.ensures;
        parity = c.in_ok-parity-in-Some.ensures;
        numbers = subst (λ (ns : List ℕ). IsPermutation ns c.in_ok-clauses-in-Some.clauses) (numbers_of c.in-Some.group.now) c.in_ok-clauses-in-Some.ensures.same;
        rising = c.in_ok-clauses-in-Some.ensures.rising;
      },
    )
