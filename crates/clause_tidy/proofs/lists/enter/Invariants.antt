use Rattle.std.proofs.Common.{◌≡◌, length, take}
use Rattle.clause_tidy.specs.Listing.{IsListed, KeepsEntries}
use Rattle.clause_tidy.proofs.lists.enter.Given as goal

-- it is in the lists of the first ones
abbrev pub invariant-loop-lit : goal.invariant-loop-lit
invariant-loop-lit l = record {
  count : length l.lists ≡ length l.fn.lists;
  kept : KeepsEntries l.fn.lists l.lists;
  listed : IsListed l.lists l.chosen (take l.lit-index l.lits) l.clause;
}
