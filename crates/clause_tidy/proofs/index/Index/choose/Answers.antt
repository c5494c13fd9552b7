use Rattle.std.proofs.Common.{arith}
use Rattle.std.proofs.lemmas.List.{nil_from_length}
use Rattle.clause_tidy.proofs.ListingLaws.{fewer_chosen}
use Rattle.clause_tidy.proofs.index.Index.choose.Goals as goal

pub returns-clause-indexed : goal.returns-clause-indexed
returns-clause-indexed c = λ a count h.
    let old = c.args.self.now in
    let long = c.len.ensures in
    fewer_chosen a old.first count old.lists old.chosen.items _ old.signatures.items (nil_from_length old.chosen.items (omega (arith, long))) h
