use Rattle.std.proofs.Common.{List, subst, rules, Bool}
use Rattle.cx_base.specs.Literals.{Literal}
use Rattle.clause_tidy.specs.Listing.{IsListed}
use Rattle.clause_tidy.specs.Signatures.{IsSignature}
use Rattle.clause_tidy.proofs.ListingLaws.{indexed_more}
use Rattle.clause_tidy.proofs.index.Index.enter.Goals as goal

pub returns-clause-indexed : goal.returns-clause-indexed
returns-clause-indexed c =
    let old = c.args.self.now in
    let lists = c.enter_from.new.lists in
    let clause = c.args.clause in
    let live = c.is_live.ensures.0 (search rules) in
    indexed_more c.args.arena.now old.lists lists old.chosen.items c.in_ok-enter_from.ensures.count c.in_ok-enter_from.ensures.kept old.first clause old.signatures.items c.push-2.new.self.items c.signature.result c.requires.indexed (c.requires.known live)
    (λ past. subst (λ (lits : List Literal). IsListed lists old.chosen.items lits clause) c.lits-lits.ensures (subst (λ (bs : List Bool). IsListed lists bs c.lits-lits.result.now clause) c.deref.ensures.value (c.in_ok-enter_from.ensures.listed past)))
    (subst (λ (lits : List Literal). IsSignature c.signature.result lits) c.lits-lits.ensures c.signature.ensures) c.in_ok-push-2.ensures.items
