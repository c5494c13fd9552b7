use Rattle.std.proofs.Common.{◌≡◌, ◌-◌, subst, sym, List, arith, Bool}
use Rattle.cx_base.specs.Literals.{Literal}
use Rattle.clause_arena.specs.Clauses.{literals_at}
use Rattle.clause_tidy.specs.Listing.{IsListed}
use Rattle.clause_tidy.proofs.LookLaws.{known_clause}
use Rattle.clause_tidy.proofs.ListingLaws.{indexed_back}
use Rattle.clause_tidy.specs.Indexes.{AreKnown}
use Rattle.clause_tidy.proofs.RoomLaws.{on_oks}
use Rattle.clause_tidy.proofs.index.Index.step_back.Goals as goal

pub enter-requires : goal.enter-requires
enter-requires c =
    let old = c.args.self.now in
    subst (λ (lits : List Literal). AreKnown old.lists lits) (sym c.lits.ensures)
    (known_clause c.args.arena.now old.first old.lists old.chosen.items old.signatures.items c.new-clause.result c.requires.indexed (c.is_live.ensures.0 c.if-not-is_live.false))

pub returns-clause-indexed : goal.returns-clause-indexed
returns-clause-indexed c =
    let a = c.args.arena.now in
    let old = c.args.self.now in
    let new = c.enter.new.lists in
    let first = old.first - 1 in
    let some = c.requires.some in
    let is : c.new-clause.result ≡ first = c.new-clause.ensures in
    on_oks c.enter.result _ _ _ _
    (λ count kept listed. indexed_back a old.lists new old.chosen.items count kept old.first first _ old.signatures.items (omega (arith, some)) c.requires.indexed
    (λ _. subst (λ n. IsListed new old.chosen.items (literals_at a n) n) is (subst (λ (lits : List Literal). IsListed new old.chosen.items lits c.new-clause.result) c.lits.ensures (subst (λ (bs : List Bool). IsListed new bs c.lits.result.now c.new-clause.result) c.deref.ensures.value listed))))
    c.enter.ensures.count c.enter.ensures.kept c.enter.ensures.listed
