use Rattle.std.proofs.Common.{◌≡◌, ◌∙◌, sym, get_or, rules}
use Rattle.clause_arena.specs.Clauses.{literals_at}
use Rattle.clause_arena.proofs.PackingLaws.{live_within}
use Rattle.clause_tidy.proofs.BearLaws.{signatures_agree}
use Rattle.clause_tidy.proofs.look.Look.may_find.Goals.{then-ne, else-ne, then-may_have, else-may_have}
use Rattle.clause_tidy.proofs.look.Look.may_find.Goals as goal

pub returns-else-is_live : goal.returns-else-is_live
returns-else-is_live c = λ live bears.
    let a = c.args.arena.now in
    let p = c.args.self.now.part in
    let q = c.args.clause in
    elim c.if-may_have.branch [
      | then-may_have w ↦ w.value-is ∙ w.is_live.ensures.1 live
      | else-may_have w ↦ elim c.if-ne.branch [
        | then-ne v ↦ absurd (signatures_agree (literals_at a p) (literals_at a q) c.args.self.now.signature (get_or c.args.index.now.signatures.items q 0) c.requires.look.signature
            (c.requires.indexed.signed q (live_within a q live) live) bears.2 (v.may_have.ensures (sym v.value-is ∙ w.if-may_have.false)))
        | else-ne v ↦ let same : p ≡ q = search rules in absurd (bears.0 same)
      ]
    ]
