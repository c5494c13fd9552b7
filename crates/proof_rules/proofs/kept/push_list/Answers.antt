use Rattle.std.proofs.Common.{rules, ◌≡◌, length}
use Rattle.proof_rules.proofs.kept.push_list.Goals as goal

pub returns-clause-span : goal.returns-clause-span
returns-clause-span c =
    let start : c.len-start.result ≡ length c.args.all.now.items = search rules in
    λ i. record { start = start i; len = length c.args.lits.now }
