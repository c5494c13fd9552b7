use Rattle.std.proofs.Common.{◌≡◌, ◌∙◌, ap, ◌%◌, nat_eq, rules, count_by}
use Rattle.xor_blast.proofs.RisingLaws.{right_side-even}
use Rattle.xor_blast.proofs.normal.right_side.Goals as goal

pub returns : goal.returns
returns c =
    let counted : c.count.result ≡ count_by (λ l. l.negative) c.args.lits.now = search rules in
    ap (λ n. nat_eq (n % 2) 0) counted ∙ right_side-even c.args.lits.now
