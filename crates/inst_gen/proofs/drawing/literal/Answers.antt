use Rattle.std.proofs.Common.{◌≡◌, ◌∙◌, ap, ◌+◌, ◌%◌, nat_le, ◌^◌}
use Rattle.inst_gen.specs.Planting.{literal_of}
use Rattle.inst_gen.proofs.drawing.literal.Goals as goal

pub returns : goal.returns
unfolding literal_of
returns c =
    let variable : c.new.result ≡ 1 + c.args.word % c.args.variables = c.new.ensures ∙ ap (λ m. 1 + c.args.word % m) c.from.ensures in
    c.new-2.ensures ∙ (λ i. record { variable = variable i; negative = nat_le (2 ^ 63) c.args.word })
