use Rattle.std.proofs.Common.{sym, subst, List, Bool}
use Rattle.model_out.specs.Answers.{Gives}
use Rattle.model_out.specs.Mentions.{is_never, is_repeated}
use Rattle.model_out.proofs.MentionLaws.{first_missing, first_repeated, none_missing, gives, none_of}
use Rattle.model_out.proofs.read.settle.Goals as goal

pub returns-in-Some-clause-settled : goal.returns-in-Some-clause-settled
returns-in-Some-clause-settled c = λ lits formula len tells. first_missing lits formula c.args.mentions.now len tells c.in-Some.missing c.in-Some.ensures

pub returns-in-Some-first_repeated-clause-settled : goal.returns-in-Some-first_repeated-clause-settled
returns-in-Some-first_repeated-clause-settled c =
    let named = none_of is_never c.args.mentions.now c.first_missing.result c.in_default.not-Some c.first_missing.ensures in
    λ lits formula len tells. (
      none_missing lits formula c.args.mentions.now len tells named,
      first_repeated lits formula c.args.mentions.now len tells c.in-Some-first_repeated.repeated c.in-Some-first_repeated.ensures,
    )

pub returns-clause-settled : goal.returns-clause-settled
returns-clause-settled c =
    let named = none_of is_never c.args.mentions.now c.first_missing.result c.in_default.not-Some c.first_missing.ensures in
    let once = none_of is_repeated c.args.mentions.now c.first_repeated.result c.in_default-first_repeated.not-Some c.first_repeated.ensures in
    λ lits formula len tells. subst (λ (v : List Bool). Gives formula lits v) (sym c.in_ok-values.ensures) (gives lits formula c.args.mentions.now len tells named once)
