use Rattle.std.proofs.Common.{◌∙◌, ap, ◌||◌, false}
use Rattle.proof_rules.specs.declared.live.Kind.TheVariants.{Clauses, Parities}
use Rattle.proof_trim.specs.NameSets.{is_number}
use Rattle.proof_trim.proofs.PassLaws.{first_live}
use Rattle.proof_trim.proofs.keep.names_of.Goals as goal

pub returns : goal.returns
returns c = λ name.
    c.in_ok-insert_numbers-2.ensures name
    ∙ ap (λ b. is_number Parities c.parity_count.result name || b) (c.in_ok-insert_numbers.ensures name ∙ ap (λ b. is_number Clauses c.clause_count.result name || b) (c.in_ok-names.ensures name))
    ∙ (λ i. is_number Parities (c.parity_count.ensures i) name || (is_number Clauses (c.clause_count.ensures i) name || false))
    ∙ first_live c.args.formula.now name
