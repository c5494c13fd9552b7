use Rattle.std.proofs.Common.{subst, sym, List, ℕ}
use Rattle.std.specs.List.{All}
use Rattle.std.proofs.lemmas.List.Elements.{All-from_recursion}
use Rattle.cx_base.specs.declared.literal.TheConstants.{MAX_VARIABLE}
use Rattle.xor_blast.specs.Pieces.{rising_variables}
use Rattle.xor_blast.specs.Rising.{IsVariable}
use Rattle.xor_blast.proofs.RisingLaws.{rising_within}
use Rattle.xor_blast.proofs.pieces.push_parity.Goals as goal

pub push_pieces-requires-clause-variables : goal.push_pieces-requires-clause-variables
push_pieces-requires-clause-variables c =
    let lits = c.args.lits.now in
    subst (λ (xs : List ℕ). All IsVariable xs) (sym (c.in_ok-fill_rising.ensures MAX_VARIABLE c.requires.within)) (All-from_recursion IsVariable (rising_variables MAX_VARIABLE lits) (rising_within MAX_VARIABLE lits))
