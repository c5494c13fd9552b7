-- What the words ask for: clap's own definition of the command line, and the values that it finds.
use Rattle.std.specs.Prelude.{◌≡◌, ◌≢◌, ◌≤◌, ◌⊎◌, List, [], map, string_bytes, Option, Some, None, option_and_then, IfSome}
use Rattle.std.proofs.Common.{String, Global}
use Rattle.clap.specs.Words.{Row, fault_of, subcommand_of}
use Rattle.cx_desk.specs.Outside.{Bytes}
use Rattle.cx_words.specs.declared.plans.Plan.{Plan}
use Rattle.cx_words.specs.declared.plans.Plan.TheVariants as plan
use Rattle.cx_words.specs.CommandLine.{cxsat}
use Rattle.cx_words.specs.Given.{planned}

-- the words as their bytes
abbrev pub texts : List (String Global) → List Bytes
texts words = map string_bytes words

-- the plan that the values ask for which clap finds in the words
unfoldable pub plan_of : List Bytes → Option Plan
plan_of words = option_and_then (λ (found : Bytes × List Row). planned found.0 found.1) (subcommand_of cxsat words)

-- clap takes the words, and their values ask for the plan
pub record Asks (words : List Bytes) (wanted : Plan) : Type 0 where
  pub taken : fault_of cxsat words ≡ []
  pub asked : plan_of words ≡ Some wanted

-- clap refuses the words, or their values ask for no plan
abbrev pub Refuses : List Bytes → Type 0
Refuses words = (fault_of cxsat words ≢ []) ⊎ (plan_of words ≡ None)

-- the numbers are in their ranges, and no two names are equal
abbrev pub IsFit : Plan → Type 0
IsFit (plan.Solve formula log options) = (1 ≤ options.conflicts) × (options.conflicts ≤ 1000000000000000000) × IfSome log (λ l. formula ≢ l)
IsFit (plan.Check formula proof) = formula ≢ proof
IsFit (plan.Elab formula log proof) = (formula ≢ log) × (formula ≢ proof) × (log ≢ proof)
IsFit (plan.Model formula answer) = formula ≢ answer
IsFit (plan.Demo kind size seed) = (4 ≤ size) × (size ≤ 2000)
IsFit (plan.Trim formula proof out) = (formula ≢ proof) × (formula ≢ out) × (proof ≢ out)
IsFit (plan.Blast formula out) = formula ≢ out
IsFit (plan.Affine formula) = Unit {0}
