-- A header that is read token by token.
use Rattle.std.specs.Prelude.{◌≤◌, ℕ, List, ⊤, Result, Ok, Err}
use Rattle.cx_base.specs.declared.literal.TheConstants.{MAX_VARIABLE}
use Rattle.cx_texts.specs.Tokens.{Token}
use Rattle.cx_texts.specs.FormulaText.{header, behind_p, behind_cnf, behind_count}
use Rattle.cx_texts.specs.declared.offence.Offence.{Offence}
use Rattle.cnfx_reader.specs.declared.header_token.HeaderPart.{HeaderPart}
use Rattle.cnfx_reader.specs.declared.header_token.HeaderPart.TheVariants.{P, Cnf, Vars, Count}
use Rattle.cnfx_reader.specs.declared.header_token.HeaderStep.{HeaderStep}
use Rattle.cnfx_reader.specs.declared.header_token.HeaderStep.TheVariants.{Lacks, Whole}

-- the header whose tokens from this one on are these: its number of variables and the tokens that follow, or the first offence
abbrev pub header_from : HeaderPart → ℕ → List Token → Result (ℕ × List Token) Offence
header_from P len tokens = header len tokens
header_from Cnf len tokens = behind_p len tokens
header_from Vars len tokens = behind_cnf len tokens
header_from (Count v) len tokens = behind_count len v tokens

-- as above, after a token
abbrev pub header_behind : Result HeaderStep Offence → ℕ → List Token → Result (ℕ × List Token) Offence
header_behind (Ok (Lacks part)) len tokens = header_from part len tokens
header_behind (Ok (Whole v)) len tokens = Ok (v, tokens)
header_behind (Err offence) len tokens = Err offence

abbrev pub IsPartWithin : HeaderPart → Type 0
IsPartWithin P = ⊤
IsPartWithin Cnf = ⊤
IsPartWithin Vars = ⊤
IsPartWithin (Count v) = v ≤ MAX_VARIABLE

-- the number of variables is within the limit
abbrev pub IsStepWithin : HeaderStep → Type 0
IsStepWithin (Lacks part) = IsPartWithin part
IsStepWithin (Whole v) = v ≤ MAX_VARIABLE
