-- The names of constraints in a proof, and which of them a step puts, takes out and names as hints.
use Rattle.std.specs.Prelude.{ℕ, ℤ, Bool, false, nat_abs, nat_eq, List, [], ◌∷◌, Option}
use Rattle.std.specs.List.{list_any}
use Rattle.cx_base.specs.Literals.{Literal}
use Rattle.cx_base.specs.declared.steps.ProofStep.{ProofStep}
use Rattle.cx_base.specs.declared.steps.ProofStep.TheVariants.{Clause, DeleteClauses, Parity, DeleteParities, ClauseOfParity, ParityOfClauses}
use Rattle.cx_semantics.specs.Tables.{Tables, get}

-- clause ids and parity ids are separate sets of names
pub data Name : Type 0 where
  clause : ℕ → Name
  parity : ℕ → Name

abbrev pub same_name : Name → Name → Bool
same_name (clause n) (clause m) = nat_eq n m
same_name (clause n) (parity m) = false
same_name (parity n) (clause m) = false
same_name (parity n) (parity m) = nat_eq n m

-- what is under a name
abbrev pub look : Tables → Name → Option (List Literal)
look tables (clause n) = get tables.clauses n
look tables (parity n) = get tables.parities n

-- the step puts a constraint under the name
abbrev pub puts : ProofStep → Name → Bool
puts (Clause n lits hints) name = same_name name (clause n)
puts (Parity n lits hints) name = same_name name (parity n)
puts (ClauseOfParity n lits hint) name = same_name name (clause n)
puts (ParityOfClauses n lits hints) name = same_name name (parity n)
puts (DeleteClauses n ids) name = false
puts (DeleteParities ids) name = false

-- the step takes out what is under the name
abbrev pub takes_out : ProofStep → Name → Bool
takes_out (Clause n lits hints) name = false
takes_out (Parity n lits hints) name = false
takes_out (ClauseOfParity n lits hint) name = false
takes_out (ParityOfClauses n lits hints) name = false
takes_out (DeleteClauses n ids) name = list_any (λ m. same_name name (clause m)) ids
takes_out (DeleteParities ids) name = list_any (λ m. same_name name (parity m)) ids

abbrev pub are_clauses : List ℤ → Name → Bool
are_clauses hints name = list_any (λ z. same_name name (clause (nat_abs z))) hints

abbrev pub are_parities : List ℤ → Name → Bool
are_parities hints name = list_any (λ z. same_name name (parity (nat_abs z))) hints

-- a hint of the step is the name, anywhere in its list
abbrev pub has_hint : ProofStep → Name → Bool
has_hint (Clause n lits hints) name = are_clauses hints name
has_hint (Parity n lits hints) name = are_parities hints name
has_hint (ClauseOfParity n lits hint) name = are_parities (hint ∷ []) name
has_hint (ParityOfClauses n lits hints) name = are_clauses hints name
has_hint (DeleteClauses n ids) name = false
has_hint (DeleteParities ids) name = false
