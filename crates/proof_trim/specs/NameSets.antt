-- Sets of names, and what steps do to them.
use Rattle.std.specs.Prelude.{◌≡◌, ℕ, ℤ, Bool, false, not, ◌&&◌, ◌||◌, nat_lt, nat_le, List, Option, Some, None, if◌then◌else◌}
use Rattle.std.specs.List.{list_any}
use Rattle.std.specs.Option.{is_some}
use Rattle.cx_base.specs.declared.steps.ProofStep.{ProofStep}
use Rattle.cx_base.specs.declared.steps.ProofStep.TheVariants.{Clause, DeleteClauses, Parity, DeleteParities, ClauseOfParity, ParityOfClauses}
use Rattle.cx_semantics.specs.Tables.{Tables}
use Rattle.proof_rules.specs.declared.live.Kind.{Kind}
use Rattle.proof_rules.specs.declared.live.Kind.TheVariants.{Clauses, Parities}
use Rattle.proof_trim.specs.declared.names.NameSet.{NameSet}
use Rattle.proof_trim.specs.declared.put.Put.{Put}
use Rattle.proof_trim.specs.IdSets.{has_id}
use Rattle.proof_trim.specs.Names.{Name, clause, parity, same_name, look, puts, takes_out, are_clauses, are_parities}

-- the name of a constraint of this kind and id
abbrev pub name_of : Kind → ℕ → Name
name_of Clauses n = clause n
name_of Parities n = parity n

-- the name is in the set
abbrev pub has_name : NameSet → Name → Bool
has_name names (clause n) = has_id names.clauses n
has_name names (parity n) = has_id names.parities n

-- the name of a constraint of this kind with a number from 1 up to the count
abbrev pub is_number : Kind → ℕ → Name → Bool
is_number Clauses count (clause n) = nat_lt 0 n && nat_le n count
is_number Clauses count (parity n) = false
is_number Parities count (clause n) = false
is_number Parities count (parity n) = nat_lt 0 n && nat_le n count

-- the set has just the names that pass the test
abbrev pub Has : NameSet → (Name → Bool) → Type 0
Has names test = (name : Name) → has_name names name ≡ test name

-- the hints name constraints of this kind
abbrev pub hinted_as : Kind → List ℤ → Name → Bool
hinted_as Clauses hints name = are_clauses hints name
hinted_as Parities hints name = are_parities hints name

-- the hints, of what is of this kind, name it
abbrev pub hinted : Option Kind → List ℤ → Name → Bool
hinted None hints name = false
hinted (Some kind) hints name = hinted_as kind hints name

-- the name is that of what is put
abbrev pub names_put : Name → Option Put → Bool
names_put name None = false
names_put name (Some put) = same_name name (name_of put.kind put.id)

-- what is put is wanted
abbrev pub wants_put : (Name → Bool) → Option Put → Bool
wants_put wanted None = false
wants_put wanted (Some put) = wanted (name_of put.kind put.id)

-- the ids are of constraints of this kind
abbrev pub named_as : Kind → List ℕ → Name → Bool
named_as kind ids name = list_any (λ n. same_name name (name_of kind n)) ids

-- what is live after a step
abbrev pub live_after : ProofStep → (Name → Bool) → Name → Bool
live_after step live name = not (takes_out step name) && (puts step name || live name)

-- a step stays where it adds and is needed, or takes out something that is live
abbrev pub stays_with : Bool → (Name → Bool) → ProofStep → Bool
stays_with needed live (Clause n lits hints) = needed
stays_with needed live (Parity n lits hints) = needed
stays_with needed live (ClauseOfParity n lits hint) = needed
stays_with needed live (ParityOfClauses n lits hints) = needed
stays_with needed live (DeleteClauses n ids) = list_any (λ m. live (clause m)) ids
stays_with needed live (DeleteParities ids) = list_any (λ m. live (parity m)) ids

-- the names under which there is something
abbrev pub live_in : Tables → Name → Bool
live_in tables name = is_some (look tables name)

-- what is wanted before something was put: the hints where it is needed, and what is wanted after it and not put there
abbrev pub went_back : Bool → (Name → Bool) → (Name → Bool) → (Name → Bool) → Name → Bool
went_back needed hint put wanted name = (needed && hint name) || (not (put name) && wanted name)

-- a step that stays is done to the set
abbrev pub KeepsOne : Bool → ProofStep → NameSet → NameSet → Bool → Type 0
KeepsOne needed step old new said =
    let stays = stays_with needed (has_name old) step in
    (said ≡ stays) × Has new (λ name. if stays then live_after step (has_name old) name else has_name old name)
