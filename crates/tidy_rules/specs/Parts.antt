-- The clauses of an arena and units, each unit taken as a clause.
use Rattle.std.specs.Prelude.{◌≡◌, ◌≢◌, ◌↔◌, List, [], ◌∷◌, IsTrue, IsFalse, Contains, ⊤}
use Rattle.std.specs.List.{All}
use Rattle.cx_base.specs.Literals.{Literal}
use Rattle.cx_semantics.specs.Fresh.{is_tautology}
use Rattle.clause_arena.specs.Clauses.{ArenaState, IsLive, literals_at}
use Rattle.tidy_rules.specs.declared.part.TidyPart.{TidyPart}
use Rattle.tidy_rules.specs.declared.part.TidyPart.TheVariants.{Clause, Unit as AUnit}
use Rattle.tidy_rules.specs.declared.part.Untidy.{Untidy}
use Rattle.tidy_rules.specs.declared.part.Untidy.TheVariants.{One, Two}
use Rattle.tidy_rules.specs.Relations.{bears_on}
use Rattle.tidy_rules.specs.Tidied.{TidiedBy}

-- the literals of a part
abbrev pub lits_in : ArenaState → TidyPart → List Literal
lits_in a (Clause r) = literals_at a r
lits_in a (AUnit l) = l ∷ []

-- a live clause of the arena, or one of the units
abbrev pub IsPart : ArenaState → List Literal → TidyPart → Type 0
IsPart a units (Clause r) = IsLive a r
IsPart a units (AUnit l) = Contains units l

-- the arena's clauses together with the units are tidy
abbrev pub Tidied : ArenaState → List Literal → Type 0
Tidied a units = TidiedBy (IsPart a units) (lits_in a)

-- One: it has a literal together with its negation. Two: the first lies inside the second, or strengthens it.
abbrev pub IsUntidy : ArenaState → List Literal → Untidy → Type 0
IsUntidy a units (One p) = IsPart a units p × IsTrue (is_tautology (lits_in a p))
IsUntidy a units (Two p q) = IsPart a units p × IsPart a units q × (p ≢ q) × IsTrue (bears_on (lits_in a p) (lits_in a q))

-- ---- what the look goes through
-- a part whose clause is there
abbrev pub IsStanding : ArenaState → TidyPart → Type 0
IsStanding a (Clause r) = IsLive a r
IsStanding a (AUnit l) = ⊤

-- the list has each part, and no more
abbrev pub ListsParts : ArenaState → List Literal → List TidyPart → Type 0
ListsParts a units parts = (p : TidyPart) → Contains parts p ↔ IsPart a units p

-- another part that lies inside this one, or strengthens it
abbrev pub BearsOnPart : ArenaState → TidyPart → TidyPart → Type 0
BearsOnPart a p q = (p ≢ q) × IsTrue (bears_on (lits_in a p) (lits_in a q))

pub record IsTidyBeside (a : ArenaState) (parts : List TidyPart) (p : TidyPart) : Type 0 where
  pub no_tautology : IsFalse (is_tautology (lits_in a p))
  pub none : All (λ q. BearsOnPart a q p → ⊥) parts

abbrev pub AreTidy : ArenaState → List TidyPart → Type 0
AreTidy a parts = All (IsTidyBeside a parts) parts

-- what is untidy of a part beside these
abbrev pub IsUntidyAt : ArenaState → List TidyPart → TidyPart → Untidy → Type 0
IsUntidyAt a parts p (One q) = (q ≡ p) × IsTrue (is_tautology (lits_in a p))
IsUntidyAt a parts p (Two q r) = (r ≡ p) × Contains parts q × BearsOnPart a q p

-- something is untidy of one of them
abbrev pub IsUntidyIn : ArenaState → List TidyPart → Untidy → Type 0
IsUntidyIn a parts u = (p : TidyPart) × Contains parts p × IsUntidyAt a parts p u
