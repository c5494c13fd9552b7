-- One step of a log, judged and done.
use Rattle.std.specs.Prelude.{◌≡◌, ◌≤◌, ◌+◌, ◌^◌, ℕ, ℤ, ⊤, Bool, false, List, [], ◌∷◌, Option, Some, None, Result, Ok, Err}
use Rattle.cx_base.specs.Literals.{Literal}
use Rattle.cx_base.specs.Problem.{Problem}
use Rattle.cx_semantics.specs.Chain.{IsChain}
use Rattle.cx_base.specs.Integers.{literals}
use Rattle.cx_semantics.specs.Judging.{AllHold, IsRight}
use Rattle.cx_semantics.specs.LogRules.{AreLive, chained, log_calculus, log_rules, after_log_step, derives_ending_clause}
use Rattle.cx_semantics.specs.ProofRules.{adding, proof_calculus, after_step, adds_ending_clause}
use Rattle.cx_texts.specs.Printed.{HasProofText}
use Rattle.cx_semantics.specs.Tables.{Table, Tables, named}
use Rattle.cx_base.specs.declared.steps.LogStep.{LogStep}
use Rattle.cx_base.specs.declared.steps.ProofStep.{ProofStep}
use Rattle.proof_rules.specs.declared.refusal.JudgeRefusal.{JudgeRefusal}
use Rattle.proof_rules.specs.Judges.{IsRefusedBy}
use Rattle.fratx_elab.specs.Names.{Naming, Names, hints_for}
use Rattle.fratx_elab.specs.Elaborates.{Writes}
use Rattle.fratx_elab.specs.Ties.{AreTied}
use Rattle.fratx_elab.specs.declared.state.State.{State}

abbrev pub names_of : State → Names
names_of state = record { clauses = state.clauses; parities = state.parities }

abbrev pub listed : Option ProofStep → List ProofStep
listed (Some step) = step ∷ []
listed None = []

-- What is written is right in the proof, it ends the proof where the log ends, and the tables stay tied.
abbrev pub KeepsTie : Problem → Tables → State → Bool → Option ProofStep → Type 0
KeepsTie formula proof new ends (Some step) =
    IsRight (proof_calculus formula) proof step × (adds_ending_clause formula step ≡ ends) × AreTied formula new.live (after_step proof step) (names_of new)
KeepsTie formula proof new ends None = (ends ≡ false) × AreTied formula new.live proof (names_of new)

-- the step is right and done, or has this first cause against it
abbrev pub TakesLogStep : Problem → State → LogStep → Result (Option ProofStep) JudgeRefusal → State → Type 0
TakesLogStep formula old step (Ok written) new =
    IsRight (log_calculus formula) old.live step × (new.live ≡ after_log_step old.live step)
    × ((proof : Tables) → AreTied formula old.live proof (names_of old) → Writes formula (names_of old) old.live step (listed written) (names_of new) × KeepsTie formula proof new (derives_ending_clause formula step) written)
TakesLogStep formula old step (Err why) new = IsRefusedBy (log_rules formula old.live step) why

-- a text can have what is written
abbrev pub CanBePrinted : Option ProofStep → Type 0
CanBePrinted (Some step) = HasProofText step
CanBePrinted None = ⊤

-- at most one more id of each kind is given
abbrev pub CountsOneMore : State → State → Type 0
CountsOneMore old new = (new.clauses.last ≤ old.clauses.last + 1) × (new.parities.last ≤ old.parities.last + 1)

-- the literals of what is added
abbrev pub Admits : Problem → Table → ℕ → List ℤ → Result (List Literal) JudgeRefusal → Type 0
Admits formula table n lits (Ok target) = AllHold (adding formula table n lits) × (target ≡ literals lits)
Admits formula table n lits (Err why) = IsRefusedBy (adding formula table n lits) why

-- live hints that are a right chain; otherwise there is no such list
abbrev pub GivesChain : Table → List Literal → Result (List ℕ) JudgeRefusal → Type 0
GivesChain table target (Ok ids) = AreLive table ids × IsChain target (named table ids)
GivesChain table target (Err why) = IsRefusedBy (chained table target) why

-- hints that name live clauses which are a right chain; otherwise there is no such list
abbrev pub SettlesHints : Table → Naming → List Literal → {T : Type 0} → Result T JudgeRefusal → List ℤ → Type 0
SettlesHints table naming target (Ok done) hints = (ids : List ℕ) × AreLive table ids × IsChain target (named table ids) × (hints ≡ hints_for naming ids)
SettlesHints table naming target (Err why) hints = IsRefusedBy (chained table target) why

-- there are ids for the steps to come, after this many steps from the formula on
pub record HasRoom (state : State) (steps : ℕ) : Type 0 where
  pub clauses : state.clauses.last ≤ 2 ^ 60 + steps
  pub parities : state.parities.last ≤ 2 ^ 60 + steps

-- after this many steps one more can be taken: the state is tied to some proof, and ids are left
pub record CanTakeNext (formula : Problem) (state : State) (steps : ℕ) : Type 0 where
  pub tied : (proof : Tables) × AreTied formula state.live proof (names_of state)
  pub room : HasRoom state steps
  pub few : steps ≤ 2 ^ 62
