-- The demonstration: what it prints of a planted instance, and the log that comes before it.
use Rattle.std.specs.Prelude.{◌≡◌, ℕ, ◌^◌, Bool, false, List, length, IfSome, ⊤}
use Rattle.cx_base.specs.Problem.{Problem, Meets, Unmet, clauses_of, parities_of}
use Rattle.cx_base.specs.declared.steps.LogStep.{LogStep}
use Rattle.cx_base.specs.declared.steps.ProofStep.{ProofStep}
use Rattle.search_steps.specs.Recovering.{SettledWithRecovered}
use Rattle.fratx_elab.specs.Outcomes.{IsProofWritten}
use Rattle.fratx_elab.specs.declared.outcome.Elab.TheVariants as elab
use Rattle.inst_gen.specs.declared.kind.InstanceKind.{InstanceKind}
use Rattle.inst_gen.specs.declared.kind.InstanceKind.TheVariants.{Even, Odd}
use Rattle.inst_gen.specs.Planting.{planted_formula}
use Rattle.cx_desk.specs.declared.desk.Port.TheVariants as port
use Rattle.cx_desk.specs.Outside.{Bytes}
use Rattle.cx_words.specs.Words.{Asks}
use Rattle.cx_words.specs.declared.plans.Plan.TheVariants as plan
use Rattle.cx_words.specs.declared.plans.SearchOptions.{SearchOptions}
use Rattle.solve_cli.specs.declared.ending.Instance.{Instance}
use Rattle.solve_cli.specs.declared.ending.Shown.{Shown}
use Rattle.solve_cli.specs.declared.ending.Shown.TheVariants as shown
use Rattle.solve_cli.specs.Endings.{demo_text}
use Rattle.solve_cli.specs.Seen.{Seen, says}
use Rattle.solve_cli.specs.Logs.{IsOpenLog, IsClosedLog, IsSpentLog}
use Rattle.solve_cli.specs.Proofs.{IsWholeProof}

-- the conflicts at which the search stops
abbrev pub demo_budget : ℕ
demo_budget = 10 ^ 18

-- how its search goes on: it does not tidy
abbrev pub demo_options : SearchOptions
demo_options = record { conflicts = demo_budget; inprocess = false }

-- what is printed of the instance of a kind, a size and a seed
abbrev pub instance_of : InstanceKind → ℕ → ℕ → Instance
instance_of kind size seed = record {
  kind = kind;
  size = size;
  seed = seed;
  variables = (planted_formula kind size seed).variables;
  clauses = length (clauses_of (planted_formula kind size seed).constraints);
  parities = length (parities_of (planted_formula kind size seed).constraints);
}

-- what may be shown of a kind
abbrev pub MayShow : InstanceKind → Shown → Type 0
MayShow Even shown.Meet = ⊤
MayShow Even shown.Verified = ⊥
MayShow Even shown.Unknown = ⊤
MayShow Odd shown.Meet = ⊥
MayShow Odd shown.Verified = ⊤
MayShow Odd shown.Unknown = ⊤

-- what that says of the formula
abbrev pub Shows : Problem → Shown → Type 0
Shows formula shown.Meet = (values : List Bool) × Meets formula values
Shows formula shown.Verified = Unmet formula
Shows formula shown.Unknown = ¬ SettledWithRecovered formula

-- a proof of the log is accepted at its last step
abbrev pub IsVerifiedLog : Problem → Bytes → Type 0
IsVerifiedLog formula log = (k : ℕ) × (proof : Bytes) × IsWholeProof formula log k proof

-- and of the log after which it is printed
abbrev pub StandsBehind : Problem → Bytes → Shown → Type 0
StandsBehind formula log shown.Meet = IsOpenLog formula demo_options log
StandsBehind formula log shown.Verified = IsClosedLog formula demo_options log × IsVerifiedLog formula log
StandsBehind formula log shown.Unknown = IsSpentLog formula demo_options log

-- The Proof port gained the log of a search of the instance, then the Answer port what that shows. No file was asked for.
pub record HasDemonstrated (kind : InstanceKind) (size seed : ℕ) (old new : Seen) : Type 0 where
  pub what : Shown
  pub fits : MayShow kind what
  pub shows : Shows (planted_formula kind size seed) what
  pub log : Bytes
  pub behind : StandsBehind (planted_formula kind size seed) log what
  pub done : new ≡ says port.Answer (demo_text (instance_of kind size seed) what) (says port.Proof log old)

-- what `demo` printed is so
abbrev pub IsDemonstrated : List Bytes → Seen → Seen → Type 0
IsDemonstrated words old new = (kind : InstanceKind) (size seed : ℕ) → Asks words (plan.Demo kind size seed) → IfSome old.files (λ _. HasDemonstrated kind size seed old new)

-- ---- on the way there

-- what a search of a formula and its log show
abbrev pub Stands : Problem → Bytes → Shown → Type 0
Stands formula log what = Shows formula what × StandsBehind formula log what

-- the steps are the proof of a log's first steps, and it is accepted at its last step
abbrev pub IsProofOfLog : Problem → List LogStep → List ProofStep → Type 0
IsProofOfLog formula steps proof = (k : ℕ) × IsProofWritten formula steps (elab.Done k) proof
