-- What a run says in single clauses: the causes of the faults and of a refusal of the words, completeness.
use Rattle.std.proofs.Common.{◌≡◌, ◌⊎◌, ℕ, List, take, inl, inr, refl, ap, sym, subst, ◌∙◌}
use Rattle.cx_desk.specs.declared.desk.Port.TheVariants as port
use Rattle.cx_desk.specs.Outside.{Bytes}
use Rattle.cx_base.specs.Counts.{Rose}
use Rattle.cx_words.specs.Words.{Asks, Refuses}
use Rattle.cx_words.specs.declared.plans.Plan.{Plan}
use Rattle.cx_words.proofs.PlanLaws.{one_plan, not_refused}
use Rattle.solve_cli.specs.declared.ending.Ending.{Ending}
use Rattle.solve_cli.specs.declared.ending.Outcome.{Outcome}
use Rattle.solve_cli.specs.declared.ending.Outcome.TheVariants as outcome
use Rattle.solve_cli.specs.declared.ending.Status.{Status}
use Rattle.solve_cli.specs.declared.ending.Status.TheVariants as status
use Rattle.solve_cli.specs.Endings.{status_of, message_text}
use Rattle.solve_cli.specs.Seen.{Seen, says}
use Rattle.solve_cli.specs.Commands.{second_started, asked_to}
use Rattle.solve_cli.specs.Happens.{end_stage, Ends, Stops, Works, WorksFor, PutsMessage, Runs, Comes}
use Rattle.solve_cli.proofs.Outcomes.{outcome_of}
use Rattle.solve_cli.proofs.Works.{faults_at}

-- what the Proof port took
abbrev pub proof_in : Seen → Bytes
proof_in s = s.written.proof

-- what a message leaves of the faults and the proof
pub record Kept (old new : Seen) : Type 0 where
  pub faults_reads : new.faults.reads ≡ old.faults.reads
  pub faults_writes : new.faults.writes ≡ old.faults.writes
  pub proof : proof_in new ≡ proof_in old

said : (text : Bytes) (s : Seen) → Kept s (says port.Message text s)
said text s = record { faults_reads = refl; faults_writes = refl; proof = refl }

message_keeps : (text : Bytes) (old new : Seen) → PutsMessage text old new → Kept old new
message_keeps text old new (inl e) = subst (Kept old) (sym e) (said text old)
message_keeps text old new (inr h) =
    let k = said (take h.0 text) old in
    let e = h.2.else_same in
    record {
      faults_reads = ap (λ (s : Seen). s.faults.reads) e ∙ k.faults_reads;
      faults_writes = ap (λ (s : Seen). s.faults.writes) e ∙ k.faults_writes;
      proof = ap proof_in e ∙ k.proof;
    }

stops_faults : (p : Plan) (limit : ℕ) (old at : Seen) → Stops p limit old at → at.faults ≡ old.faults
stops_faults p limit old at h = ap (λ (s : Seen). s.faults) h.at_is ∙ faults_at h.stage p old

ends_faults : (p : Plan) (limit : ℕ) (old : Seen) (e : Ending) (before : Seen) → Ends p limit old e before → before.faults ≡ old.faults
ends_faults p limit old e before h = ap (λ (s : Seen). s.faults) h.before_is ∙ faults_at (end_stage e) p old

-- ---- a run

module _ (words : List Bytes) (limit : ℕ) (old : Seen) (s : Status) (new : Seen) (h : Runs words limit old s new) where
  pub kept : Kept h.done new
  kept = message_keeps (message_text h.outcome) h.done new h.tells

  -- 2 comes only where the words are refused
  pub usage : s ≡ status.Usage → Refuses words
  usage e = (subst (λ (x : Outcome). WorksFor words limit old x h.done) (outcome_of status.Usage h.outcome (sym e ∙ h.status_is)) h.works).0

  pub read_rose : (p : Plan) → Works p limit old outcome.ReadFault h.done → Rose old.faults.reads new.faults.reads
  read_rose p w =
      let rose = subst (λ (n : ℕ). Rose n h.done.faults.reads) (ap (λ f. f.reads) (stops_faults p limit old w.0 w.1)) w.2.rose in
      subst (λ (n : ℕ). Rose old.faults.reads n) (sym kept.faults_reads) rose

  -- a read fault only where the read faults rose in this call
  pub read_fault : s ≡ status.ReadFault → Rose old.faults.reads new.faults.reads
  read_fault e =
      let works = subst (λ (x : Outcome). WorksFor words limit old x h.done) (outcome_of status.ReadFault h.outcome (sym e ∙ h.status_is)) h.works in
      read_rose works.0 works.2

  pub write_rose : (p : Plan) → Works p limit old outcome.WriteFault h.done → Rose old.faults.writes new.faults.writes
  write_rose p works = subst (λ (n : ℕ). Rose old.faults.writes n) (sym kept.faults_writes) (by works)
    where
      from : (at : Seen) → at.faults ≡ old.faults → Rose at.faults.writes h.done.faults.writes → Rose old.faults.writes h.done.faults.writes
      from at same = subst (λ (n : ℕ). Rose n h.done.faults.writes) (ap (λ f. f.writes) same)

      by : Works p limit old outcome.WriteFault h.done → Rose old.faults.writes h.done.faults.writes
      by (inl w) = from w.before (ends_faults p limit old w.ending w.before w.ends) w.fault.rose
      by (inr (inl w)) = from (asked_to second_started p old) (faults_at second_started p old) w.fault.rose
      by (inr (inr w)) = from w.at (stops_faults p limit old w.at w.stops) w.fault.rose

  -- a write fault only where the write faults rose in this call
  pub write_fault : s ≡ status.WriteFault → Rose old.faults.writes new.faults.writes
  write_fault e =
      let works = subst (λ (x : Outcome). WorksFor words limit old x h.done) (outcome_of status.WriteFault h.outcome (sym e ∙ h.status_is)) h.works in
      write_rose works.0 works.2

  go : (p : Plan) (o : Outcome) → Asks words p → s ≡ status_of o → WorksFor words limit old o h.done
      → (Rose old.faults.reads new.faults.reads → ⊥) → (Rose old.faults.writes new.faults.writes → ⊥)
      → (s ≡ status.OutOfMemory) ⊎ Comes words limit old s
  go p outcome.Usage asks is works no_read no_write = absurd (not_refused words p asks works.0)
  go p outcome.Memory asks is works no_read no_write = inl is
  go p outcome.ReadFault asks is works no_read no_write = absurd (no_read (read_rose works.0 works.2))
  go p outcome.WriteFault asks is works no_read no_write = absurd (no_write (write_rose works.0 works.2))
  go p (outcome.Ended e) asks is works no_read no_write = inr (record { plan = works.0; asked = works.1; ending = e; own = works.2.1.own; status_is = is; due = works.2.1.due })

  -- with no read or write fault in the call, words that ask for something end as is due, or memory runs out
  pub complete : (p : Plan) → Asks words p → (Rose old.faults.reads new.faults.reads → ⊥) → (Rose old.faults.writes new.faults.writes → ⊥)
      → (s ≡ status.OutOfMemory) ⊎ Comes words limit old s
  complete p asks no_read no_write = go p h.outcome asks h.status_is h.works no_read no_write

  -- words that are refused get no other status, except where memory runs out
  pub refused_words : Refuses words → (s ≡ status.OutOfMemory) ⊎ (s ≡ status.Usage)
  refused_words refuses = by h.outcome h.status_is h.works
    where
      by : (o : Outcome) → s ≡ status_of o → WorksFor words limit old o h.done → (s ≡ status.OutOfMemory) ⊎ (s ≡ status.Usage)
      by outcome.Usage is works = inr is
      by outcome.Memory is works = inl is
      by outcome.ReadFault is works = absurd (not_refused words works.0 works.1 refuses)
      by outcome.WriteFault is works = absurd (not_refused words works.0 works.1 refuses)
      by (outcome.Ended e) is works = absurd (not_refused words works.0 works.1 refuses)

  -- an ending with the command that the words ask for
  pub ended_by : (e : Ending) → h.outcome ≡ outcome.Ended e → (p : Plan) × Asks words p × Works p limit old (outcome.Ended e) h.done
  ended_by e is = subst (λ (o : Outcome). WorksFor words limit old o h.done) is h.works

  -- an ending is that of the command that the words ask for
  pub ended : (p : Plan) (e : Ending) → Asks words p → h.outcome ≡ outcome.Ended e → Works p limit old (outcome.Ended e) h.done
  ended p e asks is =
      let works = subst (λ (o : Outcome). WorksFor words limit old o h.done) is h.works in
      subst (λ (x : Plan). Works x limit old (outcome.Ended e) h.done) (one_plan words works.0 p works.1 asks) works.2
