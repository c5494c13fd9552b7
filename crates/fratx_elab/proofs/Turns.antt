-- One turn of the elaborator: from what is known before a step to what is known after it, or to the answer.
use Rattle.std.proofs.Common.{◌≡◌, refl, sym, ap, ◌∙◌, subst, ℕ, ◌+◌, ◌-◌, Bool, true, false, List, [], ◌∷◌, ◌++◌, length, length-append, take, append-nil, append_assoc, Option, Some, None, Result, Ok, Err, inl, inr, arith, true≢false}
use Rattle.cx_base.specs.Problem.{Problem, clauses_of, parities_of}
use Rattle.cx_base.specs.Assumptions.{clashes}
use Rattle.cx_base.specs.declared.steps.LogStep.{LogStep}
use Rattle.cx_base.specs.declared.steps.ProofStep.{ProofStep}
use Rattle.cx_semantics.specs.declared.cause.Cause.{Cause}
use Rattle.cx_semantics.specs.declared.cause.Cause.TheVariants as causes
use Rattle.cx_base.specs.Endings.{Ending, bad_token, too_big, unterminated}
use Rattle.cx_semantics.specs.Judging.{FirstFailure, IsRight, Runs, AcceptedAt, IsOpen, end_cause}
use Rattle.cx_semantics.specs.LogRules.{log_calculus, log_rules, after_log_step, derives_ending_clause}
use Rattle.cx_semantics.specs.ProofRules.{proof_calculus, after_step}
use Rattle.cx_semantics.specs.Tables.{Tables, first_tables, no_tables}
use Rattle.cx_semantics.proofs.JudgingLaws.{runs_push}
use Rattle.step_text.specs.Sources.{GivesNone}
use Rattle.step_text.specs.Sinks.{with_next}
use Rattle.step_text.specs.declared.source.TextRefusal.{TextRefusal}
use Rattle.step_text.specs.declared.source.TextRefusal.TheVariants as text
use Rattle.step_text.specs.declared.sink.SinkFault.{SinkFault}
use Rattle.step_text.specs.declared.sink.SinkFault.TheVariants as sink
use Rattle.proof_rules.specs.declared.refusal.JudgeRefusal.{JudgeRefusal}
use Rattle.proof_rules.specs.declared.refusal.JudgeRefusal.TheVariants as refusal
use Rattle.cx_semantics.specs.Chain.{HaveSame}
use Rattle.fratx_elab.specs.Names.{Names, first_naming, first_names}
use Rattle.fratx_elab.specs.Elaborates.{Writes, Elaborates, IsProofOf, number_of_clauses, number_of_parities}
use Rattle.fratx_elab.specs.Ties.{AreTied, HaveSameForm}
use Rattle.fratx_elab.proofs.TieLaws.{tied_first}
use Rattle.fratx_elab.specs.Takes.{TakesLogStep, KeepsTie, listed, names_of}
use Rattle.fratx_elab.specs.Writing.{WritesDown}
use Rattle.fratx_elab.specs.Outcomes.{Gained, IsProofWritten, IsElaborated, IsCutOff, Kept, Turns, text_refused, step_refused, what_follows_of}
use Rattle.fratx_elab.specs.declared.state.State.{State}
use Rattle.fratx_elab.specs.declared.outcome.Elab.TheVariants.{Done, Refused}
use Rattle.fratx_elab.specs.declared.outcome.ElabFault.TheVariants.{Memory, Write}

abbrev took : Unit {0} → Result (Unit {0}) SinkFault
took u = Ok u

abbrev fell : SinkFault → Result (Unit {0}) SinkFault
fell why = Err why

take_front : {A : Type 0} (xs ys : List A) → take (length xs) (xs ++ ys) ≡ xs
take_front [] ys = refl
take_front (x ∷ xs) ys = ap (λ zs. x ∷ zs) (take_front xs ys)

elaborates_push : (formula : Problem) (first : Names) (live : Tables) (steps : List LogStep) (written : List ProofStep) (middle : Names) (there : Tables) (s : LogStep) (now : List ProofStep) (last : Names)
    → Runs (log_calculus formula) live steps there → Elaborates formula first live steps written middle → Writes formula middle there s now last → Elaborates formula first live (steps ++ s ∷ []) (written ++ now) last
elaborates_push formula first live [] written middle there s now last runs (e, f) h =
    let here = subst (λ (t : Tables). Writes formula first t s now last) runs (subst (λ (m : Names). Writes formula m there s now last) f h) in
    (now, [], last, ap (λ w. w ++ now) e ∙ sym (append-nil now), here, (refl, refl))
elaborates_push formula first live (x ∷ steps) written middle there s now last runs (one, rest, between, e, w, r) h =
    (one, rest ++ now, between, ap (λ v. v ++ now) e ∙ append_assoc one rest now, w, elaborates_push formula between (after_log_step live x) steps rest middle there s now last runs.2 r h)

module _ {X : Type 0} (leaves : X → List LogStep → Ending → Type 0) (told : X → Option (List ProofStep)) (torn : X → ProofStep → Type 0)
    (formula : Problem) (first old new : X) (state : State) (count : ℕ) (kept : Kept leaves told torn formula first old state count) where
  -- the sink tells what it told
  gained_so_far : (P : List ProofStep → Type 0) → told new ≡ told old → P kept.written → Gained (told first) (told new) P
  gained_so_far P e p start f = (kept.written, e ∙ kept.told_all start f, p)

  open_so_far : IsOpen (proof_calculus formula) kept.written
  open_so_far = (kept.no_clash, (kept.tables, kept.proof_runs))

  front_is : (later : List LogStep) → take (count + 1 - 1) (kept.before ++ later) ≡ kept.before
  front_is later = let n : count + 1 - 1 ≡ length kept.before = omega (arith, kept.number) in ap (λ k. take k (kept.before ++ later)) n ∙ take_front kept.before later

  proof_so_far : (later : List LogStep) → IsProofOf formula (take (count + 1 - 1) (kept.before ++ later)) kept.written
  proof_so_far later = subst (λ (ss : List LogStep). IsProofOf formula ss kept.written) (sym (front_is later)) (names_of state, kept.elaborated)

  pub end_is_refused : (ending : Ending) (cause : Cause) → cause ≡ end_cause ending → leaves old [] ending → told new ≡ told old → IsElaborated leaves told torn formula first new (Refused (count + 1) cause)
  end_is_refused ending cause e h t = (
    kept.before,
    ending,
    subst (λ (ss : List LogStep). leaves first ss ending) (append-nil kept.before) (kept.left [] ending h),
    (kept.no_clash, inr (record { tables = state.live; runs = kept.log_runs; why = e; number = ap (λ n. n + 1) kept.number })),
    gained_so_far (IsProofWritten formula kept.before (Refused (count + 1) cause)) t
        (subst (λ (ss : List LogStep). IsProofOf formula (take (count + 1 - 1) ss) kept.written) (append-nil kept.before) (proof_so_far []), open_so_far),
  )

  -- no step comes
  pub text_is_refused : (after : State) (why : TextRefusal) → GivesNone leaves why old new → told new ≡ told old → Turns leaves told torn formula first new after count (text_refused why (count + 1))
  text_is_refused after (text.BadToken place) h t = end_is_refused (bad_token place) (causes.TextRefused place) refl h.0 t
  text_is_refused after (text.Unterminated place) h t = end_is_refused (unterminated place) (causes.TextRefused place) refl h.0 t
  text_is_refused after (text.TooBig place) h t = end_is_refused (too_big place) (causes.TextRefused place) refl h.0 t
  text_is_refused after text.TooLong h t = gained_so_far (IsOpen (proof_calculus formula)) t open_so_far
  text_is_refused after text.Memory h t = gained_so_far (IsOpen (proof_calculus formula)) t open_so_far
  text_is_refused after text.Failed h t = gained_so_far (IsOpen (proof_calculus formula)) t open_so_far

  module _ (step : LogStep) (follows : (steps : List LogStep) (ending : Ending) → leaves new steps ending → leaves old (step ∷ steps) ending)
      (rest : (steps : List LogStep) × (ending : Ending) × leaves new steps ending) where
    -- the step is wrong
    step_is_refused : (cause : Cause) → FirstFailure (log_rules formula state.live step) cause → told new ≡ told old → IsElaborated leaves told torn formula first new (Refused (count + 1) cause)
    step_is_refused cause f t = (
      kept.before ++ step ∷ rest.0,
      rest.1,
      kept.left (step ∷ rest.0) rest.1 (follows rest.0 rest.1 rest.2),
      (kept.no_clash, inl (record { before = kept.before; step = step; later = rest.0; tables = state.live; split = refl; runs = kept.log_runs; wrong = f; number = ap (λ n. n + 1) kept.number })),
      gained_so_far (IsProofWritten formula (kept.before ++ step ∷ rest.0) (Refused (count + 1) cause)) t (proof_so_far (step ∷ rest.0), open_so_far),
    )

    pub refusal_turns : (after : State) (why : JudgeRefusal) → TakesLogStep formula state step (Err why) after → told new ≡ told old → Turns leaves told torn formula first new after count (step_refused why (count + 1))
    refusal_turns after (refusal.Wrong cause) f t = step_is_refused cause f t
    refusal_turns after refusal.Memory f t = gained_so_far (IsOpen (proof_calculus formula)) t open_so_far

    module _ (after : State) (written : Option ProofStep) (taken : TakesLogStep formula state step (Ok written) after) where
      part : Writes formula (names_of state) state.live step (listed written) (names_of after) × KeepsTie formula kept.tables after (derives_ending_clause formula step) written
      part = taken.2 kept.tables kept.tied

      both_steps : IsProofOf formula (kept.before ++ step ∷ []) (kept.written ++ listed written)
      both_steps = (names_of after, elaborates_push formula (first_names formula) no_tables kept.before kept.written (names_of state) state.live step (listed written) (names_of after) kept.log_runs kept.elaborated part.0)

      told_on : (w : Option ProofStep) → WritesDown (told old) (told new) (torn new) w (took tt) → (start : List ProofStep) → told first ≡ Some start → told new ≡ Some (start ++ (kept.written ++ listed w))
      told_on (Some s) e start f = e ∙ ap (with_next s) (kept.told_all start f) ∙ ap Some (append_assoc start kept.written (s ∷ []))
      told_on None e start f = e ∙ kept.told_all start f ∙ ap (λ w. Some (start ++ w)) (sym (append-nil kept.written))

      -- the log ends here
      done : (w : Option ProofStep) → w ≡ written → derives_ending_clause formula step ≡ true → KeepsTie formula kept.tables after (derives_ending_clause formula step) w → AcceptedAt (proof_calculus formula) (kept.written ++ listed w) (length (kept.written ++ listed w))
      done (Some s) is e (right, ends, tied) = inr (
        kept.no_clash,
        record {
          before = kept.written;
          step = s;
          later = [];
          tables = kept.tables;
          split = refl;
          runs = kept.proof_runs;
          right = right;
          ends = ends ∙ e;
          number = length-append kept.written (s ∷ []);
        },
      )
      done None is e (ends, tied) = absurd (true≢false (sym e ∙ ends))

      at_step : (k : ℕ) → k ≡ count + 1 → take k (kept.before ++ step ∷ rest.0) ≡ kept.before ++ step ∷ []
      at_step k e =
          let n : k ≡ length (kept.before ++ step ∷ []) = omega (arith, e, kept.number, length-append kept.before (step ∷ [])) in
          ap (λ m. take m (kept.before ++ step ∷ rest.0)) n ∙ ap (take (length (kept.before ++ step ∷ []))) (sym (append_assoc kept.before (step ∷ []) rest.0)) ∙ take_front (kept.before ++ step ∷ []) rest.0

      is_done : WritesDown (told old) (told new) (torn new) written (took tt) → derives_ending_clause formula step ≡ true → IsElaborated leaves told torn formula first new (Done (count + 1))
      is_done w e = (
        kept.before ++ step ∷ rest.0,
        rest.1,
        kept.left (step ∷ rest.0) rest.1 (follows rest.0 rest.1 rest.2),
        inr (kept.no_clash, record { before = kept.before; step = step; later = rest.0; tables = state.live; split = refl; runs = kept.log_runs; right = taken.0; ends = e; number = ap (λ n. n + 1) kept.number }),
        λ start f. (
          kept.written ++ listed written,
          told_on written w start f,
          (subst (λ (ss : List LogStep). IsProofOf formula ss (kept.written ++ listed written)) (sym (at_step (count + 1) refl)) both_steps, done written refl e part.1),
        ),
      )

      -- it goes on
      runs_on : (w : Option ProofStep) → derives_ending_clause formula step ≡ false → KeepsTie formula kept.tables after (derives_ending_clause formula step) w
          → (tables : Tables) × Runs (proof_calculus formula) (first_tables formula) (kept.written ++ listed w) tables × AreTied formula after.live tables (names_of after)
      runs_on (Some s) e (right, ends, tied) = (after_step kept.tables s, runs_push (proof_calculus formula) (first_tables formula) kept.written s kept.tables kept.proof_runs right (ends ∙ e), tied)
      runs_on None e (ends, tied) = (kept.tables, subst (λ (w : List ProofStep). Runs (proof_calculus formula) (first_tables formula) w kept.tables) (sym (append-nil kept.written)) kept.proof_runs, tied)

      is_kept : WritesDown (told old) (told new) (torn new) written (took tt) → derives_ending_clause formula step ≡ false → Kept leaves told torn formula first new after (count + 1)
      is_kept w e =
          let on = runs_on written e part.1 in
          record {
            no_clash = kept.no_clash;
            before = kept.before ++ step ∷ [];
            written = kept.written ++ listed written;
            tables = on.0;
            log_runs = subst (λ (u : Tables). Runs (log_calculus formula) no_tables (kept.before ++ step ∷ []) u) (sym taken.1) (runs_push (log_calculus formula) no_tables kept.before step state.live kept.log_runs taken.0 e);
            proof_runs = on.1;
            elaborated = elaborates_push formula (first_names formula) no_tables kept.before kept.written (names_of state) state.live step (listed written) (names_of after) kept.log_runs kept.elaborated part.0;
            tied = on.2;
            number = omega (arith, kept.number, length-append kept.before (step ∷ []));
            left = λ steps ending h. subst (λ (ss : List LogStep). leaves first ss ending) (sym (append_assoc kept.before (step ∷ []) steps)) (kept.left (step ∷ steps) ending (follows steps ending h));
            told_all = told_on written w;
          }

      -- the sink took nothing, or tore the step
      torn_here : (w : Option ProofStep) → WritesDown (told old) (told new) (torn new) w (fell sink.Failed) → KeepsTie formula kept.tables after (derives_ending_clause formula step) w → IsCutOff told torn formula first new Write
      torn_here (Some s) (t, e) (right, ends, tied) =
          (s, t, gained_so_far (λ gained. (clashes formula.constraints ≡ false) × (tables : Tables) × Runs (proof_calculus formula) (first_tables formula) gained tables × IsRight (proof_calculus formula) tables s) e (kept.no_clash, kept.tables, kept.proof_runs, right))
      torn_here None h k = absurd h

      no_memory : (w : Option ProofStep) → WritesDown (told old) (told new) (torn new) w (fell sink.Memory) → IsCutOff told torn formula first new Memory
      no_memory (Some s) e = gained_so_far (IsOpen (proof_calculus formula)) e open_so_far
      no_memory None h = absurd h

      pub write_turns : (wrote : Result (Unit {0}) SinkFault) → WritesDown (told old) (told new) (torn new) written wrote → (ends : Bool) → ends ≡ derives_ending_clause formula step
          → Turns leaves told torn formula first new after count (what_follows_of wrote ends (count + 1))
      write_turns (Ok u) w true e = is_done (again written w) (sym e)
        where
          again : (o : Option ProofStep) → WritesDown (told old) (told new) (torn new) o (took u) → WritesDown (told old) (told new) (torn new) o (took tt)
          again (Some s) h = h
          again None h = h
      write_turns (Ok u) w false e = is_kept (again written w) (sym e)
        where
          again : (o : Option ProofStep) → WritesDown (told old) (told new) (torn new) o (took u) → WritesDown (told old) (told new) (torn new) o (took tt)
          again (Some s) h = h
          again None h = h
      write_turns (Err sink.Memory) w ends e = no_memory written w
      write_turns (Err sink.Failed) w ends e = torn_here written w part.1

-- nothing was taken yet
pub kept_first : {X : Type 0} (leaves : X → List LogStep → Ending → Type 0) (told : X → Option (List ProofStep)) (torn : X → ProofStep → Type 0) (formula : Problem) (first : X) (state : State)
    → clashes formula.constraints ≡ false → state.live ≡ no_tables → state.clauses ≡ first_naming (number_of_clauses formula) → state.parities ≡ first_naming (number_of_parities formula)
    → Kept leaves told torn formula first first state 0
kept_first leaves told torn formula first state no_clash e f g =
    let names : names_of state ≡ first_names formula = λ i. record { clauses = f i; parities = g i } in
    record {
      no_clash = no_clash;
      before = [];
      written = [];
      tables = first_tables formula;
      log_runs = e;
      proof_runs = refl;
      elaborated = (refl, names);
      tied = subst (λ (m : Names). AreTied formula state.live (first_tables formula) m) (sym names) (record {
        clauses = tied_first HaveSame (clauses_of formula.constraints) state.live.clauses (ap (λ (t : Tables). t.clauses) e);
        parities = tied_first HaveSameForm (parities_of formula.constraints) state.live.parities (ap (λ (t : Tables). t.parities) e);
      });
      number = refl;
      left = λ steps ending h. h;
      told_all = λ start h. h ∙ ap Some (sym (append-nil start));
    }

pub nothing_gained : (formula : Problem) (told : Option (List ProofStep)) → clashes formula.constraints ≡ false → Gained told told (IsOpen (proof_calculus formula))
nothing_gained formula told no_clash start e = ([], e ∙ ap Some (sym (append-nil start)), (no_clash, (first_tables formula, refl)))

-- where the assumptions clash, nothing is judged and nothing is written, whatever the source has left
pub clash_is_done : {X : Type 0} (leaves : X → List LogStep → Ending → Type 0) (told : X → Option (List ProofStep)) (torn : X → ProofStep → Type 0) (formula : Problem) (first : X)
    → clashes formula.constraints ≡ true → ((steps : List LogStep) × (ending : Ending) × leaves first steps ending) → IsElaborated leaves told torn formula first first (Done 0)
clash_is_done leaves told torn formula first clash left = (
  left.0,
  left.1,
  left.2,
  inl (clash, refl),
  λ start e. ([], e ∙ ap Some (sym (append-nil start)), ((first_names formula, (refl, refl)), inl (clash, refl))),
)
