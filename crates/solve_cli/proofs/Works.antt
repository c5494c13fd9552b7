-- From the steps of a command to what it does.
use Rattle.std.proofs.Common.{true, ◌≡◌, ◌<◌, ◌≤◌, ℕ, [], length, take, Option, Some, None, IfSome, IsSome, Result, Ok, Err, inl, inr, refl, ap, sym, subst, ◌∙◌, append-nil}
use Rattle.std.proofs.lemmas.Option.{IfSome_then}
use Rattle.cx_base.specs.Assumptions.{clashes}
use Rattle.cx_base.specs.Problem.{Problem}
use Rattle.conflict_learn.proofs.ChainOfResolutions.{by_cases}
use Rattle.cx_texts.specs.FormulaText.{FirstOffence}
use Rattle.cx_semantics.specs.Tables.{first_tables}
use Rattle.cx_texts.specs.declared.offence.Offence.{Offence}
use Rattle.cx_desk.specs.declared.desk.Slot.{Slot}
use Rattle.cx_desk.specs.declared.desk.Slot.TheVariants as slot
use Rattle.cx_desk.specs.declared.desk.Port.{Port}
use Rattle.cx_desk.specs.declared.desk.Port.TheVariants as port
use Rattle.cx_desk.specs.Outside.{Bytes, Files, Written, Outside}
use Rattle.cx_desk.specs.Calls.{gained, PutsAll, MessageFaulted}
use Rattle.cx_words.specs.declared.plans.Plan.{Plan}
use Rattle.cx_words.specs.declared.plans.Plan.TheVariants as plan
use Rattle.cnfx_reader.specs.PrintedFormula.{printed_formula}
use Rattle.xor_blast.specs.Blasted.{blasted}
use Rattle.inst_gen.specs.Planting.{planted_formula}
use Rattle.solve_cli.specs.declared.ending.Ending.{Ending}
use Rattle.solve_cli.specs.declared.ending.Ending.TheVariants as ending
use Rattle.solve_cli.specs.declared.ending.Outcome.{Outcome}
use Rattle.solve_cli.specs.declared.ending.Outcome.TheVariants as outcome
use Rattle.solve_cli.specs.Endings.{answer_text}
use Rattle.solve_cli.specs.Seen.{Seen, seen, asks, asks_proof, says, append_to, ReadFault, WriteFault, MessageFault, text_named}
use Rattle.solve_cli.specs.Commands.{formula_of, second_of, proof_of, Stage, formula_started, second_started, proof_created, starts, gives_file, asked_to, text_of, second_text}
use Rattle.solve_cli.specs.Happens.{is_early, end_stage, IfNamed, FormulaRead, IsFormula, FormulaIn, Judged, IsOf, Gains, SoFar, Reaches, Ends, Stops, MayWrite, Works, PutsMessage}
use Rattle.solve_cli.specs.Proofs.{IsRightSoFar}
use Rattle.solve_cli.proofs.Logging.{nothing_logged}
use Rattle.solve_cli.specs.Steps.{FormulaFails, ReadFails, PutsAnswer, Loaded, LeftBy}
use Rattle.solve_cli.specs.SlotTexts.{IsJudgedWithin, JudgesProof, Elaborates}

pub if_some_both : {X : Type 0} {P Q R : X → Type 0} (w : Option X) → IfSome w P → IfSome w Q → ((x : X) → P x → Q x → R x) → IfSome w R
if_some_both None p q f = tt
if_some_both (Some x) p q f = f x p q

append_to-none : (p : Port) (w : Written) → append_to p [] w ≡ w
append_to-none port.Answer w = simp append-nil
append_to-none port.Proof w = simp append-nil
append_to-none port.Message w = simp append-nil

-- nothing said is nothing done
pub says-none : (p : Port) (text : Bytes) (s : Seen) → text ≡ [] → says p text s ≡ s
says-none p text s e = ap (λ (x : Bytes). says p x s) e ∙ ap (λ (w : Written). record s { written = w }) (append_to-none p s.written)

pub early_text : (e : Ending) → is_early e ≡ true → answer_text e ≡ []
unfolding answer_text
early_text (ending.FormulaRefused o) h = refl
early_text (ending.TooLong s) h = refl
early_text e h = cc

too_long_text : (s : Slot) → answer_text (ending.TooLong s) ≡ []
unfolding answer_text
too_long_text s = refl

faulted : (w : Option Files) (text : Bytes) (o : Outside) (k : ℕ) (q : Outside) → MessageFaulted (gained port.Message (take k text) o) q
    → MessageFault (says port.Message (take k text) (seen w o)) (seen w q)
faulted w text o k q h = record { else_same = ap (seen w) h.else_same; rose = h.rose }

-- ---- how far the calls went

starts_faults : (slot : Slot) (name : Option Bytes) (s : Seen) → (starts slot name s).faults ≡ s.faults
starts_faults slot None s = refl
starts_faults slot (Some n) s = refl

gives_faults : (name : Option Bytes) (s : Seen) → (gives_file name s).faults ≡ s.faults
gives_faults None s = refl
gives_faults (Some n) s = refl

-- the calls count no fault
pub faults_at : (stage : Stage) (p : Plan) (s : Seen) → (asked_to stage p s).faults ≡ s.faults
faults_at formula_started p s = starts_faults slot.Formula (formula_of p) s
faults_at second_started p s = starts_faults slot.Second (second_of p) _ ∙ starts_faults slot.Formula (formula_of p) s
faults_at proof_created p s = gives_faults (proof_of p) _ ∙ (starts_faults slot.Second (second_of p) _ ∙ starts_faults slot.Formula (formula_of p) s)

starts_files : (slot : Slot) (name : Option Bytes) (s : Seen) → (starts slot name s).files ≡ s.files
starts_files slot None s = refl
starts_files slot (Some n) s = refl

gives_files : (name : Option Bytes) (s : Seen) → (gives_file name s).files ≡ s.files
gives_files None s = refl
gives_files (Some n) s = refl

-- and leave the files as they were
pub files_at : (stage : Stage) (p : Plan) (s : Seen) → (asked_to stage p s).files ≡ s.files
files_at formula_started p s = starts_files slot.Formula (formula_of p) s
files_at second_started p s = starts_files slot.Second (second_of p) _ ∙ starts_files slot.Formula (formula_of p) s
files_at proof_created p s = gives_files (proof_of p) _ ∙ (starts_files slot.Second (second_of p) _ ∙ starts_files slot.Formula (formula_of p) s)

-- the formula's slot is the first that is started
pub formula_call : (p : Plan) (name : Bytes) (s : Seen) → formula_of p ≡ Some name → asks slot.Formula name s ≡ asked_to formula_started p s
formula_call p name s e = ap (λ (n : Option Bytes). starts slot.Formula n s) (sym e)

pub second_call : (p : Plan) (name : Bytes) (s : Seen) → second_of p ≡ Some name → asks slot.Second name (asked_to formula_started p s) ≡ asked_to second_started p s
second_call p name s e = ap (λ (n : Option Bytes). starts slot.Second n (asked_to formula_started p s)) (sym e)

pub proof_call : (p : Plan) (name : Option Bytes) (s : Seen) → proof_of p ≡ name → gives_file name (asked_to second_started p s) ≡ asked_to proof_created p s
proof_call p name s e = ap (λ (n : Option Bytes). gives_file n (asked_to second_started p s)) (sym e)

-- with nothing on the Proof port
bare : (s : Seen) → s ≡ says port.Proof [] s
bare s = sym (says-none port.Proof [] s refl)

pub all_files : {P : Files → Type 0} (w : Option Files) → ((files : Files) → P files) → IfSome w P
all_files None h = tt
all_files (Some files) h = h files

early_gains : (p : Plan) (limit : ℕ) (files : Files) (e : Ending) → is_early e ≡ true → Gains p limit files e []
early_gains (plan.Elab n l q) limit files (ending.Elaborated k) h = cc
early_gains (plan.Elab n l q) limit files (ending.NotElaborated k c) h = cc
early_gains (plan.Elab n l q) limit files (ending.TooLong slot.Second) h = cc
early_gains (plan.Solve n l c) limit files (ending.Satisfiable v) h = cc
early_gains (plan.Solve n l c) limit files (ending.Unsatisfiable failed) h = cc
early_gains (plan.Solve n l c) limit files (ending.Unknown k) h = cc
early_gains (plan.Demo a b c) limit files (ending.Demonstrated i x) h = cc
early_gains (plan.Trim n q o) limit files (ending.Trimmed core) h = cc
early_gains (plan.Blast n o) limit files (ending.Blasted variables clauses) h = cc
early_gains p limit files e h = refl

-- the empty text is a prefix of a proof
none_so_far : (f : Problem) → IsRightSoFar f []
none_so_far f = record { steps = []; right = by_cases (clashes f.constraints) (λ c. inr (inl (c, refl))) (λ apart. inl (apart, (first_tables f, refl))); rest = []; front = refl }

too_long_gains : (p : Plan) (limit : ℕ) (files : Files) (f : Problem) → IsFormula p limit files f → Gains p limit files (ending.TooLong slot.Second) []
too_long_gains (plan.Elab n l q) limit files f r = (f, r, none_so_far f)
too_long_gains (plan.Solve n l c) limit files f r = refl
too_long_gains (plan.Demo a b c) limit files f r = refl
too_long_gains p limit files f r = refl

nothing_yet : (stage : Stage) (p : Plan) (limit : ℕ) (old : Seen) → Reaches stage p limit old → IfSome old.files (λ files. SoFar stage p limit files [])
nothing_yet proof_created (plan.Elab n l q) limit old h = IfSome_then old.files h (λ files r. (r.0, r.1, none_so_far r.0))
nothing_yet proof_created (plan.Solve n l c) limit old h = IfSome_then old.files h (λ files r. (r.0, r.1, nothing_logged r.0))
nothing_yet proof_created (plan.Demo kind size seed) limit old h = all_files old.files (λ files. nothing_logged (planted_formula kind size seed))
nothing_yet proof_created (plan.Trim n q o) limit old h = IfSome_then old.files h (λ files r. (r.0, r.1, none_so_far r.0))
nothing_yet proof_created (plan.Blast n o) limit old h = IfSome_then old.files h (λ files r. (r.0, r.1, (printed_formula (blasted r.0), refl)))
nothing_yet stage p limit old h = all_files old.files (λ files. refl)

pub stopped : (stage : Stage) (p : Plan) (limit : ℕ) (old at : Seen) → Reaches stage p limit old → at ≡ asked_to stage p old → Stops p limit old at
stopped stage p limit old at reaches is = record {
  stage = stage;
  reaches = reaches;
  proof = [];
  so_far = nothing_yet stage p limit old reaches;
  at_is = is ∙ bare (asked_to stage p old);
}

-- ---- the endings of each command

named_is_some : {A : Type 0} {o : Option A} {x : A} → o ≡ Some x → IsSome o
named_is_some e = rw e refl

-- an ending of a formula that is not read comes when its slot was started
early_stage : (e : Ending) → is_early e ≡ true → end_stage e ≡ formula_started
early_stage (ending.FormulaRefused o) h = refl
early_stage (ending.TooLong slot.Formula) h = refl
early_stage e h = cc

early_own : (p : Plan) (name : Bytes) (e : Ending) → formula_of p ≡ Some name → is_early e ≡ true → IsOf p e
early_own p name (ending.FormulaRefused o) named h = named_is_some named
early_own p name (ending.TooLong slot.Formula) named h = named_is_some named
early_own p name e named h = cc

judged_own : (e : Ending) (p : Plan) (f : Problem) (text : Bytes) → Judged e p f text → IsOf p e
judged_own (ending.Verified k) (plan.Check n q) f text h = tt
judged_own (ending.NotVerified k c) (plan.Check n q) f text h = tt
judged_own ending.ModelRight (plan.Model n a) f text h = tt
judged_own (ending.ModelWrong w) (plan.Model n a) f text h = tt
judged_own (ending.Elaborated k) (plan.Elab n l q) f text h = tt
judged_own (ending.NotElaborated k c) (plan.Elab n l q) f text h = tt
judged_own (ending.Satisfiable v) (plan.Solve n l c) f text h = tt
judged_own (ending.Unsatisfiable failed) (plan.Solve n l c) f text h = tt
judged_own (ending.Unknown k) (plan.Solve n l c) f text h = tt
judged_own (ending.Demonstrated i x) (plan.Demo kind size seed) f text h = (h.0, h.1)
judged_own (ending.Trimmed core) (plan.Trim n q o) f text h = tt
judged_own (ending.NotTrimmed k c) (plan.Trim n q o) f text h = tt
judged_own (ending.Blasted variables clauses) (plan.Blast n o) f text h = tt
judged_own (ending.TooManyVariables k) (plan.Blast n o) f text h = tt
judged_own (ending.Affine space) (plan.Affine n) f text h = tt
judged_own e p f text h = absurd h

-- ---- the formula

-- the formula was not read
pub formula_failed : (p : Plan) (name : Bytes) (limit : ℕ) (old : Seen) (o : Outcome) (new : Seen) → formula_of p ≡ Some name
    → FormulaFails name limit old o new → Works p limit old o new
formula_failed p name limit old (outcome.Ended e) new named h = (
  asks slot.Formula name old,
  record {
    own = early_own p name e named h.0;
    reaches = rw (early_stage e h.0) tt;
    due = IfSome_then old.files h.2 (λ files early. inl (rw named early));
    proof = [];
    gains = all_files old.files (λ files. early_gains p limit files e h.0);
    before_is = rw (early_stage e h.0) (formula_call p name old named ∙ bare (asked_to formula_started p old));
  },
  h.1 ∙ sym (says-none port.Answer (answer_text e) (asks slot.Formula name old) (early_text e h.0)),
)
formula_failed p name limit old outcome.ReadFault new named h =
    (asks slot.Formula name old, stopped formula_started p limit old (asks slot.Formula name old) tt (formula_call p name old named), h)
formula_failed p name limit old outcome.Memory new named h = stopped formula_started p limit old new tt (h ∙ formula_call p name old named)
formula_failed p name limit old o new named h = absurd h

-- the offence of a text that was read whole
pub offence_due : (name text : Bytes) (limit : ℕ) (old mid : Seen) (o : Offence) → mid ≡ asks slot.Formula name old → length text ≤ limit
    → IfSome old.files (λ files. text ≡ text_named name files) → FirstOffence text o → FormulaFails name limit old (outcome.Ended (ending.FormulaRefused o)) mid
offence_due name text limit old mid o is fits named bad =
    (refl, is, IfSome_then old.files named (λ files t. (subst (λ (x : Bytes). length x ≤ limit) t fits, subst (λ (x : Bytes). FirstOffence x o) t bad)))

pub formula_read : (p : Plan) (name : Bytes) (limit : ℕ) (old : Seen) (f : Problem) → formula_of p ≡ Some name
    → IfSome old.files (λ files. FormulaRead limit (text_named name files) f) → IfSome old.files (λ files. IsFormula p limit files f)
formula_read p name limit old f named h = IfSome_then old.files h (λ files r. rw named r)

pub formula_in : (p : Plan) (limit : ℕ) (old : Seen) (f : Problem) → IfSome old.files (λ files. IsFormula p limit files f) → FormulaIn p limit old
formula_in p limit old f h = IfSome_then old.files h (λ files r. (f, r))

-- ---- the calls after it

-- the second slot was not started
pub start_failed : (p : Plan) (name : Bytes) (limit : ℕ) (old mid : Seen) (f : Problem) (o : Outcome) (new : Seen) → second_of p ≡ Some name
    → mid ≡ asked_to formula_started p old → IfSome old.files (λ files. IsFormula p limit files f)
    → (o ≡ outcome.ReadFault) × ReadFault (asks slot.Second name mid) new → Works p limit old o new
start_failed p name limit old mid f o new named first read h =
    subst (λ (x : Outcome). Works p limit old x new) (sym h.0) (
      asks slot.Second name mid,
      stopped second_started p limit old (asks slot.Second name mid) (formula_in p limit old f read)
          (ap (asks slot.Second name) first ∙ second_call p name old named),
      h.1,
    )

-- a command with a second text writes on its Proof port without a condition
pub second_may_write : (p : Plan) (name : Bytes) (limit : ℕ) (old : Seen) → second_of p ≡ Some name → MayWrite p limit old
second_may_write (plan.Solve n l c) name limit old e = tt
second_may_write (plan.Check n q) name limit old e = tt
second_may_write (plan.Elab n l q) name limit old e = tt
second_may_write (plan.Model n a) name limit old e = tt
second_may_write (plan.Demo a b c) name limit old e = tt
second_may_write (plan.Trim n q o) name limit old e = tt
second_may_write (plan.Blast n o) name limit old e = cc
second_may_write (plan.Affine n) name limit old e = tt

-- the Proof port was not given its file
pub create_failed : (p : Plan) (proof : Option Bytes) (limit : ℕ) (old mid : Seen) (f : Problem) (o : Outcome) (new : Seen) → proof_of p ≡ proof → MayWrite p limit old
    → mid ≡ asked_to second_started p old → IfSome old.files (λ files. IsFormula p limit files f)
    → (o ≡ outcome.WriteFault) × IfNamed proof (λ name. WriteFault (asks_proof name mid) new) → Works p limit old o new
create_failed p None limit old mid f o new named may second read h = absurd h.1
create_failed p (Some name) limit old mid f o new named may second read h =
    subst (λ (x : Outcome). Works p limit old x new) (sym h.0) (inr (inl (record {
      name = name;
      named = named;
      reaches = formula_in p limit old f read;
      may_write = may;
      fault = subst (λ (m : Seen). WriteFault (asks_proof name m) new) second h.1;
    })))

-- the second text was not read
pub second_failed : (p : Plan) (name : Bytes) (limit : ℕ) (old : Seen) (f : Problem) (mid : Seen) (o : Outcome) (new : Seen) → second_of p ≡ Some name
    → mid ≡ asked_to proof_created p old → IfSome old.files (λ files. IsFormula p limit files f)
    → ReadFails slot.Second name limit mid o new → Works p limit old o new
second_failed p name limit old f mid (outcome.Ended (ending.TooLong slot.Second)) new named is read h = (
  asked_to proof_created p old,
  record {
    own = named_is_some named;
    reaches = formula_in p limit old f read;
    due = if_some_both old.files read (subst (λ (w : Option Files). IfSome w (λ files. limit < length (text_named name files))) (ap (λ (s : Seen). s.files) is ∙ files_at proof_created p old) h.2)
        (λ files r long. inr (record { formula = f; is_formula = r; due = inl (rw named long, refl) }));
    proof = [];
    gains = IfSome_then old.files read (λ files r. too_long_gains p limit files f r);
    before_is = bare (asked_to proof_created p old);
  },
  h.1 ∙ (is ∙ sym (says-none port.Answer (answer_text (ending.TooLong slot.Second)) _ (too_long_text slot.Second))),
)
second_failed p name limit old f mid outcome.ReadFault new named is read h =
    (mid, stopped proof_created p limit old mid (formula_in p limit old f read) is, h)
second_failed p name limit old f mid outcome.Memory new named is read h = stopped proof_created p limit old new (formula_in p limit old f read) (h ∙ is)
second_failed p name limit old f mid (outcome.Ended (ending.TooLong slot.Formula)) new named is read h = let e = h.0 in cc
second_failed p name limit old f mid o new named is read h = absurd h

-- both texts were read
pub loaded : (p : Plan) (name : Bytes) (limit : ℕ) (old : Seen) (f : Problem) (text : Bytes) (mid : Seen) (new : Seen) → second_of p ≡ Some name
    → mid ≡ asked_to proof_created p old → IfSome old.files (λ files. IsFormula p limit files f)
    → (new ≡ mid) × (length text ≤ limit) × IfSome mid.files (λ files. text ≡ text_named name files)
    → Loaded p limit old f text new
loaded p name limit old f text mid new named is read h = record {
  asked = h.0 ∙ is;
  is_formula = read;
  fits = h.1;
  is_second = IfSome_then old.files (subst (λ (w : Option Files). IfSome w (λ files. text ≡ text_named name files)) (ap (λ (s : Seen). s.files) is ∙ files_at proof_created p old) h.2)
      (λ files t. t ∙ ap (λ (n : Option Bytes). text_of n files) (sym named));
}

-- ---- the answer

-- an ending whose answer was written, or a prefix of it
pub answered : (p : Plan) (limit : ℕ) (old : Seen) (e : Ending) (before : Seen) (o : Outcome) (new : Seen)
    → Ends p limit old e before → PutsAnswer e before o new → Works p limit old o new
answered p limit old e before (outcome.Ended d) new ends h = (
  before,
  subst (λ (x : Ending). Ends p limit old x before) (sym h.0) ends,
  h.1 ∙ ap (λ (x : Ending). says port.Answer (answer_text x) before) (sym h.0),
)
answered p limit old e before outcome.WriteFault new ends h = inl (record {
  ending = e;
  before = before;
  ends = ends;
  count = h.0;
  front = h.1;
  fault = h.2;
})
answered p limit old e before o new ends h = absurd h

-- an ending that judges a second text comes after all calls
pub judged_late : (e : Ending) (p : Plan) (name : Bytes) (f : Problem) (text : Bytes) → second_of p ≡ Some name → Judged e p f text → end_stage e ≡ proof_created
judged_late (ending.FormulaRefused o) p name f text named h = absurd h
judged_late (ending.TooLong s) p name f text named h = absurd h
judged_late (ending.TooManyVariables k) (plan.Blast n o) name f text named h = cc
judged_late (ending.TooManyVariables k) p name f text named h = absurd h
judged_late e p name f text named h = refl

-- what was left on the Proof port, of the files at the start
left_gains : (n l q : Bytes) (limit : ℕ) (files : Files) (f : Problem) (e : Ending) (proof : Bytes)
    → FormulaRead limit (text_named n files) f → LeftBy e f (text_named l files) proof → Gains (plan.Elab n l q) limit files e proof
left_gains n l q limit files f (ending.Elaborated k) proof read left = (f, read, left)
left_gains n l q limit files f (ending.NotElaborated k c) proof read left = (f, read, left)
left_gains n l q limit files f e proof read left = absurd left

-- a second text that was judged: its ending, and what there is before the answer
pub judged_ends : (p : Plan) (limit : ℕ) (old : Seen) (f : Problem) (mid : Seen) (e : Ending) (proof : Bytes) → mid ≡ asked_to proof_created p old
    → IfSome old.files (λ files. IsFormula p limit files f) → IsOf p e → end_stage e ≡ proof_created
    → IfSome old.files (λ files. (length (second_text p files) ≤ limit) × Judged e p f (second_text p files))
    → IfSome old.files (λ files. Gains p limit files e proof) → Ends p limit old e (says port.Proof proof mid)
judged_ends p limit old f mid e proof is read own late judged gains = record {
  own = own;
  reaches = rw late (formula_in p limit old f read);
  due = if_some_both old.files read judged (λ files r j. inr (record { formula = f; is_formula = r; due = inr j }));
  proof = proof;
  gains = gains;
  before_is = rw late (ap (says port.Proof proof) is);
}

-- where both texts were read
module _ {p : Plan} {limit : ℕ} {old : Seen} {f : Problem} {text : Bytes} {mid : Seen} (h : Loaded p limit old f text mid) where
  reached : FormulaIn p limit old
  reached = formula_in p limit old f h.is_formula

  files_same : mid.files ≡ old.files
  files_same = ap (λ (s : Seen). s.files) h.asked ∙ files_at proof_created p old

  -- what they come to
  ends : {name : Bytes} (e : Ending) (proof : Bytes) → second_of p ≡ Some name → Judged e p f text → IfSome old.files (λ files. Gains p limit files e proof)
      → Ends p limit old e (says port.Proof proof mid)
  ends {name = name} e proof named judged gains =
      judged_ends p limit old f mid e proof h.asked h.is_formula (judged_own e p f text judged) (judged_late e p name f text named judged)
      (IfSome_then old.files h.is_second (λ files t. subst (λ (x : Bytes). (length x ≤ limit) × Judged e p f x) t (h.fits, judged))) gains

  -- what they come to with nothing on the Proof port, and the answer
  pub concluded : {name : Bytes} (e : Ending) (o : Outcome) (new : Seen) → second_of p ≡ Some name → Judged e p f text → ((files : Files) → Gains p limit files e []) → PutsAnswer e mid o new
      → Works p limit old o new
  concluded e o new named judged gains answers =
      answered p limit old e mid o new (subst (Ends p limit old e) (sym (bare mid)) (ends e [] named judged (all_files old.files gains))) answers

  -- out of memory for the judgement
  pub wanted : Stops p limit old mid
  wanted = stopped proof_created p limit old mid reached h.asked

-- ---- a proof

-- the proof in the second slot was judged, and the answer written
pub check_answered : (n q : Bytes) (limit : ℕ) (old : Seen) (f : Problem) (mid : Seen) (e : Ending) (at : Seen) (o : Outcome) (new : Seen)
    → mid ≡ asked_to proof_created (plan.Check n q) old → IfSome old.files (λ files. IsFormula (plan.Check n q) limit files f)
    → JudgesProof f q limit mid (Ok e) at → PutsAnswer e at o new → Works (plan.Check n q) limit old o new
check_answered n q limit old f mid e at o new is read judged answers =
    let p = plan.Check n q in
    let here : at ≡ asked_to proof_created p old = judged.1 ∙ is in
    let files : mid.files ≡ old.files = ap (λ (s : Seen). s.files) is ∙ files_at proof_created p old in
    let due = subst (λ (w : Option Files). IfSome w (λ files. (n : Bytes) → IsJudgedWithin (plan.Check n q) limit f (text_named q files) e)) files judged.2 in
    let own = judged.0 n in
    answered p limit old e at o new
    (subst (Ends p limit old e) (sym (bare at))
    (judged_ends p limit old f at e [] here read own.0 own.1 (IfSome_then old.files due (λ files j. j n)) (all_files old.files (λ files. refl))))
    answers

-- ---- a log

module _ (n l q : Bytes) (limit : ℕ) (old : Seen) (f : Problem) (mid : Seen) (is : mid ≡ asked_to proof_created (plan.Elab n l q) old)
    (read : IfSome old.files (λ files. IsFormula (plan.Elab n l q) limit files f)) where
  -- nothing was written on a Proof port that was given its file
  pub none_created : mid.written.proof ≡ []
  none_created = ap (λ (s : Seen). s.written.proof) is

  of_old : (P : Files → Type 0) → IfSome mid.files P → IfSome old.files P
  of_old P h = subst (λ (w : Option Files). IfSome w P) (ap (λ (s : Seen). s.files) is ∙ files_at proof_created (plan.Elab n l q) old) h

  -- the log was judged, its proof written, and the answer
  pub elab_answered : (e : Ending) (at : Seen) (o : Outcome) (new : Seen) → Elaborates f l limit mid (Ok e) at → PutsAnswer e at o new → Works (plan.Elab n l q) limit old o new
  elab_answered e at o new made answers =
      let p = plan.Elab n l q in
      let own = made.0 n q in
      let proof = made.1.0 in
      let left = of_old (λ files. ((n q : Bytes) → IsJudgedWithin (plan.Elab n l q) limit f (text_named l files) e) × LeftBy e f (text_named l files) proof) made.1.2 in
      answered p limit old e at o new
      (subst (Ends p limit old e) (sym made.1.1)
      (judged_ends p limit old f mid e proof is read own.0 own.1 (IfSome_then old.files left (λ files x. x.0 n q))
      (if_some_both old.files read left (λ files r x. left_gains n l q limit files f e proof r x.1))))
      answers

  stops : (proof : Bytes) → IfSome mid.files (λ _. IsRightSoFar f proof) → Stops (plan.Elab n l q) limit old (says port.Proof proof mid)
  stops proof right = record {
    stage = proof_created;
    reaches = formula_in (plan.Elab n l q) limit old f read;
    proof = proof;
    so_far = if_some_both old.files read (of_old (λ _. IsRightSoFar f proof) right) (λ files r x. (f, r, x));
    at_is = ap (says port.Proof proof) is;
  }

  -- the log is too long; the steps on the Proof port are right
  log_too_long : (proof : Bytes) → IfSome mid.files (λ files. (limit < length (text_named l files)) × IsRightSoFar f proof) → Ends (plan.Elab n l q) limit old (ending.TooLong slot.Second) (says port.Proof proof mid)
  log_too_long proof h = record {
    own = refl;
    reaches = formula_in (plan.Elab n l q) limit old f read;
    due = if_some_both old.files read (of_old (λ files. (limit < length (text_named l files)) × IsRightSoFar f proof) h) (λ files r x. inr (record { formula = f; is_formula = r; due = inl (x.0, refl) }));
    proof = proof;
    gains = if_some_both old.files read (of_old (λ files. (limit < length (text_named l files)) × IsRightSoFar f proof) h) (λ files r x. (f, r, x.1));
    before_is = ap (says port.Proof proof) is;
  }

  -- the log was not judged to its end, its proof not written, or the rest of the log not read
  pub elab_failed : (o : Outcome) (new : Seen) → Elaborates f l limit mid (Err o) new → Works (plan.Elab n l q) limit old o new
  unfolding stops
  elab_failed outcome.Memory new m = subst (Stops (plan.Elab n l q) limit old) (sym m.1) (stops m.0 m.2)
  elab_failed outcome.ReadFault new m = (says port.Proof m.0 mid, stops m.0 m.2, m.1)
  elab_failed outcome.WriteFault new m = inr (inr (record { writes = refl; may_write = tt; at = says port.Proof m.0 mid; stops = stops m.0 m.2; created = refl; fault = m.1 }))
  elab_failed (outcome.Ended (ending.TooLong slot.Second)) new m = (
    says port.Proof m.0 mid,
    log_too_long m.0 m.2,
    m.1 ∙ sym (says-none port.Answer (answer_text (ending.TooLong slot.Second)) _ (too_long_text slot.Second)),
  )
  elab_failed o new m = absurd m

-- ---- the message

pub tells_of : {T E : Type 0} (w : Option Files) (text : Bytes) (o : Outside) (r : Result T E) (q : Outside)
    → PutsAll port.Message text o r q → PutsMessage text (seen w o) (seen w q)
tells_of w text o (Ok v) q h = inl (ap (seen w) h)
tells_of w text o (Err e) q h = inr (h.0, h.1, faulted w text o h.0 q h.2)
