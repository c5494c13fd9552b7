-- At most one ending is due for a command and its files.
use Rattle.std.proofs.Common.{◌≡◌, ◌<◌, ◌≤◌, ◌⊎◌, ℕ, Bool, List, length, Option, Some, None, Result, Ok, Err, inl, inr, refl, ap, sym, subst, ◌∙◌, arith}
use Rattle.std.specs.Prelude.{⊤}
use Rattle.std.proofs.lemmas.Bool.{cases_lt}
use Rattle.cx_base.specs.Problem.{Problem}
use Rattle.cx_base.specs.declared.literal.TheConstants.{MAX_VARIABLE}
use Rattle.xor_blast.specs.Blasted.{PassesLimit, variables_after}
use Rattle.cx_texts.specs.declared.offence.Offence.{Offence}
use Rattle.cx_texts.specs.FormulaText.{Reads, FirstOffence, ReadsAs}
use Rattle.cx_semantics.specs.Judging.{Judgement, accepted, refused}
use Rattle.cx_judgements.specs.ProofTexts.{ProofJudgedAs}
use Rattle.cx_judgements.specs.LogTexts.{LogJudgedAs}
use Rattle.model_out.proofs.JudgingLaws.{same_answer}
use Rattle.model_out.specs.Answers.{AnswerRefusedFor, AnswersAs}
use Rattle.model_out.specs.declared.refusal.AnswerRefusal.{AnswerRefusal}
use Rattle.model_out.specs.declared.refusal.AnswerRefusal.TheVariants as refusal
use Rattle.cx_judgements.proofs.OneJudgement.{one_proof_judgement, one_log_judgement}
use Rattle.cx_texts.proofs.TextLaws.{one_formula_reading}
use Rattle.cx_desk.specs.declared.desk.Slot.TheVariants as slot
use Rattle.cx_desk.specs.Outside.{Bytes, Files}
use Rattle.cx_words.specs.declared.plans.Plan.{Plan}
use Rattle.cx_words.specs.declared.plans.Plan.TheVariants as plan
use Rattle.solve_cli.specs.declared.ending.Ending.{Ending}
use Rattle.solve_cli.specs.declared.ending.Ending.TheVariants as ending
use Rattle.solve_cli.specs.declared.ending.WrongAnswer.{WrongAnswer}
use Rattle.solve_cli.specs.declared.ending.WrongAnswer.TheVariants as wrong
use Rattle.solve_cli.specs.Seen.{text_named}
use Rattle.solve_cli.specs.Commands.{formula_of, second_of, second_text}
use Rattle.solve_cli.specs.Happens.{IfNamed, IfNamedElse, FormulaRead, IsPlanted, IsFormula, EarlyDue, refusal_of, Judged, LateDue, AreOfBlasted, Due, IsEarlyOrRead}
use Rattle.solve_cli.specs.Happens.{Early as AreEarly}
use Rattle.solve_cli.specs.TwoRuns.{IsComputed}
use Rattle.solve_cli.proofs.Dues.{same_of_one, one_formula}
use Rattle.solve_cli.proofs.OneTrimming.{one_trim_ending}

reading : (text : Bytes) (a b : Result Problem Offence) → ReadsAs text a → ReadsAs text b → a ≡ b
reading text a b p q = same_of_one {P = ReadsAs text} (one_formula_reading text) a b p q

one_offence : (text : Bytes) (a b : Offence) → FirstOffence text a → FirstOffence text b → a ≡ b
one_offence text a b p q = let e : ◌≡◌ {A = Result Problem Offence} (Err a) (Err b) = reading text (Err a) (Err b) p q in cc

pub not_both_read : (text : Bytes) (f : Problem) (o : Offence) → Reads text f → FirstOffence text o → ⊥
not_both_read text f o p q = let e : ◌≡◌ {A = Result Problem Offence} (Ok f) (Err o) = reading text (Ok f) (Err o) p q in cc

-- the endings that may be due, so that two of them are few cases
data Early (limit : ℕ) (text : Bytes) : Ending → Type 0 where
  bad : (o : Offence) → length text ≤ limit → FirstOffence text o → Early limit text (ending.FormulaRefused o)
  long : limit < length text → Early limit text (ending.TooLong slot.Formula)

early : (limit : ℕ) (text : Bytes) (e : Ending) → EarlyDue limit text e → Early limit text e
early limit text (ending.FormulaRefused o) h = bad o h.0 h.1
early limit text (ending.TooLong slot.Formula) h = long h
early limit text e h = absurd h

two_early : (limit : ℕ) (text : Bytes) (d e : Ending) → Early limit text d → Early limit text e → d ≡ e
two_early limit text _ _ (bad a _ p) (bad b _ q) = ap ending.FormulaRefused (one_offence text a b p q)
two_early limit text _ _ (bad a fits p) (long l) = absurd (omega arith)
two_early limit text _ _ (long l) (bad b fits q) = absurd (omega arith)
two_early limit text _ _ (long l) (long m) = refl

not_early : (limit : ℕ) (text : Bytes) (f : Problem) (e : Ending) → Early limit text e → FormulaRead limit text f → ⊥
not_early limit text f _ (bad o _ p) r = not_both_read text f o r.reads p
not_early limit text f _ (long l) r = let fits : length text ≤ limit = r.fits in absurd (omega arith)

-- those of a command's formula, where it has one
early_of : (name : Option Bytes) (limit : ℕ) (files : Files) (d e : Ending) → IfNamed name (λ n. EarlyDue limit (text_named n files) d)
    → IfNamed name (λ n. EarlyDue limit (text_named n files) e) → d ≡ e
early_of None limit files d e h k = absurd h
early_of (Some n) limit files d e h k = two_early limit (text_named n files) d e (early limit (text_named n files) d h) (early limit (text_named n files) e k)

early_or_read : (name : Option Bytes) (limit : ℕ) (files : Files) (f : Problem) (e : Ending) → IfNamed name (λ n. EarlyDue limit (text_named n files) e)
    → (Q : Type 0) → IfNamedElse name (λ n. FormulaRead limit (text_named n files) f) Q → ⊥
early_or_read None limit files f e h Q k = absurd h
early_or_read (Some n) limit files f e h Q k = not_early limit (text_named n files) f e (early limit (text_named n files) e h) k

one_planted : (p : Plan) (f g : Problem) → IsPlanted p f → IsPlanted p g → f ≡ g
one_planted (plan.Demo kind size seed) f g h k = h ∙ sym k
one_planted p f g h k = absurd h

formula_of_name : (p : Plan) (name : Option Bytes) (limit : ℕ) (files : Files) (f g : Problem) → IfNamedElse name (λ n. FormulaRead limit (text_named n files) f) (IsPlanted p f)
    → IfNamedElse name (λ n. FormulaRead limit (text_named n files) g) (IsPlanted p g) → f ≡ g
formula_of_name p None limit files f g h k = one_planted p f g h k
formula_of_name p (Some n) limit files f g h k = one_formula (text_named n files) f g h.reads k.reads

-- ---- the judgements

-- an ending is that of a judgement which the text has
abbrev EndsBy : {A : Type 0} → (A → Type 0) → (A → Ending) → Ending → Type 0
EndsBy {A} Has ending_of e = (a : A) × (e ≡ ending_of a) × Has a

same_ending : {A : Type 0} {Has : A → Type 0} (ending_of : A → Ending) (d e : Ending) → ((a b : A) → Has a → Has b → a ≡ b)
    → EndsBy Has ending_of d → EndsBy Has ending_of e → d ≡ e
same_ending ending_of d e one h k = h.1 ∙ ap ending_of (one h.0 k.0 h.2 k.2) ∙ sym k.1

abbrev proof_ending : Judgement → Ending
proof_ending (accepted k) = ending.Verified k
proof_ending (refused k c) = ending.NotVerified k c

of_proof : (n q : Bytes) (f : Problem) (text : Bytes) (e : Ending) → Judged e (plan.Check n q) f text → EndsBy (ProofJudgedAs f text) proof_ending e
of_proof n q f text (ending.Verified k) h = (accepted k, refl, h)
of_proof n q f text (ending.NotVerified k c) h = (refused k c, refl, h)
of_proof n q f text e h = absurd h

one_proof_ending : (n q : Bytes) (f : Problem) (text : Bytes) (d e : Ending) → Judged d (plan.Check n q) f text → Judged e (plan.Check n q) f text → d ≡ e
one_proof_ending n q f text d e h k =
    same_ending {Has = ProofJudgedAs f text} proof_ending d e (same_of_one {P = ProofJudgedAs f text} (one_proof_judgement f text)) (of_proof n q f text d h) (of_proof n q f text e k)

abbrev log_ending : Judgement → Ending
log_ending (accepted k) = ending.Elaborated k
log_ending (refused k c) = ending.NotElaborated k c

of_log : (n l q : Bytes) (f : Problem) (text : Bytes) (e : Ending) → Judged e (plan.Elab n l q) f text → EndsBy (LogJudgedAs f text) log_ending e
of_log n l q f text (ending.Elaborated k) h = (accepted k, refl, h)
of_log n l q f text (ending.NotElaborated k c) h = (refused k c, refl, h)
of_log n l q f text e h = absurd h

one_log_ending : (n l q : Bytes) (f : Problem) (text : Bytes) (d e : Ending) → Judged d (plan.Elab n l q) f text → Judged e (plan.Elab n l q) f text → d ≡ e
one_log_ending n l q f text d e h k =
    same_ending {Has = LogJudgedAs f text} log_ending d e (same_of_one {P = LogJudgedAs f text} (one_log_judgement f text)) (of_log n l q f text d h) (of_log n l q f text e k)

-- the values that an answer gives, or the cause of its refusal
abbrev Answered : Type 0
Answered = Result (List Bool) AnswerRefusal

abbrev IsAnswer : Problem → Bytes → Answered → Type 0
IsAnswer f text a = (◌≡◌ {A = Answered} a (Err refusal.Memory) → ⊥) × AnswersAs text f a

-- back from the reader's name of a cause
abbrev back : AnswerRefusal → WrongAnswer
back refusal.NoStatusLine = wrong.NoStatusLine
back (refusal.BadToken place) = wrong.BadToken place
back (refusal.Missing v) = wrong.Missing v
back (refusal.Twice v) = wrong.Twice v
back (refusal.Unmet n) = wrong.Unmet n
back refusal.Memory = wrong.NoStatusLine

abbrev answer_ending : Answered → Ending
answer_ending (Ok values) = ending.ModelRight
answer_ending (Err why) = ending.ModelWrong (back why)

of_wrong : (f : Problem) (text : Bytes) (w : WrongAnswer) → AnswerRefusedFor text f (refusal_of w) → EndsBy (IsAnswer f text) answer_ending (ending.ModelWrong w)
of_wrong f text wrong.NoStatusLine h = (Err refusal.NoStatusLine, refl, ((λ e. cc), h))
of_wrong f text (wrong.BadToken b) h = (Err (refusal.BadToken b), refl, ((λ e. cc), h))
of_wrong f text (wrong.Missing v) h = (Err (refusal.Missing v), refl, ((λ e. cc), h))
of_wrong f text (wrong.Twice v) h = (Err (refusal.Twice v), refl, ((λ e. cc), h))
of_wrong f text (wrong.Unmet n) h = (Err (refusal.Unmet n), refl, ((λ e. cc), h))

of_answer : (n a : Bytes) (f : Problem) (text : Bytes) (e : Ending) → Judged e (plan.Model n a) f text → EndsBy (IsAnswer f text) answer_ending e
of_answer n a f text ending.ModelRight h = (Ok h.0, refl, ((λ e. cc), h.1))
of_answer n a f text (ending.ModelWrong w) h = of_wrong f text w h
of_answer n a f text e h = absurd h

one_answer_ending : (n a : Bytes) (f : Problem) (text : Bytes) (d e : Ending) → Judged d (plan.Model n a) f text → Judged e (plan.Model n a) f text → d ≡ e
one_answer_ending n a f text d e h k =
    same_ending {Has = IsAnswer f text} answer_ending d e (λ x y p q. same_answer text f x y p.0 q.0 p.1 q.1) (of_answer n a f text d h) (of_answer n a f text e k)

-- ---- formulas in clauses

-- what putting a formula in clauses ends in
data EndsInClauses (f : Problem) : Ending → Type 0 where
  made : (variables clauses : ℕ) → AreOfBlasted f variables clauses → EndsInClauses f (ending.Blasted variables clauses)
  past : (k : ℕ) → PassesLimit f k → EndsInClauses f (ending.TooManyVariables k)

ends_in_clauses : (n o : Bytes) (f : Problem) (text : Bytes) (e : Ending) → Judged e (plan.Blast n o) f text → EndsInClauses f e
ends_in_clauses n o f text (ending.Blasted variables clauses) h = made variables clauses h
ends_in_clauses n o f text (ending.TooManyVariables k) h = past k h
ends_in_clauses n o f text e h = absurd h

-- of two constraints the later one is not the first that passes the limit
not_later : (f : Problem) (i k : ℕ) → PassesLimit f i → PassesLimit f k → i < k → ⊥
not_later f i k h q less =
    let above : MAX_VARIABLE < variables_after f i = h.above in
    let within : variables_after f i ≤ MAX_VARIABLE = q.before i less in absurd (omega arith)

one_limit : (f : Problem) (i k : ℕ) → PassesLimit f i → PassesLimit f k → i ≡ k
one_limit f i k h q = by (cases_lt i k) (cases_lt k i)
  where
    by : (i < k) ⊎ (k ≤ i) → (k < i) ⊎ (i ≤ k) → i ≡ k
    by (inl less) c = absurd (not_later f i k h q less)
    by (inr a) (inl less) = absurd (not_later f k i q h less)
    by (inr a) (inr b) = omega (arith, a, b)

same_in_clauses : (f : Problem) (d e : Ending) → EndsInClauses f d → EndsInClauses f e → d ≡ e
same_in_clauses f _ _ (made v c h) (made w e k) = ap (λ (x : ℕ). ending.Blasted x c) (h.variables_are ∙ sym k.variables_are) ∙ ap (ending.Blasted w) (h.clauses_are ∙ sym k.clauses_are)
same_in_clauses f _ _ (made v c h) (past k q) = absurd (h.within k q)
same_in_clauses f _ _ (past k q) (made v c h) = absurd (h.within k q)
same_in_clauses f _ _ (past i h) (past k q) = ap ending.TooManyVariables (one_limit f i k h q)

one_blast_ending : (n o : Bytes) (f : Problem) (text : Bytes) (d e : Ending) → Judged d (plan.Blast n o) f text → Judged e (plan.Blast n o) f text → d ≡ e
one_blast_ending n o f text d e h k = same_in_clauses f d e (ends_in_clauses n o f text d h) (ends_in_clauses n o f text e k)

-- ---- a command and its files

-- the commands of which one ending is due
abbrev HasOneEnding : Plan → Type 0
HasOneEnding (plan.Check n q) = ⊤
HasOneEnding (plan.Model n a) = ⊤
HasOneEnding (plan.Elab n l q) = ⊤
HasOneEnding (plan.Trim n q o) = ⊤
HasOneEnding (plan.Blast n o) = ⊤
HasOneEnding p = ⊥

of_second : (p : Plan) (second : Bytes) → second_of p ≡ Some second → HasOneEnding p
of_second (plan.Check n q) second named = tt
of_second (plan.Model n a) second named = tt
of_second (plan.Elab n l q) second named = tt
of_second (plan.Trim n q o) second named = tt
of_second (plan.Blast n o) second named = tt
of_second (plan.Solve n l c) second named = cc
of_second (plan.Demo a b c) second named = cc
of_second (plan.Affine n) second named = cc

of_computed : (p : Plan) → IsComputed p → HasOneEnding p
of_computed (plan.Check n q) h = tt
of_computed (plan.Model n a) h = tt
of_computed (plan.Trim n q o) h = tt
of_computed (plan.Blast n o) h = tt
of_computed p h = absurd h

one_judged : (p : Plan) (f : Problem) (text : Bytes) (d e : Ending) → HasOneEnding p → Judged d p f text → Judged e p f text → d ≡ e
one_judged (plan.Check n q) f text d e one h k = one_proof_ending n q f text d e h k
one_judged (plan.Model n a) f text d e one h k = one_answer_ending n a f text d e h k
one_judged (plan.Elab n l q) f text d e one h k = one_log_ending n l q f text d e h k
one_judged (plan.Trim n q o) f text d e one h k = one_trim_ending n q o f text d e h k
one_judged (plan.Blast n o) f text d e one h k = one_blast_ending n o f text d e h k
one_judged p f text d e one h k = absurd one

two_late : (p : Plan) (limit : ℕ) (f : Problem) (text : Bytes) (d e : Ending) → HasOneEnding p → LateDue p limit f text d → LateDue p limit f text e → d ≡ e
two_late p limit f text d e one (inl h) (inl k) = h.1 ∙ sym k.1
two_late p limit f text d e one (inl h) (inr k) = let over : limit < length text = h.0 in let fits : length text ≤ limit = k.0 in absurd (omega arith)
two_late p limit f text d e one (inr h) (inl k) = let over : limit < length text = k.0 in let fits : length text ≤ limit = h.0 in absurd (omega arith)
two_late p limit f text d e one (inr h) (inr k) = one_judged p f text d e one h.1 k.1

one_due : (p : Plan) (limit : ℕ) (files : Files) (d e : Ending) → HasOneEnding p → Due p limit files d → Due p limit files e → d ≡ e
one_due p limit files d e one (inl h) (inl k) = early_of (formula_of p) limit files d e h k
one_due p limit files d e one (inl h) (inr k) = absurd (early_or_read (formula_of p) limit files k.formula d h _ k.is_formula)
one_due p limit files d e one (inr h) (inl k) = absurd (early_or_read (formula_of p) limit files h.formula e k _ h.is_formula)
one_due p limit files d e one (inr h) (inr k) =
    let same = formula_of_name p (formula_of p) limit files h.formula k.formula h.is_formula k.is_formula in
    let due = subst (λ (f : Problem). LateDue p limit f (second_text p files) d) same h.due in
    two_late p limit k.formula (second_text p files) d e one due k.due

pub one_ending : (p : Plan) (second : Bytes) (limit : ℕ) (files : Files) (d e : Ending) → second_of p ≡ Some second → Due p limit files d → Due p limit files e → d ≡ e
one_ending p second limit files d e named h k = one_due p limit files d e (of_second p second named) h k

pub one_computed : (p : Plan) (limit : ℕ) (files : Files) (d e : Ending) → IsComputed p → Due p limit files d → Due p limit files e → d ≡ e
one_computed p limit files d e computed h k = one_due p limit files d e (of_computed p computed) h k

-- ---- the formula's refusals

-- where the formula is refused, no other ending is due
pub one_early : (p : Plan) (limit : ℕ) (files : Files) (d e : Ending) → AreEarly p limit files d → Due p limit files e → d ≡ e
one_early p limit files d e h (inl k) = early_of (formula_of p) limit files d e h k
one_early p limit files d e h (inr k) = absurd (early_or_read (formula_of p) limit files k.formula d h _ k.is_formula)

-- a formula is refused, or it reads
pub not_both : (p : Plan) (limit : ℕ) (files : Files) (f : Problem) (e : Ending) → AreEarly p limit files e → IsFormula p limit files f → ⊥
not_both p limit files f e h k = early_or_read (formula_of p) limit files f e h _ k

pub early_or_reads : (p : Plan) (name : Bytes) (limit : ℕ) (files : Files) → formula_of p ≡ Some name → IsEarlyOrRead p limit files name
early_or_reads p name limit files named = by (cases_lt limit (length (text_named name files)))
  where
    early_as : (e : Ending) → EarlyDue limit (text_named name files) e → IsEarlyOrRead p limit files name
    early_as e h = inr (e, subst (λ (n : Option Bytes). IfNamed n (λ m. EarlyDue limit (text_named m files) e)) (sym named) h)

    of_reading : length (text_named name files) ≤ limit → (r : Result Problem Offence) → ReadsAs (text_named name files) r → IsEarlyOrRead p limit files name
    of_reading fits (Ok f) reads = inl (f, record { fits = fits; reads = reads })
    of_reading fits (Err o) offends = early_as (ending.FormulaRefused o) (fits, offends)

    by : (limit < length (text_named name files)) ⊎ (length (text_named name files) ≤ limit) → IsEarlyOrRead p limit files name
    by (inl over) = early_as (ending.TooLong slot.Formula) over
    by (inr fits) = let one = one_formula_reading (text_named name files) in of_reading fits one.0 one.1
