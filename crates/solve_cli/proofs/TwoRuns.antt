-- Over one formula text no two runs contradict each other.
use Rattle.std.proofs.Common.{◌≡◌, ℕ, Bool, List, Option, Some, refl, ap, sym, subst, ◌∙◌}
use Rattle.cx_base.specs.Problem.{Problem, Meets, Unmet}
use Rattle.cx_texts.specs.FormulaText.{Reads}
use Rattle.cx_judgements.proofs.TextSoundness.{right_log_is_unmet}
use Rattle.cx_desk.specs.Outside.{Bytes, Files, Written}
use Rattle.cx_words.specs.Words.{Asks}
use Rattle.cx_words.specs.declared.plans.Plan.{Plan}
use Rattle.cx_words.specs.declared.plans.Plan.TheVariants as plan
use Rattle.cx_words.proofs.PlanLaws.{one_plan}
use Rattle.solve_cli.specs.declared.ending.Status.{Status}
use Rattle.solve_cli.specs.Commands.{formula_of}
use Rattle.solve_cli.specs.Seen.{text_named}
use Rattle.solve_cli.specs.WholeWay.{ToldRun}
use Rattle.solve_cli.specs.TwoRuns.{FindsValues, FindsNone, RunsAgree}
use Rattle.solve_cli.proofs.Dues.{one_formula}
use Rattle.solve_cli.proofs.WholeWay.{of_told}

-- ---- what a run shows of its formula's text

-- the text reads to a formula of which this holds
abbrev ReadsWith : (Problem → Type 0) → Bytes → Type 0
ReadsWith Holds text = (f : Problem) × Reads text f × Holds f

abbrev HasValues : Problem → Type 0
HasValues f = (values : List Bool) × Meets f values

at_name : (Holds : Problem → Type 0) (files : Files) (p : Plan) (a b : Bytes) → formula_of p ≡ Some a → formula_of p ≡ Some b
    → ReadsWith Holds (text_named a files) → ReadsWith Holds (text_named b files)
at_name Holds files p a b named also h =
    let both : ◌≡◌ {A = Option Bytes} (Some a) (Some b) = sym named ∙ also in
    let same : a ≡ b = cc in
    subst (λ (x : Bytes). ReadsWith Holds (text_named x files)) same h

finds_values : (words : List Bytes) (limit : ℕ) (files : Files) (s : Status) (written : Written) (p : Plan) (name : Bytes) → ToldRun words limit files s written → Asks words p
    → formula_of p ≡ Some name → FindsValues p s → ReadsWith HasValues (text_named name files)
finds_values words limit files s written (plan.Solve n l c) name t asked named is =
    let told = of_told _ t.old.files files t.told (t.run.values_meet is) in
    let r = told.1 in
    let plans : plan.Solve r.name r.log_name r.options ≡ plan.Solve n l c = one_plan words (plan.Solve r.name r.log_name r.options) (plan.Solve n l c) r.asked asked in
    let of_r : formula_of (plan.Solve n l c) ≡ Some r.name = sym (ap formula_of plans) in
    at_name HasValues files (plan.Solve n l c) r.name name of_r named (r.formula, r.reads, (told.0, r.holds.0))
finds_values words limit files s written (plan.Model n a) name t asked named is =
    let r = of_told _ t.old.files files t.told (t.run.model_is_right is n a asked) in
    at_name HasValues files (plan.Model n a) n name refl named (r.0, r.1.reads, (r.2.0, r.2.1))
finds_values words limit files s written p name t asked named is = absurd is

finds_none : (words : List Bytes) (limit : ℕ) (files : Files) (s : Status) (written : Written) (p : Plan) (name : Bytes) → ToldRun words limit files s written → Asks words p
    → formula_of p ≡ Some name → FindsNone p s → ReadsWith Unmet (text_named name files)
finds_none words limit files s written (plan.Solve n l c) name t asked named is =
    let told = of_told _ t.old.files files t.told (t.run.no_values_meet is) in
    let r = told.1 in
    let plans : plan.Solve r.name r.log_name r.options ≡ plan.Solve n l c = one_plan words (plan.Solve r.name r.log_name r.options) (plan.Solve n l c) r.asked asked in
    let of_r : formula_of (plan.Solve n l c) ≡ Some r.name = sym (ap formula_of plans) in
    at_name Unmet files (plan.Solve n l c) r.name name of_r named (r.formula, r.reads, r.holds.0)
finds_none words limit files s written (plan.Check n q) name t asked named is =
    let r = of_told _ t.old.files files t.told (t.run.proof_is_verified is n q asked) in
    at_name Unmet files (plan.Check n q) n name refl named (r.0, r.1.reads, r.2.0)
finds_none words limit files s written (plan.Elab n l q) name t asked named is =
    let r = of_told _ t.old.files files t.told (t.run.log_is_elaborated is n l q asked) in
    at_name Unmet files (plan.Elab n l q) n name refl named (r.0, r.1.reads, right_log_is_unmet r.0 (text_named l files) r.2.0 r.2.1)
finds_none words limit files s written (plan.Trim n q o) name t asked named is =
    let r = of_told _ t.old.files files t.told (t.run.proof_is_trimmed is n q o asked) in
    at_name Unmet files (plan.Trim n q o) n name refl named (r.formula, r.read.reads, r.unmet)
finds_none words limit files s written p name t asked named is = absurd is

contradict : (text : Bytes) → ReadsWith HasValues text → ReadsWith Unmet text → ⊥
contradict text h k =
    let same : h.0 ≡ k.0 = one_formula text h.0 k.0 h.1 k.1 in
    k.2 h.2.0 (subst (λ (f : Problem). Meets f h.2.0) same h.2.1)

pub runs_agree : RunsAgree
runs_agree words more limit bound files others s t written last p q a asked b also one values none =
    let h = finds_values words limit files s written p one.name a asked one.of_first values in
    let k = finds_none more bound others t last q one.other b also one.of_second none in
    contradict (text_named one.other others) (subst (ReadsWith HasValues) one.one_text h) k
