-- The literals of what a step adds.
use Rattle.std.proofs.Common.{◌≡◌, subst, ℕ, ℤ, nat_abs, nat_lt, Bool, List, [], ◌∷◌, Result, Ok, Err, IfOk}
use Rattle.std.specs.List.{list_any}
use Rattle.cx_base.specs.Literals.{Literal}
use Rattle.cx_base.specs.Problem.{Problem}
use Rattle.cx_base.specs.Integers.{literals}
use Rattle.cx_semantics.specs.Judging.{refused_where}
use Rattle.cx_semantics.specs.ProofRules.{adding}
use Rattle.cx_semantics.specs.Tables.{Table, is_live}
use Rattle.cx_semantics.specs.declared.cause.Cause.TheVariants as causes
use Rattle.proof_rules.specs.Judges.{JudgesBy}
use Rattle.proof_rules.specs.declared.refusal.JudgeRefusal.{JudgeRefusal}
use Rattle.fratx_elab.specs.Takes.{Admits}

admits_as : (formula : Problem) (table : Table) (n : ℕ) (lits : List ℤ) (result : Result (List Literal) JudgeRefusal) → JudgesBy (adding formula table n lits) result → IfOk result (λ target. target ≡ literals lits) → Admits formula table n lits result
admits_as formula table n lits (Ok target) judged same = (judged, same)
admits_as formula table n lits (Err why) judged same = judged

pub admits_by : (formula : Problem) (table : Table) (n : ℕ) (lits : List ℤ) (vars : ℕ) (live : Bool) (result : Result (List Literal) JudgeRefusal) → vars ≡ formula.variables → live ≡ is_live table n
    → JudgesBy (refused_where causes.VarUnknown (list_any (λ z. nat_lt vars (nat_abs z)) lits) ∷ refused_where causes.IdInUse live ∷ []) result → IfOk result (λ target. target ≡ literals lits) → Admits formula table n lits result
admits_by formula table n lits vars live result e f judged same =
    let Judged : ℕ → Bool → Type 0 = λ m b. JudgesBy (refused_where causes.VarUnknown (list_any (λ z. nat_lt m (nat_abs z)) lits) ∷ refused_where causes.IdInUse b ∷ []) result in
    admits_as formula table n lits result (subst (Judged formula.variables) f (subst (λ m. Judged m live) e judged)) same
