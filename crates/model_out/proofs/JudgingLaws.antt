-- No text is judged in two ways.
use Rattle.std.proofs.Common.{◌≡◌, ◌≢◌, refl, sym, ap, ◌∙◌, subst, ℕ, suc, ◌-◌, ◌≤◌, ℤ, Bool, true, false, List, [], ◌∷◌, length, get_or, Option, Some, None, Result, Ok, Err, option_map, arith, inl, inr}
use Rattle.std.proofs.lemmas.List.{ext_get_or}
use Rattle.cx_base.specs.Literals.{value_of}
use Rattle.cx_base.specs.Problem.{Problem, first_unmet}
use Rattle.model_out.specs.LineTokens.{line_tokens}
use Rattle.model_out.specs.Answers.{behind_status, IsAnswer, BadAt, Gives, as_literal, written_of, IsVariable, LeastVariable, IsMissing, IsRepeated, AnswersAs}
use Rattle.model_out.specs.Reading.{Scan, whole, bad, scan}
use Rattle.model_out.specs.Settling.{JudgesAs}
use Rattle.model_out.specs.declared.refusal.AnswerRefusal.{AnswerRefusal}
use Rattle.model_out.specs.declared.refusal.AnswerRefusal.TheVariants.{NoStatusLine, BadToken, Missing, Twice, Unmet, Memory}
use Rattle.model_out.proofs.ScanLaws.{scan_whole, scan_bad}
use Rattle.model_out.proofs.SettlingLaws.{none_of_meets}

abbrev Answer : Type 0
Answer = Result (List Bool) AnswerRefusal

-- ---- the integers of a text

abbrev scanned : List ℕ → Option Scan
scanned text = option_map (scan (length text) []) (behind_status (line_tokens text))

scanned_whole : (text : List ℕ) (lits : List ℤ) → IsAnswer text lits → scanned text ≡ Some (whole lits)
scanned_whole text lits a = ap (option_map (scan (length text) [])) a.status ∙ ap Some (scan_whole (length text) a.front a.last a.goes_on a.ends ∙ ap whole (sym a.literals))

scanned_bad : (text : List ℕ) (place : ℕ) → BadAt text place → scanned text ≡ Some (bad place)
scanned_bad text place b = ap (option_map (scan (length text) [])) b.status ∙ ap Some (scan_bad (length text) b.body place b.first_bad)

scanned_none : (text : List ℕ) → behind_status (line_tokens text) ≡ None → scanned text ≡ None
scanned_none text e = ap (option_map (scan (length text) [])) e

-- ---- values and variables

same_value : (b c : Bool) (n : ℕ) → as_literal b (suc n) ∷ [] ≡ as_literal c (suc n) ∷ [] → b ≡ c
same_value true true n e = refl
same_value false false n e = refl
same_value true false n e = cc
same_value false true n e = cc

same_values : (formula : Problem) (lits : List ℤ) (v w : List Bool) → Gives formula lits v → Gives formula lits w → v ≡ w
same_values formula lits v w g h =
    ext_get_or false v w (g.one_each ∙ sym h.one_each)
    (λ i low.
    let is : IsVariable formula (suc i) = (omega arith, omega (arith, g.one_each)) in
    let at : suc i - 1 ≡ i = omega arith in
    same_value (get_or v i false) (get_or w i false) i
    (subst (λ k. as_literal (get_or v k false) (suc i) ∷ [] ≡ as_literal (get_or w k false) (suc i) ∷ []) at (sym (g.as_written (suc i) is) ∙ h.as_written (suc i) is)))

same_least : (formula : Problem) (P : ℕ → Type 0) (x y : ℕ) → LeastVariable formula P x → LeastVariable formula P y → x ≡ y
same_least formula P x y a b = elim (Rattle.std.proofs.lemmas.Bool.cases_lt x y) [
  | inl h ↦ absurd (b.not_below x a.is_variable h a.holds)
  | inr h ↦ elim (Rattle.std.proofs.lemmas.Bool.cases_lt y x) [ inl k ↦ absurd (a.not_below y b.is_variable k b.holds) | inr k ↦ omega arith ]
]

given_not_missing : (formula : Problem) (lits : List ℤ) (v : List Bool) (x : ℕ) → Gives formula lits v → LeastVariable formula (IsMissing lits) x → ⊥
given_not_missing formula lits v x g m = let e : ◌≡◌ {A = List ℤ} [] (as_literal (value_of v x) x ∷ []) = sym m.holds ∙ g.as_written x m.is_variable in cc

given_not_repeated : (formula : Problem) (lits : List ℤ) (v : List Bool) (x : ℕ) → Gives formula lits v → LeastVariable formula (IsRepeated lits) x → ⊥
given_not_repeated formula lits v x g m = let e : length (written_of lits x) ≡ 1 = ap length (g.as_written x m.is_variable) in let k : 2 ≤ length (written_of lits x) = m.holds in omega arith

-- ---- judgements of the same integers

same_judgement : (formula : Problem) (lits : List ℤ) (a b : Answer) → a ≢ Err Memory → b ≢ Err Memory → JudgesAs lits formula a → JudgesAs lits formula b → a ≡ b
same_judgement formula lits (Ok v) (Ok w) m n j k = ap Ok (same_values formula lits v w j.0 k.0)
same_judgement formula lits (Ok v) (Err NoStatusLine) m n j k = absurd k
same_judgement formula lits (Ok v) (Err (BadToken p)) m n j k = absurd k
same_judgement formula lits (Ok v) (Err (Missing x)) m n j k = absurd (given_not_missing formula lits v x j.0 k)
same_judgement formula lits (Ok v) (Err (Twice x)) m n j k = absurd (given_not_repeated formula lits v x j.0 k.1)
same_judgement formula lits (Ok v) (Err (Unmet i)) m n j k = absurd (none_of_meets formula v i j.1 (ap (λ w. first_unmet w 1 formula.constraints) (same_values formula lits v k.0 j.0 k.1) ∙ k.2))
same_judgement formula lits a (Err Memory) m n j k = absurd (n refl)
same_judgement formula lits (Err Memory) b m n j k = absurd (m refl)
same_judgement formula lits (Err NoStatusLine) b m n j k = absurd j
same_judgement formula lits (Err (BadToken p)) b m n j k = absurd j
same_judgement formula lits (Err (Missing x)) (Ok v) m n j k = absurd (given_not_missing formula lits v x k.0 j)
same_judgement formula lits (Err (Missing x)) (Err NoStatusLine) m n j k = absurd k
same_judgement formula lits (Err (Missing x)) (Err (BadToken p)) m n j k = absurd k
same_judgement formula lits (Err (Missing x)) (Err (Missing y)) m n j k = ap (λ z. Err (Missing z)) (same_least formula (IsMissing lits) x y j k)
same_judgement formula lits (Err (Missing x)) (Err (Twice y)) m n j k = absurd (k.0 x j.is_variable j.holds)
same_judgement formula lits (Err (Missing x)) (Err (Unmet i)) m n j k = absurd (given_not_missing formula lits k.0 x k.1 j)
same_judgement formula lits (Err (Twice x)) (Ok v) m n j k = absurd (given_not_repeated formula lits v x k.0 j.1)
same_judgement formula lits (Err (Twice x)) (Err NoStatusLine) m n j k = absurd k
same_judgement formula lits (Err (Twice x)) (Err (BadToken p)) m n j k = absurd k
same_judgement formula lits (Err (Twice x)) (Err (Missing y)) m n j k = absurd (j.0 y k.is_variable k.holds)
same_judgement formula lits (Err (Twice x)) (Err (Twice y)) m n j k = ap (λ z. Err (Twice z)) (same_least formula (IsRepeated lits) x y j.1 k.1)
same_judgement formula lits (Err (Twice x)) (Err (Unmet i)) m n j k = absurd (given_not_repeated formula lits k.0 x k.1 j.1)
same_judgement formula lits (Err (Unmet h)) (Ok v) m n j k = absurd (none_of_meets formula v h k.1 (ap (λ w. first_unmet w 1 formula.constraints) (same_values formula lits v j.0 k.0 j.1) ∙ j.2))
same_judgement formula lits (Err (Unmet h)) (Err NoStatusLine) m n j k = absurd k
same_judgement formula lits (Err (Unmet h)) (Err (BadToken p)) m n j k = absurd k
same_judgement formula lits (Err (Unmet h)) (Err (Missing x)) m n j k = absurd (given_not_missing formula lits j.0 x j.1 k)
same_judgement formula lits (Err (Unmet h)) (Err (Twice x)) m n j k = absurd (given_not_repeated formula lits j.0 x j.1 k.1)
same_judgement formula lits (Err (Unmet h)) (Err (Unmet i)) m n j k =
    let e : Some h ≡ Some i = sym j.2 ∙ ap (λ w. first_unmet w 1 formula.constraints) (same_values formula lits j.0 k.0 j.1 k.1) ∙ k.2 in
    let f : h ≡ i = cc (e) in
    ap (λ z. Err (Unmet z)) f

-- ---- what is answered of a text, by what it scans to

record Judged (text : List ℕ) (formula : Problem) (a : Answer) : Type 0 where
  lits : List ℤ
  scans : scanned text ≡ Some (whole lits)
  judges : JudgesAs lits formula a

data Stage (text : List ℕ) (formula : Problem) (a : Answer) : Type 0 where
  no_status : scanned text ≡ None → a ≡ Err NoStatusLine → Stage text formula a
  bad_token : (place : ℕ) → scanned text ≡ Some (bad place) → a ≡ Err (BadToken place) → Stage text formula a
  judged : Judged text formula a → Stage text formula a

stage : (text : List ℕ) (formula : Problem) (a : Answer) → a ≢ Err Memory → AnswersAs text formula a → Stage text formula a
stage text formula (Ok v) m r = judged (record { lits = r.lits; scans = scanned_whole text r.lits r.form; judges = (r.gives, r.meets) })
stage text formula (Err NoStatusLine) m r = no_status (scanned_none text r) refl
stage text formula (Err (BadToken place)) m r = bad_token place (scanned_bad text place r) refl
stage text formula (Err (Missing x)) m r = judged (record { lits = r.lits; scans = scanned_whole text r.lits r.form; judges = r.least })
stage text formula (Err (Twice x)) m r = judged (record { lits = r.lits; scans = scanned_whole text r.lits r.form; judges = (r.none_missing, r.least) })
stage text formula (Err (Unmet k)) m r = judged (record { lits = r.lits; scans = scanned_whole text r.lits r.form; judges = (r.values, r.gives, r.unmet) })
stage text formula (Err Memory) m r = absurd (m refl)

same_stage : (text : List ℕ) (formula : Problem) (a b : Answer) → a ≢ Err Memory → b ≢ Err Memory → Stage text formula a → Stage text formula b → a ≡ b
same_stage text formula a b m n (no_status s e) (no_status t f) = e ∙ sym f
same_stage text formula a b m n (no_status s e) (bad_token q t f) = let x : ◌≡◌ {A = Option Scan} None (Some (bad q)) = sym s ∙ t in cc
same_stage text formula a b m n (no_status s e) (judged k) = let x : ◌≡◌ {A = Option Scan} None (Some (whole k.lits)) = sym s ∙ k.scans in cc
same_stage text formula a b m n (bad_token p s e) (no_status t f) = let x : ◌≡◌ {A = Option Scan} None (Some (bad p)) = sym t ∙ s in cc
same_stage text formula a b m n (bad_token p s e) (bad_token q t f) =
    let x : ◌≡◌ {A = Option Scan} (Some (bad p)) (Some (bad q)) = sym s ∙ t in
    let y : p ≡ q = cc (x) in
    e ∙ ap (λ z. Err (BadToken z)) y ∙ sym f
same_stage text formula a b m n (bad_token p s e) (judged k) = let x : ◌≡◌ {A = Option Scan} (Some (bad p)) (Some (whole k.lits)) = sym s ∙ k.scans in cc
same_stage text formula a b m n (judged j) (no_status t f) = let x : ◌≡◌ {A = Option Scan} None (Some (whole j.lits)) = sym t ∙ j.scans in cc
same_stage text formula a b m n (judged j) (bad_token q t f) = let x : ◌≡◌ {A = Option Scan} (Some (bad q)) (Some (whole j.lits)) = sym t ∙ j.scans in cc
same_stage text formula a b m n (judged j) (judged k) =
    let x : ◌≡◌ {A = Option Scan} (Some (whole j.lits)) (Some (whole k.lits)) = sym j.scans ∙ k.scans in
    let y : j.lits ≡ k.lits = cc (x) in
    same_judgement formula j.lits a b m n j.judges (subst (λ l. JudgesAs l formula b) (sym y) k.judges)

pub same_answer : (text : List ℕ) (formula : Problem) (a b : Answer) → a ≢ Err Memory → b ≢ Err Memory → AnswersAs text formula a → AnswersAs text formula b → a ≡ b
same_answer text formula a b m n r s = same_stage text formula a b m n (stage text formula a m r) (stage text formula b n s)
