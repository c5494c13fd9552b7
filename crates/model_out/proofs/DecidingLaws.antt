-- Each text is judged in some way.
use Rattle.std.proofs.Common.{◌≡◌, ◌≢◌, refl, sym, ap, ◌∙◌, ℕ, zero, suc, ◌+◌, ◌<◌, ◌≤◌, ℤ, Bool, true, false, List, [], length, get_or, map, Option, Some, None, Result, Ok, Err, arith, true≢false, ◌⊎◌, inl, inr}
use Rattle.std.specs.List.{range_with_len}
use Rattle.std.proofs.lemmas.List.FromFn.{length-map-range_with_len, get_or-map-range_with_len}
use Rattle.cx_base.specs.Problem.{Problem, first_unmet}
use Rattle.model_out.specs.LineTokens.{LineToken, line_tokens}
use Rattle.model_out.specs.Answers.{behind_status, written_of, Gives, LeastVariable, IsMissing, IsRepeated}
use Rattle.model_out.specs.Laws.{IsJudgedAs, AnswersAreJudgedInOneWay}
use Rattle.model_out.specs.Mentions.{mention_of, is_never, is_repeated, is_true_once}
use Rattle.model_out.specs.Reading.{Scan, whole, bad, scan}
use Rattle.model_out.specs.Settling.{JudgesAs, NoneMissing}
use Rattle.model_out.specs.declared.mentions.Mention.{Mention}
use Rattle.model_out.specs.declared.mentions.Mention.TheVariants.{Never}
use Rattle.model_out.specs.declared.refusal.AnswerRefusal.{AnswerRefusal}
use Rattle.model_out.specs.declared.refusal.AnswerRefusal.TheVariants.{NoStatusLine, BadToken, Missing, Twice, Unmet, Memory}
use Rattle.model_out.proofs.MentionLaws.{never_true, repeated_true, repeated_long, gives}
use Rattle.model_out.proofs.SettlingLaws.{meets_of_none, answer_of_scan, bad_of_scan, answers_of}
use Rattle.model_out.proofs.JudgingLaws.{same_answer}

-- ---- the least variable that passes a test

record IsLeast (f : ℕ → Bool) (n x : ℕ) : Type 0 where
  low : 1 ≤ x
  high : x ≤ n
  passes : f x ≡ true
  none_below : (y : ℕ) → 1 ≤ y → y < x → f y ≡ false

abbrev NonePasses : (ℕ → Bool) → ℕ → Type 0
NonePasses f n = (y : ℕ) → 1 ≤ y → y ≤ n → f y ≡ false

one_more : (f : ℕ → Bool) (n : ℕ) → NonePasses f n → f (suc n) ≡ false → NonePasses f (suc n)
one_more f n h e y low high = elim (Rattle.std.proofs.lemmas.Bool.cases_lt n y) [
  | inl more ↦ let same : suc n ≡ y = omega arith in ap f (sym same) ∙ e
  | inr less ↦ h y low less
]

least_step : (f : ℕ → Bool) (n : ℕ) → NonePasses f n ⊎ ((x : ℕ) × IsLeast f n x) → (t : Bool) → f (suc n) ≡ t → NonePasses f (suc n) ⊎ ((x : ℕ) × IsLeast f (suc n) x)
least_step f n (inr (x, l)) t e = inr (x, record { low = l.low; high = (let high : x ≤ n = l.high in omega arith); passes = l.passes; none_below = l.none_below })
least_step f n (inl h) true e = inr (suc n, record { low = omega arith; high = omega arith; passes = e; none_below = λ y low less. h y low (omega arith) })
least_step f n (inl h) false e = inl (one_more f n h e)

least : (f : ℕ → Bool) (n : ℕ) → NonePasses f n ⊎ ((x : ℕ) × IsLeast f n x)
least f zero = inl (λ y low high. absurd (omega arith))
least f (suc n) = least_step f n (least f n) (f (suc n)) refl

-- ---- some judgement of the integers

abbrev Answer : Type 0
Answer = Result (List Bool) AnswerRefusal

module _ (lits : List ℤ) (formula : Problem) where
  abbrev Found : Type 0
  Found = (a : Answer) × (a ≢ Err Memory) × JudgesAs lits formula a

  abbrev missing_at : ℕ → Bool
  missing_at x = is_never (mention_of (written_of lits x))

  abbrev repeated_at : ℕ → Bool
  repeated_at x = is_repeated (mention_of (written_of lits x))

  least_missing : (x : ℕ) → IsLeast missing_at formula.variables x → LeastVariable formula (IsMissing lits) x
  least_missing x l = record {
    is_variable = (l.low, l.high);
    holds = never_true (written_of lits x) l.passes;
    not_below = λ y v less m. true≢false (ap (λ ws. is_never (mention_of ws)) (sym m) ∙ l.none_below y v.0 less);
  }

  least_repeated : (x : ℕ) → IsLeast repeated_at formula.variables x → LeastVariable formula (IsRepeated lits) x
  least_repeated x l = record {
    is_variable = (l.low, l.high);
    holds = repeated_true (written_of lits x) l.passes;
    not_below = λ y v less m. true≢false (sym (repeated_long (written_of lits y) m) ∙ l.none_below y v.0 less);
  }

  none_missing : NonePasses missing_at formula.variables → NoneMissing lits formula
  none_missing h y v m = true≢false (ap (λ ws. is_never (mention_of ws)) (sym m) ∙ h y v.0 v.1)

  abbrev mention_at : ℕ → Mention
  mention_at k = mention_of (written_of lits (k + 1))

  abbrev table : List Mention
  table = map mention_at (range_with_len 0 formula.variables)

  table_length : length table ≡ formula.variables
  table_length = length-map-range_with_len mention_at 0 formula.variables

  table_at : (k : ℕ) → k < length table → get_or table k Never ≡ mention_at k
  table_at k h = get_or-map-range_with_len mention_at 0 formula.variables k k Never (omega (arith, table_length)) (omega arith)

  found_values : NonePasses missing_at formula.variables → NonePasses repeated_at formula.variables → Gives formula lits (map is_true_once table)
  found_values h k =
      gives lits formula table table_length table_at
      (λ i low. ap is_never (table_at i low) ∙ h (i + 1) (omega arith) (omega (arith, table_length)))
      (λ i low. ap is_repeated (table_at i low) ∙ k (i + 1) (omega arith) (omega (arith, table_length)))

  by_unmet : (values : List Bool) → Gives formula lits values → (o : Option ℕ) → first_unmet values 1 formula.constraints ≡ o → Found
  by_unmet values g None e = (Ok values, (λ f. cc), (g, meets_of_none formula values g.one_each e))
  by_unmet values g (Some k) e = (Err (Unmet k), (λ f. cc), (values, g, e))

  by_repeated : NonePasses missing_at formula.variables → NonePasses repeated_at formula.variables ⊎ ((x : ℕ) × IsLeast repeated_at formula.variables x) → Found
  by_repeated h (inl k) = by_unmet (map is_true_once table) (found_values h k) (first_unmet (map is_true_once table) 1 formula.constraints) refl
  by_repeated h (inr (x, l)) = (Err (Twice x), (λ f. cc), (none_missing h, least_repeated x l))

  by_missing : NonePasses missing_at formula.variables ⊎ ((x : ℕ) × IsLeast missing_at formula.variables x) → Found
  by_missing (inl h) = by_repeated h (least repeated_at formula.variables)
  by_missing (inr (x, l)) = (Err (Missing x), (λ f. cc), least_missing x l)

  found : Found
  found = by_missing (least missing_at formula.variables)

-- ---- some answer

module _ (text : List ℕ) (formula : Problem) where
  abbrev Judged : Type 0
  Judged = (a : Answer) × IsJudgedAs text formula a

  by_scan : (body : List LineToken) → behind_status (line_tokens text) ≡ Some body → (s : Scan) → scan (length text) [] body ≡ s → Judged
  by_scan body status (whole lits) e = let f = found lits formula in (f.0, (f.1, answers_of text formula lits f.0 (answer_of_scan text body lits status e) f.2))
  by_scan body status (bad place) e = (Err (BadToken place), ((λ f. cc), bad_of_scan text body place status e))

  by_status : (o : Option (List LineToken)) → behind_status (line_tokens text) ≡ o → Judged
  by_status None e = (Err NoStatusLine, ((λ f. cc), e))
  by_status (Some body) e = by_scan body e (scan (length text) [] body) refl

pub one_answer : AnswersAreJudgedInOneWay
one_answer text formula =
    let j = by_status text formula (behind_status (line_tokens text)) refl in
    (j.0, j.1, λ b h. same_answer text formula b j.0 h.0 j.1.0 h.1 j.1.1)
