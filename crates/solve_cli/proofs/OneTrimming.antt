-- There is one trimming of a proof: the least closed set is one set, and two rising lists with the same members are one list.
use Rattle.std.proofs.Common.{◌≡◌, refl, sym, ap, ◌∙◌, subst, ℕ, suc, ◌+◌, ◌<◌, ◌≤◌, Bool, true, false, ◌||◌, nat_eq, eqb-true, List, [], ◌∷◌, ◌++◌, append_assoc, length, IsTrue, ◌↔◌, ◌⊎◌, inl, inr, true≢false, arith, take}
use Rattle.std.specs.List.{list_any}
use Rattle.std.proofs.lemmas.Bool.{cases_lt}
use Rattle.std.proofs.Math.Seq.{take-append_seam}
use Rattle.cx_base.specs.Problem.{Problem, clauses_of, parities_of}
use Rattle.cx_base.specs.Endings.{Ending}
use Rattle.cx_base.specs.declared.steps.ProofStep.{ProofStep}
use Rattle.cx_semantics.specs.Judging.{Judgement, AcceptedAt, accepted, refused}
use Rattle.cx_semantics.specs.ProofRules.{proof_calculus}
use Rattle.cx_semantics.specs.declared.cause.Cause.{Cause}
use Rattle.cx_semantics.proofs.MoveLaws.{itself}
use Rattle.cx_texts.specs.ProofText.{ProofReads}
use Rattle.cx_texts.proofs.TextLaws.{one_proof_reading}
use Rattle.cx_judgements.specs.ProofTexts.{ProofJudgedAs, Accepted, RefusedAt}
use Rattle.cx_judgements.proofs.OneJudgement.{one_proof_judgement}
use Rattle.cx_desk.specs.Outside.{Bytes}
use Rattle.proof_trim.specs.Laws.{IsRefutation}
use Rattle.proof_trim.specs.Names.{Name, clause, parity}
use Rattle.proof_trim.specs.Needed.{AreNeeded, NamesFormulas, AreRising, AreCore}
use Rattle.proof_trim.specs.Outcomes.{HasRefutation, Trims, IsTrimOf}
use Rattle.proof_trim.specs.declared.outcome.Trimmed.{Trimmed}
use Rattle.solve_cli.specs.declared.ending.Core.{Core}
use Rattle.solve_cli.specs.declared.ending.Ending.{Ending as Ended}
use Rattle.solve_cli.specs.declared.ending.Ending.TheVariants as ending
use Rattle.solve_cli.specs.Happens.{Judged}
use Rattle.solve_cli.specs.Trimming.{TrimsTo}
use Rattle.cx_words.specs.declared.plans.Plan.TheVariants as plan
use Rattle.solve_cli.proofs.Dues.{same_of_one}

-- ---- rising lists

abbrev has : List ℕ → ℕ → Bool
has numbers n = list_any (nat_eq n) numbers

not_itself : (n m : ℕ) → n < m → nat_eq n m ≡ false
not_itself n m low = by (nat_eq n m) refl
  where
    by : (b : Bool) → nat_eq n m ≡ b → b ≡ false
    by true e = let is : n ≡ m = eqb-true n m e in absurd (omega arith)
    by false e = refl

not_after : (n m : ℕ) → m < n → nat_eq n m ≡ false
not_after n m low = by (nat_eq n m) refl
  where
    by : (b : Bool) → nat_eq n m ≡ b → b ≡ false
    by true e = let is : n ≡ m = eqb-true n m e in absurd (omega arith)
    by false e = refl

-- a number below the least one is not in the list
not_below : (least greatest : ℕ) (numbers : List ℕ) (n : ℕ) → AreRising least greatest numbers → n < least → has numbers n ≡ false
not_below least greatest [] n h low = refl
not_below least greatest (m ∷ numbers) n h low =
    let from : least ≤ m = h.0 in
    ap (λ b. b || has numbers n) (not_itself n m (omega arith)) ∙ not_below (suc m) greatest numbers n h.2 (omega arith)

abbrev same_members : ℕ → ℕ → List ℕ → List ℕ → Type 0
same_members least greatest a b = (n : ℕ) → least ≤ n → n ≤ greatest → IsTrue (has a n) ↔ IsTrue (has b n)

is_head : (m : ℕ) (numbers : List ℕ) → has (m ∷ numbers) m ≡ true
is_head m numbers = ap (λ b. b || has numbers m) (itself m)

-- the first of one list is the first of the other
same_first : (least greatest m n : ℕ) (a b : List ℕ) → AreRising least greatest (m ∷ a) → AreRising least greatest (n ∷ b) → same_members least greatest (m ∷ a) (n ∷ b) → m ≡ n
same_first least greatest m n a b h k same = by (cases_lt m n) (cases_lt n m)
  where
    low : m < n → ⊥
    low less = true≢false (sym ((same m h.0 h.1).0 (is_head m a)) ∙ (ap (λ c. c || has b m) (not_itself m n less) ∙ not_below (suc n) greatest b m k.2 (omega (arith, less))))

    high : n < m → ⊥
    high less = true≢false (sym ((same n k.0 k.1).1 (is_head n b)) ∙ (ap (λ c. c || has a n) (not_itself n m less) ∙ not_below (suc m) greatest a n h.2 (omega (arith, less))))

    by : (m < n) ⊎ (n ≤ m) → (n < m) ⊎ (m ≤ n) → m ≡ n
    by (inl less) k = absurd (low less)
    by (inr h) (inl less) = absurd (high less)
    by (inr h) (inr k) = omega (arith, h, k)

in_tail : (k m : ℕ) (numbers : List ℕ) → m < k → has (m ∷ numbers) k ≡ has numbers k
in_tail k m numbers less = ap (λ b. b || has numbers k) (not_after k m less)

same_rest : (least greatest m : ℕ) (a b : List ℕ) → least ≤ m → same_members least greatest (m ∷ a) (m ∷ b) → same_members (suc m) greatest a b
same_rest least greatest m a b from same k low high =
    let s = same k (omega (arith, from, low)) high in
    let less : m < k = omega (arith, low) in (
      λ h. sym (in_tail k m b less) ∙ s.0 (in_tail k m a less ∙ h),
      λ h. sym (in_tail k m a less) ∙ s.1 (in_tail k m b less ∙ h),
    )

pub one_rising : (least greatest : ℕ) (a b : List ℕ) → AreRising least greatest a → AreRising least greatest b → same_members least greatest a b → a ≡ b
one_rising least greatest [] [] h k same = refl
one_rising least greatest [] (n ∷ b) h k same = absurd (true≢false (sym ((same n k.0 k.1).1 (is_head n b))))
one_rising least greatest (m ∷ a) [] h k same = absurd (true≢false (sym ((same m h.0 h.1).0 (is_head m a))))
one_rising least greatest (m ∷ a) (n ∷ b) h k same =
    let e = same_first least greatest m n a b h k same in
    let k' : AreRising least greatest (m ∷ b) = subst (λ (x : ℕ). AreRising least greatest (x ∷ b)) (sym e) k in
    let same' : same_members least greatest (m ∷ a) (m ∷ b) = subst (λ (x : ℕ). same_members least greatest (m ∷ a) (x ∷ b)) (sym e) same in
    let rest : a ≡ b = one_rising (suc m) greatest a b h.2 k'.2 (same_rest least greatest m a b h.0 same') in
    ap (λ (x : List ℕ). m ∷ x) rest ∙ ap (λ (x : ℕ). x ∷ b) e

-- ---- cores

names_too : (proof : List ProofStep) (needed also : ℕ → Bool) (name : Name) → ((j : ℕ) → IsTrue (needed j) → IsTrue (also j)) → NamesFormulas proof needed name → NamesFormulas proof also name
names_too proof needed also name within h = record {
  before = h.before;
  step = h.step;
  later = h.later;
  split = h.split;
  is_needed = within (length h.before + 1) h.is_needed;
  hint = h.hint;
  formulas = h.formulas;
}

one_core : (proof : List ProofStep) (needed also : ℕ → Bool) (name_of : ℕ → Name) (count : ℕ) (a b : List ℕ) → AreNeeded proof needed → AreNeeded proof also
    → AreCore proof needed name_of count a → AreCore proof also name_of count b → a ≡ b
one_core proof needed also name_of count a b n m h k =
    one_rising 1 count a b h.rising k.rising (λ x low high. (
      λ is. (k.named x low high).1 (names_too proof needed also (name_of x) (n.least also m.closed) ((h.named x low high).0 is)),
      λ is. (h.named x low high).1 (names_too proof also needed (name_of x) (m.least needed n.closed) ((k.named x low high).0 is)),
    ))

same_core : (c d : Core) → c.clauses ≡ d.clauses → c.parities ≡ d.parities → c ≡ d
same_core c d e k = λ i. record { clauses = e i; parities = k i }

-- ---- proofs of a text

accepted_more : (f : Problem) (proof later : List ProofStep) → IsRefutation f proof → AcceptedAt (proof_calculus f) (proof ++ later) (length proof)
accepted_more f proof later (inl clash) = inl clash
accepted_more f proof later (inr (no_clash, j)) = inr (
  no_clash,
  record {
    before = j.before;
    step = j.step;
    later = j.later ++ later;
    tables = j.tables;
    split = ap (λ (x : List ProofStep). x ++ later) j.split ∙ append_assoc j.before (j.step ∷ j.later) later;
    runs = j.runs;
    right = j.right;
    ends = j.ends;
    number = j.number;
  },
)

pub accepted_text : (f : Problem) (text : Bytes) (proof : List ProofStep) → HasRefutation ProofReads f text proof → Accepted f text (length proof)
accepted_text f text proof h =
    record { steps = proof ++ h.later; ending = h.ending; reads = h.left; judged = accepted_more f proof h.later h.accepted }

-- the text of an accepted proof says which steps it is
pub one_proof : (f : Problem) (text : Bytes) (p q : List ProofStep) → HasRefutation ProofReads f text p → HasRefutation ProofReads f text q → p ≡ q
one_proof f text p q h k =
    let both : ◌≡◌ {A = Judgement} (accepted (length p)) (accepted (length q)) = same_of_one {P = ProofJudgedAs f text} (one_proof_judgement f text) _ _ (accepted_text f text p h) (accepted_text f text q k) in
    let long : length p ≡ length q = cc in
    let read = same_of_one {P = λ (x : List ProofStep × Ending). ProofReads text x.0 x.1} (one_proof_reading text) (p ++ h.later, h.ending) (q ++ k.later, k.ending) h.left k.left in
    let all : p ++ h.later ≡ q ++ k.later = ap (λ (x : List ProofStep × Ending). x.0) read in
    sym (take-append_seam p h.later) ∙ (ap (λ (n : ℕ). take n (p ++ h.later)) long ∙ (ap (take (length q)) all ∙ take-append_seam q k.later))

pub same_trims : (f : Problem) (p q : List ProofStep) (t : Trimmed) → p ≡ q → Trims f p t → Trims f q t
same_trims f p q t e h = subst (λ (x : List ProofStep). Trims f x t) e h

pub one_trimming : (f : Problem) (text : Bytes) (steps also : List ProofStep) (c d : Core) → TrimsTo f text steps c → TrimsTo f text also d → c ≡ d
one_trimming f text steps also c d (p, h, s) (q, k, t) =
    let e = one_proof f text p q h k in
    let u = same_trims f p q _ e s in
    same_core c d
    (one_core q u.needed t.needed clause (length (clauses_of f.constraints)) c.clauses d.clauses u.are_needed t.are_needed u.clauses t.clauses)
    (one_core q u.needed t.needed parity (length (parities_of f.constraints)) c.parities d.parities u.are_needed t.are_needed u.parities t.parities)

-- ---- the endings

-- what a trimming ends in
data Ends (f : Problem) (text : Bytes) : Ended → Type 0 where
  kept : (core : Core) (steps : List ProofStep) → TrimsTo f text steps core → Ends f text (ending.Trimmed core)
  not_kept : (k : ℕ) (c : Cause) → RefusedAt f text k c → Ends f text (ending.NotTrimmed k c)

ends_of : (n q o : Bytes) (f : Problem) (text : Bytes) (e : Ended) → Judged e (plan.Trim n q o) f text → Ends f text e
ends_of n q o f text (ending.Trimmed core) h = kept core h.0 h.1
ends_of n q o f text (ending.NotTrimmed k c) h = not_kept k c h
ends_of n q o f text e h = absurd h

judged_once : (f : Problem) (text : Bytes) (a b : Judgement) → ProofJudgedAs f text a → ProofJudgedAs f text b → a ≡ b
judged_once f text a b h k = same_of_one {P = ProofJudgedAs f text} (one_proof_judgement f text) a b h k

not_both : (f : Problem) (text : Bytes) (steps : List ProofStep) (core : Core) (k : ℕ) (c : Cause) → TrimsTo f text steps core → RefusedAt f text k c → ⊥
not_both f text steps core k c (p, h, s) r =
    let e : ◌≡◌ {A = Judgement} (accepted (length p)) (refused k c) = judged_once f text (accepted (length p)) (refused k c) (accepted_text f text p h) r in cc

same_ends : (f : Problem) (text : Bytes) (d e : Ended) → Ends f text d → Ends f text e → d ≡ e
same_ends f text _ _ (kept a s h) (kept b t k) = ap ending.Trimmed (one_trimming f text s t a b h k)
same_ends f text _ _ (kept a s h) (not_kept k c r) = absurd (not_both f text s a k c h r)
same_ends f text _ _ (not_kept k c r) (kept a s h) = absurd (not_both f text s a k c h r)
same_ends f text _ _ (not_kept i a p) (not_kept k b q) =
    let e : ◌≡◌ {A = Judgement} (refused i a) (refused k b) = judged_once f text (refused i a) (refused k b) p q in cc

pub one_trim_ending : (n q o : Bytes) (f : Problem) (text : Bytes) (d e : Ended) → Judged d (plan.Trim n q o) f text → Judged e (plan.Trim n q o) f text → d ≡ e
one_trim_ending n q o f text d e h k = same_ends f text d e (ends_of n q o f text d h) (ends_of n q o f text e k)
