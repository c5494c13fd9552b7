-- Steps of which some stay.
use Rattle.std.proofs.Common.{◌≡◌, refl, sym, ap, ℕ, zero, suc, ◌<◌, ◌≤◌, Bool, true, false, List, [], ◌∷◌, length, drop, get_or, true≢false, arith}
use Rattle.std.proofs.lemmas.List.{drop_all}
use Rattle.cx_base.specs.declared.steps.ProofStep.{ProofStep}
use Rattle.proof_trim.specs.Kept.{chosen}

-- ---- the step at a place stays or not

pub left_out : (bs : List Bool) (steps : List ProofStep) (k : ℕ) (b : Bool) → k < length bs → length steps ≡ length bs → get_or bs k b ≡ false
    → chosen (drop k bs) (drop k steps) ≡ chosen (drop (suc k) bs) (drop (suc k) steps)
left_out [] steps k b h l e = absurd (omega arith)
left_out (c ∷ bs) [] k b h l e = absurd (omega (arith, l))
left_out (true ∷ bs) (s ∷ steps) zero b h l e = absurd (true≢false e)
left_out (false ∷ bs) (s ∷ steps) zero b h l e = refl
left_out (c ∷ bs) (s ∷ steps) (suc k) b h l e = left_out bs steps k b (omega arith) (omega (arith, l)) e

pub stays_in : (bs : List Bool) (steps : List ProofStep) (k : ℕ) (b : Bool) (t : ProofStep) → k < length bs → get_or bs k b ≡ true → drop k steps ≡ t ∷ drop (suc k) steps
    → chosen (drop k bs) (drop k steps) ≡ t ∷ chosen (drop (suc k) bs) (drop (suc k) steps)
stays_in [] steps k b t h e d = absurd (omega arith)
stays_in (c ∷ bs) [] zero b t h e d = absurd (omega (arith, ap length d))
stays_in (c ∷ bs) [] (suc k) b t h e d = absurd (omega (arith, ap length d))
stays_in (true ∷ bs) (s ∷ steps) zero b t h e d = ap (chosen (true ∷ bs)) d
stays_in (false ∷ bs) (s ∷ steps) zero b t h e d = absurd (true≢false (sym e))
stays_in (c ∷ bs) (s ∷ steps) (suc k) b t h e d = stays_in bs steps k b t (omega arith) e d

-- no step is left past the end
pub none_past : (bs : List Bool) (steps : List ProofStep) (k : ℕ) → length bs ≤ k → chosen (drop k bs) (drop k steps) ≡ []
none_past bs steps k h = ap (λ (x : List Bool). chosen x (drop k steps)) (drop_all k bs h)
