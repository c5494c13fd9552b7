-- One step back through a proof.
use Rattle.std.proofs.Common.{◌≡◌, refl, sym, ap, ◌∙◌, ℕ, suc, ◌+◌, ◌<◌, ◌≤◌, Bool, true, not, ◌&&◌, ◌||◌, nat_eq, List, [], ◌∷◌, length, drop, set, length-drop, true≢false, eqb-true, eq-eqb, arith}
use Rattle.std.proofs.lemmas.List.{drop-set, drop_all}
use Rattle.cx_base.specs.declared.steps.ProofStep.{ProofStep}
use Rattle.cx_base.specs.declared.steps.ProofStep.TheVariants as variants
use Rattle.proof_trim.specs.Names.{Name, clause, parity, puts, has_hint}
use Rattle.proof_trim.specs.Marking.{puts_wanted, wanted_before, is_nil, wants, is_needed, marks_of}
use Rattle.proof_trim.proofs.NameLaws.{both_ways}

nil_length : (xs : List ProofStep) → is_nil xs ≡ true → length xs ≡ 0
nil_length [] h = refl
nil_length (x ∷ xs) h = absurd (true≢false (sym h))

pub is_last : (proof : List ProofStep) (left : ℕ) → left ≤ length proof → nat_eq left (length proof) ≡ is_nil (drop left proof)
is_last proof left h =
    both_ways (nat_eq left (length proof)) (is_nil (drop left proof))
    (λ e. let all : left ≡ length proof = eqb-true left (length proof) e in ap is_nil (drop_all left proof (omega (arith, all))))
    (λ n. eq-eqb left (length proof) (omega (arith, nil_length (drop left proof) n, length-drop left proof)))

puts_same : (s : ProofStep) (old new : Name → Bool) → ((name : Name) → old name ≡ new name) → puts_wanted old s ≡ puts_wanted new s
puts_same (variants.Clause n lits hints) old new h = h (clause n)
puts_same (variants.Parity n lits hints) old new h = h (parity n)
puts_same (variants.ClauseOfParity n lits hint) old new h = h (clause n)
puts_same (variants.ParityOfClauses n lits hints) old new h = h (parity n)
puts_same (variants.DeleteClauses n ids) old new h = refl
puts_same (variants.DeleteParities ids) old new h = refl

module _ (proof : List ProofStep) (at : ℕ) (s : ProofStep) (old : Name → Bool) (needed last : Bool) (split : drop at proof ≡ s ∷ drop (suc at) proof) (ends : last ≡ is_nil (drop (suc at) proof))
    (has : (name : Name) → old name ≡ wants (drop (suc at) proof) name) (need : needed ≡ (last || puts_wanted old s)) where
  needed_is : needed ≡ is_needed s (drop (suc at) proof)
  needed_is = need ∙ (λ i. ends i || puts_same s old (wants (drop (suc at) proof)) has i)

  pub back_marked : (marks : List Bool) → at < length marks → drop (suc at) marks ≡ marks_of (drop (suc at) proof) → drop at (set marks at needed) ≡ marks_of (drop at proof)
  back_marked marks h is =
      let next : at + 1 ≡ suc at = omega arith in
      drop-set marks at needed h ∙ ap (λ k. needed ∷ drop k marks) next ∙ (λ i. needed_is i ∷ is i) ∙ ap marks_of (sym split)

  pub back_wanted : (new : Name → Bool) → ((name : Name) → new name ≡ wanted_before needed s old name) → (name : Name) → new name ≡ wants (drop at proof) name
  back_wanted new is name =
      is name ∙ (λ i. (needed_is i && has_hint s name) || (not (puts s name) && has name i)) ∙ ap (λ (steps : List ProofStep). wants steps name) (sym split)
