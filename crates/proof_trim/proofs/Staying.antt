-- The steps that stay are right over the tables that they leave, whose start may lack constraints that no needed step names.
use Rattle.std.proofs.Common.{◌≡◌, refl, sym, ap, ◌∙◌, subst, ℕ, suc, ◌+◌, Bool, true, false, cond, ◌||◌, List, [], ◌∷◌, ◌++◌, length, length-append, append_assoc, Some, None, arith, ◌⊎◌, inl, inr, true≢false, IsTrue, IsFalse}
use Rattle.std.specs.List.{list_any}
use Rattle.std.proofs.lemmas.Bool.{or_parts, or_from}
use Rattle.cx_base.specs.Problem.{Problem}
use Rattle.cx_base.specs.declared.steps.ProofStep.{ProofStep}
use Rattle.cx_base.specs.declared.steps.ProofStep.TheVariants as proof
use Rattle.cx_semantics.specs.Tables.{Tables}
use Rattle.cx_semantics.specs.Judging.{IsRight, Runs}
use Rattle.cx_semantics.specs.ProofRules.{proof_calculus, after_step, adds_ending_clause}
use Rattle.proof_trim.specs.Names.{Name, look, puts, takes_out, has_hint}
use Rattle.proof_trim.specs.Needed.{WasPut, IsFormulas}
use Rattle.proof_trim.specs.Trimmed.{stays, staying}
use Rattle.proof_trim.proofs.LookLaws.{Content, put_lits, look_after, look-after_step, free_name, gone_name, puts_stays, right_over}

-- ---- one step more after what was put

any_snoc : (p : ProofStep → Bool) (steps : List ProofStep) (s : ProofStep) → list_any p steps ≡ false → p s ≡ false → list_any p (steps ++ s ∷ []) ≡ false
any_snoc p [] s h k = ap (λ b. b || false) k
any_snoc p (x ∷ steps) s h k = let q = or_parts (p x) (list_any p steps) h in or_from (p x) (list_any p (steps ++ s ∷ [])) q.0 (any_snoc p steps s q.1 k)

module _ (before : List ProofStep) (s : ProofStep) (name : Name) where
  pub was_put_on : (j : ℕ) → WasPut before name j → puts s name ≡ false → WasPut (before ++ s ∷ []) name j
  was_put_on j w k = record {
    earlier = w.earlier;
    step = w.step;
    since = w.since ++ s ∷ [];
    split = ap (λ (x : List ProofStep). x ++ s ∷ []) w.split ∙ append_assoc w.earlier (w.step ∷ w.since) (s ∷ []);
    puts_it = w.puts_it;
    stays = any_snoc (λ t. puts t name) w.since s w.stays k;
    number = w.number;
  }

  pub was_put_now : puts s name ≡ true → WasPut (before ++ s ∷ []) name (length before + 1)
  was_put_now h = record { earlier = before; step = s; since = []; split = refl; puts_it = h; stays = refl; number = refl }

-- ---- what the smaller tables lack

module _ (formula : Problem) (needed : ℕ → Bool) (Out : Name → Type 0) where
  -- a step that is not needed put what is there, or it is the formula's and out
  abbrev pub IsOut : List ProofStep → Name → Type 0
  IsOut before name = ((j : ℕ) × WasPut before name j × IsFalse (needed j)) ⊎ (IsFormulas before name × Out name)

  is_out_on : (before : List ProofStep) (s : ProofStep) (name : Name) → IsOut before name → puts s name ≡ false → IsOut (before ++ s ∷ []) name
  is_out_on before s name (inl (j, w, f)) k = inl (j, was_put_on before s name j w k, f)
  is_out_on before s name (inr (f, o)) k = inr (any_snoc (λ t. puts t name) before s f k, o)

  -- the smaller has the same content, or none where it is out
  abbrev pub Agrees : Content → Content → List ProofStep → Name → Type 0
  Agrees whole small before name = (small ≡ whole) ⊎ ((small ≡ None) × IsOut before name)

  abbrev pub Agree : Tables → Tables → List ProofStep → Type 0
  Agree t r before = (name : Name) → Agrees (look t name) (look r name) before name

  agrees_kept : (before : List ProofStep) (s : ProofStep) (name : Name) (a b x : Content) (taken put : Bool) → puts s name ≡ put → Agrees a b before name
      → Agrees (cond taken None (cond put x a)) (cond taken None (cond put x b)) (before ++ s ∷ []) name
  agrees_kept before s name a b x true put e h = inl refl
  agrees_kept before s name a b x false true e h = inl refl
  agrees_kept before s name a b x false false e (inl h) = inl h
  agrees_kept before s name a b x false false e (inr (h, k)) = inr (h, is_out_on before s name k e)

  agree_kept : (before : List ProofStep) (s : ProofStep) (t r : Tables) → Agree t r before → Agree (after_step t s) (after_step r s) (before ++ s ∷ [])
  agree_kept before s t r h name =
      let k = agrees_kept before s name (look t name) (look r name) (Some (put_lits s)) (takes_out s name) (puts s name) refl (h name) in
      subst (λ (o : Content). Agrees o (look (after_step r s) name) (before ++ s ∷ []) name) (sym (look-after_step t s name))
      (subst (λ (o : Content). Agrees (look_after s name (look t name)) o (before ++ s ∷ []) name) (sym (look-after_step r s name)) k)

  none_small : (before : List ProofStep) (name : Name) (a b : Content) → Agrees a b before name → a ≡ None → b ≡ None
  none_small before name a b (inl e) h = e ∙ h
  none_small before name a b (inr (e, o)) h = e

  agrees_dropped : (before : List ProofStep) (s : ProofStep) (name : Name) (a b x : Content) (taken put : Bool) → puts s name ≡ put → Agrees a b before name
      → (taken ≡ true → b ≡ None) → (put ≡ true → (a ≡ None) × IsFalse (needed (length before + 1))) → Agrees (cond taken None (cond put x a)) b (before ++ s ∷ []) name
  agrees_dropped before s name a b x true put e h gone free = inl (gone refl)
  agrees_dropped before s name a b x false true e h gone free = let f = free refl in inr (none_small before name a b h f.0, inl (length before + 1, was_put_now before s name e, f.1))
  agrees_dropped before s name a b x false false e (inl h) gone free = inl h
  agrees_dropped before s name a b x false false e (inr (h, k)) gone free = inr (h, is_out_on before s name k e)

  agree_dropped : (before : List ProofStep) (n : ℕ) (s : ProofStep) (t r : Tables) → n ≡ length before + 1 → stays needed n r s ≡ false → IsRight (proof_calculus formula) t s
      → Agree t r before → Agree (after_step t s) r (before ++ s ∷ [])
  agree_dropped before n s t r e out right h name =
      let k = agrees_dropped before s name (look t name) (look r name) (Some (put_lits s)) (takes_out s name) (puts s name) refl (h name)
      (λ taken. gone_name needed n r s name out taken)
      (λ put. (free_name formula t s name right put, sym (ap needed e) ∙ sym (puts_stays needed n r s name put) ∙ out)) in
      subst (λ (o : Content). Agrees o (look r name) (before ++ s ∷ []) name) (sym (look-after_step t s name)) k

  -- no hint of a needed step is out
  abbrev pub NoHintOut : List ProofStep → ProofStep → Type 0
  NoHintOut before s = IsTrue (needed (length before + 1)) → (name : Name) → IsTrue (has_hint s name) → IsOut before name → ⊥

  agree_in : (before : List ProofStep) (name : Name) (a b : Content) → Agrees a b before name → (IsOut before name → ⊥) → b ≡ a
  agree_in before name a b (inl e) h = e
  agree_in before name a b (inr (e, o)) h = absurd (h o)

  right_needed : (before : List ProofStep) (s : ProofStep) (t r : Tables) → IsRight (proof_calculus formula) t s → Agree t r before
      → ((name : Name) → IsTrue (has_hint s name) → IsOut before name → ⊥) → IsRight (proof_calculus formula) r s
  right_needed before s t r right h inside =
      right_over formula t r s right (λ name e. agree_in before name (look t name) (look r name) (h name) (inside name e))
      (λ name e. none_small before name (look t name) (look r name) (h name) (free_name formula t s name right e))

  -- what stays is right: a deletion always is, and else the step is needed
  right_staying : (before : List ProofStep) (n : ℕ) (s : ProofStep) (t r : Tables) → n ≡ length before + 1 → stays needed n r s ≡ true → IsRight (proof_calculus formula) t s → Agree t r before
      → NoHintOut before s → IsRight (proof_calculus formula) r s
  right_staying before n s t r e in_ right h inside =
      right_needed before s t r right h (λ name hint. inside (sym (ap needed e) ∙ sym (hints_stay n r s name hint) ∙ in_) name hint)
    where
      hints_stay : (n : ℕ) (t : Tables) (s : ProofStep) (name : Name) → has_hint s name ≡ true → stays needed n t s ≡ needed n
      hints_stay n t (proof.Clause id lits hints) name k = refl
      hints_stay n t (proof.Parity id lits hints) name k = refl
      hints_stay n t (proof.ClauseOfParity id lits hint) name k = refl
      hints_stay n t (proof.ParityOfClauses id lits hints) name k = refl
      hints_stay n t (proof.DeleteClauses id ids) name k = absurd (true≢false (sym k))
      hints_stay n t (proof.DeleteParities ids) name k = absurd (true≢false (sym k))

  -- ---- the whole proof

  -- what stays of steps and the last one after them, which is right then
  pub record Ended (r : Tables) (n : ℕ) (steps : List ProofStep) (last : ProofStep) : Type 0 where
    pub kept : List ProofStep
    pub tables : Tables
    pub split : staying needed n r (steps ++ last ∷ []) ≡ kept ++ last ∷ []
    pub runs : Runs (proof_calculus formula) r kept tables
    pub right : IsRight (proof_calculus formula) tables last

  abbrev pub NoneOut : List ProofStep → Type 0
  NoneOut steps = (before later : List ProofStep) (s : ProofStep) → steps ≡ before ++ s ∷ later → NoHintOut before s

  module _ (whole_proof : List ProofStep) (none_out : NoneOut whole_proof) (last : ProofStep) (ends : IsTrue (adds_ending_clause formula last)) (is_last : IsTrue (needed (length whole_proof))) where
    last_stays : (n : ℕ) (r : Tables) (s : ProofStep) → adds_ending_clause formula s ≡ true → stays needed n r s ≡ needed n
    last_stays n r (proof.Clause id lits hints) k = refl
    last_stays n r (proof.Parity id lits hints) k = refl
    last_stays n r (proof.ClauseOfParity id lits hint) k = refl
    last_stays n r (proof.ParityOfClauses id lits hints) k = refl
    last_stays n r (proof.DeleteClauses id ids) k = absurd (true≢false (sym k))
    last_stays n r (proof.DeleteParities ids) k = absurd (true≢false (sym k))

    ended_last : (before : List ProofStep) (n : ℕ) (t r : Tables) → n ≡ length before + 1 → whole_proof ≡ before ++ last ∷ [] → Agree t r before → IsRight (proof_calculus formula) t last → Ended r n [] last
    ended_last before n t r e is h right =
        let same : length whole_proof ≡ n = ap length is ∙ length-append before (last ∷ []) ∙ sym e in
        let in_ : stays needed n r last ≡ true = last_stays n r last ends ∙ sym (ap needed same) ∙ is_last in
        record {
          kept = [];
          tables = r;
          split = ap (λ b. cond b (last ∷ []) []) in_;
          runs = refl;
          right = right_staying before n last t r e in_ right h (none_out before [] last is);
        }

    ended_more : (r r' : Tables) (n : ℕ) (s : ProofStep) (steps : List ProofStep) → stays needed n r s ≡ true → r' ≡ after_step r s → IsRight (proof_calculus formula) r s → IsFalse (adds_ending_clause formula s)
        → Ended r' (suc n) steps last → Ended r n (s ∷ steps) last
    ended_more r r' n s steps in_ is right open_ d = record {
      kept = s ∷ d.kept;
      tables = d.tables;
      split = ap (λ b. cond b (s ∷ staying needed (suc n) (after_step r s) (steps ++ last ∷ [])) (staying needed (suc n) r (steps ++ last ∷ []))) in_
          ∙ ap (λ (x : List ProofStep). s ∷ x) (subst (λ (u : Tables). staying needed (suc n) u (steps ++ last ∷ []) ≡ d.kept ++ last ∷ []) is d.split);
      runs = (right, open_, subst (λ (u : Tables). Runs (proof_calculus formula) u d.kept d.tables) is d.runs);
      right = d.right;
    }

    ended_without : (r : Tables) (n : ℕ) (s : ProofStep) (steps : List ProofStep) → stays needed n r s ≡ false → Ended r (suc n) steps last → Ended r n (s ∷ steps) last
    ended_without r n s steps out d = record {
      kept = d.kept;
      tables = d.tables;
      split = ap (λ b. cond b (s ∷ staying needed (suc n) (after_step r s) (steps ++ last ∷ [])) (staying needed (suc n) r (steps ++ last ∷ []))) out ∙ d.split;
      runs = d.runs;
      right = d.right;
    }

    ended_one : (s : ProofStep) (steps before : List ProofStep) (n : ℕ) (t r u : Tables) → n ≡ length before + 1 → whole_proof ≡ before ++ (s ∷ steps ++ last ∷ []) → Agree t r before
        → Runs (proof_calculus formula) t (s ∷ steps) u → (b : Bool) → stays needed n r s ≡ b
        → ((r' : Tables) → Agree (after_step t s) r' (before ++ s ∷ []) → Ended r' (suc n) steps last) → Ended r n (s ∷ steps) last
    ended_one s steps before n t r u e is h k true in_ more =
        ended_more r (after_step r s) n s steps in_ refl (right_staying before n s t r e in_ k.0 h (none_out before (steps ++ last ∷ []) s is)) k.1 (more (after_step r s) (agree_kept before s t r h))
    ended_one s steps before n t r u e is h k false out more = ended_without r n s steps out (more r (agree_dropped before n s t r e out k.0 h))

    pub ended : (steps before : List ProofStep) (n : ℕ) (t r u : Tables) → n ≡ length before + 1 → whole_proof ≡ before ++ (steps ++ last ∷ []) → Agree t r before → Runs (proof_calculus formula) t steps u
        → IsRight (proof_calculus formula) u last → Ended r n steps last
    ended [] before n t r u e is h k right = ended_last before n t r e is h (subst (λ (x : Tables). IsRight (proof_calculus formula) x last) k right)
    ended (s ∷ steps) before n t r u e is h k right =
        ended_one s steps before n t r u e is h k (stays needed n r s) refl
        (λ r' f. ended steps (before ++ s ∷ []) (suc n) (after_step t s) r' u (omega (arith, e, length-append before (s ∷ []))) (is ∙ sym (append_assoc before (s ∷ []) (steps ++ last ∷ []))) f k.2 right)
