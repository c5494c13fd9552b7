-- Going back through a proof marks the needed steps.
use Rattle.std.proofs.Common.{◌≡◌, refl, sym, ap, ◌∙◌, ℕ, zero, suc, ◌+◌, ◌<◌, Bool, true, false, not, ◌&&◌, nat_eq, List, [], ◌∷◌, ◌++◌, length, length-append, append-nil, append_assoc, get_or, add-one, arith, ◌⊎◌, inl, inr, ◌↔◌, true≢false, eqb-true, eq-eqb}
use Rattle.std.specs.List.{list_any}
use Rattle.std.proofs.lemmas.Bool.{or_parts, or_from, or_left, or_right, or_cases, and_parts, and_from, not-true, not_from_false}
use Rattle.cx_base.specs.declared.steps.ProofStep.{ProofStep}
use Rattle.cx_base.specs.declared.steps.ProofStep.TheVariants as variants
use Rattle.proof_trim.specs.Names.{Name, clause, parity, puts, has_hint}
use Rattle.proof_trim.specs.Needed.{WasPut, IsClosed, AreNeeded, NamesFormulas}
use Rattle.proof_trim.specs.Marking.{puts_wanted, is_nil, wants, is_needed, marks_of, marked}

-- ---- the mark of a step

get_or-marks : (a : List ProofStep) (s : ProofStep) (steps : List ProofStep) → get_or (marks_of (a ++ s ∷ steps)) (length a) false ≡ is_needed s steps
get_or-marks [] s steps = refl
get_or-marks (x ∷ a) s steps = get_or-marks a s steps

marked_more : (marks : List Bool) (n : ℕ) → marked marks (n + 1) ≡ get_or marks n false
marked_more marks n = ap (marked marks) (add-one n)

mark_at : (a : List ProofStep) (s : ProofStep) (steps : List ProofStep) → marked (marks_of (a ++ s ∷ steps)) (length a + 1) ≡ is_needed s steps
mark_at a s steps = marked_more (marks_of (a ++ s ∷ steps)) (length a) ∙ get_or-marks a s steps

last_marked : (s : ProofStep) (steps : List ProofStep) → get_or (marks_of (s ∷ steps)) (length steps) false ≡ true
last_marked s [] = refl
last_marked s (x ∷ steps) = last_marked x steps

pub last_is_marked : (steps : List ProofStep) → 0 < length steps → marked (marks_of steps) (length steps) ≡ true
last_is_marked [] h = absurd (omega arith)
last_is_marked (s ∷ steps) h = last_marked s steps

-- a mark is that of a step
record Marked (steps : List ProofStep) (n : ℕ) : Type 0 where
  pub before : List ProofStep
  pub step : ProofStep
  pub later : List ProofStep
  pub split : steps ≡ before ++ step ∷ later
  pub number : length before ≡ n
  pub needed : is_needed step later ≡ true

marked_one : (steps : List ProofStep) (n : ℕ) → get_or (marks_of steps) n false ≡ true → Marked steps n
marked_one [] n h = absurd (true≢false (sym h))
marked_one (s ∷ steps) zero h = record { before = []; step = s; later = steps; split = refl; number = refl; needed = h }
marked_one (s ∷ steps) (suc n) h =
    let m = marked_one steps n h in
    record { before = s ∷ m.before; step = m.step; later = m.later; split = ap (λ (x : List ProofStep). s ∷ x) m.split; number = ap suc m.number; needed = m.needed }

-- ---- what is wanted

-- a name that the step puts is the one that is asked for
puts_name : (wanted : Name → Bool) (s : ProofStep) (name : Name) → puts s name ≡ true → puts_wanted wanted s ≡ wanted name
puts_name wanted (variants.Clause n lits hints) (clause m) e = ap (λ k. wanted (clause k)) (sym (eqb-true m n e))
puts_name wanted (variants.Clause n lits hints) (parity m) e = absurd (true≢false (sym e))
puts_name wanted (variants.Parity n lits hints) (clause m) e = absurd (true≢false (sym e))
puts_name wanted (variants.Parity n lits hints) (parity m) e = ap (λ k. wanted (parity k)) (sym (eqb-true m n e))
puts_name wanted (variants.ClauseOfParity n lits hint) (clause m) e = ap (λ k. wanted (clause k)) (sym (eqb-true m n e))
puts_name wanted (variants.ClauseOfParity n lits hint) (parity m) e = absurd (true≢false (sym e))
puts_name wanted (variants.ParityOfClauses n lits hints) (clause m) e = absurd (true≢false (sym e))
puts_name wanted (variants.ParityOfClauses n lits hints) (parity m) e = ap (λ k. wanted (parity k)) (sym (eqb-true m n e))
puts_name wanted (variants.DeleteClauses n ids) name e = absurd (true≢false (sym e))
puts_name wanted (variants.DeleteParities ids) name e = absurd (true≢false (sym e))

abbrev PutsOne : (Name → Bool) → ProofStep → Type 0
PutsOne wanted s = (name : Name) × (puts s name ≡ true) × (wanted name ≡ true)

itself : (n : ℕ) → nat_eq n n ≡ true
itself n = eq-eqb n n refl

puts_one : (wanted : Name → Bool) (s : ProofStep) → puts_wanted wanted s ≡ true → PutsOne wanted s
puts_one wanted (variants.Clause n lits hints) h = (clause n, itself n, h)
puts_one wanted (variants.Parity n lits hints) h = (parity n, itself n, h)
puts_one wanted (variants.ClauseOfParity n lits hint) h = (clause n, itself n, h)
puts_one wanted (variants.ParityOfClauses n lits hints) h = (parity n, itself n, h)
puts_one wanted (variants.DeleteClauses n ids) h = absurd (true≢false (sym h))
puts_one wanted (variants.DeleteParities ids) h = absurd (true≢false (sym h))

abbrev PutsNone : List ProofStep → Name → Type 0
PutsNone steps name = list_any (λ s. puts s name) steps ≡ false

wants_now : (s : ProofStep) (steps : List ProofStep) (name : Name) → is_needed s steps ≡ true → has_hint s name ≡ true → wants (s ∷ steps) name ≡ true
wants_now s steps name n h = or_left (is_needed s steps && has_hint s name) (not (puts s name) && wants steps name) (and_from (is_needed s steps) (has_hint s name) n h)

-- what is wanted after steps that don't put it is wanted before them
wants_back : (since steps : List ProofStep) (name : Name) → PutsNone since name → wants steps name ≡ true → wants (since ++ steps) name ≡ true
wants_back [] steps name h k = k
wants_back (s ∷ since) steps name h k =
    let p = or_parts (puts s name) (list_any (λ t. puts t name) since) h in
    or_right (is_needed s (since ++ steps) && has_hint s name) (not (puts s name) && wants (since ++ steps) name)
    (and_from (not (puts s name)) (wants (since ++ steps) name) (not_from_false (puts s name) p.0) (wants_back since steps name p.1 k))

-- ---- the marked steps are closed

module _ (proof : List ProofStep) where
  needed_at : (before later : List ProofStep) (s : ProofStep) → proof ≡ before ++ s ∷ later → marked (marks_of proof) (length before + 1) ≡ true → is_needed s later ≡ true
  needed_at before later s e h = sym (mark_at before s later) ∙ ap (λ (x : List ProofStep). marked (marks_of x) (length before + 1)) (sym e) ∙ h

  marked_hints : (before later : List ProofStep) (s : ProofStep) (name : Name) (j : ℕ) → proof ≡ before ++ s ∷ later → marked (marks_of proof) (length before + 1) ≡ true → has_hint s name ≡ true
      → WasPut before name j → marked (marks_of proof) j ≡ true
  marked_hints before later s name j e chosen hint w =
      let now : wants (s ∷ later) name ≡ true = wants_now s later name (needed_at before later s e chosen) hint in
      let back : wants (w.since ++ s ∷ later) name ≡ true = wants_back w.since (s ∷ later) name w.stays now in
      let split : proof ≡ w.earlier ++ w.step ∷ (w.since ++ s ∷ later) = e ∙ ap (λ (x : List ProofStep). x ++ s ∷ later) w.split ∙ append_assoc w.earlier (w.step ∷ w.since) (s ∷ later) in
      let needed : is_needed w.step (w.since ++ s ∷ later) ≡ true =
      or_right (is_nil (w.since ++ s ∷ later)) (puts_wanted (wants (w.since ++ s ∷ later)) w.step) (puts_name (wants (w.since ++ s ∷ later)) w.step name w.puts_it ∙ back) in
      ap (marked (marks_of proof)) w.number ∙ ap (λ (x : List ProofStep). marked (marks_of x) (length w.earlier + 1)) split ∙ mark_at w.earlier w.step (w.since ++ s ∷ later) ∙ needed

  marks_are_closed : IsClosed proof (marked (marks_of proof))
  marks_are_closed = record { has_last = last_is_marked proof; has_hints = marked_hints }

  -- ---- and each closed set has them

  module _ (chosen : ℕ → Bool) (closed : IsClosed proof chosen) where
    -- a chosen step of the rest names it, and none before that puts it
    record WantedBy (a rest : List ProofStep) (name : Name) : Type 0 where
      pub between : List ProofStep
      pub step : ProofStep
      pub later : List ProofStep
      pub split : rest ≡ between ++ step ∷ later
      pub none : PutsNone between name
      pub is_chosen : chosen (length (a ++ between) + 1) ≡ true
      pub hint : has_hint step name ≡ true

    chosen_last : (a : List ProofStep) (s : ProofStep) (steps : List ProofStep) → proof ≡ a ++ s ∷ steps → is_nil steps ≡ true → chosen (length a + 1) ≡ true
    chosen_last a s [] e h = let same : length a + 1 ≡ length proof = sym (ap length e ∙ length-append a (s ∷ [])) in ap chosen same ∙ closed.has_last (omega (arith, same))
    chosen_last a s (x ∷ steps) e h = absurd (true≢false (sym h))

    chosen_one : (a : List ProofStep) (s : ProofStep) (steps : List ProofStep) → proof ≡ a ++ s ∷ steps → ((name : Name) → wants steps name ≡ true → WantedBy (a ++ s ∷ []) steps name) → is_needed s steps ≡ true
        → chosen (length a + 1) ≡ true
    chosen_one a s steps e more h = go (or_cases (is_nil steps) (puts_wanted (wants steps) s) h)
      where
        by : (name : Name) → puts s name ≡ true → WantedBy (a ++ s ∷ []) steps name → chosen (length a + 1) ≡ true
        by name put w =
            let split : proof ≡ (a ++ s ∷ w.between) ++ w.step ∷ w.later = e ∙ ap (λ (x : List ProofStep). a ++ s ∷ x) w.split ∙ sym (append_assoc a (s ∷ w.between) (w.step ∷ w.later)) in
            let here : chosen (length (a ++ s ∷ w.between) + 1) ≡ true = ap (λ (x : List ProofStep). chosen (length x + 1)) (sym (append_assoc a (s ∷ []) w.between)) ∙ w.is_chosen in
            closed.has_hints (a ++ s ∷ w.between) w.later w.step name (length a + 1) split here w.hint
            (record { earlier = a; step = s; since = w.between; split = refl; puts_it = put; stays = w.none; number = refl })

        go : (is_nil steps ≡ true) ⊎ (puts_wanted (wants steps) s ≡ true) → chosen (length a + 1) ≡ true
        go (inl nil) = chosen_last a s steps e nil
        go (inr put) = let p = puts_one (wants steps) s put in by p.0 p.1 (more p.0 p.2)

    wanted_more : (a : List ProofStep) (s : ProofStep) (steps : List ProofStep) (name : Name) → PutsNone (s ∷ []) name → WantedBy (a ++ s ∷ []) steps name → WantedBy a (s ∷ steps) name
    wanted_more a s steps name h w = record {
      between = s ∷ w.between;
      step = w.step;
      later = w.later;
      split = ap (λ (x : List ProofStep). s ∷ x) w.split;
      none = or_from (puts s name) (list_any (λ t. puts t name) w.between) (or_parts (puts s name) false h).0 w.none;
      is_chosen = ap (λ (x : List ProofStep). chosen (length x + 1)) (sym (append_assoc a (s ∷ []) w.between)) ∙ w.is_chosen;
      hint = w.hint;
    }

    wanted_one : (a : List ProofStep) (s : ProofStep) (steps : List ProofStep) (name : Name) → proof ≡ a ++ s ∷ steps → ((m : Name) → wants steps m ≡ true → WantedBy (a ++ s ∷ []) steps m)
        → ((is_needed s steps && has_hint s name) ≡ true) ⊎ ((not (puts s name) && wants steps name) ≡ true) → WantedBy a (s ∷ steps) name
    wanted_one a s steps name e more (inl k) =
        let p = and_parts (is_needed s steps) (has_hint s name) k in
        record {
          between = [];
          step = s;
          later = steps;
          split = refl;
          none = refl;
          is_chosen = ap (λ (x : List ProofStep). chosen (length x + 1)) (append-nil a) ∙ chosen_one a s steps e more p.0;
          hint = p.1;
        }
    wanted_one a s steps name e more (inr k) =
        let p = and_parts (not (puts s name)) (wants steps name) k in
        wanted_more a s steps name (or_from (puts s name) false (not-true (puts s name) p.0) refl) (more name p.1)

    wanted_by : (rest a : List ProofStep) → proof ≡ a ++ rest → (name : Name) → wants rest name ≡ true → WantedBy a rest name
    wanted_by [] a e name h = absurd (true≢false (sym h))
    wanted_by (s ∷ steps) a e name h =
        wanted_one a s steps name e (wanted_by steps (a ++ s ∷ []) (e ∙ sym (append_assoc a (s ∷ []) steps)))
        (or_cases (is_needed s steps && has_hint s name) (not (puts s name) && wants steps name) h)

    chosen_marked : (m : ℕ) → get_or (marks_of proof) m false ≡ true → chosen (suc m) ≡ true
    chosen_marked m h =
        let o = marked_one proof m h in
        let here = chosen_one o.before o.step o.later o.split (wanted_by o.later (o.before ++ o.step ∷ []) (o.split ∙ sym (append_assoc o.before (o.step ∷ []) o.later))) o.needed in
        ap chosen (sym (add-one m) ∙ ap (λ k. k + 1) (sym o.number)) ∙ here

    marked_is_chosen : (j : ℕ) → marked (marks_of proof) j ≡ true → chosen j ≡ true
    marked_is_chosen zero h = absurd (true≢false (sym h))
    marked_is_chosen (suc m) h = chosen_marked m h

pub marks_are_needed : (proof : List ProofStep) → AreNeeded proof (marked (marks_of proof))
marks_are_needed proof = record { closed = marks_are_closed proof; least = λ chosen closed. marked_is_chosen proof chosen closed }

-- ---- what is wanted at the start is what is named of the formula

pub wanted_is_named : (proof : List ProofStep) (name : Name) → (wants proof name ≡ true) ↔ NamesFormulas proof (marked (marks_of proof)) name
wanted_is_named proof name = (named, wanted)
  where
    named : wants proof name ≡ true → NamesFormulas proof (marked (marks_of proof)) name
    named k =
        let w = wanted_by proof (marked (marks_of proof)) (marks_are_closed proof) proof [] refl name k in
        record { before = w.between; step = w.step; later = w.later; split = w.split; is_needed = w.is_chosen; hint = w.hint; formulas = w.none }

    wanted : NamesFormulas proof (marked (marks_of proof)) name → wants proof name ≡ true
    wanted f =
        ap (λ (x : List ProofStep). wants x name) f.split
        ∙ wants_back f.before (f.step ∷ f.later) name f.formulas (wants_now f.step f.later name (needed_at proof f.before f.later f.step f.split f.is_needed) f.hint)
