-- The passes over a proof, step by step.
use Rattle.std.proofs.Common.{◌≡◌, refl, sym, ap, ◌∙◌, subst, ℕ, suc, ◌+◌, ◌<◌, ◌≤◌, Bool, true, false, cond, not, ◌&&◌, ◌||◌, nat_eq, nat_lt, nat_le, List, [], ◌∷◌, ◌++◌, length, drop, get_or, Some, None, is_some, true≢false, add-one, append_assoc, arith, ◌⊎◌, inl, inr}
use Rattle.std.specs.List.{list_any}
use Rattle.std.proofs.lemmas.Bool.{eqb-false, eq-eqb, ne_eqb, cases_eq, ltb-true, leb-true, lt-ltb, le-leb, and_parts, and_from, or_left, or_right, or_from}
use Rattle.cx_base.specs.Literals.{Literal}
use Rattle.cx_base.specs.Problem.{Problem, clauses_of, parities_of}
use Rattle.cx_base.specs.declared.steps.ProofStep.{ProofStep}
use Rattle.cx_base.specs.declared.steps.ProofStep.TheVariants as variants
use Rattle.cx_semantics.specs.Tables.{Tables, first_tables}
use Rattle.cx_semantics.specs.ProofRules.{after_step}
use Rattle.cx_semantics.proofs.Lookups.{lookup, Looks-numbered_from}
use Rattle.proof_rules.specs.declared.live.Kind.{Kind}
use Rattle.proof_rules.specs.declared.live.Kind.TheVariants.{Clauses, Parities}
use Rattle.proof_trim.specs.Names.{Name, clause, parity, look, puts, takes_out}
use Rattle.proof_trim.specs.Trimmed.{stays, staying}
use Rattle.proof_trim.specs.Kept.{chosen}
use Rattle.proof_trim.specs.Marking.{wants, marks_of, marked}
use Rattle.proof_trim.specs.declared.names.NameSet.{NameSet}
use Rattle.proof_trim.specs.NameSets.{Has, KeepsOne, has_name, name_of, is_number, live_after, stays_with, live_in}
use Rattle.proof_trim.specs.Needed.{AreRising, AreCore}
use Rattle.proof_trim.specs.Puts.{is_deletion}
use Rattle.proof_trim.specs.Outcomes.{ListsNames}
use Rattle.proof_trim.proofs.LookLaws.{Content, put_lits, look-after_step}
use Rattle.proof_trim.proofs.NameLaws.{both_ways, or_joined}
use Rattle.proof_trim.proofs.MarkLaws.{wanted_is_named}
use Rattle.proof_trim.proofs.TrimLaws.{in_range}

-- ---- what is live

some_after : (taken put : Bool) (x : List Literal) (o : Content) → is_some (cond taken None (cond put (Some x) o)) ≡ (not taken && (put || is_some o))
some_after true put x o = refl
some_after false true x o = refl
some_after false false x o = refl

pub live-after_step : (t : Tables) (s : ProofStep) (name : Name) → live_in (after_step t s) name ≡ live_after s (live_in t) name
live-after_step t s name = ap is_some (look-after_step t s name) ∙ some_after (takes_out s name) (puts s name) (put_lits s) (look t name)

pub live_on : (t : Tables) (s : ProofStep) (old new : Name → Bool) → ((name : Name) → old name ≡ live_in t name) → ((name : Name) → new name ≡ live_after s old name) → (name : Name) → new name ≡ live_in (after_step t s) name
live_on t s old new h k name = k name ∙ ap (λ b. not (takes_out s name) && (puts s name || b)) (h name) ∙ sym (live-after_step t s name)

pub stays_same : (needed : ℕ → Bool) (n : ℕ) (t : Tables) (s : ProofStep) (live : Name → Bool) → ((name : Name) → live name ≡ live_in t name) → stays_with (needed n) live s ≡ stays needed n t s
stays_same needed n t (variants.Clause id lits hints) live h = refl
stays_same needed n t (variants.Parity id lits hints) live h = refl
stays_same needed n t (variants.ClauseOfParity id lits hint) live h = refl
stays_same needed n t (variants.ParityOfClauses id lits hints) live h = refl
stays_same needed n t (variants.DeleteClauses id ids) live h = λ i. list_any (λ m. h (clause m) i) ids
stays_same needed n t (variants.DeleteParities ids) live h = λ i. list_any (λ m. h (parity m) i) ids

or_nothing : (b : Bool) → (b || false) ≡ b
or_nothing true = refl
or_nothing false = refl

or_false : (b : Bool) → (b || false) ≡ true → b ≡ true
or_false true h = refl
or_false false h = h

-- a number in range has something under it
looked_one : (n : ℕ) (lits : List Literal) (more : List (List Literal)) (k : ℕ) (b : Bool) → nat_eq k n ≡ b → n ≤ k → k < n + suc (length more)
    → (suc n ≤ k → k < suc n + length more → is_some (lookup (suc n) more k) ≡ true) → is_some (cond b (Some lits) (lookup (suc n) more k)) ≡ true
looked_one n lits more k true e low high rest = refl
looked_one n lits more k false e low high rest = let apart : (k ≡ n → ⊥) = eqb-false k n e in rest (omega (arith, apart)) (omega arith)

looked_in : (n : ℕ) (lists : List (List Literal)) (k : ℕ) → n ≤ k → k < n + length lists → is_some (lookup n lists k) ≡ true
looked_in n [] k low high = absurd (omega arith)
looked_in n (lits ∷ more) k low high = looked_one n lits more k (nat_eq k n) refl low high (looked_in (suc n) more k)

number_looked : (lists : List (List Literal)) (k : ℕ) → ((nat_lt 0 k && nat_le k (length lists)) || false) ≡ is_some (lookup 1 lists k)
number_looked lists k = both_ways _ _ up down
  where
    up : ((nat_lt 0 k && nat_le k (length lists)) || false) ≡ true → is_some (lookup 1 lists k) ≡ true
    up h =
        let p = and_parts (nat_lt 0 k) (nat_le k (length lists)) (or_false (nat_lt 0 k && nat_le k (length lists)) h) in
        let low : 0 < k = ltb-true 0 k p.0 in
        let high : k ≤ length lists = leb-true k (length lists) p.1 in
        looked_in 1 lists k (omega arith) (omega arith)

    down : is_some (lookup 1 lists k) ≡ true → ((nat_lt 0 k && nat_le k (length lists)) || false) ≡ true
    down h =
        let r = in_range 1 lists k h in
        let low : 1 ≤ k = r.0 in
        let high : k < 1 + length lists = r.1 in
        or_left (nat_lt 0 k && nat_le k (length lists)) false (and_from (nat_lt 0 k) (nat_le k (length lists)) (lt-ltb 0 k (omega arith)) (le-leb k (length lists) (omega arith)))

pub first_live : (formula : Problem) (name : Name)
    → (is_number Parities (length (parities_of formula.constraints)) name || (is_number Clauses (length (clauses_of formula.constraints)) name || false)) ≡ live_in (first_tables formula) name
first_live formula (clause k) = number_looked (clauses_of formula.constraints) k ∙ ap is_some (sym (Looks-numbered_from 1 (clauses_of formula.constraints) k))
first_live formula (parity k) = number_looked (parities_of formula.constraints) k ∙ ap is_some (sym (Looks-numbered_from 1 (parities_of formula.constraints) k))

-- ---- forward

keep_by : (marks : List Bool) (place : ℕ) (t : Tables) (s : ProofStep) (rest before after whole : List ProofStep) (old new : NameSet) (b : Bool) → stays (marked marks) (place + 1) t s ≡ b
    → Has old (live_in t) → before ++ staying (marked marks) (place + 1) t (s ∷ rest) ≡ whole → after ≡ cond b (before ++ s ∷ []) before
    → Has new (λ name. cond b (live_after s (has_name old) name) (has_name old name))
    → (u : Tables) × Has new (live_in u) × (after ++ staying (marked marks) ((place + 1) + 1) u rest ≡ whole)
keep_by marks place t s rest before after whole old new true e h is kept live =
    let more : ℕ → List ProofStep = λ n. staying (marked marks) n (after_step t s) rest in
    let one : staying (marked marks) (place + 1) t (s ∷ rest) ≡ s ∷ more (suc (place + 1)) = ap (λ b. cond b (s ∷ more (suc (place + 1))) (staying (marked marks) (suc (place + 1)) t rest)) e in (
      after_step t s,
      live_on t s (has_name old) (has_name new) h live,
      ap (λ (x : List ProofStep). x ++ more ((place + 1) + 1)) kept
          ∙ append_assoc before (s ∷ []) (more ((place + 1) + 1))
          ∙ ap (λ n. before ++ (s ∷ more n)) (add-one (place + 1))
          ∙ ap (λ (x : List ProofStep). before ++ x) (sym one)
          ∙ is,
    )
keep_by marks place t s rest before after whole old new false e h is kept live =
    let more : ℕ → List ProofStep = λ n. staying (marked marks) n t rest in
    let one : staying (marked marks) (place + 1) t (s ∷ rest) ≡ more (suc (place + 1)) = ap (λ b. cond b (s ∷ staying (marked marks) (suc (place + 1)) (after_step t s) rest) (more (suc (place + 1)))) e in (
      t,
      λ name. live name ∙ h name,
      ap (λ (x : List ProofStep). x ++ more ((place + 1) + 1)) kept
          ∙ ap (λ n. before ++ more n) (add-one (place + 1))
          ∙ ap (λ (x : List ProofStep). before ++ x) (sym one)
          ∙ is,
    )

-- one step more, which stays or not
pub chosen_more : (bs : List Bool) (all : List ProofStep) (b : Bool) (s : ProofStep) (rest : List ProofStep) → drop (length bs) all ≡ s ∷ rest
    → chosen (bs ++ b ∷ []) all ≡ cond b (chosen bs all ++ s ∷ []) (chosen bs all)
chosen_more [] all true s rest e = ap (chosen (true ∷ [])) e
chosen_more [] all false s rest e = ap (chosen (false ∷ [])) e
chosen_more (c ∷ bs) [] b s rest e = absurd (omega (arith, ap length e))
chosen_more (true ∷ bs) (x ∷ all) true s rest e = ap (λ (y : List ProofStep). x ∷ y) (chosen_more bs all true s rest e)
chosen_more (true ∷ bs) (x ∷ all) false s rest e = ap (λ (y : List ProofStep). x ∷ y) (chosen_more bs all false s rest e)
chosen_more (false ∷ bs) (x ∷ all) b s rest e = chosen_more bs all b s rest e

pub keep_more : (marks : List Bool) (place : ℕ) (t : Tables) (s : ProofStep) (proof rest : List ProofStep) (bs : List Bool) (said : Bool) (whole : List ProofStep) (old new : NameSet)
    → length bs ≡ place → drop place proof ≡ s ∷ rest → Has old (live_in t) → chosen bs proof ++ staying (marked marks) (place + 1) t (drop place proof) ≡ whole
    → KeepsOne (get_or marks place false) s old new said
    → (u : Tables) × Has new (live_in u) × (chosen (bs ++ said ∷ []) proof ++ staying (marked marks) ((place + 1) + 1) u rest ≡ whole)
keep_more marks place t s proof rest bs said whole old new long split h is one =
    let stayed = stays_with (get_or marks place false) (has_name old) s in
    let same : stays (marked marks) (place + 1) t s ≡ stayed =
    sym (stays_same (marked marks) (place + 1) t s (has_name old) h) ∙ ap (λ b. stays_with b (has_name old) s) (ap (marked marks) (add-one place)) in
    let kept : chosen (bs ++ said ∷ []) proof ≡ cond stayed (chosen bs proof ++ s ∷ []) (chosen bs proof) =
    chosen_more bs proof said s rest (ap (λ n. drop n proof) long ∙ split) ∙ ap (λ b. cond b (chosen bs proof ++ s ∷ []) (chosen bs proof)) one.0 in
    keep_by marks place t s rest (chosen bs proof) (chosen (bs ++ said ∷ []) proof) whole old new stayed same h
    (ap (λ (x : List ProofStep). chosen bs proof ++ staying (marked marks) (place + 1) t x) (sym split) ∙ is) kept one.1

-- ---- where no step takes out anything

no_left : (a b : Bool) → (a || b) ≡ false → a ≡ false
no_left true b e = e
no_left false b e = refl

no_right : (a b : Bool) → (a || b) ≡ false → b ≡ false
no_right true b e = absurd (true≢false e)
no_right false b e = e

none_more : (steps : List ProofStep) (s : ProofStep) → list_any is_deletion steps ≡ false → is_deletion s ≡ false → list_any is_deletion (steps ++ s ∷ []) ≡ false
none_more [] s none e = ap (λ b. b || false) e
none_more (x ∷ steps) s none e =
    (λ i. no_left (is_deletion x) (list_any is_deletion steps) none i || list_any is_deletion (steps ++ s ∷ [])) ∙ none_more steps s (no_right (is_deletion x) (list_any is_deletion steps) none) e

-- what is kept of whether some step deletes, with one step more
pub still_none : (steps : List ProofStep) (s : ProofStep) (before : Bool) → (before ≡ false → list_any is_deletion steps ≡ false) → (is_deletion s || before) ≡ false → list_any is_deletion (steps ++ s ∷ []) ≡ false
still_none steps s before kept e = none_more steps s (kept (no_right (is_deletion s) before e)) (no_left (is_deletion s) before e)

marked_stays : (needed : ℕ → Bool) (n : ℕ) (t : Tables) (s : ProofStep) → is_deletion s ≡ false → stays needed n t s ≡ needed n
marked_stays needed n t (variants.Clause id lits hints) e = refl
marked_stays needed n t (variants.Parity id lits hints) e = refl
marked_stays needed n t (variants.ClauseOfParity id lits hint) e = refl
marked_stays needed n t (variants.ParityOfClauses id lits hints) e = refl
marked_stays needed n t (variants.DeleteClauses id ids) e = absurd (true≢false e)
marked_stays needed n t (variants.DeleteParities ids) e = absurd (true≢false e)

chosen_one : (b : Bool) (marks : List Bool) (s : ProofStep) (proof : List ProofStep) → chosen (b ∷ marks) (s ∷ proof) ≡ cond b (s ∷ chosen marks proof) (chosen marks proof)
chosen_one true marks s proof = refl
chosen_one false marks s proof = refl

-- just the steps that are marked stay
pub all_marked : (needed : ℕ → Bool) (n : ℕ) (t : Tables) (marks : List Bool) (proof : List ProofStep) → length marks ≡ length proof → list_any is_deletion proof ≡ false
    → ((k : ℕ) → needed (k + n) ≡ get_or marks k false) → chosen marks proof ≡ staying needed n t proof
all_marked needed n t [] [] long none same = refl
all_marked needed n t [] (s ∷ proof) long none same = absurd (omega (arith, long))
all_marked needed n t (b ∷ marks) [] long none same = absurd (omega (arith, long))
all_marked needed n t (b ∷ marks) (s ∷ proof) long none same =
    let rest : (u : Tables) → chosen marks proof ≡ staying needed (suc n) u proof =
    λ u. all_marked needed (suc n) u marks proof (omega (arith, long)) (no_right (is_deletion s) (list_any is_deletion proof) none) (λ k. let e : k + suc n ≡ suc k + n = omega arith in ap needed e ∙ same (suc k)) in
    let first : n ≡ 0 + n = omega arith in
    let stayed : stays needed n t s ≡ b = marked_stays needed n t s (no_left (is_deletion s) (list_any is_deletion proof) none) ∙ ap needed first ∙ same 0 in
    chosen_one b marks s proof
    ∙ (λ i. cond b (s ∷ rest (after_step t s) i) (rest t i))
    ∙ ap (λ c. cond c (s ∷ staying needed (suc n) (after_step t s) proof) (staying needed (suc n) t proof)) (sym stayed)

-- ---- numbers

pub rising_push : (numbers : List ℕ) (least greatest : ℕ) → least ≤ greatest + 1 → AreRising least greatest numbers → AreRising least (greatest + 1) (numbers ++ (greatest + 1) ∷ [])
rising_push [] least greatest h r = (h, omega arith, tt)
rising_push (n ∷ numbers) least greatest h (low, high, r) = (low, omega (arith, high), rising_push numbers (suc n) greatest (omega (arith, high)) r)

pub rising_wider : (numbers : List ℕ) (least greatest : ℕ) → AreRising least greatest numbers → AreRising least (greatest + 1) numbers
rising_wider [] least greatest r = tt
rising_wider (n ∷ numbers) least greatest (low, high, r) = (low, omega (arith, high), rising_wider numbers (suc n) greatest r)

none_above : (numbers : List ℕ) (least greatest n : ℕ) → AreRising least greatest numbers → greatest < n → list_any (nat_eq n) numbers ≡ false
none_above [] least greatest n r h = refl
none_above (m ∷ numbers) least greatest n (low, high, r) h = or_from (nat_eq n m) (list_any (nat_eq n) numbers) (ne_eqb n m (λ e. omega (arith, e, high))) (none_above numbers (suc m) greatest n r h)

any_push : (numbers : List ℕ) (n m : ℕ) → list_any (nat_eq n) (numbers ++ m ∷ []) ≡ (list_any (nat_eq n) numbers || nat_eq n m)
any_push [] n m = or_nothing (nat_eq n m)
any_push (k ∷ numbers) n m = ap (λ b. nat_eq n k || b) (any_push numbers n m) ∙ or_joined (nat_eq n k) (list_any (nat_eq n) numbers) (nat_eq n m)

module _ (names : NameSet) (kind : Kind) (place : ℕ) (numbers : List ℕ) (lists : ListsNames names kind place numbers) where
  pub listed_more : has_name names (name_of kind (place + 1)) ≡ true → ListsNames names kind (place + 1) (numbers ++ (place + 1) ∷ [])
  listed_more h = record { rising = rising_push numbers 1 place (omega arith) lists.rising; same = λ n low high. go n low high (cases_eq n (place + 1)) }
    where
      go : (n : ℕ) → 1 ≤ n → n ≤ place + 1 → (n ≡ place + 1) ⊎ (n ≡ place + 1 → ⊥) → list_any (nat_eq n) (numbers ++ (place + 1) ∷ []) ≡ has_name names (name_of kind n)
      go n low high (inl e) = any_push numbers n (place + 1) ∙ or_right (list_any (nat_eq n) numbers) (nat_eq n (place + 1)) (eq-eqb n (place + 1) e) ∙ sym (ap (λ k. has_name names (name_of kind k)) e ∙ h)
      go n low high (inr d) =
          let below : n ≤ place = omega (arith, d) in
          any_push numbers n (place + 1) ∙ ap (λ b. list_any (nat_eq n) numbers || b) (ne_eqb n (place + 1) d) ∙ or_nothing (list_any (nat_eq n) numbers) ∙ lists.same n low below

  pub listed_without : has_name names (name_of kind (place + 1)) ≡ false → ListsNames names kind (place + 1) numbers
  listed_without h = record { rising = rising_wider numbers 1 place lists.rising; same = λ n low high. go n low high (cases_eq n (place + 1)) }
    where
      go : (n : ℕ) → 1 ≤ n → n ≤ place + 1 → (n ≡ place + 1) ⊎ (n ≡ place + 1 → ⊥) → list_any (nat_eq n) numbers ≡ has_name names (name_of kind n)
      go n low high (inl e) = none_above numbers 1 place n lists.rising (omega (arith, e)) ∙ sym (ap (λ k. has_name names (name_of kind k)) e ∙ h)
      go n low high (inr d) = let below : n ≤ place = omega (arith, d) in lists.same n low below

-- ---- the core

pub length-marks : (proof : List ProofStep) → length (marks_of proof) ≡ length proof
length-marks [] = refl
length-marks (s ∷ proof) = ap suc (length-marks proof)

pub core_listed : (proof : List ProofStep) (names : NameSet) (kind : Kind) (count all : ℕ) (numbers : List ℕ) → Has names (wants proof) → count ≡ all → ListsNames names kind count numbers
    → AreCore proof (marked (marks_of proof)) (name_of kind) all numbers
core_listed proof names kind count all numbers has is lists =
    let l = subst (λ k. ListsNames names kind k numbers) is lists in
    record {
      rising = l.rising;
      named = λ n low high. let w = wanted_is_named proof (name_of kind n) in
          (λ h. w.0 (sym (has (name_of kind n)) ∙ sym (l.same n low high) ∙ h), λ f. l.same n low high ∙ has (name_of kind n) ∙ w.1 f);
    }
