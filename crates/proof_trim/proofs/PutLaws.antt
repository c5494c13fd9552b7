-- What steps put, and what their hints name.
use Rattle.std.proofs.Common.{◌≡◌, refl, sym, ap, ◌∙◌, ℕ, ℤ, pos, ◌+◌, ◌-◌, ◌<◌, ◌≤◌, nat_abs, Bool, true, false, cond, not, ◌&&◌, ◌||◌, List, [], ◌∷◌, ◌++◌, length, take, drop, map, get_or, Option, Some, None, is_some, true≢false, Result, Ok, Err, IfOk, OnOk, arith}
use Rattle.std.proofs.lemmas.List.{drop-take, drop-drop, get_or-drop}
use Rattle.cx_base.specs.declared.steps.ProofStep.{ProofStep}
use Rattle.cx_base.specs.declared.steps.ProofStep.TheVariants as step
use Rattle.proof_rules.specs.declared.live.Kind.{Kind}
use Rattle.proof_rules.specs.declared.live.Kind.TheVariants.{Clauses, Parities}
use Rattle.proof_trim.specs.declared.names.NameSet.{NameSet}
use Rattle.proof_trim.specs.declared.head.StepKind.{StepKind}
use Rattle.proof_trim.specs.declared.head.StepKind.TheVariants as kind
use Rattle.proof_trim.specs.declared.put.Put.{Put}
use Rattle.proof_trim.specs.Heads.{kind_in, literals_in}
use Rattle.proof_trim.specs.Integers.{part, signed, unsigned}
use Rattle.proof_trim.specs.Marking.{puts_wanted, wanted_before}
use Rattle.proof_trim.specs.Names.{Name, clause, parity, same_name, puts, has_hint}
use Rattle.proof_trim.specs.NameSets.{Has, KeepsOne, has_name, hinted, hinted_as, live_after, name_of, names_put, stays_with, wants_put, went_back}
use Rattle.proof_trim.specs.Puts.{hint_kind, put_by, put_of, step_at}
use Rattle.proof_trim.specs.Stored.{listed, packed, step_by, unpacked, IsPacked, AreStored, steps_at, start_at}
use Rattle.proof_trim.proofs.NameLaws.{hinted_more, or_moved}
use Rattle.proof_trim.proofs.PartLaws.{part_begins, length-part}
use Rattle.proof_trim.proofs.StoreLaws.{kind_packed, hints_packed, begins, has_room, stands_at, unpacked-packed, StandsAt}

-- ---- a step by what it puts

pub puts_named : (s : ProofStep) (name : Name) → puts s name ≡ names_put name (put_of s)
puts_named (step.Clause n lits hints) name = refl
puts_named (step.DeleteClauses n ids) name = refl
puts_named (step.Parity n lits hints) name = refl
puts_named (step.DeleteParities ids) name = refl
puts_named (step.ClauseOfParity n lits hint) name = refl
puts_named (step.ParityOfClauses n lits hints) name = refl

pub wanted_named : (wanted : Name → Bool) (s : ProofStep) → puts_wanted wanted s ≡ wants_put wanted (put_of s)
wanted_named wanted (step.Clause n lits hints) = refl
wanted_named wanted (step.DeleteClauses n ids) = refl
wanted_named wanted (step.Parity n lits hints) = refl
wanted_named wanted (step.DeleteParities ids) = refl
wanted_named wanted (step.ClauseOfParity n lits hint) = refl
wanted_named wanted (step.ParityOfClauses n lits hints) = refl

puts_none : {B : Type 0} (put : Put) → Some put ≡ None → B
puts_none put e = absurd (true≢false (ap is_some e))

puts_some : {B : Type 0} (put : Put) → ◌≡◌ {A = Option Put} None (Some put) → B
puts_some put e = absurd (true≢false (sym (ap is_some e)))

no_hint : (s : ProofStep) (name : Name) → put_of s ≡ None → has_hint s name ≡ false
no_hint (step.Clause n lits hints) name e = puts_none _ e
no_hint (step.DeleteClauses n ids) name e = refl
no_hint (step.Parity n lits hints) name e = puts_none _ e
no_hint (step.DeleteParities ids) name e = refl
no_hint (step.ClauseOfParity n lits hint) name e = puts_none _ e
no_hint (step.ParityOfClauses n lits hints) name e = puts_none _ e

or_none : (b : Bool) → b ≡ (b || false)
or_none true = refl
or_none false = refl

and_none : (b c : Bool) → c ≡ ((b && false) || c)
and_none true c = refl
and_none false c = refl

-- ---- back over a step

module _ (s : ProofStep) (put : Put) (e : put_of s ≡ Some put) (wanted : Name → Bool) where
  pub needed_put : (last : Bool) → (last || wanted (name_of put.kind put.id)) ≡ (last || puts_wanted wanted s)
  needed_put last = ap (λ b. last || b) (sym (wanted_named wanted s ∙ ap (wants_put wanted) e))

  pub wanted_put : (needed : Bool) (name : Name) → went_back needed (has_hint s) (λ other. same_name other (name_of put.kind put.id)) wanted name ≡ wanted_before needed s wanted name
  wanted_put needed name = ap (λ b. (needed && has_hint s name) || (not b && wanted name)) (sym (puts_named s name ∙ ap (names_put name) e))

module _ (s : ProofStep) (e : put_of s ≡ None) (wanted : Name → Bool) where
  pub needed_none : (last : Bool) → last ≡ (last || puts_wanted wanted s)
  needed_none last = or_none last ∙ ap (λ b. last || b) (sym (wanted_named wanted s ∙ ap (wants_put wanted) e))

  pub wanted_none : (needed : Bool) (name : Name) → wanted name ≡ wanted_before needed s wanted name
  wanted_none needed name =
      and_none needed (wanted name)
      ∙ (λ i. (needed && sym (no_hint s name e) i) || (not (sym (puts_named s name ∙ ap (names_put name) e) i) && wanted name))

-- ---- forward over a step

stays_put : (needed : Bool) (live : Name → Bool) (s : ProofStep) (put : Put) → put_of s ≡ Some put → stays_with needed live s ≡ needed
stays_put needed live (step.Clause n lits hints) put e = refl
stays_put needed live (step.DeleteClauses n ids) put e = puts_some put e
stays_put needed live (step.Parity n lits hints) put e = refl
stays_put needed live (step.DeleteParities ids) put e = puts_some put e
stays_put needed live (step.ClauseOfParity n lits hint) put e = refl
stays_put needed live (step.ParityOfClauses n lits hints) put e = refl

live_named : (live : Name → Bool) (s : ProofStep) (put : Put) (name : Name) → put_of s ≡ Some put → live_after s live name ≡ (names_put name (put_of s) || live name)
live_named live (step.Clause n lits hints) put name e = refl
live_named live (step.DeleteClauses n ids) put name e = puts_some put e
live_named live (step.Parity n lits hints) put name e = refl
live_named live (step.DeleteParities ids) put name e = puts_some put e
live_named live (step.ClauseOfParity n lits hint) put name e = refl
live_named live (step.ParityOfClauses n lits hints) put name e = refl

either : (b put live : Bool) → ((b && put) || live) ≡ cond b (put || live) live
either true put live = refl
either false put live = refl

-- a step that puts something is done to the set where it is needed
pub kept_put : (needed said : Bool) (s : ProofStep) (put : Put) (old new : NameSet) → put_of s ≡ Some put → said ≡ needed
    → Has new (λ name. (needed && same_name name (name_of put.kind put.id)) || has_name old name) → KeepsOne needed s old new said
kept_put needed said s put old new e is h =
    let stays = sym (stays_put needed (has_name old) s put e) in (
      is ∙ stays,
      λ name.
          let live : (same_name name (name_of put.kind put.id) || has_name old name) ≡ live_after s (has_name old) name =
          sym (live_named (has_name old) s put name e ∙ ap (λ o. names_put name o || has_name old name) e) in
          h name ∙ either needed (same_name name (name_of put.kind put.id)) (has_name old name) ∙ (λ i. cond (stays i) (live i) (has_name old name)),
    )

pub if_both : {T E : Type 0} (r : Result T E) (P Q : T → Type 0) (R : Type 0) → ((t : T) → P t → R → Q t) → IfOk r P → OnOk r R → IfOk r Q
if_both (Ok t) P Q R f p q = f t p q
if_both (Err e) P Q R f p q = tt

-- ---- the step at a place

pub step_there : (steps rest : List ProofStep) (place : ℕ) (s : ProofStep) → drop place steps ≡ s ∷ rest → step_at steps place ≡ s
step_there steps rest place s e =
    let d = step.DeleteParities [] in
    let here : place + 0 ≡ place = omega arith in
    sym (get_or-drop place steps 0 d ∙ ap (λ n. get_or steps n d) here) ∙ ap (λ x. get_or x 0 d) e

put_by_parts : (k : StepKind) (n : ℕ) (xs ys : List ℤ) (ids : List ℕ) → put_of (step_by k n xs ys ids) ≡ put_by k n
put_by_parts kind.Clause n xs ys ids = refl
put_by_parts kind.DeleteClauses n xs ys ids = refl
put_by_parts kind.Parity n xs ys ids = refl
put_by_parts kind.DeleteParities n xs ys ids = refl
put_by_parts kind.ClauseOfParity n xs ys ids = refl
put_by_parts kind.ParityOfClauses n xs ys ids = refl

-- the hints among the integers of a step name it
abbrev hinted_in : List ℤ → Name → Bool
hinted_in zs name = let head = unsigned (get_or zs 0 (pos 0)) in hinted (hint_kind (kind_in head)) (drop (literals_in head) (drop 2 zs)) name

hinted_listed : (k : StepKind) (n : ℕ) (xs ys : List ℤ) (name : Name) → hinted (hint_kind k) ys name ≡ hinted_in (listed k n xs ys) name
hinted_listed k n xs ys name = λ i. hinted (hint_kind (sym (kind_packed k xs) i)) (sym (hints_packed k xs ys) i) name

hinted_packed : (s : ProofStep) (name : Name) → has_hint s name ≡ hinted_in (packed s) name
hinted_packed (step.Clause n lits hints) name = hinted_listed kind.Clause n lits hints name
hinted_packed (step.DeleteClauses n ids) name = hinted_listed kind.DeleteClauses n [] (map signed ids) name
hinted_packed (step.Parity n lits hints) name = hinted_listed kind.Parity n lits hints name
hinted_packed (step.DeleteParities ids) name = hinted_listed kind.DeleteParities 0 [] (map signed ids) name
hinted_packed (step.ClauseOfParity n lits hint) name = hinted_listed kind.ClauseOfParity n lits (hint ∷ []) name
hinted_packed (step.ParityOfClauses n lits hints) name = hinted_listed kind.ParityOfClauses n lits hints name

module _ (zs ends : List ℤ) (most place start end : ℕ) (stored : AreStored zs 0 ends most) (less : place < length ends) (s : start ≡ start_at 0 ends place)
    (e : end ≡ unsigned (get_or ends place (pos 0))) where
  at : StandsAt zs (steps_at zs 0 ends) most place start end
  at = stands_at zs ends most place start end stored less s e

  room : (start + 2 ≤ end) × (literals_in (unsigned (get_or zs start (pos 0))) ≤ end - (start + 2)) × (end - (start + 2) ≤ most)
  room = has_room zs start end at.low at.high most at.is_packed

  pub head_within : (start + 2 ≤ end) × (end ≤ length zs)
  head_within = (room.0, at.high)

  pub hints_within : start + 2 + literals_in (unsigned (get_or zs start (pos 0))) ≤ end
  hints_within = omega (arith, room.0, room.1)

  whole : part zs start end ≡ get_or zs start (pos 0) ∷ get_or zs (start + 1) (pos 0) ∷ part zs (start + 2) end
  whole = begins zs start end at.low at.high (omega (arith, length-part zs start end at.low at.high, room.0))

  module _ (steps : List ProofStep) (are : steps_at zs 0 ends ≡ steps) where
    here : step_at steps place ≡ unpacked (part zs start end)
    here = ap (λ (x : List ProofStep). step_at x place) (sym are) ∙ step_there (steps_at zs 0 ends) _ place _ at.there

    pub put_there : put_of (step_at steps place) ≡ put_by (kind_in (unsigned (get_or zs start (pos 0)))) (unsigned (get_or zs (start + 1) (pos 0)))
    put_there = ap put_of here ∙ ap (λ x. put_of (unpacked x)) whole ∙ put_by_parts (kind_in (unsigned (get_or zs start (pos 0)))) _ _ _ _

    pub hints_there : (name : Name) → has_hint (step_at steps place) name
        ≡ hinted (hint_kind (kind_in (unsigned (get_or zs start (pos 0))))) (part zs (start + 2 + literals_in (unsigned (get_or zs start (pos 0)))) end) name
    hints_there name =
        let p = at.is_packed in
        let m = literals_in (unsigned (get_or zs start (pos 0))) in
        let count : end - (start + 2) ≡ m + (end - (start + 2 + m)) = omega (arith, hints_within) in
        let rest : drop m (part zs (start + 2) end) ≡ part zs (start + 2 + m) end =
        ap (λ k. drop m (take k (drop (start + 2) zs))) count ∙ drop-take m (end - (start + 2 + m)) (drop (start + 2) zs) ∙ ap (take (end - (start + 2 + m))) (drop-drop m (start + 2) zs) in
        ap (λ x. has_hint x name) (here ∙ ap unpacked p.is ∙ unpacked-packed p.step)
        ∙ hinted_packed p.step name
        ∙ ap (λ x. hinted_in x name) (sym p.is ∙ whole)
        ∙ ap (λ x. hinted (hint_kind (kind_in (unsigned (get_or zs start (pos 0))))) x name) rest

-- ---- a loop over hints

module _ (kind : Kind) (start : Bool) (name : Name) (packed : List ℤ) (place end : ℕ) (old new : Bool) where
  pub hint_more : (z : ℤ) → place < end → end ≤ length packed → z ≡ get_or packed place (pos 0) → (hinted_as kind (part packed place end) name || old) ≡ start
      → new ≡ (same_name name (name_of kind (nat_abs z)) || old) → (hinted_as kind (part packed (place + 1) end) name || new) ≡ start
  hint_more z less high here before is =
      let rest : List ℤ = part packed (place + 1) end in
      ap (λ b. hinted_as kind rest name || b) is
      ∙ sym (or_moved (same_name name (name_of kind (nat_abs z))) (hinted_as kind rest name) old)
      ∙ ap (λ b. b || old) (sym (hinted_more kind z rest name))
      ∙ ap (λ x. hinted_as kind (x ∷ rest) name || old) here
      ∙ ap (λ (x : List ℤ). hinted_as kind x name || old) (sym (part_begins packed place end (pos 0) less high))
      ∙ before

  pub hint_done : end ≤ place → (hinted_as kind (part packed place end) name || old) ≡ start → old ≡ start
  hint_done past before =
      let nothing : end - place ≡ 0 = omega arith in
      sym (ap (λ k. hinted_as kind (take k (drop place packed)) name || old) nothing ∙ none kind) ∙ before
    where
      none : (k : Kind) → (hinted_as k [] name || old) ≡ old
      none Clauses = refl
      none Parities = refl
