-- Logs in which learned clauses are deleted on schedule.
use Rattle.std.proofs.Common.{◌≡◌, refl, sym, ap, ◌∙◌, subst, ℕ, suc, ◌+◌, ◌≤◌, ◌<◌, length, get_or, arith, ℤ, Bool, true, false, List, [], ◌∷◌, ◌++◌, append-nil, append_assoc, fold, ◌⊎◌, inl, inr}
use Rattle.std.specs.Prelude.{IsTrue}
use Rattle.std.specs.List.{sum}
use Rattle.std.proofs.lemmas.Nat.{pow_pos}
use Rattle.std.proofs.lemmas.List.{map-append}
use Rattle.std.proofs.lemmas.List.Sums.{sum_by-cons}
use Rattle.cx_base.specs.Problem.{Problem}
use Rattle.cx_base.specs.declared.constraint.Constraint.{Constraint}
use Rattle.cx_base.specs.declared.constraint.Constraint.TheVariants as constraint
use Rattle.cx_base.specs.declared.steps.LogStep.TheVariants.{Delete}
use Rattle.cx_base.specs.declared.steps.LogEvent.{LogEvent}
use Rattle.cx_base.specs.declared.steps.LogEvent.TheVariants.{Step, Conflict}
use Rattle.cx_semantics.specs.Marked.{Moment, first_moment, after_event, is_among, EventsFit, original_events}
use Rattle.search_policy.specs.Restarts.{IsLuby, ends, repeats}
use Rattle.search_steps.specs.Schedule.{MayReduce, IsInReduction, IsScheduled, MayGo, IsScheduledIn, moment_after, deletions_of}

-- ---- Luby's numbers
pub luby_is_some : {i v : ℕ} → IsLuby i v → 1 ≤ v
luby_is_some (ends k end is) = let some = pow_pos k in omega (arith, is, some)
luby_is_some (repeats k low high h) = luby_is_some h

-- a sum of numbers that are not zero is at least as great as there are numbers
pub sum_is_long : (xs : List ℕ) → ((i : ℕ) → i < length xs → 1 ≤ get_or xs i 0) → length xs ≤ sum xs
sum_is_long [] some = omega arith
sum_is_long (x ∷ xs) some =
    let first : 1 ≤ x = some 0 (omega arith) in
    let rest = sum_is_long xs (λ i h. some (suc i) (omega (arith, h))) in
    let total = sum_by-cons (λ (y : ℕ). y) x xs in
    omega (arith, first, rest, total)

-- ---- lists that end alike
-- one more item is the one at a place, or that place is before it
pub last_or_before : {I : Type 0} (events : List I) (last : I) (front : List I) (x : I) (later : List I) → events ++ last ∷ [] ≡ front ++ x ∷ later
    → ((events ≡ front) × (last ≡ x)) ⊎ ((rest : List I) × (events ≡ front ++ x ∷ rest))
last_or_before [] last [] x later is = inl (refl, cc)
last_or_before [] last (f ∷ []) x later is = cc
last_or_before [] last (f ∷ g ∷ front) x later is = cc
last_or_before (e ∷ events) last [] x later is = let same : e ≡ x = cc in inr (events, ap (λ y. y ∷ events) same)
last_or_before (e ∷ events) last (f ∷ front) x later is =
    let same : e ≡ f = cc in
    let rest : events ++ last ∷ [] ≡ front ++ x ∷ later = cc in
    elim (last_or_before events last front x later rest) [
      | inl (these, is_x) ↦ inl (ap (λ es. e ∷ es) these ∙ ap (λ y. y ∷ front) same, is_x)
      | inr (more, split) ↦ inr (more, ap (λ es. e ∷ es) split ∙ ap (λ y. y ∷ front ++ x ∷ more) same)
    ]

-- ---- what the next event finds
fits_to : (formula : Problem) (first last : Moment) (events : List LogEvent) → EventsFit formula first events last → last ≡ fold after_event first events
fits_to formula first last [] fit = fit
fits_to formula first last (event ∷ events) fit = fits_to formula (after_event first event) last events fit.1

pub moment_is : (formula : Problem) (last : Moment) (events : List LogEvent) → EventsFit formula first_moment events last → last ≡ moment_after events
moment_is formula last events fit = fits_to formula first_moment last events fit

-- ---- one more event
-- the next event is no deletion of a learned clause, or this one may go
abbrev pub MayFollow : Bool → List LogEvent → LogEvent → Type 0
MayFollow tidies events event = (n : ℕ) (zs : List ℤ) → event ≡ Step (Delete n zs) → IsTrue (is_among (moment_after events).learned n) → MayGo tidies events n

pub scheduled_then : (tidies : Bool) (events : List LogEvent) (event : LogEvent) → IsScheduledIn tidies events → MayFollow tidies events event → IsScheduledIn tidies (events ++ event ∷ [])
scheduled_then tidies events event on may front n zs later split among = elim (last_or_before events event front (Step (Delete n zs)) later split) [
  | inl (these, is) ↦ subst (λ (es : List LogEvent). MayGo tidies es n) these (may n zs is (subst (λ (es : List LogEvent). IsTrue (is_among (moment_after es).learned n)) (sym these) among))
  | inr (rest, is) ↦ on front n zs rest is among
]

pub mark_may_follow : (tidies : Bool) (events : List LogEvent) (k : ℕ) → MayFollow tidies events (Conflict k)
mark_may_follow tidies events k n zs is among = cc

pub goes_in_reduction : (tidies : Bool) (events : List LogEvent) (n : ℕ) → IsInReduction events → MayGo tidies events n
goes_in_reduction false events n reducing = reducing
goes_in_reduction true events n reducing = inl reducing

-- ---- the formula's constraints
no_deletion : (n k : ℕ) (cs : List Constraint) (front : List LogEvent) (i : ℕ) (zs : List ℤ) (later : List LogEvent) → original_events n k cs ≡ front ++ Step (Delete i zs) ∷ later → ⊥
no_deletion n k [] [] i zs later is = cc
no_deletion n k [] (f ∷ front) i zs later is = cc
no_deletion n k (constraint.Clause lits ∷ cs) [] i zs later is = cc
no_deletion n k (constraint.Clause lits ∷ cs) (f ∷ front) i zs later is = let rest : original_events (n + 1) k cs ≡ front ++ Step (Delete i zs) ∷ later = cc in no_deletion (n + 1) k cs front i zs later rest
no_deletion n k (constraint.Parity lits ∷ cs) [] i zs later is = cc
no_deletion n k (constraint.Parity lits ∷ cs) (f ∷ front) i zs later is = let rest : original_events n (k + 1) cs ≡ front ++ Step (Delete i zs) ∷ later = cc in no_deletion n (k + 1) cs front i zs later rest
no_deletion n k (constraint.Assume lits ∷ cs) front i zs later is = no_deletion n k cs front i zs later is

pub originals_are_scheduled_in : (tidies : Bool) (cs : List Constraint) (events : List LogEvent) → events ≡ original_events 1 1 cs → IsScheduledIn tidies events
originals_are_scheduled_in tidies cs events are front n zs later split among = absurd (no_deletion 1 1 cs front n zs later (sym are ∙ split))

pub originals_are_scheduled : (cs : List Constraint) (events : List LogEvent) → events ≡ original_events 1 1 cs → IsScheduled events
originals_are_scheduled = originals_are_scheduled_in false

-- ---- a reduction
pub reduction_may_begin : (events : List LogEvent) → MayReduce events → IsInReduction events
reduction_may_begin events may = record { front = events; ids = []; split = sym (append-nil events); may = may }

pub reduction_goes_on : (events : List LogEvent) (n : ℕ) → IsInReduction events → IsInReduction (events ++ Step (Delete n []) ∷ [])
reduction_goes_on events n r = record {
  front = r.front;
  ids = r.ids ++ n ∷ [];
  split = ap (λ es. es ++ Step (Delete n []) ∷ []) r.split ∙ append_assoc r.front (deletions_of r.ids) (Step (Delete n []) ∷ [])
      ∙ ap (λ es. r.front ++ es) (sym (map-append (λ k. Step (Delete k [])) r.ids (n ∷ [])));
  may = r.may;
}
