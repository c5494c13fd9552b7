-- What is due.
use Rattle.std.specs.Prelude.{IsTrue, MatchOption, OnOk}
use Rattle.std.proofs.Common.{◌≡◌, ◌≢◌, refl, sym, ap, ◌∙◌, subst, ℕ, ◌+◌, ◌-◌, Option, None, Some, Bool, Result, Ok, Err, ◌<◌, ◌≤◌, ⊎_elim, inl, inr, List, [], ◌∷◌, ◌++◌, length, get_or, arith}
use Rattle.std.specs.List.{Contains, HoldsAt}
use Rattle.std.specs.List.Sorted.{IsPermutation}
use Rattle.std.proofs.lemmas.Bool.{cases_eq, cases_lt}
use Rattle.std.proofs.lemmas.List.{get_or_append_left, get_or-append_right, get_or_default, length-append}
use Rattle.std.proofs.lemmas.List.Sorted.{Contains-permutation}
use Rattle.std.proofs.lemmas.List.Elements.{All-contains, Contains-append_left, Contains-append_cases}
use Rattle.cx_base.specs.Literals.{Literal}
use Rattle.cx_semantics.proofs.Closure.{has_by_inside}
use Rattle.cx_semantics.proofs.Members.{has_by_index}
use Rattle.clause_arena.specs.Clauses.{ArenaState, IsLive, literals_at}
use Rattle.clause_arena.proofs.PackingLaws.{live_within}
use Rattle.tidy_rules.specs.Below.{TidiedBelow}
use Rattle.tidy_rules.specs.Relations.{bears_on}
use Rattle.clause_tidy.specs.declared.look.Look.{Look}
use Rattle.clause_tidy.specs.declared.room.Queued.{Queued}
use Rattle.clause_tidy.specs.declared.room.TidyRoom.{TidyRoom}
use Rattle.clause_tidy.specs.Indexes.{IsIndexed, AreKnown, HasNoWholeFrom}
use Rattle.clause_tidy.specs.Listing.{IsListed}
use Rattle.clause_tidy.specs.Looks.{HasWholesOf}
use Rattle.clause_tidy.specs.declared.pairs.Pair.{Pair}
use Rattle.clause_tidy.specs.Pairs.{Bears, IsPair, AreLive, NoneBears}
use Rattle.clause_tidy.specs.Rooms.{IsWaiting, IsAhead, IsDue, in_queue, ahead, was_found, AreDue, IsRoomFor}
use Rattle.clause_tidy.specs.Shrinking.{Shrinks}
use Rattle.clause_tidy.specs.Signatures.{IsSignature}
use Rattle.clause_tidy.proofs.BearLaws.{bears_wider, contained}
use Rattle.clause_tidy.proofs.BelowLaws.{none_bears_below}
use Rattle.clause_tidy.proofs.LookLaws.{last_is_in}

-- ---- the queue
pub waits_on : (queue new : List Queued) (x : Queued) → new ≡ queue ++ x ∷ [] → (place p : ℕ) → IsWaiting queue place p → IsWaiting new place p
waits_on queue new x is place p (j, low, high, at) =
    let long = ap (λ (ys : List Queued). length ys) is ∙ length-append queue (x ∷ []) in
    let one : length (x ∷ []) ≡ 1 = refl in
    (j, low, omega (arith, high, long, one), λ d. ap (λ (y : Queued). y.clause) (ap (λ (ys : List Queued). get_or ys j d) is ∙ get_or_append_left queue (x ∷ []) d j high) ∙ at d)

pub waits_last : (queue new : List Queued) (x : Queued) → new ≡ queue ++ x ∷ [] → (place : ℕ) → place ≤ length queue → IsWaiting new place x.clause
waits_last queue new x is place low =
    let long = ap (λ (ys : List Queued). length ys) is ∙ length-append queue (x ∷ []) in
    let one : length (x ∷ []) ≡ 1 = refl in
    let none : length queue - length queue ≡ 0 = omega arith in (
      length queue,
      low,
      omega (arith, long, one),
      λ d. ap (λ (y : Queued). y.clause) (ap (λ (ys : List Queued). get_or ys (length queue) d) is ∙ get_or-append_right queue (x ∷ []) (length queue) (length queue) d refl (omega arith) ∙ ap (λ k. get_or (x ∷ []) k d) none),
    )

no_one : Queued
no_one = record { len = 0; clause = 0 }

pub waits_sorted : (queue new : List Queued) → IsPermutation queue new → (p : ℕ) → IsWaiting queue 0 p → IsWaiting new 0 p
waits_sorted queue new moves p (j, low, high, at) =
    let x = get_or queue j no_one in
    let w = Contains-permutation queue new x moves (j, high, get_or_default queue j x no_one high) in
    (w.0, omega arith, w.1, λ d. ap (λ (y : Queued). y.clause) (get_or_default new w.0 d x w.1 ∙ w.2) ∙ at no_one)

-- ---- a look at the one that waits next
module _ (queue : List Queued) (place part : ℕ) (at : HoldsAt (λ x. x.clause ≡ part) queue place) where
  -- the one that waits first, or one that waits after it
  first_or_later : (p : ℕ) → IsWaiting queue place p → (p ≢ part → IsWaiting queue (place + 1) p)
  first_or_later p (j, low, high, is) ne = ⊎_elim (λ (e : j ≡ place). absurd (ne (sym (is no_one) ∙ ap (λ k. (get_or queue k no_one).clause) e ∙ at no_one)))
      (λ (other : j ≢ place). (j, omega (arith, low, other), high, is)) (cases_eq j place)

-- the old clauses are as they were
record SameOld (old new : TidyRoom) : Type 0 where
  from : new.from ≡ old.from
  next : new.passed ≡ old.passed

ahead_too : (old new : TidyRoom) → SameOld old new → (p q : ℕ) → IsAhead old p q → IsAhead new p q
ahead_too old new same p q h = let from = same.from in let next = same.next in let yet = h.yet in let low = h.is_old in let past = h.is_new in record { yet = omega (arith, yet, next); is_old = omega (arith, low, from); is_new = omega (arith, past, from) }

module _ (a : ArenaState) (old new : TidyRoom) (part : ℕ) (before : IsRoomFor a old) (none : old.found.items ≡ []) (at : HoldsAt (λ x. x.clause ≡ part) old.queue.items old.place) (place : new.place ≡ old.place + 1) (queue : new.queue ≡ old.queue)
    (from : new.from ≡ old.from) (next : new.passed ≡ old.passed) where
  due_then : (p q : ℕ) → IsLive a q → Bears a p q → p ≢ part → IsDue new p q
  due_then p q live bears ne = elim (before.due p q live bears) [
    | in_queue w ↦ in_queue
        (subst (λ n. IsWaiting new.queue.items n p) (sym place)
        (subst (λ (v : _). IsWaiting v.items (old.place + 1) p) (sym queue) (first_or_later old.queue.items old.place part at p w ne)))
    | ahead h ↦ ahead (ahead_too old new (record { from = from; next = next }) p q h)
    | was_found same has ↦ let k = subst (λ (xs : List ℕ). Contains xs q) none has in absurd (let low = k.1 in omega (arith, low))
  ]

  pub due_after_dead : (IsLive a part → ⊥) → AreDue a new
  due_after_dead dead p q live bears = due_then p q live bears (λ e. dead (subst (λ (x : ℕ). IsLive a x) e bears.1))

  pub due_after_look : new.look.part ≡ part → old.index.first ≡ 0 → HasWholesOf a part (λ q. old.index.first ≤ q) new.found.items → AreDue a new
  due_after_look is all has p q live bears = ⊎_elim
      (λ (e : p ≡ part). was_found (e ∙ sym is) (has q (omega (arith, all)) live (subst (λ (x : ℕ). Bears a x q) e bears)))
      (λ (ne : p ≢ part). due_then p q live bears ne) (cases_eq p part)

-- ---- a look at an old one
module _ (a : ArenaState) (old new : TidyRoom) (before : IsRoomFor a old) (none : old.found.items ≡ []) (place : new.place ≡ old.place) (queue : new.queue ≡ old.queue) (from : new.from ≡ old.from) (next : new.passed ≡ old.passed + 1) where
  due_past : ((q : ℕ) → IsLive a q → Bears a old.passed q → old.index.first ≤ q → IsDue new old.passed q) → AreDue a new
  due_past f p q live bears = elim (before.due p q live bears) [
    | in_queue w ↦ in_queue (subst (λ n. IsWaiting new.queue.items n p) (sym place) (subst (λ (v : _). IsWaiting v.items old.place p) (sym queue) w))
    | ahead h ↦
        let yet = h.yet in
        let low = h.is_old in
        let past = h.is_new in
        let first = before.first in
        ⊎_elim (λ (e : p ≡ old.passed). subst (λ (x : ℕ). IsDue new x q) (sym e) (f q live (subst (λ (x : ℕ). Bears a x q) e bears) (omega (arith, past, first))))
        (λ (ne : p ≢ old.passed). ahead (record { yet = omega (arith, yet, ne, next); is_old = omega (arith, low, from); is_new = omega (arith, past, from) })) (cases_eq p old.passed)
    | was_found same has ↦ let k = subst (λ (xs : List ℕ). Contains xs q) none has in absurd (let low = k.1 in omega (arith, low))
  ]

  pub due_past_none : (IsLive a old.passed → HasNoWholeFrom a old.passed old.index.first) → AreDue a new
  due_past_none nothing = due_past (λ q live bears past. absurd (nothing bears.1 q past live bears))

  pub due_past_look : new.look.part ≡ old.passed → HasWholesOf a old.passed (λ q. old.index.first ≤ q) new.found.items → AreDue a new
  due_past_look is has = due_past (λ q live bears past. was_found (sym is) (has q past live bears))

-- ---- what was found and is tidy
pub due_without : (a : ArenaState) (old new : TidyRoom) (r : ℕ) → AreDue a old → (IsLive a r × Bears a old.look.part r → ⊥) → old.found.items ≡ new.found.items ++ r ∷ [] → new.look ≡ old.look → new.queue ≡ old.queue → new.place ≡ old.place
    → new.from ≡ old.from → new.passed ≡ old.passed → AreDue a new
due_without a old new r before tidy is look queue place from next p q live bears = elim (before p q live bears) [
  | in_queue w ↦ in_queue (subst (λ n. IsWaiting new.queue.items n p) (sym place) (subst (λ (v : _). IsWaiting v.items old.place p) (sym queue) w))
  | ahead h ↦ ahead (ahead_too old new (record { from = from; next = next }) p q h)
  | was_found same has ↦ was_found (same ∙ sym (ap (λ (l : Look). l.part) look))
      (elim (Contains-append_cases new.found.items (r ∷ []) q (subst (λ (xs : List ℕ). Contains xs q) is has)) [
        | inl g ↦ g
        | inr (k, low, e) ↦
            let first : k ≡ 0 = omega (arith, low) in
            let is_r : q ≡ r = sym e ∙ ap (λ n. get_or (r ∷ []) n q) first in
            absurd (tidy (subst (λ (x : ℕ). IsLive a x) is_r live, subst (λ (x : ℕ). Bears a old.look.part x) is_r (subst (λ (x : ℕ). Bears a x q) same bears)))
      ])
]

-- ---- what is due does not hang on the index
pub still_due : (a : ArenaState) (old new : TidyRoom) → new.look ≡ old.look → new.queue ≡ old.queue → new.place ≡ old.place → new.found ≡ old.found → new.from ≡ old.from → new.passed ≡ old.passed → AreDue a old → AreDue a new
still_due a old new look queue place found from next before p q live bears = elim (before p q live bears) [
  | in_queue w ↦ in_queue (subst (λ n. IsWaiting new.queue.items n p) (sym place) (subst (λ (v : _). IsWaiting v.items old.place p) (sym queue) w))
  | ahead h ↦ ahead (ahead_too old new (record { from = from; next = next }) p q h)
  | was_found same has ↦ was_found (same ∙ sym (ap (λ (l : Look). l.part) look)) (subst (λ (v : _). Contains v.items q) (sym found) has)
]

-- ---- nothing is due
pub none_due : (a : ArenaState) (room : TidyRoom) → AreDue a room → room.found.items ≡ [] → room.from ≤ room.passed → length room.queue.items ≤ room.place → NoneBears a
none_due a room due none past all q live p bears = elim (due p q live bears) [
  | in_queue (j, low, high, at) ↦ omega (arith, low, high, all)
  | ahead h ↦ let yet = h.yet in let low = h.is_old in omega (arith, yet, low, past)
  | was_found same has ↦ let k = subst (λ (xs : List ℕ). Contains xs q) none has in let low = k.1 in omega (arith, low)
]

-- ---- an arena that shrinks
module _ (a b : ArenaState) (h : Shrinks a b) (first : ℕ) (lists : List (List ℕ)) (chosen : List Bool) (signatures : List ℕ) (index : IsIndexed a first (length a.clauses) lists chosen signatures) where
  pub still_indexed : IsIndexed b first (length a.clauses) lists chosen signatures
  still_indexed = record {
    each = index.each;
    known = λ q low live. let w = h.was q low live in subst (λ (lits : List Literal). AreKnown lists lits) (sym w.1) (index.known q low w.0);
    listed = λ q past low live. let w = h.was q low live in subst (λ (lits : List Literal). IsListed lists chosen lits q) (sym w.1) (index.listed q past low w.0);
    signed = λ q low live. let w = h.was q low live in subst (IsSignature (get_or signatures q 0)) (sym w.1) (index.signed q low w.0);
  }

  -- a new clause has variables of one that went
  pub new_is_known : (q : ℕ) → length a.clauses ≤ q → IsLive b q → AreKnown lists (literals_at b q)
  new_is_known q past live =
      let w = h.came q past live in
      let known = index.known w.0 (live_within a w.0 w.1) w.1 in
      λ k d low. All-contains (λ l. l.variable < length lists) (literals_at a w.0) (get_or (literals_at b q) k d) known
      (contained (literals_at a w.0) (get_or (literals_at b q) k d) (has_by_inside (literals_at b q) (literals_at a w.0) (get_or (literals_at b q) k d) w.3 (has_by_index (literals_at b q) k d low)))

-- what bears on a clause of the smaller arena bears on one of the larger
bore : (a b : ArenaState) → Shrinks a b → (p q : ℕ) → p < length a.clauses → IsLive b q → Bears b p q → (q < length a.clauses → Bears a p q) × (length a.clauses ≤ q → (r : ℕ) × IsLive a r × (IsLive b r → ⊥) × Bears a p r)
bore a b h p q old live (ne, live_p, on) =
    let w = h.was p old live_p in (
      λ low.
          let v = h.was q low live in
          (ne, w.0, ap (λ (x : List Literal). bears_on x (literals_at a q)) (sym w.1) ∙ ap (bears_on (literals_at b p)) (sym v.1) ∙ on),
      λ past.
          let v = h.came q past live in
          (v.0, v.1, v.2, (λ e. v.2 (subst (λ (x : ℕ). IsLive b x) e live_p), w.0, bears_wider (literals_at a p) (literals_at b q) (literals_at a v.0) v.3 (ap (λ (x : List Literal). bears_on x (literals_at b q)) (sym w.1) ∙ on))),
    )

module _ (a b : ArenaState) (h : Shrinks a b) (old new : TidyRoom) (due : AreDue a old) (old_in : old.from ≤ length a.clauses)
    (kept : (p : ℕ) → IsWaiting old.queue.items old.place p → IsWaiting new.queue.items new.place p) (look : new.look ≡ old.look) (from : new.from ≡ old.from) (next : new.passed ≡ old.passed) where
  on_queue : (p q r : ℕ) → IsDue old p r → (Contains old.found.items r → Contains new.found.items q) → (old.from ≤ r → old.from ≤ q) → IsDue new p q
  on_queue p q r (in_queue w) f g = in_queue (kept p w)
  on_queue p q r (ahead k) f g = ahead (ahead_too old new (record { from = from; next = next }) p q (record { yet = k.yet; is_old = k.is_old; is_new = g k.is_new }))
  on_queue p q r (was_found same has) f g = was_found (same ∙ sym (ap (λ (l : Look). l.part) look)) (f has)

  -- no clause came
  pub due_with_none : length b.clauses ≤ length a.clauses → new.found.items ≡ old.found.items → AreDue b new
  due_with_none few found p q live bears =
      let p_low = live_within b p bears.1 in
      let q_low = live_within b q live in
      let w = bore a b h p q (omega (arith, few, p_low)) live bears in
      let low : q < length a.clauses = omega (arith, few, q_low) in
      on_queue p q q (due p q (h.was q low live).0 (w.0 low)) (λ has. subst (λ (xs : List ℕ). Contains xs q) (sym found) has) (λ past. past)

  -- one came
  pub due_with_one : length b.clauses ≤ length a.clauses + 1 → (IsLive b (length a.clauses) → IsWaiting new.queue.items new.place (length a.clauses)) → new.found.items ≡ old.found.items ++ length a.clauses ∷ [] → AreDue b new
  due_with_one few waits found p q live bears = ⊎_elim
      (λ (old_p : p < length a.clauses).
      let w = bore a b h p q old_p live bears in
      ⊎_elim
      (λ (low : q < length a.clauses).
      on_queue p q q (due p q (h.was q low live).0 (w.0 low)) (λ has. subst (λ (xs : List ℕ). Contains xs q) (sym found) (Contains-append_left old.found.items (length a.clauses ∷ []) q has)) (λ past. past))
      (λ (past : length a.clauses ≤ q).
      let v = w.1 past in
      let q_low = live_within b q live in
      let is : q ≡ length a.clauses = omega (arith, few, past, q_low) in
      on_queue p q v.0 (due p v.0 v.1 v.3) (λ has. subst (λ (xs : List ℕ). Contains xs q) (sym found) (subst (λ (x : ℕ). Contains (old.found.items ++ length a.clauses ∷ []) x) (sym is) (last_is_in old.found.items (length a.clauses)))) (λ _. omega (arith, past, old_in)))
      (cases_lt q (length a.clauses)))
      (λ (new_p : length a.clauses ≤ p).
      let p_low = live_within b p bears.1 in
      let is : p ≡ length a.clauses = omega (arith, few, new_p, p_low) in
      in_queue (subst (λ (x : ℕ). IsWaiting new.queue.items new.place x) (sym is) (waits (subst (λ (x : ℕ). IsLive b x) is bears.1)))) (cases_lt p (length a.clauses))

-- ---- what the next look answers
second_of : {A B : Type 0} → A × B → B
second_of (x, y) = y

-- two clauses of which one bears on the other, or none are
abbrev pub IsPairOf : ArenaState → Option Pair → Type 0
IsPairOf a found = MatchOption found (NoneBears a) (IsPair a)

module _ (a : ArenaState) (found : Option Pair) (h : IsPairOf a found) where
  pub no_pair : found ≡ None → NoneBears a
  no_pair is = subst (IsPairOf a) is h

  pub is_pair : (pair : Pair) → found ≡ Some pair → IsPair a pair
  is_pair pair is = subst (IsPairOf a) is h

-- ---- what holds of a pair
module _ (a : ArenaState) (pair : Pair) (h : IsPair a pair) where
  bears : Bears a pair.part pair.whole
  bears = second_of {A = IsLive a pair.whole} {B = Bears a pair.part pair.whole} h

  pub both_live : AreLive a pair
  both_live = record { part = bears.1; whole = h.0 }

  pub they_differ : pair.part ≢ pair.whole
  they_differ = bears.0

  pub part_bears : IsTrue (bears_on (literals_at a pair.part) (literals_at a pair.whole))
  part_bears = bears.2

-- ---- all clauses, one after another
pub nothing_indexed : (a : ArenaState) (first : ℕ) (lists : List (List ℕ)) (chosen : List Bool) (signatures : List ℕ) → signatures ≡ [] → IsIndexed a first 0 lists chosen signatures
nothing_indexed a first lists chosen signatures none = record {
  each = ap (λ (ss : List ℕ). length ss) none;
  known = λ q low live. absurd (omega (arith, low));
  listed = λ q past low live. absurd (omega (arith, low));
  signed = λ q low live. absurd (omega (arith, low));
}

pub all_wait_more : (a : ArenaState) (old new : List Queued) (from i r : ℕ) → r ≡ i → ((place p : ℕ) → IsWaiting old place p → IsWaiting new place p) → ((place : ℕ) → from ≤ r → IsLive a r → place ≤ length old → IsWaiting new place r)
    → ((p : ℕ) → p < i → from ≤ p → IsLive a p → IsWaiting old 0 p) → (p : ℕ) → p < i + 1 → from ≤ p → IsLive a p → IsWaiting new 0 p
all_wait_more a old new from i r is kept waits before p low past live = ⊎_elim
    (λ (e : p ≡ r). subst (λ (x : ℕ). IsWaiting new 0 x) (sym e) (waits 0 (omega (arith, past, e)) (subst (λ (x : ℕ). IsLive a x) e live) (omega arith)))
    (λ (ne : p ≢ r). kept 0 p (before p (omega (arith, low, is, ne)) past live)) (cases_eq p r)

pub all_due : (a : ArenaState) (room : TidyRoom) → room.place ≡ 0 → room.passed ≡ 0 → TidiedBelow a room.from → ((p : ℕ) → room.from ≤ p → IsLive a p → IsWaiting room.queue.items 0 p) → AreDue a room
all_due a room first none tidy waits p q live bears = ⊎_elim
    (λ (low : p < room.from). ⊎_elim (λ (low_q : q < room.from). absurd (none_bears_below a room.from tidy p q low low_q live bears))
    (λ (past : room.from ≤ q). ahead (record { yet = omega (arith, none); is_old = low; is_new = past })) (cases_lt q room.from))
    (λ (past : room.from ≤ p). in_queue (subst (λ n. IsWaiting room.queue.items n p) (sym first) (waits p past bears.1))) (cases_lt p room.from)

-- ---- what holds on an answer
pub on_oks : {T E : Type 0} (result : Result T E) (P Q R S : Type 0) → (P → Q → R → S) → OnOk result P → OnOk result Q → OnOk result R → OnOk result S
on_oks (Ok t) P Q R S f p q r = f p q r
on_oks (Err e) P Q R S f p q r = p
