-- An arena without what was removed, clause by clause.
use Rattle.std.proofs.Common.{◌≡◌, ◌≢◌, ℕ, ◌+◌, ◌-◌, ◌<◌, ◌≤◌, true, false, List, [], ◌∷◌, ◌++◌, length, get_or, Option, None, Some, IsSome, is_some, refl, sym, ap, ◌∙◌, subst, ⊎_elim, arith}
use Rattle.std.proofs.lemmas.Bool.{cases_eq, cases_lt}
use Rattle.std.proofs.lemmas.List.{get_or_append_left, get_or-append_right, length-append, get_or_past}
use Rattle.cx_base.specs.declared.moved.Move.{Move}
use Rattle.cx_base.specs.Moved.{moved_to, move_at, IsRising}
use Rattle.cx_base.proofs.MovedLaws.{moved_at, moved_from}
use Rattle.clause_arena.specs.Clauses.{Stored, ArenaState, clause_at, IsLive, literals_in, id_in, lbd_in, learned_in}
use Rattle.clause_arena.specs.Packing.{kept_at, IsPacked}
use Rattle.clause_arena.specs.Compact.{IsRenamed}

-- a clause is what is known of it
pub whole_clause : (o : Option Stored) → is_some o ≡ true → ◌≡◌ {A = Option Stored} (Some (record { literals = literals_in o; id = id_in o; lbd = lbd_in o; learned = learned_in o })) o
whole_clause None e = cc
whole_clause (Some c) e = refl

-- ---- one more at the end of a list
at_end : {X : Type 0} (xs : List X) (x d : X) (i : ℕ) → i ≡ length xs → get_or (xs ++ x ∷ []) i d ≡ x
at_end xs x d i e =
    let first : i - length xs ≡ 0 = omega arith in
    get_or-append_right xs (x ∷ []) (length xs) i d refl (omega arith) ∙ ap (λ k. get_or (x ∷ []) k d) first

one_more : {X : Type 0} (xs : List X) (x : X) → length (xs ++ x ∷ []) ≡ length xs + 1
one_more xs x = length-append xs (x ∷ [])

-- ---- clause by clause
pub packed_none : (old : List (Option Stored)) (new : List (Option Stored)) (moves : List Move) → new ≡ [] → moves ≡ [] → IsPacked old 0 new moves
packed_none old new moves e f =
    let none : length moves ≡ 0 = ap length f in
    record {
      count = none ∙ sym (ap length e);
      below = λ i h. absurd (omega arith);
      rises = λ i j less h. absurd (omega arith);
      places = λ i h. absurd (omega arith);
      kept = λ i h. absurd (omega arith);
      live = λ i h. absurd (omega arith);
      all = λ r h l. absurd (omega arith);
    }

pub packed_past : (old : List (Option Stored)) (n : ℕ) (new : List (Option Stored)) (moves : List Move) → IsPacked old n new moves → (IsSome (kept_at old n) → ⊥) → IsPacked old (n + 1) new moves
packed_past old n new moves p dead = record {
  count = p.count;
  below = λ i h. omega (arith, p.below i h);
  rises = p.rises;
  places = p.places;
  kept = p.kept;
  live = p.live;
  all = λ r h l. ⊎_elim (λ (e : r ≡ n). absurd (dead (subst (λ k. IsSome (kept_at old k)) e l))) (λ (ne : r ≢ n). p.all r (omega arith) l) (cases_eq r n);
}

pub packed_more : (old : List (Option Stored)) (n : ℕ) (new new' : List (Option Stored)) (moves moves' : List Move) → IsPacked old n new moves → IsSome (kept_at old n) → new' ≡ new ++ kept_at old n ∷ [] → moves' ≡ moves ++ (record { old = n; new = length new }) ∷ [] → IsPacked old (n + 1) new' moves'
packed_more old n new new' moves moves' p l e f =
    let m : Move = record { old = n; new = length new } in
    let k = length moves in
    let long : length moves' ≡ k + 1 = ap length f ∙ one_more moves m in
    let long_new : length new' ≡ length new + 1 = ap length e ∙ one_more new (kept_at old n) in
    let before : (i : ℕ) → i < k → move_at moves' i ≡ move_at moves i = λ i h. ap (λ (ms : List Move). move_at ms i) f ∙ get_or_append_left moves (m ∷ []) (record { old = 0; new = 0 }) i h in
    let here : move_at moves' k ≡ m = ap (λ (ms : List Move). move_at ms k) f ∙ at_end moves m (record { old = 0; new = 0 }) k refl in
    let at_k : (i : ℕ) → i ≡ k → move_at moves' i ≡ m = λ i q. ap (move_at moves') q ∙ here in
    record {
      count = omega (arith, p.count, long, long_new);
      below = λ i h. ⊎_elim
          (λ (a : i < k). omega (arith, p.below i a, ap (λ (x : Move). x.old) (before i a)))
          (λ (b : k ≤ i). omega (arith, ap (λ (x : Move). x.old) (at_k i (omega (arith, long))))) (cases_lt i k);
      rises = λ i j less h.
          let a : i < k = omega (arith, long) in
          ⊎_elim
          (λ (b : j < k). omega (arith, p.rises i j less b, ap (λ (x : Move). x.old) (before i a), ap (λ (x : Move). x.old) (before j b)))
          (λ (b : k ≤ j). omega (arith, p.below i a, ap (λ (x : Move). x.old) (before i a), ap (λ (x : Move). x.old) (at_k j (omega (arith, long))))) (cases_lt j k);
      places = λ i h. ⊎_elim
          (λ (a : i < k). ap (λ (x : Move). x.new) (before i a) ∙ p.places i a)
          (λ (b : k ≤ i). omega (arith, p.count, long, ap (λ (x : Move). x.new) (at_k i (omega (arith, long))))) (cases_lt i k);
      kept = λ i h. ⊎_elim
          (λ (a : i < k). ap (λ (xs : List (Option Stored)). get_or xs i None) e ∙ get_or_append_left new (kept_at old n ∷ []) None i (omega (arith, p.count)) ∙ p.kept i a ∙ ap (λ (x : Move). kept_at old x.old) (sym (before i a)))
          (λ (b : k ≤ i).
          let q : i ≡ k = omega (arith, long) in
          ap (λ (xs : List (Option Stored)). get_or xs i None) e ∙ at_end new (kept_at old n) None i (omega (arith, p.count)) ∙ ap (λ (x : Move). kept_at old x.old) (sym (at_k i q))) (cases_lt i k);
      live = λ i h. ⊎_elim
          (λ (a : i < k). subst (λ (x : Move). IsSome (kept_at old x.old)) (sym (before i a)) (p.live i a))
          (λ (b : k ≤ i). subst (λ (x : Move). IsSome (kept_at old x.old)) (sym (at_k i (omega (arith, long)))) l) (cases_lt i k);
      all = λ r h lr. ⊎_elim
          (λ (q : r ≡ n). (k, omega (arith, long), ap (λ (x : Move). x.old) here ∙ sym q))
          (λ (nq : r ≢ n). let w = p.all r (omega arith) lr in (w.0, omega (arith, long, w.1), ap (λ (x : Move). x.old) (before w.0 w.1) ∙ w.2)) (cases_eq r n);
    }

-- ---- all clauses
pub live_within : (old : ArenaState) (r : ℕ) → IsLive old r → r < length old.clauses
live_within old r l = ⊎_elim (λ (h : r < length old.clauses). h)
    (λ (h : length old.clauses ≤ r). let gone : is_some (clause_at old r) ≡ false = ap is_some (get_or_past old.clauses r None h) in cc) (cases_lt r (length old.clauses))

some_of : (o : Option ℕ) → is_some o ≡ true → (s : ℕ) × (o ≡ Some s)
some_of None e = cc
some_of (Some s) e = (s, refl)

pub packed_rises : (old : List (Option Stored)) (n : ℕ) (new : List (Option Stored)) (moves : List Move) → IsPacked old n new moves → IsRising moves
packed_rises old n new moves p = record { rises = p.rises }

pub are_renamed : (old new : ArenaState) (moves : List Move) → IsPacked old.clauses (length old.clauses) new.clauses moves → IsRenamed old new moves
are_renamed old new moves p =
    let rising = packed_rises old.clauses (length old.clauses) new.clauses moves p in
    let goes : (i : ℕ) → i < length moves → moved_to moves (move_at moves i).old ≡ Some i = λ i h. moved_at moves i rising h ∙ ap (λ (k : ℕ). Some k) (p.places i h) in
    record {
      kept = λ r l. let w = p.all r (live_within old r l) l in (w.0, ap (moved_to moves) (sym w.2) ∙ goes w.0 w.1, p.kept w.0 w.1 ∙ ap (clause_at old) w.2);
      only = λ r some. let s = some_of (moved_to moves r) some in let w = moved_from moves r s.0 s.1 in subst (IsLive old) w.2 (p.live w.0 w.1);
      whole = λ s h. let inside : s < length moves = omega (arith, p.count) in ((move_at moves s).old, goes s inside);
      order = λ q r s t e f less.
          let v = moved_from moves q s e in
          let w = moved_from moves r t f in
          let at_s : s ≡ v.0 = sym v.3 ∙ p.places v.0 v.1 in
          let at_t : t ≡ w.0 = sym w.3 ∙ p.places w.0 w.1 in
          let a = v.2 in
          let b = w.2 in
          ⊎_elim (λ (h : v.0 < w.0). omega arith)
          (λ (h : w.0 ≤ v.0). ⊎_elim
          (λ (same : w.0 ≡ v.0). absurd (omega (arith, a, b, ap (λ i. (move_at moves i).old) same)))
          (λ (ne : w.0 ≢ v.0). absurd (omega (arith, a, b, p.rises w.0 v.0 (omega arith) v.1))) (cases_eq w.0 v.0)) (cases_lt v.0 w.0);
    }
