-- Lists in their places, and a map of those after them.
use Rattle.std.proofs.Common.{◌≡◌, refl, sym, ap, ◌∙◌, subst, ◌+◌, ◌<◌, take, ℕ, zero, suc, cond, Bool, true, false, Result, eqb-true, true≢false, List, [], ◌∷◌, ◌++◌, map, get_or, set, Option, Some, None, nat_cmp, is_some, append-nil, length, arith}
use Rattle.std.specs.Cmp.{nat_cmp_total, unsigned_tied}
use Rattle.std.specs.FinMap as fin
use Rattle.std.specs.List.{list_any}
use Rattle.std.specs.Map.{keys_of}
use Rattle.std.specs.Option.{option_or, option_map}
use Rattle.std.specs.Ordering.{eq_by_cmp}
use Rattle.std.proofs.Math.Bool.{or_comm}
use Rattle.std.proofs.lemmas.List.Folds.{list_any-append}
use Rattle.std.proofs.lemmas.List.{get_or-set_other, take_more}
use Rattle.cx_base.specs.Literals.{Literal}
use Rattle.cx_semantics.proofs.MapEntries.{look, get-from_entries, from_entries-insert, from_entries-remove}
use Rattle.cx_semantics.specs.Tables.{Table, numbered_from}
use Rattle.cx_base.specs.declared.id_moves.IdMove.{IdMove}
use Rattle.cx_semantics.specs.LogRules.{moving}
use Rattle.cx_semantics.specs.Moves.{moved}
use Rattle.proof_rules.specs.FirstLists.{StandsThere, AreElsewhere, behind}
use Rattle.proof_rules.specs.Judges.{JudgesBy}
use Rattle.proof_rules.specs.declared.refusal.JudgeRefusal.{JudgeRefusal}
use Rattle.proof_rules.specs.Places.{entries_from, entries_of}
use Rattle.proof_rules.proofs.MovingLaws.{AllFit, moved_seen, judged_seen}
use Rattle.proof_rules.proofs.PlaceLaws.{is_eq-same, is_eq-other, emptied, look-changed, get-places, keys-answer}

abbrev Lists : Type 0
Lists = List (Option (List Literal))

look-get : (m : Table) (q : ℕ) → look q (fin.entries m) ≡ fin.get m q
look-get m q = sym (get-from_entries (fin.entries m) q) ∙ fin.get-from_entries nat_cmp_total (fin.entries m) q ∙ sym (fin.get-entries m q)

pub get-behind : (xs : Lists) (m : Table) (q : ℕ) → fin.get (behind xs m) q ≡ option_or (get_or xs q None) (fin.get m q)
get-behind xs m q = get-places q xs (fin.entries m) ∙ ap (option_or (get_or xs q None)) (look-get m q)

-- a list put after the places goes out of its own
pub insert-behind : (xs : Lists) (m : Table) (k : ℕ) (lits : List Literal) → behind (set xs k None) (fin.insert m k lits) ≡ fin.insert (behind xs m) k lits
insert-behind xs m k lits =
    let new = fin.insert m k lits in
    from_entries-insert (entries_of xs ++ fin.entries m) (entries_of (set xs k None) ++ fin.entries new) k lits
    (look-changed k (Some lits) xs (set xs k None) (fin.entries m) (fin.entries new)
    (ap (λ o. option_or o (look k (fin.entries new))) (emptied xs k) ∙ look-get new k ∙ fin.get-insert nat_cmp_total m k lits k ∙ ap (λ b. cond b (Some lits) (fin.get m k)) (is_eq-same k))
    (λ q apart. get_or-set_other xs k q None None apart)
    (λ q apart. look-get new q ∙ fin.get-insert nat_cmp_total m k lits q ∙ ap (λ b. cond b (Some lits) (fin.get m q)) (is_eq-other q k apart) ∙ sym (look-get m q)))

-- a list that is in its place takes precedence over what comes after
pub restore-behind : (xs ys : Lists) (m : Table) (k : ℕ) (lits : List Literal) → StandsThere k lits xs ys → behind ys m ≡ fin.insert (behind xs m) k lits
restore-behind xs ys m k lits h =
    from_entries-insert (entries_of xs ++ fin.entries m) (entries_of ys ++ fin.entries m) k lits
    (look-changed k (Some lits) xs ys (fin.entries m) (fin.entries m) (ap (λ o. option_or o (look k (fin.entries m))) h.0) h.1 (λ q apart. refl))

pub remove-behind : (xs : Lists) (m : Table) (k : ℕ) → behind (set xs k None) (fin.remove m k) ≡ fin.remove (behind xs m) k
remove-behind xs m k =
    let new = fin.remove m k in
    from_entries-remove (entries_of xs ++ fin.entries m) (entries_of (set xs k None) ++ fin.entries new) k
    (look-changed k None xs (set xs k None) (fin.entries m) (fin.entries new)
    (ap (λ o. option_or o (look k (fin.entries new))) (emptied xs k) ∙ look-get new k ∙ fin.get-remove nat_cmp_total m k k ∙ ap (λ b. cond b None (fin.get m k)) (is_eq-same k))
    (λ q apart. get_or-set_other xs k q None None apart)
    (λ q apart. look-get new q ∙ fin.get-remove nat_cmp_total m k q ∙ ap (λ b. cond b None (fin.get m q)) (is_eq-other q k apart) ∙ sym (look-get m q)))

-- ---- the first tables
none_of : {V : Type 0} (es : List V) → length es ≡ 0 → es ≡ []
none_of [] h = refl
none_of (e ∷ es) h = absurd (omega arith)

nothing : fin.entries (fin.empty {X = List Literal} {R = nat_cmp}) ≡ []
nothing = none_of _ (sym (fin.len-entries (fin.empty {X = List Literal} {R = nat_cmp})) ∙ fin.len-empty nat_cmp (List Literal))

numbered : (n : ℕ) (lists : List (List Literal)) → ◌≡◌ {A = Table} (fin.from_entries (entries_from n (map Some lists))) (numbered_from n lists)
numbered n [] = refl
numbered n (lits ∷ lists) = ap (λ t. fin.insert t n lits) (numbered (suc n) lists)

pub none_behind : behind [] fin.empty ≡ fin.empty
none_behind = ap {B = Table} fin.from_entries nothing

pub first_behind : (lists : List (List Literal)) → behind (None ∷ map Some lists) fin.empty ≡ numbered_from 1 lists
first_behind lists =
    ap {B = Table} (λ es. fin.from_entries (entries_from 1 (map Some lists) ++ es)) nothing
    ∙ ap {B = Table} fin.from_entries (append-nil (entries_from 1 (map Some lists)))
    ∙ numbered 1 lists

-- ---- which ids are live
pub some_first : {V : Type 0} (a b : Option V) → is_some a ≡ true → is_some (option_or a b) ≡ true
some_first None b h = absurd (true≢false (sym h))
some_first (Some v) b h = refl

pub none_first : {V : Type 0} (a b : Option V) → is_some a ≡ false → is_some (option_or a b) ≡ is_some b
none_first None b h = refl
none_first (Some v) b h = absurd (true≢false h)

pub ids_behind : (xs : Lists) (m : Table) (n : ℕ) (ids : List ℕ) → list_any (eq_by_cmp nat_cmp n) ids ≡ fin.contains_key m n
    → list_any (eq_by_cmp nat_cmp n) (ids ++ keys_of (entries_of xs)) ≡ fin.contains_key (behind xs m) n
ids_behind xs m n ids h =
    let is = eq_by_cmp nat_cmp n in
    list_any-append is ids (keys_of (entries_of xs)) ∙ or_comm (list_any is ids) (list_any is (keys_of (entries_of xs)))
    ∙ sym (list_any-append is (keys_of (entries_of xs)) ids)
    ∙ keys-answer n (fin.entries m) ids (h ∙ ap is_some (sym (look-get m n))) xs
    ∙ ap is_some (sym (get-from_entries (entries_of xs ++ fin.entries m) n))

-- ---- lists that leave their places

none_set : (xs : Lists) (k : ℕ) → get_or xs k None ≡ None → set xs k None ≡ xs
none_set [] k h = refl
none_set (x ∷ xs) zero h = ap (λ y. y ∷ xs) (sym h)
none_set (x ∷ xs) (suc k) h = ap (λ ys. x ∷ ys) (none_set xs k h)

-- a list that is put after its place is still there
pub put_again : (xs : Lists) (m : Table) (k : ℕ) (lits : List Literal) → get_or xs k None ≡ Some lits → behind (set xs k None) (fin.insert m k lits) ≡ behind xs m
put_again xs m k lits h =
    insert-behind xs m k lits
    ∙ fin.same_map nat_cmp_total fin.nat_cmp-IsAntisymmetric _ _ (λ q. fin.get-insert nat_cmp_total (behind xs m) k lits q ∙ at q (eq_by_cmp nat_cmp q k) refl)
  where
    here : fin.get (behind xs m) k ≡ Some lits
    here = get-behind xs m k ∙ ap (λ o. option_or o (fin.get m k)) h

    at : (q : ℕ) (b : Bool) → eq_by_cmp nat_cmp q k ≡ b → cond b (Some lits) (fin.get (behind xs m) q) ≡ fin.get (behind xs m) q
    at q true e = sym (ap (fin.get (behind xs m)) (eqb-true q k (sym (unsigned_tied q k) ∙ e)) ∙ here)
    at q false e = refl

pub still_none : (xs : Lists) (k q : ℕ) → get_or xs q None ≡ None → get_or (set xs k None) q None ≡ None
still_none [] k q h = h
still_none (x ∷ xs) zero zero h = refl
still_none (x ∷ xs) zero (suc q) h = h
still_none (x ∷ xs) (suc k) zero h = h
still_none (x ∷ xs) (suc k) (suc q) h = still_none xs k q h

pub still_elsewhere : (xs ys : Lists) (moves : List IdMove) → ((q : ℕ) → get_or xs q None ≡ None → get_or ys q None ≡ None) → AreElsewhere xs moves → AreElsewhere ys moves
still_elsewhere xs ys [] fewer h = tt
still_elsewhere xs ys (m ∷ moves) fewer h = ((fewer m.from h.0.0, fewer m.to h.0.1), still_elsewhere xs ys moves fewer h.1)

elsewhere_more : (xs : Lists) (moves : List IdMove) (m : IdMove) → AreElsewhere xs moves → get_or xs m.from None ≡ None → get_or xs m.to None ≡ None → AreElsewhere xs (moves ++ m ∷ [])
elsewhere_more xs [] m h from to = ((from, to), tt)
elsewhere_more xs (k ∷ moves) m h from to = (h.0, elsewhere_more xs moves m h.1 from to)

pub elsewhere_next : (xs : Lists) (moves : List IdMove) (place : ℕ) (d : IdMove) → place < length moves → AreElsewhere xs (take place moves) → get_or xs (get_or moves place d).from None ≡ None → get_or xs (get_or moves place d).to None ≡ None
    → AreElsewhere xs (take (place + 1) moves)
elsewhere_next xs moves place d less h from to = subst (AreElsewhere xs) (sym (take_more moves place d less)) (elsewhere_more xs (take place moves) (get_or moves place d) h from to)

-- ---- moves of ids that have no list in their places
module _ (xs : Lists) where
  abbrev IsFree : ℕ → Type 0
  IsFree k = get_or xs k None ≡ None

  free_get : (m : Table) (k : ℕ) → IsFree k → fin.get (behind xs m) k ≡ option_map (λ v. v) (fin.get m k)
  free_get m k free = get-behind xs m k ∙ ap (λ o. option_or o (fin.get m k)) free ∙ by (fin.get m k)
    where
      by : (o : Option (List Literal)) → option_or None o ≡ option_map (λ v. v) o
      by None = refl
      by (Some v) = refl

  free_put : (m : Table) (k : ℕ) (lits : List Literal) → IsFree k → behind xs (fin.insert m k lits) ≡ fin.insert (behind xs m) k lits
  free_put m k lits free = ap (λ ys. behind ys (fin.insert m k lits)) (sym (none_set xs k free)) ∙ insert-behind xs m k lits

  free_gone : (m : Table) (k : ℕ) → IsFree k → behind xs (fin.remove m k) ≡ fin.remove (behind xs m) k
  free_gone m k free = ap (λ ys. behind ys (fin.remove m k)) (sym (none_set xs k free)) ∙ remove-behind xs m k

  all_free : (moves : List IdMove) → AreElsewhere xs moves → AllFit (behind xs) (λ v. v) IsFree free_get free_put free_gone moves
  all_free [] h = tt
  all_free (m ∷ moves) h = (h.0, all_free moves h.1)

  pub moved_behind : (m : Table) (moves : List IdMove) → AreElsewhere xs moves → behind xs (moved m moves) ≡ moved (behind xs m) moves
  moved_behind m moves h = moved_seen (behind xs) (λ v. v) IsFree free_get free_put free_gone m moves (all_free moves h)

  pub judged_behind : {T : Type 0} (m : Table) (moves : List IdMove) (r : Result T JudgeRefusal) → AreElsewhere xs moves → JudgesBy (moving m moves) r → JudgesBy (moving (behind xs m) moves) r
  judged_behind m moves r h judged = judged_seen (behind xs) (λ v. v) IsFree free_get free_put free_gone m moves (all_free moves h) r judged
