-- A find is a parity that the formula has as clauses.
use Rattle.std.proofs.Common.{◌≡◌, ◌≢◌, refl, sym, ap, ◌∙◌, subst, ℕ, zero, suc, ◌+◌, ◌<◌, ◌≤◌, Bool, true, false, cond, ◌||◌, List, [], ◌∷◌, ◌++◌, length, map, drop, arith, true≢false, Option, Some, None, IfOk}
use Rattle.std.specs.List.{AllByRecursion, AllZip, Contains, list_any, All}
use Rattle.std.specs.List.Sorted.{IsPermutation, IsNonDecreasing}
use Rattle.std.specs.FinSet as set
use Rattle.std.proofs.Math.Seq.{drop-cons}
use Rattle.std.proofs.lemmas.List.{append-nil}
use Rattle.std.proofs.lemmas.List.Elements.{All-from_recursion}
use Rattle.cx_base.specs.Literals.{Literal}
use Rattle.cx_base.specs.Problem.{Problem, clauses_of, IsWithinVariables}
use Rattle.cx_base.specs.Parity.{normal_form, HasOneOfEach}
use Rattle.cx_base.proofs.Elements.{same_head}
use Rattle.cx_semantics.specs.Chain.{same_literals}
use Rattle.cx_semantics.specs.Recovered.{Recovered}
use Rattle.parity_engine.specs.Written.{literals_with, IsWritten}
use Rattle.xor_recover.specs.declared.found.FoundParity.{FoundParity}
use Rattle.xor_recover.specs.Finds.{first_with}
use Rattle.xor_recover.specs.Rows.{Row, rows_of}
use Rattle.xor_recover.specs.Groups.{SaysGroup, group_of, groups_of, and_more}
use Rattle.xor_recover.proofs.Numbers.{AllWithin}
use Rattle.xor_recover.proofs.Keys.{variables_long}
use Rattle.xor_recover.proofs.GroupLaws.{IsGroup, groups_are, head_proper}
use Rattle.xor_recover.proofs.FindLaws.{row_for, written, right_is, set_is, len_is, rising_of}
use Rattle.xor_recover.proofs.Kept.{AreKept}
use Rattle.xor_recover.proofs.Within.{kept_proper, formula_within}

any_first : (lits : List Literal) (n m : ℕ) (C : List (List Literal)) → first_with lits n C ≡ Some m → list_any (same_literals lits) C ≡ true
any_first lits n m [] e = absurd (none_is e)
  where
    none_is : {b : ℕ} → ◌≡◌ {A = Option ℕ} None (Some b) → ⊥
    none_is g = cc
any_first lits n m (d ∷ C) e =
    let rest : first_with lits (n + 1) C ≡ Some m → list_any (same_literals lits) C ≡ true = any_first lits (n + 1) m C in
    go (same_literals lits d) rest e
  where
    go : (b : Bool) → (first_with lits (n + 1) C ≡ Some m → list_any (same_literals lits) C ≡ true) → cond b (Some n) (first_with lits (n + 1) C) ≡ Some m → (b || list_any (same_literals lits) C) ≡ true
    go true rest h = refl
    go false rest h = rest h

-- what is known of a group and its find
pub record Says (kept g : List Row) (find : FoundParity) : Type 0 where
  pub group : IsGroup kept g
  pub parity : find.parity ≡ literals_with group.head.right group.head.variables
  pub numbers : IsPermutation (map (λ (x : Row). x.number) g) find.clauses
  pub rising : IsNonDecreasing find.clauses

pub says_head : (kept g : List Row) (find : FoundParity) → IsGroup kept g → SaysGroup g find → Says kept g find
says_head kept g find h s = record {
  group = h;
  parity = s.parity ∙ ap (λ (r : Row). literals_with r.right r.variables) (same_head s.first h.head s.rest h.rest (sym s.is ∙ h.is));
  numbers = s.numbers;
  rising = s.rising;
}

pub recovered : (formula : Problem) (kept g : List Row) (find : FoundParity) → AllWithin (clauses_of formula.constraints) → AreKept (rows_of 1 (clauses_of formula.constraints)) kept → Says kept g find → Recovered formula (normal_form find.parity)
recovered formula kept g find within firsts s =
    let all = kept_proper (clauses_of formula.constraints) kept within firsts in
    let x = s.group.head in
    let px = head_proper kept g s.group in
    let rise = rising_of x px in
    let long = variables_long x px in
    let len = len_is x.right x.variables rise in
    let some : 1 ≤ length x.variables = (let two = long.0 in omega arith) in
    subst (λ (p : List Literal). Recovered formula (normal_form p)) (sym s.parity) (record {
      two = subst (λ n. 2 ≤ n) (sym len) long.0;
      six = subst (λ n. n ≤ 6) (sym len) long.1;
      stands = λ lits each wrong.
          let row = row_for (clauses_of formula.constraints) kept g within firsts all s.group lits (subst (λ (v : set.FinSet Rattle.std.specs.Ordering.nat_cmp). HasOneOfEach v lits) (set_is x.right x.variables rise) each) (λ e. wrong (e ∙ sym (right_is x.right x.variables some))) in
          any_first lits 1 row.0.number (clauses_of formula.constraints) row.2;
    })

pub is_written : (kept g : List Row) (find : FoundParity) → Says kept g find → IsWritten (normal_form find.parity) find.parity
is_written kept g find s =
    let x = s.group.head in
    let px = head_proper kept g s.group in
    subst (λ (p : List Literal). IsWritten (normal_form p) p) (sym s.parity) (written x.right x.variables (rising_of x px) (let two = (variables_long x px).0 in omega arith))

-- ---- what the loop has found

pub record Progress (rows : List Row) (start : ℕ) (finds : List FoundParity) : Type 0 where
  pub done : List (List Row)
  pub split : groups_of rows ≡ done ++ groups_of (drop start rows)
  pub says : AllZip SaysGroup done finds

pub begins : (rows : List Row) → Progress rows 0 []
begins rows = record { done = []; split = refl; says = tt }

push_zip : (gs : List (List Row)) (fs : List FoundParity) (g : List Row) (f : FoundParity) → AllZip SaysGroup gs fs → SaysGroup g f → AllZip SaysGroup (gs ++ g ∷ []) (fs ++ f ∷ [])
push_zip [] [] g f h s = (s, tt)
push_zip [] (y ∷ fs) g f h s = absurd h
push_zip (x ∷ gs) [] g f h s = absurd h
push_zip (x ∷ gs) (y ∷ fs) g f h s = (h.0, push_zip gs fs g f h.1 s)

next_groups : (rows : List Row) (k : ℕ) → k < length rows → groups_of (drop k rows) ≡ and_more (group_of (drop k rows)) (groups_of (drop (k + 1) rows))
unfolding groups_of
next_groups [] k lt = absurd (omega arith)
next_groups (x ∷ rows) zero lt = refl
next_groups (x ∷ rows) (suc k) lt = next_groups rows k (omega arith) ∙ (let e : suc (k + 1) ≡ suc k + 1 = omega arith in ap (λ n. and_more (group_of (drop k rows)) (groups_of (drop n (x ∷ rows)))) e)

pub stays : (rows : List Row) (k : ℕ) (finds : List FoundParity) → k < length rows → group_of (drop k rows) ≡ None → Progress rows k finds → Progress rows (k + 1) finds
stays rows k finds lt none h = record {
  done = h.done;
  split = h.split ∙ ap (λ gs. h.done ++ gs) (next_groups rows k lt ∙ ap (λ o. and_more o (groups_of (drop (k + 1) rows))) none);
  says = h.says;
}

pub grows : (rows : List Row) (k : ℕ) (finds more : List FoundParity) (g : List Row) (find : FoundParity) → k < length rows → group_of (drop k rows) ≡ Some g → SaysGroup g find → more ≡ finds ++ find ∷ [] → Progress rows k finds → Progress rows (k + 1) more
grows rows k finds more g find lt some says pushed h = subst (Progress rows (k + 1)) (sym pushed) (record {
  done = h.done ++ g ∷ [];
  split = h.split ∙ ap (λ gs. h.done ++ gs) (next_groups rows k lt ∙ ap (λ o. and_more o (groups_of (drop (k + 1) rows))) some)
      ∙ sym (Rattle.std.proofs.Common.append_assoc h.done (g ∷ []) (groups_of (drop (k + 1) rows)));
  says = push_zip h.done finds g find h.says says;
})

none_left : (rows : List Row) (k : ℕ) → length rows ≤ k → groups_of (drop k rows) ≡ []
unfolding groups_of
none_left rows k le = ap groups_of (Rattle.std.proofs.Math.ListN.drop_of_length-le rows le)

pub ends : (rows : List Row) (k : ℕ) (finds : List FoundParity) → length rows ≤ k → Progress rows k finds → AllZip SaysGroup (groups_of rows) finds
ends rows k finds le h = subst (λ gs. AllZip SaysGroup gs finds) (sym (h.split ∙ ap (λ gs. h.done ++ gs) (none_left rows k le) ∙ append-nil h.done)) h.says

-- ---- all finds

pub all_say : (kept : List Row) (gs : List (List Row)) (finds : List FoundParity) → AllByRecursion (IsGroup kept) gs → AllZip SaysGroup gs finds → AllZip (Says kept) gs finds
all_say kept [] [] h s = tt
all_say kept [] (f ∷ finds) h s = absurd s
all_say kept (g ∷ gs) [] h s = absurd s
all_say kept (g ∷ gs) (f ∷ finds) h s = (says_head kept g f h.0 s.0, all_say kept gs finds h.1 s.1)

pub each_find : (kept : List Row) (P : FoundParity → Type 0) (gs : List (List Row)) (finds : List FoundParity) → ((g : List Row) (f : FoundParity) → Says kept g f → P f) → AllZip (Says kept) gs finds → All P finds
each_find kept P gs finds each h = All-from_recursion P finds (go gs finds h)
  where
    go : (gs : List (List Row)) (finds : List FoundParity) → AllZip (Says kept) gs finds → AllByRecursion P finds
    go [] [] h = tt
    go [] (f ∷ finds) h = absurd h
    go (g ∷ gs) [] h = absurd h
    go (g ∷ gs) (f ∷ finds) h = (each g f h.0, go gs finds h.1)

-- ---- what the finds rest on

pub record FoundAll (formula : Problem) (finds : List FoundParity) : Type 0 where
  pub kept : List Row
  pub within : AllWithin (clauses_of formula.constraints)
  pub firsts : AreKept (rows_of 1 (clauses_of formula.constraints)) kept
  pub says : AllZip (Says kept) (groups_of kept) finds

pub found_all : (formula : Problem) (kept : List Row) (finds : List FoundParity) → IsWithinVariables formula.variables formula.constraints → AreKept (rows_of 1 (clauses_of formula.constraints)) kept
    → AllZip SaysGroup (groups_of kept) finds → FoundAll formula finds
found_all formula kept finds within firsts says =
    let inside = formula_within formula.variables formula.constraints within in
    let all = kept_proper (clauses_of formula.constraints) kept inside firsts in
    record {
      kept = kept;
      within = inside;
      firsts = firsts;
      says = all_say kept (groups_of kept) finds (groups_are kept firsts.sorted all) says;
    }

pub all_sound : (formula : Problem) (finds : List FoundParity) → FoundAll formula finds → All (λ (f : FoundParity). Recovered formula (normal_form f.parity)) finds
all_sound formula finds h = each_find h.kept (λ (f : FoundParity). Recovered formula (normal_form f.parity)) (groups_of h.kept) finds (λ g f s. recovered formula h.kept g f h.within h.firsts s) h.says

pub all_written : (formula : Problem) (finds : List FoundParity) → FoundAll formula finds → All (λ (f : FoundParity). IsWritten (normal_form f.parity) f.parity) finds
all_written formula finds h = each_find h.kept (λ (f : FoundParity). IsWritten (normal_form f.parity) f.parity) (groups_of h.kept) finds (λ g f s. is_written h.kept g f s) h.says
