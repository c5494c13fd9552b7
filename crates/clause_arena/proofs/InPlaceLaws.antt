-- Clauses that are moved down in their own lists, one by one.
use Rattle.std.proofs.Common.{◌≡◌, ℕ, ◌+◌, ◌-◌, ◌^◌, ◌<◌, ◌≤◌, Bool, true, false, cond, List, [], ◌∷◌, ◌++◌, length, take, drop, set, get_or, Option, Some, None, IsSome, subst, sym, ap, ◌∙◌, refl, arith, add-zero, add-one}
use lib.Seq.{paste}
use Rattle.std.proofs.lemmas.Grind.{get_or_default_zero}
use Rattle.std.proofs.lemmas.List.{drop_more, drop-drop, get_or-drop, drop-set-lt, take_more_set, length-take-le, length-drop, length-append, length-set}
use Rattle.std.proofs.lemmas.List.Edits.{take-paste, drop-paste, length-paste}
use Rattle.cx_base.specs.Literals.{Literal}
use Rattle.cx_base.specs.declared.moved.Move.{Move}
use Rattle.clause_arena.specs.declared.head.Head.{Head}
use Rattle.clause_arena.specs.Clauses.{Stored, ArenaState}
use Rattle.clause_arena.specs.Heads.{stored, clauses_from, RiseTo}
use Rattle.clause_arena.specs.Compact.{IsRenamed}
use Rattle.clause_arena.specs.Packing.{kept_at, IsPacked, IsPackedUpTo}
use Rattle.clause_arena.proofs.HeadLaws.{added, added_head, clauses_count, clause_is, rise_over}
use Rattle.clause_arena.proofs.PackingLaws.{packed_past, packed_more, are_renamed}

-- ---- the clause at the next place
same_at : {X : Type 0} (n : ℕ) (xs ys : List X) (d : X) → drop n xs ≡ drop n ys → get_or xs n d ≡ get_or ys n d
same_at n xs ys d e =
    let at : (zs : List _) → get_or (drop n zs) 0 d ≡ get_or zs n d = λ zs. get_or-drop n zs 0 d ∙ ap (λ k. get_or zs k d) (add-zero n) in
    sym (at xs) ∙ ap (λ zs. get_or zs 0 d) e ∙ at ys

same_behind : {X : Type 0} (n m : ℕ) (xs ys : List X) → n ≤ m → drop n xs ≡ drop n ys → drop m xs ≡ drop m ys
same_behind n m xs ys le e =
    let sum : n + (m - n) ≡ m = omega arith in
    let at : (zs : List _) → drop (m - n) (drop n zs) ≡ drop m zs = λ zs. drop-drop (m - n) n zs ∙ ap (λ k. drop k zs) sum in
    sym (at xs) ∙ ap (drop (m - n)) e ∙ at ys

next_of : {X : Type 0} (n : ℕ) (x y : X) (xs : List X) → get_or (x ∷ xs) (n + 1) y ≡ get_or xs n y
next_of n x y xs = ap (λ k. get_or (x ∷ xs) k y) (add-one n)

-- the first n clauses are packed, and at place n are head h and end e
module _ (lits₀ : List Literal) (ends₀ : List ℕ) (heads₀ : List Head) (n start used : ℕ) (lits : List Literal) (ends : List ℕ) (heads : List Head) (moves : List Move)
    (e : ℕ) (h : Head) (at_end : e ≡ get_or ends n e) (at_head : h ≡ get_or heads n h) (each : length ends₀ ≡ length heads₀) (inside : n < length heads₀)
    (p : IsPackedUpTo lits₀ ends₀ heads₀ n start used lits ends heads moves) where
  end_inside : n < length ends₀
  end_inside = omega (arith, each, inside)

  same_end : e ≡ get_or ends₀ n e
  same_end = at_end ∙ same_at n ends ends₀ e p.later_ends

  same_head : h ≡ get_or heads₀ n h
  same_head = at_head ∙ same_at n heads heads₀ h p.later_heads

  next_order : (start ≤ e) × RiseTo e (drop (n + 1) ends₀) (length lits₀)
  next_order =
      let two : RiseTo start (get_or ends₀ n e ∷ drop (n + 1) ends₀) (length lits₀) = subst (λ (es : List ℕ). RiseTo start es (length lits₀)) (drop_more ends₀ n e end_inside) p.order in
      subst (λ (k : ℕ). (start ≤ k) × RiseTo k (drop (n + 1) ends₀) (length lits₀)) (sym same_end) two

  -- the next clause's literals come after what is packed
  pub next_fits : (used ≤ start) × (start ≤ e) × (e ≤ length lits)
  next_fits =
      let last = rise_over e (length lits₀) (drop (n + 1) ends₀) next_order.1 in
      (p.down, next_order.0, omega (arith, last, p.many_lits))

  next_begins : e ≡ get_or (0 ∷ ends₀) (n + 1) 0
  next_begins = same_end ∙ get_or_default_zero ends₀ n e end_inside ∙ sym (next_of n 0 0 ends₀)

  next_kept : kept_at (clauses_from 0 lits₀ ends₀ heads₀) n ≡ stored (take (e - start) (drop start lits)) h
  next_kept =
      let same : drop start lits₀ ≡ drop start lits = sym (same_behind used start lits lits₀ p.down p.later_lits) in
      let ends_at : get_or ends₀ n 0 ≡ e = sym (same_end ∙ get_or_default_zero ends₀ n e end_inside) in
      clause_is 0 lits₀ ends₀ heads₀ n h each inside
      ∙ ap (λ (g : Head). stored (take (get_or ends₀ n 0 - get_or (0 ∷ ends₀) n 0) (drop (get_or (0 ∷ ends₀) n 0) lits₀)) g) (sym same_head)
      ∙ ap (λ (k : ℕ). stored (take (get_or ends₀ n 0 - k) (drop k lits₀)) h) (sym p.begins)
      ∙ ap (λ (k : ℕ). stored (take (k - start) (drop start lits₀)) h) ends_at
      ∙ ap (λ (xs : List Literal). stored (take (e - start) xs) h) same

  pub packed_over_removed : h.live ≡ false → IsPackedUpTo lits₀ ends₀ heads₀ (n + 1) e used lits ends heads moves
  packed_over_removed removed =
      let none : kept_at (clauses_from 0 lits₀ ends₀ heads₀) n ≡ None = next_kept
      ∙ ap (λ (b : Bool). cond b (Some (record { literals = take (e - start) (drop start lits); id = h.id; lbd = h.lbd; learned = h.learned })) None) removed in
      let dead : IsSome (kept_at (clauses_from 0 lits₀ ends₀ heads₀) n) → ⊥ = λ l. cc in
      record {
        packed = packed_past (clauses_from 0 lits₀ ends₀ heads₀) n (clauses_from 0 (take used lits) (take (length moves) ends) (take (length moves) heads)) moves p.packed dead;
        front = p.front;
        count = omega (arith, p.count);
        begins = next_begins;
        down = omega (arith, p.down, next_order.0);
        order = next_order.1;
        later_ends = same_behind n (n + 1) ends ends₀ (omega arith) p.later_ends;
        later_heads = same_behind n (n + 1) heads heads₀ (omega arith) p.later_heads;
        later_lits = p.later_lits;
        many_ends = p.many_ends;
        many_heads = p.many_heads;
        many_lits = p.many_lits;
      }

  -- one more live clause comes after the packed ones
  pub packed_with_moved : (used' : ℕ) (lits' : List Literal) (ends' : List ℕ) (heads' : List Head) (moves' : List Move) → length heads₀ ≤ 2 ^ 31 - 1 → h.live ≡ true
      → lits' ≡ paste lits used (drop start lits) (e - start)
      → ends' ≡ set ends (length moves) used'
      → heads' ≡ set heads (length moves) h
      → moves' ≡ moves ++ (record { old = n; new = length moves }) ∷ []
      → used' ≡ used + (e - start) → IsPackedUpTo lits₀ ends₀ heads₀ (n + 1) e used' lits' ends' heads' moves'
  packed_with_moved used' lits' ends' heads' moves' few is_live el ee eh em eu =
      let k = length moves in
      let old = clauses_from 0 lits₀ ends₀ heads₀ in
      let new = clauses_from 0 (take used lits) (take k ends) (take k heads) in
      let fits = next_fits in
      let long = e - start in
      let head_place : k < length heads = omega (arith, inside, p.count, p.many_heads) in
      let end_place : k < length ends = omega (arith, end_inside, p.count, p.many_ends) in
      let block = take long (drop start lits) in
      let many : long ≤ length (drop start lits) = omega (arith, fits.1, fits.2, length-drop start lits) in
      let full : length block ≡ long = length-take-le long (drop start lits) many in
      let below : used ≤ length lits = omega (arith, fits.0, fits.1, fits.2) in
      let packed_lits : length (take used lits) ≡ used = length-take-le used lits below in
      let ends_at : used' ≡ length (take used lits) + length block = omega (arith, eu, packed_lits, full) in
      let front_lits : take used' lits' ≡ take used lits ++ block = ap (λ (m : ℕ). take m lits') eu ∙ ap (take (used + long)) el ∙ take-paste lits used (drop start lits) long below many in
      let one : length moves' ≡ k + 1 = ap (λ (ms : List Move). length ms) em ∙ length-append moves ((record { old = n; new = k }) ∷ []) in
      let front_ends : take (length moves') ends' ≡ take k ends ++ used' ∷ [] = ap (λ i. take i ends') one ∙ ap (take (k + 1)) ee ∙ take_more_set ends k used' end_place in
      let front_heads : take (length moves') heads' ≡ take k heads ++ h ∷ [] = ap (λ i. take i heads') one ∙ ap (take (k + 1)) eh ∙ take_more_set heads k h head_place in
      let heads_count : length (take k heads) ≡ k = length-take-le k heads (omega (arith, head_place)) in
      let live : IsSome (kept_at old n) = subst (λ (c : Option Stored). IsSome c) (sym next_kept)
      (subst (λ (b : Bool). IsSome {T = Stored} (cond b (Some (record { literals = block; id = h.id; lbd = h.lbd; learned = h.learned })) None)) (sym is_live) refl) in
      let clauses : clauses_from 0 (take used' lits') (take (length moves') ends') (take (length moves') heads') ≡ new ++ kept_at old n ∷ [] =
      added (take used lits) block (take used' lits') (take k ends) (take (length moves') ends') (take k heads) (take (length moves') heads') used' h p.front front_lits front_ends front_heads ends_at
      ∙ ap (λ (c : Option Stored). new ++ c ∷ []) (sym next_kept) in
      let moved : moves' ≡ moves ++ (record { old = n; new = length new }) ∷ [] = em ∙ ap (λ i. moves ++ (record { old = n; new = i }) ∷ []) p.packed.count in
      record {
        packed = packed_more old n new (clauses_from 0 (take used' lits') (take (length moves') ends') (take (length moves') heads')) moves moves' p.packed live clauses moved;
        front = added_head (take used lits) block (take used' lits') (take k ends) (take (length moves') ends') (take k heads) (take (length moves') heads') used' h p.front front_lits front_ends front_heads ends_at (omega (arith, few, heads_count, head_place, p.many_heads));
        count = omega (arith, one, p.count);
        begins = next_begins;
        down = omega (arith, eu, fits.0, fits.1);
        order = next_order.1;
        later_ends = ap (drop (n + 1)) ee ∙ drop-set-lt (n + 1) ends k used' (omega (arith, p.count)) ∙ same_behind n (n + 1) ends ends₀ (omega arith) p.later_ends;
        later_heads = ap (drop (n + 1)) eh ∙ drop-set-lt (n + 1) heads k h (omega (arith, p.count)) ∙ same_behind n (n + 1) heads heads₀ (omega arith) p.later_heads;
        later_lits = ap (λ (m : ℕ). drop m lits') eu ∙ ap (drop (used + long)) el ∙ drop-paste lits used (drop start lits) long below many ∙ same_behind used (used + long) lits lits₀ (omega arith) p.later_lits ∙ ap (λ (m : ℕ). drop m lits₀) (sym eu);
        many_ends = ap (λ (es : List ℕ). length es) ee ∙ length-set ends k used' ∙ p.many_ends;
        many_heads = ap (λ (hs : List Head). length hs) eh ∙ length-set heads k h ∙ p.many_heads;
        many_lits = ap (λ (xs : List Literal). length xs) el ∙ length-paste lits used (drop start lits) long (omega (arith, fits.0, fits.1, fits.2)) many ∙ p.many_lits;
      }

pub renamed_in_place : (old new : ArenaState) (lits₀ : List Literal) (ends₀ : List ℕ) (heads₀ : List Head) (moves moves' : List Move) → length ends₀ ≡ length heads₀ → clauses_from 0 lits₀ ends₀ heads₀ ≡ old.clauses → moves' ≡ moves
    → IsPacked (clauses_from 0 lits₀ ends₀ heads₀) (length heads₀) new.clauses moves → IsRenamed old new moves'
renamed_in_place old new lits₀ ends₀ heads₀ moves moves' each e em p =
    let many : length heads₀ ≡ length old.clauses = sym (clauses_count 0 lits₀ ends₀ heads₀ each) ∙ ap (λ (xs : List (Option Stored)). length xs) e in
    let one = subst (λ n. IsPacked (clauses_from 0 lits₀ ends₀ heads₀) n new.clauses moves) many p in
    let two = subst (λ (xs : List (Option Stored)). IsPacked xs (length old.clauses) new.clauses moves) e one in
    are_renamed old new moves' (subst (λ (ms : List Move). IsPacked old.clauses (length old.clauses) new.clauses ms) (sym em) two)
