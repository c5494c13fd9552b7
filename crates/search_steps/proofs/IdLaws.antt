-- Each step keeps the ranges of ids.
use Rattle.std.proofs.Common.{Bool, ◌≡◌, refl, sym, ap, ◌∙◌, subst, ℕ, ◌+◌, ◌≤◌, ◌<◌, ℤ, true, false, cond, not, ◌||◌, nat_eq, nat_le, nat_lt, eqb-true, List, [], ◌∷◌, ◌++◌, length, Some, None, arith, inl, inr}
use Rattle.std.specs.List.{AllByRecursion}
use Rattle.std.specs.FinMap as map_
use Rattle.std.proofs.lemmas.Bool.{or_parts, ltb-true, ltb-false}
use Rattle.cx_base.specs.Literals.{Literal}
use Rattle.cx_base.specs.Problem.{Problem, clauses_of, parities_of}
use Rattle.cx_base.proofs.Elements.{all_append}
use Rattle.cx_base.specs.declared.steps.LogStep.TheVariants.{ClauseWithHints, Parity, ClauseOfParity, ParityOfClauses, Delete}
use Rattle.cx_base.specs.declared.steps.LogEvent.TheVariants.{Step}
use Rattle.cx_base.specs.Integers.{literals}
use Rattle.cx_semantics.specs.LogRules.{derives_ending_clause}
use Rattle.cx_semantics.specs.Chain.{is_inside}
use Rattle.cx_semantics.specs.Marked.{Moment, after_event, is_among, without}
use Rattle.cx_semantics.specs.Tables.{Table, get}
use Rattle.cx_semantics.proofs.Lookups.{Looks-insert, Looks-remove}
use Rattle.search_steps.specs.Trail.{Entry, rests_on, decided, by_clause, by_row, back_to, level_of}
use Rattle.search_steps.specs.Search.{Search, IsSearchIn, IsServed, IsLearnedOf, told, marked, decided_on, forced_on, jumped}
use Rattle.search_steps.specs.LogSteps.{IsNoReason, IsAddition, AreTemporary, row_events, sum_events, all_told, deleted, after_learned, after_round}
use Rattle.search_steps.specs.Start.{IsBegun}
use Rattle.search_steps.specs.Hints.{AreHintsFor}
use Rattle.search_steps.specs.Ids.{ReasonsBelow, AreRowIds, IsRanged, HasFreeSums}
use Rattle.conflict_learn.proofs.ChainOfResolutions.{by_cases}
use Rattle.search_steps.specs.Covers.{IsCover, IsSpared, CoversNone, rows_in}
use Rattle.search_steps.proofs.CoverLaws.{not_before, not_in_parts, not_in_both, spared_where_none}
use Rattle.search_steps.proofs.RowReasons.{row_cases}
use Rattle.search_steps.proofs.Rounds.{round_keeps, round_clears_old, round_clears_new}

-- ---- ids of the two ranges differ
pub high_is_no_reason : (bound n : ℕ) (es : List Entry) → bound ≤ n → ReasonsBelow bound es → IsNoReason n es
high_is_no_reason bound n [] h r = tt
high_is_no_reason bound n (e ∷ es) h r = (λ is. let low = r.0 n is in omega (arith, low, h), high_is_no_reason bound n es h r.1)

apart_ids : (n i : ℕ) → (n ≡ i → ⊥) → nat_eq n i ≡ false
apart_ids n i h = by_cases (nat_eq n i) (λ e. absurd (h (eqb-true n i e))) (λ e. e)

pub high_is_not_among : (bound n : ℕ) (ids : List ℕ) → bound ≤ n → AllByRecursion (λ i. i < bound) ids → is_among ids n ≡ false
high_is_not_among bound n [] h a = refl
high_is_not_among bound n (i ∷ ids) h a =
    ap (λ b. b || is_among ids n) (apart_ids n i (λ same. let low = a.0 in omega (arith, same, low, h))) ∙ high_is_not_among bound n ids h a.1

pub low_is_not_among : (bound row_next n : ℕ) (ids : List ℕ) → n < bound → AreRowIds bound row_next ids → is_among ids n ≡ false
low_is_not_among bound row_next n [] h a = refl
low_is_not_among bound row_next n (i ∷ ids) h a =
    ap (λ b. b || is_among ids n) (apart_ids n i (λ same. let high = a.0.0 in omega (arith, same, high, h))) ∙ low_is_not_among bound row_next n ids h a.1

next_is_not_among : (bound row_next n : ℕ) (ids : List ℕ) → row_next ≤ n → AreRowIds bound row_next ids → is_among ids n ≡ false
next_is_not_among bound row_next n [] h a = refl
next_is_not_among bound row_next n (i ∷ ids) h a =
    ap (λ b. b || is_among ids n) (apart_ids n i (λ same. let low = a.0.1 in omega (arith, same, low, h))) ∙ next_is_not_among bound row_next n ids h a.1

-- ---- lists of ids
pub kept_without : (P : ℕ → Type 0) (ids : List ℕ) (n : ℕ) → AllByRecursion P ids → AllByRecursion P (without ids n)
kept_without P [] n a = tt
kept_without P (i ∷ ids) n a = elim (not (nat_eq n i)) as (λ b. AllByRecursion P (cond b (i ∷ without ids n) (without ids n))) [ true ↦ (a.0, kept_without P ids n a.1) | false ↦ kept_without P ids n a.1 ]

rows_up : (bound low high : ℕ) (ids : List ℕ) → low ≤ high → AreRowIds bound low ids → AreRowIds bound high ids
rows_up bound low high [] h a = tt
rows_up bound low high (i ∷ ids) h a = ((a.0.0, let less = a.0.1 in omega (arith, less, h)), rows_up bound low high ids h a.1)

lower_all : (low high : ℕ) (ids : List ℕ) → low ≤ high → AllByRecursion (λ n. n < low) ids → AllByRecursion (λ n. n < high) ids
lower_all low high [] h a = tt
lower_all low high (i ∷ ids) h a = (let less = a.0 in omega (arith, less, h), lower_all low high ids h a.1)

-- ---- tables
get_other : (table : Table) (n m : ℕ) (lits : List Literal) → nat_eq m n ≡ false → get table m ≡ None → get (map_.insert table n lits) m ≡ None
get_other table n m lits apart free = Looks-insert table (get table) n lits (λ _. refl) m ∙ ap (λ b. cond b (Some lits) (get table m)) apart ∙ free

get_gone : (table : Table) (n m : ℕ) → (nat_eq m n ≡ false → get table m ≡ None) → get (map_.remove table n) m ≡ None
get_gone table n m free = Looks-remove table (get table) n (λ _. refl) m ∙ by_cases (nat_eq m n) (λ e. ap (λ b. cond b None (get table m)) e) (λ e. ap (λ b. cond b None (get table m)) e ∙ free e)

-- ---- the trail
reasons_back : (bound k : ℕ) (es : List Entry) → ReasonsBelow bound es → ReasonsBelow bound (back_to k es)
reasons_back bound k [] r = tt
reasons_back bound k (e ∷ es) r = elim (nat_le e.level k) as (λ b. ReasonsBelow bound (cond b (e ∷ es) (back_to k es))) [ true ↦ r | false ↦ reasons_back bound k es r.1 ]

pub low_reason : (bound n : ℕ) → n < bound → (k : ℕ) → by_clause n ≡ by_clause k → k < bound
low_reason bound n h k e = let same : n ≡ k = same_number n k e in omega (arith, same, h)
  where
    same_number : (a b : ℕ) → by_clause a ≡ by_clause b → a ≡ b
    same_number a b e = cc

reasons_rest : (bound n : ℕ) (newer older : List Entry) (e : Entry) → n < bound → ReasonsBelow bound (newer ++ e ∷ older) → ReasonsBelow bound (newer ++ rests_on e n ∷ older)
reasons_rest bound n [] older e h r = (low_reason bound n h, r.1)
reasons_rest bound n (x ∷ newer) older e h r = (r.0, reasons_rest bound n newer older e h r.1)

reasons_up : (low high : ℕ) (es : List Entry) → low ≤ high → ReasonsBelow low es → ReasonsBelow high es
reasons_up low high [] h r = tt
reasons_up low high (e ∷ es) h r = (λ n is. let less = r.0 n is in omega (arith, less, h), reasons_up low high es h r.1)

module _ (formula : Problem) (bound next row_next : ℕ) where
  pub with_trail : (old new : List Entry) (m : Moment) → ReasonsBelow bound new → IsRanged formula bound next row_next old m → IsRanged formula bound next row_next new m
  with_trail old new m r i = record {
    originals = i.originals;
    room = i.room;
    reasons = r;
    learned = i.learned;
    new_rows = i.new_rows;
    old_rows = i.old_rows;
    free = i.free;
    rows_free = i.rows_free;
  }

  module _ (s : Search) (i : IsRanged formula bound next row_next s.trail s.moment) where
    pub decision_ranged : (l : Literal) → IsRanged formula bound next row_next (decided_on s l).trail (decided_on s l).moment
    decision_ranged l = with_trail s.trail (decided_on s l).trail s.moment ((λ n is. absurd (no_clause n is)), i.reasons) i
      where
        no_clause : (n : ℕ) → decided ≡ by_clause n → ⊥
        no_clause n is = cc

    pub row_ranged : (l : Literal) (clause : List Literal) → IsRanged formula bound next row_next (forced_on s l (by_row clause)).trail (forced_on s l (by_row clause)).moment
    row_ranged l clause = with_trail s.trail (forced_on s l (by_row clause)).trail s.moment ((λ n is. absurd (no_clause n is)), i.reasons) i
      where
        no_clause : (n : ℕ) → by_row clause ≡ by_clause n → ⊥
        no_clause n is = cc

    pub force_ranged : (l : Literal) (n : ℕ) → n < bound → IsRanged formula bound next row_next (forced_on s l (by_clause n)).trail (forced_on s l (by_clause n)).moment
    force_ranged l n h = with_trail s.trail (forced_on s l (by_clause n)).trail s.moment (low_reason bound n h, i.reasons) i

    pub jump_ranged : (k : ℕ) → IsRanged formula bound next row_next (jumped s k).trail (jumped s k).moment
    jump_ranged k = with_trail s.trail (jumped s k).trail s.moment (reasons_back bound k s.trail i.reasons) i

    pub rest_ranged : (n : ℕ) (newer older : List Entry) (e : Entry) → s.trail ≡ newer ++ e ∷ older → n < bound → IsRanged formula bound next row_next (newer ++ rests_on e n ∷ older) s.moment
    rest_ranged n newer older e same h = with_trail s.trail (newer ++ rests_on e n ∷ older) s.moment (reasons_rest bound n newer older e h (subst (ReasonsBelow bound) same i.reasons)) i

    -- a learned clause, or a unit
    pub clause_ranged : (n : ℕ) (zs hints : List ℤ) → next ≤ n → n < bound → IsRanged formula bound (n + 1) row_next s.trail (after_event s.moment (Step (ClauseWithHints n zs hints)))
    clause_ranged n zs hints low high = record {
      originals = let o = i.originals in omega (arith, o, low);
      room = omega (arith, high);
      reasons = i.reasons;
      learned = elim s.moment.awaits as (λ b. AllByRecursion (λ m. m < bound) (cond b (n ∷ s.moment.learned) s.moment.learned)) [ true ↦ (high, i.learned) | false ↦ i.learned ];
      new_rows = i.new_rows;
      old_rows = i.old_rows;
      free = λ m h k. get_other s.moment.tables.clauses n m _ (apart_ids m n (λ e. omega (arith, e, h))) (i.free m (omega (arith, h, low)) k);
      rows_free = λ m h k l. get_other s.moment.tables.clauses n m _ (apart_ids m n (λ e. omega (arith, e, h, high))) (i.rows_free m h k l);
    }

    -- the clause of a row
    pub row_clause_ranged : (n : ℕ) (zs : List ℤ) (k : ℕ) → bound ≤ n → row_next ≤ n → IsRanged formula bound next (n + 1) s.trail (after_event s.moment (Step (ClauseOfParity n zs k)))
    row_clause_ranged n zs k low next_low = record {
      originals = i.originals;
      room = i.room;
      reasons = i.reasons;
      learned = i.learned;
      new_rows = ((low, omega arith), rows_up bound row_next (n + 1) s.moment.new_clauses (omega (arith, next_low)) i.new_rows);
      old_rows = rows_up bound row_next (n + 1) s.moment.old_clauses (omega (arith, next_low)) i.old_rows;
      free = λ m h j. get_other s.moment.tables.clauses n m _ (apart_ids m n (λ e. omega (arith, e, j, low))) (i.free m h j);
      rows_free = λ m h j l. let p = or_parts (nat_eq m n) (is_among s.moment.new_clauses m) j in get_other s.moment.tables.clauses n m _ p.0 (i.rows_free m h p.1 l);
    }

    pub deletion_ranged : (n : ℕ) (zs : List ℤ) → IsRanged formula bound next row_next s.trail (after_event s.moment (Step (Delete n zs)))
    deletion_ranged n zs = record {
      originals = i.originals;
      room = i.room;
      reasons = i.reasons;
      learned = kept_without (λ m. m < bound) s.moment.learned n i.learned;
      new_rows = kept_without (λ m. (bound ≤ m) × (m < row_next)) s.moment.new_clauses n i.new_rows;
      old_rows = kept_without (λ m. (bound ≤ m) × (m < row_next)) s.moment.old_clauses n i.old_rows;
      free = λ m h j. get_gone s.moment.tables.clauses n m (λ _. i.free m h j);
      rows_free = λ m h j l. get_gone s.moment.tables.clauses n m (λ d. i.rows_free m h (not_before s.moment.new_clauses n m d j) (not_before s.moment.old_clauses n m d l));
    }

    pub sum_ranged : (k : ℕ) (rs : List ℤ) (ids : List ℕ) → IsRanged formula bound next row_next s.trail (after_event s.moment (Step (Parity k rs ids)))
    sum_ranged k rs ids = record { originals = i.originals; room = i.room; reasons = i.reasons; learned = i.learned; new_rows = i.new_rows; old_rows = i.old_rows; free = i.free; rows_free = i.rows_free }

    pub recovered_ranged : (n : ℕ) (zs : List ℤ) (ids : List ℕ) → IsRanged formula bound next row_next s.trail (after_event s.moment (Step (ParityOfClauses n zs ids)))
    recovered_ranged n zs ids = record { originals = i.originals; room = i.room; reasons = i.reasons; learned = i.learned; new_rows = i.new_rows; old_rows = i.old_rows; free = i.free; rows_free = i.rows_free }

    pub mark_ranged : IsRanged formula bound next row_next (marked s).trail (marked s).moment
    mark_ranged = record {
      originals = i.originals;
      room = i.room;
      reasons = i.reasons;
      learned = i.learned;
      new_rows = tt;
      old_rows = all_append (λ m. (bound ≤ m) × (m < row_next)) s.moment.new_clauses s.moment.old_clauses i.new_rows i.old_rows;
      free = i.free;
      rows_free = λ m h j l. let p = not_in_parts s.moment.new_clauses s.moment.old_clauses m l in i.rows_free m h p.0 p.1;
    }

    -- once no clause of a row is left, their ids begin anew
    pub anew_ranged : s.moment.new_clauses ≡ [] → s.moment.old_clauses ≡ [] → IsRanged formula bound next bound s.trail s.moment
    anew_ranged no_new no_old = record {
      originals = i.originals;
      room = i.room;
      reasons = i.reasons;
      learned = i.learned;
      new_rows = subst (AreRowIds bound bound) (sym no_new) tt;
      old_rows = subst (AreRowIds bound bound) (sym no_old) tt;
      free = i.free;
      rows_free = i.rows_free;
    }

    -- and the bound may rise
    pub risen_ranged : (high : ℕ) → bound ≤ high → s.moment.new_clauses ≡ [] → s.moment.old_clauses ≡ [] → IsRanged formula high next high s.trail s.moment
    risen_ranged high up no_new no_old = record {
      originals = i.originals;
      room = let room = i.room in omega (arith, room, up);
      reasons = reasons_up bound high s.trail up i.reasons;
      learned = lower_all bound high s.moment.learned up i.learned;
      new_rows = subst (AreRowIds high high) (sym no_new) tt;
      old_rows = subst (AreRowIds high high) (sym no_old) tt;
      free = λ n h _. by_cases (nat_lt n bound)
          (λ q. i.free n h (ltb-true n bound q))
          (λ q. i.rows_free n (ltb-false n bound q) (ap (λ ids. is_among ids n) no_new) (ap (λ ids. is_among ids n) no_old));
      rows_free = λ n h k l. i.rows_free n (omega (arith, h, up)) k l;
    }

    -- ---- what the ranges give
    pub next_is_free : next < bound → get s.moment.tables.clauses next ≡ None
    next_is_free h = i.free next (omega arith) h

    pub row_next_is_free : bound ≤ row_next → get s.moment.tables.clauses row_next ≡ None
    row_next_is_free h = i.rows_free row_next h (next_is_not_among bound row_next row_next s.moment.new_clauses (omega arith) i.new_rows) (next_is_not_among bound row_next row_next s.moment.old_clauses (omega arith) i.old_rows)

    -- from the bound on there are the clauses of rows alone
    high_covers_none : (n : ℕ) → bound ≤ n → CoversNone s.moment n
    high_covers_none n high = by_cases (is_among (rows_in s.moment) n)
        (λ e. inl e)
        (λ e. let p = not_in_parts s.moment.new_clauses s.moment.old_clauses n e in inr (i.rows_free n high p.0 p.1))

    -- so without one of them each clause of the formula is covered still
    pub high_is_spared : {tidies : Bool} (parities : List (List Literal)) → IsSearchIn tidies formula parities s → (n : ℕ) → bound ≤ n → IsSpared formula s.moment n
    high_is_spared parities ok n high = spared_where_none formula s.moment n (high_covers_none n high) ok.covered

    -- a clause below the bound covers each that it lies inside
    pub low_is_cover : (n : ℕ) (inner clause : List Literal) → n < bound → get s.moment.tables.clauses n ≡ Some inner → is_inside inner clause ≡ true → IsCover s.moment.tables.clauses (rows_in s.moment) clause n
    low_is_cover n inner clause low live inside = record {
      inner = inner;
      live = live;
      inside = inside;
      no_row = not_in_both s.moment.new_clauses s.moment.old_clauses n (low_is_not_among bound row_next n s.moment.new_clauses low i.new_rows) (low_is_not_among bound row_next n s.moment.old_clauses low i.old_rows);
    }

    -- clauses of rows may go, and no clause for good has an id of theirs
    pub row_ids_are_temporary : (ids : List ℕ) → AreRowIds bound row_next ids → AreTemporary s ids
    row_ids_are_temporary [] a = tt
    row_ids_are_temporary (n ∷ ids) a =
        let low = a.0.0 in
        ((high_covers_none n low, high_is_not_among bound n s.moment.learned low i.learned, high_is_no_reason bound n s.trail low i.reasons), row_ids_are_temporary ids a.1)

    pub low_is_no_row : (n : ℕ) → n < bound → is_among s.moment.new_clauses n ≡ false
    low_is_no_row n h = low_is_not_among bound row_next n s.moment.new_clauses h i.new_rows

  pub deletions_ranged : (s : Search) (ids : List ℕ) → IsRanged formula bound next row_next s.trail s.moment → IsRanged formula bound next row_next (deleted s ids).trail (deleted s ids).moment
  deletions_ranged s [] i = i
  deletions_ranged s (n ∷ ids) i = deletions_ranged (told s (Step (Delete n []))) ids (deletion_ranged s i n [])

  -- the steps of a row's reason
  pub row_reason_ranged : (s : Search) (k : ℕ) (rs : List ℤ) (ids : List ℕ) (n : ℕ) (zs : List ℤ) → bound ≤ n → row_next ≤ n → IsRanged formula bound next row_next s.trail s.moment
      → IsRanged formula bound next (n + 1) s.trail (all_told s (row_events k rs ids n zs)).moment
  row_reason_ranged s k rs ids n zs low next_low i =
      let s1 = told s (Step (Parity k rs ids)) in
      let r : IsRanged formula bound next (n + 1) s.trail (told s1 (Step (ClauseOfParity n zs k))).moment = row_clause_ranged s1 (sum_ranged s i k rs ids) n zs k low next_low in
      row_cases (λ es. IsRanged formula bound next (n + 1) s.trail (all_told s es).moment) k rs ids n zs (λ source is. row_clause_ranged s i n zs source low next_low)
      (record { originals = r.originals; room = r.room; reasons = r.reasons; learned = r.learned; new_rows = r.new_rows; old_rows = r.old_rows; free = r.free; rows_free = r.rows_free })

-- a sum's id is free again after its deletion
pub summed_frees_sum : (count : ℕ) (s : Search) (k : ℕ) (rs : List ℤ) (ids : List ℕ) (n : ℕ) (zs : List ℤ) → HasFreeSums count s.moment → HasFreeSums count (all_told s (sum_events k rs ids n zs)).moment
summed_frees_sum count s k rs ids n zs f m h = get_gone (told s (Step (Parity k rs ids))).moment.tables.parities k m (λ apart. get_other s.moment.tables.parities k m _ apart (f m h))

pub row_reason_frees_sum : (count : ℕ) (s : Search) (k : ℕ) (rs : List ℤ) (ids : List ℕ) (n : ℕ) (zs : List ℤ) → HasFreeSums count s.moment → HasFreeSums count (all_told s (row_events k rs ids n zs)).moment
row_reason_frees_sum count s k rs ids n zs f = row_cases (λ es. HasFreeSums count (all_told s es).moment) k rs ids n zs (λ source is. f) (summed_frees_sum count s k rs ids n zs f)

-- ---- a whole conflict
module _ (formula : Problem) (bound next row_next : ℕ) (s : Search) (i : IsRanged formula bound next row_next s.trail s.moment) (n : ℕ) (zs hints : List ℤ) (back : ℕ) (low : next ≤ n) (high : n < bound) where
  learned_ranged : IsRanged formula bound (n + 1) row_next (after_learned s n zs hints back).trail (after_learned s n zs hints back).moment
  learned_ranged = clause_ranged formula bound next row_next (marked s) (mark_ranged formula bound next row_next s i) n zs hints low high

  -- the clauses of rows go, so their ids begin anew
  pub round_ranged : (l : Literal) → s.moment.old_clauses ≡ [] → IsRanged formula bound (n + 1) bound (after_round s n zs hints back l).trail (after_round s n zs hints back l).moment
  round_ranged l none =
      let s1 = after_learned s n zs hints back in
      let s2 = deleted s1 s.moment.new_clauses in
      let s3 = jumped s2 back in
      let r2 = deletions_ranged formula bound (n + 1) row_next s1 s.moment.new_clauses learned_ranged in
      let r3 = jump_ranged formula bound (n + 1) row_next s2 r2 back in
      let r4 = force_ranged formula bound (n + 1) row_next s3 r3 l n high in
      anew_ranged formula bound (n + 1) row_next (after_round s n zs hints back l) r4 (round_clears_new s n zs hints back l) (round_clears_old s n zs hints back l none)

  -- so with ranges a round asks nothing more of ids
  pub ranged_round_keeps : {tidies : Bool} (parities : List (List Literal)) → IsSearchIn tidies formula parities s → (l : Literal) → IsServed s → s.quiet_levels ≡ level_of s.trail → IsAddition formula s.moment.tables.clauses n zs
      → derives_ending_clause formula (ClauseWithHints n zs hints) ≡ false → AreHintsFor s.moment.tables.clauses (literals zs) hints → IsLearnedOf s.trail back (literals zs) l → IsSearchIn tidies formula parities (after_round s n zs hints back l)
  ranged_round_keeps parities ok l served levels a goes right learned = round_keeps formula parities s ok n zs hints back l served levels a goes right learned
      (row_ids_are_temporary formula bound (n + 1) row_next (after_learned s n zs hints back) learned_ranged s.moment.new_clauses i.new_rows)
      (low_is_no_row formula bound next row_next s i n high)

-- ---- at the start
pub begun_is_ranged : (formula : Problem) (bound : ℕ) (s : Search) → length (clauses_of formula.constraints) < bound → IsBegun formula formula.constraints s
    → IsRanged formula bound (length (clauses_of formula.constraints) + 1) bound s.trail s.moment
begun_is_ranged formula bound s room b = record {
  originals = omega arith;
  room = omega (arith, room);
  reasons = subst (ReasonsBelow bound) (sym b.no_trail) tt;
  learned = subst (AllByRecursion (λ n. n < bound)) (sym b.no_learned) tt;
  new_rows = subst (AreRowIds bound bound) (sym b.tidy.no_new_clauses) tt;
  old_rows = subst (AreRowIds bound bound) (sym b.tidy.no_old_clauses) tt;
  free = λ n h k. b.clauses.free n (omega (arith, h));
  rows_free = λ n h k l. b.clauses.free n (omega (arith, h, room));
}

pub begun_has_free_sums : (formula : Problem) (s : Search) → IsBegun formula formula.constraints s → HasFreeSums (length (parities_of formula.constraints)) s.moment
begun_has_free_sums formula s b = b.parities.free

-- a recovered parity takes the next of these ids
pub recovered_has_free_sums : (count : ℕ) (s : Search) (zs : List ℤ) (ids : List ℕ) → HasFreeSums count s.moment → HasFreeSums (count + 1) (told s (Step (ParityOfClauses (count + 1) zs ids))).moment
recovered_has_free_sums count s zs ids f m h = get_other s.moment.tables.parities (count + 1) m _ (apart_ids m (count + 1) (λ e. omega (arith, e, h))) (f m (omega (arith, h)))
