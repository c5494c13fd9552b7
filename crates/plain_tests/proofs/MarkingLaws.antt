-- Live clauses, moves, the formula at a log's beginning, one literal of each variable, and events that fit.
use Rattle.std.proofs.Common.{◌≡◌, ◌≢◌, refl, sym, ap, ◌∙◌, subst, ℕ, zero, suc, ◌+◌, ◌<◌, Bool, true, false, not, ◌&&◌, ◌||◌, nat_eq, List, [], ◌∷◌, ◌++◌, length, map, take, drop, get_or, filter_map, Option, Some, None, is_some, Result, Ok, Err, arith, true≢false, inl, inr, ◌↔◌}
use Rattle.std.specs.Prelude.{IfOk, OnOk, MatchBool, IsFalse, unwrap_or}
use Rattle.std.specs.List.{list_any, list_all, range_with_len, AllByRecursion}
use Rattle.std.specs.List.Sorted.{IsStrictlySortedBy}
use Rattle.std.specs.Ordering.{nat_cmp, eq_by_cmp, is_eq}
use Rattle.std.specs.declared.cmp.Ordering.TheVariants.{Less}
use Rattle.std.specs.Cmp.{both_ways, nat_eq_equiv, unsigned_tied}
use Rattle.std.specs.FinMap as map_
use Rattle.std.specs.FinSet as set
use Rattle.std.proofs.lemmas.Bool.{or_cases, or_from, or_left, or_right, and_parts, and_from, eqb-true, eq-eqb}
use Rattle.std.proofs.lemmas.List.{take_more, append-nil}
use Rattle.std.proofs.lemmas.List.Elements.{filter_map-append}
use Rattle.std.proofs.lemmas.List.FromFn.{length-range_with_len, get_or-range_with_len}
use Rattle.std.proofs.lemmas.List.Sums.{fold-append}
use Rattle.std.proofs.lemmas.Map.Keys.{sorted_head, sorted_tail}
use Rattle.std.proofs.lemmas.Option.{same_Some}
use Rattle.cx_base.specs.Literals.{Literal}
use Rattle.cx_base.specs.Parity.{variables_of, HasOneOfEach}
use Rattle.cx_base.specs.Problem.{Problem}
use Rattle.cx_base.specs.declared.id_moves.IdMove.{IdMove}
use Rattle.cx_base.specs.declared.steps.LogStep.{LogStep}
use Rattle.cx_base.specs.declared.steps.LogEvent.{LogEvent}
use Rattle.cx_base.specs.declared.steps.LogEvent.TheVariants.{Step, Conflict}
use Rattle.cx_base.proofs.Differences.{same_members}
use Rattle.cx_semantics.specs.Chain.{is_inside}
use Rattle.cx_semantics.specs.Fresh.{is_tautology}
use Rattle.cx_semantics.specs.Marked.{Moment, Marked, IsLearned, IsKnown, clause_at, EventFits, EventsFit, after_event, mark_of, BeginsWithOriginals, first_moment}
use Rattle.cx_semantics.specs.Moves.{old_ids, put_if, put_moved}
use Rattle.cx_semantics.specs.Tables.{Table, Tables, get}
use Rattle.cx_semantics.proofs.Closure.{same_id}
use Rattle.cx_semantics.proofs.MarkedLaws.{events_go_on}
use Rattle.cx_semantics.proofs.RecoveredLaws.{Distinct, len-distinct}
use Rattle.cx_semantics.proofs.Widths.{variables}
use Rattle.proof_rules.specs.Contents.{RisesOver}
use Rattle.proof_rules.specs.Kinds.{chosen, drop_constraints, move_constraints, ListsLive}
use Rattle.proof_rules.specs.declared.live.Kind.{Kind}
use Rattle.proof_rules.specs.declared.live.Kind.TheVariants.{Clauses, Parities}
use Rattle.plain_tests.specs.Propagating.{HasId}
use Rattle.plain_tests.proofs.JudgedLaws.{split_at}
use Rattle.plain_tests.specs.Marking.{SomeLive, some_under, is_part_of, IsKnownUnit, IsAddedWhere, FitToTheEnd, put_content, put_contents, are_one_each}

-- ---- lists with the same members

any_at : (test : ℕ → Bool) (xs : List ℕ) → list_any test xs ≡ true → (n : ℕ) × HasId xs n × (test n ≡ true)
any_at test [] h = absurd (true≢false (sym h))
any_at test (x ∷ xs) h = elim (or_cases (test x) _ h) [
  | inl e ↦ (x, or_left (eq_by_cmp nat_cmp x x) _ (unsigned_tied x x ∙ eq-eqb x x refl), e)
  | inr k ↦ let r = any_at test xs k in (r.0, or_right (eq_by_cmp nat_cmp r.0 x) _ r.1, r.2)
]

any_by : (test : ℕ → Bool) (xs : List ℕ) (n : ℕ) → HasId xs n → test n ≡ true → list_any test xs ≡ true
any_by test [] n h t = absurd (true≢false (sym h))
any_by test (x ∷ xs) n h t = elim (or_cases (eq_by_cmp nat_cmp n x) _ h) [
  | inl e ↦ or_left (test x) _ (subst (λ m. test m ≡ true) (same_id n x e) t)
  | inr k ↦ or_right (test x) _ (any_by test xs n k t)
]

-- a look at all live ids is a look at the table's keys
pub any_live : (table : Table) (ids : List ℕ) (test : ℕ → Bool) → ListsLive table ids → list_any test ids ≡ list_any test (map_.keys table)
any_live table ids test lists =
    let same : (n : ℕ) → list_any (eq_by_cmp nat_cmp n) ids ≡ list_any (eq_by_cmp nat_cmp n) (map_.keys table) = (λ n. lists n ∙ map_.contains_key-keys table n) in
    both_ways _ _
    (λ h. let r = any_at test ids h in any_by test (map_.keys table) r.0 (sym (same r.0) ∙ r.1) r.2)
    (λ h. let r = any_at test (map_.keys table) h in any_by test ids r.0 (same r.0 ∙ r.1) r.2)

content_of : (o : Option (List Literal)) → is_some o ≡ true → (clause : List Literal) × (o ≡ Some clause)
content_of None h = absurd (true≢false (sym h))
content_of (Some clause) h = (clause, refl)

some_live : (table : Table) (ids : List ℕ) (test : List Literal → Bool) → ListsLive table ids → some_under table test ids ≡ true → SomeLive table test
some_live table ids test lists h =
    let r = any_at (λ k. test (clause_at table k)) ids h in
    let c = content_of (get table r.0) (sym (lists r.0) ∙ r.1) in
    (c.0, (r.0, c.1), sym (ap (λ o. test (unwrap_or o [])) c.1) ∙ r.2)

none_live : (table : Table) (ids : List ℕ) (test : List Literal → Bool) → ListsLive table ids → some_under table test ids ≡ false → ¬ SomeLive table test
none_live table ids test lists h = λ (clause, (n, e), t).
    true≢false (sym (any_by (λ k. test (clause_at table k)) ids n (lists n ∙ ap is_some e) (ap (λ o. test (unwrap_or o [])) e ∙ t)) ∙ h)

pub some_live_by : (table : Table) (ids : List ℕ) (test : List Literal → Bool) (b : Bool) → ListsLive table ids → b ≡ some_under table test ids → MatchBool b (SomeLive table test) (¬ SomeLive table test)
some_live_by table ids test true lists e = some_live table ids test lists (sym e)
some_live_by table ids test false lists e = none_live table ids test lists (sym e)

-- ---- moves

pub drop_on : (kind : Kind) (t : Tables) (ids : List ℕ) (n : ℕ) → drop_constraints kind t (ids ++ n ∷ []) ≡ drop_constraints kind (drop_constraints kind t ids) (n ∷ [])
drop_on Clauses t ids n = ap (λ (m : Table). record t { clauses = m }) (fold-append map_.remove t.clauses ids (n ∷ []))
drop_on Parities t ids n = ap (λ (m : Table). record t { parities = m }) (fold-append map_.remove t.parities ids (n ∷ []))

old_ids_more : (moves : List IdMove) (m : IdMove) → old_ids (moves ++ m ∷ []) ≡ old_ids moves ++ m.from ∷ []
old_ids_more [] m = refl
old_ids_more (x ∷ moves) m = ap (λ ids. x.from ∷ ids) (old_ids_more moves m)

-- one more old id is taken out
pub taken_out_more : (kind : Kind) (t : Tables) (moves : List IdMove) (k : ℕ) (m : IdMove) → k < length moves → m ≡ get_or moves k m
    → drop_constraints kind t (old_ids (take (k + 1) moves)) ≡ drop_constraints kind (drop_constraints kind t (old_ids (take k moves))) (m.from ∷ [])
taken_out_more kind t moves k m less is =
    let next : take (k + 1) moves ≡ take k moves ++ m ∷ [] = take_more moves k m less ∙ ap (λ x. take k moves ++ x ∷ []) (sym is) in
    ap (λ xs. drop_constraints kind t (old_ids xs)) next ∙ ap (drop_constraints kind t) (old_ids_more (take k moves) m) ∙ drop_on kind t (old_ids (take k moves)) m.from

abbrev contents_in : Table → List IdMove → List (Option (List Literal))
contents_in table moves = map (λ (m : IdMove). get table m.from) moves

content_put : (t : Tables) (n : ℕ) (o : Option (List Literal)) → put_content Clauses t n o ≡ record t { clauses = put_if t.clauses n o }
content_put t n None = refl
content_put t n (Some lits) = refl

parity_put : (t : Tables) (n : ℕ) (o : Option (List Literal)) → put_content Parities t n o ≡ record t { parities = put_if t.parities n o }
parity_put t n None = refl
parity_put t n (Some lits) = refl

clauses_put : (first : Table) (t : Tables) (moves : List IdMove) → put_contents Clauses t moves (contents_in first moves) ≡ record t { clauses = put_moved first t.clauses moves }
clauses_put first t [] = refl
clauses_put first t (m ∷ moves) =
    ap (λ u. put_contents Clauses u moves (contents_in first moves)) (content_put t m.to (get first m.from)) ∙ clauses_put first (record t { clauses = put_if t.clauses m.to (get first m.from) }) moves

parities_put : (first : Table) (t : Tables) (moves : List IdMove) → put_contents Parities t moves (contents_in first moves) ≡ record t { parities = put_moved first t.parities moves }
parities_put first t [] = refl
parities_put first t (m ∷ moves) =
    ap (λ u. put_contents Parities u moves (contents_in first moves)) (parity_put t m.to (get first m.from)) ∙ parities_put first (record t { parities = put_if t.parities m.to (get first m.from) }) moves

-- all old ids are taken out, and then each content is put
pub moved_by : (kind : Kind) (t : Tables) (moves : List IdMove) → put_contents kind (drop_constraints kind t (old_ids moves)) moves (contents_in (chosen kind t) moves) ≡ move_constraints kind t moves
moved_by Clauses t moves = clauses_put t.clauses (drop_constraints Clauses t (old_ids moves)) moves
moved_by Parities t moves = parities_put t.parities (drop_constraints Parities t (old_ids moves)) moves

pub ok_moved : {E T : Type 0} (kind : Kind) (old out new : Tables) (moves : List IdMove) (contents : List (Option (List Literal))) (r : Result T E) → contents ≡ contents_in (chosen kind old) moves → out ≡ drop_constraints kind old (old_ids moves)
    → OnOk r (new ≡ put_contents kind out moves contents) → OnOk r (new ≡ move_constraints kind old moves)
ok_moved kind old out new moves contents (Err e) is taken h = h
ok_moved kind old out new moves contents (Ok x) is taken h = h ∙ ap (put_contents kind out moves) is ∙ ap (λ t. put_contents kind t moves (contents_in (chosen kind old) moves)) taken ∙ moved_by kind old moves

-- ---- one literal of each variable

apart : (x : ℕ) (xs : List ℕ) → AllByRecursion (λ y. nat_cmp x y ≡ Less) xs → list_any (λ y. nat_eq y x) xs ≡ false
apart x [] h = refl
apart x (y ∷ ys) h = or_from _ _ (nat_eq_equiv.symm y x ∙ sym (unsigned_tied x y) ∙ ap is_eq h.0) (apart x ys h.1)

distinct_of : (xs : List ℕ) → IsStrictlySortedBy nat_cmp xs → Distinct xs
distinct_of [] s = tt
distinct_of (x ∷ xs) s = (apart x xs (sorted_head nat_cmp x xs s), distinct_of xs (sorted_tail nat_cmp x xs s))

all_at : (test : ℕ → Bool) (xs : List ℕ) (y : ℕ) → list_all test xs ≡ true → list_any (λ x. nat_eq x y) xs ≡ true → test y ≡ true
all_at test [] y h k = absurd (true≢false (sym k))
all_at test (x ∷ xs) y h k = elim (or_cases (nat_eq x y) _ k) [
  | inl e ↦ subst (λ z. test z ≡ true) (eqb-true x y e) (and_parts (test x) _ h).0
  | inr m ↦ all_at test xs y (and_parts (test x) _ h).1 m
]

all_by : (test : ℕ → Bool) (xs : List ℕ) → ((y : ℕ) → list_any (λ x. nat_eq x y) xs ≡ true → test y ≡ true) → list_all test xs ≡ true
all_by test [] h = refl
all_by test (x ∷ xs) h = and_from (test x) _ (h x (or_left (nat_eq x x) _ (eq-eqb x x refl))) (all_by test xs (λ y k. h y (or_right (nat_eq x y) _ k)))

any_variable : (lits : List Literal) (y : ℕ) → list_any (λ l. nat_eq l.variable y) lits ≡ list_any (λ x. nat_eq x y) (variables lits)
any_variable [] y = refl
any_variable (l ∷ lits) y = ap (λ b. nat_eq l.variable y || b) (any_variable lits y)

all_variables : (test : ℕ → Bool) (lits : List Literal) → list_all (λ l. test l.variable) lits ≡ list_all test (variables lits)
all_variables test [] = refl
all_variables test (l ∷ lits) = ap (λ b. test l.variable && b) (all_variables test lits)

turned : (y : ℕ) (xs : List ℕ) → list_any (nat_eq y) xs ≡ list_any (λ x. nat_eq x y) xs
turned y [] = refl
turned y (x ∷ xs) = (λ i. nat_eq_equiv.symm y x i || turned y xs i)

module _ (s : set.FinSet nat_cmp) (vs : List ℕ) (lits : List Literal) (rises : RisesOver s vs) where
  width : set.len s ≡ length vs
  width = ap set.len (sym rises.same) ∙ len-distinct vs (distinct_of vs rises.rising)

  member : (y : ℕ) → set.contains s y ≡ list_any (λ x. nat_eq x y) vs
  member y = ap (λ (t : set.FinSet nat_cmp). set.contains t y) (sym rises.same) ∙ set.contains-from_list_nat vs y

  of_literals : (y : ℕ) → set.contains (variables_of lits) y ≡ list_any (λ x. nat_eq x y) (variables lits)
  of_literals y = set.contains-from_list_nat (variables lits) y

  have_each : are_one_each vs lits ≡ true → HasOneOfEach s lits
  have_each h =
      let p = and_parts _ _ h in
      let q = and_parts _ _ p.1 in
      let long : length vs ≡ length lits = eqb-true (length vs) (length lits) p.0 in
      record {
        same = same_members _ _ (λ y. of_literals y ∙ both_ways _ _
            (λ k. sym (turned y vs) ∙ all_at (λ x. list_any (nat_eq x) vs) (variables lits) y (sym (all_variables (λ x. list_any (nat_eq x) vs) lits) ∙ q.1) k)
            (λ k. sym (any_variable lits y) ∙ all_at (λ x. list_any (λ l. nat_eq l.variable x) lits) vs y q.0 k)
            ∙ sym (member y));
        once = sym long ∙ sym width;
      }

  are_each : HasOneOfEach s lits → are_one_each vs lits ≡ true
  are_each each =
      let members : (y : ℕ) → list_any (λ x. nat_eq x y) (variables lits) ≡ list_any (λ x. nat_eq x y) vs = (λ y. sym (of_literals y) ∙ ap (λ (t : set.FinSet nat_cmp). set.contains t y) each.same ∙ member y) in
      and_from _ _
      (eq-eqb (length vs) (length lits) (sym width ∙ sym each.once))
      (and_from _ _
      (all_by (λ x. list_any (λ l. nat_eq l.variable x) lits) vs (λ y k. any_variable lits y ∙ members y ∙ k))
      (all_variables (λ x. list_any (nat_eq x) vs) lits ∙ all_by (λ x. list_any (nat_eq x) vs) (variables lits) (λ y k. turned y vs ∙ sym (members y) ∙ k)))

  pub one_each_by : (b : Bool) → b ≡ are_one_each vs lits → MatchBool b (HasOneOfEach s lits) (¬ HasOneOfEach s lits)
  one_each_by true e = have_each (sym e)
  one_each_by false e = λ each. true≢false (sym (are_each each) ∙ sym e)

-- ---- marks in order

get_or_seam : (xs : List ℕ) (y : ℕ) (ys : List ℕ) → get_or (xs ++ y ∷ ys) (length xs) 0 ≡ y
get_or_seam [] y ys = refl
get_or_seam (x ∷ xs) y ys = get_or_seam xs y ys

length_seam : (xs : List ℕ) (y : ℕ) (ys : List ℕ) → length xs < length (xs ++ y ∷ ys)
length_seam [] y ys = omega arith
length_seam (x ∷ xs) y ys = let h = length_seam xs y ys in omega (arith, h)

-- a mark with another number than the next one
pub out_of_order : (events : List LogEvent) (i count k : ℕ) → i < length events → Conflict k ≡ get_or events i (Conflict k) → filter_map mark_of (take i events) ≡ range_with_len 1 count → k ≢ count + 1
    → (n : ℕ) → ¬ (filter_map mark_of events ≡ range_with_len 1 n)
out_of_order events i count k less is marks other n h =
    let later = filter_map mark_of (drop (i + 1) events) in
    let whole : range_with_len 1 n ≡ range_with_len 1 count ++ k ∷ later =
    sym h ∙ ap (filter_map mark_of) (split_at events i (Conflict k) less is) ∙ filter_map-append mark_of (take i events) (Conflict k ∷ drop (i + 1) events) ∙ ap (λ xs. xs ++ k ∷ later) marks in
    let width : length (range_with_len 1 count) ≡ count = length-range_with_len 1 count in
    let below : count < n =
    subst (λ x. x < n) width (subst (λ x. length (range_with_len 1 count) < x) (ap length (sym whole) ∙ length-range_with_len 1 n) (length_seam (range_with_len 1 count) k later)) in
    let here : get_or (range_with_len 1 n) count 0 ≡ k =
    ap (λ xs. get_or xs count 0) whole ∙ ap (λ c. get_or (range_with_len 1 count ++ k ∷ later) c 0) (sym width) ∙ get_or_seam (range_with_len 1 count) k later in
    let there : get_or (range_with_len 1 n) count 0 ≡ 1 + count = get_or-range_with_len 1 n count 0 below in
    other (let e : k ≡ 1 + count = sym here ∙ there in omega (arith, e))

range_more : (a n : ℕ) → range_with_len a (n + 1) ≡ range_with_len a n ++ (a + n) ∷ []
range_more a zero = let e : a ≡ a + 0 = omega arith in ap (λ x. x ∷ []) e
range_more a (suc n) =
    let e : a + 1 + n ≡ a + suc n = omega arith in
    let f : suc n + 1 ≡ suc (n + 1) = omega arith in
    ap (range_with_len a) f ∙ ap (λ xs. a ∷ xs) (range_more (a + 1) n ∙ ap (λ x. range_with_len (a + 1) n ++ x ∷ []) e)

abbrev marks_of : List LogEvent → List ℕ
marks_of events = filter_map mark_of events

pub marked_more : (events : List LogEvent) (i count k : ℕ) → i < length events → Conflict k ≡ get_or events i (Conflict k) → marks_of (take i events) ≡ range_with_len 1 count → k ≡ count + 1
    → marks_of (take (i + 1) events) ≡ range_with_len 1 (count + 1)
marked_more events i count k less is marks next =
    let e : k ≡ 1 + count = (omega (arith, next)) in
    ap marks_of (take_more events i (Conflict k) less ∙ ap (λ x. take i events ++ x ∷ []) (sym is))
    ∙ filter_map-append mark_of (take i events) (Conflict k ∷ [])
    ∙ ap (λ xs. xs ++ k ∷ []) marks ∙ ap (λ x. range_with_len 1 count ++ x ∷ []) e ∙ sym (range_more 1 count)

pub step_is_no_mark : (events : List LogEvent) (i count : ℕ) (step : LogStep) → i < length events → Step step ≡ get_or events i (Step step) → marks_of (take i events) ≡ range_with_len 1 count
    → marks_of (take (i + 1) events) ≡ range_with_len 1 count
step_is_no_mark events i count step less is marks =
    ap marks_of (take_more events i (Step step) less ∙ ap (λ x. take i events ++ x ∷ []) (sym is))
    ∙ filter_map-append mark_of (take i events) (Step step ∷ [])
    ∙ append-nil (marks_of (take i events)) ∙ marks

-- ---- events that fit

fits_then : (formula : Problem) (first m last : Moment) (xs : List LogEvent) (event : LogEvent) (ys : List LogEvent) → EventsFit formula first (xs ++ event ∷ ys) last → EventsFit formula first xs m → EventFits formula m event
fits_then formula first m last [] event ys h k = subst (λ x. EventFits formula x event) (sym k) h.0
fits_then formula first m last (x ∷ xs) event ys h k = fits_then formula (after_event first x) m last xs event ys h.1 k.1

-- where an event does not fit, no moment is the last
pub does_not_fit : (formula : Problem) (first m : Moment) (events : List LogEvent) (i : ℕ) (event : LogEvent) → i < length events → event ≡ get_or events i event → EventsFit formula first (take i events) m
    → ¬ EventFits formula m event → (last : Moment) → ¬ EventsFit formula first events last
does_not_fit formula first m events i event less is fit wrong last h =
    wrong (fits_then formula first m last (take i events) event (drop (i + 1) events) (subst (λ xs. EventsFit formula first xs last) (split_at events i event less is) h) fit)

pub fits_more : (formula : Problem) (first old new : Moment) (events : List LogEvent) (i : ℕ) (event : LogEvent) → i < length events → event ≡ get_or events i event → EventsFit formula first (take i events) old
    → EventFits formula old event → new ≡ after_event old event → EventsFit formula first (take (i + 1) events) new
fits_more formula first old new events i event less is fit fits e =
    let next : take (i + 1) events ≡ take i events ++ event ∷ [] = take_more events i event less ∙ ap (λ x. take i events ++ x ∷ []) (sym is) in
    subst (λ m. EventsFit formula first (take (i + 1) events) m) (sym e) (subst (λ xs. EventsFit formula first xs (after_event old event)) (sym next) (events_go_on formula first old (take i events) event fit fits))

turned_off : (b : Bool) → not b ≡ true → b ≡ false
turned_off true e = sym e
turned_off false e = refl

fits_once : (formula : Problem) (first a b : Moment) (events : List LogEvent) → EventsFit formula first events a → EventsFit formula first events b → a ≡ b
fits_once formula first a b [] h k = h ∙ sym k
fits_once formula first a b (event ∷ events) h k = fits_once formula (after_event first event) a b events h.1 k.1

pub fit_to_the_end : (formula : Problem) (first last : Moment) (events : List LogEvent) (b : Bool) → EventsFit formula first events last → b ≡ not last.awaits → MatchBool b (FitToTheEnd formula first events) (¬ FitToTheEnd formula first events)
fit_to_the_end formula first last events true fit e = (last, fit, turned_off last.awaits (sym e))
fit_to_the_end formula first last events false fit e = λ (other, there, served).
    true≢false (sym (e ∙ ap (λ (x : Moment). not x.awaits) (fits_once formula first last other events fit there) ∙ ap not served))

-- ---- what fits

-- what an answer tells of one thing it tells of another one where the two are the same
pub told_as : {E : Type 0} {P Q : Type 0} (r : Result Bool E) → (P → Q) → (Q → P) → IfOk r (λ b. MatchBool b P (¬ P)) → IfOk r (λ b. MatchBool b Q (¬ Q))
told_as (Err e) there back h = h
told_as (Ok true) there back h = there h
told_as (Ok false) there back h = λ q. h (back q)

pub known_part : (m : Moment) (lits : List Literal) → SomeLive m.tables.clauses (is_part_of lits) → IsKnown m lits
known_part m lits (clause, live, h) =
    let p = and_parts (is_inside lits clause) (not (is_tautology clause)) h in
    inr (clause, live, p.0, turned_off (is_tautology clause) p.1)

pub part_known : (m : Moment) (lits : List Literal) → ¬ IsKnownUnit m lits → IsKnown m lits → SomeLive m.tables.clauses (is_part_of lits)
part_known m lits other (inl unit) = absurd (other unit)
part_known m lits other (inr (clause, live, inside, plain)) = (clause, live, and_from (is_inside lits clause) _ inside (ap not plain))

pub known_added : {E : Type 0} (r : Result Bool E) (ends : Bool) (m : Moment) (lits : List Literal) → m.awaits ≡ false → ends ≡ false → IfOk r (λ b. MatchBool b (IsKnown m lits) (¬ IsKnown m lits))
    → IfOk r (λ b. MatchBool b (IsAddedWhere ends m lits) (¬ IsAddedWhere ends m lits))
known_added r ends m lits none on h = told_as r
    (λ known. subst (λ b. MatchBool b (IsLearned m lits) (IsFalse ends → IsKnown m lits)) (sym none) (λ e. known))
    (λ added. subst (λ b. MatchBool b (IsLearned m lits) (IsFalse ends → IsKnown m lits)) none added on) h

-- the mark's number changes nothing
pub after_mark : {E T : Type 0} (r : Result T E) (old new : Moment) (k : ℕ) (event : LogEvent) → event ≡ Conflict k → OnOk r ((n : ℕ) → new ≡ after_event old (Conflict n)) → OnOk r (new ≡ after_event old event)
after_mark (Err e) old new k event is h = h
after_mark (Ok x) old new k event is h = h k ∙ ap (after_event old) (sym is)

-- ---- how many marks

module _ (formula : Problem) (events : List LogEvent) where
  abbrev pub Tells : Option ℕ → Type 0
  Tells o = (n : ℕ) → (o ≡ Some n) ↔ Marked formula events n

  none : ((n : ℕ) → ¬ Marked formula events n) → Tells None
  none h n = (λ e. cc, λ m. absurd (h n m))

  pub no_order : ((n : ℕ) → ¬ (marks_of events ≡ range_with_len 1 n)) → Tells None
  no_order h = none (λ n m. h n m.marks)

  pub no_originals : ¬ BeginsWithOriginals formula.constraints events → Tells None
  no_originals h = none (λ n m. h m.originals)

  pub not_to_the_end : ¬ FitToTheEnd formula first_moment events → Tells None
  not_to_the_end h = none (λ n m. h (m.last, m.fit, m.served))

  pub marked_so : (count : ℕ) → marks_of events ≡ range_with_len 1 count → BeginsWithOriginals formula.constraints events → FitToTheEnd formula first_moment events → Tells (Some count)
  marked_so count marks originals (last, fit, served) n = (
    λ e. subst (Marked formula events) (same_Some count n e) (record { marks = marks; originals = originals; last = last; fit = fit; served = served }),
    λ m. ap Some (sym (length-range_with_len 1 count) ∙ ap length (sym marks ∙ m.marks) ∙ length-range_with_len 1 n),
  )
