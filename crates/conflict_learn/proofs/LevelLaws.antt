-- Counting levels that never rise.
use Rattle.std.proofs.Common.{◌≡◌, ◌≢◌, refl, sym, ap, ◌∙◌, subst, ℕ, zero, suc, ◌+◌, ◌<◌, ◌≤◌, Bool, true, false, cond, not, ◌||◌, nat_eq, eqb-true, List, [], ◌∷◌, ◌++◌, length, take, get_or, inl, inr, arith, true≢false, length-append, if◌then◌else◌, ◌==◌}
use Rattle.std.proofs.lemmas.Bool.{eqb-false, eq-eqb, ne_eqb}
use Rattle.std.proofs.lemmas.List.{take_more, take_all, length-map, get_or-map}
use Rattle.std.specs.List.{AllByRecursion}
use Rattle.cx_base.specs.Literals.{Literal, negate}
use Rattle.cx_base.proofs.LiteralLaws.{negate-negate}
use Rattle.cx_base.proofs.Elements.{all_push}
use Rattle.cx_trail.specs.Sequence.{TrailState}
use Rattle.conflict_learn.specs.Learning.{literal_at, level_at, negated_at, has_place}
use Rattle.conflict_learn.specs.Levels.{ArePlacesOf, distinct, levels_at, second, NeverRises}
use Rattle.conflict_learn.proofs.ChainOfResolutions.{by_cases}
use Rattle.conflict_learn.proofs.AnalyseLaws.{AllByRecursion-weaker, place_pushed, place_kept, place_last, place_split, place_here, place_behind}

-- what was seen so far: the levels in order, the last one of which is the least
pub record Seen (done : List ℕ) (back count last index : ℕ) : Type 0 where
  pub index_is : index ≡ length done
  pub count_is : count ≡ length (distinct done)
  pub back_is : back ≡ second done
  pub least : AllByRecursion (λ d. last ≤ d) done
  pub last_in : index ≢ 0 → has_place done last ≡ true
  pub few : count ≤ index

pub nothing_seen : Seen [] 0 0 0 0
nothing_seen = record { index_is = refl; count_is = refl; back_is = refl; least = tt; last_in = λ h. absurd (h refl); few = omega arith }

pub same_but : (ks : List ℕ) (x k : ℕ) → (k ≡ x → ⊥) → has_place (ks ++ x ∷ []) k ≡ has_place ks k
same_but ks x k apart = by_cases (has_place ks k) (λ f. place_kept ks x k f ∙ sym f) (λ f. by_cases (has_place (ks ++ x ∷ []) k)
    (λ g. elim (place_pushed ks x k g) [ inl r ↦ absurd (true≢false (sym r ∙ f)) | inr r ↦ absurd (apart r) ])
    (λ g. g ∙ sym f))

grow : (b : Bool) (k n : ℕ) (xs ys : List ℕ) → length xs ≡ length ys + n → length (cond b xs (k ∷ xs)) ≡ length (cond b ys (k ∷ ys)) + n
grow true k n xs ys r = r
grow false k n xs ys r = omega (arith, r)

-- one more number is counted where it is not there yet
pub distinct_push_new : (done : List ℕ) (x : ℕ) → has_place done x ≡ false → length (distinct (done ++ x ∷ [])) ≡ length (distinct done) + 1
distinct_push_new [] x h = omega arith
distinct_push_new (k ∷ ks) x h =
    let not_head : k ≡ x → ⊥ = λ e. true≢false (sym (ap (has_place (k ∷ ks)) (sym e) ∙ place_here k ks) ∙ h) in
    let not_tail : has_place ks x ≡ false = by_cases (has_place ks x) (λ e. absurd (true≢false (sym (place_behind k ks x e) ∙ h))) (λ e. e) in
    ap (λ b. length (cond b (distinct (ks ++ x ∷ [])) (k ∷ distinct (ks ++ x ∷ [])))) (same_but ks x k not_head)
    ∙ grow (has_place ks k) k 1 (distinct (ks ++ x ∷ [])) (distinct ks) (distinct_push_new ks x not_tail)

pub distinct_push_old : (done : List ℕ) (x : ℕ) → has_place done x ≡ true → length (distinct (done ++ x ∷ [])) ≡ length (distinct done)
distinct_push_old [] x h = absurd (true≢false (sym h))
distinct_push_old (k ∷ ks) x h = by_cases (nat_eq k x)
    (λ e.
    let is : k ≡ x = eqb-true k x e in
    let there : has_place (ks ++ x ∷ []) k ≡ true = ap (has_place (ks ++ x ∷ [])) is ∙ place_last ks x in
    ap (λ b. length (cond b (distinct (ks ++ x ∷ [])) (k ∷ distinct (ks ++ x ∷ [])))) there
    ∙ by_cases (has_place ks x)
    (λ f. distinct_push_old ks x f ∙ sym (ap (λ b. length (cond b (distinct ks) (k ∷ distinct ks))) (ap (has_place ks) is ∙ f)))
    (λ f. distinct_push_new ks x f ∙ sym (ap (λ b. length (cond b (distinct ks) (k ∷ distinct ks))) (ap (has_place ks) is ∙ f) ∙ one_more (length (distinct ks)))))
    (λ e.
    let apart : k ≡ x → ⊥ = eqb-false k x e in
    let rest : has_place ks x ≡ true = elim (place_split k ks x h) [ inl is ↦ absurd (apart (sym is)) | inr g ↦ g ] in
    ap (λ b. length (cond b (distinct (ks ++ x ∷ [])) (k ∷ distinct (ks ++ x ∷ [])))) (same_but ks x k apart)
    ∙ grow (has_place ks k) k 0 (distinct (ks ++ x ∷ [])) (distinct ks) (let r = distinct_push_old ks x rest in omega (arith, r)) ∙ no_more (length (cond (has_place ks k) (distinct ks) (k ∷ distinct ks))))
  where
    one_more : (n : ℕ) → suc n ≡ n + 1
    one_more n = omega arith

    no_more : (n : ℕ) → n + 0 ≡ n
    no_more n = omega arith

at_least : (ps : List ℕ) (last q : ℕ) → AllByRecursion (λ d. last ≤ d) ps → has_place ps q ≡ true → last ≤ q
at_least [] last q a h = absurd (true≢false (sym h))
at_least (p ∷ ps) last q a h = elim (place_split p ps q h) [ inl e ↦ (let b = a.0 in omega (arith, e, b)) | inr g ↦ at_least ps last q a.1 g ]

second_push : (done : List ℕ) (x back : ℕ) → back ≡ second done → (if length done == 1 then x else back) ≡ second (done ++ x ∷ [])
second_push [] x back h = h
second_push (k ∷ []) x back h = refl
second_push (k ∷ j ∷ js) x back h = ap (λ b. cond b x back) (ne_eqb (length (k ∷ j ∷ js)) 1 (λ e. omega (arith, e))) ∙ h

-- the next level, which is at most the last one
pub seen_more : (done : List ℕ) (back count last index x : ℕ) → Seen done back count last index → (index ≢ 0 → x ≤ last) → (is_new : Bool) → is_new ≡ (index == 0 || not (x == last))
    → Seen (done ++ x ∷ []) (if index == 1 then x else back) (if is_new then count + 1 else count) x (index + 1)
seen_more done back count last index x s low is_new new_is = record {
  index_is = (let a = s.index_is in let b = length-append done (x ∷ []) in omega (arith, a, b));
  count_is = counted is_new new_is;
  back_is = ap (λ n. if n == 1 then x else back) s.index_is ∙ second_push done x back s.back_is;
  least = all_push (λ d. x ≤ d) done x lower (omega arith);
  last_in = λ h. place_last done x;
  few = fewer is_new;
}
  where
    lower : AllByRecursion (λ d. x ≤ d) done
    lower = by_cases (nat_eq index 0)
        (λ e. let z : index ≡ 0 = eqb-true index 0 e in empty done (let a = s.index_is in omega (arith, a, z)))
        (λ e. AllByRecursion-weaker (λ d. last ≤ d) (λ d. x ≤ d) (λ d above. let b = low (eqb-false index 0 e) in omega (arith, b, above)) done s.least)
      where
        empty : (ds : List ℕ) → length ds ≡ 0 → AllByRecursion (λ d. x ≤ d) ds
        empty [] h = tt
        empty (d ∷ ds) h = absurd (omega (arith, h))

    fewer : (b : Bool) → (if b then count + 1 else count) ≤ index + 1
    fewer true = let a = s.few in omega (arith, a)
    fewer false = let a = s.few in omega (arith, a)

    counted : (b : Bool) → b ≡ (index == 0 || not (x == last)) → (if b then count + 1 else count) ≡ length (distinct (done ++ x ∷ []))
    counted true e = ap (λ n. n + 1) s.count_is ∙ sym (distinct_push_new done x (by_cases (has_place done x)
        (λ f. by_cases (nat_eq index 0)
        (λ z. let a = s.index_is in let y : index ≡ 0 = eqb-true index 0 z in absurd (none done (omega (arith, a, y)) f))
        (λ z.
        let same : x ≡ last = between (low (eqb-false index 0 z)) (at_least done last x s.least f) in
        absurd (true≢false (e ∙ ap (λ b. b || not (x == last)) z ∙ ap not (ap (λ y. nat_eq x y) (sym same) ∙ eq-eqb x x refl)))))
        (λ f. f)))
      where
        none : (ds : List ℕ) → length ds ≡ 0 → has_place ds x ≡ true → ⊥
        none [] h f = true≢false (sym f)
        none (d ∷ ds) h f = omega (arith, h)

        between : x ≤ last → last ≤ x → x ≡ last
        between a b = omega (arith, a, b)
    counted false e = s.count_is ∙ sym (distinct_push_old done x (by_cases (nat_eq index 0)
        (λ z. absurd (true≢false (sym (e ∙ ap (λ b. b || not (x == last)) z))))
        (λ z. by_cases (nat_eq x last)
        (λ f. ap (has_place done) (eqb-true x last f) ∙ s.last_in (eqb-false index 0 z))
        (λ f. absurd (true≢false (sym (e ∙ ap (λ b. b || not (x == last)) z ∙ ap not f)))))))

-- ---- the literal of a place
pub literal_of_place : (trail : TrailState) (places : List ℕ) (i : ℕ) (x : Literal) → i < length (negated_at trail places) → x ≡ get_or (negated_at trail places) i x → AllByRecursion (λ p. p < length trail.entries) places
    → (get_or places i 0 < length trail.entries) × (literal_at trail (get_or places i 0) ≡ negate x) × (i < length places)
literal_of_place trail [] i x h e w = absurd (omega (arith, h))
literal_of_place trail (p ∷ ps) zero x h e w = (w.0, sym (negate-negate (literal_at trail p)) ∙ ap negate (sym e), omega arith)
literal_of_place trail (p ∷ ps) (suc i) x h e w = let r = literal_of_place trail ps i x (omega (arith, h)) e w.1 in (r.0, r.1, (let less = r.2 in omega (arith, less)))

-- a number of a list that never rises is at most those before it
last_least : (ks : List ℕ) (i d : ℕ) → i < length ks → NeverRises ks → (q : ℕ) → has_place (take i ks) q ≡ true → get_or ks i d ≤ q
last_least [] i d h w q g = absurd (omega (arith, h))
last_least (k ∷ ks) zero d h w q g = absurd (true≢false (sym g))
last_least (k ∷ ks) (suc i) d h w q g = elim (place_split k (take i ks) q g) [
  | inl e ↦ let a = high ks i (omega (arith, h)) w.0 in omega (arith, a, e)
  | inr r ↦ last_least ks i d (omega (arith, h)) w.1 q r
]
  where
    high : (js : List ℕ) (i : ℕ) → i < length js → AllByRecursion (λ j. j ≤ k) js → get_or js i d ≤ k
    high [] i h a = absurd (omega (arith, h))
    high (j ∷ js) zero h a = a.0
    high (j ∷ js) (suc i) h a = high js i (omega (arith, h)) a.1

pub one_level_more : (trail : TrailState) (places : List ℕ) (i level back count last index : ℕ) → NeverRises (levels_at trail places) → i < length places → level ≡ level_at trail (get_or places i 0) → Seen (take i (levels_at trail places)) back count last index
    → (is_new : Bool) → is_new ≡ (index == 0 || not (level == last)) → Seen (take (i + 1) (levels_at trail places)) (if index == 1 then level else back) (if is_new then count + 1 else count) level (index + 1)
one_level_more trail places i level back count last index never_rises h at s is_new new_is =
    let long = length-map places (level_at trail) in
    let inside : i < length (levels_at trail places) = omega (arith, h, long) in
    let here : get_or (levels_at trail places) i 0 ≡ level = get_or-map (level_at trail) places i 0 0 h ∙ sym at in
    let more : take (i + 1) (levels_at trail places) ≡ take i (levels_at trail places) ++ level ∷ [] = take_more (levels_at trail places) i 0 inside ∙ ap (λ x. take i (levels_at trail places) ++ x ∷ []) here in
    subst (λ done. Seen done (if index == 1 then level else back) (if is_new then count + 1 else count) level (index + 1)) (sym more)
    (seen_more (take i (levels_at trail places)) back count last index level s
    (λ n. let a = last_least (levels_at trail places) i 0 inside never_rises last (s.last_in n) in omega (arith, a, here)) is_new new_is)

pub all_seen : (trail : TrailState) (lits : List Literal) (places : List ℕ) (n : ℕ) → ArePlacesOf trail lits places → length lits ≤ n → take n (levels_at trail places) ≡ levels_at trail places
all_seen trail lits places n a h =
    let long : length lits ≡ length places = ap length a.are ∙ length-map places (λ p. negate (literal_at trail p)) in
    take_all n (levels_at trail places) (omega (arith, h, long, length-map places (level_at trail)))
