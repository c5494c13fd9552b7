-- What a builder keeps from one call to the next.
use Rattle.std.proofs.Common.{◌≡◌, refl, sym, ap, ◌∙◌, subst, ℕ, zero, suc, ◌+◌, ◌-◌, ◌≤◌, List, [], ◌∷◌, ◌++◌, length, take, drop, map, max, append_assoc, append-nil, length-append, length-drop, arith}
use Rattle.std.specs.List.{All, AllByRecursion, fold, flat_map}
use Rattle.std.proofs.lemmas.List.{map-append, drop-append-le, take-append-le, take_all, drop_all}
use Rattle.std.proofs.lemmas.List.Elements.{All-nil, All-head, All-tail, All-push, All-weaker}
use Rattle.std.proofs.lemmas.List.Sums.{fold-append}
use Rattle.std.proofs.lemmas.Grind.{flat_map-append}
use Rattle.cx_base.specs.Literals.{Literal}
use Rattle.cx_base.specs.Problem.{literals_of, greatest_variable, AreWithin, IsWithinVariables}
use Rattle.cx_base.specs.Drafts.{Draft}
use Rattle.cx_base.specs.Heads.{of_kind, stored, AreInside, IsDraft}
use Rattle.cx_base.specs.declared.literal.TheConstants.{MAX_VARIABLE}
use Rattle.cx_base.specs.declared.constraint.Constraint.{Constraint}
use Rattle.cx_base.specs.declared.formula.ConstraintKind.{ConstraintKind}
use Rattle.cx_base.specs.declared.formula.ConstraintKind.TheVariants as kind
use Rattle.cx_base.specs.declared.formula.ConstraintHead.{ConstraintHead}

abbrev EndsBy : ℕ → ConstraintHead → Type 0
EndsBy closed h = h.start + h.len ≤ closed

abbrev variables : List Literal → List ℕ
variables lits = map (λ l. l.variable) lits

-- ---- literals after the closed ones change no constraint

stored_stays : (lits more : List Literal) (h : ConstraintHead) → h.start + h.len ≤ length lits → stored (lits ++ more) h ≡ stored lits h
stored_stays lits more h k =
    let s : h.start ≤ length lits = omega arith in
    let t : h.len ≤ length (drop h.start lits) = omega (arith, length-drop h.start lits) in
    ap (of_kind h.kind) (ap (take h.len) (drop-append-le h.start lits more s) ∙ take-append-le h.len (drop h.start lits) more t)

pub stored_stay : (closed : ℕ) (lits more : List Literal) (heads : List ConstraintHead) → closed ≤ length lits → All (EndsBy closed) heads
    → map (stored (lits ++ more)) heads ≡ map (stored lits) heads
stored_stay closed lits more [] k a = refl
stored_stay closed lits more (h ∷ heads) k a =
    let first : h.start + h.len ≤ closed = All-head (EndsBy closed) h heads a in
    let fits : h.start + h.len ≤ length lits = omega arith in
    (λ i. stored_stays lits more h fits i ∷ stored_stay closed lits more heads k (All-tail (EndsBy closed) h heads a) i)

-- ---- a literal more

greatest_more : (lits : List Literal) (l : Literal) → fold max 0 (variables (lits ++ l ∷ [])) ≡ max (fold max 0 (variables lits)) l.variable
greatest_more lits l = ap (fold max 0) (map-append (λ m. m.variable) lits (l ∷ [])) ∙ fold-append max 0 (variables lits) (l.variable ∷ [])

pub pushed : (largest closed new : ℕ) (lits items : List Literal) (heads : List ConstraintHead) (l : Literal)
    → IsDraft largest closed lits heads → 1 ≤ l.variable → l.variable ≤ MAX_VARIABLE → items ≡ lits ++ l ∷ [] → new ≡ max largest l.variable → IsDraft new closed items heads
pushed largest closed new lits items heads l d low high e n =
    subst (λ (xs : List Literal). IsDraft new closed xs heads) (sym e)
    (record {
      inside = d.inside;
      reach = let k : closed ≤ length lits = d.reach in omega (arith, length-append lits (l ∷ []));
      whole = (λ i. flat_map literals_of (stored_stay closed lits (l ∷ []) heads d.reach d.inside i) ++ drop-append-le closed lits (l ∷ []) d.reach i)
          ∙ sym (append_assoc (flat_map literals_of (map (stored lits) heads)) (drop closed lits) (l ∷ []))
          ∙ ap (λ xs. xs ++ l ∷ []) d.whole;
      greatest = n ∙ ap (λ m. max m l.variable) d.greatest ∙ sym (greatest_more lits l);
      few = let k : largest ≤ MAX_VARIABLE = d.few in omega arith;
      positive = All-push (λ m. 1 ≤ m.variable) lits l d.positive low;
    })

pub pushed_view : (largest closed : ℕ) (lits items : List Literal) (heads : List ConstraintHead) (l : Literal)
    → IsDraft largest closed lits heads → items ≡ lits ++ l ∷ []
    → ◌≡◌ {A = Draft} (record { constraints = map (stored items) heads; unfinished = drop closed items }) (record { constraints = map (stored lits) heads; unfinished = drop closed lits ++ l ∷ [] })
pushed_view largest closed lits items heads l d e =
    ap {B = Draft} (λ xs. record { constraints = map (stored xs) heads; unfinished = drop closed xs }) e
    ∙ (λ i. record { constraints = stored_stay closed lits (l ∷ []) heads d.reach d.inside i; unfinished = drop-append-le closed lits (l ∷ []) d.reach i })

-- ---- a constraint more

literals_of-of_kind : (k : ConstraintKind) (lits : List Literal) → literals_of (of_kind k lits) ≡ lits
literals_of-of_kind kind.Clause lits = refl
literals_of-of_kind kind.Parity lits = refl
literals_of-of_kind kind.Assume lits = refl

pub rest_is_stored : (closed len : ℕ) (lits : List Literal) (k : ConstraintKind) → closed ≤ length lits → len ≡ length lits - closed
    → stored lits (record { kind = k; start = closed; len = len }) ≡ of_kind k (drop closed lits)
rest_is_stored closed len lits k h e = ap (of_kind k) (take_all len (drop closed lits) (omega (arith, length-drop closed lits)))

pub ended : (largest closed len end : ℕ) (lits : List Literal) (heads grown : List ConstraintHead) (k : ConstraintKind)
    → IsDraft largest closed lits heads → len ≡ length lits - closed → end ≡ length lits → grown ≡ heads ++ record { kind = k; start = closed; len = len } ∷ [] → IsDraft largest end lits grown
ended largest closed len end lits heads grown k d e f g =
    let head : ConstraintHead = record { kind = k; start = closed; len = len } in
    let reach : closed ≤ length lits = d.reach in
    let here : closed + len ≤ end = omega arith in
    subst (λ (hs : List ConstraintHead). IsDraft largest end lits hs) (sym g)
    (record {
      inside = All-push (EndsBy end) heads head (All-weaker (EndsBy closed) (EndsBy end) (λ h q. omega arith) heads d.inside) here;
      reach = omega arith;
      whole =
          (λ i. flat_map literals_of (map-append (stored lits) heads (head ∷ []) i) ++ drop_all end lits (omega arith) i)
          ∙ append-nil (flat_map literals_of (map (stored lits) heads ++ stored lits head ∷ []))
          ∙ flat_map-append literals_of (map (stored lits) heads) (stored lits head ∷ [])
          ∙ (λ i. flat_map literals_of (map (stored lits) heads) ++ (literals_of (rest_is_stored closed len lits k reach e i) ++ []))
          ∙ (λ i. flat_map literals_of (map (stored lits) heads) ++ append-nil (literals_of-of_kind k (drop closed lits) i) i)
          ∙ d.whole;
      greatest = d.greatest;
      few = d.few;
      positive = d.positive;
    })

pub ended_view : (largest closed len end : ℕ) (lits : List Literal) (heads grown : List ConstraintHead) (k : ConstraintKind)
    → IsDraft largest closed lits heads → len ≡ length lits - closed → end ≡ length lits → grown ≡ heads ++ record { kind = k; start = closed; len = len } ∷ []
    → ◌≡◌ {A = Draft} (record { constraints = map (stored lits) grown; unfinished = drop end lits }) (record { constraints = map (stored lits) heads ++ of_kind k (drop closed lits) ∷ []; unfinished = [] })
ended_view largest closed len end lits heads grown k d e f g =
    (λ i. record {
      constraints = (ap (map (stored lits)) g ∙ map-append (stored lits) heads (record { kind = k; start = closed; len = len } ∷ [])
          ∙ ap (λ c. map (stored lits) heads ++ c ∷ []) (rest_is_stored closed len lits k d.reach e)) i;
      unfinished = drop_all end lits (omega arith) i;
    })

-- ---- nothing yet

pub nothing_drafted : (lits : List Literal) (heads : List ConstraintHead) → lits ≡ [] → heads ≡ [] → IsDraft 0 0 lits heads
nothing_drafted lits heads e f = subst (λ (xs : List Literal). IsDraft 0 0 xs heads) (sym e) (subst (λ (hs : List ConstraintHead). IsDraft 0 0 [] hs) (sym f)
    (record { inside = All-nil (EndsBy 0); reach = omega arith; whole = refl; greatest = refl; few = omega arith; positive = All-nil (λ l. 1 ≤ l.variable) }))

-- ---- the open literals have variables up to the greatest

max_out : (v : ℕ) (xs : List ℕ) → fold max v xs ≡ max v (fold max 0 xs)
max_out v [] = omega arith
max_out v (x ∷ xs) = let a : fold max (max v x) xs ≡ max (max v x) (fold max 0 xs) = max_out (max v x) xs in let b : fold max (max 0 x) xs ≡ max (max 0 x) (fold max 0 xs) = max_out (max 0 x) xs in omega arith

abbrev IsUpTo : ℕ → Literal → Type 0
IsUpTo n l = (1 ≤ l.variable) × (l.variable ≤ n)

up_to_greatest : (lits : List Literal) → All (λ l. 1 ≤ l.variable) lits → (n : ℕ) → fold max 0 (variables lits) ≤ n → AllByRecursion (IsUpTo n) lits
up_to_greatest [] p n h = tt
up_to_greatest (l ∷ lits) p n h =
    let low : 1 ≤ l.variable = All-head (λ m. 1 ≤ m.variable) l lits p in
    let out : fold max (max 0 l.variable) (variables lits) ≡ max (max 0 l.variable) (fold max 0 (variables lits)) = max_out (max 0 l.variable) (variables lits) in
    ((low, omega arith), up_to_greatest lits (All-tail (λ m. 1 ≤ m.variable) l lits p) n (omega arith))

within_behind : (n k : ℕ) (lits : List Literal) → AreWithin n lits → AreWithin n (drop k lits)
within_behind n zero lits a = a
within_behind n (suc k) [] a = tt
within_behind n (suc k) (l ∷ lits) a = within_behind n k lits a.1

pub open_within : (largest closed : ℕ) (lits : List Literal) (heads : List ConstraintHead) → IsDraft largest closed lits heads → AreWithin largest (drop closed lits)
open_within largest closed lits heads d = within_behind largest closed lits (up_to_greatest lits d.positive largest (let g : largest ≡ fold max 0 (variables lits) = d.greatest in omega arith))

-- a slice of them
pub open_slice : (closed : ℕ) (lits seen : List Literal) → closed ≤ length lits → seen ≡ lits → take (length seen - closed) (drop closed seen) ≡ drop closed lits
open_slice closed lits seen h e = ap (λ xs. take (length xs - closed) (drop closed xs)) e ∙ take_all (length lits - closed) (drop closed lits) (omega (arith, length-drop closed lits))

-- ---- the whole formula

split_front : (P : Literal → Type 0) (xs ys : List Literal) → AllByRecursion P (xs ++ ys) → AllByRecursion P xs × AllByRecursion P ys
split_front P [] ys a = (tt, a)
split_front P (x ∷ xs) ys a = let r = split_front P xs ys a.1 in ((a.0, r.0), r.1)

each_within : (n : ℕ) (cs : List Constraint) → AllByRecursion (IsUpTo n) (flat_map literals_of cs) → AllByRecursion (λ c. AreWithin n (literals_of c)) cs
each_within n [] a = tt
each_within n (c ∷ cs) a = let r = split_front (IsUpTo n) (literals_of c) (flat_map literals_of cs) a in (r.0, each_within n cs r.1)

pub finished : (largest closed at_least : ℕ) (lits : List Literal) (heads : List ConstraintHead) → IsDraft largest closed lits heads → drop closed lits ≡ [] → at_least ≤ MAX_VARIABLE
    → IsWithinVariables (max at_least largest) (map (stored lits) heads) × AreInside lits heads
finished largest closed at_least lits heads d e b =
    let few : largest ≤ MAX_VARIABLE = d.few in
    let all : flat_map literals_of (map (stored lits) heads) ≡ lits = sym (append-nil (flat_map literals_of (map (stored lits) heads))) ∙ ap (λ xs. flat_map literals_of (map (stored lits) heads) ++ xs) (sym e) ∙ d.whole in
    let most : fold max 0 (variables lits) ≤ max at_least largest = let g : largest ≡ fold max 0 (variables lits) = d.greatest in omega arith in
    let reach : closed ≤ length lits = d.reach in (
      (
        omega arith,
        each_within (max at_least largest) (map (stored lits) heads)
            (subst (λ (xs : List Literal). AllByRecursion (IsUpTo (max at_least largest)) xs) (sym all) (up_to_greatest lits d.positive (max at_least largest) most)),
      ),
      All-weaker (EndsBy closed) (EndsBy (length lits)) (λ h q. omega arith) heads d.inside,
    )

pub finished_greatest : (largest closed at_least : ℕ) (lits : List Literal) (heads : List ConstraintHead) → IsDraft largest closed lits heads → drop closed lits ≡ []
    → max at_least largest ≡ greatest_variable at_least (map (stored lits) heads)
finished_greatest largest closed at_least lits heads d e =
    let all : flat_map literals_of (map (stored lits) heads) ≡ lits = sym (append-nil (flat_map literals_of (map (stored lits) heads))) ∙ ap (λ xs. flat_map literals_of (map (stored lits) heads) ++ xs) (sym e) ∙ d.whole in
    ap (max at_least) d.greatest ∙ sym (max_out at_least (variables lits)) ∙ ap (λ xs. fold max at_least (variables xs)) (sym all)
