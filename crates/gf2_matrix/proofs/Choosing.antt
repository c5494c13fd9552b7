-- Numbers of parities that say what more of them say.
use Rattle.std.proofs.Common.{◌≡◌, ℕ, ◌+◌, ◌-◌, ◌<◌, ◌≤◌, zero, suc, Bool, true, false, ◌&&◌, cond, List, [], ◌∷◌, ◌++◌, append_assoc, map, take, length, get_or, refl, sym, ap, ◌∙◌, subst, arith, inl, inr, true≢false}
use Rattle.std.specs.List.{AllByRecursion, list_all, range_with_len}
use Rattle.std.proofs.lemmas.Bool.{cases_eq}
use Rattle.std.proofs.lemmas.List.{get_or-map as get_or-map-within}
use Rattle.std.proofs.lemmas.List.Folds.{list_all-append}
use Rattle.std.proofs.lemmas.List.{append-nil, map-append}
use Rattle.cx_base.specs.Literals.{Literal}
use Rattle.cx_base.specs.Problem.{AreWithin, parity_met}
use Rattle.parity_engine.specs.Equations.{parity_number, numbered}
use Rattle.parity_engine.specs.Written.{AreRising}
use Rattle.gf2_matrix.specs.Enough.{SayAll, SayFirst, kept}
use Rattle.gf2_matrix.proofs.FormSums.{every-at}

both : (a b : Bool) → (a && b) ≡ true → (a ≡ true) × (b ≡ true)
both true true h = (refl, refl)
both true false h = absurd (true≢false (sym h))
both false b h = absurd (true≢false (sym h))

-- ---- rising numbers
lower : (low high most : ℕ) (ns : List ℕ) → low ≤ high → AreRising high most ns → AreRising low most ns
lower low high most [] le rise = tt
lower low high most (n ∷ ns) le rise = (let h = rise.0 in omega arith, rise.1, rise.2)

pub rise_to : (least most more : ℕ) (ns : List ℕ) → AreRising least most ns → ((i : ℕ) → i < length ns → get_or ns i 0 ≤ more) → AreRising least more ns
rise_to least most more [] rise high = tt
rise_to least most more (n ∷ ns) rise high = (rise.0, high 0 (omega arith), rise_to (n + 1) most more ns rise.2 (λ i lt. high (suc i) (omega arith)))

rise_push : (least most : ℕ) (ns : List ℕ) → AreRising least most ns → least ≤ most + 1 → AreRising least (most + 1) (ns ++ (most + 1) ∷ [])
rise_push least most [] rise le = (le, omega arith, tt)
rise_push least most (n ∷ ns) rise le = (rise.0, let h = rise.1 in omega arith, rise_push (n + 1) most ns rise.2 (let h = rise.1 in omega arith))

-- ---- the numbers whose marks are set
kept_rise : (least most : ℕ) (ns : List ℕ) (bs : List Bool) → AreRising least most ns → AreRising least most (kept ns bs)
kept_rise least most [] bs rise = tt
kept_rise least most (n ∷ ns) [] rise = tt
kept_rise least most (n ∷ ns) (true ∷ bs) rise = (rise.0, rise.1, kept_rise (n + 1) most ns bs rise.2)
kept_rise least most (n ∷ ns) (false ∷ bs) rise = lower least (n + 1) most (kept ns bs) (let h = rise.0 in omega arith) (kept_rise (n + 1) most ns bs rise.2)

pub kept_more : (ns : List ℕ) (bs : List Bool) (k : ℕ) → k < length ns → k < length bs
    → kept (take (k + 1) ns) (take (k + 1) bs) ≡ kept (take k ns) (take k bs) ++ cond (get_or bs k false) (get_or ns k 0 ∷ []) []
kept_more [] bs k lt lt' = absurd (omega arith)
kept_more (n ∷ ns) [] k lt lt' = absurd (omega arith)
kept_more (n ∷ ns) (b ∷ bs) zero lt lt' = refl
kept_more (n ∷ ns) (b ∷ bs) (suc k) lt lt' =
    let e : suc k + 1 ≡ suc (k + 1) = omega arith in
    rw e (go b (kept_more ns bs k (omega arith) (omega arith)))
  where
    more : List ℕ
    more = cond (get_or bs k false) (get_or ns k 0 ∷ []) []

    go : (c : Bool) → kept (take (k + 1) ns) (take (k + 1) bs) ≡ kept (take k ns) (take k bs) ++ cond (get_or bs k false) (get_or ns k 0 ∷ []) []
        → cond c (n ∷ kept (take (k + 1) ns) (take (k + 1) bs)) (kept (take (k + 1) ns) (take (k + 1) bs))
        ≡ cond c (n ∷ kept (take k ns) (take k bs)) (kept (take k ns) (take k bs)) ++ cond (get_or bs k false) (get_or ns k 0 ∷ []) []
    go true h = ap (λ xs. n ∷ xs) h
    go false h = h

kept_met : (v : List Bool) (given : List (List Literal)) (ns : List ℕ) (bs : List Bool) → list_all (parity_met v) (numbered given (kept ns bs)) ≡ true
    → (i : ℕ) → i < length ns → get_or bs i false ≡ true → parity_met v (parity_number given (get_or ns i 0)) ≡ true
kept_met v given [] bs met i lt on = absurd (omega arith)
kept_met v given (n ∷ ns) [] met i lt on = absurd (true≢false (sym on))
kept_met v given (n ∷ ns) (true ∷ bs) met zero lt on = (both (parity_met v (parity_number given n)) (list_all (parity_met v) (numbered given (kept ns bs))) met).0
kept_met v given (n ∷ ns) (true ∷ bs) met (suc i) lt on =
    kept_met v given ns bs (both (parity_met v (parity_number given n)) (list_all (parity_met v) (numbered given (kept ns bs))) met).1 i (omega arith) on
kept_met v given (n ∷ ns) (false ∷ bs) met zero lt on = absurd (true≢false (sym on))
kept_met v given (n ∷ ns) (false ∷ bs) met (suc i) lt on = kept_met v given ns bs met i (omega arith) on

-- what the marked ones of the parities of the numbers say
pub say_kept : (vars : ℕ) (given : List (List Literal)) (ns : List ℕ) (bs : List Bool) (n : ℕ) → SayFirst vars given ns n → SayAll vars (numbered given ns) bs → SayFirst vars given (kept ns bs) n
say_kept vars given ns bs n first all = record {
  rise = kept_rise 1 n ns bs first.rise;
  enough = λ v long met.
      first.enough v long
      (all.enough v long
      (λ i lt on.
      let small : i < length ns = let l = all.long in let m = length_numbered given ns in omega arith in
      ap (parity_met v) (get_or-map-within (parity_number given) ns i 0 [] small) ∙ kept_met v given ns bs met i small on));
}
  where
    length_numbered : (given : List (List Literal)) (ns : List ℕ) → length (numbered given ns) ≡ length ns
    length_numbered given [] = refl
    length_numbered given (n ∷ ns) = ap suc (length_numbered given ns)

-- ---- the parities of numbers
pub numbered_more : (given : List (List Literal)) (ns : List ℕ) (i : ℕ) → i < length ns
    → numbered given (take (i + 1) ns) ≡ numbered given (take i ns) ++ parity_number given (get_or ns i 0) ∷ []
numbered_more given [] i lt = absurd (omega arith)
numbered_more given (n ∷ ns) zero lt = refl
numbered_more given (n ∷ ns) (suc i) lt =
    let e : suc i + 1 ≡ suc (i + 1) = omega arith in
    rw e (ap (λ xs. parity_number given n ∷ xs) (numbered_more given ns i (omega arith)))

pub within_numbered : (vars : ℕ) (given : List (List Literal)) (least : ℕ) (ns : List ℕ) → AllByRecursion (AreWithin vars) given → 1 ≤ least → AreRising least (length given) ns
    → AllByRecursion (AreWithin vars) (numbered given ns)
within_numbered vars given least [] within low rise = tt
within_numbered vars given least (n ∷ ns) within low rise = (
  every-at (AreWithin vars) given (n - 1) [] within (let h = rise.0 in let g = rise.1 in omega arith),
  within_numbered vars given (n + 1) ns within (omega arith) rise.2,
)

-- ---- more numbers
pub say_none : (vars : ℕ) (given : List (List Literal)) → SayFirst vars given [] 0
say_none vars given = record { rise = tt; enough = λ v long met k lt. absurd (omega arith) }

say_more : (vars : ℕ) (given : List (List Literal)) (ns : List ℕ) (n : ℕ) → SayFirst vars given ns n → SayFirst vars given (ns ++ (n + 1) ∷ []) (n + 1)
say_more vars given ns n first = record {
  rise = rise_push 1 n ns first.rise (omega arith);
  enough = λ v long met k lt.
      let f = parity_number given in
      let p : List Literal → Bool = parity_met v in
      let parts = both (list_all p (map f ns)) (list_all p (map f ((n + 1) ∷ []))) (sym (ap (list_all p) (map-append f ns ((n + 1) ∷ [])) ∙ list_all-append p (map f ns) (map f ((n + 1) ∷ []))) ∙ met) in
      elim (cases_eq k n) [
        | inl same ↦
            let at : k ≡ n + 1 - 1 = omega arith in
            ap (λ j. p (get_or given j [])) at ∙ (both (p (f (n + 1))) true parts.1).0
        | inr ne ↦ first.enough v long parts.0 k (omega arith)
      ];
}

pub say_range : (vars : ℕ) (given : List (List Literal)) (more : ℕ) (ns : List ℕ) (n : ℕ) → SayFirst vars given ns n → SayFirst vars given (ns ++ range_with_len (n + 1) more) (n + more)
say_range vars given zero ns n first =
    let e : n + 0 ≡ n = omega arith in
    rw (append-nil ns, e) first
say_range vars given (suc more) ns n first =
    let e : n + 1 + more ≡ n + suc more = omega arith in
    let together : (ns ++ (n + 1) ∷ []) ++ range_with_len (n + 1 + 1) more ≡ ns ++ range_with_len (n + 1) (suc more) = append_assoc ns ((n + 1) ∷ []) (range_with_len (n + 1 + 1) more) in
    subst (λ m. SayFirst vars given (ns ++ range_with_len (n + 1) (suc more)) m) e
    (subst (λ ms. SayFirst vars given ms (n + 1 + more)) together (say_range vars given more (ns ++ (n + 1) ∷ []) (n + 1) (say_more vars given ns n first)))
