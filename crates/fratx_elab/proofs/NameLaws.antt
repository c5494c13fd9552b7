-- Ids that stand for themselves, and ids that are renamed one by one.
use Rattle.std.proofs.Common.{◌≡◌, refl, sym, ap, ◌∙◌, subst, ℕ, ℤ, pos, List, [], ◌∷◌, map, filter_map, negsuc, zero, suc, set, take, Option, Some, None, is_some, IsTrue, false, true≢false, nat_abs, arith, ◌≢◌, ◌≤◌, ◌++◌, ◌+◌, ◌<◌, length, get_or, drop, drop-cons, add-one, append_assoc, append-nil}
use Rattle.std.proofs.lemmas.List.{drop_all, drop_more, drop-set-lt, take_more_set}
use Rattle.std.specs.List.{AllByRecursion, cons_option, list_any}
use Rattle.cx_base.specs.Integers.{is_negative, sizes}
use Rattle.cx_base.specs.Numbers.{AreStepIntegers}
use Rattle.cx_semantics.specs.LogRules.{AreLive}
use Rattle.cx_semantics.specs.Tables.{Table, is_live}
use Rattle.fratx_elab.specs.declared.naming.TheConstants.{MAX_ID}
use Rattle.fratx_elab.specs.Names.{Naming, stands_for, hints_for, AreNamed, StandForThemselves, StandForProofIds, IsProofId}

-- what stands for an id that is named is the id
itself : (o : Option ℕ) (n : ℕ) (ns : List ℕ) → IsTrue (is_some o) → ((p : ℕ) → o ≡ Some p → p ≡ n) → cons_option o ns ≡ n ∷ ns
itself None n ns h e = absurd (true≢false (sym h))
itself (Some p) n ns h e = ap (λ m. m ∷ ns) (e p refl)

pub hints_themselves : (naming : Naming) (ids : List ℕ) → StandForThemselves naming → AreNamed naming ids → map pos ids ≡ hints_for naming ids
hints_themselves naming [] h named = refl
hints_themselves naming (n ∷ ids) h (here, named) =
    ap (λ zs. pos n ∷ zs) (hints_themselves naming ids h named)
    ∙ sym (ap (map pos) (itself (stands_for naming n) n (filter_map (stands_for naming) ids) here (h n)))

-- ids that a proof may have can be in its text
pub ids_step : (ids : List ℕ) → AllByRecursion IsProofId ids → AreStepIntegers (map pos ids)
ids_step [] h = tt
ids_step (n ∷ ids) (here, h) = (((λ e. absurd (let z : n ≡ 0 = ap nat_abs e in let l = here.0 in omega (arith, z, l))), here.1), ids_step ids h)

-- named ids that stand for themselves are such
pub themselves_within : (naming : Naming) (ids : List ℕ) → StandForThemselves naming → StandForProofIds naming → AreNamed naming ids → AllByRecursion IsProofId ids
themselves_within naming [] same within named = tt
themselves_within naming (n ∷ ids) same within (here, named) = (go (stands_for naming n) refl here, themselves_within naming ids same within named)
  where
    go : (o : Option ℕ) → stands_for naming n ≡ o → IsTrue (is_some o) → IsProofId n
    go None is h = absurd (true≢false (sym h))
    go (Some p) is h = subst IsProofId (same n p is) (within n p is)

-- a list of hints none of which is negative
plain : (zs : List ℤ) → list_any is_negative zs ≡ false → zs ≡ map pos (sizes zs)
plain [] h = refl
plain (pos n ∷ zs) h = ap (λ ys. pos n ∷ ys) (plain zs h)
plain (negsuc n ∷ zs) h = absurd (true≢false h)

pub hints_stay : (naming : Naming) (hints : List ℤ) → StandForThemselves naming → AreNamed naming (sizes hints) → list_any is_negative hints ≡ false → hints ≡ hints_for naming (sizes hints)
hints_stay naming hints h named n = plain hints n ∙ hints_themselves naming (sizes hints) h named

-- the hints for the ids from a place on
named_here : (naming : Naming) (ids : List ℕ) (k : ℕ) → k < length ids → hints_for naming (drop k ids) ≡ map pos (cons_option (stands_for naming (get_or ids k 0)) (filter_map (stands_for naming) (drop (k + 1) ids)))
named_here naming ids k less = let e : drop k ids ≡ get_or ids k 0 ∷ drop (k + 1) ids = rw (add-one, drop-cons ids k 0) in ap (hints_for naming) e

-- one more id is renamed
pub renamed_next : (naming : Naming) (ids : List ℕ) (k p : ℕ) (hints whole : List ℤ) → k < length ids → Some p ≡ stands_for naming (get_or ids k 0) → hints ++ hints_for naming (drop k ids) ≡ whole
    → (hints ++ pos p ∷ []) ++ hints_for naming (drop (k + 1) ids) ≡ whole
renamed_next naming ids k p hints whole less is before =
    append_assoc hints (pos p ∷ []) (hints_for naming (drop (k + 1) ids))
    ∙ ap (λ zs. hints ++ zs) (ap (λ o. map pos (cons_option o (filter_map (stands_for naming) (drop (k + 1) ids)))) is ∙ sym (named_here naming ids k less)) ∙ before

-- an id for which nothing stands is left out
pub left_out_next : (naming : Naming) (ids : List ℕ) (k : ℕ) (hints whole : List ℤ) → k < length ids → None ≡ stands_for naming (get_or ids k 0) → hints ++ hints_for naming (drop k ids) ≡ whole
    → hints ++ hints_for naming (drop (k + 1) ids) ≡ whole
left_out_next naming ids k hints whole less is before =
    ap (λ zs. hints ++ zs) (ap (λ o. map pos (cons_option o (filter_map (stands_for naming) (drop (k + 1) ids)))) is ∙ sym (named_here naming ids k less)) ∙ before

-- one more integer that a step may have
pub proper_next : (hints : List ℤ) (z : ℤ) → z ≢ pos 0 → nat_abs z ≤ MAX_ID → AreStepIntegers hints → AreStepIntegers (hints ++ z ∷ [])
proper_next [] z some within proper = ((some, within), tt)
proper_next (y ∷ hints) z some within (here, proper) = (here, proper_next hints z some within proper)

-- what is live is named
pub named_as_live : (table : Table) (naming : Naming) → ((n : ℕ) → is_live table n ≡ is_some (stands_for naming n)) → (ids : List ℕ) → AreLive table ids → AreNamed naming ids
named_as_live table naming keyed [] h = tt
named_as_live table naming keyed (n ∷ ids) (here, h) = (sym (keyed n) ∙ here, named_as_live table naming keyed ids h)

-- ---- hints that are renamed in their own list, of which the first `kept` are done and those from a place on wait

-- the hints for what waits
waiting_here : (naming : Naming) (hints : List ℤ) (place : ℕ) → place < length hints
    → hints_for naming (sizes (drop place hints)) ≡ map pos (cons_option (stands_for naming (nat_abs (get_or hints place (pos 0)))) (filter_map (stands_for naming) (sizes (drop (place + 1) hints))))
waiting_here naming hints place less = ap (λ (zs : List ℤ). hints_for naming (sizes zs)) (drop_more hints place (pos 0) less)

pub renamed_in_place : (naming : Naming) (hints : List ℤ) (place kept p : ℕ) (whole : List ℤ) → place < length hints → kept ≤ place → Some p ≡ stands_for naming (nat_abs (get_or hints place (pos 0)))
    → take kept hints ++ hints_for naming (sizes (drop place hints)) ≡ whole
    → take (kept + 1) (set hints kept (pos p)) ++ hints_for naming (sizes (drop (place + 1) (set hints kept (pos p)))) ≡ whole
renamed_in_place naming hints place kept p whole less before is so_far =
    let done = take_more_set hints kept (pos p) (omega arith) in
    let rest = drop-set-lt (place + 1) hints kept (pos p) (omega arith) in
    (λ i. done i ++ hints_for naming (sizes (rest i)))
    ∙ append_assoc (take kept hints) (pos p ∷ []) (hints_for naming (sizes (drop (place + 1) hints)))
    ∙ ap (λ zs. take kept hints ++ zs) (ap (λ o. map pos (cons_option o (filter_map (stands_for naming) (sizes (drop (place + 1) hints))))) is ∙ sym (waiting_here naming hints place less)) ∙ so_far

pub left_out_in_place : (naming : Naming) (hints : List ℤ) (place kept : ℕ) (whole : List ℤ) → place < length hints → None ≡ stands_for naming (nat_abs (get_or hints place (pos 0)))
    → take kept hints ++ hints_for naming (sizes (drop place hints)) ≡ whole → take kept hints ++ hints_for naming (sizes (drop (place + 1) hints)) ≡ whole
left_out_in_place naming hints place kept whole less is so_far =
    ap (λ zs. take kept hints ++ zs) (ap (λ o. map pos (cons_option o (filter_map (stands_for naming) (sizes (drop (place + 1) hints))))) is ∙ sym (waiting_here naming hints place less)) ∙ so_far

-- none waits
pub all_renamed : (naming : Naming) (hints : List ℤ) (place kept : ℕ) (whole : List ℤ) → length hints ≤ place → take kept hints ++ hints_for naming (sizes (drop place hints)) ≡ whole → take kept hints ≡ whole
all_renamed naming hints place kept whole past so_far =
    sym (append-nil (take kept hints)) ∙ ap (λ (zs : List ℤ). take kept hints ++ hints_for naming (sizes zs)) (sym (drop_all place hints past)) ∙ so_far

-- an integer that a step may have comes in the place of another
pub proper_in_place : (hints : List ℤ) (k : ℕ) (z : ℤ) → z ≢ pos 0 → nat_abs z ≤ MAX_ID → AreStepIntegers hints → AreStepIntegers (set hints k z)
proper_in_place [] k z some within proper = tt
proper_in_place (y ∷ hints) zero z some within (here, proper) = ((some, within), proper)
proper_in_place (y ∷ hints) (suc k) z some within (here, proper) = (here, proper_in_place hints k z some within proper)
