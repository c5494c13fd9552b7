-- The group at a place.
use Rattle.std.proofs.Common.{◌≡◌, refl, sym, ap, ◌∙◌, subst, ℕ, zero, suc, ◌+◌, ◌-◌, ◌*◌, ◌%◌, ◌^◌, ◌<◌, ◌≤◌, Bool, false, cond, ◌&&◌, List, [], ◌∷◌, length, get_or, take, drop, map, arith, Some, None, length-drop, lit≤}
use Rattle.std.specs.Prelude.{nat_le}
use Rattle.std.proofs.lemmas.List.{drop-map, take-map, length-map}
use Rattle.std.proofs.Math.Seq.{drop-cons}
use Rattle.std.proofs.lemmas.Bool.{le-leb, lt-leb, and_left}
use Rattle.xor_recover.specs.declared.entry.ClauseEntry.{ClauseEntry}
use Rattle.xor_recover.specs.Entries.{row_of}
use Rattle.xor_recover.specs.Groups.{group_of, needed, same_key}

pub power_small : (k : ℕ) → 1 ≤ k → k ≤ 6 → 1 * 2 ^ (k - 1) % 18446744073709551616 ≡ 2 ^ (k - 1)
power_small zero h g = absurd (omega arith)
power_small (suc zero) h g = refl
power_small (suc (suc zero)) h g = refl
power_small (suc (suc (suc zero))) h g = refl
power_small (suc (suc (suc (suc zero)))) h g = refl
power_small (suc (suc (suc (suc (suc zero))))) h g = refl
power_small (suc (suc (suc (suc (suc (suc zero)))))) h g = refl
power_small (suc (suc (suc (suc (suc (suc (suc k))))))) h g = absurd (omega arith)

pub power_low : (k : ℕ) → 1 ≤ k → k ≤ 6 → 1 ≤ 2 ^ (k - 1)
power_low zero h g = absurd (omega arith)
power_low (suc zero) h g = lit≤ tt
power_low (suc (suc zero)) h g = lit≤ tt
power_low (suc (suc (suc zero))) h g = lit≤ tt
power_low (suc (suc (suc (suc zero)))) h g = lit≤ tt
power_low (suc (suc (suc (suc (suc zero))))) h g = lit≤ tt
power_low (suc (suc (suc (suc (suc (suc zero)))))) h g = lit≤ tt
power_low (suc (suc (suc (suc (suc (suc (suc k))))))) h g = absurd (omega arith)

pub at_any : {X : Type 0} (xs : List X) (k : ℕ) (d e : X) → k < length xs → get_or xs k d ≡ get_or xs k e
at_any [] k d e lt = absurd (omega arith)
at_any (x ∷ xs) zero d e lt = refl
at_any (x ∷ xs) (suc k) d e lt = at_any xs k d e (omega arith)

at_map : (xs : List ClauseEntry) (k : ℕ) (e : ClauseEntry) → get_or (map row_of xs) k (row_of e) ≡ row_of (get_or xs k e)
at_map [] k e = refl
at_map (x ∷ xs) zero e = refl
at_map (x ∷ xs) (suc k) e = at_map xs k e

at_drop : {X : Type 0} (xs : List X) (i k : ℕ) (d : X) → get_or (drop i xs) k d ≡ get_or xs (i + k) d
at_drop xs zero k d = let e : k ≡ 0 + k = omega arith in ap (λ n. get_or xs n d) e
at_drop [] (suc i) k d = refl
at_drop (x ∷ xs) (suc i) k d = at_drop xs i k d ∙ (let e : suc (i + k) ≡ suc i + k = omega arith in ap (λ n. get_or (x ∷ xs) n d) e)

group_from : (xs : List ClauseEntry) (start : ℕ) (e : ClauseEntry) (enough : Bool) → start < length xs → e ≡ get_or xs start e
    → enough ≡ (nat_le (needed (row_of e)) (length (drop start xs)) && same_key (row_of (get_or xs (start + (needed (row_of e) - 1)) e)) (row_of e))
    → group_of (drop start (map row_of xs)) ≡ cond enough (Some (map row_of (take (needed (row_of e)) (drop start xs)))) None
unfolding group_of
group_from xs start e enough lt is test =
    let n = needed (row_of e) in
    let here : drop start xs ≡ e ∷ drop (suc start) xs = drop-cons xs start e lt ∙ ap (λ x. x ∷ drop (suc start) xs) (sym is) in
    ap group_of (drop-map row_of start xs ∙ ap (map row_of) here)
    ∙ (λ i. cond (nat_le n (length-map (e ∷ drop (suc start) xs) row_of i) && same_key (at_map (e ∷ drop (suc start) xs) (n - 1) e i) (row_of e)) (Some (take-map row_of n (e ∷ drop (suc start) xs) i)) None)
    ∙ (λ i. cond (nat_le n (length (sym here i)) && same_key (row_of (get_or (sym here i) (n - 1) e)) (row_of e)) (Some (map row_of (take n (sym here i)))) None)
    ∙ ap (λ x. cond (nat_le n (length (drop start xs)) && same_key (row_of x) (row_of e)) (Some (map row_of (take n (drop start xs)))) None) (at_drop xs start (n - 1) e)
    ∙ ap (λ b. cond b (Some (map row_of (take n (drop start xs)))) None) (sym test)

pub group_found : (xs : List ClauseEntry) (start k stop : ℕ) (e last : ClauseEntry) (same : Bool) → start < length xs → e ≡ get_or xs start e → k ≡ length e.key.vars.items → 1 ≤ k → k ≤ 6
    → stop ≡ start + 1 * 2 ^ (k - 1) % 18446744073709551616 → stop ≤ length xs → last ≡ get_or xs (stop - 1) last → same ≡ same_key (row_of last) (row_of e)
    → group_of (drop start (map row_of xs)) ≡ cond same (Some (map row_of (take (stop - start) (drop start xs)))) None
group_found xs start k stop e last same lt is wide low high ends within at test =
    let n = needed (row_of e) in
    let count : 1 * 2 ^ (k - 1) % 18446744073709551616 ≡ n = power_small k low high ∙ ap (λ m. 2 ^ (m - 1)) wide in
    let positive : 1 ≤ n = subst (λ m. 1 ≤ 2 ^ (m - 1)) wide (power_low k low high) in
    let long : length (drop start xs) ≡ length xs - start = length-drop start xs in
    let room : n ≤ length (drop start xs) = omega arith in
    let place : stop - 1 ≡ start + (n - 1) = omega arith in
    let inside : start + (n - 1) < length xs = omega arith in
    let last_is : last ≡ get_or xs (start + (n - 1)) e = at ∙ ap (λ m. get_or xs m last) place ∙ at_any xs (start + (n - 1)) last e inside in
    let size : n ≡ stop - start = omega arith in
    group_from xs start e same lt is (test ∙ (λ i. sym (le-leb n (length (drop start xs)) room) i && same_key (row_of (last_is i)) (row_of e)))
    ∙ ap (λ m. cond same (Some (map row_of (take m (drop start xs)))) None) size

pub group_missing : (xs : List ClauseEntry) (start k stop : ℕ) (e : ClauseEntry) → start < length xs → e ≡ get_or xs start e → k ≡ length e.key.vars.items → 1 ≤ k → k ≤ 6
    → stop ≡ start + 1 * 2 ^ (k - 1) % 18446744073709551616 → length xs < stop → group_of (drop start (map row_of xs)) ≡ None
group_missing xs start k stop e lt is wide low high ends beyond =
    let n = needed (row_of e) in
    let count : 1 * 2 ^ (k - 1) % 18446744073709551616 ≡ n = power_small k low high ∙ ap (λ m. 2 ^ (m - 1)) wide in
    let long : length (drop start xs) ≡ length xs - start = length-drop start xs in
    let few : length (drop start xs) < n = omega arith in
    group_from xs start e false lt is (sym (and_left _ _ (lt-leb n (length (drop start xs)) few)))
