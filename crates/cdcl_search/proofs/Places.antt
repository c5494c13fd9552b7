-- Places of the code's trail, and the search's entries for them.
use Rattle.std.proofs.Common.{◌≡◌, refl, sym, ap, ◌∙◌, ℕ, zero, suc, ◌+◌, ◌≤◌, nat_le, cond, List, [], ◌∷◌, ◌++◌, length, arith, length-append}
use Rattle.std.proofs.lemmas.Bool.{le-leb}
use Rattle.std.proofs.lemmas.List.{length_push}
use Rattle.cx_trail.specs.declared.entry.Entry.{Entry as TrailEntry}
use Rattle.cx_trail.specs.Sequence.{entry_at}
use Rattle.cx_trail.proofs.ValueLaws.{entry_kept}
use Rattle.search_steps.specs.Trail.{Entry, back_to}
use Rattle.search_steps.specs.Tied.{IsTied}
use Rattle.conflict_learn.proofs.ChainOfResolutions.{by_cases}
use Rattle.search_steps.proofs.Bridge.{entry_last}

pub entry_behind : (before rest : List TrailEntry) (i p : ℕ) → i ≡ length before + p → entry_at (before ++ rest) i ≡ entry_at rest p
entry_behind [] rest i p is = ap (entry_at rest) (omega (arith, is))
entry_behind (x ∷ before) rest zero p is = absurd (omega (arith, is))
entry_behind (x ∷ before) rest (suc i) p is = entry_behind before rest i p (omega (arith, is))

pub tied_length : (es : List Entry) (entries : List TrailEntry) → IsTied es entries → length es ≡ length entries
tied_length [] entries t = sym (ap length t)
tied_length (e ∷ es) entries (before, i, same, lit, lev, t) =
    let l = tied_length es before t in
    let p = length_push before i in
    let q = ap length same in
    omega (arith, l, p, q)

-- the entry of the newest of the older ones
pub older_level : (newer older : List Entry) (e : Entry) (entries : List TrailEntry) → IsTied (newer ++ e ∷ older) entries → e.level ≡ (entry_at entries (length older)).level
older_level [] older e entries (before, i, same, lit, lev, t) =
    sym lev ∙ sym (ap (λ x. x.level) (ap (λ xs. entry_at xs (length older)) same ∙ ap (entry_at (before ++ i ∷ [])) (tied_length older before t) ∙ entry_last before i))
older_level (x ∷ newer) older e entries (before, i, same, lit, lev, t) =
    let l = tied_length (newer ++ e ∷ older) before t in
    let n = length-append newer (e ∷ older) in
    older_level newer older e before t
    ∙ sym (ap (λ x. x.level) (ap (λ xs. entry_at xs (length older)) same ∙ entry_kept before (i ∷ []) (length older) (omega (arith, l, n))))

-- older entries of a level up to k stay in a jump back to it
pub older_stay : (k : ℕ) (newer older : List Entry) → ((e : Entry) (rest : List Entry) → older ≡ e ∷ rest → e.level ≤ k) → (left : List Entry) × (back_to k (newer ++ older) ≡ left ++ older)
older_stay k [] [] low = ([], refl)
older_stay k [] (e ∷ older) low = ([], ap (λ b. cond b (e ∷ older) (back_to k older)) (le-leb e.level k (low e older refl)))
older_stay k (x ∷ newer) older low = by_cases (nat_le x.level k)
    (λ a. (x ∷ newer, ap (λ b. cond b (x ∷ newer ++ older) (back_to k (newer ++ older))) a))
    (λ a. let r = older_stay k newer older low in (r.0, ap (λ b. cond b (x ∷ newer ++ older) (back_to k (newer ++ older))) a ∙ r.1))
