-- The levels of a trail's cells, through a push and a cut.
use Rattle.std.proofs.Common.{◌≡◌, ◌≢◌, ℕ, ◌+◌, ◌-◌, ◌<◌, ◌≤◌, List, take, sym, ap, ◌∙◌, subst, inl, inr, ◌⊎◌, ⊎_elim, arith}
use Rattle.std.proofs.lemmas.Bool.{cases_eq, cases_lt}
use Rattle.cx_trail.specs.declared.entry.Entry.{Entry}
use Rattle.cx_trail.specs.declared.entry.Reason.TheVariants.{Decision}
use Rattle.cx_trail.specs.Sequence.{entry_at}
use Rattle.cx_trail.specs.Cells.{AreLevels}
use Rattle.cx_trail.proofs.CellLaws.{at_take}

-- levels are at most as many as cells
pub level_count : (level len : ℕ) (cells : List Entry) → AreLevels level len cells → level ≤ len
level_count level len cells k = ⊎_elim (λ (z : level < 1). omega arith)
    (λ (p : 1 ≤ level). let w = k.decided level p (omega arith) in omega (arith, w.1, w.2, k.low w.0 w.1)) (cases_lt level 1)

-- the last cell is of the current level
pub last_level : (level len : ℕ) (cells : List Entry) → AreLevels level len cells → 0 < len → (entry_at cells (len - 1)).level ≡ level
last_level level len cells k some = ⊎_elim (λ (z : level < 1). omega (arith, k.top (len - 1) (omega arith)))
    (λ (p : 1 ≤ level). let w = k.decided level p (omega arith) in
    omega (arith, w.2, k.top (len - 1) (omega arith), k.rising w.0 (len - 1) (omega (arith, w.1)) (omega arith))) (cases_lt level 1)

-- one more cell: a decision at the level above, or another at the current one
pub push_levels : (level new_level count : ℕ) (old new : List Entry) (entry : Entry) → AreLevels level count old → take count new ≡ take count old → entry_at new count ≡ entry → entry.level ≡ new_level → level ≤ new_level → new_level ≤ level + 1
    → (level < new_level → entry.reason ≡ Decision) → (0 < new_level → new_level ≡ level → entry.reason ≢ Decision) → AreLevels new_level (count + 1) new
push_levels level new_level count old new entry k same put is_level up step opens stays =
    let whole : (i : ℕ) → i < count → entry_at new i ≡ entry_at old i = λ i h. sym (at_take count i new h) ∙ ap (λ (xs : List Entry). entry_at xs i) same ∙ at_take count i old h in
    let lev : (i : ℕ) → i < count → (entry_at new i).level ≡ (entry_at old i).level = λ i h. ap (λ (x : Entry). x.level) (whole i h) in
    let mine : (entry_at new count).level ≡ new_level = ap (λ (x : Entry). x.level) put ∙ is_level in
    let why : (entry_at new count).reason ≡ entry.reason = ap (λ (x : Entry). x.reason) put in
    let split : (i : ℕ) → i < count + 1 → (i < count) ⊎ (i ≡ count) = λ i h. ⊎_elim (λ (e : i ≡ count). inr e) (λ (ne : i ≢ count). inl (omega arith)) (cases_eq i count) in
    let base : level ≤ count = level_count level count old k in
    record {
      top = λ i h. ⊎_elim (λ (a : i < count). omega (arith, lev i a, k.top i a)) (λ (e : i ≡ count). subst (λ x. (entry_at new x).level ≤ new_level) (sym e) (omega arith)) (split i h);
      rising = λ i j le h. ⊎_elim
          (λ (a : j < count). let b : i < count = omega arith in omega (arith, lev i b, lev j a, k.rising i j le a))
          (λ (e : j ≡ count). subst (λ x. (entry_at new i).level ≤ (entry_at new x).level) (sym e)
          (⊎_elim (λ (a : i < count). omega (arith, lev i a, k.top i a)) (λ (q : i ≡ count). subst (λ x. (entry_at new x).level ≤ (entry_at new count).level) (sym q) (omega arith)) (split i (omega arith)))) (split j h);
      low = λ i h. ⊎_elim (λ (a : i < count). omega (arith, lev i a, k.low i a)) (λ (e : i ≡ count). subst (λ x. (entry_at new x).level ≤ x + 1) (sym e) (omega arith)) (split i h);
      opens = λ i j lt h pos dec. let b : i < count = omega arith in ⊎_elim
          (λ (a : j < count). let pos' : 0 < (entry_at old j).level = omega (arith, lev j a) in
          omega (arith, lev i b, lev j a, k.opens i j lt a pos' (ap (λ (x : Entry). x.reason) (sym (whole j a)) ∙ dec)))
          (λ (e : j ≡ count).
          let dec' : entry.reason ≡ Decision = sym why ∙ subst (λ x. (entry_at new x).reason ≡ Decision) e dec in
          let pos' : 0 < (entry_at new count).level = subst (λ x. 0 < (entry_at new x).level) e pos in
          subst (λ x. (entry_at new i).level < (entry_at new x).level) (sym e)
          (⊎_elim (λ (q : new_level ≡ level). absurd (stays (omega arith) q dec'))
          (λ (nq : new_level ≢ level). omega (arith, lev i b, k.top i b)) (cases_eq new_level level))) (split j h);
      decided = λ n some le. ⊎_elim
          (λ (a : n < level + 1). let w = k.decided n some (omega arith) in
          (w.0, omega (arith, w.1), lev w.0 w.1 ∙ w.2, ap (λ (x : Entry). x.reason) (whole w.0 w.1) ∙ w.3))
          (λ (b : level + 1 ≤ n). let at : n ≡ new_level = omega arith in
          (count, omega arith, mine ∙ sym at, why ∙ opens (omega arith))) (cases_lt n (level + 1));
    }

-- the first m cells, where cell m is of a higher level
pub cut_levels : (level new_level count m : ℕ) (cells : List Entry) → AreLevels level count cells → m ≤ count → new_level ≤ level → (0 < m → (entry_at cells (m - 1)).level ≤ new_level) → ((i : ℕ) → m ≤ i → i < count → new_level < (entry_at cells i).level) → AreLevels new_level m cells
cut_levels level new_level count m cells k few low last_low above =
    record {
      top = λ i h. omega (arith, k.rising i (m - 1) (omega arith) (omega arith), last_low (omega arith));
      rising = λ i j le h. k.rising i j le (omega arith);
      low = λ i h. k.low i (omega arith);
      opens = λ i j lt h. k.opens i j lt (omega arith);
      decided = λ n some le. let w = k.decided n some (omega arith) in
          let inside : w.0 < m = ⊎_elim (λ (h : w.0 < m). h) (λ (h : m ≤ w.0). absurd (omega (arith, above w.0 h w.1, w.2))) (cases_lt w.0 m) in
          (w.0, inside, w.2, w.3);
    }
