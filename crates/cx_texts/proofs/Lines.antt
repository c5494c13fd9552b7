-- The lines of a text, one byte, one run or one line at a time.
use Rattle.std.proofs.Common.{◌≡◌, ◌≢◌, refl, sym, ap, ◌∙◌, subst, ℕ, ◌+◌, Bool, true, false, cond, ◌||◌, List, [], ◌∷◌, ◌++◌, length, arith, true≢false, add-zero, ◌==◌}
use Rattle.std.specs.List.{onto_first, enumerate_from, AllByRecursion}
use Rattle.cx_texts.specs.Tokens.{is_blank, lines_from, NoBlank, EndsRun}

abbrev pub Line : Type 0
Line = List (ℕ × ℕ)

-- ---- one byte

pub lines-byte : (n b : ℕ) (bs : List ℕ) → (b == 10) ≡ false → lines_from n (b ∷ bs) ≡ onto_first (n, b) (lines_from (n + 1) bs)
lines-byte n b bs h = ap (λ x. cond x ([] ∷ lines_from (n + 1) bs) (onto_first (n, b) (lines_from (n + 1) bs))) h

pub lines-feed : (n b : ℕ) (bs : List ℕ) → (b == 10) ≡ true → lines_from n (b ∷ bs) ≡ [] ∷ lines_from (n + 1) bs
lines-feed n b bs h = ap (λ x. cond x ([] ∷ lines_from (n + 1) bs) (onto_first (n, b) (lines_from (n + 1) bs))) h

pub some_lines : (n : ℕ) (bs : List ℕ) → lines_from n bs ≢ []
some_lines n [] e = cc
some_lines n (b ∷ bs) e = go (b == 10) (lines_from (n + 1) bs) e
  where
    go : (x : Bool) (ls : List Line) → cond x ([] ∷ ls) (onto_first (n, b) ls) ≡ [] → ⊥
    go true ls e = cc
    go false [] e = cc
    go false (l ∷ ls) e = cc

-- ---- a run

-- the bytes put before the first list of a list of lists
abbrev pub ahead : Line → List Line → List Line
ahead xs [] = xs ∷ []
ahead xs (l ∷ ls) = (xs ++ l) ∷ ls

pub not_feed : (b : ℕ) → is_blank b ≡ false → (b == 10) ≡ false
not_feed b h = go (b == 32) (b == 9) (b == 13) (b == 10) h
  where
    go : (x y z w : Bool) → (((x || y) || z) || w) ≡ false → w ≡ false
    go true y z w e = absurd (true≢false e)
    go false true z w e = absurd (true≢false e)
    go false false true w e = absurd (true≢false e)
    go false false false w e = e

pub ahead_more : (x : ℕ × ℕ) (xs : Line) (lines : List Line) → onto_first x (ahead xs lines) ≡ ahead (x ∷ xs) lines
ahead_more x xs [] = refl
ahead_more x xs (l ∷ ls) = refl

nothing_ahead : (ls : List Line) → ls ≢ [] → ls ≡ ahead [] ls
nothing_ahead [] s = absurd (s refl)
nothing_ahead (l ∷ ls) s = refl

pub lines-run : (n : ℕ) (run rest : List ℕ) → NoBlank run → lines_from n (run ++ rest) ≡ ahead (enumerate_from n run) (lines_from (n + length run) rest)
lines-run n [] rest h = nothing_ahead (lines_from n rest) (some_lines n rest) ∙ ap (λ m. ahead [] (lines_from m rest)) (sym (add-zero n))
lines-run n (b ∷ run) rest h =
    let e : (n + 1) + length run ≡ n + length (b ∷ run) = omega arith in
    lines-byte n b (run ++ rest) (not_feed b h.0)
    ∙ ap (onto_first (n, b)) (lines-run (n + 1) run rest h.1)
    ∙ ahead_more (n, b) (enumerate_from (n + 1) run) (lines_from ((n + 1) + length run) rest)
    ∙ ap (λ m. ahead (enumerate_from n (b ∷ run)) (lines_from m rest)) e

-- a line that is blank first, or empty, gives its first piece as the empty one
abbrev pub StartsBlank : Line → Type 0
StartsBlank [] = Unit {0}
StartsBlank (c ∷ line) = is_blank c.1 ≡ true

pub rest_blank : (n : ℕ) (rest : List ℕ) → EndsRun rest → (line : Line) (lines : List Line) → lines_from n rest ≡ line ∷ lines → StartsBlank line
rest_blank n [] h line lines e = subst StartsBlank (first e) tt
  where
    first : ◌≡◌ {A = List Line} ([] ∷ []) (line ∷ lines) → [] ≡ line
    first e = cc
rest_blank n (b ∷ rest) h line lines e = go (b == 10) (lines_from (n + 1) rest) e
  where
    go : (x : Bool) (ls : List Line) → cond x ([] ∷ ls) (onto_first (n, b) ls) ≡ line ∷ lines → StartsBlank line
    go true ls e = let k : [] ≡ line = cc in subst StartsBlank k tt
    go false [] e = let k : (n, b) ∷ [] ≡ line = cc in subst StartsBlank k h
    go false (l ∷ ls) e = let k : (n, b) ∷ l ≡ line = cc in subst StartsBlank k h

-- ---- a line

abbrev pub NoFeed : List ℕ → Type 0
NoFeed line = AllByRecursion (λ b. (b == 10) ≡ false) line

pub lines-line : (m : ℕ) (l rest : List ℕ) → NoFeed l → lines_from m (l ++ 10 ∷ rest) ≡ enumerate_from m l ∷ lines_from ((m + length l) + 1) rest
lines-line m [] rest k = let e : m + 1 ≡ (m + 0) + 1 = omega arith in ap (λ i. [] ∷ lines_from i rest) e
lines-line m (b ∷ l) rest k =
    let e : ((m + 1) + length l) + 1 ≡ (m + length (b ∷ l)) + 1 = omega arith in
    lines-byte m b (l ++ 10 ∷ rest) k.0 ∙ ap (onto_first (m, b)) (lines-line (m + 1) l rest k.1) ∙ ap (λ i. enumerate_from m (b ∷ l) ∷ lines_from i rest) e

pub lines-last : (m : ℕ) (l : List ℕ) → NoFeed l → lines_from m l ≡ enumerate_from m l ∷ []
lines-last m [] k = refl
lines-last m (b ∷ l) k = lines-byte m b l k.0 ∙ ap (onto_first (m, b)) (lines-last (m + 1) l k.1)

pub enumerate-append : (n : ℕ) (xs ys : List ℕ) → enumerate_from n (xs ++ ys) ≡ enumerate_from n xs ++ enumerate_from (n + length xs) ys
enumerate-append n [] ys = ap (λ m. enumerate_from m ys) (let e : n ≡ n + 0 = omega arith in e)
enumerate-append n (x ∷ xs) ys = ap (λ r. (n, x) ∷ r) (enumerate-append (n + 1) xs ys ∙ ap (λ m. enumerate_from (n + 1) xs ++ enumerate_from m ys) (let e : (n + 1) + length xs ≡ n + length (x ∷ xs) = omega arith in e))
