-- What arises from a point and vectors.
use Rattle.std.proofs.Common.{◌≡◌, ◌≢◌, ℕ, ◌<◌, zero, suc, Bool, true, false, List, [], ◌∷◌, length, get_or, refl, sym, ap, ◌∙◌, arith}
use Rattle.cx_base.specs.Literals.{differ}
use Rattle.gf2_matrix.proofs.Pivot.{joined_read}
use Rattle.gf2_space.specs.Spaces.{plus, arising}

pub length-plus : (a b : List Bool) → length a ≡ length b → length (plus a b) ≡ length b
length-plus [] [] e = refl
length-plus [] (y ∷ b) e = absurd (omega arith)
length-plus (x ∷ a) [] e = absurd (omega arith)
length-plus (x ∷ a) (y ∷ b) e = ap suc (length-plus a b (omega arith))

abbrev pub AreLong : ℕ → List (List Bool) → Type 0
AreLong n vs = (j : ℕ) → j < length vs → length (get_or vs j []) ≡ n

pub tail_long : (n : ℕ) (v : List Bool) (vs : List (List Bool)) → AreLong n (v ∷ vs) → AreLong n vs
tail_long n v vs long j lt = long (suc j) (omega arith)

pub length-arising : (p : List Bool) (vs : List (List Bool)) (cs : List Bool) → AreLong (length p) vs → length (arising p vs cs) ≡ length p
length-arising p [] cs long = refl
length-arising p (v ∷ vs) [] long = refl
length-arising p (v ∷ vs) (false ∷ cs) long = length-arising p vs cs (tail_long (length p) v vs long)
length-arising p (v ∷ vs) (true ∷ cs) long =
    let rest = length-arising p vs cs (tail_long (length p) v vs long) in
    length-plus v (arising p vs cs) (long 0 (omega arith) ∙ sym rest) ∙ rest

read-plus : (p v : List Bool) (vs : List (List Bool)) (cs : List Bool) (x : ℕ) → AreLong (length p) (v ∷ vs)
    → get_or (plus v (arising p vs cs)) x false ≡ differ (get_or v x false) (get_or (arising p vs cs) x false)
read-plus p v vs cs x long =
    joined_read v (arising p vs cs) x (long 0 (omega arith) ∙ sym (length-arising p vs cs (tail_long (length p) v vs long)))

-- where no vector has the position, the point's value stays
pub arising_without : (p : List Bool) (vs : List (List Bool)) (cs : List Bool) (x : ℕ) → AreLong (length p) vs
    → ((j : ℕ) → j < length vs → get_or (get_or vs j []) x false ≡ false) → get_or (arising p vs cs) x false ≡ get_or p x false
arising_without p [] cs x long lack = refl
arising_without p (v ∷ vs) [] x long lack = refl
arising_without p (v ∷ vs) (false ∷ cs) x long lack = arising_without p vs cs x (tail_long (length p) v vs long) (λ j lt. lack (suc j) (omega arith))
arising_without p (v ∷ vs) (true ∷ cs) x long lack =
    read-plus p v vs cs x long
    ∙ ap (λ b. differ b (get_or (arising p vs cs) x false)) (lack 0 (omega arith))
    ∙ arising_without p vs cs x (tail_long (length p) v vs long) (λ j lt. lack (suc j) (omega arith))

-- where one vector alone has the position, and the point has it not, it is there if that vector was chosen
pub arising_with : (p : List Bool) (vs : List (List Bool)) (cs : List Bool) (i x : ℕ) → AreLong (length p) vs → length cs ≡ length vs → i < length vs
    → get_or (get_or vs i []) x false ≡ true → ((j : ℕ) → j < length vs → j ≢ i → get_or (get_or vs j []) x false ≡ false)
    → get_or p x false ≡ false → get_or (arising p vs cs) x false ≡ get_or cs i false
arising_with p [] cs i x long e lt has lack off = absurd (omega arith)
arising_with p (v ∷ vs) [] i x long e lt has lack off = absurd (omega arith)
arising_with p (v ∷ vs) (false ∷ cs) zero x long e lt has lack off =
    arising_without p vs cs x (tail_long (length p) v vs long) (λ j lt. lack (suc j) (omega arith) (λ q. omega arith)) ∙ off
arising_with p (v ∷ vs) (true ∷ cs) zero x long e lt has lack off =
    read-plus p v vs cs x long
    ∙ ap (λ b. differ b (get_or (arising p vs cs) x false)) has
    ∙ ap (differ true) (arising_without p vs cs x (tail_long (length p) v vs long) (λ j lt. lack (suc j) (omega arith) (λ q. omega arith)) ∙ off)
arising_with p (v ∷ vs) (false ∷ cs) (suc i) x long e lt has lack off =
    arising_with p vs cs i x (tail_long (length p) v vs long) (omega arith) (omega arith) has (λ j lt ne. lack (suc j) (omega arith) (λ q. ne (omega arith))) off
arising_with p (v ∷ vs) (true ∷ cs) (suc i) x long e lt has lack off =
    read-plus p v vs cs x long
    ∙ ap (λ b. differ b (get_or (arising p vs cs) x false)) (lack 0 (omega arith) (λ q. omega arith))
    ∙ arising_with p vs cs i x (tail_long (length p) v vs long) (omega arith) (omega arith) has (λ j lt ne. lack (suc j) (omega arith) (λ q. ne (omega arith))) off

-- what each vector keeps, each choice keeps
pub arising_keeps : (P : List Bool → Type 0) (p : List Bool) (vs : List (List Bool)) (cs : List Bool) → P p
    → ((j : ℕ) (w : List Bool) → j < length vs → P w → P (plus (get_or vs j []) w)) → P (arising p vs cs)
arising_keeps P p [] cs here keep = here
arising_keeps P p (v ∷ vs) [] here keep = here
arising_keeps P p (v ∷ vs) (false ∷ cs) here keep = arising_keeps P p vs cs here (λ j w lt. keep (suc j) w (omega arith))
arising_keeps P p (v ∷ vs) (true ∷ cs) here keep = keep 0 (arising p vs cs) (omega arith) (arising_keeps P p vs cs here (λ j w lt. keep (suc j) w (omega arith)))
