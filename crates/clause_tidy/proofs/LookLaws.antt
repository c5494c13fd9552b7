-- What a look finds.
use Rattle.std.proofs.Common.{◌≡◌, ◌≢◌, refl, sym, ap, ◌∙◌, subst, ℕ, ◌+◌, ◌*◌, ◌<◌, ◌≤◌, ⊎_elim, Bool, true, false, cond, inl, inr, List, [], ◌∷◌, ◌++◌, length, get_or, take, arith}
use Rattle.std.specs.List.{Contains}
use Rattle.std.specs.Prelude.{MatchBool, not}
use Rattle.std.proofs.lemmas.Bool.{cases_eq}
use Rattle.std.proofs.lemmas.List.{take_more}
use Rattle.std.proofs.lemmas.List.Elements.{All-weaker, All-contains, Contains-append_left, Contains-append_right, Contains-append_cases}
use Rattle.cx_base.specs.Literals.{Literal, code_of}
use Rattle.clause_arena.specs.Clauses.{ArenaState, IsLive, literals_at}
use Rattle.clause_arena.proofs.PackingLaws.{live_within}
use Rattle.clause_tidy.specs.Indexes.{IsIndexed, AreKnown, HasNoWholeFrom}
use Rattle.clause_tidy.specs.Listing.{is_chosen, list_of}
use Rattle.clause_tidy.specs.Looks.{HasWholesOf, IsChosenIn}
use Rattle.clause_tidy.specs.Marks.{HaveRoom}
use Rattle.clause_tidy.specs.Pairs.{Bears}
use Rattle.clause_tidy.proofs.BearLaws.{contained, has_contained, has_variable}

-- ---- lists that grow
only_one : (r q : ℕ) → Contains (r ∷ []) q → q ≡ r
only_one r q (k, low, e) = let first : k ≡ 0 = omega (arith, low) in sym e ∙ ap (λ n. get_or (r ∷ []) n q) first

in_more : (xs : List ℕ) (i r q : ℕ) → i < length xs → r ≡ get_or xs i r → Contains (take (i + 1) xs) q → (q ≢ r → Contains (take i xs) q)
in_more xs i r q low at h ne = elim (Contains-append_cases (take i xs) (get_or xs i r ∷ []) q (subst (λ (ys : List ℕ). Contains ys q) (take_more xs i r low) h)) [
  | inl g ↦ g
  | inr one ↦ absurd (ne (only_one (get_or xs i r) q one ∙ sym at))
]

pub last_is_in : (xs : List ℕ) (r : ℕ) → Contains (xs ++ r ∷ []) r
last_is_in xs r = Contains-append_right xs (r ∷ []) r (0, omega arith, refl)

module _ (a : ArenaState) (p : ℕ) (list : List ℕ) (i r : ℕ) (low : i < length list) (at : r ≡ get_or list i r) (found : List ℕ) (before : HasWholesOf a p (Contains (take i list)) found) where
  pub found_more : (new : List ℕ) → new ≡ found ++ r ∷ [] → HasWholesOf a p (Contains (take (i + 1) list)) new
  found_more new is q among live bears = subst (λ (xs : List ℕ). Contains xs q) (sym is)
      (⊎_elim (λ (e : q ≡ r). subst (λ (x : ℕ). Contains (found ++ r ∷ []) x) (sym e) (last_is_in found r))
      (λ (ne : q ≢ r). Contains-append_left found (r ∷ []) q (before q (in_more list i r q low at among ne) live bears)) (cases_eq q r))

  pub found_past : (IsLive a r → Bears a p r → ⊥) → HasWholesOf a p (Contains (take (i + 1) list)) found
  found_past none q among live bears = ⊎_elim
      (λ (e : q ≡ r). absurd (none (subst (λ (x : ℕ). IsLive a x) e live) (subst (λ (x : ℕ). Bears a p x) e bears)))
      (λ (ne : q ≢ r). before q (in_more list i r q low at among ne) live bears) (cases_eq q r)

pub none_among : (a : ArenaState) (p : ℕ) (list found : List ℕ) → HasWholesOf a p (Contains (take 0 list)) found
none_among a p list found q (k, low, e) live bears = absurd (omega (arith, low))

pub all_among : (a : ArenaState) (p : ℕ) (list found : List ℕ) (i : ℕ) → take i list ≡ list → HasWholesOf a p (Contains (take i list)) found → HasWholesOf a p (Contains list) found
all_among a p list found i all h q among live bears = h q (subst (λ (xs : List ℕ). Contains xs q) (sym all) among) live bears

-- ---- one list has them all
pub listed_wholes : (a : ArenaState) (p first : ℕ) (lists : List (List ℕ)) (chosen : List Bool) (signatures : List ℕ) (l : Literal) (found : List ℕ) → IsIndexed a first (length a.clauses) lists chosen signatures → IsChosenIn chosen (literals_at a p) l
    → HasWholesOf a p (Contains (list_of lists l.variable)) found → HasWholesOf a p (λ q. first ≤ q) found
listed_wholes a p first lists chosen signatures l found index has h q among live bears =
    let w = has_variable (literals_at a p) (literals_at a q) bears.2 l (has_contained (literals_at a p) l has.0) in
    let there = All-contains (λ m. is_chosen chosen m.variable ≡ true → Contains (list_of lists m.variable) q) (literals_at a q) w.0 (index.listed q among (live_within a q live) live) (contained (literals_at a q) w.0 w.1) in
    h q (subst (λ (v : ℕ). Contains (list_of lists v) q) w.2 (there (ap (is_chosen chosen) w.2 ∙ has.1))) live bears

-- one that is empty has none
pub no_whole : (a : ArenaState) (p first : ℕ) (lists : List (List ℕ)) (chosen : List Bool) (signatures : List ℕ) (l : Literal) → IsIndexed a first (length a.clauses) lists chosen signatures → IsChosenIn chosen (literals_at a p) l → list_of lists l.variable ≡ [] → HasNoWholeFrom a p first
no_whole a p first lists chosen signatures l index has none q past live bears =
    let k = listed_wholes a p first lists chosen signatures l [] index has (λ r among _ _. subst (λ (xs : List ℕ). Contains xs r) none among) q past live bears in
    let low = k.1 in
    absurd (omega (arith, low))

-- ---- room for marks
double : (b : Bool) (v n : ℕ) → v < n → 2 * v + cond {A = ℕ} b 1 0 < 2 * n
double true v n h = omega (arith, h)
double false v n h = omega (arith, h)

pub room_for : (marks : List Bool) (lists : List (List ℕ)) (lits : List Literal) → length marks ≡ 2 * length lists → AreKnown lists lits → HaveRoom marks lits
room_for marks lists lits long known = All-weaker (λ l. l.variable < length lists) (λ l. code_of l < length marks) (λ l h. let low = double l.negative l.variable (length lists) h in subst (λ n. code_of l < n) (sym long) low) lits known

pub known_clause : (a : ArenaState) (first : ℕ) (lists : List (List ℕ)) (chosen : List Bool) (signatures : List ℕ) (p : ℕ) → IsIndexed a first (length a.clauses) lists chosen signatures → IsLive a p → AreKnown lists (literals_at a p)
known_clause a first lists chosen signatures p index live = index.known p (live_within a p live) live

-- ---- all references
module _ (a : ArenaState) (p i r : ℕ) (is : r ≡ i) (found : List ℕ) (before : HasWholesOf a p (λ q. q < i) found) where
  pub reached_more : (new : List ℕ) → new ≡ found ++ r ∷ [] → HasWholesOf a p (λ q. q < i + 1) new
  reached_more new grown q low live bears = subst (λ (xs : List ℕ). Contains xs q) (sym grown)
      (⊎_elim (λ (e : q ≡ r). subst (λ (x : ℕ). Contains (found ++ r ∷ []) x) (sym e) (last_is_in found r))
      (λ (ne : q ≢ r). Contains-append_left found (r ∷ []) q (before q (omega (arith, low, is, ne)) live bears)) (cases_eq q r))

  pub reached_past : (IsLive a r → Bears a p r → ⊥) → HasWholesOf a p (λ q. q < i + 1) found
  reached_past none q low live bears = ⊎_elim
      (λ (e : q ≡ r). absurd (none (subst (λ (x : ℕ). IsLive a x) e live) (subst (λ (x : ℕ). Bears a p x) e bears)))
      (λ (ne : q ≢ r). before q (omega (arith, low, is, ne)) live bears) (cases_eq q r)

pub all_reached : (a : ArenaState) (p first i : ℕ) (found : List ℕ) → length a.clauses ≤ i → HasWholesOf a p (λ q. q < i) found → HasWholesOf a p (λ q. q < length a.clauses) found
all_reached a p first i found all h q low live bears = h q (omega (arith, all, low)) live bears

pub among_all : (a : ArenaState) (p first : ℕ) (found : List ℕ) → HasWholesOf a p (λ q. q < length a.clauses) found → HasWholesOf a p (λ q. first ≤ q) found
among_all a p first found h q past live bears = h q (live_within a q live) live bears

-- ---- a test
pub match_not : (b : Bool) (P Q : Type 0) → P → (b ≡ true → Q) → MatchBool (not b) P Q
match_not true P Q p q = q refl
match_not false P Q p q = p
