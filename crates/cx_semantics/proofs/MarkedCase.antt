-- A worked case of a marked log: one conflict, and the clause learned from it.
use Rattle.std.proofs.Common.{◌≡◌, refl, sym, ap, ◌∙◌, subst, ℕ, ℤ, pos, negsuc, Bool, true, false, cond, not, ◌||◌, nat_eq, List, [], ◌∷◌, ◌++◌, map, fold, Option, Some, None, true≢false, lit≤, inl}
use Rattle.std.specs.List.{list_any, AllByRecursion}
use Rattle.std.proofs.lemmas.Option.{same_Some}
use Rattle.std.proofs.lemmas.Bool.{and_parts}
use Rattle.cx_base.specs.Literals.{Literal}
use Rattle.cx_base.specs.Problem.{Problem, clauses_of}
use Rattle.cx_base.specs.declared.constraint.Constraint.TheVariants as constraint
use Rattle.cx_base.specs.declared.steps.LogStep.TheVariants.{Original, Clause}
use Rattle.cx_base.specs.declared.steps.LogEvent.{LogEvent}
use Rattle.cx_base.specs.declared.steps.LogEvent.TheVariants.{Step, Conflict}
use Rattle.cx_semantics.specs.Chain.{is_inside, same_literals, left, Left, none, one, more, count_left}
use Rattle.cx_semantics.specs.Fresh.{Fresh, IsLive, is_falsified}
use Rattle.cx_base.specs.Integers.{literals}
use Rattle.cx_semantics.specs.Tables.{Table}
use Rattle.cx_semantics.specs.Marked.{Marked, Moment, first_moment, after_event, KeepsFormula}
use Rattle.cx_semantics.proofs.Lookups.{Looks, put_at, Looks-empty, Looks-insert}

abbrev lists : List (List ℤ)
lists = (pos 1 ∷ pos 2 ∷ []) ∷ (pos 1 ∷ negsuc 1 ∷ []) ∷ (negsuc 0 ∷ pos 3 ∷ []) ∷ (negsuc 0 ∷ negsuc 2 ∷ []) ∷ []

abbrev formula : Problem
formula = record { variables = 3; constraints = map (λ zs. constraint.Clause (literals zs)) lists }

abbrev originals : List LogEvent
originals = Step (Original 1 (pos 1 ∷ pos 2 ∷ [])) ∷ Step (Original 2 (pos 1 ∷ negsuc 1 ∷ [])) ∷ Step (Original 3 (negsuc 0 ∷ pos 3 ∷ [])) ∷ Step (Original 4 (negsuc 0 ∷ negsuc 2 ∷ [])) ∷ []

abbrev events : List LogEvent
events = originals ++ Conflict 1 ∷ Step (Clause 5 (negsuc 0 ∷ [])) ∷ []

abbrev at_mark : Moment
at_mark = fold after_event first_moment originals

abbrev table : Table
table = at_mark.tables.clauses

abbrev answers : ℕ → Option (List Literal)
answers = put_at (put_at (put_at (put_at (λ k. None) 1 (Some (literals (pos 1 ∷ pos 2 ∷ [])))) 2 (Some (literals (pos 1 ∷ negsuc 1 ∷ [])))) 3 (Some (literals (negsuc 0 ∷ pos 3 ∷ [])))) 4 (Some (literals (negsuc 0 ∷ negsuc 2 ∷ [])))

looks : Looks table answers
looks = Looks-insert _ _ 4 _ (Looks-insert _ _ 3 _ (Looks-insert _ _ 2 _ (Looks-insert _ _ 1 _ Looks-empty)))

-- a test that each answer passes
abbrev pub AllAt : (List Literal → Bool) → (ℕ → Option (List Literal)) → Type 0
AllAt p f = (k : ℕ) (lits : List Literal) → f k ≡ Some lits → p lits ≡ true

pub AllAt-none : (p : List Literal → Bool) → AllAt p (λ k. None)
AllAt-none p k lits e = cc

pub AllAt-put : (p : List Literal → Bool) (f : ℕ → Option (List Literal)) (n : ℕ) (lits : List Literal) → p lits ≡ true → AllAt p f → AllAt p (put_at f n (Some lits))
AllAt-put p f n lits h all k others e = elim (nat_eq k n) as (λ b. cond b (Some lits) (f k) ≡ Some others → p others ≡ true) [
  | true ↦ λ g. subst (λ x. p x ≡ true) (same_Some lits others g) h
  | false ↦ λ g. all k others g
] e

-- two literals are left of each clause under no assumption
abbrev is_open : List Literal → Bool
is_open clause = elim (count_left (left [] clause)) [ none ↦ false | one l ↦ false | more ↦ not (is_falsified [] clause) ]

all_open : AllAt is_open answers
all_open = AllAt-put is_open _ 4 _ refl (AllAt-put is_open _ 3 _ refl (AllAt-put is_open _ 2 _ refl (AllAt-put is_open _ 1 _ refl (AllAt-none is_open))))

live_open : (clause : List Literal) → IsLive table clause → is_open clause ≡ true
live_open clause (n, e) = all_open n clause (sym (looks n) ∙ e)

abbrev opened : Left → Bool → Bool
opened c f = elim c [ none ↦ false | one l ↦ false | more ↦ not f ]

not_one : (c : Left) (f : Bool) (l : Literal) → opened c f ≡ true → c ≡ one l → ⊥
not_one none f l h e = true≢false (sym h)
not_one (one m) f l h e = true≢false (sym h)
not_one more f l h e = cc

not_falsified : (c : Left) (f : Bool) → opened c f ≡ true → f ≡ false
not_falsified none f h = absurd (true≢false (sym h))
not_falsified (one m) f h = absurd (true≢false (sym h))
not_falsified more true h = absurd (true≢false (sym h))
not_falsified more false h = refl

fresh : Fresh table (literals (negsuc 0 ∷ []))
fresh = record {
  no_tautology = refl;
  l = record { variable = 1; negative = true };
  has_it = refl;
  unknown = record {
    closed = [];
    has_given = refl;
    units = λ clause l live e. absurd (not_one (count_left (left [] clause)) (is_falsified [] clause) l (live_open clause live) e);
    no_conflict = λ clause live. not_falsified (count_left (left [] clause)) (is_falsified [] clause) (live_open clause live);
    not_in = refl;
  };
}

kept_by : (t : Table) (clause : List Literal) (cs : List (List Literal)) → AllByRecursion (IsLive t) cs → list_any (same_literals clause) cs ≡ true
    → (inner : List Literal) × IsLive t inner × (is_inside inner clause ≡ true)
kept_by t clause [] live h = absurd (true≢false (sym h))
kept_by t clause (c ∷ cs) live h = go (same_literals clause c) refl (kept_by t clause cs live.1)
  where
    go : (b : Bool) → same_literals clause c ≡ b → (list_any (same_literals clause) cs ≡ true → (inner : List Literal) × IsLive t inner × (is_inside inner clause ≡ true))
        → (inner : List Literal) × IsLive t inner × (is_inside inner clause ≡ true)
    go true e rest = (c, live.0, (and_parts (is_inside clause c) (is_inside c clause) e).1)
    go false e rest = rest (sym (ap (λ b. b || list_any (same_literals clause) cs) e) ∙ h)

keeps : KeepsFormula formula table
unfolding clauses_of
keeps clause h = inl (kept_by table clause (map literals lists) ((1, looks 1), ((2, looks 2), ((3, looks 3), ((4, looks 4), tt)))) h)

marked : Marked formula events 1
marked = record {
  marks = refl;
  originals = (Conflict 1 ∷ Step (Clause 5 (negsuc 0 ∷ [])) ∷ [], refl);
  last = fold after_event first_moment events;
  fit = (tt, (tt, (tt, (tt, (record { served = refl; kept = keeps; no_old_clauses = refl; no_old_sums = refl }, ((lit≤ tt, fresh), refl))))));
  served = refl;
}
