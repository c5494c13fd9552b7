-- Planted instances, as they are made of a list of words.
use Rattle.std.specs.Prelude.{ℕ, ◌+◌, ◌-◌, ◌*◌, ◌/◌, ◌%◌, ◌^◌, Bool, not, nat_le, List, [], ◌∷◌, ◌++◌, length, map, flat_map, take, drop, slice_index, ◌==◌, if◌then◌else◌}
use Rattle.std.specs.List.{range_with_len}
use Rattle.cx_base.specs.Literals.{Literal, negate, positive_of, negative_of}
use Rattle.cx_base.specs.Problem.{Problem, clause_met, parity_met}
use Rattle.cx_base.specs.declared.constraint.Constraint.{Constraint}
use Rattle.cx_base.specs.declared.constraint.Constraint.TheVariants.{Clause, Parity}
use Rattle.inst_gen.specs.declared.kind.InstanceKind.{InstanceKind}
use Rattle.inst_gen.specs.declared.kind.InstanceKind.TheVariants.{Even, Odd}
use Rattle.inst_gen.specs.Words.{words, stream}

-- A value for each word: true where the word is odd.
unfoldable pub values_of : List ℕ → List Bool
values_of ws = map (λ w. w % 2 == 1) ws

-- The parity of variable i and of two variables below it, one for each word. Its first literal is negative where an even number of the three is true.
unfoldable pub planted_parity : List Bool → ℕ → ℕ → ℕ → List Literal
planted_parity values i first second =
    let below = positive_of (1 + first % (i - 1)) ∷ positive_of (1 + second % (i - 1)) ∷ [] in
    record { variable = i; negative = not (parity_met values (positive_of i ∷ below)) } ∷ below

-- A parity for each fourth variable, of two words each.
unfoldable pub parities_of : List Bool → ℕ → List ℕ → List (List Literal)
parities_of values count ws = map (λ k. planted_parity values (4 * k + 4) (slice_index ws (2 * k)) (slice_index ws (2 * k + 1))) (range_with_len 0 count)

-- A literal over n variables, of one word: its remainder gives the variable and its highest bit the sign.
unfoldable pub literal_of : ℕ → ℕ → Literal
literal_of n w = record { variable = 1 + w % n; negative = nat_le (2 ^ 63) w }

-- the clause with the sign of its first literal changed
abbrev pub first_changed : List Literal → List Literal
first_changed [] = []
first_changed (l ∷ lits) = negate l ∷ lits

-- A clause of three literals, changed where none of them is true.
unfoldable pub planted_clause : List Bool → Literal → Literal → Literal → List Literal
planted_clause values first second third =
    let lits = first ∷ second ∷ third ∷ [] in
    if clause_met values lits then lits else first_changed lits

-- Clauses over the first n variables, of three words each.
unfoldable pub clauses_of : List Bool → ℕ → ℕ → List ℕ → List (List Literal)
clauses_of values n count ws =
    map (λ k. planted_clause values (literal_of n (slice_index ws (3 * k))) (literal_of n (slice_index ws (3 * k + 1))) (literal_of n (slice_index ws (3 * k + 2)))) (range_with_len 0 count)

-- the constraints that the planted values meet
abbrev pub met_part : List (List Literal) → List (List Literal) → List Constraint
met_part parities clauses = map Parity parities ++ map Clause clauses

-- The parity of all literals of the parities and of a further variable, which is so made true; then clauses that exclude each value of 1 and 2 where it is true.
abbrev pub unmet_part : ℕ → List (List Literal) → List Constraint
unmet_part further parities =
    Parity (flat_map (λ lits. lits) parities ++ record { variable = further; negative = length parities % 2 == 1 } ∷ [])
    ∷ Clause (negative_of further ∷ positive_of 1 ∷ positive_of 2 ∷ [])
    ∷ Clause (negative_of further ∷ positive_of 1 ∷ negative_of 2 ∷ [])
    ∷ Clause (negative_of further ∷ negative_of 1 ∷ positive_of 2 ∷ [])
    ∷ Clause (negative_of further ∷ negative_of 1 ∷ negative_of 2 ∷ [])
    ∷ []

abbrev pub instance_of : InstanceKind → ℕ → List (List Literal) → List (List Literal) → Problem
instance_of Even n parities clauses = record { variables = n; constraints = met_part parities clauses }
instance_of Odd n parities clauses = record { variables = n + 1; constraints = met_part parities clauses ++ unmet_part (n + 1) parities }

-- how many words an instance of size n takes: for its values, its parities and its clauses
abbrev pub word_count : ℕ → ℕ
word_count n = n + (2 * (n / 4) + 3 * n)

-- the words of an instance's values, of its parities, of its clauses
abbrev pub value_words : ℕ → List ℕ → List ℕ
value_words n ws = take n ws

abbrev pub parity_words : ℕ → List ℕ → List ℕ
parity_words n ws = take (2 * (n / 4)) (drop n ws)

abbrev pub clause_words : ℕ → List ℕ → List ℕ
clause_words n ws = drop (2 * (n / 4)) (drop n ws)

-- The instance that a list of words makes.
unfoldable pub made_of : InstanceKind → ℕ → List ℕ → Problem
made_of kind n ws =
    let values = values_of (value_words n ws) in
    instance_of kind n (parities_of values (n / 4) (parity_words n ws)) (clauses_of values n n (clause_words n ws))

-- The words of a seed, and the instance and the values that they make.
abbrev pub words_of : ℕ → ℕ → List ℕ
words_of size seed = words (word_count size) (stream seed)

abbrev pub planted_values : ℕ → ℕ → List Bool
planted_values size seed = values_of (value_words size (words_of size seed))

abbrev pub planted_formula : InstanceKind → ℕ → ℕ → Problem
planted_formula kind size seed = made_of kind size (words_of size seed)
