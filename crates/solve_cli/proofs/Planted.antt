-- A planted instance: how many constraints it has at most, and what may be shown of it.
use Rattle.std.proofs.Common.{◌≡◌, ◌≤◌, ℕ, ◌+◌, ◌/◌, Bool, List, map, length, length-append, arith}
use Rattle.std.proofs.lemmas.List.{length-map}
use Rattle.std.proofs.lemmas.List.FromFn.{length-map-range_with_len}
use Rattle.cx_base.specs.Literals.{Literal}
use Rattle.cx_base.specs.declared.constraint.Constraint.TheVariants.{Clause, Parity}
use Rattle.inst_gen.specs.declared.kind.InstanceKind.{InstanceKind}
use Rattle.inst_gen.specs.declared.kind.InstanceKind.TheVariants.{Even, Odd}
use Rattle.inst_gen.specs.Planting.{parities_of, clauses_of, met_part, unmet_part, instance_of, made_of, planted_formula, planted_values, words_of, parity_words, clause_words}
use Rattle.inst_gen.proofs.Meeting.{even_is_met, odd_is_unmet}
use Rattle.solve_cli.specs.declared.ending.Shown.{Shown}
use Rattle.solve_cli.specs.declared.ending.Shown.TheVariants as shown
use Rattle.solve_cli.specs.Demo.{MayShow, Shows}

-- ---- its constraints

number_of_parities : (values : List Bool) (count : ℕ) (ws : List ℕ) → length (parities_of values count ws) ≡ count
unfolding parities_of
number_of_parities values count ws = length-map-range_with_len _ 0 count

number_of_clauses : (values : List Bool) (n count : ℕ) (ws : List ℕ) → length (clauses_of values n count ws) ≡ count
unfolding clauses_of
number_of_clauses values n count ws = length-map-range_with_len _ 0 count

number_met : (ps cs : List (List Literal)) → length (met_part ps cs) ≡ length ps + length cs
number_met ps cs = let a = length-map ps Parity in let b = length-map cs Clause in let c = length-append (map Parity ps) (map Clause cs) in omega (arith, a, b, c)

number_made : (kind : InstanceKind) (n : ℕ) (ps cs : List (List Literal)) → length (instance_of kind n ps cs).constraints ≤ length ps + length cs + 5
number_made Even n ps cs = let a = number_met ps cs in omega (arith, a)
number_made Odd n ps cs = let a = number_met ps cs in let b = length-append (met_part ps cs) (unmet_part (n + 1) ps) in omega (arith, a, b)

pub few_planted : (kind : InstanceKind) (size seed : ℕ) → size ≤ 2000 → length (planted_formula kind size seed).constraints ≤ 4294967295
unfolding made_of
few_planted kind size seed high =
    let ws = words_of size seed in
    let values = planted_values size seed in
    let ps = parities_of values (size / 4) (parity_words size ws) in
    let cs = clauses_of values size size (clause_words size ws) in
    let a : length (instance_of kind size ps cs).constraints ≤ length ps + length cs + 5 = number_made kind size ps cs in
    let b : length ps ≡ size / 4 = number_of_parities values (size / 4) (parity_words size ws) in
    let c : length cs ≡ size = number_of_clauses values size size (clause_words size ws) in
    omega (arith, a, b, c, high)

-- ---- its kind

pub may_show : (kind : InstanceKind) (size seed : ℕ) (x : Shown) → Shows (planted_formula kind size seed) x → MayShow kind x
may_show Even size seed shown.Meet h = tt
may_show Even size seed shown.Verified h = h (planted_values size seed) (even_is_met size seed)
may_show Even size seed shown.Unknown h = tt
may_show Odd size seed shown.Meet h = odd_is_unmet size seed h.0 h.1
may_show Odd size seed shown.Verified h = tt
may_show Odd size seed shown.Unknown h = tt
