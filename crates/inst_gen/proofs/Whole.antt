-- The instance of a seed, from what is drawn in order.
use Rattle.std.proofs.Common.{◌≡◌, sym, ap, ◌∙◌, ℕ, ◌+◌, ◌*◌, ◌/◌, ◌%◌, ◌==◌, ◌≤◌, Bool, List, length, take, drop, arith}
use Rattle.std.proofs.lemmas.List.{length-map}
use Rattle.rand_core.specs.Stream.{Stream}
use Rattle.cx_base.specs.Literals.{Literal}
use Rattle.cx_base.specs.Problem.{Problem, greatest_variable}
use Rattle.inst_gen.specs.declared.kind.InstanceKind.{InstanceKind}
use Rattle.inst_gen.specs.Words.{stream, words, after_words}
use Rattle.inst_gen.specs.Planting.{values_of, parities_of, clauses_of, instance_of, made_of, planted_formula, planted_values, words_of, value_words, parity_words, clause_words}
use Rattle.inst_gen.proofs.WordLaws.{take-words, drop-words, length-words}
use Rattle.inst_gen.proofs.Sizes.{parities_up_to, clauses_up_to, instance_greatest}

pub length-values_of : (ws : List ℕ) → length (values_of ws) ≡ length ws
unfolding values_of
length-values_of ws = length-map ws (λ w. w % 2 == 1)

value_words_are : (n seed : ℕ) → value_words n (words_of n seed) ≡ words n (stream seed)
value_words_are n seed = take-words n (2 * (n / 4) + 3 * n) (stream seed)

parity_words_are : (n seed : ℕ) → parity_words n (words_of n seed) ≡ words (2 * (n / 4)) (after_words n (stream seed))
parity_words_are n seed = ap (take (2 * (n / 4))) (drop-words n (2 * (n / 4) + 3 * n) (stream seed)) ∙ take-words (2 * (n / 4)) (3 * n) (after_words n (stream seed))

clause_words_are : (n seed : ℕ) → clause_words n (words_of n seed) ≡ words (3 * n) (after_words (2 * (n / 4)) (after_words n (stream seed)))
clause_words_are n seed = ap (drop (2 * (n / 4))) (drop-words n (2 * (n / 4) + 3 * n) (stream seed)) ∙ drop-words (2 * (n / 4)) (3 * n) (after_words n (stream seed))

pub length_drawn : (n : ℕ) (values : List Bool) (s : Stream) → values ≡ values_of (words n s) → length values ≡ n
length_drawn n values s e = ap length e ∙ length-values_of (words n s) ∙ length-words n s

pub whole_is : (kind : InstanceKind) (n seed : ℕ) (values : List Bool) (ps cs : List (List Literal)) (start after_values after_parities : Stream) → 4 ≤ n → start ≡ stream seed
    → values ≡ values_of (words n start) → after_values ≡ after_words n start
    → ps ≡ parities_of values (length values / 4) (words (2 * (length values / 4)) after_values) → after_parities ≡ after_words (2 * (length values / 4)) after_values
    → cs ≡ clauses_of values (length values) (length values) (words (3 * length values) after_parities)
    → ◌≡◌ {A = Problem} (record { variables = greatest_variable (instance_of kind n ps cs).variables (instance_of kind n ps cs).constraints; constraints = (instance_of kind n ps cs).constraints }) (planted_formula kind n seed)
unfolding made_of
whole_is kind n seed values ps cs start after_values after_parities low s v a p b c =
    let ws = words_of n seed in
    let planted = planted_values n seed in
    let size : length values ≡ n = length_drawn n values start v in
    let values_are : values ≡ planted = v ∙ ap (λ x. values_of (words n x)) s ∙ ap values_of (sym (value_words_are n seed)) in
    let left : after_values ≡ after_words n (stream seed) = a ∙ ap (after_words n) s in
    let rest : after_parities ≡ after_words (2 * (n / 4)) (after_words n (stream seed)) = b ∙ (λ i. after_words (2 * (size i / 4)) (left i)) in
    let parities : ps ≡ parities_of planted (n / 4) (parity_words n ws) =
    p ∙ (λ i. parities_of (values_are i) (size i / 4) (words (2 * (size i / 4)) (left i))) ∙ ap (parities_of planted (n / 4)) (sym (parity_words_are n seed)) in
    let clauses : cs ≡ clauses_of planted n n (clause_words n ws) =
    c ∙ (λ i. clauses_of (values_are i) (size i) (size i) (words (3 * size i) (rest i))) ∙ ap (clauses_of planted n n) (sym (clause_words_are n seed)) in
    let ps' = parities_of planted (n / 4) (parity_words n ws) in
    let cs' = clauses_of planted n n (clause_words n ws) in
    (λ i. record { variables = greatest_variable (instance_of kind n (parities i) (clauses i)).variables (instance_of kind n (parities i) (clauses i)).constraints; constraints = (instance_of kind n (parities i) (clauses i)).constraints })
    ∙ (λ i. record { variables = instance_greatest kind n ps' cs' low (parities_up_to planted n (parity_words n ws)) (clauses_up_to planted n n (clause_words n ws) (omega arith)) i; constraints = (instance_of kind n ps' cs').constraints })
