-- The plan that words ask for has its numbers in range, and no two equal names.
use Rattle.std.proofs.Common.{◌≡◌, ◌≢◌, ◌≤◌, ◌&&◌, ℕ, Bool, true, false, List, Option, Some, None, Result, Ok, Err, IfOk, IfSome, codes, refl, subst, arith, option_map}
use Rattle.std.specs.Prelude.{if◌then◌else◌, option_and_then}
use Rattle.std.specs.Str.{bytes_eq}
use Rattle.std.specs.Str.Parse.{digits_value}
use Rattle.std.proofs.lemmas.Bool.{and_parts, both_ways, leb-true, not-true}
use Rattle.std.proofs.lemmas.Slice.Eq.{bytes_eq-Decides}
use Rattle.clap.specs.Words.{Row, first_of, subcommand_of}
use Rattle.cx_desk.specs.Outside.{Bytes}
use Rattle.cx_words.specs.declared.plans.Plan.{Plan}
use Rattle.cx_words.specs.declared.plans.Plan.TheVariants as plan
use Rattle.cx_words.specs.declared.plans.SearchOptions.{SearchOptions}
use Rattle.cx_words.specs.declared.refusal.PlanRefusal.{PlanRefusal}
use Rattle.cx_words.specs.CommandLine.{cxsat}
use Rattle.cx_words.specs.Given.{affine_of, blast_of, check_of, conflicts_of, demo_of, bytes_differ, elab_of, is_set, kind_of, logged, model_of, number_in, options_of, planned, seed_of, size_of, solve_of, three_names, trim_of, two_names}
use Rattle.cx_words.specs.Words.{Asks, IsFit, plan_of}

-- ---- where a choice or a step of options gave a value

chosen : {X : Type 0} (b : Bool) (x y : X) → (if b then Some x else None) ≡ Some y → (b ≡ true) × (x ≡ y)
chosen true x y e = (refl, cc)
chosen false x y e = cc

mapped : {X Y : Type 0} (g : X → Y) (o : Option X) (y : Y) → option_map g o ≡ Some y → (x : X) × (o ≡ Some x) × (g x ≡ y)
mapped g None y e = cc
mapped g (Some x) y e = (x, refl, cc)

followed : {X Y : Type 0} (g : X → Option Y) (o : Option X) (y : Y) → option_and_then g o ≡ Some y → (x : X) × (o ≡ Some x) × (g x ≡ Some y)
followed g None y e = cc
followed g (Some x) y e = (x, refl, e)

apart_by : (a b : Bytes) → bytes_differ a b ≡ true → a ≢ b
apart_by a b d e = both_ways (bytes_eq a b) (not-true _ d) ((bytes_eq-Decides a b).1 e)

-- ---- names

two_apart : (f s : Option Bytes) (n : Bytes × Bytes) → two_names f s ≡ Some n → n.0 ≢ n.1
two_apart None s n e = cc
two_apart (Some a) None n e = cc
two_apart (Some a) (Some b) n e =
    let c = chosen (bytes_differ a b) (a, b) n e in
    subst (λ (m : Bytes × Bytes). m.0 ≢ m.1) c.1 (apart_by a b c.0)

abbrev ThreeApart : Bytes × Bytes × Bytes → Type 0
ThreeApart n = (n.0 ≢ n.1) × (n.0 ≢ n.2) × (n.1 ≢ n.2)

three_apart : (f s t : Option Bytes) (n : Bytes × Bytes × Bytes) → three_names f s t ≡ Some n → ThreeApart n
three_apart None s t n e = cc
three_apart (Some a) None t n e = cc
three_apart (Some a) (Some b) None n e = cc
three_apart (Some a) (Some b) (Some c) n e =
    let p = chosen (bytes_differ a b && (bytes_differ a c && bytes_differ b c)) (a, b, c) n e in
    let first = and_parts (bytes_differ a b) (bytes_differ a c && bytes_differ b c) p.0 in
    let second = and_parts (bytes_differ a c) (bytes_differ b c) first.1 in
    subst ThreeApart p.1 (apart_by a b first.0, apart_by a c second.0, apart_by b c second.1)

log_apart : (f l : Option Bytes) (n : Bytes × Option Bytes) → logged f l ≡ Some n → IfSome n.1 (λ x. n.0 ≢ x)
log_apart None l n e = cc
log_apart (Some a) None n e = let same : (a, None) ≡ n = cc in subst (λ (m : Bytes × Option Bytes). IfSome m.1 (λ x. m.0 ≢ x)) same tt
log_apart (Some a) (Some b) n e =
    let c = chosen (bytes_differ a b) (a, Some b) n e in
    subst (λ (m : Bytes × Option Bytes). IfSome m.1 (λ x. m.0 ≢ x)) c.1 (apart_by a b c.0)

-- ---- numbers

in_range : (least most : ℕ) (t : Bytes) (n : ℕ) → number_in least most t ≡ Some n → (least ≤ n) × (n ≤ most)
in_range least most t n e =
    let c = chosen _ (digits_value 10 t) n e in
    let after_digits = and_parts _ _ c.0 in
    let after_length = and_parts _ _ after_digits.1 in
    let ends = and_parts _ _ after_length.1 in
    subst (λ (k : ℕ). (least ≤ k) × (k ≤ most)) c.1 (leb-true least (digits_value 10 t) ends.0, leb-true (digits_value 10 t) most ends.1)

conflicts_in_range : (given : Option Bytes) (n : ℕ) → conflicts_of given ≡ Some n → (1 ≤ n) × (n ≤ 1000000000000000000)
conflicts_in_range None n e = let same : 1000000 ≡ n = cc in subst (λ (k : ℕ). (1 ≤ k) × (k ≤ 1000000000000000000)) same (omega arith, omega arith)
conflicts_in_range (Some t) n e = in_range 1 1000000000000000000 t n e

options_in_range : (given flag : Option Bytes) (options : SearchOptions) → options_of given flag ≡ Some options
    → (1 ≤ options.conflicts) × (options.conflicts ≤ 1000000000000000000)
options_in_range given flag options e =
    let number = mapped (λ (n : ℕ). record { conflicts = n; inprocess = is_set flag }) (conflicts_of given) options e in
    subst (λ (o : SearchOptions). (1 ≤ o.conflicts) × (o.conflicts ≤ 1000000000000000000)) number.2 (conflicts_in_range given number.0 number.1)

-- ---- commands

solve_fit : (f l c i : Option Bytes) (p : Plan) → solve_of f l c i ≡ Some p → IsFit p
solve_fit f l c i p e =
    let names = followed _ (logged f l) p e in
    let options = mapped (plan.Solve names.0.0 names.0.1) (options_of c i) p names.2 in
    let range = options_in_range c i options.0 options.1 in
    subst IsFit options.2 (range.0, range.1, log_apart f l names.0 names.1)

check_fit : (f q : Option Bytes) (p : Plan) → check_of f q ≡ Some p → IsFit p
check_fit f q p e = let names = mapped (λ (n : Bytes × Bytes). plan.Check n.0 n.1) (two_names f q) p e in subst IsFit names.2 (two_apart f q names.0 names.1)

elab_fit : (f l q : Option Bytes) (p : Plan) → elab_of f l q ≡ Some p → IsFit p
elab_fit f l q p e =
    let names = mapped (λ (n : Bytes × Bytes × Bytes). plan.Elab n.0 n.1 n.2) (three_names f l q) p e in
    subst IsFit names.2 (three_apart f l q names.0 names.1)

model_fit : (f a : Option Bytes) (p : Plan) → model_of f a ≡ Some p → IsFit p
model_fit f a p e = let names = mapped (λ (n : Bytes × Bytes). plan.Model n.0 n.1) (two_names f a) p e in subst IsFit names.2 (two_apart f a names.0 names.1)

demo_fit : (k n s : Option Bytes) (p : Plan) → demo_of k n s ≡ Some p → IsFit p
demo_fit k n s p e =
    let kind = followed _ (kind_of k) p e in
    let size = followed _ (size_of n) p kind.2 in
    let seed = mapped (plan.Demo kind.0 size.0) (seed_of s) p size.2 in
    let text = followed (number_in 4 2000) n size.0 size.1 in
    subst IsFit seed.2 (in_range 4 2000 text.0 size.0 text.2)

trim_fit : (f q o : Option Bytes) (p : Plan) → trim_of f q o ≡ Some p → IsFit p
trim_fit f q o p e =
    let names = mapped (λ (n : Bytes × Bytes × Bytes). plan.Trim n.0 n.1 n.2) (three_names f q o) p e in
    subst IsFit names.2 (three_apart f q o names.0 names.1)

blast_fit : (f o : Option Bytes) (p : Plan) → blast_of f o ≡ Some p → IsFit p
blast_fit f o p e = let names = mapped (λ (n : Bytes × Bytes). plan.Blast n.0 n.1) (two_names f o) p e in subst IsFit names.2 (two_apart f o names.0 names.1)

affine_fit : (f : Option Bytes) (p : Plan) → affine_of f ≡ Some p → IsFit p
affine_fit f p e = let name = mapped plan.Affine f p e in subst IsFit name.2 tt

-- each plan that the option may hold is fit
abbrev Fits : Option Plan → Type 0
Fits o = (p : Plan) → o ≡ Some p → IsFit p

either_fits : (b : Bool) (x y : Option Plan) → Fits x → Fits y → Fits (if b then x else y)
either_fits true x y f g = f
either_fits false x y f g = g

none_fits : Fits None
none_fits p e = cc

planned_fit : (command : Bytes) (values : List Row) → Fits (planned command values)
planned_fit command values =
    let value : Bytes → Option Bytes = λ id. first_of id values in
    either_fits (bytes_eq command (codes "solve")) _ _ (solve_fit (value (codes "formula")) (value (codes "proof")) (value (codes "conflicts")) (value (codes "inprocess")))
    (either_fits (bytes_eq command (codes "check")) _ _ (check_fit (value (codes "formula")) (value (codes "proof")))
    (either_fits (bytes_eq command (codes "elab")) _ _ (elab_fit (value (codes "formula")) (value (codes "log")) (value (codes "proof")))
    (either_fits (bytes_eq command (codes "model")) _ _ (model_fit (value (codes "formula")) (value (codes "answer")))
    (either_fits (bytes_eq command (codes "demo")) _ _ (demo_fit (value (codes "kind")) (value (codes "size")) (value (codes "seed")))
    (either_fits (bytes_eq command (codes "trim")) _ _ (trim_fit (value (codes "formula")) (value (codes "proof")) (value (codes "out")))
    (either_fits (bytes_eq command (codes "blast")) _ _ (blast_fit (value (codes "formula")) (value (codes "out")))
    (either_fits (bytes_eq command (codes "affine")) _ _ (affine_fit (value (codes "formula"))) none_fits)))))))

pub fit : (words : List Bytes) (p : Plan) → Asks words p → IsFit p
unfolding plan_of
fit words p h =
    let found = followed (λ (g : Bytes × List Row). planned g.0 g.1) (subcommand_of cxsat words) p h.asked in
    planned_fit found.0.0 found.0.1 p found.2

pub fit_by : (words : List Bytes) (r : Result Plan PlanRefusal) → IfOk r (Asks words) → IfOk r IsFit
fit_by words (Ok p) h = fit words p h
fit_by words (Err e) h = tt
