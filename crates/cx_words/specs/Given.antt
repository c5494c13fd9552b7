-- What the values that clap finds ask for.
use Rattle.std.specs.Prelude.{◌≡◌, ◌&&◌, ℕ, Bool, false, not, List, length, codes, Option, Some, None, Result, MatchResult, option_map, option_and_then, if◌then◌else◌, nat_lt, nat_le}
use Rattle.std.specs.Borrow.{Bor}
use Rattle.std.specs.Str.{bytes_eq}
use Rattle.std.specs.List.{list_all}
use Rattle.std.specs.Char.{is_ascii_digit}
use Rattle.std.specs.Str.Parse.{digits_value}
use Rattle.clap.specs.Words.{Row, first_of}
use Rattle.cx_desk.specs.Outside.{Bytes}
use Rattle.inst_gen.specs.declared.kind.InstanceKind.{InstanceKind}
use Rattle.inst_gen.specs.declared.kind.InstanceKind.TheVariants.{Even, Odd}
use Rattle.cx_words.specs.declared.plans.Plan.{Plan}
use Rattle.cx_words.specs.declared.plans.SearchOptions.{SearchOptions}
use Rattle.cx_words.specs.declared.plans.Plan.TheVariants as plan
use Rattle.cx_words.specs.declared.refusal.PlanRefusal.{PlanRefusal}
use Rattle.cx_words.specs.declared.refusal.PlanRefusal.TheVariants.{Usage}

-- the text that is lent, where one is
abbrev pub lent : Option (Bor Bytes) → Option Bytes
lent = option_map (λ t. t.now)

-- the answer is the value that is wanted, and a faulty command line only where there is none
abbrev pub IsWanted : {X : Type 0} → Option X → Result X PlanRefusal → Type 0
IsWanted wanted answer = MatchResult answer (λ x. wanted ≡ Some x) (λ why. why ≡ Usage → wanted ≡ None)

abbrev pub bytes_differ : Bytes → Bytes → Bool
bytes_differ a b = not (bytes_eq a b)

-- two names that are given and differ
abbrev pub two_names : Option Bytes → Option Bytes → Option (Bytes × Bytes)
two_names (Some a) (Some b) = if bytes_differ a b then Some (a, b) else None
two_names _ _ = None

-- three names that are given, no two of them equal
abbrev pub three_names : Option Bytes → Option Bytes → Option Bytes → Option (Bytes × Bytes × Bytes)
three_names (Some a) (Some b) (Some c) = if bytes_differ a b && (bytes_differ a c && bytes_differ b c) then Some (a, b, c) else None
three_names _ _ _ = None

-- the number that digits spell, where it is in the range
abbrev pub number_in : ℕ → ℕ → Bytes → Option ℕ
number_in least most text =
    if list_all is_ascii_digit text && (nat_lt 0 (length text) && (nat_le least (digits_value 10 text) && nat_le (digits_value 10 text) most))
    then Some (digits_value 10 text) else None

-- the most conflicts that are counted: from 1 to 10^18, and a million where nothing is said
abbrev pub conflicts_of : Option Bytes → Option ℕ
conflicts_of None = Some 1000000
conflicts_of (Some text) = number_in 1 1000000000000000000 text

-- whether a flag is set, by the value that clap gives it
abbrev pub is_set : Option Bytes → Bool
is_set None = false
is_set (Some text) = bytes_eq text (codes "true")

abbrev pub options_of : Option Bytes → Option Bytes → Option SearchOptions
options_of conflicts inprocess = option_map (λ n. record { conflicts = n; inprocess = is_set inprocess }) (conflicts_of conflicts)

abbrev pub size_of : Option Bytes → Option ℕ
size_of = option_and_then (number_in 4 2000)

abbrev pub seed_of : Option Bytes → Option ℕ
seed_of = option_and_then (number_in 0 18446744073709551615)

abbrev pub kind_named : Bytes → Option InstanceKind
kind_named text = if bytes_eq text (codes "even") then Some Even else (if bytes_eq text (codes "odd") then Some Odd else None)

abbrev pub kind_of : Option Bytes → Option InstanceKind
kind_of = option_and_then kind_named

-- the formula and the log, which differ where a log is given
abbrev pub logged : Option Bytes → Option Bytes → Option (Bytes × Option Bytes)
logged None log = None
logged (Some formula) None = Some (formula, None)
logged (Some formula) (Some log) = if bytes_differ formula log then Some (formula, Some log) else None

abbrev pub solve_of : Option Bytes → Option Bytes → Option Bytes → Option Bytes → Option Plan
solve_of formula log conflicts inprocess =
    option_and_then (λ (names : Bytes × Option Bytes). option_map (plan.Solve names.0 names.1) (options_of conflicts inprocess)) (logged formula log)

abbrev pub check_of : Option Bytes → Option Bytes → Option Plan
check_of formula proof = option_map (λ (names : Bytes × Bytes). plan.Check names.0 names.1) (two_names formula proof)

abbrev pub elab_of : Option Bytes → Option Bytes → Option Bytes → Option Plan
elab_of formula log proof = option_map (λ (names : Bytes × Bytes × Bytes). plan.Elab names.0 names.1 names.2) (three_names formula log proof)

abbrev pub model_of : Option Bytes → Option Bytes → Option Plan
model_of formula answer = option_map (λ (names : Bytes × Bytes). plan.Model names.0 names.1) (two_names formula answer)

abbrev pub demo_of : Option Bytes → Option Bytes → Option Bytes → Option Plan
demo_of kind size seed =
    option_and_then (λ k. option_and_then (λ n. option_map (plan.Demo k n) (seed_of seed)) (size_of size)) (kind_of kind)

abbrev pub trim_of : Option Bytes → Option Bytes → Option Bytes → Option Plan
trim_of formula proof out = option_map (λ (names : Bytes × Bytes × Bytes). plan.Trim names.0 names.1 names.2) (three_names formula proof out)

abbrev pub blast_of : Option Bytes → Option Bytes → Option Plan
blast_of formula out = option_map (λ (names : Bytes × Bytes). plan.Blast names.0 names.1) (two_names formula out)

abbrev pub affine_of : Option Bytes → Option Plan
affine_of = option_map plan.Affine

-- the plan that a command's values ask for
abbrev pub planned : Bytes → List Row → Option Plan
planned command values =
    if bytes_eq command (codes "solve")
    then solve_of (first_of (codes "formula") values) (first_of (codes "proof") values) (first_of (codes "conflicts") values) (first_of (codes "inprocess") values)
    else (if bytes_eq command (codes "check")
    then check_of (first_of (codes "formula") values) (first_of (codes "proof") values)
    else (if bytes_eq command (codes "elab")
    then elab_of (first_of (codes "formula") values) (first_of (codes "log") values) (first_of (codes "proof") values)
    else (if bytes_eq command (codes "model")
    then model_of (first_of (codes "formula") values) (first_of (codes "answer") values)
    else (if bytes_eq command (codes "demo")
    then demo_of (first_of (codes "kind") values) (first_of (codes "size") values) (first_of (codes "seed") values)
    else (if bytes_eq command (codes "trim")
    then trim_of (first_of (codes "formula") values) (first_of (codes "proof") values) (first_of (codes "out") values)
    else (if bytes_eq command (codes "blast")
    then blast_of (first_of (codes "formula") values) (first_of (codes "out") values)
    else (if bytes_eq command (codes "affine")
    then affine_of (first_of (codes "formula") values)
    else None)))))))
