-- Plain words of `solve` are taken, whatever the order of its arguments.
use Rattle.std.proofs.Common.{◌≡◌, ◌≢◌, ◌∙◌, ◌||◌, ℕ, Bool, true, false, List, [], ◌∷◌, ◌++◌, map, Option, Some, None, refl, sym, subst, ap, codes, append_assoc, append-nil}
use Rattle.std.specs.Prelude.{IfSome, flat_map}
use Rattle.std.specs.Str.{bytes_eq}
use Rattle.std.proofs.lemmas.Bool.{or_parts}
use Rattle.clap.specs.Takes.{is_given}
use Rattle.clap.specs.Simple.{filled, help_rule}
use Rattle.clap.specs.Walk.{Row, Rule, first_of, has_row, more_values, with_default}
use Rattle.clap.specs.declared.builder.value_parser.Reading.TheVariants.{AsWritten}
use Rattle.clap.specs.declared.parser.matches.ValueSource.TheVariants.{DefaultValue}
use Rattle.clap.proofs.OnLiterals.{clap_on_literals}
use Rattle.cx_desk.specs.Outside.{Bytes}
use Rattle.cx_words.specs.declared.plans.Plan.TheVariants as plan
use Rattle.cx_words.specs.declared.plans.SearchOptions.{SearchOptions}
use Rattle.cx_words.specs.Given.{conflicts_of, is_set, logged, planned, solve_of}
use Rattle.cx_words.specs.Words.{Asks}
use Rattle.cx_words.specs.PlainWords.{Argument, IsBudget, IsName, PlainSolve, conflicts_in, conflicts_option, flagged, flags_in, formula_in, formula_word, inprocess_option, listed, log_in, proof_option, words_of}
use Rattle.cx_words.proofs.Asked.{asks}
use Rattle.cx_words.proofs.Defaults.{filled_at, fine_at, if_same}
use Rattle.cx_words.proofs.Leaves.{enters_solve, solve_leaf}
use Rattle.cx_words.proofs.PlainTexts.{apart, formula_plain, name_plain, number_plain, number_read}
use Rattle.cx_words.proofs.Runs.{Fills, Finds, finds_chosen, finds_nothing, finds_placed, finds_switched}
use Rattle.cx_words.proofs.Uses.{NoFlag, at_new_row, chosen, placed, row, switch, switched}

-- ---- what is found for the arguments

abbrev row_of : Argument → Row
row_of (formula_word name) = row (codes "formula") name
row_of (proof_option name) = row (codes "proof") name
row_of (conflicts_option text) = row (codes "conflicts") text
row_of inprocess_option = switched (codes "inprocess")

abbrev first : List Bytes → Option Bytes
first [] = None
first (x ∷ xs) = Some x

-- what clap finds for the flag where it is not given
abbrev unset : Row
unset = record { id = codes "inprocess"; values = codes "false" ∷ []; count = None; source = Some DefaultValue; reading = AsWritten }

-- what the default values add
abbrev added : Bool → List Row
added true = []
added false = unset ∷ []

first_formula : (inprocess : Bool) (args : List Argument) → first_of (codes "formula") (map row_of args ++ added inprocess) ≡ first (flat_map formula_in args)
first_formula true [] = refl
first_formula false [] = refl
first_formula inprocess (formula_word name ∷ rest) = refl
first_formula inprocess (proof_option name ∷ rest) = first_formula inprocess rest
first_formula inprocess (conflicts_option text ∷ rest) = first_formula inprocess rest
first_formula inprocess (inprocess_option ∷ rest) = first_formula inprocess rest

first_log : (inprocess : Bool) (args : List Argument) → first_of (codes "proof") (map row_of args ++ added inprocess) ≡ first (flat_map log_in args)
first_log true [] = refl
first_log false [] = refl
first_log inprocess (formula_word name ∷ rest) = first_log inprocess rest
first_log inprocess (proof_option name ∷ rest) = refl
first_log inprocess (conflicts_option text ∷ rest) = first_log inprocess rest
first_log inprocess (inprocess_option ∷ rest) = first_log inprocess rest

first_conflicts : (inprocess : Bool) (args : List Argument) → first_of (codes "conflicts") (map row_of args ++ added inprocess) ≡ first (flat_map conflicts_in args)
first_conflicts true [] = refl
first_conflicts false [] = refl
first_conflicts inprocess (formula_word name ∷ rest) = first_conflicts inprocess rest
first_conflicts inprocess (proof_option name ∷ rest) = first_conflicts inprocess rest
first_conflicts inprocess (conflicts_option text ∷ rest) = refl
first_conflicts inprocess (inprocess_option ∷ rest) = first_conflicts inprocess rest

formula_given : (inprocess : Bool) (args : List Argument) (name : Bytes) → flat_map formula_in args ≡ name ∷ [] → is_given (codes "formula") (map row_of args ++ added inprocess) ≡ true
formula_given inprocess [] name once = cc
formula_given inprocess (formula_word f ∷ rest) name once = refl
formula_given inprocess (proof_option l ∷ rest) name once = formula_given inprocess rest name once
formula_given inprocess (conflicts_option n ∷ rest) name once = formula_given inprocess rest name once
formula_given inprocess (inprocess_option ∷ rest) name once = formula_given inprocess rest name once

flag_found : (inprocess : Bool) (args : List Argument) → flat_map flags_in args ≡ flagged inprocess → has_row (codes "inprocess") (map row_of args) ≡ inprocess
flag_found true [] once = cc
flag_found false [] once = refl
flag_found inprocess (formula_word name ∷ rest) once = flag_found inprocess rest once
flag_found inprocess (proof_option name ∷ rest) once = flag_found inprocess rest once
flag_found inprocess (conflicts_option text ∷ rest) once = flag_found inprocess rest once
flag_found true (inprocess_option ∷ rest) once = refl
flag_found false (inprocess_option ∷ rest) once = cc

flag_read : (inprocess : Bool) (args : List Argument) → flat_map flags_in args ≡ flagged inprocess → is_set (first_of (codes "inprocess") (map row_of args ++ added inprocess)) ≡ inprocess
flag_read true [] once = cc
flag_read false [] once = refl
flag_read inprocess (formula_word name ∷ rest) once = flag_read inprocess rest once
flag_read inprocess (proof_option name ∷ rest) once = flag_read inprocess rest once
flag_read inprocess (conflicts_option text ∷ rest) once = flag_read inprocess rest once
flag_read true (inprocess_option ∷ rest) once = refl
flag_read false (inprocess_option ∷ rest) once = cc

abbrev before_flag : List Rule
before_flag = placed (codes "formula") 1 ∷ chosen (codes "proof") ∷ chosen (codes "conflicts") ∷ []

fills : (inprocess : Bool) (rows : List Row) → has_row (codes "inprocess") rows ≡ inprocess → Fills solve_leaf rows (rows ++ added inprocess)
unfolding clap_on_literals
fills inprocess rows is = record {
  fine = fine_at before_flag (switch (codes "inprocess")) (filled help_rule ∷ []) rows (refl, (refl, (refl, tt))) (refl, tt) (if_same (has_row (codes "inprocess") rows || false) []);
  filled = filled_at before_flag (switch (codes "inprocess")) (filled help_rule ∷ []) rows (refl, (refl, (refl, tt))) (refl, tt) ∙ with_flag inprocess is;
}
  where
    with_flag : (inprocess : Bool) → has_row (codes "inprocess") rows ≡ inprocess → with_default rows (switch (codes "inprocess")) ≡ rows ++ added inprocess
    with_flag true is = rw (is, append-nil rows) refl
    with_flag false is = rw is (at_new_row (codes "inprocess") (more_values DefaultValue (codes "false" ∷ [])) (unset ∷ []) rows is)

-- ---- the words are walked over

-- these values are still to come for the id: at most one, which is no flag, and none came before
abbrev Awaits : List Row → Bytes → List Bytes → Type 0
Awaits rows id [] = Unit {0}
Awaits rows id (v ∷ []) = (has_row id rows ≡ false) × NoFlag v
Awaits rows id (v ∷ w ∷ rest) = ⊥

-- a formula that is still to come has the first place
abbrev InPlace : ℕ → List Bytes → Type 0
InPlace place [] = Unit {0}
InPlace place (v ∷ rest) = place ≡ 1

record Next (rows : List Row) (id v : Bytes) (rest : List Bytes) : Type 0 where
  new : has_row id rows ≡ false
  plain : NoFlag v
  last : rest ≡ []

next : (rows : List Row) (id v : Bytes) (rest : List Bytes) → Awaits rows id (v ∷ rest) → Next rows id v rest
next rows id v [] h = record { new = h.0; plain = h.1; last = refl }
next rows id v (w ∷ rest) h = absurd h

new_after : (rows : List Row) (id : Bytes) (other : Row) → bytes_eq other.id id ≡ false → has_row id rows ≡ false → has_row id (rows ++ other ∷ []) ≡ false
new_after [] id other differ new = rw differ refl
new_after (r ∷ rs) id other differ new =
    let two = or_parts (bytes_eq r.id id) (has_row id rs) new in
    rw (two.0, new_after rs id other differ two.1) refl

still : (rows : List Row) (id : Bytes) (other : Row) (values : List Bytes) → bytes_eq other.id id ≡ false → Awaits rows id values → Awaits (rows ++ other ∷ []) id values
still rows id other [] differ h = h
still rows id other (v ∷ []) differ h = (new_after rows id other differ h.0, h.1)
still rows id other (v ∷ w ∷ rest) differ h = absurd h

-- the flag is still to come at most once, and did not come before
abbrev IsUnused : List Row → List Bytes → Type 0
IsUnused rows [] = Unit {0}
IsUnused rows (w ∷ []) = has_row (codes "inprocess") rows ≡ false
IsUnused rows (w ∷ v ∷ rest) = ⊥

next_flag : (rows : List Row) (w : Bytes) (rest : List Bytes) → IsUnused rows (w ∷ rest) → (has_row (codes "inprocess") rows ≡ false) × (rest ≡ [])
next_flag rows w [] h = (h, refl)
next_flag rows w (v ∷ rest) h = absurd h

still_unused : (rows : List Row) (other : Row) (words : List Bytes) → bytes_eq other.id (codes "inprocess") ≡ false → IsUnused rows words → IsUnused (rows ++ other ∷ []) words
still_unused rows other [] differ h = h
still_unused rows other (w ∷ []) differ h = new_after rows (codes "inprocess") other differ h
still_unused rows other (w ∷ v ∷ rest) differ h = absurd h

record Ready (place : ℕ) (rows : List Row) (args : List Argument) : Type 0 where
  formulas : Awaits rows (codes "formula") (flat_map formula_in args)
  in_place : InPlace place (flat_map formula_in args)
  logs : Awaits rows (codes "proof") (flat_map log_in args)
  budgets : Awaits rows (codes "conflicts") (flat_map conflicts_in args)
  flags : IsUnused rows (flat_map flags_in args)

abbrev Found : List Bytes → List Row → Type 0
Found words rows = (place : ℕ) × Finds solve_leaf words place rows

joined : (words more last : List Bytes) (rows : List Row) (r : Row) (others : List Row)
    → Found ((words ++ more) ++ last) ((rows ++ r ∷ []) ++ others) → Found (words ++ (more ++ last)) (rows ++ r ∷ others)
joined words more last rows r others found =
    subst (λ (w : List Bytes). Found w (rows ++ r ∷ others)) (append_assoc words more last)
    (subst (Found ((words ++ more) ++ last)) (append_assoc rows (r ∷ []) others) found)

walks : (args : List Argument) (words : List Bytes) (place : ℕ) (rows : List Row) → Finds solve_leaf words place rows → Ready place rows args
    → Found (words ++ flat_map words_of args) (rows ++ map row_of args)
walks [] words place rows finds ready = (place, rw (append-nil words, append-nil rows) finds)
walks (formula_word f ∷ args) words place rows finds ready =
    let n = next rows (codes "formula") f (flat_map formula_in args) ready.formulas in
    let here : Finds solve_leaf words 1 rows = subst (λ (k : ℕ). Finds solve_leaf words k rows) ready.in_place finds in
    joined words (f ∷ []) (flat_map words_of args) rows (row_of (formula_word f)) (map row_of args)
    (walks args (words ++ f ∷ []) 2 (rows ++ row_of (formula_word f) ∷ [])
    (finds_placed solve_leaf words 1 rows (codes "formula") f here refl refl refl n.new n.plain)
    (record {
      formulas = subst (Awaits (rows ++ row_of (formula_word f) ∷ []) (codes "formula")) (sym n.last) tt;
      in_place = subst (InPlace 2) (sym n.last) tt;
      logs = still rows (codes "proof") (row_of (formula_word f)) (flat_map log_in args) refl ready.logs;
      budgets = still rows (codes "conflicts") (row_of (formula_word f)) (flat_map conflicts_in args) refl ready.budgets;
      flags = still_unused rows (row_of (formula_word f)) (flat_map flags_in args) refl ready.flags;
    }))
walks (proof_option l ∷ args) words place rows finds ready =
    let n = next rows (codes "proof") l (flat_map log_in args) ready.logs in
    joined words (codes "--proof" ∷ l ∷ []) (flat_map words_of args) rows (row_of (proof_option l)) (map row_of args)
    (walks args (words ++ codes "--proof" ∷ l ∷ []) place (rows ++ row_of (proof_option l) ∷ [])
    (finds_chosen solve_leaf words place rows (codes "proof") (codes "--proof") l finds refl refl refl refl refl refl n.new n.plain)
    (record {
      formulas = still rows (codes "formula") (row_of (proof_option l)) (flat_map formula_in args) refl ready.formulas;
      in_place = ready.in_place;
      logs = subst (Awaits (rows ++ row_of (proof_option l) ∷ []) (codes "proof")) (sym n.last) tt;
      budgets = still rows (codes "conflicts") (row_of (proof_option l)) (flat_map conflicts_in args) refl ready.budgets;
      flags = still_unused rows (row_of (proof_option l)) (flat_map flags_in args) refl ready.flags;
    }))
walks (conflicts_option t ∷ args) words place rows finds ready =
    let n = next rows (codes "conflicts") t (flat_map conflicts_in args) ready.budgets in
    joined words (codes "--conflicts" ∷ t ∷ []) (flat_map words_of args) rows (row_of (conflicts_option t)) (map row_of args)
    (walks args (words ++ codes "--conflicts" ∷ t ∷ []) place (rows ++ row_of (conflicts_option t) ∷ [])
    (finds_chosen solve_leaf words place rows (codes "conflicts") (codes "--conflicts") t finds refl refl refl refl refl refl n.new n.plain)
    (record {
      formulas = still rows (codes "formula") (row_of (conflicts_option t)) (flat_map formula_in args) refl ready.formulas;
      in_place = ready.in_place;
      logs = still rows (codes "proof") (row_of (conflicts_option t)) (flat_map log_in args) refl ready.logs;
      budgets = subst (Awaits (rows ++ row_of (conflicts_option t) ∷ []) (codes "conflicts")) (sym n.last) tt;
      flags = still_unused rows (row_of (conflicts_option t)) (flat_map flags_in args) refl ready.flags;
    }))
walks (inprocess_option ∷ args) words place rows finds ready =
    let n = next_flag rows (codes "--inprocess") (flat_map flags_in args) ready.flags in
    joined words (codes "--inprocess" ∷ []) (flat_map words_of args) rows (row_of inprocess_option) (map row_of args)
    (walks args (words ++ codes "--inprocess" ∷ []) place (rows ++ row_of inprocess_option ∷ [])
    (finds_switched solve_leaf words place rows (codes "inprocess") (codes "--inprocess") finds refl refl refl refl n.0)
    (record {
      formulas = still rows (codes "formula") (row_of inprocess_option) (flat_map formula_in args) refl ready.formulas;
      in_place = ready.in_place;
      logs = still rows (codes "proof") (row_of inprocess_option) (flat_map log_in args) refl ready.logs;
      budgets = still rows (codes "conflicts") (row_of inprocess_option) (flat_map conflicts_in args) refl ready.budgets;
      flags = subst (IsUnused (rows ++ row_of inprocess_option ∷ [])) (sym n.1) tt;
    }))

-- ---- the plan

log_awaited : (to : Option Bytes) → IfSome to IsName → Awaits [] (codes "proof") (listed to)
log_awaited None h = tt
log_awaited (Some l) h = (refl, name_plain l h)

number_awaited : (given : Option Bytes) (budget : ℕ) → IsBudget given budget → Awaits [] (codes "conflicts") (listed given)
number_awaited None budget h = tt
number_awaited (Some text) budget h = (refl, number_plain text budget h.spelt)

first_once : (to : Option Bytes) → first (listed to) ≡ to
first_once None = refl
first_once (Some l) = refl

logged_is : (name : Bytes) (to : Option Bytes) → IfSome to (λ l. name ≢ l) → logged (Some name) to ≡ Some (name, to)
logged_is name None h = refl
logged_is name (Some l) h = rw (apart name l h) refl

conflicts_are : (given : Option Bytes) (budget : ℕ) → IsBudget given budget → conflicts_of given ≡ Some budget
conflicts_are None budget h = ap (λ (n : ℕ). Some n) (sym h)
conflicts_are (Some text) budget h = number_read 1 1000000000000000000 text budget h

flag_awaited : (inprocess : Bool) → IsUnused [] (flagged inprocess)
flag_awaited true = refl
flag_awaited false = tt

solve_is : (name : Bytes) (to given flag : Option Bytes) (options : SearchOptions) → IfSome to (λ l. name ≢ l) → IsBudget given options.conflicts → is_set flag ≡ options.inprocess
    → solve_of (Some name) to given flag ≡ Some (plan.Solve name to options)
solve_is name to given flag options differ number set = rw (logged_is name to differ, conflicts_are given options.conflicts number, set) refl

planned_is : (name : Bytes) (to : Option Bytes) (options : SearchOptions) (words : List Bytes) (h : PlainSolve name to options words)
    → planned (codes "solve") (map row_of h.arguments ++ added options.inprocess) ≡ Some (plan.Solve name to options)
planned_is name to options words h =
    let rows = map row_of h.arguments ++ added options.inprocess in
    let formula_is : first_of (codes "formula") rows ≡ Some name = first_formula options.inprocess h.arguments ∙ ap first h.formula_once in
    let log_is : first_of (codes "proof") rows ≡ to = first_log options.inprocess h.arguments ∙ ap first h.log_at_most_once ∙ first_once to in
    let number_is : first_of (codes "conflicts") rows ≡ h.number_text = first_conflicts options.inprocess h.arguments ∙ ap first h.conflicts_at_most_once ∙ first_once h.number_text in
    let flag = first_of (codes "inprocess") rows in
    rw (formula_is, log_is, number_is) (solve_is name to h.number_text flag options h.differ h.budget (flag_read options.inprocess h.arguments h.inprocess_at_most_once))

ready : (name : Bytes) (to : Option Bytes) (options : SearchOptions) (words : List Bytes) (h : PlainSolve name to options words) → Ready 1 [] h.arguments
ready name to options words h = record {
  formulas = subst (Awaits [] (codes "formula")) (sym h.formula_once) (refl, formula_plain name h.formula_name);
  in_place = subst (InPlace 1) (sym h.formula_once) refl;
  logs = subst (Awaits [] (codes "proof")) (sym h.log_at_most_once) (log_awaited to h.log_name);
  budgets = subst (Awaits [] (codes "conflicts")) (sym h.conflicts_at_most_once) (number_awaited h.number_text options.conflicts h.budget);
  flags = subst (IsUnused []) (sym h.inprocess_at_most_once) (flag_awaited options.inprocess);
}

pub solve_asked : (words : List Bytes) (name : Bytes) (to : Option Bytes) (options : SearchOptions) → PlainSolve name to options words → Asks words (plan.Solve name to options)
solve_asked words name to options h =
    let found = walks h.arguments [] 1 [] (finds_nothing solve_leaf) (ready name to options words h) in
    let rows = map row_of h.arguments in
    let filled = fills options.inprocess rows (flag_found options.inprocess h.arguments h.inprocess_at_most_once) in
    subst (λ (w : List Bytes). Asks w (plan.Solve name to options)) (sym h.spelt)
    (asks h.program (codes "solve") solve_leaf (flat_map words_of h.arguments) found.0 rows (rows ++ added options.inprocess) (plan.Solve name to options)
    enters_solve refl filled found.1
    (rw (formula_given options.inprocess h.arguments name h.formula_once) refl) (planned_is name to options words h))
