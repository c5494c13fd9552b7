-- The command line that clap is given: eight commands, with their names, values and options.
use Rattle.std.specs.Prelude.{List, [], ◌∷◌, fold, true, Some, codes}
use Rattle.clap.specs.Words.{App, Rule, Text, new_app, new_rule, with_rule, with_subcommand}
use Rattle.clap.specs.declared.builder.ArgAction.TheVariants.{Set, SetTrue}

-- a word with a fixed place
abbrev pub needed : Text → Rule
needed id = record (new_rule id) { required = true; action = Some Set }

-- an option, with the value that follows it
abbrev pub optional : Text → Rule
optional id = record (new_rule id) { long = Some id; action = Some Set }

-- an option without a value
abbrev pub flag : Text → Rule
flag id = record (new_rule id) { long = Some id; action = Some SetTrue }

-- a command with its arguments
abbrev pub command : Text → List Rule → App
command name rules = fold with_rule (new_app name) rules

abbrev pub solve : App
solve = command (codes "solve") (needed (codes "formula") ∷ optional (codes "proof") ∷ optional (codes "conflicts") ∷ flag (codes "inprocess") ∷ [])

abbrev pub check : App
check = command (codes "check") (needed (codes "formula") ∷ needed (codes "proof") ∷ [])

abbrev pub elab : App
elab = command (codes "elab") (needed (codes "formula") ∷ needed (codes "log") ∷ needed (codes "proof") ∷ [])

abbrev pub model : App
model = command (codes "model") (needed (codes "formula") ∷ needed (codes "answer") ∷ [])

abbrev pub demo : App
demo = command (codes "demo") (needed (codes "kind") ∷ needed (codes "size") ∷ needed (codes "seed") ∷ [])

abbrev pub trim : App
trim = command (codes "trim") (needed (codes "formula") ∷ needed (codes "proof") ∷ needed (codes "out") ∷ [])

abbrev pub blast : App
blast = command (codes "blast") (needed (codes "formula") ∷ needed (codes "out") ∷ [])

abbrev pub affine : App
affine = command (codes "affine") (needed (codes "formula") ∷ [])

-- the program, which has to be given a command
abbrev pub bare : App
bare = let a = new_app (codes "cxsat") in record a { top = record a.top { subcommand_required = true } }

abbrev pub cxsat : App
cxsat = fold (λ (a c : App). with_subcommand a c.top) bare (solve ∷ check ∷ elab ∷ model ∷ demo ∷ trim ∷ blast ∷ affine ∷ [])
