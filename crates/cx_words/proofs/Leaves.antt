-- The commands as clap builds them.
use Rattle.std.proofs.Common.{List, [], ◌∷◌, ◌++◌, refl, codes, true}
use Rattle.clap.specs.Simple.{Shape, built, new_shape}
use Rattle.clap.specs.Walk.{Row, Rule}
use Rattle.clap.proofs.OnLiterals.{clap_on_literals}
use Rattle.cx_desk.specs.Outside.{Bytes}
use Rattle.cx_words.specs.CommandLine.{cxsat}
use Rattle.cx_words.proofs.Enters.{Enters}
use Rattle.cx_words.proofs.Uses.{placed, chosen, switch}
use Rattle.cx_words.proofs.Runs.{Fills}
use Rattle.cx_words.proofs.Defaults.{Defaultless, no_fault, same_rows}
use Rattle.clap.specs.Simple.{filled, help_rule}

abbrev pub leaf : Bytes → List Rule → Shape
leaf name rules = record (new_shape name) { rules = rules ++ filled help_rule ∷ []; disable_help_subcommand = true; is_built = true }

abbrev pub solve_leaf : Shape
solve_leaf = leaf (codes "solve") (placed (codes "formula") 1 ∷ chosen (codes "proof") ∷ chosen (codes "conflicts") ∷ switch (codes "inprocess") ∷ [])

abbrev pub check_leaf : Shape
check_leaf = leaf (codes "check") (placed (codes "formula") 1 ∷ placed (codes "proof") 2 ∷ [])

abbrev pub elab_leaf : Shape
elab_leaf = leaf (codes "elab") (placed (codes "formula") 1 ∷ placed (codes "log") 2 ∷ placed (codes "proof") 3 ∷ [])

abbrev pub model_leaf : Shape
model_leaf = leaf (codes "model") (placed (codes "formula") 1 ∷ placed (codes "answer") 2 ∷ [])

abbrev pub demo_leaf : Shape
demo_leaf = leaf (codes "demo") (placed (codes "kind") 1 ∷ placed (codes "size") 2 ∷ placed (codes "seed") 3 ∷ [])

abbrev pub trim_leaf : Shape
trim_leaf = leaf (codes "trim") (placed (codes "formula") 1 ∷ placed (codes "proof") 2 ∷ placed (codes "out") 3 ∷ [])

abbrev pub blast_leaf : Shape
blast_leaf = leaf (codes "blast") (placed (codes "formula") 1 ∷ placed (codes "out") 2 ∷ [])

abbrev pub affine_leaf : Shape
affine_leaf = leaf (codes "affine") (placed (codes "formula") 1 ∷ [])

pub enters_solve : Enters (built cxsat) (codes "solve") solve_leaf
unfolding clap_on_literals
enters_solve = record { met = refl; fine = refl; command = refl; defaults = refl; complete = refl }

pub enters_check : Enters (built cxsat) (codes "check") check_leaf
unfolding clap_on_literals
enters_check = record { met = refl; fine = refl; command = refl; defaults = refl; complete = refl }

pub enters_elab : Enters (built cxsat) (codes "elab") elab_leaf
unfolding clap_on_literals
enters_elab = record { met = refl; fine = refl; command = refl; defaults = refl; complete = refl }

pub enters_model : Enters (built cxsat) (codes "model") model_leaf
unfolding clap_on_literals
enters_model = record { met = refl; fine = refl; command = refl; defaults = refl; complete = refl }

pub enters_demo : Enters (built cxsat) (codes "demo") demo_leaf
unfolding clap_on_literals
enters_demo = record { met = refl; fine = refl; command = refl; defaults = refl; complete = refl }

pub enters_trim : Enters (built cxsat) (codes "trim") trim_leaf
unfolding clap_on_literals
enters_trim = record { met = refl; fine = refl; command = refl; defaults = refl; complete = refl }

pub enters_blast : Enters (built cxsat) (codes "blast") blast_leaf
unfolding clap_on_literals
enters_blast = record { met = refl; fine = refl; command = refl; defaults = refl; complete = refl }

pub enters_affine : Enters (built cxsat) (codes "affine") affine_leaf
unfolding clap_on_literals
enters_affine = record { met = refl; fine = refl; command = refl; defaults = refl; complete = refl }

pub no_defaults : (s : Shape) (rows : List Row) → Defaultless s.rules → Fills s rows rows
no_defaults s rows none = record { fine = no_fault s.rules rows none; filled = same_rows s.rules rows none }
