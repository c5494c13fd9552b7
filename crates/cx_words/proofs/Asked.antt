-- A command whose values are found asks for their plan.
use Rattle.std.proofs.Common.{◌≡◌, ◌∙◌, ℕ, List, [], ◌∷◌, Some, false, ap}
use Rattle.clap.specs.Walk.{Row}
use Rattle.clap.specs.Simple.{Shape, built}
use Rattle.clap.specs.Faults.{check_fault}
use Rattle.cx_desk.specs.Outside.{Bytes}
use Rattle.cx_words.specs.declared.plans.Plan.{Plan}
use Rattle.cx_words.specs.CommandLine.{cxsat}
use Rattle.cx_words.specs.Given.{planned}
use Rattle.cx_words.specs.Words.{Asks, plan_of}
use Rattle.std.specs.Prelude.{option_and_then}
use Rattle.cx_words.proofs.Enters.{Enters, enters_command, enters_fine}
use Rattle.cx_words.proofs.Runs.{Fills, Finds, found_fine, found_rows}

pub asks : (program name : Bytes) (leaf : Shape) (words : List Bytes) (place : ℕ) (rows all : List Row) (plan : Plan)
    → Enters (built cxsat) name leaf → leaf.args_override_self ≡ false → Fills leaf rows all
    → Finds leaf words place rows → check_fault leaf all false ≡ [] → planned leaf.name all ≡ Some plan → Asks (program ∷ name ∷ words) plan
unfolding plan_of
asks program name leaf words place rows all plan enters once fills finds complete is_planned = record {
  taken = enters_fine (built cxsat) name leaf enters words (found_fine leaf words place rows all fills once finds complete);
  asked = ap (option_and_then (λ (found : Bytes × List Row). planned found.0 found.1)) (enters_command (built cxsat) name leaf enters words)
      ∙ ap (planned leaf.name) (found_rows leaf words place rows all fills finds) ∙ is_planned;
}
