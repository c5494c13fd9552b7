-- What a command asks of the desk: the names of its words, in the order of its calls.
use Rattle.std.specs.Prelude.{◌≡◌, Bool, true, false, [], Option, Some, None}
use Rattle.cx_desk.specs.declared.desk.Slot.{Slot}
use Rattle.cx_desk.specs.declared.desk.Slot.TheVariants as slot
use Rattle.cx_desk.specs.Outside.{Bytes, Files, Asked}
use Rattle.cx_words.specs.declared.plans.Plan.{Plan}
use Rattle.cx_words.specs.declared.plans.Plan.TheVariants as plan
use Rattle.solve_cli.specs.Seen.{Seen, asks, creates, text_named}

-- ---- the names

-- the formula's file
abbrev pub formula_of : Plan → Option Bytes
formula_of (plan.Solve formula log options) = Some formula
formula_of (plan.Check formula proof) = Some formula
formula_of (plan.Elab formula log proof) = Some formula
formula_of (plan.Model formula answer) = Some formula
formula_of (plan.Demo kind size seed) = None
formula_of (plan.Trim formula proof out) = Some formula
formula_of (plan.Blast formula out) = Some formula
formula_of (plan.Affine formula) = Some formula

-- the file of the text that is judged
abbrev pub second_of : Plan → Option Bytes
second_of (plan.Solve formula log options) = None
second_of (plan.Check formula proof) = Some proof
second_of (plan.Elab formula log proof) = Some log
second_of (plan.Model formula answer) = Some answer
second_of (plan.Demo kind size seed) = None
second_of (plan.Trim formula proof out) = Some proof
second_of (plan.Blast formula out) = None
second_of (plan.Affine formula) = None

-- the file that the Proof port is given
abbrev pub proof_of : Plan → Option Bytes
proof_of (plan.Solve formula log options) = log
proof_of (plan.Check formula proof) = None
proof_of (plan.Elab formula log proof) = Some proof
proof_of (plan.Model formula answer) = None
proof_of (plan.Demo kind size seed) = None
proof_of (plan.Trim formula proof out) = Some out
proof_of (plan.Blast formula out) = Some out
proof_of (plan.Affine formula) = None

-- the commands that write on the Proof port, with a file or without
abbrev pub writes_proof : Plan → Bool
writes_proof (plan.Solve formula log options) = true
writes_proof (plan.Check formula proof) = false
writes_proof (plan.Elab formula log proof) = true
writes_proof (plan.Model formula answer) = false
writes_proof (plan.Demo kind size seed) = true
writes_proof (plan.Trim formula proof out) = true
writes_proof (plan.Blast formula out) = true
writes_proof (plan.Affine formula) = false

-- ---- the calls

-- no name was asked for
pub record Unasked (a : Asked) : Type 0 where
  pub formula : a.formula ≡ None
  pub second : a.second ≡ None
  pub proof : a.proof ≡ None

-- How far a command went: its formula's slot was started; then its second slot; then the Proof port
-- was given its file. A command goes past the calls for which it has no name.
pub data Stage : Type 0 where
  formula_started : Stage
  second_started : Stage
  proof_created : Stage

abbrev pub starts : Slot → Option Bytes → Seen → Seen
starts slot None s = s
starts slot (Some name) s = asks slot name s

abbrev pub gives_file : Option Bytes → Seen → Seen
gives_file None s = s
gives_file (Some name) s = creates name s

-- the names were asked for as far as this stage, and each of these calls came through
abbrev pub asked_to : Stage → Plan → Seen → Seen
asked_to formula_started p s = starts slot.Formula (formula_of p) s
asked_to second_started p s = starts slot.Second (second_of p) (starts slot.Formula (formula_of p) s)
asked_to proof_created p s = gives_file (proof_of p) (starts slot.Second (second_of p) (starts slot.Formula (formula_of p) s))

-- ---- the texts

-- the second text; empty for a command that has none
abbrev pub text_of : Option Bytes → Files → Bytes
text_of None files = []
text_of (Some name) files = text_named name files

abbrev pub second_text : Plan → Files → Bytes
second_text p files = text_of (second_of p) files
