-- One argument with one value, or a flag: what a walk makes of its words.
use Rattle.std.proofs.Common.{◌≡◌, ◌∙◌, ◌+◌, ℕ, Bool, List, [], ◌∷◌, ◌++◌, Some, None, Option, false, true, refl, append-nil, codes}
use Rattle.std.specs.Prelude.{min}
use Rattle.std.proofs.lemmas.Bool.{or_parts}
use Rattle.std.proofs.Math.Bool.{and-false}
use Rattle.std.specs.Str.{bytes_eq}
use Rattle.clap.specs.Lexer.{long_of, short_of, usize_max}
use Rattle.clap.specs.Walk.{Held, Row, Rule, Walk, Waiting, walked, idle, option, at_row, has_row, more_values, settled_rows, arg_by_id, arg_by_index, arg_by_long}
use Rattle.clap.specs.Simple.{Shape, new_rule}
use Rattle.clap.specs.Faults.{turn_fault, settle_fault}
use Rattle.clap.specs.declared.builder.ArgAction.TheVariants.{Set, SetTrue}
use Rattle.clap.specs.declared.builder.ValueParser.TheVariants as vp
use Rattle.clap.specs.declared.parser.matches.ValueSource.TheVariants.{CommandLine}
use Rattle.clap.specs.declared.builder.value_parser.Reading.TheVariants.{AsWritten}
use Rattle.cx_desk.specs.Outside.{Bytes}

-- an argument that takes one value, as clap builds it
abbrev pub single : Bytes → Option Bytes → Option ℕ → Bool → Rule
single id long index required = record (new_rule id) {
  long = long;
  index = index;
  required = required;
  action = Some Set;
  parser = Some vp.String;
  range = Some (record { start_inclusive = 1; end_inclusive = 1 });
}

-- in its place, and as an option
abbrev pub placed : Bytes → ℕ → Rule
placed id place = single id None (Some place) true

abbrev pub chosen : Bytes → Rule
chosen id = single id (Some id) None false

-- a flag, as clap builds it
abbrev pub switch : Bytes → Rule
switch id = record (new_rule id) {
  long = Some id;
  action = Some SetTrue;
  defaults = codes "false" ∷ [];
  missing = codes "true" ∷ [];
  parser = Some vp.Bool;
  range = Some (record { start_inclusive = 0; end_inclusive = 0 });
}

-- what is found for an argument with a value
abbrev pub row : Bytes → Bytes → Row
row id value = record { id = id; values = value ∷ []; count = None; source = Some CommandLine; reading = AsWritten }

abbrev pub Pending : Type 0
Pending = Option (Bytes × List Bytes)

abbrev pub holding : List Row → Pending → Held
holding rows pending = record { rows = rows; pending = pending; skip = 0 }

abbrev pub at : List Row → Pending → Waiting → ℕ → Walk
at rows pending waiting place = record { held = holding rows pending; waiting = waiting; position = place; is_trailing = false; stopped = None }

pub at_new_row : (id : Bytes) (change : Row → List Row) (missing rows : List Row) → has_row id rows ≡ false → at_row id change missing rows ≡ rows ++ missing
at_new_row id change missing [] none = refl
at_new_row id change missing (r ∷ rs) none =
    let two = or_parts (bytes_eq r.id id) (has_row id rs) none in
    rw (two.0, at_new_row id change missing rs two.1) refl

-- a first value makes a new row, and is no fault
pub settles : (rules : List Rule) (id : Bytes) (long : Option Bytes) (index : Option ℕ) (required : Bool) (rows : List Row) (value : Bytes)
    → arg_by_id rules id ≡ Some (single id long index required) → has_row id rows ≡ false
    → settled_rows rules (Some (id, value ∷ [])) rows ≡ rows ++ row id value ∷ []
settles rules id long index required rows value known new =
    rw (known, at_new_row id _ [] rows new, append-nil) (at_new_row id (more_values CommandLine (value ∷ [])) _ rows new)

pub settles_fine : (rules : List Rule) (id : Bytes) (long : Option Bytes) (index : Option ℕ) (required : Bool) (rows : List Row) (value : Bytes)
    → arg_by_id rules id ≡ Some (single id long index required) → has_row id rows ≡ false
    → settle_fault rules false (holding rows (Some (id, value ∷ []))) ≡ []
settles_fine rules id long index required rows value known new = rw (known, new) refl

-- what is found for a flag that is given
abbrev pub switched : Bytes → Row
switched id = row id (codes "true")

-- the word is no flag, and neither `-abc` nor `--`
pub record NoFlag (word : Bytes) : Type 0 where
  pub long : long_of word ≡ None
  pub short : short_of word ≡ None
  pub dashes : bytes_eq word (45 ∷ 45 ∷ []) ≡ false

-- one word takes a walk from here to there, and is no fault
pub record Turn (s : Shape) (from : Walk) (word : Bytes) (to : Walk) : Type 0 where
  pub met : walked s.rules [] from word ≡ to
  pub fine : turn_fault s [] from word ≡ []

-- a value in its place
pub place_met : (s : Shape) (rows : List Row) (pending : Pending) (id : Bytes) (place : ℕ) (word : Bytes)
    → arg_by_index s.rules place ≡ Some (placed id place) → NoFlag word → settle_fault s.rules false (holding rows pending) ≡ [] → s.args_override_self ≡ false
    → Turn s (at rows pending idle place) word (at (settled_rows s.rules pending rows) (Some (id, word ∷ [])) idle (min (place + 1) usize_max))
unfolding walked
place_met s rows None id place word known plain fine once = record {
  met = rw (plain.dashes, plain.long, plain.short, known) refl;
  fine = rw (plain.dashes, plain.long, plain.short, known) refl;
}
place_met s rows (Some p) id place word known plain fine once = record {
  met = rw (plain.dashes, plain.long, plain.short, known, and-false (bytes_eq p.0 id)) refl;
  fine = rw (plain.dashes, plain.long, plain.short, known, and-false (bytes_eq p.0 id), once) fine;
}

-- the name of an option
pub option_met : (s : Shape) (rows : List Row) (pending : Pending) (id word : Bytes) (place : ℕ)
    → arg_by_long s.rules id ≡ Some (chosen id) → long_of word ≡ Some (id, None) → bytes_eq word (45 ∷ 45 ∷ []) ≡ false
    → settle_fault s.rules false (holding rows pending) ≡ [] → s.args_override_self ≡ false
    → Turn s (at rows pending idle place) word (at (settled_rows s.rules pending rows) (Some (id, [])) (option id) place)
unfolding walked
option_met s rows pending id word place known named dashes fine once = record {
  met = rw (dashes, named, known) refl;
  fine = rw (dashes, named, known, once) (rw fine refl);
}

-- its value
pub value_met : (s : Shape) (rows : List Row) (id word : Bytes) (place : ℕ)
    → arg_by_id s.rules id ≡ Some (chosen id) → NoFlag word → bytes_eq id id ≡ true
    → Turn s (at rows (Some (id, [])) (option id) place) word (at rows (Some (id, word ∷ [])) idle place)
unfolding walked
value_met s rows id word place known plain same = record {
  met = rw (plain.dashes, plain.long, plain.short, known, same) refl;
  fine = rw (plain.dashes, plain.long, plain.short) refl;
}

-- a flag
pub switch_met : (s : Shape) (rows : List Row) (pending : Pending) (id word : Bytes) (place : ℕ)
    → arg_by_long s.rules id ≡ Some (switch id) → long_of word ≡ Some (id, None) → bytes_eq word (45 ∷ 45 ∷ []) ≡ false
    → settle_fault s.rules false (holding rows pending) ≡ [] → s.args_override_self ≡ false → has_row id (settled_rows s.rules pending rows) ≡ false
    → Turn s (at rows pending idle place) word (at (settled_rows s.rules pending rows ++ switched id ∷ []) None idle place)
unfolding walked
switch_met s rows pending id word place known named dashes fine once new =
    let before = settled_rows s.rules pending rows in
    let gone : at_row id (λ _. []) [] before ≡ before = at_new_row id (λ _. []) [] before new ∙ append-nil before in
    record {
      met = rw (dashes, named, known, gone, at_new_row id (more_values CommandLine (codes "true" ∷ [])) (switched id ∷ []) before new) refl;
      fine = rw (dashes, named, known, once, fine, new) refl;
    }
