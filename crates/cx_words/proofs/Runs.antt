-- Words of a command, one argument after the other.
use Rattle.std.proofs.Common.{◌≡◌, ◌∙◌, ◌+◌, ℕ, List, [], ◌∷◌, ◌++◌, Some, None, false, true, refl, sym, ap, fold, append-nil, append_assoc}
use Rattle.std.specs.Prelude.{min}
use Rattle.std.specs.Str.{bytes_eq}
use Rattle.clap.specs.Lexer.{long_of, usize_max}
use Rattle.clap.specs.Kinds.{Kinds, or_else}
use Rattle.clap.specs.Walk.{Row, Rule, Walk, walk, walked, walk_from, nothing_held, idle, has_row, settled, settled_rows, arg_by_id, arg_by_index, arg_by_long, rows_after, finished, with_default}
use Rattle.clap.specs.Simple.{Shape}
use Rattle.clap.specs.Faults.{level_fault, walk_fault, settle_fault, defaults_fault, check_fault}
use Rattle.cx_desk.specs.Outside.{Bytes}
use Rattle.cx_words.proofs.Uses.{Pending, NoFlag, Turn, at, chosen, holding, option_met, place_met, placed, row, settles, settles_fine, switch, switch_met, switched, value_met}

-- words take a walk from here to there, and none is a fault
pub record Passes (s : Shape) (from : Walk) (words : List Bytes) (to : Walk) : Type 0 where
  pub met : fold (walked s.rules []) from words ≡ to
  pub fine : (rest : List Bytes) → walk_fault s [] from (words ++ rest) ≡ walk_fault s [] to rest

pub one_word : (s : Shape) (from : Walk) (word : Bytes) (to : Walk) → Turn s from word to → Passes s from (word ∷ []) to
unfolding walk_fault
one_word s from word to t = record {
  met = t.met;
  fine = λ rest. rw (t.fine, t.met) refl;
}

fold_more : (c : List Rule) (from : Walk) (words more : List Bytes) → fold (walked c []) from (words ++ more) ≡ fold (walked c []) (fold (walked c []) from words) more
fold_more c from [] more = refl
fold_more c from (w ∷ words) more = fold_more c (walked c [] from w) words more

pub then : (s : Shape) (from : Walk) (words : List Bytes) (mid : Walk) (more : List Bytes) (to : Walk) → Passes s from words mid → Passes s mid more to → Passes s from (words ++ more) to
then s from words mid more to a b = record {
  met = fold_more s.rules from words more ∙ ap (λ (w : Walk). fold (walked s.rules []) w more) a.met ∙ b.met;
  fine = λ rest. ap (walk_fault s [] from) (append_assoc words more rest) ∙ a.fine (more ++ rest) ∙ b.fine rest;
}

-- after these words of the command the rows are found, with no fault so far
pub record Finds (s : Shape) (words : List Bytes) (place : ℕ) (rows : List Row) : Type 0 where
  pub before : List Row
  pub pending : Pending
  pub passes : Passes s (walk_from nothing_held) words (at before pending idle place)
  pub found : settled_rows s.rules pending before ≡ rows
  pub fine : settle_fault s.rules false (holding before pending) ≡ []

pub finds_nothing : (s : Shape) → Finds s [] 1 []
finds_nothing s = record {
  before = [];
  pending = None;
  passes = record { met = refl; fine = λ rest. refl };
  found = refl;
  fine = refl;
}

-- a value in its place
pub finds_placed : (s : Shape) (words : List Bytes) (place : ℕ) (rows : List Row) (id value : Bytes)
    → Finds s words place rows → s.args_override_self ≡ false → arg_by_index s.rules place ≡ Some (placed id place) → arg_by_id s.rules id ≡ Some (placed id place)
    → has_row id rows ≡ false → NoFlag value → Finds s (words ++ value ∷ []) (min (place + 1) usize_max) (rows ++ row id value ∷ [])
finds_placed s words place rows id value f once at_place known new plain = record {
  before = settled_rows s.rules f.pending f.before;
  pending = Some (id, value ∷ []);
  passes = then s _ words _ (value ∷ []) _ f.passes (one_word s _ value _ (place_met s f.before f.pending id place value at_place plain f.fine once));
  found = rw f.found (settles s.rules id None (Some place) true rows value known new);
  fine = rw f.found (settles_fine s.rules id None (Some place) true rows value known new);
}

-- an option with its value
pub finds_chosen : (s : Shape) (words : List Bytes) (place : ℕ) (rows : List Row) (id word value : Bytes)
    → Finds s words place rows → s.args_override_self ≡ false → arg_by_long s.rules id ≡ Some (chosen id) → arg_by_id s.rules id ≡ Some (chosen id)
    → long_of word ≡ Some (id, None) → bytes_eq word (45 ∷ 45 ∷ []) ≡ false → bytes_eq id id ≡ true
    → has_row id rows ≡ false → NoFlag value → Finds s (words ++ word ∷ value ∷ []) place (rows ++ row id value ∷ [])
finds_chosen s words place rows id word value f once by_long known named dashes same new plain = record {
  before = settled_rows s.rules f.pending f.before;
  pending = Some (id, value ∷ []);
  passes = then s _ words _ (word ∷ value ∷ []) _ f.passes
      (then s _ (word ∷ []) _ (value ∷ []) _
      (one_word s _ word _ (option_met s f.before f.pending id word place by_long named dashes f.fine once))
      (one_word s _ value _ (value_met s (settled_rows s.rules f.pending f.before) id value place known plain same)));
  found = rw f.found (settles s.rules id (Some id) None false rows value known new);
  fine = rw f.found (settles_fine s.rules id (Some id) None false rows value known new);
}

-- a flag
pub finds_switched : (s : Shape) (words : List Bytes) (place : ℕ) (rows : List Row) (id word : Bytes)
    → Finds s words place rows → s.args_override_self ≡ false → arg_by_long s.rules id ≡ Some (switch id)
    → long_of word ≡ Some (id, None) → bytes_eq word (45 ∷ 45 ∷ []) ≡ false
    → has_row id rows ≡ false → Finds s (words ++ word ∷ []) place (rows ++ switched id ∷ [])
finds_switched s words place rows id word f once by_long named dashes new = record {
  before = settled_rows s.rules f.pending f.before ++ switched id ∷ [];
  pending = None;
  passes = then s _ words _ (word ∷ []) _ f.passes
      (one_word s _ word _ (switch_met s f.before f.pending id word place by_long named dashes f.fine once (ap (has_row id) f.found ∙ new)));
  found = ap (λ (r : List Row). r ++ switched id ∷ []) f.found;
  fine = refl;
}

-- the default values make of these rows those, with no fault
pub record Fills (s : Shape) (rows all : List Row) : Type 0 where
  pub fine : defaults_fault rows s.rules ≡ []
  pub filled : fold with_default rows s.rules ≡ all

abbrev after : Shape → Walk → Kinds
after s end = or_else (settle_fault s.rules s.args_override_self end.held)
    (or_else (defaults_fault (settled s.rules end.held).rows s.rules) (check_fault s (finished s.rules end.held) false))

pub found_rows : (s : Shape) (words : List Bytes) (place : ℕ) (rows all : List Row) → Fills s rows all → Finds s words place rows → rows_after s.rules [] words ≡ all
found_rows s words place rows all fills f = ap (λ (w : Walk). finished s.rules w.held) f.passes.met ∙ ap (λ (r : List Row). fold with_default r s.rules) f.found ∙ fills.filled

pub found_fine : (s : Shape) (words : List Bytes) (place : ℕ) (rows all : List Row) → Fills s rows all → s.args_override_self ≡ false → Finds s words place rows
    → check_fault s all false ≡ [] → level_fault s [] nothing_held words false [] ≡ []
unfolding walk_fault
found_fine s words place rows all fills once f complete =
    let no_word : walk_fault s [] (walk_from nothing_held) words ≡ [] = ap (walk_fault s [] (walk_from nothing_held)) (sym (append-nil words)) ∙ f.passes.fine [] in
    ap (λ (k : Kinds). or_else k (after s (walk s.rules [] nothing_held words))) no_word
    ∙ ap (after s) f.passes.met
    ∙ rw (once, f.fine, f.found, fills.fine, fills.filled) complete
