-- What a source of steps answers.
use Rattle.std.specs.Prelude.{◌≡◌, ◌<◌, ◌≤◌, ◌^◌, ℕ, Bool, true, false, List, [], ◌∷◌, Option, Some, None, Result, Ok, Err, ⊤}
use Rattle.cx_base.specs.Counts.{Rose}
use Rattle.cx_base.specs.Endings.{Ending, finished, bad_token, too_big, unterminated}
use Rattle.step_text.specs.declared.source.TextRefusal.{TextRefusal}
use Rattle.step_text.specs.declared.source.TextRefusal.TheVariants.{BadToken, Unterminated, TooBig, TooLong, Memory, Failed}

-- The relation `leaves` says which steps and which ending a state of the source has left.
module _ {X S : Type 0} (leaves : X → List S → Ending → Type 0) where
  -- nothing is left but this ending, before the call and after it
  abbrev pub EndsAs : Ending → X → X → Type 0
  EndsAs ending old new = leaves old [] ending × leaves new [] ending

  -- no step, since the text ends so; a text that is too long, out of memory and a fault say nothing of the text
  abbrev pub GivesNone : TextRefusal → X → X → Type 0
  GivesNone (BadToken place) old new = EndsAs (bad_token place) old new
  GivesNone (Unterminated place) old new = EndsAs (unterminated place) old new
  GivesNone (TooBig place) old new = EndsAs (too_big place) old new
  GivesNone TooLong old new = ⊤
  GivesNone Memory old new = ⊤
  GivesNone Failed old new = ⊤

  -- what was left is the step and what is left now, or nothing but the ending
  abbrev pub Gives : X → Result (Option S) TextRefusal → X → Type 0
  Gives old (Ok (Some step)) new = (steps : List S) (ending : Ending) → leaves new steps ending → leaves old (step ∷ steps) ending
  Gives old (Ok None) new = EndsAs finished old new
  Gives old (Err refusal) new = GivesNone refusal old new

-- the faults rose where the answer is a fault, and otherwise stay
abbrev pub FaultsAs : {T : Type 0} → Result T TextRefusal → ℕ → ℕ → Type 0
FaultsAs (Ok answer) before now = now ≡ before
FaultsAs (Err Failed) before now = Rose before now
FaultsAs (Err (BadToken place)) before now = now ≡ before
FaultsAs (Err (Unterminated place)) before now = now ≡ before
FaultsAs (Err (TooBig place)) before now = now ≡ before
FaultsAs (Err TooLong) before now = now ≡ before
FaultsAs (Err Memory) before now = now ≡ before

-- once memory ran out, and after a fault, the source is not asked again
abbrev pub SpentAs : {T : Type 0} → Result T TextRefusal → Bool → Type 0
SpentAs (Ok answer) spent = spent ≡ false
SpentAs (Err Failed) spent = spent ≡ true
SpentAs (Err Memory) spent = spent ≡ true
SpentAs (Err (BadToken place)) spent = spent ≡ false
SpentAs (Err (Unterminated place)) spent = spent ≡ false
SpentAs (Err (TooBig place)) spent = spent ≡ false
SpentAs (Err TooLong) spent = spent ≡ false

-- a refusal of the text lasts; out of memory and a fault of reading do not
abbrev pub lasting : TextRefusal → Option TextRefusal
lasting (BadToken place) = Some (BadToken place)
lasting (Unterminated place) = Some (Unterminated place)
lasting (TooBig place) = Some (TooBig place)
lasting TooLong = Some TooLong
lasting Memory = None
lasting Failed = None

-- the refusal that a source goes on giving after an answer
abbrev pub lasting_of : {T : Type 0} → Result T TextRefusal → Option TextRefusal
lasting_of (Ok answer) = None
lasting_of (Err refusal) = lasting refusal

-- a source that is stuck answers its refusal again and stays stuck on it; another one is stuck on its answer, if that lasts
abbrev pub StuckAs : {T : Type 0} → Option TextRefusal → Result T TextRefusal → Option TextRefusal → Type 0
StuckAs (Some refusal) answer now = (answer ≡ Err refusal) × (now ≡ Some refusal)
StuckAs None answer now = now ≡ lasting_of answer

-- a text is too long only where the source does not tell that it keeps within its limit, and its end comes only where the
-- source does not tell that it passes it
abbrev pub IsTooLongOnly : {S : Type 0} → Option Bool → Result (Option S) TextRefusal → Type 0
IsTooLongOnly passes (Ok (Some step)) = ⊤
IsTooLongOnly passes (Ok None) = ¬ (passes ≡ Some true)
IsTooLongOnly passes (Err TooLong) = ¬ (passes ≡ Some false)
IsTooLongOnly passes (Err (BadToken place)) = ⊤
IsTooLongOnly passes (Err (Unterminated place)) = ⊤
IsTooLongOnly passes (Err (TooBig place)) = ⊤
IsTooLongOnly passes (Err Memory) = ⊤
IsTooLongOnly passes (Err Failed) = ⊤

-- a step raises the place, and nothing lowers it
abbrev pub PlaceRises : {S : Type 0} → Result (Option S) TextRefusal → ℕ → ℕ → Type 0
PlaceRises (Ok (Some step)) before now = before < now
PlaceRises (Ok None) before now = before ≤ now
PlaceRises (Err refusal) before now = before ≤ now

-- whether the source may be asked again, what it goes on giving, and its faults
pub record StandsAfter {X T : Type 0} (is_spent : X → Bool) (stuck_on : X → Option TextRefusal) (faults_of : X → ℕ) (old : X) (result : Result T TextRefusal) (new : X) : Type 0 where
  pub spent : SpentAs result (is_spent new)
  pub stuck : StuckAs (stuck_on old) result (stuck_on new)
  pub faults : FaultsAs result (faults_of old) (faults_of new)

-- the place rises at a step, up to a bound below 2^62 that never changes
pub record Advances {X S : Type 0} (place farthest : X → ℕ) (old : X) (result : Result (Option S) TextRefusal) (new : X) : Type 0 where
  pub rises : PlaceRises result (place old) (place new)
  pub within : place new ≤ farthest new
  pub far : farthest new < 2 ^ 62
  pub bound : farthest new ≡ farthest old
