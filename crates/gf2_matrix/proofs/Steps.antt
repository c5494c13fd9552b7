-- Steps of a walk over the positions below an end.
use Rattle.std.proofs.Common.{ℕ, ◌+◌, ◌-◌, ◌*◌, ◌<◌, ◌≤◌, Fits, arith}
use Rattle.cx_base.specs.declared.literal.TheConstants.{MAX_VARIABLE}
use mir.Syntax.{w64}

pub later : {a b c : ℕ} → a ≤ b → b ≤ c → a ≤ c
later ab bc = omega arith

pub before_still : {a b c : ℕ} → a < b → b ≤ c → a < c
before_still ab bc = omega arith

pub later_still : {a b c : ℕ} → a ≤ b → b ≤ c → a ≤ c + 1
later_still ab bc = omega arith

-- the next step begins behind a position that this one found
pub nearer : {from at end : ℕ} → from ≤ at → at < end → end - (at + 1) < end - from
nearer low within = omega arith

pub up_to : {at end : ℕ} → at < end → at + 1 ≤ end
up_to within = omega arith

pub bit_step_fits : {at words : ℕ} → at < 64 * words → words < 4294967296 → Fits w64 (at + 1)
bit_step_fits within few = omega arith

pub column_step_fits : {at columns vars : ℕ} → at < columns → columns ≤ vars → vars ≤ MAX_VARIABLE → Fits w64 (at + 1)
column_step_fits within few small = omega arith

pub below : {a : ℕ} → a ≤ 4294967295 → a < 4294967296
below le = omega arith
