-- What one read gave of a slot, of which nothing is kept.
use Rattle.std.proofs.Common.{◌≡◌, ℕ, ◌≤◌, length, take, Result, Ok, Err, arith, length-take}
use Rattle.cx_desk.specs.declared.desk.Slot.{Slot}
use Rattle.cx_desk.specs.Outside.{Bytes, Outside}
use Rattle.cx_desk.specs.Calls.{PassesOver, Reads}
use Rattle.cx_desk.proofs.Moves.{piece-some}

pub within_front : (k : ℕ) (buffer after : Bytes) (most : ℕ) → length after ≡ length (take k buffer) → k ≤ most → length after ≤ most
within_front k buffer after most same few = omega (arith, same, few, length-take k buffer)

-- what a read of at most this many bytes did
pub read_over : {E : Type 0} (slot : Slot) (most : ℕ) (bytes : Bytes) (old new : Outside) (r : Result ℕ E) → length bytes ≤ most → Reads slot bytes old r new → PassesOver slot most old r new
read_over slot most bytes old new (Ok n) few h = (omega (arith, h.0, few), piece-some slot (take n bytes) n old new (omega (arith, h.0, length-take n bytes)) h.1)
read_over slot most bytes old new (Err e) few h = h
