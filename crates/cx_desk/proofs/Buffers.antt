-- What lies in the buffer of a text that is read.
use Rattle.std.proofs.Common.{◌≡◌, ◌+◌, ◌==◌, ℕ, ◌++◌, length, take, drop, ap, sym, ◌∙◌, arith, length-take, length-drop}
use Rattle.std.proofs.Math.Seq.{take-add, take-append_seam}
use Rattle.cx_desk.specs.declared.desk.Slot.{Slot}
use Rattle.cx_desk.specs.Gave.{part, piece}
use Rattle.cx_desk.specs.Outside.{Bytes, Outside}
use Rattle.cx_desk.specs.Calls.{taken, MoreOf}
use Rattle.cx_desk.proofs.Moves.{took-then, none-at}

-- a buffer all of whose bytes were written over
pub written_over : (len : ℕ) (bytes before : Bytes) → len ≡ length before → length bytes ≡ length before
    → take len (bytes ++ drop (length bytes) before) ≡ bytes
written_over len bytes before whole same =
    rw (whole, ← same) (take-append_seam bytes (drop (length bytes) before))

-- bytes that came before the end, and what came after them
pub took-more : (slot : Slot) (filled n : ℕ) (before after : Bytes) (start old new : Outside)
    → old ≡ taken slot (part (take filled before)) start → MoreOf slot filled before old n after new
    → new ≡ taken slot (record { bytes = take (filled + n) after; ended = n == 0 }) start
took-more slot filled n before after start old new first more =
    let next = take n (drop filled after) in
    let all : take (filled + n) after ≡ take filled before ++ next = take-add filled n after ∙ ap (λ (x : Bytes). x ++ next) more.front in
    let count : length next ≡ n = omega (arith, more.fits, length-take n (drop filled after), length-drop filled after) in
    took-then slot (part (take filled before)) (piece next) start old new first more.took ∙ (λ i. taken slot (record { bytes = sym all i; ended = none-at next n count i }) start)
