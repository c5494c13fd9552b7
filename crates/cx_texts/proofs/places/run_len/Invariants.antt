use Rattle.std.proofs.Common.{◌≡◌, ℕ, ◌-◌, ◌≤◌, ◌<◌, false, length, get_or}
use Rattle.cx_texts.specs.Tokens.{is_blank}
use Rattle.cx_texts.proofs.places.run_len.Given as goal

abbrev pub invariant-loop-len : goal.invariant-loop-len
invariant-loop-len l = (l.len ≤ length l.text) × ((k : ℕ) → k < l.len → is_blank (get_or l.text k 0) ≡ false)

abbrev pub decreases-loop-len : goal.decreases-loop-len
decreases-loop-len l = length l.text - l.len
