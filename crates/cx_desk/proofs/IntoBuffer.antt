-- What a read into the end of a buffer did.
use Rattle.std.proofs.Common.{◌≡◌, sym, ap, ◌∙◌, ℕ, ◌≤◌, ◌++◌, length, take, drop, Result, Ok, Err, arith, length-take, length-drop}
use Rattle.std.proofs.Math.Seq.{drop-append_seam}
use Rattle.std.proofs.lemmas.List.{take-append-le}
use Rattle.std.proofs.lemmas.Slice.{take-put_mid_below}
use borrow.Rule.Slice.PartMut.{mid_of, post_of, put_mid, same_len_mid}
use Rattle.cx_desk.specs.declared.desk.Slot.{Slot}
use Rattle.cx_desk.specs.Gave.{piece}
use Rattle.cx_desk.specs.Outside.{Bytes, Outside}
use Rattle.cx_desk.specs.Calls.{taken, Reads, ReadsMore}

after_mid : (filled k : ℕ) (before into : Bytes) → filled ≤ length before → drop filled (put_mid filled k before into) ≡ into ++ post_of filled k before
after_mid filled k before into low =
    let count : length (take filled before) ≡ filled = omega (arith, low, length-take filled before) in
    ap (λ n. drop n (put_mid filled k before into)) (sym count) ∙ drop-append_seam (take filled before) (into ++ post_of filled k before)

pub read_mid : {E : Type 0} (slot : Slot) (filled k : ℕ) (before into : Bytes) (old new : Outside) (r : Result ℕ E) → filled ≤ length before
    → length into ≡ length (mid_of filled k before) → Reads slot into old r new → ReadsMore slot filled before old r (put_mid filled k before into) new
read_mid slot filled k before into old new (Ok n) low same h =
    let len : length (put_mid filled k before into) ≡ length before = same_len_mid filled k before into same in
    let front : take n (drop filled (put_mid filled k before into)) ≡ take n into = ap (take n) (after_mid filled k before into low) ∙ take-append-le n into (post_of filled k before) h.0 in
    record {
      len = len;
      fits = omega (arith, low, len, h.0, same, length-take k (drop filled before), length-drop filled before);
      front = take-put_mid_below filled k before into filled (omega arith) low;
      took = h.1 ∙ ap (λ (b : Bytes). taken slot (piece b) old) (sym front);
    }
read_mid slot filled k before into old new (Err e) low same h = h
