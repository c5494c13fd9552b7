-- What waits in a buffer after what waited there, and what a desk shows with it.
use Rattle.std.proofs.Common.{◌≡◌, refl, sym, ap, ◌∙◌, ℕ, ◌+◌, ◌-◌, ◌≤◌, ◌++◌, length, take, drop, arith, length-take, length-drop, [], ◌∷◌, take-append-drop, Result, Ok, Err}
use Rattle.std.proofs.Math.Seq.{take-append-add, take-append_seam}
use Rattle.std.proofs.lemmas.List.{drop-append-le, drop-take}
use borrow.Rule.Slice.PartMut.{put_mid, post_of}
use Rattle.cx_desk.specs.Outside.{Bytes, Outside}
use Rattle.cx_desk.specs.declared.desk.Port.TheVariants.{Proof}
use Rattle.cx_desk.specs.Calls.{gained, WriteFaulted}
use Rattle.cx_desk.specs.Spooled.{with_waiting, Flushes, Finishes}
use Rattle.cx_desk.proofs.Moves.{gained-twice, gained-none}

-- bytes that were put after the part between two places
pub put_after : (at end n k : ℕ) (buffer more : Bytes) → at ≤ end → end ≤ length buffer → length more ≡ n
    → take ((end + n) - at) (drop at (put_mid end k buffer more)) ≡ take (end - at) (drop at buffer) ++ more
put_after at end n k buffer more low high count =
    let front = take end buffer in
    let all : length front ≡ end = omega (arith, high, length-take end buffer) in
    let kept = drop at front in
    let few : length kept ≡ end - at = omega (arith, all, length-drop at front) in
    let apart : drop at (put_mid end k buffer more) ≡ kept ++ (more ++ post_of end k buffer) = drop-append-le at front (more ++ post_of end k buffer) (omega (arith, low, all)) in
    let size : (end + n) - at ≡ length kept + n = omega (arith, few, low) in
    let end_is : at + (end - at) ≡ end = omega (arith, low) in
    let same : kept ≡ take (end - at) (drop at buffer) = ap (λ m. drop at (take m buffer)) (sym end_is) ∙ drop-take at (end - at) buffer in
    let whole : take n (more ++ post_of end k buffer) ≡ more = ap (λ m. take m (more ++ post_of end k buffer)) (sym count) ∙ take-append_seam more (post_of end k buffer) in
    (λ i. take (size i) (apart i)) ∙ take-append-add kept (more ++ post_of end k buffer) n ∙ (λ i. same i ++ whole i)

pub none_of : (bytes : Bytes) → length bytes ≡ 0 → bytes ≡ []
none_of [] h = refl
none_of (b ∷ bytes) h = absurd (omega (arith, h))

-- nothing waits
pub none_waits : (waits : Bytes) (o : Outside) → waits ≡ [] → o ≡ with_waiting waits o
none_waits waits o h = sym (gained-none Proof o) ∙ ap (λ (b : Bytes). gained Proof b o) (sym h)

-- a prefix of what waits was written
pub written_front : (waits : Bytes) (n : ℕ) (o p : Outside) → p ≡ gained Proof (take n waits) o → with_waiting (drop n waits) p ≡ with_waiting waits o
written_front waits n o p h =
    ap (with_waiting (drop n waits)) h ∙ (gained-twice Proof (take n waits) (drop n waits) o ∙ ap (λ (b : Bytes). gained Proof b o) (take-append-drop n waits))

-- a write that failed
pub write_failed : (waits : Bytes) (o p : Outside) → WriteFaulted o p → WriteFaulted (with_waiting waits o) (with_waiting waits p)
write_failed waits o p h = record { else_same = ap (with_waiting waits) h.else_same; rose = h.rose }

pub finishes : {T E : Type 0} (before after : Bytes) (old new : Outside) (r : Result T E) → Flushes old before r new after → Finishes (with_waiting before old) r new
finishes before after old new (Ok v) h = h.1
finishes before after old new (Err e) h = (after, h)
