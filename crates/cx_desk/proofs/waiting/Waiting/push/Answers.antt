use Rattle.std.proofs.Common.{◌≡◌, ◌∙◌, ap, ◌+◌, ◌-◌, ◌++◌, ◌≤◌, ◌<◌, ℕ, Bool, List, length, take, drop, arith, length-take}
use borrow.Rule.Slice.PartMut.{put_mid, same_len_mid}
use Rattle.cx_desk.proofs.Buffers.{written_over}
use Rattle.cx_desk.proofs.Waits.{put_after}
use Rattle.cx_desk.proofs.waiting.Waiting.push.Goals as goal

pub returns : goal.returns
returns c =
    let r = c.self.inside in
    let n = c.min-count.result in
    let piece = c.args.piece.now in
    let items = r.buffer.items in
    let is : take (r.end - r.at) (drop r.at items) ≡ c.args.self.now.0 = ap (λ (x : List ℕ × Bool). x.0) c.self.view_is in
    let after = c.copy_from_slice.ensures.after in
    let inv = c.self.invariant in
    let whole_buffer = c.deref_mut.result.now in
    let more = c.copy_from_slice.new.self in
    let k = (r.end + n) - r.end in
    let mid = put_mid r.end k whole_buffer more in
    let len : length mid ≡ length items = same_len_mid r.end k whole_buffer more c.copy_from_slice.ensures.len ∙ ap length c.deref_mut.ensures.value in
    let same = written_over r.buffer.len mid items r.buffer.ok.0 len in
    let free : r.end < length items = inv.3 (ap (λ (x : List ℕ × Bool). x.1) c.self.view_is ∙ c.requires.room) in
    let few : n ≤ length piece = omega (arith, c.min-count.ensures) in
    let count : length more ≡ n = omega (arith, ap length after, length-take n piece, few) in
    let high : r.end ≤ length whole_buffer = omega (arith, inv.1, ap length c.deref_mut.ensures.value) in
    record {
      some = omega (arith, c.min-count.ensures, c.requires.some, free, inv.2);
      high = few;
      bytes = ap (λ (b : List ℕ). take ((r.end + n) - r.at) (drop r.at b)) same ∙ put_after r.at r.end n k whole_buffer more inv.0 high count
          ∙ (λ i. (ap (λ (b : List ℕ). take (r.end - r.at) (drop r.at b)) c.deref_mut.ensures.value ∙ is) i ++ after i);
    }
