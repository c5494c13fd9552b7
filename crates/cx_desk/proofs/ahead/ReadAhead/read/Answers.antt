use Rattle.std.proofs.Common.{◌≡◌, ◌∙◌, ap, ◌+◌, ◌-◌, ◌≤◌, ◌++◌, length, take, drop, arith, length-take, length-drop}
use Rattle.std.proofs.Math.Seq.{take-add}
use Rattle.cx_desk.proofs.Buffers.{written_over}
use Rattle.cx_desk.proofs.ahead.ReadAhead.read.Goals as goal

pub returns : goal.returns
returns g c =
    let r = c.self.inside in
    let n = c.in_ok-count.count in
    let kept = r.filled - r.at in
    let buffer = c.grow.new.buffer in
    let after = c.read_after.new.buffer in
    let more = rw c.deref_mut.ensures.value at c.in_ok-count.ensures.more in
    let whole = written_over buffer.len after buffer.items buffer.ok.0 more.len in
    let fits : kept + n ≤ length after = more.fits in
    let front : take kept after ≡ c.args.self.now = more.front ∙ c.grow.ensures.front ∙ c.move_down.ensures.front ∙ c.self.view_is in
    rw whole (record {
      came = take n (drop kept after);
      count = (let e : length (take n (drop kept after)) ≡ n = omega (arith, length-take n (drop kept after), length-drop kept after) in e);
      few = c.in_ok-count.ensures.few;
      after_is = ap (λ m. take m after) (let e : (kept + n) - 0 ≡ kept + n = omega arith in e) ∙ take-add kept n after ∙ ap (λ bs. bs ++ take n (drop kept after)) front;
      took = more.took;
    })
