use Rattle.std.proofs.Common.{◌≡◌, ◌≤◌, ◌||◌, ◌++◌, ◌∙◌, refl, sym, ap, false, List, ℕ, length, take, drop, arith, length-take}
use Rattle.std.proofs.Math.Seq.{take-add, take-append_seam}
use Rattle.cx_desk.specs.Gave.{is_none}
use Rattle.cx_desk.specs.Place.{bytes_at}
use Rattle.cx_desk.proofs.Moves.{none-at, not-none, or-none}
use Rattle.cx_desk.proofs.memory.place.FilePlace.read.Goals as goal

pub returns-else-count-eq0-clause-moves : goal.returns-else-count-eq0-clause-moves
returns-else-count-eq0-clause-moves c =
    let p = c.args.self.now in
    let n = c.min-count.result in
    let text = bytes_at c.args.files.now p.file in
    let rest = c.rest-rest.result.now in
    let copied = c.copy_from_slice.new.self in
    let into = copied ++ drop n c.args.into.now in
    let few : n ≤ length rest = omega (arith, c.min.ensures, c.min-count.ensures) in
    let size : length copied ≡ n = omega (arith, ap length c.copy_from_slice.ensures.after, length-take n rest, few) in
    let front : take n into ≡ copied = ap (λ m. take m into) (sym size) ∙ take-append_seam copied (drop n c.args.into.now) in
    let came : take n into ≡ take n (drop p.at text) = front ∙ c.copy_from_slice.ensures.after ∙ ap (take n) c.rest-rest.ensures in
    let some : is_none (take n into) ≡ false = none-at (take n into) n (ap length front ∙ size) ∙ not-none n c.if-count-eq0.false in
    record {
      count = omega (arith, c.min.ensures, c.min-count.ensures, ap length c.rest-rest.ensures);
      name = refl;
      file = refl;
      gave = λ i. record {
        bytes = (take-add p.at n text ∙ ap (λ (b : List ℕ). take p.at text ++ b) (sym came)) i;
        ended = (sym (or-none p.ended) ∙ ap (λ e. p.ended || e) (sym some)) i;
      };
    }
