-- Prefixes of a list of steps are given one after another.
use Rattle.std.specs.Prelude.{refl, ◌+◌, [], ◌++◌, length}
use Rattle.std.proofs.Common.{sym, ap, ◌∙◌, append_assoc, length-append}
use Rattle.std.proofs.Math.Nat.{add_assoc, add-zero}
use Rattle.step_text.specs.Lists.{StepsLeft, GaveFront}

pub gave_nothing : {S : Type 0} (left : StepsLeft S) → GaveFront left left
gave_nothing left = record { front = []; split = refl; count = sym (add-zero left.given) }

pub gave_on : {S : Type 0} (a b c : StepsLeft S) → GaveFront a b → GaveFront b c → GaveFront a c
gave_on a b c h k = record {
  front = h.front ++ k.front;
  split = h.split ∙ ap (λ steps. h.front ++ steps) k.split ∙ sym (append_assoc h.front k.front c.steps);
  count = k.count ∙ ap (λ given. given + length k.front) h.count ∙ add_assoc a.given (length h.front) (length k.front) ∙ ap (λ more. a.given + more) (sym (length-append h.front k.front));
}
