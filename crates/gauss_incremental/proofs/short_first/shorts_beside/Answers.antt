use Rattle.std.proofs.Common.{◌≡◌, ◌∙◌, Option, None, ap, arith, length}
use Rattle.std.specs.Prelude.{replicate}
use Rattle.parity_engine.specs.declared.state.Naming.{Naming}
use Rattle.gauss_incremental.proofs.short_first.shorts_beside.Goals as goal

pub returns : goal.returns
returns c =
    let shorts = c.in_ok-shorts in
    let many : c.len.result ≡ length shorts.shorts.items = omega arith in
    record {
      each = shorts.ensures.each;
      few = shorts.ensures.few;
      unnamed = c.in_ok-named.ensures ∙ ap (λ n. replicate n (let o : Option Naming = None in o)) many;
    }
