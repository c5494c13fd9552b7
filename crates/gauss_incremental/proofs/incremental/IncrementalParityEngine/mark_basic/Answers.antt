use Rattle.std.proofs.Common.{◌≡◌, ◌<◌, ◌∙◌, ℕ, List, Option, None, Some, length, get_or, sym, subst, arith}
use Rattle.gf2_matrix.proofs.Updates.{same_read}
use Rattle.gf2_matrix.specs.Content.{Content}
use Rattle.gauss_incremental.specs.Basics.{AreBasic, IsOwn}
use Rattle.gauss_incremental.specs.Engine.{Stand}
use Rattle.gauss_incremental.proofs.incremental.IncrementalParityEngine.mark_basic.Goals as goal

basic_in : (c : Content) (basics : List (Option ℕ)) → AreBasic c basics → (r k : ℕ) (d : Option ℕ) → r < length basics → get_or basics r d ≡ Some k → k < length c.columns
basic_in c basics is r k d lt at =
    let own : IsOwn c r (Some k) = subst (IsOwn c r) (same_read basics r None d lt ∙ at) (is.own r (let l = is.long in omega arith)) in
    own.0

pub mark_variables_of-requires-clause-columns : goal.mark_variables_of-requires-clause-columns
mark_variables_of-requires-clause-columns c =
    let m = c.self.inside in
    subst (λ (cs : List (Option ℕ)). (r k : ℕ) (d : Option ℕ) → r < length cs → get_or cs r d ≡ Some k → k < length m.matrix.columns) (sym c.deref.ensures.value)
    (basic_in m.matrix m.basics.items c.self.invariant.parts.basic)

pub mark_variables_of-requires-clause-long : goal.mark_variables_of-requires-clause-long
mark_variables_of-requires-clause-long c = subst (λ (s : Stand). length c.args.basic.now ≡ s.state.vars) (sym c.self.view_is) c.requires
