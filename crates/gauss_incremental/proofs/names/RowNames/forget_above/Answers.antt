use Rattle.std.proofs.Common.{◌≡◌, ◌∙◌, Option, List, length, map, ap, sym, subst}
use Rattle.std.proofs.lemmas.List.{with_items_is}
use Rattle.parity_engine.specs.declared.state.Naming.{Naming}
use Rattle.parity_engine.specs.Namings.{keep_naming}
use Rattle.gauss_incremental.specs.Namings.{AreClashesAbove}
use Rattle.gauss_incremental.proofs.names.RowNames.forget_above.Goals as goal

pub take_back-count-requires : goal.take_back-count-requires
take_back-count-requires c =
    rw (c.deref.ensures.value, c.deref_mut.ensures.value)
    (record { order = c.self.invariant; clashes = subst (AreClashesAbove c.args.level) (sym c.self.view_is) c.requires })

pub invariant_of-self : goal.invariant_of-self
invariant_of-self c =
    let m = c.self.inside in
    let now = c.take_back-count.new.named in
    let long : length now ≡ length m.named.items = c.take_back-count.auto.named ∙ ap length c.deref_mut.ensures.value in
    rw (with_items_is m.named now (long ∙ sym m.named.ok.0)) (rw c.deref.ensures.value at c.take_back-count.ensures.order)

pub returns : goal.returns
returns c =
    let m = c.self.inside in
    let now = c.take_back-count.new.named in
    let long : length now ≡ length m.named.items = c.take_back-count.auto.named ∙ ap length c.deref_mut.ensures.value in
    with_items_is m.named now (long ∙ sym m.named.ok.0)
    ∙ c.take_back-count.ensures.named
    ∙ ap (λ (ns : List (Option Naming)). map (keep_naming c.args.level) ns) (c.deref_mut.ensures.value ∙ c.self.view_is)
