use Rattle.std.proofs.Common.{◌≡◌, ◌<◌, true, sym, subst, inl, inr, length, arith}
use Rattle.cx_base.specs.Literals.{Literal}
use Rattle.clause_tidy.specs.Listing.{is_chosen}
use Rattle.clause_tidy.specs.Looks.{HasChosenAt}
use Rattle.clause_tidy.proofs.look.rarest.Goals as goal

pub loop-place-init : goal.loop-place-init
loop-place-init c = λ low. absurd (omega (arith, low))

pub loop-place-preserved : goal.loop-place-preserved
loop-place-preserved c = λ low.
    let chosen = c.args.chosen.now in
    let lits = c.args.lits.now in
    elim c.rarer-rarest.ensures [
      | inl same ↦ subst (HasChosenAt chosen lits) (sym same) (c.loop-place.invariant (subst (λ n. n < length lits) same low))
      | inr (is, holds) ↦ subst (HasChosenAt chosen lits) (sym is) holds
    ]

pub returns-then-rarest-lits : goal.returns-then-rarest-lits
returns-then-rarest-lits c =
    let low = c.if-rarest-lits.true in
    let is = c.index-lits-rarest.is in
    ((c.loop-place.rarest, low, sym is), subst (λ (l : Literal). is_chosen c.args.chosen.now l.variable ≡ true) (sym is) (c.loop-place.invariant low c.index-lits-rarest.result))
