use Rattle.std.proofs.Common.{◌≡◌, ◌∙◌, ◌++◌, ◌∷◌, ◌||◌, [], List, ap, sym, subst, length, drop, ◌-◌, arith}
use Rattle.std.specs.List.{list_any}
use Rattle.std.proofs.lemmas.List.{length-map}
use Rattle.cx_base.specs.Drafts.{Draft}
use Rattle.cx_base.specs.Literals.{Literal, same_literal}
use Rattle.cx_base.specs.Problem.{AreWithin}
use Rattle.cx_base.specs.Assumptions.{assumed_by}
use Rattle.cx_base.specs.Assumed.{is_marked}
use Rattle.cx_base.specs.Heads.{of_kind, stored}
use Rattle.cx_base.specs.declared.formula.ConstraintHead.{ConstraintHead}
use Rattle.cx_base.proofs.Drafting.{ended, ended_view, open_within, open_slice}
use Rattle.cx_base.proofs.AssumedLaws.{assumed_pushed}
use Rattle.cx_base.proofs.PlaceLaws.{places_pushed}
use Rattle.cx_base.proofs.builder.FormulaBuilder.end.Goals as goal

pub invariant_of-self-2 : goal.invariant_of-self-2
invariant_of-self-2 c =
    let lits = c.self.inside.lits.items in
    let heads = c.self.inside.heads.items in
    let head : ConstraintHead = record { kind = c.args.kind; start = c.self.inside.closed; len = c.len.result - c.self.inside.closed } in
    let long : c.len.result ≡ length lits = omega arith in
    let after : c.len-self-inside.result ≡ length lits = omega arith in
    let open_len : c.len.result - c.self.inside.closed ≡ length lits - c.self.inside.closed = omega arith in
    let grown : c.push_reserved.new.self.items ≡ heads ++ head ∷ [] = c.push_reserved.ensures.items ∙ ap (λ hs. hs ++ head ∷ []) c.in_ok-reserve.ensures.items in
    let place : c.len-place.result ≡ length heads = omega arith in
    let slice = open_slice c.self.inside.closed lits c.deref.result.now c.self.invariant.0.reach c.deref.ensures.value in (
      ended _ _ (c.len.result - c.self.inside.closed) _ _ _ _ c.args.kind c.self.invariant.0 open_len after grown,
      places_pushed _ _ _ _ _ _ c.args.kind _ c.len-place.result c.self.invariant.1
          (ap (λ (d : Draft). d.constraints) (ended_view _ _ (c.len.result - c.self.inside.closed) _ _ _ _ c.args.kind c.self.invariant.0 open_len after grown))
          (omega (arith, place, length-map heads (stored lits)))
          c.in_ok-push.ensures.clauses c.in_ok-push.ensures.parities,
      assumed_pushed _ _ _ _ _ (of_kind c.args.kind (drop c.self.inside.closed lits)) c.self.invariant.2
          (ap (λ (d : Draft). d.constraints) (ended_view _ _ (c.len.result - c.self.inside.closed) _ _ _ _ c.args.kind c.self.invariant.0 open_len after grown))
          c.in_ok-reserve-2.ensures.same c.in_ok-reserve-2.ensures.few
          (subst (λ (xs : List Literal). (l : Literal) → is_marked c.mark.new.self.marks.items l ≡ (is_marked c.reserve-2.new.self.marks.items l || list_any (same_literal l) (assumed_by (of_kind c.args.kind xs)))) slice c.mark.ensures.marked)
          c.mark.ensures.len,
    )

pub mark-requires-clause-within : goal.mark-requires-clause-within
mark-requires-clause-within c =
    subst (AreWithin c.self.inside.greatest) (sym (open_slice c.self.inside.closed c.self.inside.lits.items c.deref.result.now c.self.invariant.0.reach c.deref.ensures.value))
    (open_within _ _ _ _ c.self.invariant.0)
