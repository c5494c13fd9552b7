use Rattle.std.proofs.Common.{List, ℕ, ◌≡◌, ◌∙◌, sym, subst}
use Rattle.cx_base.specs.Literals.{Literal}
use Rattle.cx_base.specs.Problem.{parities_of}
use Rattle.gf2_space.specs.Solutions.{Solves}
use Rattle.gf2_space.specs.Spaces.{AffineSpace, IsSpaceOf}
use Rattle.gf2_space.specs.Kept.{space_of}
use Rattle.gf2_space.proofs.Filling.{kept_from}
use Rattle.gf2_space.proofs.Echelons.{clash_unmet, space_of_kept}
use Rattle.gf2_space.proofs.making.space.Goals as goal
use Rattle.gf2_space.proofs.making.space.Goals.{In_ok-rows}

vars_are : (c : In_ok-rows) → c.in_ok-rows.rows.vars ≡ c.args.formula.now.variables
vars_are c = c.in_ok-rows.ensures.vars_are ∙ c.vars.ensures.variables

given_are : (c : In_ok-rows) → c.in_ok-rows.rows.given ≡ parities_of c.args.formula.now.constraints
given_are c = c.in_ok-rows.ensures.given_are ∙ c.in_ok-parities.ensures.are

pub returns-then-clashes : goal.returns-then-clashes
returns-then-clashes c = λ v sv.
    let s = (goal.at.returns-then-clashes c).In_ok-rows in
    clash_unmet c.in_ok-rows.rows c.in_ok-rows.ensures.say (c.clashes.ensures.some c.if-clashes.true) v
    (subst (λ (n : ℕ). Solves n c.in_ok-rows.rows.given v) (sym (vars_are s))
    (subst (λ (g : List (List Literal)). Solves c.args.formula.now.variables g v) (sym (given_are s)) sv))

pub new-requires-clause-kept : goal.new-requires-clause-kept
new-requires-clause-kept c =
    kept_from c.vars.result c.in_ok-parities.parities c.in_ok-rows.rows c.in_ok-owners.owners.items c.deref.result.now c.in_ok-free.free.items c.in_ok-rows.ensures (c.clashes.ensures.none c.if-clashes.false)
    c.in_ok-owners.ensures c.deref.ensures.value c.in_ok-free.ensures

pub returns : goal.returns
returns c =
    let s = (goal.at.returns c).In_ok-rows in
    let m = c.in_ok-rows.rows in
    let owners = c.in_ok-owners.owners.items in
    let free = c.in_ok-free.free.items in
    let kept =
    kept_from c.vars.result c.in_ok-parities.parities m owners c.deref.result.now free c.in_ok-rows.ensures (c.clashes.ensures.none c.if-clashes.false) c.in_ok-owners.ensures c.deref.ensures.value
    c.in_ok-free.ensures in
    subst (λ (t : AffineSpace). IsSpaceOf c.args.formula.now.variables (parities_of c.args.formula.now.constraints) t) (sym c.new.ensures)
    (subst (λ (n : ℕ). IsSpaceOf n (parities_of c.args.formula.now.constraints) (space_of m owners free)) (vars_are s)
    (subst (λ (g : List (List Literal)). IsSpaceOf m.vars g (space_of m owners free)) (given_are s) (space_of_kept m owners free kept)))
