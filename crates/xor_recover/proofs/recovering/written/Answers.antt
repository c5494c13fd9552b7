use Rattle.std.proofs.Common.{◌≡◌, ◌≢◌, ◌∙◌, ◌&&◌, ◌<◌, ◌≤◌, ℕ, Bool, true, false, not, eqb, List, length, get_or, take, refl, sym, ap, arith}
use Rattle.std.proofs.lemmas.Bool.{eq-eqb, ne_eqb}
use Rattle.std.proofs.lemmas.List.{length-map, length-take-le, take_all, take_more}
use Rattle.cx_base.specs.Literals.{Literal}
use Rattle.cx_base.specs.declared.literal.TheConstants.{MAX_VARIABLE}
use Rattle.parity_engine.specs.Written.{literals_with}
use Rattle.parity_engine.proofs.Rising.{column-low, column-high}
use Rattle.gf2_matrix.proofs.Written.{variables_written, written_more}
use Rattle.xor_recover.proofs.recovering.written.Goals as goal
use Rattle.xor_recover.proofs.recovering.written.Goals.{then-place-eq0, else-place-eq0}

length_written : (right : Bool) (vs : List ℕ) → length (literals_with right vs) ≡ length vs
length_written right vs = sym (length-map (literals_with right vs) (λ (l : Literal). l.variable)) ∙ ap length (variables_written right vs)

first_sign : (right : Bool) (k : ℕ) → k ≡ 0 → not right ≡ (not right && eqb k 0)
first_sign true k is = refl
first_sign false k is = sym (eq-eqb k 0 is)

later_sign : (right : Bool) (k : ℕ) → k ≢ 0 → eqb k 0 ≡ (not right && eqb k 0)
later_sign true k ne = ne_eqb k 0 ne
later_sign false k ne = refl

pub new-variable-requires : goal.new-variable-requires
new-variable-requires c =
    let vars = c.args.key.now.vars.items in
    let k = c.loop-place.place in
    let lt : k < length vars = let t = c.loop-place-test.true in let n = c.len-place-end.ensures.value in omega arith in
    rw c.deref.ensures.0 (record { low = column-low 1 MAX_VARIABLE vars k c.requires lt; high = column-high 1 MAX_VARIABLE vars k c.requires lt })

pub loop-place-preserved : goal.loop-place-preserved
loop-place-preserved c =
    let vars = c.args.key.now.vars.items in
    let right = c.args.key.now.right in
    let k = c.loop-place.place in
    let lt : k < length vars = let t = c.loop-place-test.true in let n = c.len-place-end.ensures.value in omega arith in
    let long : k ≡ length c.loop-place.lits.items = sym (ap length c.loop-place.invariant ∙ length_written right (take k vars) ∙ length-take-le k vars (omega arith)) in
    let sign : c.if-place-eq0.new ≡ (not right && eqb k 0) =
    elim c.if-place-eq0.branch [
      | then-place-eq0 w ↦ w.new-is ∙ first_sign right k w.if-place-eq0.true
      | else-place-eq0 w ↦ w.new-is ∙ later_sign right k w.if-place-eq0.false
    ] in
    written_more right (take k vars) c.loop-place.lits.items c.push.new.self.items c.new.result (get_or vars k 0) c.new-variable.result k c.if-place-eq0.new
    c.loop-place.invariant c.in_ok-push.ensures.items c.new.ensures (c.new-variable.ensures ∙ ap (λ vs. get_or vs k 0) c.deref.ensures.0) sign long
    ∙ ap (literals_with right) (sym (take_more vars k 0 lt))

pub returns : goal.returns
returns c =
    let vars = c.args.key.now.vars.items in
    let le : length vars ≤ c.loop-place.place = let t = c.loop-place-test.false in let n = c.len-place-end.ensures.value in omega arith in
    c.from_vec.ensures ∙ c.loop-place.invariant ∙ ap (literals_with c.args.key.now.right) (take_all c.loop-place.place vars le)
