use Rattle.std.proofs.Common.{◌≡◌, ◌<◌, ◌≤◌, sym, ◌∙◌, subst, List, length, arith}
use Rattle.cx_base.specs.Literals.{Literal}
use Rattle.cx_trail.specs.Sequence.{IsOpenIn}
use Rattle.search_policy.specs.Assuming.{HaveValues, literal_of}
use Rattle.search_policy.proofs.AssumingLaws.{all_found, found_first, at_default, more_passed}
use Rattle.search_policy.proofs.assumptions.Assumptions.next_open.Goals as goal

pub returns-then-self-len-clause-keeps : goal.returns-then-self-len-clause-keeps
returns-then-self-len-clause-keeps c =
    let a = c.args.self.now in
    let f = c.first_open-self.ensures in
    more_passed c.args.formula.now.constraints a c.args.trail.now c.requires.keeps c.len-sound.ensures.sound c.requires.checked c.first_open-self.result
    (subst (λ (ls : List Literal). c.first_open-self.result ≤ length ls) c.deref.ensures.value f.high) f.low (subst (λ ls. HaveValues c.args.trail.now ls a.next c.first_open-self.result) c.deref.ensures.value f.before)

pub returns-else-self-len-clause-keeps : goal.returns-else-self-len-clause-keeps
returns-else-self-len-clause-keeps c =
    let a = c.args.self.now in
    let f = c.first_open-self.ensures in
    more_passed c.args.formula.now.constraints a c.args.trail.now c.requires.keeps c.len-sound.ensures.sound c.requires.checked c.first_open-self.result
    (subst (λ (ls : List Literal). c.first_open-self.result ≤ length ls) c.deref.ensures.value f.high) f.low (subst (λ ls. HaveValues c.args.trail.now ls a.next c.first_open-self.result) c.deref.ensures.value f.before)

pub returns-then-self-len-clause-first : goal.returns-then-self-len-clause-first
returns-then-self-len-clause-first c =
    let a = c.args.self.now in
    let t = c.args.trail.now in
    let f = c.first_open-self.ensures in
    let n = c.len.ensures in
    let long = a.lits.ok in
    let test = c.if-self-len.true in
    let less : c.first_open-self.result < length a.lits.items = omega (arith, n, long, test) in
    let here : c.index.result.now ≡ literal_of a.lits.items c.first_open-self.result = c.index.ensures ∙ at_default a.lits.items c.first_open-self.result c.index.result.now less in
    found_first c.args.formula.now.constraints a t c.first_open-self.result
    (more_passed c.args.formula.now.constraints a t c.requires.keeps c.len-sound.ensures.sound c.requires.checked c.first_open-self.result
    (subst (λ (ls : List Literal). c.first_open-self.result ≤ length ls) c.deref.ensures.value f.high) f.low (subst (λ ls. HaveValues t ls a.next c.first_open-self.result) c.deref.ensures.value f.before))
    less c.index.result.now here
    (subst (λ (l : Literal). IsOpenIn t.entries l.variable) (sym here)
    (subst (λ ls. IsOpenIn t.entries (literal_of ls c.first_open-self.result).variable) c.deref.ensures.value (f.no_value (subst (λ (ls : List Literal). c.first_open-self.result < length ls) (sym c.deref.ensures.value) less))))

pub returns-else-self-len-clause-first : goal.returns-else-self-len-clause-first
returns-else-self-len-clause-first c =
    let a = c.args.self.now in
    let f = c.first_open-self.ensures in
    let n = c.len.ensures in
    let long = a.lits.ok in
    let past = c.if-self-len.false in
    all_found c.args.formula.now.constraints a c.args.trail.now c.first_open-self.result
    (more_passed c.args.formula.now.constraints a c.args.trail.now c.requires.keeps c.len-sound.ensures.sound c.requires.checked c.first_open-self.result
    (subst (λ (ls : List Literal). c.first_open-self.result ≤ length ls) c.deref.ensures.value f.high) f.low (subst (λ ls. HaveValues c.args.trail.now ls a.next c.first_open-self.result) c.deref.ensures.value f.before))
    (omega (arith, n, long, past))
