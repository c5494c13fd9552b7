use Rattle.std.proofs.Common.{◌≡◌, ◌∙◌, sym, ap, subst, ℕ, ◌+◌, ◌-◌, ◌≤◌, true, false, arith}
use Rattle.cx_desk.specs.declared.desk.Slot.{Slot}
use Rattle.cx_desk.specs.Calls.{TookSome}
use Rattle.cx_desk.specs.SlotBytes.{BytesState, RestRead, taken_by}
use Rattle.cx_desk.proofs.SlotLaws.{rest_read, ended_already}
use Rattle.cx_desk.proofs.slot_bytes.SlotBytes.read_rest.Goals as goal

pub returns : goal.returns
returns g c =
    let i = c.self.inside in
    let s = c.args.self.now in
    let o = g.D.Desk.outside c.args.desk.now in
    let p = g.D.Desk.outside c.count_rest.new.desk in
    let n = c.in_ok-more.more in
    let slot : i.slot ≡ s.slot = ap (λ (x : BytesState). x.slot) c.self.view_is in
    let limit : i.limit ≡ s.limit = ap (λ (x : BytesState). x.limit) c.self.view_is in
    let still : s.ended ≡ false = sym (ap (λ (x : BytesState). x.ended) c.self.view_is) ∙ c.if-self.false in
    let few : n ≤ s.limit - taken_by s = omega (arith, c.in_ok-more.ensures.0, c.taken-taken.ensures, limit) in
    let passes : TookSome s.slot n true o p = subst (λ (k : Slot). TookSome k n true o p) slot c.in_ok-more.ensures.1 in
    subst (λ (k : ℕ). RestRead s o (k + n) p) (sym c.taken-taken.ensures) (rest_read s o p n still passes few c.requires.within)

pub returns-then-self : goal.returns-then-self
returns-then-self g c =
    let s = c.args.self.now in
    let o = g.D.Desk.outside c.args.desk.now in
    let end : s.ended ≡ true = sym (ap (λ (x : BytesState). x.ended) c.self.view_is) ∙ c.if-self.true in
    subst (λ (k : ℕ). RestRead s o k o) (sym c.taken-taken.ensures) (ended_already s o c.requires.within end)
