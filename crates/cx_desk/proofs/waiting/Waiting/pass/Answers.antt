use Rattle.std.proofs.Common.{◌≡◌, ◌∙◌, sym, ap, ◌+◌, ◌-◌, ◌≤◌, ℕ, Bool, List, length, take, drop, arith, length-take}
use Rattle.std.proofs.lemmas.List.{drop-take, drop-drop}
use Rattle.cx_desk.proofs.waiting.Waiting.pass.Goals as goal

pub returns : goal.returns
returns c =
    let r = c.self.inside in
    let n = c.args.count in
    let items = r.buffer.items in
    let kept = r.end - r.at in
    let is : take kept (drop r.at items) ≡ c.args.self.now.0 = ap (λ (x : List ℕ × Bool). x.0) c.self.view_is in
    let within : n ≤ kept = omega (arith, c.requires, ap length is, length-take kept (drop r.at items)) in
    let rest = kept - n in
    let all : n + rest ≡ kept = omega arith in
    let few : rest ≡ r.end - (r.at + n) = omega arith in
    sym (ap (λ m. drop n (take m (drop r.at items))) (sym all) ∙ drop-take n rest (drop r.at items) ∙ ap (take rest) (drop-drop n r.at items)
    ∙ ap (λ m. take m (drop (r.at + n) items)) few) ∙ ap (drop n) is
