use Rattle.std.proofs.Common.{◌≡◌, ◌∙◌, ◌+◌, ◌-◌, ◌<◌, ◌≤◌, refl, ap, sym, cond, not, Bool, true, false, true≢false, [], ◌∷◌, List, get_or, Some, None, zero, suc, ℕ, length, arith}
use Rattle.std.proofs.lemmas.Option.{get_or_from_slice_get}
use Rattle.cx_base.specs.Literals.{Literal}
use Rattle.proof_rules.specs.FirstLists.{lists_of}
use Rattle.proof_rules.proofs.LiteralLaws.{same_lists}
use Rattle.proof_rules.proofs.FirstLaws.{left_at}
use Rattle.proof_rules.proofs.first.FirstLists.restore.Goals as goal

not_other : (b : Bool) → not b ≡ false → b ≡ true
not_other true h = refl
not_other false h = absurd (true≢false h)

-- no list is under 0, so that the list of a number is in its place
in_place : (lists : List (List Literal)) (k : ℕ) → 0 < k → get_or ([] ∷ lists) k [] ≡ get_or lists (k - 1) []
in_place lists zero lt = absurd (omega arith)
in_place lists (suc k) lt = let back : k ≡ suc k - 1 = omega arith in ap (λ i. get_or lists i []) back

pub returns-clause-ok : goal.returns-clause-ok
returns-clause-ok c =
    let old = c.self.inside.gone.items in
    let new = c.put_back.new.gone.items in
    let lists = lists_of c.self.inside.lists in
    let id = c.args.id in
    let some : 0 < id = (let n = c.if-id-eq0.false in omega (arith, n)) in
    let inside : id < length lists + 1 = (let n = c.if-id-count.false in let e = c.count.ensures.count in omega (arith, n, e)) in
    let few = c.self.invariant.0 in
    let still : length new ≤ length ([] ∷ lists) = (let n = c.in_ok-put_back.ensures.few (length lists + 1) inside few in omega (arith, n)) in
    let own : get_or ([] ∷ lists) id [] ≡ c.args.list.now =
    in_place lists id some ∙ get_or_from_slice_get lists (id - 1) c.list.result.now [] c.list.ensures
    ∙ same_lists c.list.result.now c.args.list.now (not_other _ (sym c.ne.ensures ∙ c.if-ne.false)) in (
      left_at new ([] ∷ lists) id still ∙ ap (λ b. cond b None (Some (get_or ([] ∷ lists) id []))) c.in_ok-put_back.ensures.there ∙ ap Some own,
      λ q other. left_at new ([] ∷ lists) q still ∙ ap (λ b. cond b None (Some (get_or ([] ∷ lists) q []))) (c.in_ok-put_back.ensures.others q other)
          ∙ sym (left_at old ([] ∷ lists) q (omega (arith, few))) ∙ ap (λ places. get_or places q None) c.self.view_is,
    )
