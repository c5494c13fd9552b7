use Rattle.std.proofs.Common.{◌≡◌, ◌<◌, ◌-◌, sym, ap, ◌∙◌, subst, length, get_or, arith}
use Rattle.std.proofs.lemmas.List.{get_or_default}
use Rattle.fratx_elab.specs.declared.content_index.ContentEntry.{ContentEntry}
use Rattle.fratx_elab.specs.Contents.{IsLeastOf}
use Rattle.fratx_elab.proofs.EntryOrder.{same_items, other_items, least_new}
use Rattle.fratx_elab.proofs.content_index.first_at.Goals as goal
use Rattle.fratx_elab.proofs.content_index.first_at.Goals.{else-place-gt0-via-then-place-gt0+else-eq, else-place-gt0-via-else-place-gt0}

pub returns-then-eq : goal.returns-then-eq
returns-then-eq c = λ d.
    let entries = c.args.entries.now in
    let firsts = c.args.firsts.now in
    let place = c.args.place in
    let within = c.requires.here in
    let before : place - 1 < length entries = omega (arith, within) in
    let same : (get_or entries (place - 1) d).content.items ≡ (get_or entries place d).content.items =
    ap (λ (e : ContentEntry). e.content.items) (get_or_default entries (place - 1) d c.index-entries-place.result before)
    ∙ same_items _ _ (sym c.eq.ensures ∙ c.if-eq.true)
    ∙ ap (λ (e : ContentEntry). e.content.items) (get_or_default entries place c.index-entries-place-then-place-gt0.result d within) in
    let own : (get_or entries (place - 1) d).number ≡ (get_or entries (place - 1) c.index-entries-place-then-eq.result).number =
    ap (λ (e : ContentEntry). e.number) (get_or_default entries (place - 1) d c.index-entries-place-then-eq.result before) in
    let next = c.index.ensures in
    let high = (c.requires.within (place - 1) d before).1 in
    let number : (get_or entries (place - 1) d).number - 1 ≡ c.index.result = omega (arith, next, own) in
    let first : get_or firsts ((get_or entries (place - 1) d).number - 1) 0 ≡ c.index-firsts-index.result =
    ap (λ k. get_or firsts k 0) number ∙ get_or_default firsts c.index.result 0 c.index-firsts-index.result (omega (arith, next, own, high)) ∙ sym c.index-firsts-index.is in
    subst (λ xs. IsLeastOf entries xs c.index-firsts-index.result) same
    (subst (λ k. IsLeastOf entries (get_or entries (place - 1) d).content.items k) first (c.requires.known (place - 1) d (omega arith)))

pub returns-else-place-gt0 : goal.returns-else-place-gt0
returns-else-place-gt0 c = λ d.
    let entries = c.args.entries.now in
    let place = c.args.place in
    let within = c.requires.here in
    let read : get_or entries place d ≡ get_or entries place c.index-entries-place-else-place-gt0.result = get_or_default entries place d c.index-entries-place-else-place-gt0.result within in
    subst (λ (e : ContentEntry). IsLeastOf entries (get_or entries place d).content.items e.number) read
    (least_new entries c.requires.fronts c.requires.sorted place d within (λ some same. elim c.else-place-gt0.branch [
      | else-place-gt0-via-then-place-gt0+else-eq w ↦
          other_items _ _ (sym w.eq.ensures ∙ w.if-eq.false)
          (ap (λ (e : ContentEntry). e.content.items) (get_or_default entries (place - 1) w.index-entries-place.result d (omega (arith, within)))
          ∙ same ∙ ap (λ (e : ContentEntry). e.content.items) (get_or_default entries place d w.index-entries-place-then-place-gt0.result within))
      | else-place-gt0-via-else-place-gt0 w ↦ absurd (omega arith)
    ]))
