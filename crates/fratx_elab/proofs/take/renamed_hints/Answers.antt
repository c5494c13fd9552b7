use Rattle.std.proofs.Common.{◌≡◌, ◌∙◌, ap, sym, subst, ℤ, ◌∷◌, ◌++◌, [], List, rules, drop, ◌+◌}
use Rattle.cx_base.specs.Numbers.{AreStepIntegers}
use Rattle.fratx_elab.specs.Names.{hints_for}
use Rattle.fratx_elab.proofs.NameLaws.{renamed_next, left_out_next, proper_next}
use Rattle.fratx_elab.proofs.take.renamed_hints.Goals as goal
use Rattle.fratx_elab.proofs.take.renamed_hints.Goals.{in-Some+in_ok-push, in_default}

pub loop-id-preserved : goal.loop-id-preserved
loop-id-preserved c =
    let ids = c.args.ids.now in
    let naming = c.args.names.now in
    let index = c.loop-id.id-index in
    let before = c.loop-id.invariant in
    let hints : List ℤ = c.loop-id.hints.items in
    let rest = hints_for naming (drop (index + 1) ids) in
    elim c.match-get.branch [
      | in-Some+in_ok-push w ↦
          let pushed : c.match-get.hints.items ≡ hints ++ w.hint.result ∷ [] = search rules in
          record {
            so_far =
                ap (λ (zs : List ℤ). zs ++ rest) (pushed ∙ ap (λ (z : ℤ). hints ++ z ∷ []) w.hint.ensures.hint)
                ∙ renamed_next naming ids index w.in-Some.found hints (hints_for naming ids) c.loop-id-test.true w.in-Some.ensures before.so_far;
            proper = subst AreStepIntegers (sym pushed) (proper_next hints w.hint.result w.hint.ensures.some w.hint.ensures.within before.proper);
          }
      | in_default w ↦
          let same = ap (λ v. v.items) w.hints-is in
          record {
            so_far = ap (λ (zs : List ℤ). zs ++ rest) same ∙ left_out_next naming ids index hints (hints_for naming ids) c.loop-id-test.true w.in_default.ensures before.so_far;
            proper = subst AreStepIntegers (sym same) before.proper;
          }
    ]
