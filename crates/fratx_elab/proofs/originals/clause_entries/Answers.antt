use Rattle.std.proofs.Common.{◌≡◌, ◌+◌, ◌-◌, ◌++◌, ◌∷◌, [], ◌∙◌, sym, ap, subst, List, length, length-append, Some, slice_get, arith, ℕ}
use Rattle.std.specs.List.{All}
use Rattle.std.proofs.lemmas.List.Elements.{All-push}
use Rattle.smallvec.specs.SmallVec.{SmallVec}
use Rattle.cx_base.specs.Problem.{clauses_of}
use Rattle.proof_rules.specs.Contents.{IsClauseContent}
use Rattle.fratx_elab.specs.declared.content_index.ContentEntry.{ContentEntry}
use Rattle.fratx_elab.specs.Contents.{HasFront, AreNumbered, SayFirst}
use Rattle.fratx_elab.proofs.ContentIndex.{numbered_more, say_more}
use Rattle.fratx_elab.proofs.originals.clause_entries.Goals as goal

pub loop-index-preserved : goal.loop-index-preserved
loop-index-preserved c =
    let lists = clauses_of c.args.formula.now.constraints in
    let entries = c.loop-index.entries.items in
    let lits = c.clause.result.now in
    let e = c.new.result in
    let content = ap (λ (content : SmallVec ℕ). content.items) c.new.ensures.content in
    let front : HasFront e = record { first = cc; second = cc } in
    let before = c.loop-index.invariant in
    let count = before.count in
    let more : c.push.new.self.items ≡ entries ++ e ∷ [] = c.in_ok-push.ensures.items in
    let own : e.number ≡ length entries + 1 = (let n = c.new-number.ensures in let is = c.new.ensures.number in omega (arith, n, is, count)) in
    let here : (c.loop-index.index + 1) - 1 ≡ length entries = omega (arith, count) in
    let at : slice_get lists (length entries) ≡ Some lits = ap (slice_get lists) (sym here) ∙ c.clause.ensures.clause in
    let says : IsClauseContent lits e.content.items = subst (IsClauseContent lits) (sym (content ∙ c.in_ok-content.ensures.ok ∙ c.deref.ensures.value)) c.in_ok-fill_clause_content.ensures in
    record {
      count = ap (λ (es : List ContentEntry). length es) more ∙ length-append entries (e ∷ []) ∙ ap (λ k. k + 1) count;
      fronts = subst (All HasFront) (sym more) (All-push HasFront entries e before.fronts front);
      numbered = subst AreNumbered (sym more) (numbered_more entries e own before.numbered);
      say = subst (SayFirst IsClauseContent lists) (sym more) (say_more IsClauseContent lists entries e lits at says before.say);
    }
