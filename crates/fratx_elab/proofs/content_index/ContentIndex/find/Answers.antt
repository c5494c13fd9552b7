use Rattle.std.proofs.Common.{◌≡◌, ◌<◌, ◌≤◌, ◌∙◌, sym, ap, subst, get_or, length, ℕ, List, inl, inr, ◌⊎◌}
use Rattle.std.specs.List.Sorted.{IsBinarySearchResult, IsSearchInRange}
use Rattle.std.proofs.lemmas.List.Sorted.{All-permutation}
use Rattle.std.specs.declared.result.Result.TheVariants.{Ok, Err}
use Rattle.smallvec.specs.SmallVec.{SmallVec}
use Rattle.fratx_elab.specs.declared.content_index.ContentEntry.{ContentEntry}
use Rattle.fratx_elab.specs.Contents.{HasFront, by_content, IsLeastOf, IsNowhere}
use Rattle.fratx_elab.proofs.EntryOrder.{same_items, other_items, numbers_moved, least_moved, nowhere_moved, least_found, nowhere_found, nowhere_past}
use Rattle.fratx_elab.proofs.content_index.ContentIndex.find.Goals as goal
use Rattle.fratx_elab.proofs.content_index.ContentIndex.find.Goals.{in-Ok, in-Err, in_default-via-in-Some+else-eq, in_default-via-in_default}

pub returns-in-Some : goal.returns-in-Some
returns-in-Some c = λ old fronts numbered orders.
    let entries = c.args.self.now.entries.items in
    let sought = c.new-least.result in
    let has = ap (λ (content : SmallVec ℕ). content.items) c.new-least.ensures.content in
    let own : HasFront sought = record { first = cc; second = cc } in
    let one = c.new-least.ensures.number ∙ c.new.ensures in
    let found = subst (λ (es : List ContentEntry). IsBinarySearchResult (λ y. by_content y sought) es c.binary_search.result) c.deref.ensures.value c.binary_search.ensures.position in
    let range = subst (λ (es : List ContentEntry). IsSearchInRange c.binary_search.result (length es)) c.deref.ensures.value c.binary_search.ensures.bound in
    let gives : (c.binary_search.result ≡ Ok c.match-binary_search.place) ⊎ (c.binary_search.result ≡ Err c.match-binary_search.place) = elim c.match-binary_search.branch [
      | in-Ok w ↦ inl (w.in-Ok.is ∙ ap (λ n. Ok n) (sym w.place-is))
      | in-Err w ↦ inr (w.in-Err.is ∙ ap (λ n. Err n) (sym w.place-is))
    ] in
    let lookup = c.in-Some.ensures.lookup in
    let it = c.in-Some.entry.now in
    let at = sym (lookup.1 ∙ ap (λ (es : List ContentEntry). get_or es c.match-binary_search.place it) c.deref-2.ensures.value) in
    let within = subst (λ (es : List ContentEntry). c.match-binary_search.place < length es) c.deref-2.ensures.value lookup.3.0 in
    subst (λ content. IsLeastOf old content it.number) has (least_moved old entries sought.content.items it.number orders.same
    (least_found entries (All-permutation HasFront old entries orders.same fronts) orders.sorted (length entries) (numbers_moved old entries numbered orders.same) sought one own c.binary_search.result c.match-binary_search.place gives found range it within at
    (same_items it.content.items sought.content.items (sym c.eq.ensures ∙ c.if-eq.true))))

pub returns : goal.returns
returns c = λ old fronts numbered orders.
    let entries = c.args.self.now.entries.items in
    let sought = c.new-least.result in
    let has = ap (λ (content : SmallVec ℕ). content.items) c.new-least.ensures.content in
    let own : HasFront sought = record { first = cc; second = cc } in
    let one = c.new-least.ensures.number ∙ c.new.ensures in
    let found = subst (λ (es : List ContentEntry). IsBinarySearchResult (λ y. by_content y sought) es c.binary_search.result) c.deref.ensures.value c.binary_search.ensures.position in
    let range = subst (λ (es : List ContentEntry). IsSearchInRange c.binary_search.result (length es)) c.deref.ensures.value c.binary_search.ensures.bound in
    let gives : (c.binary_search.result ≡ Ok c.match-binary_search.place) ⊎ (c.binary_search.result ≡ Err c.match-binary_search.place) = elim c.match-binary_search.branch [
      | in-Ok w ↦ inl (w.in-Ok.is ∙ ap (λ n. Ok n) (sym w.place-is))
      | in-Err w ↦ inr (w.in-Err.is ∙ ap (λ n. Err n) (sym w.place-is))
    ] in
    let numbers = numbers_moved old entries numbered orders.same in
    subst (IsNowhere old) has (nowhere_moved old entries sought.content.items orders.same (elim c.in_default.branch [
      | in_default-via-in-Some+else-eq w ↦
          let lookup = w.in-Some.ensures.lookup in
          let it = w.in-Some.entry.now in
          let at = sym (lookup.1 ∙ ap (λ (es : List ContentEntry). get_or es c.match-binary_search.place it) c.deref-2.ensures.value) in
          let within = subst (λ (es : List ContentEntry). c.match-binary_search.place < length es) c.deref-2.ensures.value lookup.3.0 in
          nowhere_found entries (All-permutation HasFront old entries orders.same fronts) orders.sorted (length entries) numbers sought one own c.binary_search.result c.match-binary_search.place gives found range it within at
          (other_items it.content.items sought.content.items (sym w.eq.ensures ∙ w.if-eq.false))
      | in_default-via-in_default w ↦
          let past = subst (λ (es : List ContentEntry). length es ≤ c.match-binary_search.place) c.deref-2.ensures.value w.in_default.ensures.lookup.3 in
          nowhere_past entries (All-permutation HasFront old entries orders.same fronts) orders.sorted (length entries) numbers sought one own c.binary_search.result c.match-binary_search.place gives found range past
    ]))
