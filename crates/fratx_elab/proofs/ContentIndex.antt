-- The numbers of lists of literals by what these say.
use Rattle.std.proofs.Common.{◌≡◌, refl, sym, ap, ◌∙◌, subst, ℕ, zero, suc, ◌+◌, ◌-◌, ◌<◌, List, [], ◌∷◌, ◌++◌, length, get_or, take, drop, arith, length-append, inl, inr, Option, Some, None, MatchOption, IsTrue, IsFalse}
use Rattle.std.specs.Prelude.{slice_get}
use Rattle.std.specs.List.{AllByRecursion}
use Rattle.std.proofs.lemmas.Bool.{cases_lt}
use Rattle.std.proofs.lemmas.List.{length-take-le, take-append-drop, get_or-take, get_or_append_left, get_or_push}
use Rattle.std.proofs.lemmas.List.Elements.{recursion_from_All, Contains-get_or}
use Rattle.std.proofs.lemmas.Option.{slice_get-get_or, slice_get_within}
use Rattle.cx_base.specs.Literals.{Literal}
use Rattle.cx_base.specs.Problem.{Problem, clauses_of, parities_of}
use Rattle.cx_semantics.specs.LogRules.{is_original, IsOriginalParity}
use Rattle.cx_base.specs.Parity.{normal_form}
use Rattle.cx_base.proofs.Parts.{one_numbered_more}
use Rattle.cx_semantics.specs.Chain.{same_literals}
use Rattle.proof_rules.specs.Contents.{IsClauseContent, IsParityContent}
use Rattle.proof_rules.proofs.ContentLaws.{clause_content_once, parity_content_once, same_by_content, content_of_same, form_by_parity_content, content_of_same_form}
use Rattle.fratx_elab.specs.Elaborates.{IsLeast, IsClauseNumber, IsParityNumber}
use Rattle.fratx_elab.specs.declared.content_index.ContentEntry.{ContentEntry}
use Rattle.fratx_elab.specs.declared.originals.Originals.{Originals}
use Rattle.fratx_elab.specs.Contents.{IsLeastOf, IsNowhere, AreNumbered, Say, SayFirst, StandsFor}
use Rattle.fratx_elab.proofs.Numbers.{none_pass, none_any}

-- ---- one more entry

pub numbered_more : (entries : List ContentEntry) (e : ContentEntry) → e.number ≡ length entries + 1 → AreNumbered entries → AreNumbered (entries ++ e ∷ [])
numbered_more entries e own before i d lt = elim (cases_lt i (length entries)) [
  | inl earlier ↦ ap (λ (x : ContentEntry). x.number) (get_or_append_left entries (e ∷ []) d i earlier) ∙ before i d earlier
  | inr later ↦
      let here : length entries ≡ i = omega (arith, length-append entries (e ∷ [])) in
      ap (λ (x : ContentEntry). x.number) (get_or_push entries e d i here) ∙ own ∙ ap (λ k. k + 1) here
]

pub say_more : (Has : List Literal → List ℕ → Type 0) (lists : List (List Literal)) (entries : List ContentEntry) (e : ContentEntry) (lits : List Literal) → slice_get lists (length entries) ≡ Some lits → Has lits e.content.items
    → SayFirst Has lists entries → SayFirst Has lists (entries ++ e ∷ [])
say_more Has lists entries e lits at says before i l d lt h = elim (cases_lt i (length entries)) [
  | inl earlier ↦ subst (λ (x : ContentEntry). Has l x.content.items) (sym (get_or_append_left entries (e ∷ []) d i earlier)) (before i l d earlier h)
  | inr later ↦
      let here : length entries ≡ i = omega (arith, length-append entries (e ∷ [])) in
      let one : lits ≡ l = let there : Some lits ≡ Some l = sym at ∙ ap (slice_get lists) here ∙ h in cc in
      subst (λ (x : ContentEntry). Has l x.content.items) (sym (get_or_push entries e d i here)) (subst (λ m. Has m e.content.items) one says)
]

-- ---- from entries to lists

-- the entry at a place
item : (entries : List ContentEntry) (i : ℕ) → i < length entries → ContentEntry
item [] i lt = absurd (omega arith)
item (e ∷ entries) zero lt = e
item (e ∷ entries) (suc i) lt = item entries i (omega arith)

joined : (xs ys zs : List (List Literal)) → (xs ++ ys) ++ zs ≡ xs ++ (ys ++ zs)
joined [] ys zs = refl
joined (x ∷ xs) ys zs = ap (λ l. x ∷ l) (joined xs ys zs)

-- a list with the list of a number in its midst
parted : (lists : List (List Literal)) (i : ℕ) (lits : List Literal) → slice_get lists i ≡ Some lits → lists ≡ take i lists ++ lits ∷ drop (i + 1) lists
parted lists i lits at =
    let here : i ≡ (i + 1) - 1 = omega arith in
    sym (take-append-drop (i + 1) lists)
    ∙ ap (λ xs. xs ++ drop (i + 1) lists) (one_numbered_more lists (i + 1) lits (omega arith) (ap (slice_get lists) (sym here) ∙ at) ∙ ap (λ k. take k lists ++ lits ∷ []) (sym here))
    ∙ joined (take i lists) (lits ∷ []) (drop (i + 1) lists)

module _ (Has : List Literal → List ℕ → Type 0) (once : (lits : List Literal) (q k : List ℕ) → Has lits q → Has lits k → q ≡ k)
    (lists : List (List Literal)) (entries : List ContentEntry) (numbered : AreNumbered entries) (say : Say Has lists entries) (q : List ℕ) where
  -- where a list says it, the entry of its number does
  entry_says : (i : ℕ) (lits : List Literal) (d : ContentEntry) → i < length lists → slice_get lists i ≡ Some lits → Has lits q → (get_or entries i d).content.items ≡ q
  entry_says i lits d lt at has = once lits (get_or entries i d).content.items q (say.each i lits d (let e = say.count in omega (arith, e)) at) has

  pub least_list : (n : ℕ) → IsLeastOf entries q n → IsLeast (λ lits. Has lits q) lists n
  least_list n h =
      let i = h.among.0 in
      let within : i < length lists = (let lt = h.among.1 in let e = say.count in omega (arith, lt, e)) in
      let lits = get_or lists i [] in
      let at = slice_get-get_or lists i [] within in
      let number : n ≡ i + 1 = sym h.numbered ∙ sym (ap (λ (x : ContentEntry). x.number) h.among.2) ∙ numbered i h.it h.among.1 in
      let long = length-take-le i lists (omega arith) in
      record {
        before = take i lists;
        it = lits;
        later = drop (i + 1) lists;
        split = parted lists i lits at;
        has_it = subst (Has lits) (ap (λ (x : ContentEntry). x.content.items) h.among.2 ∙ h.says) (say.each i lits h.it h.among.1 at);
        none_before = recursion_from_All (λ l. ¬ Has l q) (take i lists) (λ k d lt has.
            let low : k < i = omega (arith, lt, long) in
            let read : get_or (take i lists) k d ≡ get_or lists k d = get_or-take i lists k d low in
            let says = entry_says k (get_or lists k d) h.it (omega arith) (slice_get-get_or lists k d (omega arith)) (subst (λ l. Has l q) read has) in
            let among = Contains-get_or entries k h.it (let w = h.among.1 in omega (arith, low, w)) in
            let least = h.least (get_or entries k h.it) among says in
            let own = numbered k h.it (let w = h.among.1 in omega (arith, low, w)) in
            omega (arith, least, own, number, low));
        number = omega (arith, number, long);
      }

  pub nowhere_list : IsNowhere entries q → AllByRecursion (λ lits. ¬ Has lits q) lists
  nowhere_list h = recursion_from_All (λ l. ¬ Has l q) lists (λ k l lt has.
      let within : k < length entries = (let e = say.count in omega (arith, lt, e)) in
      let d = item entries k within in
      h (get_or entries k d) (Contains-get_or entries k d within) (entry_says k (get_or lists k l) d lt (slice_get-get_or lists k l lt) has))

  pub listed : (o : Option ℕ) → MatchOption o (IsNowhere entries q) (IsLeastOf entries q) → MatchOption o (AllByRecursion (λ lits. ¬ Has lits q) lists) (IsLeast (λ lits. Has lits q) lists)
  listed None h = nowhere_list h
  listed (Some n) h = least_list n h

-- ---- what a look-up tells

all_turn : (P Q : List Literal → Type 0) → ((l : List Literal) → Q l → P l) → (lists : List (List Literal)) → AllByRecursion (λ l. ¬ P l) lists → AllByRecursion (λ l. ¬ Q l) lists
all_turn P Q f [] h = tt
all_turn P Q f (l ∷ lists) h = (λ k. h.0 (f l k), all_turn P Q f lists h.1)

least_turn : (P Q : List Literal → Type 0) → ((l : List Literal) → P l → Q l) → ((l : List Literal) → Q l → P l) → (lists : List (List Literal)) (k : ℕ) → IsLeast P lists k → IsLeast Q lists k
least_turn P Q f g lists k h = record {
  before = h.before;
  it = h.it;
  later = h.later;
  split = h.split;
  has_it = f h.it h.has_it;
  none_before = all_turn P Q g h.before h.none_before;
  number = h.number;
}

answer : (P Q : List Literal → Type 0) → ((l : List Literal) → P l → Q l) → ((l : List Literal) → Q l → P l) → (lists : List (List Literal)) (Absent : Type 0) → (AllByRecursion (λ l. ¬ Q l) lists → Absent)
    → (o : Option ℕ) → MatchOption o (AllByRecursion (λ l. ¬ P l) lists) (IsLeast P lists) → MatchOption o Absent (IsLeast Q lists)
answer P Q f g lists Absent absent None h = absent (all_turn P Q g lists h)
answer P Q f g lists Absent absent (Some k) h = least_turn P Q f g lists k h

pub clause_answer : (lits : List Literal) (content : List ℕ) (lists : List (List Literal)) → IsClauseContent lits content → (Absent : Type 0) → (AllByRecursion (λ l. ¬ IsTrue (same_literals lits l)) lists → Absent)
    → (o : Option ℕ) → MatchOption o (AllByRecursion (λ l. ¬ IsClauseContent l content) lists) (IsLeast (λ l. IsClauseContent l content) lists) → MatchOption o Absent (IsLeast (λ l. IsTrue (same_literals lits l)) lists)
clause_answer lits content lists has Absent absent o h =
    answer (λ l. IsClauseContent l content) (λ l. IsTrue (same_literals lits l)) (λ l k. same_by_content lits l content has k) (λ l k. content_of_same lits l content k has) lists Absent absent o h

pub parity_answer : (lits : List Literal) (content : List ℕ) (lists : List (List Literal)) → IsParityContent lits content → (Absent : Type 0) → (AllByRecursion (λ l. ¬ (normal_form l ≡ normal_form lits)) lists → Absent)
    → (o : Option ℕ) → MatchOption o (AllByRecursion (λ l. ¬ IsParityContent l content) lists) (IsLeast (λ l. IsParityContent l content) lists) → MatchOption o Absent (IsLeast (λ l. normal_form l ≡ normal_form lits) lists)
parity_answer lits content lists has Absent absent o h =
    answer (λ l. IsParityContent l content) (λ l. normal_form l ≡ normal_form lits) (λ l k. form_by_parity_content l lits content k has) (λ l k. content_of_same_form lits l content (sym k) has) lists Absent absent o h

-- ---- the numbers of the formula's clauses and parities

module _ (originals : Originals) (formula : Problem) (stands : StandsFor originals formula) (lits : List Literal) where
  module _ (content : List ℕ) (o : Option ℕ) where
    pub clause_looked_up : IsClauseContent lits content → MatchOption o (IsNowhere stands.clauses.entries content) (IsLeastOf stands.clauses.entries content)
        → MatchOption o (IsFalse (is_original formula lits)) (IsClauseNumber formula lits)
    clause_looked_up has found =
        let lists = clauses_of formula.constraints in
        let index = stands.clauses in
        clause_answer lits content lists has _ (none_pass (same_literals lits) lists) o
        (listed IsClauseContent clause_content_once lists index.entries index.numbered index.say content o found)

    pub parity_looked_up : IsParityContent lits content → MatchOption o (IsNowhere stands.parities.entries content) (IsLeastOf stands.parities.entries content)
        → MatchOption o (¬ IsOriginalParity formula lits) (IsParityNumber formula lits)
    parity_looked_up has found =
        let lists = parities_of formula.constraints in
        let index = stands.parities in
        parity_answer lits content lists has _ (none_any (λ parity. normal_form parity ≡ normal_form lits) lists) o
        (listed IsParityContent parity_content_once lists index.entries index.numbered index.say content o found)

  -- the clause and the parity of a number, looked up there
  module _ (i : ℕ) where
    pub clause_at : slice_get (clauses_of formula.constraints) i ≡ Some lits → IsClauseNumber formula lits (get_or originals.clauses.firsts.items i 0)
    clause_at at =
        let lists = clauses_of formula.constraints in
        let index = stands.clauses in
        let within : i < length index.entries = (let e = index.say.count in let w = slice_get_within lists i lits at in omega (arith, e, w)) in
        let d = item index.entries i within in
        let content = (get_or index.entries i d).content.items in
        clause_answer lits content lists (index.say.each i lits d within at) _ (λ none. none) (Some (get_or originals.clauses.firsts.items i 0))
        (least_list IsClauseContent clause_content_once lists index.entries index.numbered index.say content (get_or originals.clauses.firsts.items i 0) (index.orders.firsts i d within))

    pub parity_at : slice_get (parities_of formula.constraints) i ≡ Some lits → IsParityNumber formula lits (get_or originals.parities.firsts.items i 0)
    parity_at at =
        let lists = parities_of formula.constraints in
        let index = stands.parities in
        let within : i < length index.entries = (let e = index.say.count in let w = slice_get_within lists i lits at in omega (arith, e, w)) in
        let d = item index.entries i within in
        let content = (get_or index.entries i d).content.items in
        parity_answer lits content lists (index.say.each i lits d within at) _ (λ none. none) (Some (get_or originals.parities.firsts.items i 0))
        (least_list IsParityContent parity_content_once lists index.entries index.numbered index.say content (get_or originals.parities.firsts.items i 0) (index.orders.firsts i d within))
