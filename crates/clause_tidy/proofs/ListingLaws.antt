-- Lists by variable that grow.
use Rattle.std.proofs.Common.{◌≡◌, ◌≢◌, refl, sym, ap, ◌∙◌, subst, ℕ, ◌+◌, ◌<◌, ◌≤◌, ⊎_elim, Bool, true, List, [], ◌∷◌, ◌++◌, length, set, get_or, take, arith}
use Rattle.std.specs.List.{All, Contains}
use Rattle.std.proofs.lemmas.Bool.{cases_eq}
use Rattle.std.proofs.lemmas.List.{get_or-set_same, get_or-set_other, get_or_append_left, get_or_push, length-append, length-set}
use Rattle.std.proofs.lemmas.List.Elements.{All-more, All-weaker, Contains-append_left, Contains-append_right}
use Rattle.cx_base.specs.Literals.{Literal}
use Rattle.clause_arena.specs.Clauses.{ArenaState, IsLive, literals_at}
use Rattle.clause_tidy.specs.Listing.{is_chosen, list_of, IsListed, KeepsEntries}
use Rattle.clause_tidy.specs.Indexes.{IsIndexed, AreKnown}
use Rattle.clause_tidy.specs.Signatures.{IsSignature}

module _ (lists : List (List ℕ)) (v r : ℕ) (low : v < length lists) (new : List (List ℕ)) (is : new ≡ set lists v (list_of lists v ++ r ∷ [])) where
  here : list_of new v ≡ list_of lists v ++ r ∷ []
  here = ap (λ (ls : List (List ℕ)). get_or ls v []) is ∙ get_or-set_same lists v (list_of lists v ++ r ∷ []) [] low

  elsewhere : (w : ℕ) → w ≢ v → list_of new w ≡ list_of lists w
  elsewhere w ne = ap (λ (ls : List (List ℕ)). get_or ls w []) is ∙ get_or-set_other lists v w (list_of lists v ++ r ∷ []) [] ne

  pub put_keeps : KeepsEntries lists new
  put_keeps w q h = ⊎_elim
      (λ (e : w ≡ v).
      subst (λ (x : ℕ). Contains (list_of new x) q) (sym e)
      (subst (λ (xs : List ℕ). Contains xs q) (sym here) (Contains-append_left (list_of lists v) (r ∷ []) q (subst (λ (x : ℕ). Contains (list_of lists x) q) e h))))
      (λ (ne : w ≢ v). subst (λ (xs : List ℕ). Contains xs q) (sym (elsewhere w ne)) h) (cases_eq w v)

  pub put_has : Contains (list_of new v) r
  put_has = subst (λ (xs : List ℕ). Contains xs r) (sym here) (Contains-append_right (list_of lists v) (r ∷ []) r (0, omega arith, refl))

  pub put_long : length new ≡ length lists
  put_long = ap (λ (ls : List (List ℕ)). length ls) is ∙ length-set lists v (list_of lists v ++ r ∷ [])

-- ---- all literals, one after another
pub kept_listed : (lists new : List (List ℕ)) (chosen : List Bool) (lits : List Literal) (r : ℕ) → KeepsEntries lists new → IsListed lists chosen lits r → IsListed new chosen lits r
kept_listed lists new chosen lits r keeps h = All-weaker (λ l. is_chosen chosen l.variable ≡ true → Contains (list_of lists l.variable) r) (λ l. is_chosen chosen l.variable ≡ true → Contains (list_of new l.variable) r)
    (λ l k is. keeps l.variable r (k is)) lits h

pub listed_more : (lists new : List (List ℕ)) (chosen : List Bool) (lits : List Literal) (i : ℕ) (x : Literal) (r : ℕ) → i < length lits → x ≡ get_or lits i x → KeepsEntries lists new
    → (is_chosen chosen x.variable ≡ true → Contains (list_of new x.variable) r) → IsListed lists chosen (take i lits) r → IsListed new chosen (take (i + 1) lits) r
listed_more lists new chosen lits i x r low is keeps has before =
    All-more (λ l. is_chosen chosen l.variable ≡ true → Contains (list_of new l.variable) r) lits i x low (kept_listed lists new chosen (take i lits) r keeps before)
    (subst (λ (l : Literal). is_chosen chosen l.variable ≡ true → Contains (list_of new l.variable) r) is has)

-- ---- which variables have a list
pub still_known : (lists new : List (List ℕ)) (lits : List Literal) → length new ≡ length lists → AreKnown lists lits → AreKnown new lits
still_known lists new lits long h = subst (λ n. All (λ l. l.variable < n) lits) (sym long) h

-- ---- one clause more
module _ (a : ArenaState) (lists new : List (List ℕ)) (chosen : List Bool) (long : length new ≡ length lists) (keeps : KeepsEntries lists new) where
  pub indexed_more : (first r : ℕ) (signatures grown : List ℕ) (s : ℕ) → IsIndexed a first r lists chosen signatures → AreKnown lists (literals_at a r) → (first ≤ r → IsListed new chosen (literals_at a r) r)
      → IsSignature s (literals_at a r) → grown ≡ signatures ++ s ∷ [] → IsIndexed a first (r + 1) new chosen grown
  indexed_more first r signatures grown s before known listed signed is =
      let was = before.each in
      record {
        each = let more = ap (λ (ss : List ℕ). length ss) is ∙ length-append signatures (s ∷ []) in let one : length (s ∷ []) ≡ 1 = refl in omega (arith, more, was, one);
        known = λ q low live. still_known lists new (literals_at a q) long (⊎_elim (λ (e : q ≡ r). subst (λ (x : ℕ). AreKnown lists (literals_at a x)) (sym e) known)
            (λ (ne : q ≢ r). before.known q (omega (arith, low, ne)) live) (cases_eq q r));
        listed = λ q past low live. ⊎_elim (λ (e : q ≡ r). subst (λ (x : ℕ). IsListed new chosen (literals_at a x) x) (sym e) (listed (subst (λ (x : ℕ). first ≤ x) e past)))
            (λ (ne : q ≢ r). kept_listed lists new chosen (literals_at a q) q keeps (before.listed q past (omega (arith, low, ne)) live)) (cases_eq q r);
        signed = λ q low live. ⊎_elim
            (λ (e : q ≡ r).
            subst (λ (x : ℕ). IsSignature (get_or grown x 0) (literals_at a x)) (sym e)
            (subst (λ (n : ℕ). IsSignature n (literals_at a r)) (sym (ap (λ (ss : List ℕ). get_or ss r 0) is ∙ get_or_push signatures s 0 r was)) signed))
            (λ (ne : q ≢ r).
            let less : q < r = omega (arith, low, ne) in
            subst (λ (n : ℕ). IsSignature n (literals_at a q)) (sym (ap (λ (ss : List ℕ). get_or ss q 0) is ∙ get_or_append_left signatures (s ∷ []) 0 q (omega (arith, less, was))))
            (before.signed q less live)) (cases_eq q r);
      }

  -- the one before the first comes into the lists
  pub indexed_back : (old first count : ℕ) (signatures : List ℕ) → first + 1 ≡ old → IsIndexed a old count lists chosen signatures → (IsLive a first → IsListed new chosen (literals_at a first) first) → IsIndexed a first count new chosen signatures
  indexed_back old first count signatures is before here = record {
    each = before.each;
    known = λ q low live. still_known lists new (literals_at a q) long (before.known q low live);
    listed = λ q past low live. ⊎_elim (λ (e : q ≡ first). subst (λ (x : ℕ). IsListed new chosen (literals_at a x) x) (sym e) (here (subst (λ (x : ℕ). IsLive a x) e live)))
        (λ (ne : q ≢ first). kept_listed lists new chosen (literals_at a q) q keeps (before.listed q (omega (arith, past, ne, is)) low live)) (cases_eq q first);
    signed = before.signed;
  }

-- where all variables were chosen, fewer may be
pub fewer_chosen : (a : ArenaState) (first count : ℕ) (lists : List (List ℕ)) (all chosen : List Bool) (signatures : List ℕ) → all ≡ [] → IsIndexed a first count lists all signatures → IsIndexed a first count lists chosen signatures
fewer_chosen a first count lists all chosen signatures none before =
    let from_all = subst (λ (bs : List Bool). IsIndexed a first count lists bs signatures) none before in
    record {
      each = before.each;
      known = before.known;
      listed = λ q past low live. All-weaker (λ l. is_chosen [] l.variable ≡ true → Contains (list_of lists l.variable) q) (λ l. is_chosen chosen l.variable ≡ true → Contains (list_of lists l.variable) q) (λ l k _. k refl)
          (literals_at a q) (from_all.listed q past low live);
      signed = before.signed;
    }
