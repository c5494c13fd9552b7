-- Entries in the order of what they say.
use Rattle.std.proofs.Common.{◌≡◌, refl, sym, ap, ◌∙◌, subst, ℕ, ◌+◌, ◌-◌, ◌<◌, ◌≤◌, true, false, nat_eq, List, ◌∷◌, length, get_or, set, arith, true≢false, ◌⊎◌, inl, inr}
use Rattle.std.specs.List.{All, Contains}
use Rattle.std.specs.List.Sorted.{IsPermutation, IsSorted, IsPartitionPoint, IsBinarySearchResult, IsSearchInRange}
use Rattle.std.specs.Cmp.{IsTotalOrder, nat_cmp_total, then_total, on_total, tied_itself}
use Rattle.std.specs.Cmp.Derive.{then_next}
use Rattle.std.specs.Cmp.Lexicographic.{slice_cmp, nat_list_cmp_total, pointwise, bytes_decides}
use Rattle.std.specs.Ordering.{is_lt, ordering_then, ordering_reverse, nat_cmp}
use Rattle.std.specs.declared.cmp.Ordering.{Ordering}
use Rattle.std.specs.declared.cmp.Ordering.TheVariants.{Less, Equal, Greater}
use Rattle.std.specs.declared.result.Result.{Result}
use Rattle.std.specs.declared.result.Result.TheVariants.{Ok, Err}
use Rattle.std.proofs.lemmas.Bool.{cases_lt, cases_eq}
use Rattle.std.proofs.lemmas.List.{get_or_default, get_or-set_same, get_or-set_other}
use Rattle.std.proofs.lemmas.Cmp.{ranked}
use Rattle.std.proofs.lemmas.List.Elements.{All-contains, Contains-get_or}
use Rattle.std.proofs.lemmas.List.Sorted.{sorted_far, searchable_from_sorted, ranks_by, Contains-permutation, IsPermutation-sym, length_permutation}
use Rattle.std.proofs.lemmas.Map.Keys.{ge_from_not_lt}
use Rattle.std.proofs.lemmas.Map.Lookups.{exact_bytes, exact_unsigned, exact_pairs}
use Rattle.fratx_elab.specs.Contents.{HasFront, by_content, IsLeastOf, IsNowhere, LeastBefore, NumbersWithin, EachOnce, AreNumbered}
use Rattle.fratx_elab.specs.declared.content_index.ContentEntry.{ContentEntry}

-- ---- the order

-- all that is compared before the numbers
abbrev words : ContentEntry → List ℕ
words e = e.first ∷ e.second ∷ e.content.items

-- by what is said alone
abbrev said : ContentEntry → ContentEntry → Ordering
said x y = slice_cmp nat_cmp (words x) (words y)

by_content_total : IsTotalOrder by_content
by_content_total =
    then_total (on_total (λ (e : ContentEntry). e.first) nat_cmp_total) (then_total (on_total (λ (e : ContentEntry). e.second) nat_cmp_total)
    (then_total (on_total (λ (e : ContentEntry). e.content.items) nat_list_cmp_total) (on_total (λ (e : ContentEntry). e.number) nat_cmp_total)))

by_said : (x y : ContentEntry) → by_content x y ≡ ordering_then (said x y) (nat_cmp x.number y.number)
by_said x y =
    let rest = then_next (nat_cmp x.second y.second) (slice_cmp nat_cmp x.content.items y.content.items) (nat_cmp x.number y.number) refl refl in
    then_next (nat_cmp x.first y.first) _ _ refl (ap (ordering_then (nat_cmp x.first y.first)) rest)

same_words : (x y : ContentEntry) → HasFront x → HasFront y → x.content.items ≡ y.content.items → words x ≡ words y
same_words x y a b e = cc

same_content : (x y : ContentEntry) → words x ≡ words y → x.content.items ≡ y.content.items
same_content x y e = cc

-- of those that say the same, the numbers decide
by_number : (x y : ContentEntry) → words x ≡ words y → by_content x y ≡ nat_cmp x.number y.number
by_number x y e =
    let tied : said x y ≡ Equal = ap (λ w. slice_cmp nat_cmp w (words y)) e ∙ tied_itself nat_list_cmp_total (words y) in
    by_said x y ∙ ap (λ o. ordering_then o (nat_cmp x.number y.number)) tied

number_up : (x y : ContentEntry) → words y ≡ words x → is_lt (by_content y x) ≡ false → x.number ≤ y.number
number_up x y e h = ge_from_not_lt y.number x.number (ap is_lt (sym (by_number y x e)) ∙ h)

first_not_less : (a b : Ordering) → is_lt (ordering_then a b) ≡ false → is_lt a ≡ false
first_not_less a b h = grind arith

-- what is not below is not below by what is said
said_up : (x y : ContentEntry) → is_lt (by_content y x) ≡ false → is_lt (said y x) ≡ false
said_up x y h = first_not_less (said y x) (nat_cmp y.number x.number) (ap is_lt (sym (by_said y x)) ∙ h)

neither : (o : Ordering) → is_lt o ≡ false → is_lt (ordering_reverse o) ≡ false → o ≡ Equal
neither o h k = grind arith

-- what is between two that say the same says it too
between : (x y z : ContentEntry) → words x ≡ words z → is_lt (by_content y x) ≡ false → is_lt (by_content z y) ≡ false → y.content.items ≡ z.content.items
between x y z e low high =
    let up : is_lt (said y z) ≡ false = subst (λ w. is_lt (slice_cmp nat_cmp (words y) w) ≡ false) e (said_up x y low) in
    let down : is_lt (ordering_reverse (said y z)) ≡ false = ap is_lt (sym (nat_list_cmp_total.antisymm (words z) (words y))) ∙ said_up y z high in
    same_content y z (exact_bytes (words y) (words z) (neither (said y z) up down))

-- what `==` says of two contents
pub same_items : (xs ys : List ℕ) → pointwise nat_eq xs ys ≡ true → xs ≡ ys
same_items xs ys = (bytes_decides xs ys).0

pub other_items : (xs ys : List ℕ) → pointwise nat_eq xs ys ≡ false → ¬ (xs ≡ ys)
other_items xs ys h e = true≢false (sym ((bytes_decides xs ys).1 e) ∙ h)

-- ---- the first of those that say the same

module _ (entries : List ContentEntry) (fronts : All HasFront entries) (sorted : IsSorted by_content entries) where
  far : (i j : ℕ) (d : ContentEntry) → i ≤ j → j < length entries → is_lt (by_content (get_or entries j d) (get_or entries i d)) ≡ false
  far = sorted_far (λ x y. is_lt (by_content x y)) (ranks_by by_content_total (λ (e : ContentEntry). e)) entries sorted

  -- it has the least number
  pub least_new : (place : ℕ) (d : ContentEntry) → place < length entries → (0 < place → ¬ ((get_or entries (place - 1) d).content.items ≡ (get_or entries place d).content.items))
      → IsLeastOf entries (get_or entries place d).content.items (get_or entries place d).number
  least_new place d lt new = record {
    it = here;
    among = Contains-get_or entries place d lt;
    says = refl;
    numbered = refl;
    least = λ e has same.
        let j = has.0 in
        let at : get_or entries j d ≡ e = get_or_default entries j d e has.1 ∙ has.2 in
        let alike : words (get_or entries j d) ≡ words here = same_words (get_or entries j d) here (fronts j d has.1) (fronts place d lt) (ap (λ (x : ContentEntry). x.content.items) at ∙ same) in
        elim (cases_lt j place) [
          | inl earlier ↦ absurd (new (omega arith) (between (get_or entries j d) (get_or entries (place - 1) d) here alike (far j (place - 1) d (omega arith) (omega arith)) (far (place - 1) place d (omega arith) lt)))
          | inr later ↦ subst (λ (x : ContentEntry). here.number ≤ x.number) at (number_up here (get_or entries j d) alike (far place j d (omega arith) has.1))
        ];
  }
    where
      here : ContentEntry
      here = get_or entries place d

-- ---- the least number of each

-- one more entry's
pub least_more : (entries : List ContentEntry) (firsts : List ℕ) (place index first : ℕ) → EachOnce entries → place < length entries → index < length firsts
    → ((d : ContentEntry) → index + 1 ≡ (get_or entries place d).number) → ((d : ContentEntry) → IsLeastOf entries (get_or entries place d).content.items first) → NumbersWithin (length entries) entries
    → LeastBefore place entries firsts → LeastBefore (place + 1) entries (set firsts index first)
least_more entries firsts place index first once lt within is least numbers before i d h = elim (cases_eq ((get_or entries i d).number - 1) index) [
  | inl same ↦
      let one : get_or entries i d ≡ get_or entries place d = once i place d (omega arith) lt (let n = is d in let l = (numbers i d (omega arith)).0 in omega (arith, n, l, same)) in
      let read : get_or (set firsts index first) ((get_or entries i d).number - 1) 0 ≡ first = ap (λ k. get_or (set firsts index first) k 0) same ∙ get_or-set_same firsts index first 0 within in
      subst (λ k. IsLeastOf entries (get_or entries i d).content.items k) (sym read) (subst (λ (x : ContentEntry). IsLeastOf entries x.content.items first) (sym one) (least d))
  | inr other ↦
      let earlier : i < place = elim (cases_lt i place) [
        | inl e ↦ e
        | inr e ↦ let same : i ≡ place = omega arith in absurd (other (ap (λ k. (get_or entries k d).number - 1) same ∙ (let n = is d in omega (arith, n))))
      ] in
      subst (λ k. IsLeastOf entries (get_or entries i d).content.items k) (sym (get_or-set_other firsts index ((get_or entries i d).number - 1) first 0 other)) (before i d earlier)
]

-- ---- the same of the entries in another order

pub least_moved : (xs ys : List ContentEntry) (content : List ℕ) (number : ℕ) → IsPermutation xs ys → IsLeastOf ys content number → IsLeastOf xs content number
least_moved xs ys content number moved h = record {
  it = h.it;
  among = Contains-permutation ys xs h.it (IsPermutation-sym xs ys moved) h.among;
  says = h.says;
  numbered = h.numbered;
  least = λ e has. h.least e (Contains-permutation xs ys e moved has);
}

pub nowhere_moved : (xs ys : List ContentEntry) (content : List ℕ) → IsPermutation xs ys → IsNowhere ys content → IsNowhere xs content
nowhere_moved xs ys content moved h e has same = h e (Contains-permutation xs ys e moved has) same

-- where the entries are in another order, their numbers are still within the bound, and each is still there once
module _ (xs ys : List ContentEntry) (numbered : AreNumbered xs) (moved : IsPermutation xs ys) where
  was : (i : ℕ) (d : ContentEntry) → i < length ys → Contains xs (get_or ys i d)
  was i d lt = Contains-permutation ys xs (get_or ys i d) (IsPermutation-sym xs ys moved) (Contains-get_or ys i d lt)

  number_of : (x : ContentEntry) (has : Contains xs x) → x.number ≡ has.0 + 1
  number_of x has = ap (λ (e : ContentEntry). e.number) (sym has.2) ∙ numbered has.0 x has.1

  pub numbers_moved : NumbersWithin (length ys) ys
  numbers_moved i d lt =
      let has = was i d lt in
      let n = number_of (get_or ys i d) has in
      let below = has.1 in
      let long = length_permutation xs ys moved in
      (omega (arith, n), omega (arith, n, below, long))

  pub once_moved : EachOnce ys
  once_moved i j d h k same =
      let a = was i d h in
      let b = was j d k in
      let one : a.0 ≡ b.0 = (let m = number_of (get_or ys i d) a in let n = number_of (get_or ys j d) b in omega (arith, m, n, same)) in
      sym a.2 ∙ get_or_default xs a.0 (get_or ys i d) (get_or ys j d) a.1 ∙ ap (λ n. get_or xs n (get_or ys j d)) one ∙ b.2

-- ---- what is looked up

module _ (entries : List ContentEntry) (fronts : All HasFront entries) (sorted : IsSorted by_content entries) (bound : ℕ) (numbers : NumbersWithin bound entries) (sought : ContentEntry) (one : sought.number ≡ 1) (own : HasFront sought) where
  low : (e : ContentEntry) → Contains entries e → 1 ≤ e.number
  low e has = subst (λ (x : ContentEntry). 1 ≤ x.number) has.2 (numbers has.0 e has.1).0

  alike : (e : ContentEntry) → Contains entries e → e.content.items ≡ sought.content.items → words e ≡ words sought
  alike e has same = same_words e sought (All-contains HasFront entries e fronts has) own same

  -- what says this is not less
  not_less : (e : ContentEntry) → Contains entries e → e.content.items ≡ sought.content.items → ¬ (by_content e sought ≡ Less)
  not_less e has same h =
      let lt : e.number < sought.number = ranked e.number sought.number Less (sym h ∙ by_number e sought (alike e has same)) in
      let l = low e has in
      omega (arith, lt, l, one)

  -- an equal one says this, and has the number 1
  equal_is : (e : ContentEntry) → by_content e sought ≡ Equal → (e.content.items ≡ sought.content.items) × (e.number ≡ 1)
  equal_is e h =
      let same = exact_pairs (slice_cmp nat_cmp) nat_cmp exact_bytes exact_unsigned (words e, e.number) (words sought, sought.number) (sym (by_said e sought) ∙ h) in
      (same_content e sought (ap (λ (p : List ℕ × ℕ). p.0) same), ap (λ (p : List ℕ × ℕ). p.1) same ∙ one)

  module _ (place : ℕ) (parted : IsPartitionPoint (λ y. by_content y sought ≡ Less) (λ y. by_content y sought ≡ Greater) entries place) where
    behind : (e : ContentEntry) (has : Contains entries e) → e.content.items ≡ sought.content.items → place ≤ has.0
    behind e has same = elim (cases_lt has.0 place) [
      | inl earlier ↦ absurd (not_less e has same (subst (λ (x : ContentEntry). by_content x sought ≡ Less) has.2 (parted.0 has.0 e (omega arith) earlier)))
      | inr later ↦ omega arith
    ]

    up : (it e : ContentEntry) (has : Contains entries e) → get_or entries place it ≡ it → e.content.items ≡ sought.content.items → is_lt (by_content e it) ≡ false
    up it e has at same =
        let there : get_or entries has.0 it ≡ e = get_or_default entries has.0 it e has.1 ∙ has.2 in
        subst (λ (x : ContentEntry). is_lt (by_content e x) ≡ false) at (subst (λ (x : ContentEntry). is_lt (by_content x (get_or entries place it)) ≡ false) there (far entries fronts sorted place has.0 it (behind e has same) has.1))

    least_at : (it : ContentEntry) → place < length entries → get_or entries place it ≡ it → it.content.items ≡ sought.content.items → IsLeastOf entries sought.content.items it.number
    least_at it lt at says = record {
      it = it;
      among = (place, lt, at);
      says = says;
      numbered = refl;
      least = λ e has same. number_up it e (alike e has same ∙ sym (alike it (place, lt, at) says)) (up it e has at same);
    }

    nowhere_at : (it : ContentEntry) → place < length entries → get_or entries place it ≡ it → ¬ (it.content.items ≡ sought.content.items) → IsNowhere entries sought.content.items
    nowhere_at it lt at other e has same =
        let above : by_content it sought ≡ Greater = subst (λ (x : ContentEntry). by_content x sought ≡ Greater) at (parted.1 place it (omega arith) lt) in
        other (between sought it e (sym (alike e has same)) (ap is_lt above) (up it e has at same) ∙ same)

  -- what a search for it tells of the place that it gives
  module _ (r : Result ℕ ℕ) (place : ℕ) (gives : (r ≡ Ok place) ⊎ (r ≡ Err place)) (found : IsBinarySearchResult (λ y. by_content y sought) entries r) (range : IsSearchInRange r (length entries)) where
    parts : r ≡ Err place → IsPartitionPoint (λ y. by_content y sought ≡ Less) (λ y. by_content y sought ≡ Greater) entries place
    parts e = subst (IsBinarySearchResult (λ y. by_content y sought) entries) e found (searchable_from_sorted by_content_total (λ (x : ContentEntry). x) entries sought sorted)

    equal_at : r ≡ Ok place → (it : ContentEntry) → get_or entries place it ≡ it → (it.content.items ≡ sought.content.items) × (it.number ≡ 1)
    equal_at e it at = equal_is it (subst (λ (x : ContentEntry). by_content x sought ≡ Equal) at (subst (IsBinarySearchResult (λ y. by_content y sought) entries) e found it))

    -- the entry there says it, and has the least number
    pub least_found : (it : ContentEntry) → place < length entries → get_or entries place it ≡ it → it.content.items ≡ sought.content.items → IsLeastOf entries sought.content.items it.number
    least_found it lt at says = elim gives [
      | inl e ↦ record {
        it = it;
        among = (place, lt, at);
        says = says;
        numbered = refl;
        least = λ other has same. (let l = low other has in let n = (equal_at e it at).1 in omega (arith, l, n));
      }
      | inr e ↦ least_at place (parts e) it lt at says
    ]

    -- the entry there says something else
    pub nowhere_found : (it : ContentEntry) → place < length entries → get_or entries place it ≡ it → ¬ (it.content.items ≡ sought.content.items) → IsNowhere entries sought.content.items
    nowhere_found it lt at other = elim gives [
      | inl e ↦ absurd (other (equal_at e it at).0)
      | inr e ↦ nowhere_at place (parts e) it lt at other
    ]

    -- no entry is there
    pub nowhere_past : length entries ≤ place → IsNowhere entries sought.content.items
    nowhere_past past e has same = elim gives [
      | inl k ↦ (let lt : place < length entries = subst (λ o. IsSearchInRange o (length entries)) k range in omega (arith, lt, past))
      | inr k ↦ (let later = behind place (parts k) e has same in let lt = has.1 in omega (arith, later, lt, past))
    ]
