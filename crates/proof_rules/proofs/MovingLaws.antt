-- Ids that are moved in two passes are moved at once.
use Rattle.std.proofs.Common.{◌≡◌, refl, sym, ap, ◌∙◌, subst, ℕ, Bool, true, false, cond, not, ◌||◌, eqb-true, eq-eqb, List, [], ◌∷◌, nat_eq, Option, Some, None, is_some, true≢false, Result, Ok, Err, is_ok, OnOk, MatchOption, ◌+◌, ◌<◌, length, get_or, drop, drop-cons, add-one}
use Rattle.std.specs.List.{list_any}
use Rattle.std.specs.Option.{option_map}
use Rattle.std.specs.Ordering.{nat_cmp}
use Rattle.std.specs.Cmp.{nat_cmp_total, unsigned_tied}
use Rattle.std.specs.FinMap as map_
use Rattle.std.proofs.lemmas.Bool.{or_parts}
use Rattle.std.proofs.lemmas.List.{get_or-map}
use Rattle.cx_base.specs.declared.id_moves.IdMove.{IdMove}
use Rattle.cx_semantics.specs.Moves.{old_ids, new_ids, names_twice, without_ids, put_if, put_moved, moved}
use Rattle.cx_semantics.proofs.MoveLaws.{AreThere}
use Rattle.cx_semantics.specs.declared.cause.Cause.TheVariants.{NotLive, IdInUse}
use Rattle.cx_semantics.specs.Judging.{refused_where}
use Rattle.proof_rules.specs.Judges.{JudgesBy}
use Rattle.proof_rules.specs.Moving.{values_for, meets_none, meets_some, moving_in}
use Rattle.proof_rules.specs.declared.refusal.JudgeRefusal.{JudgeRefusal}

turned : (n k : ℕ) → nat_eq n k ≡ nat_eq k n
turned n k = at (nat_eq n k) refl (nat_eq k n) refl
  where
    at : (a : Bool) → nat_eq n k ≡ a → (b : Bool) → nat_eq k n ≡ b → nat_eq n k ≡ nat_eq k n
    at true h true g = h ∙ sym g
    at false h false g = h ∙ sym g
    at true h false g = absurd (true≢false (sym (eq-eqb k n (sym (eqb-true n k h))) ∙ g))
    at false h true g = absurd (true≢false (sym (eq-eqb n k (sym (eqb-true k n g))) ∙ h))

-- a test that is one of two
either : (p q r : ℕ → Bool) → ((k : ℕ) → p k ≡ (q k || r k)) → (ns : List ℕ) → list_any p ns ≡ (list_any q ns || list_any r ns)
either p q r h [] = refl
either p q r h (n ∷ ns) = (λ i. h n i || either p q r h ns i) ∙ four (q n) (r n) (list_any q ns) (list_any r ns)
  where
    four : (a b c d : Bool) → ((a || b) || (c || d)) ≡ ((a || c) || (b || d))
    four true b c d = refl
    four false true true d = refl
    four false true false d = refl
    four false false c d = refl

in_turn : (d o a t : Bool) → (d || ((o || a) || t)) ≡ ((d || a) || (o || t))
in_turn true o a t = refl
in_turn false true true t = refl
in_turn false true false t = refl
in_turn false false a t = refl

refused : (r m : Bool) → r ≡ not m → r ≡ false → m ≡ true
refused r true e h = refl
refused r false e h = absurd (true≢false (sym e ∙ h))

allowed : (r m : Bool) → r ≡ not m → r ≡ true → m ≡ false
allowed r false e h = refl
allowed r true e h = absurd (true≢false (sym h ∙ e))

module _ {V : Type 0} where
  none_after : (contents : map_.FinMap nat_cmp V) (n k : ℕ) → not (map_.contains_key (map_.remove contents n) k) ≡ (nat_eq n k || not (map_.contains_key contents k))
  none_after contents n k =
      ap (λ o. not (is_some o)) (map_.get-remove nat_cmp_total contents n k ∙ ap (λ b. cond b None (map_.get contents k)) (unsigned_tied k n ∙ turned k n))
      ∙ at (nat_eq n k)
    where
      at : (b : Bool) → not (is_some (cond b None (map_.get contents k))) ≡ (b || not (map_.contains_key contents k))
      at true = refl
      at false = refl

  some_after : (contents : map_.FinMap nat_cmp V) (n : ℕ) (o : Option V) → is_some o ≡ true → (k : ℕ) → map_.contains_key (put_if contents n o) k ≡ (nat_eq n k || map_.contains_key contents k)
  some_after contents n None h k = absurd (true≢false (sym h))
  some_after contents n (Some v) h k =
      ap is_some (map_.get-insert nat_cmp_total contents n v k ∙ ap (λ b. cond b (Some v) (map_.get contents k)) (unsigned_tied k n ∙ turned k n)) ∙ at (nat_eq n k)
    where
      at : (b : Bool) → is_some (cond b (Some v) (map_.get contents k)) ≡ (b || map_.contains_key contents k)
      at true = refl
      at false = refl

  pub there : (contents : map_.FinMap nat_cmp V) (moves : List IdMove) → list_any (λ n. not (map_.contains_key contents n)) (old_ids moves) ≡ false → AreThere contents moves
  there contents [] h = tt
  there contents (m ∷ moves) h = let p = or_parts (not (map_.contains_key contents m.from)) _ h in (is_so (map_.contains_key contents m.from) p.0, there contents moves p.1)
    where
      is_so : (b : Bool) → not b ≡ false → b ≡ true
      is_so true h = refl
      is_so false h = absurd (true≢false h)

  -- the first pass meets nothing exactly where nothing is under an old id, or one is named twice
  meets_none_is : (moves : List IdMove) (contents : map_.FinMap nat_cmp V) → meets_none contents moves ≡ (list_any (λ n. not (map_.contains_key contents n)) (old_ids moves) || names_twice (old_ids moves))
  meets_none_is [] contents = refl
  meets_none_is (m ∷ moves) contents =
      ap (λ b. not (map_.contains_key contents m.from) || b)
      (meets_none_is moves (map_.remove contents m.from)
      ∙ ap (λ b. b || names_twice (old_ids moves)) (either _ (nat_eq m.from) (λ k. not (map_.contains_key contents k)) (none_after contents m.from) (old_ids moves)))
      ∙ in_turn (not (map_.contains_key contents m.from)) (list_any (nat_eq m.from) (old_ids moves)) (list_any (λ k. not (map_.contains_key contents k)) (old_ids moves)) (names_twice (old_ids moves))

  -- the second pass meets something exactly where something is under a new id without the old ones, or one is named twice
  meets_some_is : (first : map_.FinMap nat_cmp V) (moves : List IdMove) (contents : map_.FinMap nat_cmp V) → AreThere first moves → meets_some first contents moves ≡ (list_any (map_.contains_key contents) (new_ids moves) || names_twice (new_ids moves))
  meets_some_is first [] contents h = refl
  meets_some_is first (m ∷ moves) contents h =
      ap (λ b. map_.contains_key contents m.to || b)
      (meets_some_is first moves (put_if contents m.to (map_.get first m.from)) h.1
      ∙ ap (λ b. b || names_twice (new_ids moves)) (either _ (nat_eq m.to) (map_.contains_key contents) (some_after contents m.to (map_.get first m.from) h.0) (new_ids moves)))
      ∙ in_turn (map_.contains_key contents m.to) (list_any (nat_eq m.to) (new_ids moves)) (list_any (map_.contains_key contents) (new_ids moves)) (names_twice (new_ids moves))

  module _ (contents : map_.FinMap nat_cmp V) (moves : List IdMove) (r : Bool) where
    abbrev first_test : Bool
    first_test = list_any (λ n. not (map_.contains_key contents n)) (old_ids moves) || names_twice (old_ids moves)

    abbrev second_test : Bool
    second_test = list_any (map_.contains_key (without_ids contents (old_ids moves))) (new_ids moves) || names_twice (new_ids moves)

    pub not_there : r ≡ not (meets_none contents moves) → r ≡ false → first_test ≡ true
    not_there e h = sym (meets_none_is moves contents) ∙ refused r _ e h

    pub all_there : r ≡ not (meets_none contents moves) → r ≡ true → first_test ≡ false
    all_there e h = sym (meets_none_is moves contents) ∙ allowed r _ e h

    module _ (left : map_.FinMap nat_cmp V) (out : left ≡ without_ids contents (old_ids moves)) (old : first_test ≡ false) (told : r ≡ not (meets_some contents left moves)) where
      met : meets_some contents left moves ≡ second_test
      met =
          ap (λ t. meets_some contents t moves) out
          ∙ meets_some_is contents moves (without_ids contents (old_ids moves)) (there contents moves (or_parts (list_any (λ n. not (map_.contains_key contents n)) (old_ids moves)) (names_twice (old_ids moves)) old).0)

      pub in_use : r ≡ false → second_test ≡ true
      in_use h = sym met ∙ refused r _ told h

      pub none_in_use : r ≡ true → second_test ≡ false
      none_in_use h = sym met ∙ allowed r _ told h

pub of_ok : {T E P : Type 0} (r : Result T E) → is_ok r ≡ true → OnOk r P → P
of_ok (Ok x) ok h = h
of_ok (Err x) ok h = absurd (true≢false (sym ok))

pub by_err : {T E : Type 0} (P : Type 0) (r : Result T E) → is_ok r ≡ false → OnOk r P
by_err P (Ok x) err = absurd (true≢false err)
by_err P (Err x) err = tt

pub on_ok : {T E P Q : Type 0} (r : Result T E) → (P → Q) → OnOk r P → OnOk r Q
on_ok (Ok x) f h = f h
on_ok (Err x) f h = tt

judged_alike : {T : Type 0} (a b c d : Bool) (r : Result T JudgeRefusal) → a ≡ b → c ≡ d
    → JudgesBy (refused_where NotLive a ∷ refused_where IdInUse c ∷ []) r → JudgesBy (refused_where NotLive b ∷ refused_where IdInUse d ∷ []) r
judged_alike a b c d r e f h =
    subst (λ (x : Bool). JudgesBy (refused_where NotLive b ∷ refused_where IdInUse x ∷ []) r) f
    (subst (λ (x : Bool). JudgesBy (refused_where NotLive x ∷ refused_where IdInUse c ∷ []) r) e h)

-- ---- a map whose values are seen as others, where that fits the ids of the moves
module _ {V W : Type 0} (seen : map_.FinMap nat_cmp V → map_.FinMap nat_cmp W) (shown : V → W) (Fits : ℕ → Type 0)
    (get_seen : (contents : map_.FinMap nat_cmp V) (k : ℕ) → Fits k → map_.get (seen contents) k ≡ option_map shown (map_.get contents k))
    (put_seen : (contents : map_.FinMap nat_cmp V) (k : ℕ) (v : V) → Fits k → seen (map_.insert contents k v) ≡ map_.insert (seen contents) k (shown v))
    (gone_seen : (contents : map_.FinMap nat_cmp V) (k : ℕ) → Fits k → seen (map_.remove contents k) ≡ map_.remove (seen contents) k) where
  abbrev pub AllFit : List IdMove → Type 0
  AllFit [] = Unit {0}
  AllFit (m ∷ moves) = (Fits m.from × Fits m.to) × AllFit moves

  has_seen : (contents : map_.FinMap nat_cmp V) (k : ℕ) → Fits k → map_.contains_key (seen contents) k ≡ map_.contains_key contents k
  has_seen contents k fits = ap is_some (get_seen contents k fits) ∙ at (map_.get contents k)
    where
      at : (o : Option V) → is_some (option_map shown o) ≡ is_some o
      at None = refl
      at (Some v) = refl

  without_seen : (moves : List IdMove) (contents : map_.FinMap nat_cmp V) → AllFit moves → seen (without_ids contents (old_ids moves)) ≡ without_ids (seen contents) (old_ids moves)
  without_seen [] contents h = refl
  without_seen (m ∷ moves) contents h = without_seen moves (map_.remove contents m.from) h.1 ∙ ap (λ t. without_ids t (old_ids moves)) (gone_seen contents m.from h.0.0)

  put_if_seen : (contents : map_.FinMap nat_cmp V) (k : ℕ) (o : Option V) → Fits k → seen (put_if contents k o) ≡ put_if (seen contents) k (option_map shown o)
  put_if_seen contents k None fits = refl
  put_if_seen contents k (Some v) fits = put_seen contents k v fits

  put_moved_seen : (first : map_.FinMap nat_cmp V) (moves : List IdMove) (contents : map_.FinMap nat_cmp V) → AllFit moves → seen (put_moved first contents moves) ≡ put_moved (seen first) (seen contents) moves
  put_moved_seen first [] contents h = refl
  put_moved_seen first (m ∷ moves) contents h =
      put_moved_seen first moves (put_if contents m.to (map_.get first m.from)) h.1
      ∙ ap (λ t. put_moved (seen first) t moves) (put_if_seen contents m.to (map_.get first m.from) h.0.1 ∙ ap (put_if (seen contents) m.to) (sym (get_seen first m.from h.0.0)))

  pub moved_seen : (contents : map_.FinMap nat_cmp V) (moves : List IdMove) → AllFit moves → seen (moved contents moves) ≡ moved (seen contents) moves
  moved_seen contents moves h =
      put_moved_seen contents moves (without_ids contents (old_ids moves)) h
      ∙ ap (λ t. put_moved (seen contents) t moves) (without_seen moves contents h)

  none_seen : (contents : map_.FinMap nat_cmp V) (moves : List IdMove) → AllFit moves → list_any (λ n. not (map_.contains_key (seen contents) n)) (old_ids moves) ≡ list_any (λ n. not (map_.contains_key contents n)) (old_ids moves)
  none_seen contents [] h = refl
  none_seen contents (m ∷ moves) h = (λ i. not (has_seen contents m.from h.0.0 i) || none_seen contents moves h.1 i)

  some_seen : (contents : map_.FinMap nat_cmp V) (moves : List IdMove) → AllFit moves → list_any (map_.contains_key (seen contents)) (new_ids moves) ≡ list_any (map_.contains_key contents) (new_ids moves)
  some_seen contents [] h = refl
  some_seen contents (m ∷ moves) h = (λ i. has_seen contents m.to h.0.1 i || some_seen contents moves h.1 i)

  -- the rules of both are judged alike
  pub judged_seen : {T : Type 0} (contents : map_.FinMap nat_cmp V) (moves : List IdMove) → AllFit moves → (r : Result T JudgeRefusal) → JudgesBy (moving_in contents moves) r → JudgesBy (moving_in (seen contents) moves) r
  judged_seen contents moves h r judged =
      judged_alike _ _ _ _ r
      (sym (ap (λ b. b || names_twice (old_ids moves)) (none_seen contents moves h)))
      (ap (λ b. b || names_twice (new_ids moves)) (sym (some_seen (without_ids contents (old_ids moves)) moves h) ∙ ap (λ t. list_any (map_.contains_key t) (new_ids moves)) (without_seen moves contents h)))
      judged

-- ---- one by one

-- the move at a place, and those after it
moves_from : (moves : List IdMove) (k : ℕ) (d : IdMove) → k < length moves → drop k moves ≡ get_or moves k d ∷ drop (k + 1) moves
moves_from moves k d less = rw (add-one, drop-cons moves k d)

-- what a look-up that found nothing says
pub none_at : {R V : Type 0} (found : Option R) (o : Option V) (P : R → Type 0) → is_some found ≡ false → MatchOption found (o ≡ None) P → is_some o ≡ false
none_at None o P none says = ap is_some says
none_at (Some x) o P none says = absurd (true≢false none)

-- what a look-up that found something says
pub some_at : {R V : Type 0} (found : Option R) (o : Option V) (P : R → V) → is_some found ≡ true → MatchOption found (o ≡ None) (λ r. o ≡ Some (P r)) → is_some o ≡ true
some_at None o P some says = absurd (true≢false (sym some))
some_at (Some x) o P some says = ap is_some says

module _ {V : Type 0} where
  -- what was found for the move at a place
  found_at : (first : map_.FinMap nat_cmp V) (moves : List IdMove) (found : List (Option V)) (k : ℕ) (d : IdMove) (x : Option V) → k < length moves → found ≡ values_for first moves → x ≡ get_or found k x → x ≡ map_.get first (get_or moves k d).from
  found_at first moves found k d x less is here = here ∙ ap (λ xs. get_or xs k x) is ∙ get_or-map (λ (m : IdMove). map_.get first m.from) moves k d x less

  -- one more value comes under its new id
  pub put_moved_next : (first old new : map_.FinMap nat_cmp V) (moves : List IdMove) (found : List (Option V)) (k : ℕ) (d : IdMove) (x : Option V) → k < length moves → found ≡ values_for first moves → x ≡ get_or found k x
      → new ≡ put_if old (get_or moves k d).to x → put_moved first new (drop (k + 1) moves) ≡ put_moved first old (drop k moves)
  put_moved_next first old new moves found k d x less is here put =
      let move = get_or moves k d in
      let rest = drop (k + 1) moves in
      ap (λ m. put_moved first m rest) (put ∙ ap (put_if old move.to) (found_at first moves found k d x less is here))
      ∙ sym (ap (put_moved first old) (moves_from moves k d less))

  -- nothing is under its new id
  pub meets_some_next : (first old new : map_.FinMap nat_cmp V) (moves : List IdMove) (found : List (Option V)) (k : ℕ) (d : IdMove) (x : Option V) → k < length moves → found ≡ values_for first moves → x ≡ get_or found k x
      → new ≡ put_if old (get_or moves k d).to x → map_.contains_key old (get_or moves k d).to ≡ false → meets_some first new (drop (k + 1) moves) ≡ meets_some first old (drop k moves)
  meets_some_next first old new moves found k d x less is here put none =
      let move = get_or moves k d in
      let rest = drop (k + 1) moves in
      ap (λ m. meets_some first m rest) (put ∙ ap (put_if old move.to) (found_at first moves found k d x less is here))
      ∙ sym (ap (λ b. b || meets_some first (put_if old move.to (map_.get first move.from)) rest) none)
      ∙ sym (ap (meets_some first old) (moves_from moves k d less))

  -- something is under its new id
  pub meets_some_here : (first old : map_.FinMap nat_cmp V) (moves : List IdMove) (k : ℕ) (d : IdMove) → k < length moves → map_.contains_key old (get_or moves k d).to ≡ true → meets_some first old (drop k moves) ≡ true
  meets_some_here first old moves k d less some =
      let move = get_or moves k d in
      ap (meets_some first old) (moves_from moves k d less) ∙ ap (λ b. b || meets_some first (put_if old move.to (map_.get first move.from)) (drop (k + 1) moves)) some

  -- one more old id goes out
  pub without_next : (old new : map_.FinMap nat_cmp V) (moves : List IdMove) (k : ℕ) (d : IdMove) → k < length moves → new ≡ map_.remove old (get_or moves k d).from → without_ids new (old_ids (drop (k + 1) moves)) ≡ without_ids old (old_ids (drop k moves))
  without_next old new moves k d less gone = ap (λ m. without_ids m (old_ids (drop (k + 1) moves))) gone ∙ sym (ap (λ ms. without_ids old (old_ids ms)) (moves_from moves k d less))

  -- something is under it
  pub meets_none_next : (old new : map_.FinMap nat_cmp V) (moves : List IdMove) (k : ℕ) (d : IdMove) → k < length moves → new ≡ map_.remove old (get_or moves k d).from → map_.contains_key old (get_or moves k d).from ≡ true
      → meets_none new (drop (k + 1) moves) ≡ meets_none old (drop k moves)
  meets_none_next old new moves k d less gone some =
      let move = get_or moves k d in
      let rest = drop (k + 1) moves in
      ap (λ m. meets_none m rest) gone ∙ sym (ap (λ b. not b || meets_none (map_.remove old move.from) rest) some) ∙ sym (ap (meets_none old) (moves_from moves k d less))

  -- nothing is under it
  pub meets_none_here : (old : map_.FinMap nat_cmp V) (moves : List IdMove) (k : ℕ) (d : IdMove) → k < length moves → map_.contains_key old (get_or moves k d).from ≡ false → meets_none old (drop k moves) ≡ true
  meets_none_here old moves k d less none =
      let move = get_or moves k d in
      ap (meets_none old) (moves_from moves k d less) ∙ ap (λ b. not b || meets_none (map_.remove old move.from) (drop (k + 1) moves)) none
