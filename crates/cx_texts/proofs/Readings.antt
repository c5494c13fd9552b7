-- Words have exactly one reading in a grammar that is given by forms.
use Rattle.std.proofs.Common.{◌≡◌, ◌≢◌, refl, sym, ap, ◌∙◌, subst, ℕ, zero, suc, ◌<◌, ◌≤◌, nat_abs, List, [], ◌∷◌, ◌++◌, flat_map, length, arith, append-nil, append_assoc, length-append, ◌⊎◌, inl, inr, le_refl}
use Rattle.std.proofs.lemmas.List.{map-append}
use Rattle.cx_texts.specs.Words.{Word, number, letter, conflict, other, Placed, words, IsWithin}
use Rattle.cx_texts.specs.Grammar.{Field, mark, conflict_line, id, integer, end, ids, integers, pairs, spelled, Grammar, IsStep, Begins, IsUnfinished, Stops, AreInLimit, Spells, FirstBad, FirstBig, EndsAs, Reading}
use Rattle.cx_base.specs.Endings.{Ending, finished, bad_token, too_big, unterminated}
use Rattle.cx_base.specs.ExactlyOne.{ExactlyOne}
use Rattle.cx_base.proofs.Fronts.{Compared, compared}
use Rattle.cx_texts.proofs.Forms.{Forms, Decided, a_step, unfinished, hopeless, decided, same_step}

le_or : (m n : ℕ) → (m ≤ n) ⊎ (m ≤ n → ⊥)
le_or m n = elim (Rattle.std.proofs.lemmas.Bool.cases_lt n m) [ inl h ↦ inr (λ k. omega arith) | inr h ↦ inl h ]

within_or : (limit : ℕ) (w : Word) → IsWithin limit w ⊎ ¬ IsWithin limit w
within_or limit (number z) = le_or (nat_abs z) limit
within_or limit (letter c) = inl tt
within_or limit (conflict k) = inl tt
within_or limit other = inl tt

no_list : {A : Type 0} (a : List A) (p : A) (x : List A) → [] ≡ a ++ p ∷ x → ⊥
no_list [] p x e = cc
no_list (q ∷ a) p x e = cc

spelled_some : (f : Field) (ws : List Word) → spelled f ++ ws ≢ []
spelled_some (mark c) ws e = cc
spelled_some (conflict_line k) ws e = cc
spelled_some (id n) ws e = cc
spelled_some (integer z) ws e = cc
spelled_some end ws e = cc
spelled_some (ids []) ws e = cc
spelled_some (ids (n ∷ ns)) ws e = cc
spelled_some (integers []) ws e = cc
spelled_some (integers (z ∷ zs)) ws e = cc
spelled_some (pairs []) ws e = cc
spelled_some (pairs (m ∷ ms)) ws e = cc

some_spelled : (fs : List Field) → fs ≢ [] → flat_map spelled fs ≢ []
some_spelled [] h e = h refl
some_spelled (f ∷ fs) h e = spelled_some f (flat_map spelled fs) e

module _ {S : Type 0} (g : Grammar S) (all : Forms g) where
  begins_prefix : (a b : List Word) → Begins g (a ++ b) → Begins g a
  begins_prefix a b (s, rest, h) = (s, b ++ rest, subst (λ ws. IsStep g ws s) (append_assoc a b rest) h)

  step_begins : (a : List Word) (s : S) → IsStep g a s → Begins g a
  step_begins a s h = (s, [], subst (λ ws. IsStep g ws s) (sym (append-nil a)) h)

  words_cut : (a : List Placed) (n : Placed) (m : List Placed) → words (a ++ n ∷ m) ≡ (words a ++ n.word ∷ []) ++ words m
  words_cut a n m = map-append _ a (n ∷ m) ∙ sym (append_assoc (words a) (n.word ∷ []) (words m))

  begins_cut : (a : List Placed) (n : Placed) (m : List Placed) → Begins g (words (a ++ n ∷ m)) → Begins g (words a ++ n.word ∷ [])
  begins_cut a n m h = begins_prefix (words a ++ n.word ∷ []) (words m) (subst (Begins g) (words_cut a n m) h)

  step_cut : (a : List Placed) (n : Placed) (m : List Placed) (s : S) → IsStep g (words (a ++ n ∷ m)) s → Begins g (words a ++ n.word ∷ [])
  step_cut a n m s h = begins_cut a n m (step_begins _ s h)

  within_cut : (a : List Placed) (n : Placed) (m : List Placed) → AreInLimit g (a ++ n ∷ m) → IsWithin g.limit n.word
  within_cut [] n m h = h.0
  within_cut (p ∷ a) n m h = within_cut a n m h.1

  within_push : (a : List Placed) (n : Placed) → AreInLimit g a → IsWithin g.limit n.word → AreInLimit g (a ++ n ∷ [])
  within_push [] n h k = (k, tt)
  within_push (p ∷ a) n h k = (h.0, within_push a n h.1 k)

  pub no_step_of_nothing : (s : S) → IsStep g [] s → ⊥
  no_step_of_nothing s h = some_spelled (g.fields s) (all.some_field s) h.1

  stop_clash : (ws : List Word) (r : List Placed) (n : Placed) (m : List Placed) → Stops g ws r → r ≡ n ∷ m → Begins g (ws ++ n.word ∷ []) → ⊥
  stop_clash ws [] n m h e b = cc
  stop_clash ws (p ∷ r) n m h e b = let k : p ≡ n = cc (e) in h (subst (λ q. Begins g (ws ++ q.word ∷ [])) (sym k) b)

  -- ---- one reading at most

  same_spelled : (s t : S) (p r u : List Placed) → Spells g s p r → Spells g t p u → (s ≡ t) × (r ≡ u)
  same_spelled s t p r u a b = go (compared a.front b.front r u (sym a.split ∙ b.split))
    where
      go : Compared a.front b.front r u → (s ≡ t) × (r ≡ u)
      go (inl ([], e, f)) = (same_step g all (words a.front) s t a.step (subst (λ ws. IsStep g (words ws) t) (e ∙ append-nil a.front) b.step), f)
      go (inl (n ∷ m, e, f)) = absurd (stop_clash (words a.front) r n (m ++ u) a.stops f (step_cut a.front n m t (subst (λ ws. IsStep g (words ws) t) e b.step)))
      go (inr ([], e, f)) = (same_step g all (words b.front) s t (subst (λ ws. IsStep g (words ws) s) (e ∙ append-nil b.front) a.step) b.step, sym f)
      go (inr (n ∷ m, e, f)) = absurd (stop_clash (words b.front) u n (m ++ r) b.stops f (step_cut b.front n m s (subst (λ ws. IsStep g (words ws) s) e a.step)))

  module _ (len : ℕ) where
    not_nothing : (s : S) (p r : List Placed) → Spells g s p r → p ≡ [] → ⊥
    not_nothing s p r a e = go a.front refl
      where
        go : (f : List Placed) → a.front ≡ f → ⊥
        go [] h = no_step_of_nothing s (subst (λ ws. IsStep g (words ws) s) h a.step)
        go (q ∷ f) h = let k : ◌≡◌ {A = List Placed} [] (q ∷ (f ++ r)) = sym e ∙ a.split ∙ ap (λ x. x ++ r) h in cc

    not_bad : (s : S) (p r : List Placed) (place : ℕ) → Spells g s p r → FirstBad g p place → ⊥
    not_bad s p r place a b = go (compared a.front b.front r (b.bad ∷ b.rest) (sym a.split ∙ b.split))
      where
        go : Compared a.front b.front r (b.bad ∷ b.rest) → ⊥
        go (inl ([], e, f)) = b.unfinished.1 s (subst (λ ws. IsStep g (words ws) s) (sym (e ∙ append-nil a.front)) a.step)
        go (inl (n ∷ m, e, f)) = stop_clash (words a.front) r n (m ++ b.bad ∷ b.rest) a.stops f (begins_cut a.front n m (subst (λ ws. Begins g (words ws)) e b.unfinished.0))
        go (inr ([], e, f)) = b.unfinished.1 s (subst (λ ws. IsStep g (words ws) s) (e ∙ append-nil b.front) a.step)
        go (inr (n ∷ m, e, f)) = let k : b.bad ≡ n = cc (f) in
            b.fits_not (subst (λ q. Begins g (words b.front ++ q.word ∷ [])) (sym k) (step_cut b.front n m s (subst (λ ws. IsStep g (words ws) s) e a.step)))

    not_big : (s : S) (p r : List Placed) (place : ℕ) → Spells g s p r → FirstBig g p place → ⊥
    not_big s p r place a b = go (compared a.front b.front r (b.big ∷ b.rest) (sym a.split ∙ b.split))
      where
        go : Compared a.front b.front r (b.big ∷ b.rest) → ⊥
        go (inl ([], e, f)) = stop_clash (words a.front) r b.big b.rest a.stops f (subst (λ ws. Begins g (words ws ++ b.big.word ∷ [])) (e ∙ append-nil a.front) b.fits)
        go (inl (n ∷ m, e, f)) = stop_clash (words a.front) r n (m ++ b.big ∷ b.rest) a.stops f
            (begins_cut a.front n m (subst (λ ws. Begins g (words ws)) e (begins_prefix _ _ b.fits)))
        go (inr ([], e, f)) = stop_clash (words a.front) r b.big b.rest a.stops (sym f) (subst (λ ws. Begins g (words ws ++ b.big.word ∷ [])) (sym (e ∙ append-nil b.front)) b.fits)
        go (inr (n ∷ m, e, f)) = let k : b.big ≡ n = cc (f) in b.above (subst (λ q. IsWithin g.limit q.word) (sym k) (within_cut b.front n m (subst (AreInLimit g) e a.within)))

    not_unterminated : (s : S) (p r : List Placed) → Spells g s p r → IsUnfinished g (words p) → ⊥
    not_unterminated s p r a u = go r refl
      where
        go : (x : List Placed) → r ≡ x → ⊥
        go [] e = u.1 s (subst (λ ws. IsStep g (words ws) s) (sym (a.split ∙ ap (λ x. a.front ++ x) e ∙ append-nil a.front)) a.step)
        go (n ∷ m) e = stop_clash (words a.front) r n m a.stops e (begins_cut a.front n m (subst (λ ws. Begins g (words ws)) (a.split ∙ ap (λ x. a.front ++ x) e) u.0))

    no_end : (s : S) (p r : List Placed) (e : Ending) → Spells g s p r → EndsAs g len e p → ⊥
    no_end s p r finished a h = not_nothing s p r a h
    no_end s p r (bad_token place) a h = not_bad s p r place a h
    no_end s p r (too_big place) a h = not_big s p r place a h
    no_end s p r (unterminated place) a h = not_unterminated s p r a h.2

    bad_bad : (p : List Placed) (i j : ℕ) → FirstBad g p i → FirstBad g p j → i ≡ j
    bad_bad p i j a b = go (compared a.front b.front (a.bad ∷ a.rest) (b.bad ∷ b.rest) (sym a.split ∙ b.split))
      where
        go : Compared a.front b.front (a.bad ∷ a.rest) (b.bad ∷ b.rest) → i ≡ j
        go (inl ([], e, f)) = let k : a.bad ≡ b.bad = cc (f) in a.at ∙ ap (λ q. q.place) k ∙ sym b.at
        go (inl (n ∷ m, e, f)) = let k : a.bad ≡ n = cc (f) in
            absurd (a.fits_not (subst (λ q. Begins g (words a.front ++ q.word ∷ [])) (sym k) (begins_cut a.front n m (subst (λ ws. Begins g (words ws)) e b.unfinished.0))))
        go (inr ([], e, f)) = let k : b.bad ≡ a.bad = cc (f) in a.at ∙ ap (λ q. q.place) (sym k) ∙ sym b.at
        go (inr (n ∷ m, e, f)) = let k : b.bad ≡ n = cc (f) in
            absurd (b.fits_not (subst (λ q. Begins g (words b.front ++ q.word ∷ [])) (sym k) (begins_cut b.front n m (subst (λ ws. Begins g (words ws)) e a.unfinished.0))))

    bad_big : (p : List Placed) (i j : ℕ) → FirstBad g p i → FirstBig g p j → ⊥
    bad_big p i j a b = go (compared a.front b.front (a.bad ∷ a.rest) (b.big ∷ b.rest) (sym a.split ∙ b.split))
      where
        go : Compared a.front b.front (a.bad ∷ a.rest) (b.big ∷ b.rest) → ⊥
        go (inl ([], e, f)) = let k : a.bad ≡ b.big = cc (f) in
            a.fits_not (subst (λ q. Begins g (words a.front ++ q.word ∷ [])) (sym k) (subst (λ ws. Begins g (words ws ++ b.big.word ∷ [])) (e ∙ append-nil a.front) b.fits))
        go (inl (n ∷ m, e, f)) = let k : a.bad ≡ n = cc (f) in
            a.fits_not (subst (λ q. Begins g (words a.front ++ q.word ∷ [])) (sym k) (begins_cut a.front n m (subst (λ ws. Begins g (words ws)) e (begins_prefix _ _ b.fits))))
        go (inr ([], e, f)) = let k : b.big ≡ a.bad = cc (f) in
            a.fits_not (subst (λ q. Begins g (words a.front ++ q.word ∷ [])) k (subst (λ ws. Begins g (words ws ++ b.big.word ∷ [])) (sym (e ∙ append-nil b.front)) b.fits))
        go (inr (n ∷ m, e, f)) = let k : b.big ≡ n = cc (f) in b.above (subst (λ q. IsWithin g.limit q.word) (sym k) (within_cut b.front n m (subst (AreInLimit g) e a.within)))

    big_big : (p : List Placed) (i j : ℕ) → FirstBig g p i → FirstBig g p j → i ≡ j
    big_big p i j a b = go (compared a.front b.front (a.big ∷ a.rest) (b.big ∷ b.rest) (sym a.split ∙ b.split))
      where
        go : Compared a.front b.front (a.big ∷ a.rest) (b.big ∷ b.rest) → i ≡ j
        go (inl ([], e, f)) = let k : a.big ≡ b.big = cc (f) in a.at ∙ ap (λ q. q.place) k ∙ sym b.at
        go (inl (n ∷ m, e, f)) = let k : a.big ≡ n = cc (f) in absurd (a.above (subst (λ q. IsWithin g.limit q.word) (sym k) (within_cut a.front n m (subst (AreInLimit g) e b.within))))
        go (inr ([], e, f)) = let k : b.big ≡ a.big = cc (f) in a.at ∙ ap (λ q. q.place) (sym k) ∙ sym b.at
        go (inr (n ∷ m, e, f)) = let k : b.big ≡ n = cc (f) in absurd (b.above (subst (λ q. IsWithin g.limit q.word) (sym k) (within_cut b.front n m (subst (AreInLimit g) e a.within))))

    same_ending : (p : List Placed) (e f : Ending) → EndsAs g len e p → EndsAs g len f p → e ≡ f
    same_ending p finished finished h k = refl
    same_ending p finished (bad_token j) h k = absurd (no_list _ _ _ (sym h ∙ k.split))
    same_ending p finished (too_big j) h k = absurd (no_list _ _ _ (sym h ∙ k.split))
    same_ending p finished (unterminated j) h k = absurd (k.1 h)
    same_ending p (bad_token i) finished h k = absurd (no_list _ _ _ (sym k ∙ h.split))
    same_ending p (bad_token i) (bad_token j) h k = ap bad_token (bad_bad p i j h k)
    same_ending p (bad_token i) (too_big j) h k = absurd (bad_big p i j h k)
    same_ending p (bad_token i) (unterminated j) h k = absurd (h.fits_not (begins_cut h.front h.bad h.rest (subst (λ ws. Begins g (words ws)) h.split k.2.0)))
    same_ending p (too_big i) finished h k = absurd (no_list _ _ _ (sym k ∙ h.split))
    same_ending p (too_big i) (bad_token j) h k = absurd (bad_big p j i k h)
    same_ending p (too_big i) (too_big j) h k = ap too_big (big_big p i j h k)
    same_ending p (too_big i) (unterminated j) h k = absurd (h.above (within_cut h.front h.big h.rest (subst (AreInLimit g) h.split k.3)))
    same_ending p (unterminated i) finished h k = absurd (h.1 k)
    same_ending p (unterminated i) (bad_token j) h k = absurd (k.fits_not (begins_cut k.front k.bad k.rest (subst (λ ws. Begins g (words ws)) k.split h.2.0)))
    same_ending p (unterminated i) (too_big j) h k = absurd (k.above (within_cut k.front k.big k.rest (subst (AreInLimit g) k.split h.3)))
    same_ending p (unterminated i) (unterminated j) h k = ap unterminated (h.0 ∙ sym k.0)

    pub same_reading : (p : List Placed) (ss ts : List S) (e f : Ending) → Reading g len p ss e → Reading g len p ts f → (ss ≡ ts) × (e ≡ f)
    same_reading p [] [] e f h k = (refl, same_ending p e f h k)
    same_reading p [] (t ∷ ts) e f h k = absurd (no_end t p k.0 e k.1 h)
    same_reading p (s ∷ ss) [] e f h k = absurd (no_end s p h.0 f h.1 k)
    same_reading p (s ∷ ss) (t ∷ ts) e f h k =
        let here = same_spelled s t p h.0 k.0 h.1 k.1 in
        let more = same_reading h.0 ss ts e f h.2 (subst (λ r. Reading g len r ts f) (sym here.1) k.2) in
        (ap (λ x. x ∷ ss) here.0 ∙ ap (λ x. t ∷ x) more.0, more.1)

    -- ---- one reading at least

    abbrev First : List Placed → Type 0
    First p = ((s : S) × (r : List Placed) × Spells g s p r) ⊎ ((e : Ending) × EndsAs g len e p)

    ends_open : (p : List Placed) → IsUnfinished g (words p) → AreInLimit g p → First p
    ends_open [] u w = inr (finished, refl)
    ends_open (n ∷ p) u w = inr (unterminated len, (refl, (λ e. cc), u, w))

    ends_here : (p : List Placed) → Begins g (words p) → AreInLimit g p → Decided g (words p) → First p
    ends_here p b w (a_step s h) = inl (s, [], record { front = p; split = sym (append-nil p); step = h; within = w; stops = tt })
    ends_here p b w (unfinished c n) = ends_open p (c, n) w
    ends_here p b w (hopeless n) = absurd (n b)

    breaks : (p : List Placed) (n : Placed) (r : List Placed) → Begins g (words p) → AreInLimit g p → ¬ Begins g (words p ++ n.word ∷ []) → Decided g (words p) → First (p ++ n ∷ r)
    breaks p n r b w fails (a_step s h) = inl (s, n ∷ r, record { front = p; split = refl; step = h; within = w; stops = fails })
    breaks p n r b w fails (unfinished c x) = inr (bad_token n.place, record { front = p; bad = n; rest = r; split = refl; at = refl; unfinished = (c, x); within = w; fits_not = fails })
    breaks p n r b w fails (hopeless x) = absurd (x b)

    pushed : (p : List Placed) (n : Placed) → words p ++ n.word ∷ [] ≡ words (p ++ n ∷ [])
    pushed p n = sym (map-append _ p (n ∷ []))

    next : (p : List Placed) (n : Placed) (r : List Placed) → AreInLimit g p → Begins g (words p ++ n.word ∷ []) → (Begins g (words (p ++ n ∷ [])) → AreInLimit g (p ++ n ∷ []) → First ((p ++ n ∷ []) ++ r))
        → IsWithin g.limit n.word ⊎ ¬ IsWithin g.limit n.word → First (p ++ n ∷ r)
    next p n r w b go (inl h) = subst First (append_assoc p (n ∷ []) r) (go (subst (Begins g) (pushed p n) b) (within_push p n w h))
    next p n r w b go (inr h) = inr (too_big n.place, record { front = p; big = n; rest = r; split = refl; at = refl; within = w; fits = b; above = h })

    choose : (p : List Placed) (n : Placed) (r : List Placed) → Begins g (words p) → AreInLimit g p → (Begins g (words (p ++ n ∷ [])) → AreInLimit g (p ++ n ∷ []) → First ((p ++ n ∷ []) ++ r))
        → Decided g (words p ++ n.word ∷ []) → First (p ++ n ∷ r)
    choose p n r b w go (a_step s h) = next p n r w (step_begins _ s h) go (within_or g.limit n.word)
    choose p n r b w go (unfinished c x) = next p n r w c go (within_or g.limit n.word)
    choose p n r b w go (hopeless x) = breaks p n r b w x (decided g all (words p))

    walk : (r p : List Placed) → Begins g (words p) → AreInLimit g p → First (p ++ r)
    walk [] p b w = subst First (sym (append-nil p)) (ends_here p b w (decided g all (words p)))
    walk (n ∷ r) p b w = choose p n r b w (walk r (p ++ n ∷ [])) (decided g all (words p ++ n.word ∷ []))

    first : (p : List Placed) → First p
    first p = walk p [] all.begins tt

    shorter : (s : S) (p r : List Placed) → Spells g s p r → length r < length p
    shorter s p r a = go a.front refl
      where
        go : (f : List Placed) → a.front ≡ f → length r < length p
        go [] e = absurd (no_step_of_nothing s (subst (λ ws. IsStep g (words ws) s) e a.step))
        go (q ∷ f) e = let k : length p ≡ length ((q ∷ f) ++ r) = ap length (a.split ∙ ap (λ x. x ++ r) e) in omega (arith, k, length-append (q ∷ f) r)

    abbrev Read : List Placed → Type 0
    Read p = (ss : List S) × (e : Ending) × Reading g len p ss e

    read_first : (n : ℕ) (p : List Placed) → length p < suc n → ((q : List Placed) → length q < n → Read q) → First p → Read p
    read_first n p h more (inl (s, r, a)) =
        let k : length r < length p = shorter s p r a in
        let m = more r (omega arith) in
        (s ∷ m.0, m.1, (r, a, m.2))
    read_first n p h more (inr (e, a)) = ([], e, a)

    read : (n : ℕ) (p : List Placed) → length p < n → Read p
    read zero p h = absurd (omega arith)
    read (suc n) p h = read_first n p h (read n) (first p)

    pub reading_of : (p : List Placed) → Read p
    reading_of p = read (suc (length p)) p (le_refl _)

    pub one_reading : (p : List Placed) → ExactlyOne (λ (x : List S × Ending). Reading g len p x.0 x.1)
    one_reading p =
        let r = reading_of p in
        ((r.0, r.1), r.2, λ y h. let e = same_reading p y.0 r.0 y.1 r.1 h r.2 in λ i. (e.0 i, e.1 i))
