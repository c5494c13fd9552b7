-- One more literal looked at, and what holds when all are.
use Rattle.std.proofs.Common.{◌≡◌, ◌≢◌, ℕ, ◌<◌, ◌+◌, ◌-◌, ◌*◌, ◌≤◌, Bool, List, [], ◌∷◌, ◌++◌, length, get_or, set, take, min, Option, None, IsSome, sym, ap, ◌∙◌, subst, refl, inl, inr, ◌⊎◌, ⊎_elim, arith}
use Rattle.std.specs.List.{Contains, All}
use Rattle.std.proofs.lemmas.Bool.{cases_eq, cases_lt, false≢true}
use Rattle.std.proofs.lemmas.List.{length-append, get_or-set_same, get_or-set_other, length-set, length-take, get_or-take, get_or-append_right, get_or_append_left, get_or_past, get_or_push}
use Rattle.std.proofs.lemmas.List.Elements.{All-get_or}
use Rattle.cx_trail.specs.declared.entry.Reason.{Reason}
use Rattle.watch_lists.specs.Raising.{IsRaised}
use Rattle.cx_base.specs.Literals.{Literal, negate}
use Rattle.cx_trail.specs.declared.entry.Entry.{Entry}
use Rattle.cx_trail.specs.Sequence.{TrailState, IsTrail, IsTrueIn, IsFalseIn, IsOpenIn, entry_at, no_entry, pushed, TakesBack}
use Rattle.cx_base.proofs.LiteralLaws.{negate-negate}
use Rattle.cx_trail.proofs.ValueLaws.{truth_cases, entry_kept, not_both, true_pushed}
use Rattle.clause_arena.specs.Clauses.{ArenaState, Stored, clause_at, literals_in, literals_at, IsLive}
use Rattle.watch_lists.specs.Truths.{IsQuiet}
use Rattle.watch_lists.specs.declared.lists.Side.{Side}
use Rattle.watch_lists.specs.Watching.{clause_of, partner, held_at, side_at, IsAttached, IsThird, looked_at, AreNodes, AreGuarded, IsBehind, WatchState, Fits}
use Rattle.watch_lists.specs.Attaching.{CanBeWatched, literal_at}
use Rattle.watch_lists.specs.Walking.{AllPassed, IsRest, Goes}
use Rattle.watch_lists.proofs.NodeLaws.{guarded_longer, partner_attached, partner_partner, other_inside}

pub quiet_from : (vars : ℕ) (held : List Side) (attached : List Bool) (a : ArenaState) (looked : List ℕ) (entries : List Entry) (top : ℕ) → AreNodes vars held attached a → AreGuarded looked held attached entries → top < length looked → length entries ≤ looked_at looked top → (r : ℕ) → IsAttached attached r → IsQuiet entries (literals_at a r)
quiet_from vars held attached a looked entries top k g ht all r at =
    let n = 2 * r in
    let c : clause_of (2 * r) ≡ r = omega arith in
    let atn : IsAttached attached (clause_of (2 * r)) = subst (IsAttached attached) (sym c) at in
    let l = held_at held (2 * r) in
    let m = held_at held (partner (2 * r)) in
    let in_l : Contains (literals_at a r) (held_at held (2 * r)) = subst (λ x. Contains (literals_at a x) (held_at held (2 * r))) c (k.inside (2 * r) atn) in
    let in_m : Contains (literals_at a r) (held_at held (partner (2 * r))) = other_inside vars held attached a (2 * r) r (held_at held (partner (2 * r))) k atn (sym c) refl in
    let l_true : IsTrueIn entries (held_at held (2 * r)) → IsQuiet entries (literals_at a r) = λ t. inl (held_at held (2 * r), in_l, t) in
    let m_true : IsTrueIn entries (held_at held (partner (2 * r))) → IsQuiet entries (literals_at a r) = λ t. inl (held_at held (partner (2 * r)), in_m, t) in
    ⊎_elim
    (λ (o : IsOpenIn entries (held_at held (2 * r)).variable). ⊎_elim
    (λ (p : IsOpenIn entries (held_at held (partner (2 * r))).variable). inr (held_at held (2 * r), held_at held (partner (2 * r)), in_l, in_m, k.apart (2 * r) atn, o, p))
    (λ (t : IsTrueIn entries (held_at held (partner (2 * r))) ⊎ IsFalseIn entries (held_at held (partner (2 * r)))). ⊎_elim m_true
    (λ (f : IsFalseIn entries (held_at held (partner (2 * r)))).
    let w = g (partner (2 * r)) top f.0 (partner_attached (2 * r) attached atn) ht (omega (arith, f.1.0)) f.1.1 in
    l_true (subst (λ x. IsTrueIn entries (held_at held x)) (partner_partner (2 * r)) (w.0, (w.1, w.2)))) t)
    (truth_cases entries (held_at held (partner (2 * r)))))
    (λ (t : IsTrueIn entries (held_at held (2 * r)) ⊎ IsFalseIn entries (held_at held (2 * r))). ⊎_elim l_true
    (λ (f : IsFalseIn entries (held_at held (2 * r))). let w = g (2 * r) top f.0 atn ht (omega (arith, f.1.0)) f.1.1 in m_true (w.0, (w.1, w.2))) t)
    (truth_cases entries (held_at held (2 * r)))

pub advance_behind : (looked : List ℕ) (u : TrailState) (top head : ℕ) → IsTrail u → IsBehind looked u → top ≡ u.level → length looked ≡ top + 1 → head < length u.entries → IsBehind (set looked top (head + 1)) u
advance_behind looked u top head ok b et el h =
    let n : length (set looked top (head + 1)) ≡ length looked = length-set looked top (head + 1) in
    let mine : looked_at (set looked top (head + 1)) top ≡ head + 1 = get_or-set_same looked top (head + 1) 0 (omega arith) in
    let other : (k : ℕ) → k ≢ top → looked_at (set looked top (head + 1)) k ≡ looked_at looked k = λ k ne. get_or-set_other looked top k (head + 1) 0 ne in
    record {
      some = omega (arith, b.some);
      reach = omega (arith, b.reach);
      few = λ k hk. ⊎_elim (λ (e : k ≡ top). subst (λ x. looked_at (set looked top (head + 1)) x ≤ length u.entries) (sym e) (omega arith))
          (λ (ne : k ≢ top). omega (arith, other k ne, b.few k (omega arith))) (cases_eq k top);
      low = λ k i hk hi. ⊎_elim
          (λ (e : k ≡ top). let hi' : i < head + 1 = subst (λ x. i < x) (ap (looked_at (set looked top (head + 1))) e ∙ mine) hi in omega (arith, ok.levels i (omega arith)))
          (λ (ne : k ≢ top). b.low k i (omega arith) (subst (λ x. i < x) (other k ne) hi)) (cases_eq k top);
    }

pub advance_guarded : (looked : List ℕ) (held : List Side) (attached : List Bool) (u : TrailState) (top head : ℕ) (l : Literal) → IsTrail u → top ≡ u.level → length looked ≡ top + 1 → looked_at looked top ≡ head → l ≡ negate (entry_at u.entries head).literal → AllPassed held attached u l → AreGuarded looked held attached u.entries → AreGuarded (set looked top (head + 1)) held attached u.entries
advance_guarded looked held attached u top head l ok et el eh ea passed g =
    let n : length (set looked top (head + 1)) ≡ length looked = length-set looked top (head + 1) in
    let mine : looked_at (set looked top (head + 1)) top ≡ head + 1 = get_or-set_same looked top (head + 1) 0 (omega arith) in
    let other : (k : ℕ) → k ≢ top → looked_at (set looked top (head + 1)) k ≡ looked_at looked k = λ k ne. get_or-set_other looked top k (head + 1) 0 ne in
    λ m k i at hk hi e. ⊎_elim
    (λ (q : k ≡ top).
    let hi' : i < head + 1 = subst (λ x. i < x) (ap (looked_at (set looked top (head + 1))) q ∙ mine) hi in
    ⊎_elim
    (λ (z : i ≡ head).
    let is_l : held_at held m ≡ l = sym (negate-negate (held_at held m)) ∙ ap negate (sym e) ∙ ap (λ x. negate (entry_at u.entries x).literal) z ∙ sym ea in
    let w = passed m at is_l in
    (w.0, w.1.0, w.1.1, omega (arith, ok.levels w.0 w.1.0)))
    (λ (z : i ≢ head). g m k i at (omega arith) (subst (λ x. i < looked_at looked x) (sym q) (omega arith)) e) (cases_eq i head))
    (λ (ne : k ≢ top). g m k i at (omega arith) (subst (λ x. i < x) (other k ne) hi) e) (cases_eq k top)

pub goes_same : (h1 h2 : List Side) (b1 b2 : List Bool) (a : ArenaState) (s t : TrailState) → b2 ≡ b1 → Goes h1 h2 b2 a s t → Goes h1 h2 b1 a s t
goes_same h1 h2 b1 b2 a s t e g = subst (λ (b : List Bool). Goes h1 h2 b a s t) e g

pub rest_same : (v1 v2 : ℕ) (held : List Side) (b1 b2 : List Bool) (lists : List (List ℕ)) (a : ArenaState) → v2 ≡ v1 → b2 ≡ b1 → IsRest v2 held b2 lists a → IsRest v1 held b1 lists a
rest_same v1 v2 held b1 b2 lists a ev eb k = subst (λ v. IsRest v held b1 lists a) ev (subst (λ (b : List Bool). IsRest v2 held b lists a) eb k)

pub guarded_raised : (level : ℕ) (old new : List ℕ) (held : List Side) (attached : List Bool) (entries : List Entry) → 1 ≤ length old → IsRaised level old new → AreGuarded old held attached entries → AreGuarded new held attached entries
guarded_raised level old new held attached entries some r g n k i at hk hi e = ⊎_elim
    (λ (b : k < length old). g n k i at b (subst (λ x. i < x) (r.kept k b) hi) e)
    (λ (b : length old ≤ k).
    let w = g n (length old - 1) i at (omega arith) (subst (λ x. i < x) (r.raised k b hk) hi) e in
    (w.0, w.1, w.2, omega (arith, w.3))) (cases_lt k (length old))

-- a longer trail
pub fits_pushed : (w : WatchState) (a : ArenaState) (t : TrailState) (level : ℕ) (l : Literal) (reason : Reason) → t.level ≤ level → Fits w a t → Fits w a (pushed t level l reason)
fits_pushed w a t level l reason up f =
    let it : Entry = record { literal = l; level = level; reason = reason } in
    let n = length-append t.entries (it ∷ []) in
    record {
      variables = f.variables;
      nodes = f.nodes;
      guarded = guarded_longer w.looked w.held w.attached t (it ∷ []) f.behind f.guarded;
      behind = record {
        some = f.behind.some;
        reach = omega (arith, f.behind.reach);
        few = λ k h. omega (arith, f.behind.few k h);
        low = λ k i h g. subst (λ (x : Entry). x.level ≤ k) (sym (entry_kept t.entries (it ∷ []) i (omega (arith, f.behind.few k h)))) (f.behind.low k i h g);
      };
    }

-- a clause whose first literal is put on the trail is watched as before
pub watched_pushed : (variables : ℕ) (t : TrailState) (lits : List Literal) (reason : Reason) → IsTrail (pushed t t.level (literal_at lits 0) reason) → CanBeWatched variables t lits → CanBeWatched variables (pushed t t.level (literal_at lits 0) reason) lits
watched_pushed variables t lits reason sound w =
    let it : Entry = record { literal = literal_at lits 0; level = t.level; reason = reason } in
    let n = length-append t.entries (it ∷ []) in
    record {
      long = w.long;
      within = w.within;
      apart = w.apart;
      first = not_both (pushed t t.level (literal_at lits 0) reason) (literal_at lits 0) sound (true_pushed t (pushed t t.level (literal_at lits 0) reason) t.level (literal_at lits 0) reason refl);
      second = λ i s. ⊎_elim
          (λ (h : i < length t.entries).
          let same = entry_kept t.entries (it ∷ []) i h in
          ap (λ (x : Entry). x.level) same ∙ w.second i (h, ap (λ (x : Entry). x.literal) (sym same) ∙ s.1))
          (λ (h : length t.entries ≤ i).
          let last : i ≡ length t.entries = omega (arith, s.0, n) in
          ap (λ x. (entry_at (t.entries ++ it ∷ []) x).level) last ∙ ap (λ (x : Entry). x.level) (get_or_push t.entries it no_entry (length t.entries) refl))
          (cases_lt i (length t.entries));
    }

-- a shorter trail
pub fits_back : (w : WatchState) (a : ArenaState) (t u : TrailState) (level : ℕ) → TakesBack level t u → Fits w a t → Fits (record w { looked = take (level + 1) w.looked }) a u
fits_back w a t u level b f =
    let n = length-append u.entries b.dropped in
    let total = ap length b.parts in
    let looked = take (level + 1) w.looked in
    let fewer : length (take (level + 1) w.looked) ≡ min (level + 1) (length w.looked) = length-take (level + 1) w.looked in
    let same : (k : ℕ) → k < level + 1 → looked_at (take (level + 1) w.looked) k ≡ looked_at w.looked k = λ k h. get_or-take (level + 1) w.looked k 0 h in
    -- an entry of the level or below is in the shorter trail
    let stays : (i k : ℕ) → k ≤ level → i < length t.entries → (entry_at t.entries i).level ≤ k → i < length u.entries = λ i k hk hi low. ⊎_elim (λ (h : i < length u.entries). h)
    (λ (h : length u.entries ≤ i).
    let high = All-get_or (λ (x : Entry). level < x.level) b.dropped (i - length u.entries) no_entry (omega arith) b.dropped_high in
    let at : entry_at t.entries i ≡ get_or b.dropped (i - length u.entries) no_entry = ap (λ (xs : List Entry). entry_at xs i) b.parts ∙ get_or-append_right u.entries b.dropped (length u.entries) i no_entry refl h in
    absurd (omega (arith, ap (λ (x : Entry). x.level) at, high))) (cases_lt i (length u.entries)) in
    let entry : (i : ℕ) → i < length u.entries → entry_at t.entries i ≡ entry_at u.entries i = λ i h. ap (λ (xs : List Entry). entry_at xs i) b.parts ∙ entry_kept u.entries b.dropped i h in
    let few : (k : ℕ) → k < length (take (level + 1) w.looked) → looked_at (take (level + 1) w.looked) k ≤ length u.entries = λ k h.
    let s = same k (omega arith) in
    ⊎_elim (λ (z : looked_at w.looked k ≡ 0). omega arith)
    (λ (nz : looked_at w.looked k ≢ 0). let fk = f.behind.few k (omega arith) in omega (arith, stays (looked_at w.looked k - 1) k (omega arith) (omega arith) (f.behind.low k (looked_at w.looked k - 1) (omega arith) (omega arith)))) (cases_eq (looked_at w.looked k) 0) in
    record {
      variables = f.variables ∙ sym b.variables;
      nodes = f.nodes;
      guarded = λ m k i at hk hi e.
          let s = same k (omega arith) in
          let here : i < length u.entries = omega (arith, few k hk) in
          let g = f.guarded m k i at (omega arith) (omega arith) (ap (λ (x : Entry). x.literal) (entry i here) ∙ e) in
          let stay = stays g.0 k (omega arith) g.1 g.3 in
          let same_entry = entry g.0 stay in
          (g.0, stay, ap (λ (x : Entry). x.literal) (sym same_entry) ∙ g.2, subst (λ (x : Entry). x.level ≤ k) same_entry g.3);
      behind = record {
        some = omega (arith, f.behind.some);
        reach = omega (arith, b.level);
        few = few;
        low = λ k i hk hi.
            let s = same k (omega arith) in
            let here : i < length u.entries = omega (arith, few k hk) in
            subst (λ (x : Entry). x.level ≤ k) (entry i here) (f.behind.low k i (omega arith) (omega arith));
      };
    }

-- a larger arena
same_clause : (a b : ArenaState) (clause : Option Stored) (r : ℕ) → b.clauses ≡ a.clauses ++ clause ∷ [] → IsLive a r → clause_at b r ≡ clause_at a r
same_clause a b clause r e live = ⊎_elim
    (λ (h : r < length a.clauses). ap (λ (xs : List (Option Stored)). get_or xs r None) e ∙ get_or_append_left a.clauses (clause ∷ []) None r h)
    (λ (h : length a.clauses ≤ r). absurd (false≢true (subst IsSome (get_or_past a.clauses r None h) live))) (cases_lt r (length a.clauses))

pub fits_arena : (w : WatchState) (a b : ArenaState) (t : TrailState) (clause : Option Stored) → b.clauses ≡ a.clauses ++ clause ∷ [] → Fits w a t → Fits w b t
fits_arena w a b t clause e f =
    let same : (r : ℕ) → IsAttached w.attached r → clause_at b r ≡ clause_at a r = λ r h. same_clause a b clause r e (f.nodes.live r h) in
    let lits : (r : ℕ) → IsAttached w.attached r → literals_at b r ≡ literals_at a r = λ r h. ap literals_in (same r h) in
    record {
      variables = f.variables;
      nodes = record {
        pairs = f.nodes.pairs;
        live = λ r h. subst IsSome (sym (same r h)) (f.nodes.live r h);
        within = λ r h. subst (λ (xs : List Literal). All (λ l. (1 ≤ l.variable) × (l.variable ≤ w.variables)) xs) (sym (lits r h)) (f.nodes.within r h);
        inside = λ n h. subst (λ (xs : List Literal). Contains xs (held_at w.held n)) (sym (lits (clause_of n) h)) (f.nodes.inside n h);
        apart = f.nodes.apart;
        thirds = λ n h. subst (λ (xs : List Literal). IsThird xs (side_at w.held n) (side_at w.held (partner n))) (sym (lits (clause_of n) h)) (f.nodes.thirds n h);
      };
      guarded = f.guarded;
      behind = f.behind;
    }

pub behind_raised : (level : ℕ) (old new : List ℕ) (t : TrailState) → level ≡ t.level → IsRaised level old new → IsBehind old t → IsBehind new t
behind_raised level old new t e r b = record {
  some = omega (arith, r.long);
  reach = omega (arith, r.long);
  few = λ k h. ⊎_elim (λ (a : k < length old). omega (arith, r.kept k a, b.few k a))
      (λ (a : length old ≤ k). omega (arith, r.raised k a h, b.few (length old - 1) (omega (arith, b.some)))) (cases_lt k (length old));
  low = λ k i h g. ⊎_elim (λ (a : k < length old). b.low k i a (omega (arith, r.kept k a)))
      (λ (a : length old ≤ k). let w = b.low (length old - 1) i (omega (arith, b.some)) (omega (arith, r.raised k a h)) in omega (arith, w)) (cases_lt k (length old));
}
