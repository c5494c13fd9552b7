-- Words in order: their parts, and each by its place.
use Rattle.std.proofs.Common.{◌≡◌, refl, sym, ap, ◌∙◌, ℕ, zero, suc, ◌+◌, ◌<◌, [], ◌∷◌, ◌++◌, length, get_or, take, drop, arith}
use Rattle.std.proofs.Math.Seq.{take-append_seam, drop-append_seam}
use Rattle.rand_core.specs.Stream.{Stream, next_u64}
use Rattle.inst_gen.specs.Words.{words, after_words}

pub no_words : (s : Stream) → words 0 s ≡ []
unfolding words
no_words s = refl

pub none_drawn : (s : Stream) → after_words 0 s ≡ s
unfolding after_words
none_drawn s = refl

pub one_drawn : (s : Stream) → after_words 1 s ≡ (next_u64 s).1
unfolding after_words
one_drawn s = refl

pub after_words-add : (a b : ℕ) (s : Stream) → after_words b (after_words a s) ≡ after_words (a + b) s
unfolding after_words
after_words-add zero b s = let e : b ≡ 0 + b = omega arith in ap (λ n. after_words n s) e
after_words-add (suc a) b s = after_words-add a b (next_u64 s).1 ∙ (let e : suc (a + b) ≡ suc a + b = omega arith in ap (λ n. after_words n s) e)

pub after_words-next : (k : ℕ) (s : Stream) → after_words (k + 1) s ≡ (next_u64 (after_words k s)).1
after_words-next k s = sym (after_words-add k 1 s) ∙ one_drawn (after_words k s)

pub words-add : (a b : ℕ) (s : Stream) → words (a + b) s ≡ words a s ++ words b (after_words a s)
unfolding words after_words
words-add zero b s = let e : 0 + b ≡ b = omega arith in ap (λ n. words n s) e
words-add (suc a) b s = (let e : suc a + b ≡ suc (a + b) = omega arith in ap (λ n. words n s) e) ∙ ap (λ ws. (next_u64 s).0 ∷ ws) (words-add a b (next_u64 s).1)

pub words-more : (k : ℕ) (s : Stream) → words (k + 1) s ≡ words k s ++ (next_u64 (after_words k s)).0 ∷ []
unfolding words
words-more k s = words-add k 1 s

pub length-words : (k : ℕ) (s : Stream) → length (words k s) ≡ k
unfolding words
length-words zero s = refl
length-words (suc k) s = ap suc (length-words k (next_u64 s).1)

pub word_at : (m j : ℕ) (s : Stream) → j < m → get_or (words m s) j 0 ≡ (next_u64 (after_words j s)).0
unfolding words after_words
word_at zero j s h = absurd (omega arith)
word_at (suc m) zero s h = refl
word_at (suc m) (suc j) s h = word_at m j (next_u64 s).1 (omega arith)

pub take-words : (a b : ℕ) (s : Stream) → take a (words (a + b) s) ≡ words a s
take-words a b s =
    ap (take a) (words-add a b s)
    ∙ ap (λ n. take n (words a s ++ words b (after_words a s))) (sym (length-words a s))
    ∙ take-append_seam (words a s) (words b (after_words a s))

pub drop-words : (a b : ℕ) (s : Stream) → drop a (words (a + b) s) ≡ words b (after_words a s)
drop-words a b s =
    ap (drop a) (words-add a b s)
    ∙ ap (λ n. drop n (words a s ++ words b (after_words a s))) (sym (length-words a s))
    ∙ drop-append_seam (words a s) (words b (after_words a s))

-- one more word drawn
pub drawn_one : (k w : ℕ) (s before after : Stream) → before ≡ after_words k s → (w, after) ≡ next_u64 before → (w ≡ (next_u64 (after_words k s)).0) × (after ≡ after_words (k + 1) s)
drawn_one k w s before after e h =
    let step : (w, after) ≡ next_u64 (after_words k s) = h ∙ ap next_u64 e in
    (ap (λ p. p.0) step, ap (λ p. p.1) step ∙ sym (after_words-next k s))
