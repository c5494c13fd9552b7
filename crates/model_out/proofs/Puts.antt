-- An answer is written piece by piece.
use Rattle.std.proofs.Common.{◌≡◌, sym, ap, ◌∙◌, subst, ℕ, ◌+◌, ◌<◌, ◌≤◌, Bool, false, codes, append_assoc, List, [], ◌∷◌, ◌++◌, flat_map, length, take, drop, get_or, append-nil, arith, Result, Ok, Err}
use Rattle.std.specs.List.{enumerate_from}
use Rattle.std.proofs.lemmas.Grind.{flat_map-append}
use Rattle.std.proofs.lemmas.List.{take_more, take_all, take-append-drop}
use Rattle.std.proofs.lemmas.List.FromFn.{length-enumerate_from, get_or-enumerate_from}
use Rattle.cx_desk.specs.declared.desk.Port.TheVariants.{Answer}
use Rattle.cx_desk.specs.Outside.{Bytes, Outside}
use Rattle.cx_desk.specs.Calls.{gained, PutsAll}
use Rattle.cx_desk.proofs.Moves.{gained-twice, gained-none, fails-within}
use Rattle.cx_texts.specs.AnswerText.{printed_value, answer_text}
use Rattle.model_out.specs.Waiting.{Takes, Fails, Adds}

first_fails : (a b : Bytes) (old new : Outside) → Fails a old new → Fails (a ++ b) old new
first_fails a b old new h = fails-within Answer [] a b h.0 old old new h.1 (sym (gained-none Answer old)) h.2

then_fails : (a b : Bytes) (old mid new : Outside) → mid ≡ gained Answer a old → Fails b mid new → Fails (a ++ b) old new
then_fails a b old mid new e h = subst (λ c. Fails (a ++ c) old new) (append-nil b) (fails-within Answer a b [] h.0 old mid new h.1 e h.2)

-- ---- bytes that wait

pub takes_more : (a b : Bytes) (old mid new : Outside) (u v w : Bytes) → Takes a old u mid v → Takes b mid v new w → Takes (a ++ b) old u new w
takes_more a b old mid new u v w h k = (
  h.0 ++ k.0,
  k.1 ∙ ap (gained Answer k.0) h.1 ∙ gained-twice Answer h.0 k.0 old,
  append_assoc h.0 k.0 w ∙ ap (λ t. h.0 ++ t) k.2 ∙ sym (append_assoc h.0 v b) ∙ ap (λ t. t ++ b) h.2 ∙ append_assoc u a b,
)

-- what was taken before comes before what fails
pub takes_then_fails : (a b : Bytes) (old mid new : Outside) (u v : Bytes) → Takes a old u mid v → Fails (v ++ b) mid new → Fails (u ++ (a ++ b)) old new
takes_then_fails a b old mid new u v h k =
    subst (λ t. Fails t old new) (sym (append_assoc h.0 v b) ∙ ap (λ t. t ++ b) h.2 ∙ append_assoc u a b) (then_fails h.0 (v ++ b) old mid new h.1 k)

pub fails_before : (a b : Bytes) (old new : Outside) (u : Bytes) → Fails (u ++ a) old new → Fails (u ++ (a ++ b)) old new
fails_before a b old new u h = subst (λ t. Fails t old new) (append_assoc u a b) (first_fails (u ++ a) b old new h)

pub adds_more : {T E : Type 0} (a b : Bytes) (old mid new : Outside) (u v w : Bytes) (r : Result T E) → Takes a old u mid v → Adds b mid v r new w → Adds (a ++ b) old u r new w
adds_more a b old mid new u v w (Ok x) h k = takes_more a b old mid new u v w h k
adds_more a b old mid new u v w (Err x) h k = takes_then_fails a b old mid new u v h k

-- what waited is written, and a piece after it
pub adds_written : {T E : Type 0} (piece : Bytes) (old mid new : Outside) (u : Bytes) (r : Result T E) → mid ≡ gained Answer u old → PutsAll Answer piece mid r new → Adds piece old u r new []
adds_written piece old mid new u (Ok x) e h = (u ++ piece, h ∙ ap (gained Answer piece) e ∙ gained-twice Answer u piece old, append-nil (u ++ piece))
adds_written piece old mid new u (Err x) e h = then_fails u piece old mid new e h

pub waits : (piece : Bytes) (old : Outside) (u w : Bytes) → w ≡ u ++ piece → Takes piece old u old w
waits piece old u w e = ([], sym (gained-none Answer old), e)

pub writes_all : {T E : Type 0} (text : Bytes) (old mid new : Outside) (w : Bytes) (r : Result T E) → Takes text old [] mid w → PutsAll Answer w mid r new → PutsAll Answer text old r new
writes_all text old mid new w (Ok x) h k = k ∙ ap (gained Answer w) h.1 ∙ gained-twice Answer h.0 w old ∙ ap (λ t. gained Answer t old) h.2
writes_all text old mid new w (Err x) h k = subst (λ t. Fails t old new) h.2 (then_fails h.0 w old mid new h.1 k)

-- ---- the literals

abbrev placed : List Bool → List (ℕ × Bool)
placed values = enumerate_from 0 values

at_place : (values : List Bool) (i : ℕ) → i < length values → get_or (placed values) i (0, false) ≡ (i, get_or values i false)
at_place values i low = get_or-enumerate_from 0 values i (0, false) low ∙ (let e : 0 + i ≡ i = omega arith in ap {B = ℕ × Bool} (λ k. (k, get_or values i false)) e)

within : (values : List Bool) (i : ℕ) → i < length values → i < length (placed values)
within values i low = omega (arith, length-enumerate_from 0 values)

front_and_next : (values : List Bool) (i : ℕ) → i < length values → flat_map printed_value (take i (placed values)) ++ printed_value (i, get_or values i false) ≡ flat_map printed_value (take (i + 1) (placed values))
front_and_next values i low =
    ap (λ t. flat_map printed_value (take i (placed values)) ++ t) (sym (append-nil (printed_value (i, get_or values i false))) ∙ ap (λ p. flat_map printed_value (p ∷ [])) (sym (at_place values i low)))
    ∙ sym (flat_map-append printed_value (take i (placed values)) (get_or (placed values) i (0, false) ∷ []))
    ∙ ap (flat_map printed_value) (sym (take_more (placed values) i (0, false) (within values i low)))

pub value_taken : (values : List Bool) (i : ℕ) (old mid new : Outside) (u v w : Bytes) → i < length values → Takes (flat_map printed_value (take i (placed values))) old u mid v
    → Takes (printed_value (i, get_or values i false)) mid v new w → Takes (flat_map printed_value (take (i + 1) (placed values))) old u new w
value_taken values i old mid new u v w low h k =
    subst (λ t. Takes t old u new w) (front_and_next values i low) (takes_more (flat_map printed_value (take i (placed values))) (printed_value (i, get_or values i false)) old mid new u v w h k)

pub value_fails : (values : List Bool) (i : ℕ) (old mid new : Outside) (u v : Bytes) → i < length values → Takes (flat_map printed_value (take i (placed values))) old u mid v
    → Fails (v ++ printed_value (i, get_or values i false)) mid new → Fails (u ++ flat_map printed_value (placed values)) old new
value_fails values i old mid new u v low h k =
    let front : Bytes = flat_map printed_value (take (i + 1) (placed values)) in
    let rest : Bytes = flat_map printed_value (drop (i + 1) (placed values)) in
    let so_far : Fails (u ++ front) old new =
    subst (λ t. Fails (u ++ t) old new) (front_and_next values i low) (takes_then_fails (flat_map printed_value (take i (placed values))) (printed_value (i, get_or values i false)) old mid new u v h k) in
    subst (λ t. Fails (u ++ t) old new) (sym (flat_map-append printed_value (take (i + 1) (placed values)) (drop (i + 1) (placed values))) ∙ ap (flat_map printed_value) (take-append-drop (i + 1) (placed values)))
    (fails_before front rest old new u so_far)

pub all_taken : (values : List Bool) (i : ℕ) (old mid : Outside) (u v : Bytes) → length values ≤ i → Takes (flat_map printed_value (take i (placed values))) old u mid v → Takes (flat_map printed_value (placed values)) old u mid v
all_taken values i old mid u v past h = subst (λ t. Takes (flat_map printed_value t) old u mid v) (take_all i (placed values) (omega (arith, length-enumerate_from 0 values))) h

pub text_is : (values : List Bool) → (codes "s SATISFIABLE" ++ 10 ∷ codes "v") ++ (flat_map printed_value (placed values) ++ (codes " 0" ++ 10 ∷ [])) ≡ answer_text values
text_is values = ap (λ t. (codes "s SATISFIABLE" ++ 10 ∷ codes "v") ++ t) (sym (append_assoc (flat_map printed_value (placed values)) (codes " 0") (10 ∷ [])))
