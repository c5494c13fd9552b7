-- Parts of a text between two places.
use Rattle.std.proofs.Common.{◌≡◌, refl, sym, ap, ◌∙◌, subst, ℕ, ◌+◌, ◌-◌, ◌<◌, ◌≤◌, Bool, true, false, List, [], ◌∷◌, ◌++◌, length, get_or, take, drop, arith, length-take, length-drop, take-append-drop, drop-drop, get_or-take, get_or-drop, ◌==◌, inl, inr, add-sub_of_le, min, eqb}
use Rattle.std.proofs.lemmas.List.{drop_more, drop_all, take_all}
use Rattle.std.proofs.lemmas.List.Elements.{recursion_from_All, All-from_get_or}
use Rattle.std.specs.List.{AllByRecursion}
use Rattle.cx_texts.specs.Tokens.{SkipsLine}

-- the part after a place, as `&text[n..]` has it
pub part_behind : (text : List ℕ) (n : ℕ) → take (length text - n) (drop n text) ≡ drop n text
part_behind text n = take_all (length text - n) (drop n text) (omega (arith, length-drop n text))

pub part_at : (text : List ℕ) (at end k : ℕ) → at ≤ end → k < end - at → get_or (take (end - at) (drop at text)) k 0 ≡ get_or text (at + k) 0
part_at text at end k h l = get_or-take (end - at) (drop at text) k 0 l ∙ get_or-drop at text k 0

pub part_length : (text : List ℕ) (at end : ℕ) → at ≤ end → end ≤ length text → length (take (end - at) (drop at text)) ≡ end - at
part_length text at end h l = omega (arith, length-take (end - at) (drop at text), length-drop at text)

pub part_all : (P : ℕ → Type 0) (text : List ℕ) (at end : ℕ) → at ≤ end → end ≤ length text → ((k : ℕ) → at ≤ k → k < end → P (get_or text k 0)) → AllByRecursion P (take (end - at) (drop at text))
part_all P text at end h l each = recursion_from_All P _ (All-from_get_or P (take (end - at) (drop at text)) 0 (λ k m.
    let i : k < end - at = omega (arith, part_length text at end h l) in
    subst P (sym (part_at text at end k h i)) (each (at + k) (omega arith) (omega arith))))

pub split_at : (text : List ℕ) (at end : ℕ) → at ≤ end → drop at text ≡ take (end - at) (drop at text) ++ drop end text
split_at text at end h =
    sym (take-append-drop (end - at) (drop at text)) ∙ ap (λ x. take (end - at) (drop at text) ++ x) (drop-drop (end - at) at text ∙ ap (λ n. drop n text) (let e : at + (end - at) ≡ end = omega arith in e))

pub line_at_feed : (text : List ℕ) (at end : ℕ) → at ≤ end → end < length text → ((k : ℕ) → at ≤ k → k < end → (get_or text k 0 == 10) ≡ false) → get_or text end 0 ≡ 10
    → SkipsLine at (drop at text) (end + 1) (drop (end + 1) text)
line_at_feed text at end h l each feed = (
  take (end - at) (drop at text),
  part_all (λ b. (b == 10) ≡ false) text at end h (omega arith) each,
  inr (
    split_at text at end h ∙ ap (λ x. take (end - at) (drop at text) ++ x) (drop_more text end 0 l ∙ ap (λ b. b ∷ drop (end + 1) text) feed),
    (let e : end + 1 ≡ (at + length (take (end - at) (drop at text))) + 1 = omega (arith, part_length text at end h (omega arith)) in e),
  ),
)

pub line_at_end : (text : List ℕ) (at end : ℕ) → at ≤ end → end ≡ length text → ((k : ℕ) → at ≤ k → k < end → (get_or text k 0 == 10) ≡ false)
    → SkipsLine at (drop at text) end (drop end text)
line_at_end text at end h l each = (
  take (end - at) (drop at text),
  part_all (λ b. (b == 10) ≡ false) text at end h (omega arith) each,
  inl (split_at text at end h ∙ ap (λ x. take (end - at) (drop at text) ++ x) (drop_all end text (omega arith)) ∙ Rattle.std.proofs.Common.append-nil _, drop_all end text (omega arith)),
)
