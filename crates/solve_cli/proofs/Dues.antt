-- The endings that judge the texts: where one is due, its texts came to it.
use Rattle.std.proofs.Common.{◌≡◌, ℕ, Bool, true, false, Option, Some, None, Result, Ok, inl, inr, refl, ap, sym, subst, ◌∙◌}
use Rattle.std.proofs.lemmas.Bool.{both_ways}
use Rattle.cx_base.specs.Problem.{Problem}
use Rattle.cx_base.specs.ExactlyOne.{ExactlyOne}
use Rattle.cx_texts.specs.FormulaText.{Reads, ReadsAs}
use Rattle.cx_texts.specs.declared.offence.Offence.{Offence}
use Rattle.cx_texts.proofs.TextLaws.{one_formula_reading}
use Rattle.cx_desk.specs.Outside.{Bytes, Files}
use Rattle.cx_words.specs.declared.plans.Plan.{Plan}
use Rattle.solve_cli.specs.declared.ending.Ending.{Ending}
use Rattle.solve_cli.specs.declared.ending.Ending.TheVariants as ending
use Rattle.solve_cli.specs.Seen.{text_named}
use Rattle.solve_cli.specs.Commands.{formula_of, second_text}
use Rattle.solve_cli.specs.Happens.{IfNamed, IfNamedElse, FormulaRead, IsPlanted, IsFormula, EarlyDue, Judged, LateDue, Due}

-- two of which there is exactly one
pub same_of_one : {A : Type 0} {P : A → Type 0} → ExactlyOne P → (a b : A) → P a → P b → a ≡ b
same_of_one one a b p q = one.2 a p ∙ sym (one.2 b q)

pub one_formula : (text : Bytes) (f g : Problem) → Reads text f → Reads text g → f ≡ g
one_formula text f g p q =
    let e : ◌≡◌ {A = Result Problem Offence} (Ok f) (Ok g) = same_of_one {P = ReadsAs text} (one_formula_reading text) (Ok f) (Ok g) p q in cc

-- the endings that judge a formula that was read, with its second text
abbrev pub is_judgement : Ending → Bool
is_judgement (ending.FormulaRefused o) = false
is_judgement (ending.TooLong s) = false
is_judgement e = true

early_is : (limit : ℕ) (text : Bytes) (e : Ending) → EarlyDue limit text e → is_judgement e ≡ false
early_is limit text (ending.FormulaRefused o) h = refl
early_is limit text (ending.TooLong s) h = refl
early_is limit text e h = absurd h

not_early : (name : Option Bytes) (limit : ℕ) (files : Files) (e : Ending) → is_judgement e ≡ true → IfNamed name (λ n. EarlyDue limit (text_named n files) e) → ⊥
not_early None limit files e judges h = h
not_early (Some n) limit files e judges h = both_ways (is_judgement e) (early_is limit (text_named n files) e h) judges

pub judged_due : (p : Plan) (limit : ℕ) (files : Files) (e : Ending) → is_judgement e ≡ true → Due p limit files e
    → (f : Problem) × IsFormula p limit files f × Judged e p f (second_text p files)
judged_due p limit files e judges (inl early) = absurd (not_early (formula_of p) limit files e judges early)
judged_due p limit files e judges (inr d) = (d.formula, d.is_formula, by d.due)
  where
    by : LateDue p limit d.formula (second_text p files) e → Judged e p d.formula (second_text p files)
    by (inl h) = absurd (both_ways (is_judgement e) (ap is_judgement h.1) judges)
    by (inr h) = h.1

-- those of the formula that the file reads to
pub judged_of : (p : Plan) (n : Bytes) (limit : ℕ) (files : Files) (f : Problem) (e : Ending) → formula_of p ≡ Some n → is_judgement e ≡ true → Due p limit files e
    → Reads (text_named n files) f → Judged e p f (second_text p files)
judged_of p n limit files f e named judges due reads =
    let d = judged_due p limit files e judges due in
    let read : FormulaRead limit (text_named n files) d.0 = subst (λ (name : Option Bytes). IfNamedElse name (λ m. FormulaRead limit (text_named m files) d.0) (IsPlanted p d.0)) named d.1 in
    subst (λ (g : Problem). Judged e p g (second_text p files)) (one_formula (text_named n files) d.0 f read.reads reads) d.2
