-- Words ask for at most one plan, and plain words for what they say.
use Rattle.std.proofs.Common.{◌≡◌, ◌⊎◌, List, [], ◌∷◌, Option, Some, None, Result, Ok, Err, IfOk, inl, inr, refl, sym, ◌∙◌}
use Rattle.clap.specs.Words.{Kinds, fault_of}
use Rattle.cx_desk.specs.Outside.{Bytes}
use Rattle.cx_words.specs.declared.plans.Plan.{Plan}
use Rattle.cx_words.specs.declared.plans.Plan.TheVariants as plan
use Rattle.cx_words.specs.PlainWords.{IsPlain}
use Rattle.cx_words.specs.declared.refusal.PlanRefusal.{PlanRefusal}
use Rattle.cx_words.specs.declared.refusal.PlanRefusal.TheVariants.{Usage}
use Rattle.cx_words.specs.CommandLine.{cxsat}
use Rattle.cx_words.specs.Given.{IsWanted}
use Rattle.cx_words.specs.Words.{Asks, Refuses, plan_of}
use Rattle.cx_words.proofs.PlainNames.{affine_asked, blast_asked, check_asked, demo_asked, elab_asked, model_asked, trim_asked}
use Rattle.cx_words.proofs.PlainSolve.{solve_asked}

pub one_plan : (words : List Bytes) (a b : Plan) → Asks words a → Asks words b → a ≡ b
one_plan words a b h k = let e : Some a ≡ Some b = sym h.asked ∙ k.asked in cc

pub not_refused : (words : List Bytes) (p : Plan) → Asks words p → ¬ Refuses words
not_refused words p h (inl fault) = fault h.taken
not_refused words p h (inr none) = let e = sym none ∙ h.asked in cc

pub refused_or_asked : (words : List Bytes) → Refuses words ⊎ ((p : Plan) × Asks words p)
refused_or_asked words = by (fault_of cxsat words) refl (plan_of words) refl
  where
    by : (faults : Kinds) → fault_of cxsat words ≡ faults → (wanted : Option Plan) → plan_of words ≡ wanted → Refuses words ⊎ ((p : Plan) × Asks words p)
    by (k ∷ ks) has wanted is = inl (inl (λ none. let e : (k ∷ ks) ≡ [] = sym has ∙ none in cc))
    by [] taken None is = inl (inr is)
    by [] taken (Some p) is = inr (p, record { taken = taken; asked = is })

pub plain_asked : (words : List Bytes) (p : Plan) → IsPlain words p → Asks words p
plain_asked words (plan.Solve name to options) h = solve_asked words name to options h
plain_asked words (plan.Check name proof) h = check_asked words name proof h
plain_asked words (plan.Elab name to proof) h = elab_asked words name to proof h
plain_asked words (plan.Model name answer) h = model_asked words name answer h
plain_asked words (plan.Demo kind size seed) h = demo_asked words kind size seed h
plain_asked words (plan.Trim name proof to) h = trim_asked words name proof to h
plain_asked words (plan.Blast name to) h = blast_asked words name to h
plain_asked words (plan.Affine name) h = affine_asked words name h

pub asks_by : (words : List Bytes) (wanted : Option Plan) (r : Result Plan PlanRefusal) → fault_of cxsat words ≡ [] → plan_of words ≡ wanted → IsWanted wanted r → IfOk r (Asks words)
asks_by words wanted (Ok p) taken is h = record { taken = taken; asked = is ∙ h }
asks_by words wanted (Err e) taken is h = tt

pub refuses_by : (words : List Bytes) (wanted : Option Plan) (r : Result Plan PlanRefusal) → plan_of words ≡ wanted → IsWanted wanted r → r ≡ Err Usage → Refuses words
refuses_by words wanted (Ok p) is h e = cc
refuses_by words wanted (Err why) is h e = let same : why ≡ Usage = cc in inr (is ∙ h same)
