-- Clauses of which none bears on another are tidy.
use Rattle.std.proofs.Common.{◌≡◌, ◌≢◌, ap, false, [], arith}
use Rattle.std.proofs.lemmas.Bool.{false_from_ne_true, or_left, or_right}
use Rattle.cx_base.specs.Literals.{Literal}
use Rattle.std.specs.List.{Contains}
use Rattle.cx_semantics.specs.Chain.{is_inside}
use Rattle.cx_semantics.specs.Fresh.{is_tautology}
use Rattle.clause_arena.specs.Clauses.{ArenaState, literals_at}
use Rattle.tidy_rules.specs.declared.part.TidyPart.{TidyPart}
use Rattle.tidy_rules.specs.declared.part.TidyPart.TheVariants.{Clause, Unit as AUnit}
use Rattle.tidy_rules.specs.Parts.{IsPart, Tidied, lits_in}
use Rattle.tidy_rules.specs.Relations.{strengthens}
use Rattle.clause_tidy.specs.Answers.{HasNoTautology}
use Rattle.clause_tidy.specs.Pairs.{NoneBears}

none_listed : (l : Literal) → Contains [] l → ⊥
none_listed l (k, less, e) = omega (arith, less)

pub tidied_arena : (a : ArenaState) → HasNoTautology a → NoneBears a → Tidied a []
tidied_arena a free none = record { no_tautology = no_taut; none_inside = no_inside; none_strengthened = no_strong }
  where
    no_taut : (p : TidyPart) → IsPart a [] p → is_tautology (lits_in a p) ≡ false
    no_taut (Clause r) l = free r l
    no_taut (AUnit x) l = absurd (none_listed x l)

    no_inside : (p q : TidyPart) → IsPart a [] p → IsPart a [] q → p ≢ q → is_inside (lits_in a p) (lits_in a q) ≡ false
    no_inside (Clause r) (Clause q) l m ne = false_from_ne_true (is_inside (literals_at a r) (literals_at a q)) (λ e. none q m r ((λ same. ne (ap Clause same)), l, or_left (is_inside (literals_at a r) (literals_at a q)) (strengthens (literals_at a r) (literals_at a q)) e))
    no_inside (Clause r) (AUnit x) l m ne = absurd (none_listed x m)
    no_inside (AUnit x) q l m ne = absurd (none_listed x l)

    no_strong : (p q : TidyPart) → IsPart a [] p → IsPart a [] q → p ≢ q → strengthens (lits_in a p) (lits_in a q) ≡ false
    no_strong (Clause r) (Clause q) l m ne = false_from_ne_true (strengthens (literals_at a r) (literals_at a q)) (λ e. none q m r ((λ same. ne (ap Clause same)), l, or_right (is_inside (literals_at a r) (literals_at a q)) (strengthens (literals_at a r) (literals_at a q)) e))
    no_strong (Clause r) (AUnit x) l m ne = absurd (none_listed x m)
    no_strong (AUnit x) q l m ne = absurd (none_listed x l)
