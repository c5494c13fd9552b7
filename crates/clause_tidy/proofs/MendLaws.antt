-- What the looks at two clauses say of them.
use Rattle.std.proofs.Common.{◌≡◌, ap, ◌∙◌, sym, Bool, true, false, ◌||◌, List}
use Rattle.cx_base.specs.Literals.{Literal}
use Rattle.cx_semantics.specs.Chain.{is_inside}
use Rattle.tidy_rules.specs.Relations.{strengthens, bears_on}
use Rattle.clause_tidy.proofs.Literals.{not_both}

pub inside_by : (a b x y : List Literal) (r : Bool) → x ≡ a → y ≡ b → is_inside x y ≡ r → is_inside a b ≡ r
inside_by a b x y r e f h = ap (λ lits. is_inside lits b) (sym e) ∙ ap (is_inside x) (sym f) ∙ h

pub strengthens_by : (a b x y : List Literal) (r : Bool) → x ≡ a → y ≡ b → strengthens x y ≡ r → strengthens a b ≡ r
strengthens_by a b x y r e f h = ap (λ lits. strengthens lits b) (sym e) ∙ ap (strengthens x) (sym f) ∙ h

pub none_bears : (a b : List Literal) → bears_on a b ≡ true → is_inside a b ≡ false → strengthens a b ≡ false → ⊥
none_bears a b bears outside weak = not_both (bears_on a b) bears (ap (λ (t : Bool). t || strengthens a b) outside ∙ weak)
