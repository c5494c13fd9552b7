-- Plain words of the commands without options are taken.
use Rattle.std.proofs.Common.{◌≡◌, ℕ, List, [], ◌∷◌, Some, refl, sym, subst, codes}
use Rattle.cx_desk.specs.Outside.{Bytes}
use Rattle.inst_gen.specs.declared.kind.InstanceKind.{InstanceKind}
use Rattle.inst_gen.specs.declared.kind.InstanceKind.TheVariants.{Even, Odd}
use Rattle.cx_words.specs.declared.plans.Plan.TheVariants as plan
use Rattle.cx_words.specs.Given.{kind_of}
use Rattle.cx_words.specs.Words.{Asks}
use Rattle.cx_words.specs.PlainWords.{PlainAffine, PlainBlast, PlainCheck, PlainDemo, PlainElab, PlainModel, PlainTrim, kind_word}
use Rattle.cx_words.proofs.Asked.{asks}
use Rattle.cx_words.proofs.Leaves.{affine_leaf, blast_leaf, check_leaf, demo_leaf, elab_leaf, enters_affine, enters_blast, enters_check, enters_demo, enters_elab, enters_model, enters_trim, model_leaf, no_defaults, trim_leaf}
use Rattle.cx_words.proofs.PlainTexts.{apart, formula_plain, name_plain, number_plain, number_read}
use Rattle.cx_words.proofs.Runs.{Finds, finds_nothing, finds_placed}
use Rattle.cx_words.proofs.Uses.{NoFlag, row}

check_finds : (f q : Bytes) → NoFlag f → NoFlag q → Finds check_leaf (f ∷ q ∷ []) 3 (row (codes "formula") f ∷ row (codes "proof") q ∷ [])
check_finds f q a b =
    let one = finds_placed check_leaf [] 1 [] (codes "formula") f (finds_nothing check_leaf) refl refl refl refl a in
    finds_placed check_leaf (f ∷ []) 2 (row (codes "formula") f ∷ []) (codes "proof") q one refl refl refl refl b

pub check_asked : (words : List Bytes) (f q : Bytes) → PlainCheck f q words → Asks words (plan.Check f q)
check_asked words f q h = subst (λ (w : List Bytes). Asks w (plan.Check f q)) (sym h.spelt)
    (asks h.program (codes "check") check_leaf (f ∷ q ∷ []) 3 _ _ (plan.Check f q) enters_check refl (no_defaults check_leaf _ (refl, (refl, (refl, tt))))
    (check_finds f q (formula_plain f h.formula_name) (name_plain q h.proof_name)) refl (rw (apart f q h.differ) refl))

model_finds : (f a : Bytes) → NoFlag f → NoFlag a → Finds model_leaf (f ∷ a ∷ []) 3 (row (codes "formula") f ∷ row (codes "answer") a ∷ [])
model_finds f a plain_f plain_a =
    let one = finds_placed model_leaf [] 1 [] (codes "formula") f (finds_nothing model_leaf) refl refl refl refl plain_f in
    finds_placed model_leaf (f ∷ []) 2 (row (codes "formula") f ∷ []) (codes "answer") a one refl refl refl refl plain_a

pub model_asked : (words : List Bytes) (f a : Bytes) → PlainModel f a words → Asks words (plan.Model f a)
model_asked words f a h = subst (λ (w : List Bytes). Asks w (plan.Model f a)) (sym h.spelt)
    (asks h.program (codes "model") model_leaf (f ∷ a ∷ []) 3 _ _ (plan.Model f a) enters_model refl (no_defaults model_leaf _ (refl, (refl, (refl, tt))))
    (model_finds f a (formula_plain f h.formula_name) (name_plain a h.answer_name)) refl (rw (apart f a h.differ) refl))

elab_finds : (f l q : Bytes) → NoFlag f → NoFlag l → NoFlag q
    → Finds elab_leaf (f ∷ l ∷ q ∷ []) 4 (row (codes "formula") f ∷ row (codes "log") l ∷ row (codes "proof") q ∷ [])
elab_finds f l q a b c =
    let one = finds_placed elab_leaf [] 1 [] (codes "formula") f (finds_nothing elab_leaf) refl refl refl refl a in
    let two = finds_placed elab_leaf (f ∷ []) 2 (row (codes "formula") f ∷ []) (codes "log") l one refl refl refl refl b in
    finds_placed elab_leaf (f ∷ l ∷ []) 3 (row (codes "formula") f ∷ row (codes "log") l ∷ []) (codes "proof") q two refl refl refl refl c

pub elab_asked : (words : List Bytes) (f l q : Bytes) → PlainElab f l q words → Asks words (plan.Elab f l q)
elab_asked words f l q h = subst (λ (w : List Bytes). Asks w (plan.Elab f l q)) (sym h.spelt)
    (asks h.program (codes "elab") elab_leaf (f ∷ l ∷ q ∷ []) 4 _ _ (plan.Elab f l q) enters_elab refl (no_defaults elab_leaf _ (refl, (refl, (refl, (refl, tt)))))
    (elab_finds f l q (formula_plain f h.formula_name) (name_plain l h.log_name) (name_plain q h.proof_name)) refl
    (rw (apart f l h.differ.0, apart f q h.differ.1, apart l q h.differ.2) refl))

demo_finds : (k n s : Bytes) → NoFlag k → NoFlag n → NoFlag s
    → Finds demo_leaf (k ∷ n ∷ s ∷ []) 4 (row (codes "kind") k ∷ row (codes "size") n ∷ row (codes "seed") s ∷ [])
demo_finds k n s a b c =
    let one = finds_placed demo_leaf [] 1 [] (codes "kind") k (finds_nothing demo_leaf) refl refl refl refl a in
    let two = finds_placed demo_leaf (k ∷ []) 2 (row (codes "kind") k ∷ []) (codes "size") n one refl refl refl refl b in
    finds_placed demo_leaf (k ∷ n ∷ []) 3 (row (codes "kind") k ∷ row (codes "size") n ∷ []) (codes "seed") s two refl refl refl refl c

kind_plain : (k : InstanceKind) → NoFlag (kind_word k)
kind_plain Even = record { long = refl; short = refl; dashes = refl }
kind_plain Odd = record { long = refl; short = refl; dashes = refl }

kind_read : (k : InstanceKind) → kind_of (Some (kind_word k)) ≡ Some k
kind_read Even = refl
kind_read Odd = refl

pub demo_asked : (words : List Bytes) (k : InstanceKind) (size seed : ℕ) → PlainDemo k size seed words → Asks words (plan.Demo k size seed)
demo_asked words k size seed h = subst (λ (w : List Bytes). Asks w (plan.Demo k size seed)) (sym h.spelt)
    (asks h.program (codes "demo") demo_leaf (kind_word k ∷ h.size_text ∷ h.seed_text ∷ []) 4 _ _ (plan.Demo k size seed) enters_demo refl
    (no_defaults demo_leaf _ (refl, (refl, (refl, (refl, tt)))))
    (demo_finds (kind_word k) h.size_text h.seed_text (kind_plain k) (number_plain h.size_text size h.size_number.spelt) (number_plain h.seed_text seed h.seed_number.spelt)) refl
    (rw (kind_read k, number_read 4 2000 h.size_text size h.size_number, number_read 0 18446744073709551615 h.seed_text seed h.seed_number) refl))

trim_finds : (f q o : Bytes) → NoFlag f → NoFlag q → NoFlag o
    → Finds trim_leaf (f ∷ q ∷ o ∷ []) 4 (row (codes "formula") f ∷ row (codes "proof") q ∷ row (codes "out") o ∷ [])
trim_finds f q o a b c =
    let one = finds_placed trim_leaf [] 1 [] (codes "formula") f (finds_nothing trim_leaf) refl refl refl refl a in
    let two = finds_placed trim_leaf (f ∷ []) 2 (row (codes "formula") f ∷ []) (codes "proof") q one refl refl refl refl b in
    finds_placed trim_leaf (f ∷ q ∷ []) 3 (row (codes "formula") f ∷ row (codes "proof") q ∷ []) (codes "out") o two refl refl refl refl c

pub trim_asked : (words : List Bytes) (f q o : Bytes) → PlainTrim f q o words → Asks words (plan.Trim f q o)
trim_asked words f q o h = subst (λ (w : List Bytes). Asks w (plan.Trim f q o)) (sym h.spelt)
    (asks h.program (codes "trim") trim_leaf (f ∷ q ∷ o ∷ []) 4 _ _ (plan.Trim f q o) enters_trim refl (no_defaults trim_leaf _ (refl, (refl, (refl, (refl, tt)))))
    (trim_finds f q o (formula_plain f h.formula_name) (name_plain q h.proof_name) (name_plain o h.out_name)) refl
    (rw (apart f q h.differ.0, apart f o h.differ.1, apart q o h.differ.2) refl))

blast_finds : (f o : Bytes) → NoFlag f → NoFlag o → Finds blast_leaf (f ∷ o ∷ []) 3 (row (codes "formula") f ∷ row (codes "out") o ∷ [])
blast_finds f o a b =
    let one = finds_placed blast_leaf [] 1 [] (codes "formula") f (finds_nothing blast_leaf) refl refl refl refl a in
    finds_placed blast_leaf (f ∷ []) 2 (row (codes "formula") f ∷ []) (codes "out") o one refl refl refl refl b

pub blast_asked : (words : List Bytes) (f o : Bytes) → PlainBlast f o words → Asks words (plan.Blast f o)
blast_asked words f o h = subst (λ (w : List Bytes). Asks w (plan.Blast f o)) (sym h.spelt)
    (asks h.program (codes "blast") blast_leaf (f ∷ o ∷ []) 3 _ _ (plan.Blast f o) enters_blast refl (no_defaults blast_leaf _ (refl, (refl, (refl, tt))))
    (blast_finds f o (formula_plain f h.formula_name) (name_plain o h.out_name)) refl (rw (apart f o h.differ) refl))

affine_finds : (f : Bytes) → NoFlag f → Finds affine_leaf (f ∷ []) 2 (row (codes "formula") f ∷ [])
affine_finds f plain = finds_placed affine_leaf [] 1 [] (codes "formula") f (finds_nothing affine_leaf) refl refl refl refl plain

pub affine_asked : (words : List Bytes) (f : Bytes) → PlainAffine f words → Asks words (plan.Affine f)
affine_asked words f h = subst (λ (w : List Bytes). Asks w (plan.Affine f)) (sym h.spelt)
    (asks h.program (codes "affine") affine_leaf (f ∷ []) 2 _ _ (plan.Affine f) enters_affine refl (no_defaults affine_leaf _ (refl, (refl, tt)))
    (affine_finds f (formula_plain f h.formula_name)) refl refl)
