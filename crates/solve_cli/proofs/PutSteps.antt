-- Steps that are put on the Proof port one after another.
use Rattle.std.proofs.Common.{◌≡◌, refl, sym, ap, ◌∙◌, subst, ℕ, ◌<◌, List, [], ◌∷◌, ◌++◌, length, take, append_assoc, append-nil}
use Rattle.std.proofs.lemmas.Grind.{flat_map-append}
use Rattle.cx_base.specs.declared.steps.ProofStep.{ProofStep}
use Rattle.cx_desk.specs.declared.desk.Port.TheVariants as port
use Rattle.cx_desk.specs.Outside.{Bytes, Outside}
use Rattle.cx_desk.specs.Calls.{gained, PutFaulted}
use Rattle.cx_desk.proofs.Moves.{gained-none, gained-twice, fails-within}
use Rattle.cx_texts.specs.Grammar.{spelling}
use Rattle.cx_texts.specs.ProofText.{proof_steps}
use Rattle.cx_texts.specs.Printed.{printed_line, printed_proof}

abbrev line_of : ProofStep → Bytes
line_of step = printed_line (spelling proof_steps step)

-- this many of the steps are on the port, and these are still to come
abbrev pub ArePut : List ProofStep → List ProofStep → Outside → Outside → Type 0
ArePut all left old now = (done : List ProofStep) × (all ≡ done ++ left) × (now ≡ gained port.Proof (printed_proof done) old)

pub none_put : (all : List ProofStep) (old : Outside) → ArePut all all old old
none_put all old = ([], refl, sym (gained-none port.Proof old))

with_one : (all done left rest : List ProofStep) (step : ProofStep) → all ≡ done ++ left → left ≡ step ∷ rest → all ≡ (done ++ step ∷ []) ++ rest
with_one all done left rest step split is = split ∙ (ap (λ (x : List ProofStep). done ++ x) is ∙ sym (append_assoc done (step ∷ []) rest))

one_line : (step : ProofStep) → printed_proof (step ∷ []) ≡ line_of step
one_line step = append-nil (line_of step)

-- one more
pub one_put : (all left rest : List ProofStep) (step : ProofStep) (old now new : Outside) → ArePut all left old now → left ≡ step ∷ rest → new ≡ gained port.Proof (line_of step) now → ArePut all rest old new
one_put all left rest step old now new (done, split, moved) is put = (
  done ++ step ∷ [],
  with_one all done left rest step split is,
  put
      ∙ (ap (gained port.Proof (line_of step)) moved
      ∙ (gained-twice port.Proof (printed_proof done) (line_of step) old
      ∙ ap (λ (x : Bytes). gained port.Proof x old)
      (ap (λ (x : Bytes). printed_proof done ++ x) (sym (one_line step)) ∙ sym (flat_map-append line_of done (step ∷ []))))),
)

-- all of them
pub all_put : (all left : List ProofStep) (old now : Outside) → ArePut all left old now → left ≡ [] → now ≡ gained port.Proof (printed_proof all) old
all_put all left old now (done, split, moved) none =
    let whole : all ≡ done = split ∙ (ap (λ (x : List ProofStep). done ++ x) none ∙ append-nil done) in
    moved ∙ ap (λ (x : List ProofStep). gained port.Proof (printed_proof x) old) (sym whole)

-- the line of one failed
pub one_failed : (all left rest : List ProofStep) (step : ProofStep) (old now new : Outside) → ArePut all left old now → left ≡ step ∷ rest
    → ((k : ℕ) × (k < length (line_of step)) × PutFaulted port.Proof (gained port.Proof (take k (line_of step)) now) new)
    → (k : ℕ) × (k < length (printed_proof all)) × PutFaulted port.Proof (gained port.Proof (take k (printed_proof all)) old) new
one_failed all left rest step old now new (done, split, moved) is (k, low, fault) =
    let whole : printed_proof all ≡ printed_proof done ++ (line_of step ++ printed_proof rest) =
    ap printed_proof (split ∙ ap (λ (x : List ProofStep). done ++ x) is) ∙ flat_map-append line_of done (step ∷ rest) in
    subst (λ (x : Bytes). (j : ℕ) × (j < length x) × PutFaulted port.Proof (gained port.Proof (take j x) old) new) (sym whole)
    (fails-within port.Proof (printed_proof done) (line_of step) (printed_proof rest) k old now new low moved fault)
