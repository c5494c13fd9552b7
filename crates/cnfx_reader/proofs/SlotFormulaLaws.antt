-- A formula that is read from a slot piece by piece is that of the whole text.
use Rattle.std.proofs.Common.{◌≡◌, refl, sym, ap, ◌∙◌, subst, ℕ, ◌+◌, ◌-◌, ◌≤◌, ◌||◌, true, false, List, [], ◌++◌, length, drop, Ok, Err, Result, arith, append_assoc, length-append, length-drop}
use Rattle.cx_base.specs.Drafts.{Draft}
use Rattle.cx_base.specs.Endings.{finished}
use Rattle.cx_base.specs.Problem.{Problem, greatest_variable}
use Rattle.cx_base.specs.declared.constraint.Constraint.{Constraint}
use Rattle.cx_desk.specs.declared.desk.Slot.{Slot}
use Rattle.cx_desk.specs.declared.calls.ReadErr.{ReadErr}
use Rattle.cx_desk.specs.declared.calls.ReadErr.TheVariants as why
use Rattle.cx_desk.specs.declared.draining.DrainErr.{DrainErr}
use Rattle.cx_desk.specs.declared.draining.DrainErr.TheVariants as drained
use Rattle.cx_desk.specs.Gave.{Gave, nothing, whole, joined}
use Rattle.cx_desk.specs.Outside.{Bytes, Outside, started_in}
use Rattle.cx_desk.specs.Calls.{taken, ReadFaulted, Whole, DrainFails}
use Rattle.cx_desk.specs.SlotBytes.{BytesState, taken_by, BytesRead, ReadingStops, RestRead}
use Rattle.cx_desk.proofs.Moves.{taken-twice, taken-none}
use Rattle.cx_texts.specs.FormulaText.{header, Reads}
use Rattle.cx_texts.specs.Tokens.{Token}
use Rattle.cx_texts.specs.declared.line_state.LineState.TheVariants.{Start}
use Rattle.cx_texts.specs.declared.offence.Offence.{Offence}
use Rattle.cnfx_reader.specs.Body.{Outcome}
use Rattle.cnfx_reader.specs.FromSlot.{FromFails, ReadsFrom, from_read, from_desk, from_drained}
use Rattle.cnfx_reader.specs.PieceSteps.{answer_from, behind_header, IsRefusedBy, IsWhole}
use Rattle.cnfx_reader.specs.ReadsTo.{IsRefusedAs}
use Rattle.cnfx_reader.specs.SlotFormula.{answer_of, answer_of_text, PassedBytes, GoesOn, IsLast, fresh, HasRead}
use Rattle.cnfx_reader.specs.TokensLeft.{formula_tokens_from, formula_tokens_in, formula_tokens_within}
use Rattle.cnfx_reader.specs.declared.from_refusal.FromRefusal.{FromRefusal}
use Rattle.cnfx_reader.specs.declared.header_token.HeaderPart.TheVariants.{P}
use Rattle.cnfx_reader.specs.declared.piece.Phase.TheVariants.{Head}
use Rattle.cnfx_reader.specs.declared.refusal.ReadRefusal.{ReadRefusal}
use Rattle.cnfx_reader.specs.declared.refusal.ReadRefusal.TheVariants.{NoHeader, BadHeader, BadToken, Unterminated, VarLimit, Memory}
use Rattle.cnfx_reader.specs.declared.slot_formula.SlotFormula.{SlotFormula}
use Rattle.cnfx_reader.proofs.TextReading.{refused_header, refused_body, read_formula_is}

-- ---- bytes that are passed

module _ (s t : BytesState) (passed : PassedBytes s t) where
  abbrev later : BytesState
  later = record s { bytes = drop passed.0 s.bytes; place = s.place + passed.0 }

  pub passed_taken : taken_by t ≡ taken_by s
  passed_taken = ap taken_by passed.2 ∙ (let e : taken_by later ≡ taken_by s = omega (arith, length-drop passed.0 s.bytes, passed.1) in e)

  pub passed_slot : t.slot ≡ s.slot
  passed_slot = ap (λ (x : BytesState). x.slot) passed.2

  pub passed_limit : t.limit ≡ s.limit
  passed_limit = ap (λ (x : BytesState). x.limit) passed.2

  pub passed_ended : t.ended ≡ s.ended
  passed_ended = ap (λ (x : BytesState). x.ended) passed.2

  pub passed_rest : (p : Outside) (len : ℕ) (q : Outside) → RestRead t p len q → RestRead s p len q
  passed_rest p len q r = record {
    got = r.got;
    took = r.took ∙ ap (λ (k : Slot). taken k r.got p) passed_slot;
    whole = r.whole ∙ ap (λ n. n + length r.got.bytes) passed_taken;
    fits = omega (arith, r.fits, passed_limit);
    ends = ap (λ e. e || r.got.ended) (sym passed_ended) ∙ r.ends;
    none = λ e. r.none (passed_ended ∙ e);
  }

  pub passed_stops : (p : Outside) (e : DrainErr) (q : Outside) → DrainFails t.slot (t.limit - taken_by t) p e q → DrainFails s.slot (s.limit - taken_by s) p e q
  passed_stops p e q h = subst (λ n. DrainFails s.slot n p e q) (λ i. passed_limit i - passed_taken i) (subst (λ (k : Slot). DrainFails k (t.limit - taken_by t) p e q) passed_slot h)

-- ---- the whole text

pub text_refused : (text : Bytes) (e : ReadRefusal) → IsRefusedBy e (answer_of_text (length text) text) → IsRefusedAs text e
text_refused text e h = go (header (length text) (formula_tokens_from 0 text)) refl h
  where
    go : (r : Result (ℕ × List Token) Offence) → header (length text) (formula_tokens_from 0 text) ≡ r → IsRefusedBy e (behind_header (length text) (record { constraints = []; unfinished = [] }) r) → IsRefusedAs text e
    go (Ok (v, body)) is k = refused_body text v body is e k
    go (Err o) is k = subst (IsRefusedAs text) (sym k) (refused_header text o is)

pub text_reads : (text : Bytes) (v : ℕ) (cs : List Constraint) → answer_of_text (length text) text ≡ Ok (v, record { constraints = cs; ending = finished }) → Reads text (record { variables = greatest_variable v cs; constraints = cs })
text_reads text v cs h = go (header (length text) (formula_tokens_from 0 text)) refl h
  where
    go : (r : Result (ℕ × List Token) Offence) → header (length text) (formula_tokens_from 0 text) ≡ r → behind_header (length text) (record { constraints = []; unfinished = [] }) r ≡ Ok (v, record { constraints = cs; ending = finished })
        → Reads text (record { variables = greatest_variable v cs; constraints = cs })
    go (Ok (w, body)) is k =
        let pair : (w, Rattle.cnfx_reader.specs.Body.outcome (length text) Rattle.cnfx_reader.specs.declared.pending.Pending.TheVariants.Nothing (record { constraints = []; unfinished = [] }) (Rattle.cx_texts.specs.Words.placed_formula_words body)) ≡ (v, record { constraints = cs; ending = finished }) = cc (k) in
        subst (λ (n : ℕ). Reads text (record { variables = greatest_variable n cs; constraints = cs })) (ap (λ (x : ℕ × Outcome). x.0) pair) (read_formula_is text w body is cs (ap (λ (x : ℕ × Outcome). x.1) pair))
    go (Err o) is k = cc

module _ (slot : Slot) (limit : ℕ) (o : Outside) where
  -- ---- one call after another

  pub begins : (b : BytesState) (d : Draft) → b ≡ fresh slot limit → d ≡ record { constraints = []; unfinished = [] } → HasRead slot limit o (record { bytes = b; line = Start; phase = Head P; builder = d }) o
  begins b d is empty = subst (λ (x : BytesState). HasRead slot limit o (record { bytes = x; line = Start; phase = Head P; builder = d }) o) (sym is)
      (subst (λ (x : Draft). HasRead slot limit o (record { bytes = fresh slot limit; line = Start; phase = Head P; builder = x }) o) (sym empty) (record {
        same_slot = refl;
        same_limit = refl;
        few = omega arith;
        got = nothing;
        took = sym (taken-none slot o);
        count = omega arith;
        ends = refl;
        fits = (tt, refl);
        same = λ len more. refl;
      }))

  module _ (s : SlotFormula) (p : Outside) (h : HasRead slot limit o s p) where
    pub goes : (t : SlotFormula) → GoesOn s t → HasRead slot limit o t p
    goes t g =
        let same = passed_taken s.bytes t.bytes g.passed in
        record {
          same_slot = passed_slot s.bytes t.bytes g.passed ∙ h.same_slot;
          same_limit = passed_limit s.bytes t.bytes g.passed ∙ h.same_limit;
          few = omega (arith, same, h.few);
          got = h.got;
          took = h.took;
          count = h.count ∙ sym same;
          ends = h.ends ∙ sym (passed_ended s.bytes t.bytes g.passed);
          fits = g.fits h.fits;
          same = λ len more. h.same len more ∙ g.same len more;
        }

    -- what the slot gave next, after what it gave so far
    took_more : (g : Gave) → taken s.bytes.slot g p ≡ taken slot (joined h.got g) o
    took_more g = (λ i. taken (h.same_slot i) g (h.took i)) ∙ taken-twice slot h.got g o

    count_on : (g : Gave) → length (h.got.bytes ++ g.bytes) ≡ taken_by s.bytes + length g.bytes
    count_on g = length-append h.got.bytes g.bytes ∙ ap (λ n. n + length g.bytes) h.count

    count_read : (b : BytesState) (q : Outside) (r : BytesRead s.bytes p b q) → length (h.got.bytes ++ r.got.bytes) ≡ taken_by b
    count_read b q r = omega (arith, count_on r.got, ap length r.after, length-append s.bytes.bytes r.got.bytes, r.kept.place)

    ends_read : (b : BytesState) (q : Outside) (r : BytesRead s.bytes p b q) → (h.got.ended || r.got.ended) ≡ b.ended
    ends_read b q r = ap (λ e. e || r.got.ended) h.ends ∙ sym r.ends

    pub reads : (b : BytesState) (q : Outside) → BytesRead s.bytes p b q → taken_by b ≤ b.limit → HasRead slot limit o (record s { bytes = b }) q
    reads b q r within = record {
      same_slot = r.kept.slot ∙ h.same_slot;
      same_limit = r.kept.limit ∙ h.same_limit;
      few = omega (arith, within, r.kept.limit, h.same_limit);
      got = joined h.got r.got;
      took = r.took ∙ took_more r.got;
      count = count_read b q r;
      ends = ends_read b q r;
      fits = h.fits;
      same = λ len more.
          let bytes : s.bytes.bytes ++ (r.got.bytes ++ more) ≡ b.bytes ++ more = sym (append_assoc s.bytes.bytes r.got.bytes more) ∙ ap (λ bs. bs ++ more) (sym r.after) in
          ap (answer_of_text len) (append_assoc h.got.bytes r.got.bytes more) ∙ h.same len (r.got.bytes ++ more)
          ∙ (λ i. answer_from s.phase len s.builder (formula_tokens_in s.line (sym r.kept.place i) (bytes i)));
    }

    -- ---- reading stops

    pub stops : (e : ReadErr) (b : BytesState) (q : Outside) → ReadingStops s.bytes p e b q → FromFails slot limit o (from_desk e) q
    stops why.Memory b q k =
        let g = k.why.1.0 in
        (joined h.got g, omega (arith, count_on g, k.why.0, k.why.1.1, k.kept.limit, h.same_limit), k.why.1.2 ∙ took_more g)
    stops why.Failed b q k =
        let g = k.why.1.0 in
        (joined h.got g, omega (arith, count_on g, k.why.0, k.why.1.1, k.kept.limit, h.same_limit), subst (λ x. ReadFaulted x q) (took_more g) k.why.1.2)
    stops why.TooLong b q k =
        let r = k.why.2 in
        record {
          got = joined h.got r.got;
          count = omega (arith, count_read b q r, k.why.0, k.kept.limit, h.same_limit);
          ends = ends_read b q r ∙ k.why.1;
          took = r.took ∙ took_more r.got;
        }

    pub rest_stops : (e : DrainErr) (q : Outside) → s.bytes.ended ≡ false → DrainFails s.bytes.slot (s.bytes.limit - taken_by s.bytes) p e q → FromFails slot limit o (from_drained e) q
    rest_stops drained.Failed q still (g, few, k) = (joined h.got g, omega (arith, count_on g, few, h.few, h.same_limit), subst (λ x. ReadFaulted x q) (took_more g) k)
    rest_stops drained.TooLong q still k = record {
      got = joined h.got k.got;
      count = omega (arith, count_on k.got, k.count, h.few, h.same_limit);
      ends = (λ i. (h.ends ∙ still) i || k.ends i);
      took = k.took ∙ took_more k.got;
    }

    -- ---- the text was read to its end

    pub whole_text : (len : ℕ) (q : Outside) (r : RestRead s.bytes p len q) → (text : Bytes) × Whole slot limit text o q × (len ≡ length text) × ((n : ℕ) → answer_of_text n text ≡ answer_of s n r.got.bytes)
    whole_text len q r =
        let text = h.got.bytes ++ r.got.bytes in
        let count = count_on r.got in
        let ended : (h.got.ended || r.got.ended) ≡ true = ap (λ e. e || r.got.ended) h.ends ∙ r.ends in (
          text,
          record {
            fits = omega (arith, count, r.whole, r.fits, h.same_limit);
            took = r.took ∙ took_more r.got ∙ (λ i. taken slot (record { bytes = text; ended = ended i }) o);
          },
          r.whole ∙ sym count,
          λ n. h.same n r.got.bytes,
        )

  refused_by : (e : ReadRefusal) (text : Bytes) (q : Outside) → Whole slot limit text o q → IsRefusedAs text e → FromFails slot limit o (from_read e) q
  refused_by (NoHeader place) text q w h = (text, w, h)
  refused_by (BadHeader place) text q w h = (text, w, h)
  refused_by (BadToken place) text q w h = (text, w, h)
  refused_by (Unterminated place) text q w h = (text, w, h)
  refused_by (VarLimit place) text q w h = (text, w, h)
  refused_by Memory text q w h = (whole text, w.fits, w.took)

  -- the text was read to its end, and is refused so
  pub refused_whole : (s : SlotFormula) (p : Outside) → HasRead slot limit o s p → (len : ℕ) (q : Outside) (r : RestRead s.bytes p len q) (e : ReadRefusal) → IsRefusedBy e (answer_of s len r.got.bytes) → FromFails slot limit o (from_read e) q
  refused_whole s p h len q r e refused =
      let w = whole_text s p h len q r in
      refused_by e w.0 q w.1 (text_refused w.0 e (subst (λ n. IsRefusedBy e (answer_of_text n w.0)) w.2 (subst (IsRefusedBy e) (sym (w.3 len)) refused)))

  -- the text was read to its end, and is this formula
  pub reads_whole : (s : SlotFormula) (p : Outside) → HasRead slot limit o s p → (len : ℕ) (q : Outside) (r : RestRead s.bytes p len q) (v : ℕ) (d : Draft) → IsWhole v d (answer_of s len r.got.bytes)
      → (text : Bytes) × Whole slot limit text o q × Reads text (record { variables = greatest_variable v d.constraints; constraints = d.constraints })
  reads_whole s p h len q r v d whole =
      let w = whole_text s p h len q r in
      (w.0, w.1, text_reads w.0 v d.constraints (ap (λ n. answer_of_text n w.0) (sym w.2) ∙ w.3 len ∙ whole.1))

  -- the text was read to its end by its last bytes, and is this formula
  module _ (s : SlotFormula) (p : Outside) (h : HasRead slot limit o s p) (t : SlotFormula) (last : IsLast s t) where
    pub last_stops : (e : DrainErr) (q : Outside) → t.bytes.ended ≡ false → DrainFails t.bytes.slot (t.bytes.limit - taken_by t.bytes) p e q → FromFails slot limit o (from_drained e) q
    last_stops e q still k = rest_stops s p h e q (sym (passed_ended s.bytes t.bytes last.passed) ∙ still) (passed_stops s.bytes t.bytes last.passed p e q k)

    module _ (len : ℕ) (q : Outside) (r : RestRead t.bytes p len q) where
      rest : RestRead s.bytes p len q
      rest = passed_rest s.bytes t.bytes last.passed p len q r

      abbrev answer_last : Result (ℕ × Outcome) Offence
      answer_last = answer_from t.phase len t.builder (formula_tokens_within t.bytes.place t.bytes.bytes)

      as_last : answer_of s len rest.got.bytes ≡ answer_last
      as_last = last.same len rest.got.bytes (λ ended. rest.none (sym (passed_ended s.bytes t.bytes last.passed) ∙ ended))

      pub last_refused : (e : ReadRefusal) → IsRefusedBy e answer_last → FromFails slot limit o (from_read e) q
      last_refused e refused = refused_whole s p h len q rest e (subst (IsRefusedBy e) (sym as_last) refused)

      pub last_reads : (v : ℕ) (d : Draft) → IsWhole v d answer_last
          → (text : Bytes) × Whole slot limit text o q × Reads text (record { variables = greatest_variable v d.constraints; constraints = d.constraints })
      last_reads v d whole = reads_whole s p h len q rest v d (whole.0, as_last ∙ whole.1)

-- ---- what is still to be read

pub started_later : (slot : Slot) (limit : ℕ) (o : Outside) (s : SlotFormula) (p : Outside) → HasRead slot limit o s p → started_in slot o.started ≡ true → started_in s.bytes.slot p.started ≡ true
started_later slot limit o s p h e = (λ i. started_in (h.same_slot i) ((ap (λ (x : Outside). x.started) h.took) i)) ∙ e

-- ---- a reader that has read nothing yet

module _ (slot : Slot) (limit : ℕ) (o : Outside) (s : SlotFormula) (h : HasRead slot limit o s o) where
  pub at_first : HasRead s.bytes.slot s.bytes.limit o s o
  at_first = subst (λ (k : Slot). HasRead k s.bytes.limit o s o) (sym h.same_slot) (subst (λ n. HasRead slot n o s o) (sym h.same_limit) h)

  pub told_at_first : (r : Result Problem FromRefusal) (q : Outside) → ReadsFrom s.bytes.slot s.bytes.limit o r q → ReadsFrom slot limit o r q
  told_at_first r q k = subst (λ (k : Slot). ReadsFrom k limit o r q) h.same_slot (subst (λ n. ReadsFrom s.bytes.slot n o r q) h.same_limit k)

-- ---- what a call of the desk requires

abbrev pub IsReady : BytesState → Outside → Type 0
IsReady b p = (started_in b.slot p.started ≡ true) × (taken_by b ≤ b.limit)

pub ready : (slot : Slot) (limit : ℕ) (o : Outside) (s : SlotFormula) (p : Outside) → HasRead slot limit o s p → started_in slot o.started ≡ true → IsReady s.bytes p
ready slot limit o s p h started = (started_later slot limit o s p h started, omega (arith, h.few, h.same_limit))

pub ready_behind : (s t : BytesState) (p : Outside) → PassedBytes s t → IsReady s p → IsReady t p
ready_behind s t p passed r = (
  ap (λ (k : Slot). started_in k p.started) (passed_slot s t passed) ∙ r.0,
  omega (arith, passed_taken s t passed, passed_limit s t passed, r.1),
)
