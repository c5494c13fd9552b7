use Rattle.std.proofs.Common.{◌≡◌, ◌∙◌, ◌≤◌, ◌+◌, ap, sym, subst, nat_eq, length, length-append, arith}
use Rattle.std.proofs.lemmas.Result.{err_from_is_err_and}
use Rattle.cx_desk.specs.declared.calls.ReadErr.TheVariants.{TooLong}
use Rattle.cx_desk.specs.SlotBytes.{BytesState, BytesRead, ReadingStops, read_err_of, taken_by}
use Rattle.cx_desk.proofs.SlotLaws.{piece_read, piece_too_long, ahead_failed}
use Rattle.cx_desk.proofs.Moves.{not-none}
use Rattle.cx_desk.proofs.slot_bytes.SlotBytes.read_more.Goals as goal

pub returns-clause-read : goal.returns-clause-read
returns-clause-read g c =
    let i = c.self.inside in
    let s : BytesState = record { slot = i.slot; limit = i.limit; bytes = i.ahead; place = i.place; ended = i.ended } in
    let o = g.D.Desk.outside c.args.desk.now in
    let p = g.D.Desk.outside c.read.new.desk in
    let count = c.in_ok-count.count in
    let open_still = ap (λ (x : BytesState). x.ended) c.self.view_is ∙ c.requires.open in
    subst (λ (x : BytesState). BytesRead x o (record s { bytes = c.read.new.self; ended = nat_eq count 0 }) p) c.self.view_is
    (piece_read s o p _ count c.read.new.self open_still c.in_ok-count.ensures)

pub overflow_sub-left : goal.overflow_sub-left
overflow_sub-left g c = omega (arith, c.taken.ensures, c.requires.within, ap (λ (x : BytesState). x.limit) c.self.view_is)

pub read-requires-clause-some : goal.read-requires-clause-some
read-requires-clause-some g c = omega arith

pub returns-in_err-count-clause-read : goal.returns-in_err-count-clause-read
returns-in_err-count-clause-read g c =
    let i = c.self.inside in
    let s : BytesState = record { slot = i.slot; limit = i.limit; bytes = i.ahead; place = i.place; ended = i.ended } in
    let o = g.D.Desk.outside c.args.desk.now in
    let p = g.D.Desk.outside c.read.new.desk in
    let failed = err_from_is_err_and c.from_residual.result c.from_residual.ensures.1 in
    let e = c.in_err-count.field-0.0 in
    let few = subst (λ (x : BytesState). taken_by x ≤ x.limit) (sym c.self.view_is) c.requires.within in
    let stops = ahead_failed s o p e c.read.new.self few c.in_err-count.ensures.0 c.in_err-count.ensures.1 in
    rw (failed.1, failed.2) (subst (λ (x : BytesState). ReadingStops x o (read_err_of e) (record s { bytes = c.read.new.self }) p) c.self.view_is stops)

pub returns-then-count-left-clause-read : goal.returns-then-count-left-clause-read
returns-then-count-left-clause-read g c =
    let i = c.self.inside in
    let s : BytesState = record { slot = i.slot; limit = i.limit; bytes = i.ahead; place = i.place; ended = i.ended } in
    let o = g.D.Desk.outside c.args.desk.now in
    let p = g.D.Desk.outside c.read.new.desk in
    let count = c.in_ok-count.count in
    let more = c.in_ok-count.ensures in
    let open_still = ap (λ (x : BytesState). x.ended) c.self.view_is ∙ c.requires.open in
    let few = subst (λ (x : BytesState). taken_by x ≤ x.limit) (sym c.self.view_is) c.requires.within in
    let past : s.place + length c.read.new.self ≡ s.limit + 1 =
    omega (arith, ap length more.after_is, length-append s.bytes more.came, more.count, more.few, c.if-count-left.true, c.taken.ensures, ap taken_by c.self.view_is, few) in
    subst (λ (x : BytesState). ReadingStops x o TooLong (record s { bytes = c.read.new.self; ended = nat_eq count 0 }) p) c.self.view_is
    (piece_too_long s o p _ count c.read.new.self open_still more past (not-none count (λ none. omega (arith, none, c.if-count-left.true))))
