use Rattle.std.proofs.Common.{◌≤◌, ◌-◌, refl, sym, subst, List}
use Rattle.cx_base.specs.declared.literal.TheConstants.{MAX_VARIABLE}
use Rattle.cx_texts.specs.Tokens.{Token}
use Rattle.cnfx_reader.specs.PieceSteps.{IsPhaseIn, StepTaken, StepRefused}
use Rattle.cnfx_reader.specs.declared.piece.Phase.{Phase}
use Rattle.cnfx_reader.specs.declared.piece.Phase.TheVariants.{Body}
use Rattle.cnfx_reader.proofs.PieceSteps.{piece_behind, piece_step, piece_refused}
use Rattle.cnfx_reader.proofs.piece.take_body_front.Goals as goal

pub overflow_sub-result : goal.overflow_sub-result
overflow_sub-result c =
    let tokens : List Token = c.within-tokens.result in
    let b = rw c.in-Ok-Some.field-0-is at c.in-Ok-Some.ensures in
    piece_behind c.args.place c.whole_front-len.result c.args.bytes.now tokens c.whole_front-len.ensures.blank c.whole_front-len.ensures.high c.within-tokens.ensures c.in-Body.vars c.in-Body.pending c.args.builder.now c.in-Ok-Some.read c.read_but_last.new.builder b

pub returns-in-Ok-Some : goal.returns-in-Ok-Some
returns-in-Ok-Some c =
    let place = c.args.place in
    let bytes = c.args.bytes.now in
    let tokens : List Token = c.within-tokens.result in
    let old = c.args.builder.now in
    let new = c.read_but_last.new.builder in
    let read = c.in-Ok-Some.read in
    let small : c.in-Body.vars ≤ MAX_VARIABLE = (subst (λ (phase : Phase). IsPhaseIn phase old) c.in-Body.is c.requires.fits).0 in
    let b = rw c.in-Ok-Some.field-0-is at c.in-Ok-Some.ensures in
    subst (λ (phase : Phase). StepTaken phase old place bytes (record { phase = Body c.in-Body.vars read.pending; len = read.last - place }) new) (sym c.in-Body.is)
    (piece_step place c.whole_front-len.result bytes tokens c.whole_front-len.ensures.blank c.whole_front-len.ensures.high c.within-tokens.ensures c.in-Body.vars c.in-Body.pending old read new b small (read.last - place) refl)

pub returns-in-Err : goal.returns-in-Err
returns-in-Err c =
    let place = c.args.place in
    let bytes = c.args.bytes.now in
    let tokens : List Token = c.within-tokens.result in
    let old = c.args.builder.now in
    let e = c.in-Err.refusal in
    subst (λ (phase : Phase). StepRefused phase old place bytes e) (sym c.in-Body.is)
    (piece_refused place c.whole_front-len.result bytes tokens c.whole_front-len.ensures.blank c.whole_front-len.ensures.high c.within-tokens.ensures (Body c.in-Body.vars c.in-Body.pending) old e c.in-Err.ensures)
