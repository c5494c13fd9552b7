use Rattle.std.proofs.Common.{◌∙◌, sym, subst}
use Rattle.cx_semantics.specs.LogRules.{moving}
use Rattle.cx_semantics.specs.Tables.{Tables}
use Rattle.proof_rules.proofs.MovingLaws.{of_ok}
use Rattle.rup_finder.specs.Ready.{IsReady}
use Rattle.rup_finder.specs.Recent.{IsRecent}
use Rattle.rup_finder.proofs.RecentLaws.{right_by, apart_by, apart_recent, recent_moved}
use Rattle.rup_finder.proofs.indexed.IndexedClauses.move_clauses.Goals as goal

pub move_in-requires : goal.move_in-requires
move_in-requires c =
    let table = c.self.inside.live.clauses in
    let moves = c.args.moves.now in
    let right = right_by (moving table moves) c.judge_and_move-judged.result (sym c.is_ok.ensures.value ∙ c.if-is_ok.true) c.judge_and_move-judged.ensures.judged in
    (table, apart_by table moves right, c.self.invariant.0)

pub move_in-requires-then-is_ok : goal.move_in-requires-then-is_ok
move_in-requires-then-is_ok c =
    let table = c.self.inside.live.clauses in
    let moves = c.args.moves.now in
    let right = right_by (moving table moves) c.judge_and_move-judged.result (sym c.is_ok.ensures.value ∙ c.if-is_ok.true) c.judge_and_move-judged.ensures.judged in
    apart_recent table moves c.self.inside.recent.engine (apart_by table moves right) c.self.invariant.1

pub invariant_of-self : goal.invariant_of-self
invariant_of-self c =
    let table = c.self.inside.live.clauses in
    let moves = c.args.moves.now in
    let ok = sym c.is_ok.ensures.value ∙ c.if-is_ok.true in
    let apart = apart_by table moves (right_by (moving table moves) c.judge_and_move-judged.result ok c.judge_and_move-judged.ensures.judged) in
    let is = of_ok c.judge_and_move-judged.result ok c.judge_and_move-judged.ensures.moved in
    subst (λ (t : Tables). IsReady t.clauses c.move_in.new.engine × IsRecent t.clauses c.move_in-then-is_ok.new.engine) (sym is) (
      c.move_in.ensures table apart c.self.invariant.0,
      recent_moved table moves c.self.inside.recent.engine c.move_in-then-is_ok.new.engine apart c.move_in-then-is_ok.ensures c.self.invariant.1,
    )
