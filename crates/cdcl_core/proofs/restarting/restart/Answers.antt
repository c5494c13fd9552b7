use Rattle.std.proofs.Common.{sym, subst, [], arith}
use Rattle.search_steps.specs.Search.{IsSearchIn, jumped}
use Rattle.search_steps.proofs.ServesLaws.{jump_keeps}
use Rattle.cdcl_core.proofs.restarting.restart.Goals as goal

pub go_back-requires-clause-stands : goal.go_back-requires-clause-stands
go_back-requires-clause-stands g c = let st = c.requires.stands.1 in ([], st.0, st.1, st.3, st.4)

pub returns-clause-stays : goal.returns-clause-stays
returns-clause-stays g c = record {
  stands = λ told st. (
    jumped st.0 0,
    subst (λ b. IsSearchIn b c.args.formula.now (g.P.ParityEngine.state c.go_back.new.engine).parities (jumped st.0 0)) (sym c.go_back.ensures.back.counts.tidies)
        (subst (λ ps. IsSearchIn c.args.state.now.tidies c.args.formula.now ps (jumped st.0 0)) (sym c.go_back.ensures.back.parities) (jump_keeps c.args.formula.now _ st.0 st.1 0 (omega arith))),
    st.2,
    c.go_back.ensures.back.ties _ st.0 st.1 st.3,
    c.go_back.ensures.back.watched,
  );
  unbroken = c.go_back.ensures.back.unbroken;
  tidies = c.go_back.ensures.back.counts.tidies;
}
