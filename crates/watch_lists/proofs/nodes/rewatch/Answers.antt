use Rattle.std.proofs.Common.{◌≡◌, ◌≢◌, ℕ, List, set, ap, sym, ◌∙◌, subst, eqb-true}
use Rattle.std.proofs.lemmas.Bool.{eqb-false}
use Rattle.cx_base.specs.Literals.{code_of}
use Rattle.cx_base.proofs.LiteralLaws.{same_code}
use Rattle.watch_lists.specs.declared.lists.Side.{Side}
use Rattle.watch_lists.specs.Watching.{partner, held_at, third_at}
use Rattle.watch_lists.specs.Visits.{IsRewatched}
use Rattle.watch_lists.proofs.RewatchLaws.{rewatched_long, rewatched_short}
use Rattle.watch_lists.proofs.nodes.rewatch.Goals as goal

pub returns-then-eq-clause-rewatched : goal.returns-then-eq-clause-rewatched
returns-then-eq-clause-rewatched c =
    let held = c.args.lists.now.held in
    let n = c.args.node in
    let one = c.new.result in
    let two = c.new-then-eq.result in
    let w = c.side-other.result.watched in
    let f = c.side-mine.result.watched in
    let third_mine = ap (λ (s : Side). s.third) c.side-mine.ensures in
    let third_other = ap (λ (s : Side). s.third) c.side-other.ensures ∙ ap (third_at held) c.partner_of-partner.ensures in
    let same : third_at held n ≡ third_at held (partner n) = sym third_mine ∙ same_code _ _ (eqb-true _ _ (sym c.if-eq.ensures)) ∙ third_other in
    let watched = ap (λ (s : Side). s.watched) c.side-other.ensures ∙ ap (held_at held) c.partner_of-partner.ensures in
    subst (IsRewatched held n c.args.literal)
    (sym (c.watch-then-eq.ensures.held ∙ ap (λ (xs : List Side). set xs n two) c.watch.ensures.held
    ∙ ap (λ (p : ℕ). set (set held p one) n two) c.partner_of-partner.ensures
    ∙ ap (λ (s : Side). set (set held (partner n) s) n two) c.new.ensures
    ∙ ap (λ (s : Side). set (set held (partner n) (record { watched = w; third = f })) n s) c.new-then-eq.ensures))
    (rewatched_short held n c.args.literal w f c.requires.node c.requires.partner watched (ap (λ (s : Side). s.watched) c.side-mine.ensures) same)

pub returns-clause-rewatched : goal.returns-clause-rewatched
returns-clause-rewatched c =
    let held = c.args.lists.now.held in
    let n = c.args.node in
    let t = c.side-mine.result.third in
    let third_mine = ap (λ (s : Side). s.third) c.side-mine.ensures in
    let third_other = ap (λ (s : Side). s.third) c.side-other.ensures ∙ ap (third_at held) c.partner_of-partner.ensures in
    let differ : third_at held n ≢ third_at held (partner n) = λ e. eqb-false _ _ (sym c.if-eq.ensures) (ap code_of (third_mine ∙ e ∙ sym third_other)) in
    subst (IsRewatched held n c.args.literal)
    (sym (c.watch-2.ensures.held ∙ ap (λ (s : Side). set held n s) c.new-2.ensures))
    (rewatched_long held n c.args.literal t c.requires.node third_mine differ)
