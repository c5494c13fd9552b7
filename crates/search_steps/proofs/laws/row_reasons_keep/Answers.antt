use Rattle.search_steps.proofs.RowReasons.{row_reason_keeps}
use Rattle.search_steps.proofs.laws.row_reasons_keep.Goals as goal

pub returns : goal.returns
returns c = λ tidies formula parities s k rs ids n zs r ok. row_reason_keeps formula parities s k rs ids n zs r {tidies = tidies} ok
