use Rattle.std.proofs.Common.{◌∙◌}
use Rattle.cx_words.proofs.Refused.{found, refused, taken}
use Rattle.cx_words.proofs.words.parse.Goals as goal

pub returns : goal.returns
returns c = record {
  taken = tt;
  found = tt;
  usage = λ _. refused _ _ c.in-Err.error c.in_ok-cxsat.ensures c.in-Err.ensures.kinds (λ e. c.in_default.not-OutOfMemory (c.kind.ensures ∙ e));
}

pub returns-in-Ok-clause-taken : goal.returns-in-Ok-clause-taken
returns-in-Ok-clause-taken c = taken _ _ c.in_ok-cxsat.ensures c.in-Ok.ensures.kinds

pub returns-in-Ok-clause-found : goal.returns-in-Ok-clause-found
returns-in-Ok-clause-found c = found _ _ _ c.in_ok-cxsat.ensures c.in-Ok.ensures.matches
