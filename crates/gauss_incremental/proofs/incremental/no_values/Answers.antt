use Rattle.gauss_incremental.proofs.incremental.no_values.Goals as goal

pub returns : goal.returns
returns c = record {
  held = c.in_ok-held.ensures;
  assigned_long = c.in_ok-assigned.ensures.long;
  assigned_clear = c.in_ok-assigned.ensures.clear;
  truths_long = c.in_ok-truths.ensures.long;
  truths_clear = c.in_ok-truths.ensures.clear;
  trail = c.in_ok-trail.ensures;
}
