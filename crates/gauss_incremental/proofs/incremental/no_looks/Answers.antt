use Rattle.gauss_incremental.proofs.incremental.no_looks.Goals as goal

pub returns : goal.returns
returns c = record {
  watched = c.in_ok-watched.ensures;
  long = c.in_ok-line.ensures.long;
  all = c.in_ok-line.ensures.all;
  named = c.in_ok-named.ensures;
  lists = c.in_ok-lists.ensures;
}
