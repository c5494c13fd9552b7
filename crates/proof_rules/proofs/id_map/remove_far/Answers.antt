use Rattle.proof_rules.proofs.id_map.remove_far.Goals as goal

pub returns : goal.returns
returns g c = c.remove.ensures.updates.0
