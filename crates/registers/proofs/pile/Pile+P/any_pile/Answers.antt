use Rattle.std.proofs.Common.{refl}
use Rattle.registers.proofs.Stacking as stacking
use Rattle.registers.proofs.pile.Pile+P.any_pile.Goals as goal

pub returns : goal.returns
returns g c = record {
  uppermost = stacking.uppermost_objects;
  otherwise = stacking.or_else_the_host;
  passed = stacking.passed g.P.Host.verdict g.P.Host.debits;
  stopped = stacking.stopped g.P.Host.verdict g.P.Host.debits;
  figures = λ ls s a. refl;
  nested = stacking.stacked_as_nested g.P.Host.verdict g.P.Host.debits;
}
