use Rattle.std.proofs.Common.{rules, ◌<◌, ◌^◌, arith}
use Rattle.std.specs.List.{count_by}
use Rattle.std.proofs.lemmas.List.Sums.{length-filter, count_by-le-length}
use Rattle.carrier.specs.Carrier.{is_kept}
use Rattle.carrier.proofs.bare_len.Goals as goal

-- no more bytes are kept than there are
pub sum-requires-clause-fits : goal.sum-requires-clause-fits
sum-requires-clause-fits c = let few : count_by is_kept c.args.body.now < 2 ^ 64 = omega (arith, count_by-le-length is_kept c.args.body.now) in search rules

pub returns : goal.returns
returns c = search (rules, length-filter)
