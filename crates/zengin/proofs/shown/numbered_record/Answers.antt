use Rattle.std.proofs.Common.{◌≤◌, arith}
use Rattle.zengin.proofs.Numbered.{record_looked_up}
use Rattle.zengin.proofs.shown.numbered_record.Goals as goal

pub returns : goal.returns
returns c =
    let records = c.records_of.ensures in
    let found = c.get.ensures.lookup in
    let i = c.in_ok-index.index in
    let same : i ≤ i = omega arith in
    record_looked_up _ (λ x. x.now) c.get.result c.args.file.now c.records_of.result.now c.args.number i records.value records.len c.in_ok-index.ensures found.3 (found.4 same)
