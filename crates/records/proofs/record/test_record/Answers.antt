use Rattle.records.proofs.Kept.{record_passes, record_kept, record_refused, record_named}
use Rattle.records.proofs.record.test_record.Goals as goal

pub returns : goal.returns
returns c =
    let x = c.args.record.now in
    let r = c.sort_if_kept.result in
    let is = c.sort_if_kept.ensures in
    record { answer = is; passes = record_passes x r is; kept = record_kept x r is; first = record_refused x r is; named = record_named x r is }
