use Rattle.std.proofs.Common.{◌≡◌, ◌+◌, Some, None, arith}
use Rattle.records.proofs.Columns.{judged_from}
use Rattle.records.proofs.fields.test_bytes.Goals as goal

pub returns-in-Some : goal.returns-in-Some
returns-in-Some c =
    let s : c.args.first + c.in-Some.index ≡ c.in-Some.index + c.args.first = omega arith in
    rw s (judged_from tt c.args.class c.args.first c.args.bytes.now (Some c.in-Some.index) c.in-Some.ensures)

pub returns-in-None : goal.returns-in-None
returns-in-None c = judged_from tt c.args.class c.args.first c.args.bytes.now None c.in-None.ensures
