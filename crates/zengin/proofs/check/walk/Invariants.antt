use Rattle.std.proofs.Common.{◌≡◌, ◌-◌, ◌/◌, ◌^◌, ◌<◌, length, drop}
use Rattle.records.specs.Layouts.{fields_of}
use Rattle.records.specs.Fields.{test_fields}
use Rattle.zengin.specs.Judged.{walk, at_start, Few}
use Rattle.zengin.proofs.Stated.{stated_to}
use Rattle.zengin.proofs.check.walk.Given as goal

-- the records that are left give the file's answer
abbrev pub invariant-loop-index : goal.invariant-loop-index
invariant-loop-index l =
    (walk l.file l.index (length l.file / 120 - l.index) (l.order, l.tally) ≡ walk l.file 0 (length l.file / 120) at_start)
    × Few l.index l.tally

-- the fields that are left give the record's answer, and those before are noted
abbrev pub invariant-loop-number : goal.invariant-loop-number
invariant-loop-number l =
    (test_fields l.record (drop (l.number - 1) (fields_of l.sort)) ≡ test_fields l.record (fields_of l.sort))
    × (l.stated ≡ stated_to l.record l.sort (l.number - 1))
    × (l.stated.amount < 10 ^ 12)
