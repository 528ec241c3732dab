use Rattle.std.proofs.Common.{◌≡◌, drop}
use Rattle.records.specs.Layouts.{fields_of}
use Rattle.records.specs.Fields.{test_fields}
use Rattle.records.proofs.record.sort_if_kept.Given as goal

-- the fields that are left have the record's first fault
abbrev pub invariant-loop-field : goal.invariant-loop-field
invariant-loop-field l = test_fields l.record (drop l.field-index (fields_of l.sort)) ≡ test_fields l.record (fields_of l.sort)
