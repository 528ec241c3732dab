-- A bare file: the lengths it may have, and its bytes as records of 120. Records are counted from 0 here.
use Rattle.std.specs.Prelude.{ℕ, ◌*◌, ◌/◌, ◌%◌, cond, List, length, take, drop, Some, None, Option, ◌==◌, nat_lt}
use Rattle.std.specs.Simd.{first_chunks}
use Rattle.denials.specs.declared.Denial.{Denial}
use Rattle.denials.specs.declared.Denial.TheVariants.{BareLength, TooManyRecords}
use Rattle.records.specs.Layouts.{record_bytes}
use Rattle.records.specs.Fields.{Bytes}

-- the fewest records of a file: a header, a trailer and an end record
abbrev pub least_records : ℕ
least_records = 3

-- the most records of a file
abbrev pub most_records : ℕ
most_records = 10000

-- what a file of that many bytes is denied for
abbrev pub length_denial : ℕ → Option Denial
length_denial n =
    cond (nat_lt n (least_records * record_bytes)) (Some BareLength) (cond (n % record_bytes == 0) (cond (nat_lt (most_records * record_bytes) n) (Some TooManyRecords) None) (Some BareLength))

-- the whole records of a file
abbrev pub records_of : Bytes → List Bytes
records_of b = first_chunks record_bytes (length b / record_bytes) b

-- record r of a file
abbrev pub record_at : Bytes → ℕ → Bytes
record_at b r = take record_bytes (drop (r * record_bytes) b)
