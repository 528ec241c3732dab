-- Records and fields of a file by their numbers, which count from 1.
use Rattle.std.specs.Prelude.{ℕ, ◌+◌, ◌-◌, ◌*◌, ◌/◌, ◌%◌, cond, not, ◌||◌, length, take, drop, Some, None, Option, ◌==◌, nat_lt, slice_index}
use Rattle.records.specs.declared.layouts.Field.{Field}
use Rattle.records.specs.declared.layouts.Sort.{Sort}
use Rattle.records.specs.Layouts.{record_bytes, first, width, sort_of, numbered}
use Rattle.records.specs.Fields.{Bytes}
use Rattle.zengin.specs.Files.{record_at}

-- the record of that number, if there is one
abbrev pub record_numbered : Bytes → ℕ → Option Bytes
record_numbered b r = cond (r == 0 || nat_lt (length b / record_bytes) r) None (Some (record_at b (r - 1)))

-- what is shown: bytes, record and column
abbrev pub ShownField : Type 0
ShownField = Bytes × ℕ × ℕ

-- the bytes of the file in the columns of a field of record r
abbrev pub cut : Bytes → ℕ → Option Field → Option ShownField
cut b r None = None
cut b r (Some f) = Some (take (width f) (drop ((r - 1) * record_bytes + (first f - 1)) b), r, first f)

abbrev pub of_sort : Bytes → ℕ → ℕ → Option Sort → Option ShownField
of_sort b r n None = None
of_sort b r n (Some k) = cut b r (numbered k n)

-- field n of record r; none where the length is not whole records, the record or the field is absent, or the first byte is of no sort
abbrev pub field_shown : Bytes → ℕ → ℕ → Option ShownField
field_shown b r n =
    cond (not (length b % record_bytes == 0) || (r == 0 || nat_lt (length b / record_bytes) r)) None (of_sort b r n (sort_of (slice_index b ((r - 1) * record_bytes))))
