-- What the check answers: the first fault in file order, or what the file asks for.
use Rattle.std.specs.Prelude.{ℕ, zero, suc, ◌+◌, ◌*◌, ◌/◌, ◌^◌, ◌≤◌, Bool, true, false, cond, length, Some, None, Ok, Err, Option, Result, ◌==◌}
use Rattle.denials.specs.declared.Denial.{Denial}
use Rattle.denials.specs.declared.Denial.TheVariants.{Faulty}
use Rattle.denials.specs.declared.Fault.{Fault}
use Rattle.denials.specs.declared.Fault.TheVariants.{OutOfOrder, WrongCount, WrongAmount}
use Rattle.denials.specs.Denials.{told}
use Rattle.records.specs.declared.layouts.Sort.{Sort}
use Rattle.records.specs.declared.layouts.Sort.TheVariants.{Header, Data, Trailer, End}
use Rattle.records.specs.Layouts.{record_bytes, data_amount, trailer_count, trailer_amount, sort_of, fields_of}
use Rattle.records.specs.Fields.{Bytes, byte_in, number_in, test_fields, unless_fault}
use Rattle.zengin.specs.declared.order.Order.{Order}
use Rattle.zengin.specs.declared.order.Order.TheVariants.{Start, InGroup, AfterTrailer, Ended}
use Rattle.zengin.specs.declared.totals.Totals.{Totals}
use Rattle.zengin.specs.declared.totals.Figures.{Figures}
use Rattle.zengin.specs.declared.totals.Tally.{Tally}
use Rattle.zengin.specs.Files.{length_denial, record_at}

-- what may come next depends on where the file stands and on the record's sort together
abbrev pub next_order : Order → Sort → Option Order
next_order Start Header = Some InGroup
next_order Start Data = None
next_order Start Trailer = None
next_order Start End = None
next_order InGroup Header = None
next_order InGroup Data = Some InGroup
next_order InGroup Trailer = Some AfterTrailer
next_order InGroup End = None
next_order AfterTrailer Header = Some InGroup
next_order AfterTrailer Data = None
next_order AfterTrailer Trailer = None
next_order AfterTrailer End = Some Ended
next_order Ended k = None

abbrev pub has_ended : Order → Bool
has_ended Start = false
has_ended InGroup = false
has_ended AfterTrailer = false
has_ended Ended = true

-- the amount of a data record, and the count and amount that a trailer states
abbrev pub amount_of : Bytes → ℕ
amount_of x = number_in x data_amount

abbrev pub count_stated : Bytes → ℕ
count_stated x = number_in x trailer_count

abbrev pub amount_stated : Bytes → ℕ
amount_stated x = number_in x trailer_amount

abbrev pub totals : ℕ → ℕ → Totals
totals n sum = record { count = n; amount = sum }

-- what a record states
abbrev pub stated : Bytes → Sort → Totals
stated x Header = totals 0 0
stated x Data = totals 0 (amount_of x)
stated x Trailer = totals (count_stated x) (amount_stated x)
stated x End = totals 0 0

-- what is stated, after the field of that number was read
abbrev pub noted : Sort → ℕ → ℕ → Totals → Totals
noted Header n v t = t
noted Data n v t = cond (n == 10) (totals t.count v) t
noted Trailer n v t = cond (n == 2) (totals v t.amount) (cond (n == 3) (totals t.count v) t)
noted End n v t = t

abbrev pub with_claim : Totals → ℕ → Totals
with_claim t a = totals (t.count + 1) (t.amount + a)

abbrev pub tally : ℕ → Totals → Totals → Tally
tally g all group = record { file = record { groups = g; requested = all }; group = group }

-- the tally after a record of that sort that states s; a trailer has to state its group's totals
abbrev pub tallied : Sort → Totals → Tally → Result Tally Fault
tallied Header s t = Ok (tally (t.file.groups + 1) t.file.requested (totals 0 0))
tallied Data s t = Ok (tally t.file.groups (with_claim t.file.requested s.amount) (with_claim t.group s.amount))
tallied Trailer s t =
    cond (s.count == t.group.count) (cond (s.amount == t.group.amount) (Ok t) (Err WrongAmount)) (Err WrongCount)
tallied End s t = Ok t

-- a tally over r records leaves room for one more
pub record Few (r : ℕ) (t : Tally) : Type 0 where
  pub groups : t.file.groups ≤ r
  pub count : t.file.requested.count ≤ r
  pub amount : t.file.requested.amount ≤ r * 10 ^ 12
  pub group_count : t.group.count ≤ r
  pub group_amount : t.group.amount ≤ r * 10 ^ 12

-- where a walk stands
abbrev pub State : Type 0
State = Order × Tally

abbrev pub paired : Order → Result Tally Fault → Result State Fault
paired o (Ok t) = Ok (o, t)
paired o (Err f) = Err f

abbrev pub step_order : Bytes → Tally → Sort → Option Order → Result State Fault
step_order x t k None = Err OutOfOrder
step_order x t k (Some o) = unless_fault (test_fields x (fields_of k)) (paired o (tallied k (stated x k) t))

abbrev pub step_sort : Bytes → State → Option Sort → Result State Fault
step_sort x s None = Err OutOfOrder
step_sort x s (Some k) = step_order x s.1 k (next_order s.0 k)

-- one record: the order rule, then its fields, then at a trailer the count and the amount
abbrev pub step : Bytes → State → Result State Fault
step x s = step_sort x s (sort_of (byte_in x 1))

-- a fault in record r
abbrev pub fault_at : ℕ → Fault → Denial
fault_at r f = Faulty (record { «record» = r + 1; fault = f })

abbrev pub onward : ℕ → Result State Fault → (State → Result Figures Denial) → Result Figures Denial
onward r (Err f) go = Err (fault_at r f)
onward r (Ok s) go = go s

-- n records from record r on; a missing record is placed one past the last
abbrev pub walk : Bytes → ℕ → ℕ → State → Result Figures Denial
walk b r zero s = cond (has_ended s.0) (Ok s.1.file) (Err (fault_at r OutOfOrder))
walk b r (suc n) s = onward r (step (record_at b r) s) (walk b (r + 1) n)

abbrev pub at_start : State
at_start = (Start, tally 0 (totals 0 0) (totals 0 0))

abbrev pub walk_if_fine : Bytes → Option Denial → Result Figures Denial
walk_if_fine b (Some d) = Err d
walk_if_fine b None = walk b 0 (length b / record_bytes) at_start

-- what a file asks for, or its denial
abbrev pub summed : Bytes → Result Figures Denial
summed b = walk_if_fine b (length_denial (length b))

abbrev pub passed : {X : Type 0} → Result X Denial → Result (Unit {0}) Denial
passed (Ok x) = Ok tt
passed (Err d) = Err d

-- what the check answers
abbrev pub judged : Bytes → Result (Unit {0}) Denial
judged b = passed (summed b)

-- a denial as the one number that a C program receives
abbrev pub coded : Result (Unit {0}) Denial → ℕ
coded (Ok done) = 0
coded (Err d) = (told d).number * 100000000 + (told d).«record» * 1000 + (told d).column
