-- What one group of a file asks for, found by its trailer. Record numbers count from 1.
use Rattle.std.specs.Prelude.{◌≡◌, ℕ, ◌+◌, ◌-◌, ◌/◌, ◌%◌, Some, None, Ok, Err, Option, Result}
use Rattle.denials.specs.declared.Fault.{Fault}
use Rattle.records.specs.declared.layouts.Sort.{Sort}
use Rattle.records.specs.declared.layouts.Sort.TheVariants.{Header, Data, Trailer, End}
use Rattle.records.specs.Layouts.{biller_code, transfer_date, sort_of, numbered}
use Rattle.records.specs.Fields.{Bytes, byte_in, number_in, read_if_any}
use Rattle.zengin.specs.declared.totals.Totals.{Totals}
use Rattle.zengin.specs.declared.groups.Group.{Group}
use Rattle.zengin.specs.Files.{record_at}
use Rattle.zengin.specs.Shown.{record_numbered}
use Rattle.zengin.specs.Judged.{totals}
use Rattle.zengin.specs.Lawful.{amounts, Group as GroupAt}

-- two fields that can be read
abbrev pub both_read : {X : Type 0} → (ℕ → ℕ → X) → Result ℕ Fault → Result ℕ Fault → Option X
both_read f (Ok v) (Ok w) = Some (f v w)
both_read f (Ok v) (Err e) = None
both_read f (Err e) r = None

abbrev pub totals_of : Bytes → Option Sort → Option Totals
totals_of x None = None
totals_of x (Some Header) = None
totals_of x (Some Data) = None
totals_of x (Some Trailer) = both_read totals (read_if_any x (numbered Trailer 2)) (read_if_any x (numbered Trailer 3))
totals_of x (Some End) = None

-- the count and amount in a trailer
abbrev pub totals_stated : Bytes → Option Totals
totals_stated x = totals_of x (sort_of (byte_in x 1))

-- a biller code and a transfer date, month and day in one number
abbrev pub Head : Type 0
Head = ℕ × ℕ

abbrev pub head : ℕ → ℕ → Head
head biller date = (biller, date)

abbrev pub head_of : Bytes → Option Sort → Option Head
head_of x None = None
head_of x (Some Header) = both_read head (read_if_any x (numbered Header 4)) (read_if_any x (numbered Header 6))
head_of x (Some Data) = None
head_of x (Some Trailer) = None
head_of x (Some End) = None

-- the biller code and the transfer date in a header
abbrev pub head_stated : Bytes → Option Head
head_stated x = head_of x (sort_of (byte_in x 1))

abbrev pub group : ℕ → ℕ → Totals → Group
group biller date t = record { biller = biller; month = date / 100; day = date % 100; requested = t }

abbrev pub and_then : {X Y : Type 0} → Option X → (X → Option Y) → Option Y
and_then None go = None
and_then (Some x) go = go x

-- the group that record r closes: its trailer tells how many records before it the header stands
abbrev pub group_closed_by : Bytes → ℕ → Option Group
group_closed_by b r =
    and_then (record_numbered b r) (λ x.
    and_then (totals_stated x) (λ t.
    and_then (record_numbered b (r - 1 - t.count)) (λ y.
    and_then (head_stated y) (λ h. Some (group h.0 h.1 t)))))

-- what a group with its header at record s, counted from 0, and n data records asks for
abbrev pub group_asking : Bytes → ℕ → ℕ → Group
group_asking b s n = group (number_in (record_at b s) biller_code) (number_in (record_at b s) transfer_date) (totals n (amounts b (s + 1) n))

-- record r closes a group of the file, and g is what that group asks for
pub record Closes (b : Bytes) (r : ℕ) (g : Group) : Type 0 where
  pub header : ℕ
  pub claims : ℕ
  pub group_there : GroupAt b header claims
  pub number : r ≡ header + 1 + claims + 1
  pub asks : g ≡ group_asking b header claims
