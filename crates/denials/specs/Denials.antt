-- What each denial tells: number, layer, record and column. Every promise about a denial goes through these definitions.
use Rattle.std.specs.Prelude.{ℕ, Some, None, Option}
use Rattle.denials.specs.declared.Denial.{Denial}
use Rattle.denials.specs.declared.Denial.TheVariants.{BareLength, TooManyRecords, RawTooLong, Faulty, ShortBuffer, Run, OutsideWidth, RegisterFull, AlreadyListed, NotListed, MalformedLine, AccountsTooLong}
use Rattle.denials.specs.declared.Fault.{Fault}
use Rattle.denials.specs.declared.Fault.TheVariants.{OutOfOrder, WrongByte, WrongValue, WrongCount, WrongAmount}
use Rattle.denials.specs.declared.Layer.{Layer}
use Rattle.denials.specs.declared.Layer.TheVariants.{Carrier, Order, Record, Totals, Number, Register, Accounts}
use Rattle.denials.specs.declared.Layer.TheVariants as layer
use Rattle.denials.specs.declared.RunDenial.{RunDenial}
use Rattle.denials.specs.declared.RunDenial.TheVariants.{OtherLength, NoRecordLeft, Broken, OtherSort}
use Rattle.denials.specs.declared.Told.{Told}

abbrev pub tells : ℕ → Layer → ℕ → ℕ → Told
tells n layer r col = record { number = n; layer = layer; «record» = r; column = col }

-- a fault in the record of that number
abbrev pub told_at : ℕ → Fault → Told
told_at r OutOfOrder = tells 13 Order r 1
told_at r (WrongByte col) = tells 14 Record r col
told_at r (WrongValue col) = tells 15 Record r col
told_at r WrongCount = tells 16 Totals r 2
told_at r WrongAmount = tells 17 Totals r 8

-- a run's denial: 22 at the record that is of another sort, and 23 at no place
abbrev pub told_in_run : RunDenial → Told
told_in_run OtherLength = tells 23 layer.Run 0 0
told_in_run NoRecordLeft = tells 23 layer.Run 0 0
told_in_run (Broken f) = tells 23 layer.Run 0 0
told_in_run (OtherSort r) = tells 22 layer.Run r 1

-- what the fault that a run's denial carries tells by itself
abbrev pub carried : RunDenial → Option Told
carried OtherLength = None
carried NoRecordLeft = None
carried (Broken f) = Some (told_at f.«record» f.fault)
carried (OtherSort r) = None

abbrev pub told : Denial → Told
told BareLength = tells 11 Carrier 0 0
told TooManyRecords = tells 12 Carrier 0 0
told RawTooLong = tells 18 Carrier 0 0
told (Faulty f) = told_at f.«record» f.fault
told ShortBuffer = tells 21 Carrier 0 0
told (Run d) = told_in_run d
told OutsideWidth = tells 24 Number 0 0
told RegisterFull = tells 31 Register 0 0
told AlreadyListed = tells 32 Register 0 0
told NotListed = tells 33 Register 0 0
told (MalformedLine line) = tells 41 Accounts line 0
told AccountsTooLong = tells 42 Accounts 0 0
