use Rattle.std.proofs.Common.{◌≡◌, ◌+◌, ◌^◌, ◌<◌, drop}
use Rattle.records.specs.declared.layouts.Class.TheVariants.{Number}
use Rattle.records.specs.Fields.{wrong_from, spelled}
use Rattle.records.proofs.fields.read_digits.Given as goal

-- the digits that are left have the first wrong byte, and go on with the value
abbrev pub invariant-loop-index : goal.invariant-loop-index
invariant-loop-index l =
    (wrong_from Number (l.first + l.index) (drop l.index l.digits) ≡ wrong_from Number l.first l.digits)
    × (spelled l.value (drop l.index l.digits) ≡ spelled 0 l.digits)
    × (l.value < 10 ^ l.index)
