use Rattle.std.proofs.Common.{◌≡◌, take}
use Rattle.std.specs.List.{flat_map}
use Rattle.zengin.specs.Files.{records_of}
use Rattle.carrier.specs.Carrier.{line, over}
use Rattle.carrier.proofs.put_lines.Given as goal

-- the lines so far stand over the front
abbrev pub invariant-loop-index : goal.invariant-loop-index
invariant-loop-index l = l.out ≡ over (flat_map line (take l.index (records_of l.bare))) l.initial.out
