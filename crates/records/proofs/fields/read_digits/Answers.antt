use Rattle.std.proofs.Common.{slice_index, sym, arith, rules}
use Rattle.records.proofs.Columns.{digit_byte, below_power}
use Rattle.records.proofs.fields.read_digits.Goals as goal

pub overflow_mul-value : goal.overflow_mul-value
overflow_mul-value c = let room = below_power 11 c.loop-index.value c.loop-index.index c.loop-index.invariant.2 (omega (arith, c.requires.few, c.loop-index-test.true)) in search rules

pub overflow_add-value : goal.overflow_add-value
overflow_add-value c =
    let room = below_power 11 c.loop-index.value c.loop-index.index c.loop-index.invariant.2 (omega (arith, c.requires.few, c.loop-index-test.true)) in
    let digit = digit_byte (slice_index c.args.digits.now c.loop-index.index) (sym c.if-not-holds.ensures) in
    search rules

pub returns-clause-below : goal.returns-clause-below
returns-clause-below c = below_power 12 c.loop-index.value c.loop-index.index c.loop-index.invariant.2 (omega (arith, c.requires.few, c.loop-index-test.false))
