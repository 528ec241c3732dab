use Rattle.std.proofs.Common.{◌≡◌, ◌-◌, ◌/◌, ◌^◌, ◌<◌, ◌≤◌, [], length, get_or, Some, Ok, Err, sym, ap, ◌∙◌, subst, arith}
use Rattle.records.specs.Layouts.{fields_of}
use Rattle.records.specs.Fields.{test_fields}
use Rattle.records.proofs.Walks.{field_right, field_wrong, fields_end}
use Rattle.zengin.specs.Files.{record_at}
use Rattle.zengin.specs.Judged.{fault_at, next_order, tallied, stated}
use Rattle.zengin.proofs.Stated.{stated_to, stated_all, stated_more, noted_below}
use Rattle.zengin.proofs.Walks.{record_item, of_sort, of_no_sort, no_sort_fault, some_of, none_of, unknown, not_here, at_field, at_totals, goes_on, few_more}
use Rattle.zengin.proofs.check.walk.Goals as goal
use Rattle.zengin.proofs.check.walk.Goals.{After-try_from, After-layout, After-loop-number}

-- What is known wherever the walk has come to a record.

on : (c : After-try_from) → c.loop-index.index < length c.args.file.now / 120
on c = omega (arith, c.loop-index-test.true, c.records_of-records.ensures.len)

item : (c : After-try_from) → get_or c.records_of-records.result.now c.loop-index.index [] ≡ record_at c.args.file.now c.loop-index.index
item c = record_item c.args.file.now c.records_of-records.result.now c.loop-index.index c.records_of-records.ensures.value (on c)

-- What is known once its sort is admitted.

next : (c : After-layout) → next_order c.loop-index.order c.in-Ok.sort ≡ Some c.admit.new.self
next c = some_of (next_order c.loop-index.order c.in-Ok.sort) c.admit.new.self c.loop-index.order c.if-not-admit.ensures.answer c.admit.ensures.state

-- What is known once all its fields are right: what they state is noted.

right : (c : After-loop-number) → test_fields (get_or c.records_of-records.result.now c.loop-index.index []) (fields_of c.in-Ok.sort) ≡ Ok tt
right c =
    let many = ap length c.layout.ensures in
    sym c.loop-number.invariant.0
    ∙ fields_end (get_or c.records_of-records.result.now c.loop-index.index []) c.in-Ok.sort c.loop-number.number (omega (arith, many, c.loop-number-test.false))

read : (c : After-loop-number) → c.loop-number.stated ≡ stated (get_or c.records_of-records.result.now c.loop-index.index []) c.in-Ok.sort
read c =
    let many = ap length c.layout.ensures in
    let all : c.loop-number.number - 1 ≡ length (fields_of c.in-Ok.sort) = omega (arith, many, c.loop-number-test.false, c.loop-number.auto.number-end) in
    c.loop-number.invariant.1 ∙ ap (stated_to (get_or c.records_of-records.result.now c.loop-index.index []) c.in-Ok.sort) all
    ∙ stated_all (get_or c.records_of-records.result.now c.loop-index.index []) c.in-Ok.sort

pub loop-number-preserved : goal.loop-number-preserved
loop-number-preserved c =
    let x = get_or c.records_of-records.result.now c.loop-index.index [] in
    let many = ap length c.layout.ensures in
    let last : c.loop-number.number ≤ length (fields_of c.in-Ok.sort) = omega (arith, many, c.loop-number-test.true) in
    let read = c.in-Ok-read_field.ensures.value in (
      field_right x c.in-Ok.sort c.loop-number.number (omega (arith, c.loop-number.auto.number)) last read ∙ c.loop-number.invariant.0,
      c.note.ensures ∙ stated_more x c.in-Ok.sort c.loop-number.number c.in-Ok-read_field.value c.loop-number.stated (omega (arith, c.loop-number.auto.number)) read c.loop-number.invariant.1,
      subst (λ s. s.amount < 10 ^ 12) (sym c.note.ensures) (noted_below c.in-Ok.sort c.loop-number.number c.in-Ok-read_field.value c.loop-number.stated c.in-Ok-read_field.ensures.below c.loop-number.invariant.2),
    )

pub returns-in-Err : goal.returns-in-Err
returns-in-Err c =
    let here = (goal.at.returns-in-Err c).After-try_from in
    ap Err c.fault_at.ensures
    ∙ ap (λ f. Err (fault_at c.loop-index.index f)) (no_sort_fault _ _ _ c.in-Err.ensures)
    ∙ sym (unknown c.args.file.now _ c.loop-index.index (length c.args.file.now / 120) c.loop-index.order c.loop-index.tally (on here) (item here) (of_no_sort _ _ _ c.in-Err.ensures))
    ∙ c.loop-index.invariant.0

pub returns-then-not-admit : goal.returns-then-not-admit
returns-then-not-admit c =
    let here = (goal.at.returns-then-not-admit c).After-try_from in
    let refused = none_of (next_order c.loop-index.order c.in-Ok.sort) c.if-not-admit.ensures.answer in
    ap Err c.fault_at-then-not-admit.ensures
    ∙ sym (not_here c.args.file.now _ c.loop-index.index (length c.args.file.now / 120) c.loop-index.order c.loop-index.tally (on here) (item here) c.in-Ok.sort (of_sort _ _ _ c.in-Ok.ensures) refused)
    ∙ c.loop-index.invariant.0

pub returns-in-Err-read_field : goal.returns-in-Err-read_field
returns-in-Err-read_field c =
    let here = (goal.at.returns-in-Err-read_field c).After-try_from in
    let admitted = next (goal.at.returns-in-Err-read_field c).After-layout in
    let many = ap length c.layout.ensures in
    let last : c.loop-number.number ≤ length (fields_of c.in-Ok.sort) = omega (arith, many, c.loop-number-test.true) in
    let wrong = field_wrong (get_or c.records_of-records.result.now c.loop-index.index []) c.in-Ok.sort c.loop-number.number (omega (arith, c.loop-number.auto.number)) last c.in-Err-read_field.ensures.value in
    ap Err c.fault_at-in-Err-read_field.ensures
    ∙ sym (at_field c.args.file.now _ c.loop-index.index (length c.args.file.now / 120) c.loop-index.order c.loop-index.tally (on here) (item here) c.in-Ok.sort (of_sort _ _ _ c.in-Ok.ensures) c.admit.new.self admitted
    c.in-Err-read_field.fault (sym c.loop-number.invariant.0 ∙ wrong))
    ∙ c.loop-index.invariant.0

pub returns-in-Err-with_record : goal.returns-in-Err-with_record
returns-in-Err-with_record c =
    let here = (goal.at.returns-in-Err-with_record c).After-try_from in
    let admitted = next (goal.at.returns-in-Err-with_record c).After-layout in
    let kept = (goal.at.returns-in-Err-with_record c).After-loop-number in
    ap Err c.fault_at-in-Err-with_record.ensures
    ∙ sym (at_totals c.args.file.now _ c.loop-index.index (length c.args.file.now / 120) c.loop-index.order c.loop-index.tally (on here) (item here) c.in-Ok.sort (of_sort _ _ _ c.in-Ok.ensures) c.admit.new.self admitted
    c.in-Err-with_record.fault (right kept) (ap (λ s. tallied c.in-Ok.sort s c.loop-index.tally) (sym (read kept)) ∙ sym c.in-Err-with_record.ensures))
    ∙ c.loop-index.invariant.0

pub loop-index-preserved : goal.loop-index-preserved
loop-index-preserved c =
    let here = (goal.at.loop-index-preserved c).After-try_from in
    let admitted = next (goal.at.loop-index-preserved c).After-layout in
    let kept = (goal.at.loop-index-preserved c).After-loop-number in (
      sym (goes_on c.args.file.now _ c.loop-index.index (length c.args.file.now / 120) c.loop-index.order c.loop-index.tally (on here) (item here) c.in-Ok.sort (of_sort _ _ _ c.in-Ok.ensures) c.admit.new.self admitted
          c.in-Ok-with_record.next (right kept) (ap (λ s. tallied c.in-Ok.sort s c.loop-index.tally) (sym (read kept)) ∙ sym c.in-Ok-with_record.ensures))
          ∙ c.loop-index.invariant.0,
      few_more c.in-Ok.sort c.loop-number.stated c.loop-index.index c.loop-index.tally c.in-Ok-with_record.next c.in-Ok-with_record.ensures c.loop-number.invariant.2 c.loop-index.invariant.1,
    )
