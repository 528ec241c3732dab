-- A file with a first offence is denied for just that: the walk comes to its record, and the test there fails.
use Rattle.std.proofs.Common.{◌≡◌, ℕ, zero, suc, ◌+◌, ◌-◌, ◌*◌, ◌/◌, ◌%◌, ◌<◌, ◌≤◌, ◌⊎◌, length, Some, None, Err, Result, sym, refl, ap, ◌∙◌, subst, arith}
use Rattle.std.proofs.lemmas.Bool.{cond-true, cond-false, eq-eqb, ne_eqb}
use Rattle.std.proofs.lemmas.Bool.Decides.{nat_tests}
use Rattle.denials.specs.declared.Denial.{Denial}
use Rattle.denials.specs.declared.Denial.TheVariants.{BareLength, TooManyRecords, Faulty}
use Rattle.denials.specs.declared.Fault.{Fault}
use Rattle.denials.specs.declared.Fault.TheVariants.{WrongCount, WrongAmount}
use Rattle.denials.specs.declared.RecordFault.{RecordFault}
use Rattle.records.specs.declared.layouts.Sort.TheVariants.{Header, Trailer, End}
use Rattle.records.specs.Fields.{Bytes}
use Rattle.records.proofs.Kept.{fields_if_kept, fields_if_fault}
use Rattle.zengin.specs.declared.order.Order.TheVariants.{InGroup, AfterTrailer, Ended}
use Rattle.zengin.specs.declared.totals.Figures.{Figures}
use Rattle.zengin.specs.declared.totals.Tally.{Tally}
use Rattle.zengin.specs.Files.{length_denial, record_at}
use Rattle.zengin.specs.Judged.{count_stated, amount_stated, totals, tally, fault_at, walk, at_start, walk_if_fine, summed}
use Rattle.zengin.specs.Lawful.{amounts}
use Rattle.zengin.specs.Offences.{Place, at_beginning, in_group, after_trailer, at_end, order_at, WholeGroups, Begun, Offence, missing, of_no_sort, out_of_place, in_field, wrong_count, wrong_amount, FirstOffence, NamesFirst, wrong_length, too_many, in_record}
use Rattle.zengin.proofs.Passing.{order_after, header_follows, end_follows, past, inside, Came, came}
use Rattle.zengin.proofs.Walks.{unknown, not_here, at_field, at_totals, not_ended}
use Rattle.zengin.proofs.Walks.{at_end as walk_ends}

after_some : (g : ℕ) → 1 ≤ g → order_after g ≡ AfterTrailer
unfolding order_after
after_some zero h = absurd (omega arith)
after_some (suc g) h = refl

module _ (b : Bytes) (end : ℕ) where
  -- in a group the tally has the group's totals
  Counts : Place → Tally → Type 0
  Counts at_beginning t = Unit {0}
  Counts (in_group s n) t = t.group ≡ totals n (amounts b (s + 1) n)
  Counts after_trailer t = Unit {0}
  Counts at_end t = Unit {0}

  -- the walk from the start comes to record r
  record Arrived (p : Place) (r : ℕ) : Type 0 where
    tally_here : Tally
    counts : Counts p tally_here
    by : walk b 0 (end - 0) at_start ≡ walk b r (end - r) (order_at p, tally_here)

  past_groups : (r : ℕ) → r ≤ end → (w : WholeGroups b r) → Came b end w.groups w.count w.amount r
  past_groups r h w = came b end w.inner h

  arrive : (p : Place) (r : ℕ) → r ≤ end → Begun b r p → Arrived p r
  unfolding Counts
  arrive at_beginning r h e = record { tally_here = tally 0 (totals 0 0) (totals 0 0); counts = tt; by = λ i. walk b (sym e i) (end - sym e i) at_start }
  arrive (in_group s n) r h o =
      let earlier = came b end o.inner (omega (arith, o.here)) in
      let header = past b end Header s (order_after o.groups) InGroup (tally o.groups (totals o.count o.amount) earlier.group) (tally (o.groups + 1) (totals o.count o.amount) (totals 0 0)) (omega (arith, o.here)) o.opened.header (header_follows o.groups) refl in
      let data-records = inside b end s n o.opened (omega (arith, o.here)) (o.groups + 1) o.count o.amount n (omega arith) in
      record {
        tally_here = tally (o.groups + 1) (totals (o.count + n) (o.amount + amounts b (s + 1) n)) (totals n (amounts b (s + 1) n));
        counts = refl;
        by = earlier.by ∙ header ∙ data-records ∙ (λ i. walk b (sym o.here i) (end - sym o.here i) (InGroup, tally (o.groups + 1) (totals (o.count + n) (o.amount + amounts b (s + 1) n)) (totals n (amounts b (s + 1) n))));
      }
  arrive after_trailer r h w =
      let earlier = past_groups r h w in
      record {
        tally_here = tally w.groups (totals w.count w.amount) earlier.group;
        counts = tt;
        by = earlier.by ∙ ap (λ o. walk b r (end - r) (o, tally w.groups (totals w.count w.amount) earlier.group)) (after_some w.groups w.some);
      }
  arrive at_end r h e =
      let w = e.inner in
      let earlier = past_groups e.end (omega (arith, e.here)) w in
      let t = tally w.groups (totals w.count w.amount) earlier.group in
      let last = past b end End e.end (order_after w.groups) Ended t t (omega (arith, e.here)) e.ended (end_follows b end w.groups w.some) refl in
      record { tally_here = t; counts = tt; by = earlier.by ∙ last ∙ (λ i. walk b (sym e.here i) (end - sym e.here i) (Ended, t)) }

  -- the test that fails there
  fails : (p : Place) (r : ℕ) (t : Tally) (f : Fault) → length b ≡ end * 120 → Counts p t → Offence b r p f → walk b r (end - r) (order_at p, t) ≡ Err (fault_at r f)
  unfolding Counts
  fails p r t f long c (missing at open_yet) = walk_ends b r end (order_at p) t (omega arith) ∙ cond-false _ _ _ (not_ended (order_at p) open_yet)
  fails p r t f long c (of_no_sort there is) = unknown b (record_at b r) r end (order_at p) t (omega arith) refl is
  fails p r t f long c (out_of_place there k is e) = not_here b (record_at b r) r end (order_at p) t (omega arith) refl k is e
  fails p r t f long c (in_field k admitted first_one) =
      at_field b (record_at b r) r end (order_at p) t (omega (arith, admitted.there)) refl k admitted.sort admitted.next admitted.follows f (fields_if_fault k (record_at b r) f first_one)
  fails p r t f long c (wrong_count s n is there kept other) =
      let here = subst (λ q. Counts q t) is c in
      let wrong = cond-false _ _ _ (ne_eqb (count_stated (record_at b r)) t.group.count (λ e. other (e ∙ ap (λ u. u.count) here))) in
      ap (λ q. walk b r (end - r) (order_at q, t)) is
      ∙ at_totals b (record_at b r) r end InGroup t (omega arith) refl Trailer kept.sort AfterTrailer refl WrongCount (fields_if_kept Trailer (record_at b r) kept.fields) wrong
  fails p r t f long c (wrong_amount s n is there kept same other) =
      let here = subst (λ q. Counts q t) is c in
      let count = cond-true _ _ _ (eq-eqb (count_stated (record_at b r)) t.group.count (same ∙ sym (ap (λ u. u.count) here))) in
      let wrong = cond-false _ _ _ (ne_eqb (amount_stated (record_at b r)) t.group.amount (λ e. other (e ∙ ap (λ u. u.amount) here))) in
      ap (λ q. walk b r (end - r) (order_at q, t)) is
      ∙ at_totals b (record_at b r) r end InGroup t (omega arith) refl Trailer kept.sort AfterTrailer refl WrongAmount (fields_if_kept Trailer (record_at b r) kept.fields) (count ∙ wrong)

  -- a record that offends is there, or one past the last
  within : (p : Place) (r : ℕ) (f : Fault) → length b ≡ end * 120 → Offence b r p f → r ≤ end
  within p r f long (missing at open_yet) = omega arith
  within p r f long (of_no_sort there is) = omega arith
  within p r f long (out_of_place there k is e) = omega arith
  within p r f long (in_field k admitted first_one) = omega (arith, admitted.there)
  within p r f long (wrong_count s n is there kept other) = omega arith
  within p r f long (wrong_amount s n is there kept same other) = omega arith

  walk_named : (f : RecordFault) → length b ≡ end * 120 → FirstOffence b f → walk b 0 (end - 0) at_start ≡ Err (Faulty f)
  walk_named f long o =
      let there = arrive o.place o.index (within o.place o.index f.fault long o.offence) o.before in
      there.by ∙ fails o.place o.index there.tally_here f.fault long there.counts o.offence
      ∙ ap (λ r. Err (Faulty (record { «record» = r; fault = f.fault }))) (sym o.number)

short_length : (n : ℕ) → (n < 360) ⊎ (n % 120 ≡ 0 → ⊥) → length_denial n ≡ Some BareLength
short_length n h = grind (arith, nat_tests)

long_length : (n : ℕ) → n % 120 ≡ 0 → 1200000 < n → length_denial n ≡ Some TooManyRecords
long_length n whole more = grind (arith, nat_tests)

right_length : (n : ℕ) → 360 ≤ n → n ≤ 1200000 → n % 120 ≡ 0 → length_denial n ≡ None
right_length n least most whole = grind (arith, nat_tests)

-- whatever names the first offence is what the rules answer
pub first_named : (b : Bytes) (r : Result Figures Denial) → r ≡ summed b → (d : Denial) → NamesFirst b d → r ≡ Err d
first_named b r e _ (wrong_length wrong) = e ∙ ap (walk_if_fine b) (short_length (length b) wrong)
first_named b r e _ (too_many whole more) = e ∙ ap (walk_if_fine b) (long_length (length b) whole more)
first_named b r e (Faulty f) (in_record fine first) =
    let z : length b / 120 - 0 ≡ length b / 120 = omega arith in
    e ∙ ap (walk_if_fine b) (right_length (length b) fine.least fine.most fine.whole)
    ∙ ap (λ m. walk b 0 m at_start) (sym z) ∙ walk_named b (length b / 120) f (omega (arith, fine.whole)) first
