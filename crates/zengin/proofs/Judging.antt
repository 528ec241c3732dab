-- The check passes exactly the lawful files, and any other file is denied for its first offence.
use Rattle.std.proofs.Common.{◌≡◌, ℕ, ◌+◌, ◌*◌, ◌/◌, ◌%◌, ◌<◌, ◌≤◌, Bool, true, false, cond, eqb, ltb, ◌⊎◌, length, Some, None, Ok, Err, Option, Result, sym, refl, ap, ◌∙◌, subst, inl, inr, arith}
use Rattle.std.proofs.lemmas.Bool.{ltb-true, ltb-false, eqb-true, eqb-false}
use Rattle.std.proofs.lemmas.Bool.Decides.{nat_tests}
use Rattle.denials.specs.declared.Denial.{Denial}
use Rattle.denials.specs.declared.Denial.TheVariants.{BareLength, TooManyRecords, RawTooLong, Faulty, ShortBuffer, Run, OutsideWidth, RegisterFull, AlreadyListed, NotListed, MalformedLine, AccountsTooLong}
use Rattle.denials.specs.declared.Fault.{Fault}
use Rattle.denials.specs.declared.Fault.TheVariants.{OutOfOrder, WrongByte, WrongValue, WrongCount, WrongAmount}
use Rattle.denials.specs.declared.RunDenial.{RunDenial}
use Rattle.denials.specs.declared.RunDenial.TheVariants.{OtherLength, NoRecordLeft, Broken, OtherSort}
use Rattle.denials.specs.Denials.{told, told_at, told_in_run}
use Rattle.records.specs.declared.layouts.Field.{Field}
use Rattle.records.specs.Layouts.{Inside}
use Rattle.records.specs.Fields.{Bytes}
use Rattle.records.specs.Kept.{FieldFault, wrong_byte, wrong_value}
use Rattle.records.proofs.Rows.{numbered_sound, sound_inside}
use Rattle.zengin.specs.declared.totals.Figures.{Figures}
use Rattle.zengin.specs.Files.{length_denial, record_at}
use Rattle.zengin.specs.Judged.{totals, tally, walk, at_start, walk_if_fine, summed, passed, coded}
use Rattle.zengin.specs.Lawful.{LawfulAsking, Lawful}
use Rattle.zengin.specs.Offences.{Place, at_beginning, Offence, missing, of_no_sort, out_of_place, in_field, wrong_count, wrong_amount, NamesFirst, wrong_length, too_many, in_record, Placed}
use Rattle.zengin.proofs.Outcomes.{Outcome, outcome, Stands}
use Rattle.zengin.proofs.Passing.{lawful_walks}

-- The length rule.

data LengthTells (n : ℕ) : Option Denial → Type 0 where
  allowed : 360 ≤ n → n % 120 ≡ 0 → n ≤ 1200000 → LengthTells n None
  short : (n < 360) ⊎ (n % 120 ≡ 0 → ⊥) → LengthTells n (Some BareLength)
  long : n % 120 ≡ 0 → 1200000 < n → LengthTells n (Some TooManyRecords)

length_tested : (n : ℕ) (p q s : Bool) → ltb n 360 ≡ p → eqb (n % 120) 0 ≡ q → ltb 1200000 n ≡ s → LengthTells n (cond p (Some BareLength) (cond q (cond s (Some TooManyRecords) None) (Some BareLength)))
length_tested n true q s a b c = short (inl (ltb-true _ _ a))
length_tested n false true true a b c = long (eqb-true _ _ b) (ltb-true _ _ c)
length_tested n false true false a b c = allowed (ltb-false _ _ a) (eqb-true _ _ b) (ltb-false _ _ c)
length_tested n false false s a b c = short (inr (eqb-false _ _ b))

length_tells : (n : ℕ) → LengthTells n (length_denial n)
length_tells n = length_tested n (ltb n 360) (eqb (n % 120) 0) (ltb 1200000 n) refl refl refl

pub fine_length : (r : ℕ) → 3 ≤ r → r ≤ 10000 → length_denial (r * 120) ≡ None
fine_length r a z = let m : r * 120 % 120 ≡ 0 = omega arith in grind (arith, nat_tests)

-- The judgement.

module _ (b : Bytes) where
  Judgement : Result Figures Denial → Type 0
  Judgement (Ok figures) = LawfulAsking b figures
  Judgement (Err d) = NamesFirst b d

  by_walk : (360 ≤ length b) × (length b % 120 ≡ 0) × (length b ≤ 1200000) → (r : Result Figures Denial) → Outcome b r → Judgement r
  unfolding Judgement Outcome
  by_walk fine (Ok figures) w =
      let done = w.done in
      let last = done.here in
      subst (LawfulAsking b) w.is (record {
        end = done.end;
        whole = omega (arith, fine.1, last);
        least = omega (arith, fine.0, last);
        most = omega (arith, fine.2, last);
        some = done.groups.some;
        groups = done.groups.groups;
        ended = done.ended;
      })
  by_walk fine (Err d) w = subst (NamesFirst b) w.is (in_record (record { least = fine.0; most = fine.2; whole = fine.1 }) w.first)

  by_length : (o : Option Denial) → LengthTells (length b) o → Judgement (walk_if_fine b o)
  unfolding Judgement Stands
  by_length _ (short wrong) = wrong_length wrong
  by_length _ (long whole more) = too_many whole more
  by_length _ (allowed least whole most) =
      by_walk (least, whole, most) (walk b 0 (length b / 120) at_start) (outcome b (length b / 120) 0 at_beginning (tally 0 (totals 0 0) (totals 0 0)) (omega arith) whole (refl, refl))

  judgement : (r : Result Figures Denial) → r ≡ summed b → Judgement r
  judgement r e = subst Judgement (sym e) (by_length (length_denial (length b)) (length_tells (length b)))

  pub passes_lawful : (r : Result Figures Denial) → r ≡ summed b → (figures : Figures) → r ≡ Ok figures → LawfulAsking b figures
  unfolding Judgement
  passes_lawful r e figures is = judgement (Ok figures) (sym is ∙ e)

  pub denies_first : (r : Result Figures Denial) → r ≡ summed b → (d : Denial) → r ≡ Err d → NamesFirst b d
  unfolding Judgement
  denies_first r e d is = judgement (Err d) (sym is ∙ e)

  pub lawful_passes : (r : Result Figures Denial) → r ≡ summed b → (figures : Figures) → LawfulAsking b figures → r ≡ Ok figures
  lawful_passes r e figures l =
      let long = l.whole in
      let fine : length_denial (length b) ≡ None = rw long (fine_length (l.end + 1) l.least l.most) in
      e ∙ ap (walk_if_fine b) fine ∙ lawful_walks b figures l

-- Places.

module _ (b : Bytes) where
  index_most : (i : ℕ) (p : Place) (f : Fault) → length b ≤ 1200000 → Offence b i p f → i ≤ 10000
  index_most i p f most (missing at open_yet) = omega arith
  index_most i p f most (of_no_sort there e) = omega arith
  index_most i p f most (out_of_place there k is e) = omega arith
  index_most i p f most (in_field k admitted g) = omega (arith, admitted.there)
  index_most i p f most (wrong_count s n is there kept w) = omega arith
  index_most i p f most (wrong_amount s n is there kept c w) = omega arith

  by_field : (x : Bytes) (r : ℕ) (g : Field) (f : Fault) → Inside g → FieldFault x g f → (told_at r f).column ≤ 120
  by_field x r g f inside (wrong_byte col from to before here) = omega (arith, inside.ends)
  by_field x r g f inside (wrong_value right here) = omega (arith, inside.goes, inside.ends)

  column_most : (r i : ℕ) (p : Place) (f : Fault) → Offence b i p f → (told_at r f).column ≤ 120
  column_most r i p f (missing at open_yet) = omega arith
  column_most r i p f (of_no_sort there e) = omega arith
  column_most r i p f (out_of_place there k is e) = omega arith
  column_most r i p f (in_field k admitted g) = by_field (record_at b i) r g.field f (sound_inside g.field (numbered_sound k g.number g.field g.is)) g.here
  column_most r i p f (wrong_count s n is there kept w) = omega arith
  column_most r i p f (wrong_amount s n is there kept c w) = omega arith

  record_is : (r : ℕ) (f : Fault) → (told_at r f).«record» ≡ r
  record_is r OutOfOrder = refl
  record_is r (WrongByte col) = refl
  record_is r (WrongValue col) = refl
  record_is r WrongCount = refl
  record_is r WrongAmount = refl

  pub placed : (d : Denial) → NamesFirst b d → Placed d
  placed _ (wrong_length wrong) = record { by_record = omega arith; by_column = omega arith }
  placed _ (too_many whole more) = record { by_record = omega arith; by_column = omega arith }
  placed (Faulty f) (in_record right first) =
      let most = index_most first.index first.place f.fault right.most first.offence in
      record {
        by_record = omega (arith, record_is f.«record» f.fault, first.number, most);
        by_column = column_most f.«record» first.index first.place f.fault first.offence;
      }

-- The check, which tells no figures.

module _ (b : Bytes) (s : Result Figures Denial) (is : s ≡ summed b) where
  passed_lawful : (s : Result Figures Denial) → s ≡ summed b → passed s ≡ Ok tt → Lawful b
  passed_lawful (Ok figures) e p = record { figures = figures; asking = passes_lawful b (Ok figures) e figures refl }
  passed_lawful (Err d) e p = let z : ◌≡◌ {A = ℕ} 0 1 = cc in absurd (omega arith)

  pub check_passes : (r : Result (Unit {0}) Denial) → r ≡ passed s → r ≡ Ok tt → Lawful b
  check_passes r e p = passed_lawful s is (sym e ∙ p)

  pub check_lawful : (r : Result (Unit {0}) Denial) → r ≡ passed s → Lawful b → r ≡ Ok tt
  check_lawful r e l = e ∙ ap passed (lawful_passes b s is l.figures l.asking)

  refused_first : (s : Result Figures Denial) → s ≡ summed b → (d : Denial) → passed s ≡ Err d → NamesFirst b d
  refused_first (Ok figures) e d p = let z : ◌≡◌ {A = ℕ} 0 1 = cc in absurd (omega arith)
  refused_first (Err d) e d' p = let same : d ≡ d' = cc in subst (NamesFirst b) same (denies_first b (Err d) e d refl)

  pub check_first : (r : Result (Unit {0}) Denial) → r ≡ passed s → (d : Denial) → r ≡ Err d → NamesFirst b d
  check_first r e d p = refused_first s is d (sym e ∙ p)

-- In one number.

number_some : (d : Denial) → 1 ≤ (told d).number
number_some BareLength = omega arith
number_some TooManyRecords = omega arith
number_some (Faulty f) = fault_some f.fault
  where
    fault_some : (g : Fault) → 1 ≤ (told_at f.«record» g).number
    fault_some OutOfOrder = omega arith
    fault_some (WrongByte col) = omega arith
    fault_some (WrongValue col) = omega arith
    fault_some WrongCount = omega arith
    fault_some WrongAmount = omega arith
number_some RawTooLong = omega arith
number_some ShortBuffer = omega arith
number_some (Run d) = run_some d
  where
    run_some : (d : RunDenial) → 1 ≤ (told_in_run d).number
    run_some OtherLength = omega arith
    run_some NoRecordLeft = omega arith
    run_some (Broken f) = omega arith
    run_some (OtherSort r) = omega arith
number_some OutsideWidth = omega arith
number_some RegisterFull = omega arith
number_some AlreadyListed = omega arith
number_some NotListed = omega arith
number_some (MalformedLine line) = omega arith
number_some AccountsTooLong = omega arith

pub coded_zero : (r : Result (Unit {0}) Denial) → coded r ≡ 0 → r ≡ Ok tt
coded_zero (Ok done) e = refl
coded_zero (Err d) e = absurd (omega (arith, number_some d))
