-- A record's test finds nothing exactly if its fields are kept, and finds the first fault otherwise.
use Rattle.std.proofs.Common.{◌≡◌, ℕ, zero, suc, ◌+◌, ◌-◌, ◌<◌, ◌≤◌, Bool, true, false, cond, List, [], ◌∷◌, length, get_or, Some, None, Ok, Err, Option, Result, sym, refl, ap, ◌∙◌, subst, ⊎_elim, arith}
use Rattle.std.proofs.lemmas.Bool.{cond-true, cond-false, cases_lt}
use Rattle.denials.specs.declared.Fault.{Fault}
use Rattle.denials.specs.declared.Fault.TheVariants.{WrongValue}
use Rattle.records.specs.declared.layouts.Class.{Class}
use Rattle.records.specs.declared.layouts.Class.TheVariants.{Number}
use Rattle.records.specs.declared.layouts.Rule.TheVariants.{Any}
use Rattle.records.specs.declared.layouts.Field.{Field}
use Rattle.records.specs.declared.layouts.Sort.{Sort}
use Rattle.records.specs.Layouts.{field, first, last, class, rule, width, holds, keeps, sort_of, fields_of, numbered}
use Rattle.records.specs.Fields.{Bytes, byte_in, first_wrong_byte, number, value_in, judged_field, read_field, unless_fault, test_fields, tested_as, test_record}
use Rattle.records.specs.Kept.{RightBefore, Kept, IsA, FieldFault, wrong_byte, wrong_value, FirstFieldFault, FirstFault, of_no_sort, in_field}
use Rattle.records.proofs.Rows.{numbered_row, row_numbered, row_inside}

-- The columns of a field.

module _ (c : Class) (x : Bytes) where
  Right : ℕ → ℕ → Type 0
  Right from to = (k : ℕ) → from ≤ k → k < to → holds c (byte_in x k) ≡ true

  right_more : (col to : ℕ) → holds c (byte_in x col) ≡ true → Right (col + 1) to → Right col to
  unfolding Right
  right_more col to h later k a z =
      ⊎_elim (λ l. let e : k ≡ col = omega arith in rw e h) (λ l. later k (omega arith) z) (cases_lt k (col + 1))

  -- the next column, by its test, and what the later ones tell
  none_here : (t : Bool) (col n : ℕ) → holds c (byte_in x col) ≡ t → cond t (first_wrong_byte c x (col + 1) n) (Some col) ≡ None → (first_wrong_byte c x (col + 1) n ≡ None → Right (col + 1) (col + 1 + n)) → Right col (col + 1 + n)
  none_here true col n h e later = right_more col (col + 1 + n) h (later e)
  none_here false col n h e later = let z : ◌≡◌ {A = ℕ} 0 1 = cc in absurd (omega arith)

  none_wrong : (col n : ℕ) → first_wrong_byte c x col n ≡ None → Right col (col + n)
  unfolding Right first_wrong_byte
  none_wrong col zero e = λ k a z. absurd (omega arith)
  none_wrong col (suc n) e =
      let s : col + suc n ≡ col + 1 + n = omega arith in
      rw s (none_here (holds c (byte_in x col)) col n refl e (none_wrong (col + 1) n))

  all_right : (col n : ℕ) → Right col (col + n) → first_wrong_byte c x col n ≡ None
  unfolding Right first_wrong_byte
  all_right col zero h = refl
  all_right col (suc n) h =
      cond-true _ _ _ (h col (omega arith) (omega arith)) ∙ all_right (col + 1) n (λ k a z. h k (omega arith) (omega arith))

  -- the first wrong byte
  record WrongAt (col end w : ℕ) : Type 0 where
    from : col ≤ w
    to : w < end
    before : Right col w
    here : holds c (byte_in x w) ≡ false

  some_here : (t : Bool) (col n w : ℕ) → holds c (byte_in x col) ≡ t → cond t (first_wrong_byte c x (col + 1) n) (Some col) ≡ Some w → (first_wrong_byte c x (col + 1) n ≡ Some w → WrongAt (col + 1) (col + 1 + n) w) → WrongAt col (col + 1 + n) w
  unfolding Right
  some_here true col n w h e later =
      let l = later e in
      record { from = omega (arith, l.from); to = l.to; before = right_more col w h l.before; here = l.here }
  some_here false col n w h e later =
      let same : col ≡ w = cc in
      record { from = omega arith; to = omega arith; before = λ k a z. absurd (omega arith); here = subst (λ k. holds c (byte_in x k) ≡ false) same h }

  some_wrong : (col n w : ℕ) → first_wrong_byte c x col n ≡ Some w → WrongAt col (col + n) w
  unfolding first_wrong_byte
  some_wrong col zero w e = let z : ◌≡◌ {A = ℕ} 0 1 = cc in absurd (omega arith)
  some_wrong col (suc n) w e =
      let s : col + suc n ≡ col + 1 + n = omega arith in
      rw s (some_here (holds c (byte_in x col)) col n w refl e (some_wrong (col + 1) n w))

  wrong_first : (col n w : ℕ) → col ≤ w → w < col + n → Right col w → holds c (byte_in x w) ≡ false → first_wrong_byte c x col n ≡ Some w
  unfolding Right first_wrong_byte
  wrong_first col zero w from to before here = absurd (omega arith)
  wrong_first col (suc n) w from to before here =
      ⊎_elim
      (λ l. cond-true _ _ _ (before col (omega arith) l) ∙ wrong_first (col + 1) n w (omega arith) (omega arith) (λ k a z. before k (omega arith) z) here)
      (λ l. let e : w ≡ col = omega arith in cond-false _ _ _ (subst (λ k. holds c (byte_in x k) ≡ false) e here) ∙ ap Some (sym e))
      (cases_lt col w)

-- One field.

module _ (x : Bytes) (f : Field) where
  -- what is known of a field by its test
  Tells : Result ℕ Fault → Type 0
  Tells (Ok v) = Kept x f
  Tells (Err g) = FieldFault x f g

  by_value : (t : Bool) → keeps (rule f) (number x (first f) (width f)) ≡ t → RightBefore x f (last f + 1) → Tells (cond t (Ok (value_in x f)) (Err (WrongValue (first f))))
  unfolding Tells
  by_value true e right = record { bytes = λ c a z. right c a (omega arith); value = e }
  by_value false e right = wrong_value (λ c a z. right c a (omega arith)) e

  by_bytes : first f ≤ last f → (o : Option ℕ) → first_wrong_byte (class f) x (first f) (width f) ≡ o → Tells (judged_field x f o)
  unfolding Tells Right
  by_bytes l (Some w) e =
      let at = some_wrong (class f) x (first f) (width f) w e in
      wrong_byte w at.from (omega (arith, at.to)) at.before at.here
  by_bytes l None e =
      let right = none_wrong (class f) x (first f) (width f) e in
      by_value (keeps (rule f) (number x (first f) (width f))) refl (λ c a z. right c a (omega arith))

  field_tells : first f ≤ last f → (r : Result ℕ Fault) → read_field x f ≡ r → Tells r
  field_tells l r e = subst Tells e (by_bytes l (first_wrong_byte (class f) x (first f) (width f)) refl)

  pub kept_read : Kept x f → read_field x f ≡ Ok (value_in x f)
  unfolding Right
  kept_read k =
      ap (judged_field x f) (all_right (class f) x (first f) (width f) (λ c a z. k.bytes c a (omega arith)))
      ∙ cond-true _ _ _ k.value

  fault_read : {g : Fault} → FieldFault x f g → read_field x f ≡ Err g
  unfolding Right
  fault_read (wrong_byte col from to before here) =
      ap (judged_field x f) (wrong_first (class f) x (first f) (width f) col from (omega arith) before here)
  fault_read (wrong_value right here) =
      ap (judged_field x f) (all_right (class f) x (first f) (width f) (λ c a z. right c a (omega arith))) ∙ cond-false _ _ _ here

-- The fields of a record.

module _ (x : Bytes) (d : Field) where
  Ordered : List Field → Type 0
  Ordered fs = (i : ℕ) → i < length fs → first (get_or fs i d) ≤ last (get_or fs i d)

  -- the first fault among some fields, by its place
  record FaultAt (fs : List Field) (g : Fault) : Type 0 where
    at : ℕ
    within : at < length fs
    before : (j : ℕ) → j < at → Kept x (get_or fs j d)
    here : FieldFault x (get_or fs at d) g

  AllTell : List Field → Result (Unit {0}) Fault → Type 0
  AllTell fs (Ok v) = (i : ℕ) → i < length fs → Kept x (get_or fs i d)
  AllTell fs (Err g) = FaultAt fs g

  -- one field more in front
  tell_more : (f : Field) (fs : List Field) (one : Result ℕ Fault) (rest : Result (Unit {0}) Fault) → Tells x f one → AllTell fs rest → AllTell (f ∷ fs) (unless_fault one rest)
  unfolding Tells AllTell
  tell_more f fs (Err g) rest here later = record { at = 0; within = omega arith; before = λ j h. absurd (omega arith); here = here }
  tell_more f fs (Ok v) (Ok u) here later = λ i h. at i h
    where
      at : (i : ℕ) → i < length (f ∷ fs) → Kept x (get_or (f ∷ fs) i d)
      at zero h = here
      at (suc i) h = later i (omega arith)
  tell_more f fs (Ok v) (Err g) here later = record { at = suc later.at; within = omega (arith, later.within); before = λ j h. earlier j h; here = later.here }
    where
      earlier : (j : ℕ) → j < suc later.at → Kept x (get_or (f ∷ fs) j d)
      earlier zero h = here
      earlier (suc j) h = later.before j (omega arith)

  fields_tell : (fs : List Field) → Ordered fs → AllTell fs (test_fields x fs)
  unfolding Ordered AllTell
  fields_tell [] o = λ i h. absurd (omega arith)
  fields_tell (f ∷ fs) o =
      tell_more f fs (read_field x f) (test_fields x fs) (field_tells x f (o 0 (omega arith)) (read_field x f) refl) (fields_tell fs (λ i h. o (suc i) (omega arith)))

  fields_kept : (fs : List Field) → ((i : ℕ) → i < length fs → Kept x (get_or fs i d)) → test_fields x fs ≡ Ok tt
  fields_kept [] k = refl
  fields_kept (f ∷ fs) k =
      ap (λ r. unless_fault r (test_fields x fs)) (kept_read x f (k 0 (omega arith))) ∙ fields_kept fs (λ i h. k (suc i) (omega arith))

  fields_faulty : (fs : List Field) (i : ℕ) (g : Fault) → i < length fs → ((j : ℕ) → j < i → Kept x (get_or fs j d)) → read_field x (get_or fs i d) ≡ Err g → test_fields x fs ≡ Err g
  fields_faulty [] i g h before here = absurd (omega arith)
  fields_faulty (f ∷ fs) zero g h before here = ap (λ r. unless_fault r (test_fields x fs)) here
  fields_faulty (f ∷ fs) (suc i) g h before here =
      ap (λ r. unless_fault r (test_fields x fs)) (kept_read x f (before 0 (omega arith)))
      ∙ fields_faulty fs i g (omega arith) (λ j l. before (suc j) (omega arith)) here

-- A record of a sort.

none : Field
none = field 0 0 Number Any

ordered : (k : Sort) (x : Bytes) → Ordered x none (fields_of k)
unfolding Ordered none
ordered k x i h = (row_inside k i h).goes

module _ (k : Sort) (x : Bytes) where
  -- what is known of a record's fields by their test
  FieldsTell : Result (Unit {0}) Fault → Type 0
  FieldsTell (Ok v) = (n : ℕ) (f : Field) → numbered k n ≡ Some f → Kept x f
  FieldsTell (Err g) = FirstFieldFault k x g

  by_number : (r : Result (Unit {0}) Fault) → AllTell x none (fields_of k) r → FieldsTell r
  unfolding AllTell FieldsTell none
  by_number (Ok v) all = λ n f is.
      let p = numbered_row (fields_of k) n f is in
      subst (Kept x) (sym p.2) (all (n - 1) (omega (arith, p.0, p.1)))
  by_number (Err g) found = record {
    number = found.at + 1;
    field = get_or (fields_of k) found.at (field 0 0 Number Any);
    is = row_numbered (fields_of k) found.at found.within;
    before = λ m f h is.
        let p = numbered_row (fields_of k) m f is in
        subst (Kept x) (sym p.2) (found.before (m - 1) (omega (arith, p.0, p.1)));
    here = found.here;
  }

  fields_told : (r : Result (Unit {0}) Fault) → test_fields x (fields_of k) ≡ r → FieldsTell r
  fields_told r e = subst FieldsTell e (by_number (test_fields x (fields_of k)) (fields_tell x none (fields_of k) (ordered k x)))

  pub fields_kept_if : test_fields x (fields_of k) ≡ Ok tt → (n : ℕ) (f : Field) → numbered k n ≡ Some f → Kept x f
  unfolding FieldsTell
  fields_kept_if e = fields_told (Ok tt) e

  pub fields_fault_if : (g : Fault) → test_fields x (fields_of k) ≡ Err g → FirstFieldFault k x g
  unfolding FieldsTell
  fields_fault_if g e = fields_told (Err g) e

  pub fields_if_kept : ((n : ℕ) (f : Field) → numbered k n ≡ Some f → Kept x f) → test_fields x (fields_of k) ≡ Ok tt
  unfolding none
  fields_if_kept kept = fields_kept x none (fields_of k) (λ i h. kept (i + 1) (get_or (fields_of k) i (field 0 0 Number Any)) (row_numbered (fields_of k) i h))

  pub fields_if_fault : (g : Fault) → FirstFieldFault k x g → test_fields x (fields_of k) ≡ Err g
  unfolding none
  fields_if_fault g first_one =
      let p = numbered_row (fields_of k) first_one.number first_one.field first_one.is in
      fields_faulty x none (fields_of k) (first_one.number - 1) g (omega (arith, p.0, p.1))
      (λ j l. first_one.before (j + 1) (get_or (fields_of k) j (field 0 0 Number Any)) (omega (arith, p.0)) (row_numbered (fields_of k) j (omega (arith, p.1))))
      (subst (λ f. read_field x f ≡ Err g) p.2 (fault_read x first_one.field first_one.here))

-- A record by itself.

module _ (x : Bytes) where
  tested : (o : Option Sort) → sort_of (byte_in x 1) ≡ o → test_record x ≡ tested_as x o
  tested o e = ap (tested_as x) e

  RecordTells : Result Sort Fault → Type 0
  RecordTells (Ok k) = IsA k x
  RecordTells (Err g) = FirstFault x g

  by_fields : (k : Sort) → sort_of (byte_in x 1) ≡ Some k → (r : Result (Unit {0}) Fault) → test_fields x (fields_of k) ≡ r → RecordTells (unless_fault r (Ok k))
  unfolding RecordTells
  by_fields k is (Ok v) e = record { sort = is; fields = fields_kept_if k x e }
  by_fields k is (Err g) e = in_field k is (fields_fault_if k x g e)

  by_sort : (o : Option Sort) → sort_of (byte_in x 1) ≡ o → RecordTells (tested_as x o)
  unfolding RecordTells
  by_sort None e = of_no_sort e
  by_sort (Some k) e = by_fields k e (test_fields x (fields_of k)) refl

  record_tells : (r : Result Sort Fault) → r ≡ test_record x → RecordTells r
  record_tells r e = subst RecordTells (sym e) (by_sort (sort_of (byte_in x 1)) refl)

  pub record_passes : (r : Result Sort Fault) → r ≡ test_record x → (k : Sort) → r ≡ Ok k → IsA k x
  unfolding RecordTells
  record_passes r e k is = record_tells (Ok k) (sym is ∙ e)

  pub record_refused : (r : Result Sort Fault) → r ≡ test_record x → (g : Fault) → r ≡ Err g → FirstFault x g
  unfolding RecordTells
  record_refused r e g is = record_tells (Err g) (sym is ∙ e)

  pub record_kept : (r : Result Sort Fault) → r ≡ test_record x → (k : Sort) → IsA k x → r ≡ Ok k
  record_kept r e k kept =
      e ∙ tested (Some k) kept.sort ∙ ap (λ t. unless_fault t (Ok k)) (fields_if_kept k x kept.fields)

  pub record_named : (r : Result Sort Fault) → r ≡ test_record x → (g : Fault) → FirstFault x g → r ≡ Err g
  record_named r e g (of_no_sort is) = e ∙ tested None is
  record_named r e g (in_field k is fault) = e ∙ tested (Some k) is ∙ ap (λ t. unless_fault t (Ok k)) (fields_if_fault k x g fault)
