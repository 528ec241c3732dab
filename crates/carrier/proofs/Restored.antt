-- Packing a file and then unpacking it.
use Rattle.std.proofs.Common.{◌≡◌, ℕ, zero, suc, ◌+◌, ◌-◌, ◌*◌, ◌/◌, ◌%◌, ◌<◌, ◌≤◌, Bool, true, false, cond, not, ltb, List, [], ◌∷◌, ◌++◌, length, get_or, take, drop, Some, None, Ok, Err, filter, Option, Result, sym, refl, ap, ◌∙◌, arith}
use Rattle.std.specs.Simd.{first_chunks}
use Rattle.std.specs.List.{flat_map}
use Rattle.std.proofs.lemmas.List.Elements.{filter-append}
use Rattle.std.proofs.ByRecursion.{All-drop, All-take}
use Rattle.std.proofs.lemmas.List.{append_assoc, append-nil, get_or_push, length-drop, length_push, take_all, take-append-drop, take_at}
use Rattle.std.proofs.lemmas.Bool.{le-ltb}
use Rattle.std.proofs.lemmas.Bool.Decides.{nat_tests}
use Rattle.denials.specs.declared.Denial.{Denial}
use Rattle.denials.specs.declared.Denial.TheVariants.{ShortBuffer}
use Rattle.records.specs.Fields.{Bytes}
use Rattle.zengin.specs.Files.{length_denial, records_of}
use Rattle.zengin.specs.Lawful.{Lawful}
use Rattle.zengin.proofs.Judging.{fine_length}
use Rattle.carrier.specs.Carrier.{is_kept, body, bare, line_end, line, packed, unless_denied, buffer_after, unpack_answer, pack_answer, pack_buffer, Plain, Restores}
use Rattle.carrier.proofs.Lines.{length_chunked, lines_length, records_long}
use Rattle.carrier.proofs.Plain.{lawful_plain}

-- plain bytes are kept, and line ends are not
plain_kept : (xs : Bytes) → Plain xs → filter is_kept xs ≡ xs
plain_kept [] plain = refl
plain_kept (x ∷ xs) plain =
    ap (λ (t : Bool). cond (not t) (x ∷ filter is_kept xs) (filter is_kept xs)) plain.0 ∙ ap (λ l. x ∷ l) (plain_kept xs plain.1)

line_kept : (x : Bytes) → Plain x → filter is_kept (line x) ≡ x
line_kept x plain = filter-append is_kept x line_end ∙ append-nil (filter is_kept x) ∙ plain_kept x plain

-- what is kept of the lines are the records
lines_kept : (n : ℕ) (b : Bytes) → length b ≡ n * 120 → Plain b → filter is_kept (flat_map line (first_chunks 120 n b)) ≡ b
lines_kept zero [] long plain = refl
lines_kept zero (x ∷ b) long plain = absurd (omega arith)
lines_kept (suc n) b long plain =
    let one = line_kept (take 120 b) (All-take _ 120 b plain) in
    let rest = lines_kept n (drop 120 b) (omega (arith, length-drop 120 b)) (All-drop _ 120 b plain) in
    filter-append is_kept (line (take 120 b)) (flat_map line (first_chunks 120 n (drop 120 b))) ∙ (λ i. one i ++ rest i) ∙ take-append-drop 120 b

-- lines end with 0Ah
lines_end : (x : Bytes) (rs : List Bytes) → (front : Bytes) × (flat_map line (x ∷ rs) ≡ front ++ 10 ∷ [])
lines_end x [] = (x ++ 13 ∷ [], append-nil (line x) ∙ sym (append_assoc x (13 ∷ []) (10 ∷ [])))
lines_end x (y ∷ rs) =
    let p = lines_end y rs in
    (line x ++ p.0, ap (λ l. line x ++ l) p.1 ∙ sym (append_assoc (line x) p.0 (10 ∷ [])))

-- so that nothing is dropped from them
body_same : (xs : Bytes) → body (xs ++ 10 ∷ []) ≡ xs ++ 10 ∷ []
body_same xs =
    let at_end : length (xs ++ 10 ∷ []) - 1 ≡ length xs = omega (arith, length_push xs 10) in
    let ten = ap (λ i. get_or (xs ++ 10 ∷ []) i 0) at_end ∙ get_or_push xs 10 0 (length xs) refl in
    grind (arith, nat_tests, ten)

lines_body : (rs : List Bytes) → 0 < length rs → body (flat_map line rs) ≡ flat_map line rs
lines_body [] some = absurd (omega arith)
lines_body (x ∷ rs) some = let p = lines_end x rs in ap body p.1 ∙ body_same p.0 ∙ sym p.1

length_fine : (n : ℕ) → length_denial n ≡ None → (360 ≤ n) × (n % 120 ≡ 0)
length_fine n fine = grind (arith, nat_tests)

-- a packed file unpacks to the bare file
packed_bare : (b : Bytes) → length_denial (length b) ≡ None → Plain b → bare (packed b) ≡ b
packed_bare b fine plain =
    let right = length_fine (length b) fine in
    ap (filter is_kept) (lines_body (records_of b) (omega (arith, length_chunked (length b / 120) b, right)))
    ∙ lines_kept (length b / 120) b (omega (arith, right)) plain

packed_length : (b : Bytes) → length (packed b) ≡ length b / 120 * 122
packed_length b =
    let many = length_chunked (length b / 120) b in
    ap (λ rs. length (flat_map line rs)) (sym (take_all (length b / 120) (records_of b) (omega arith)))
    ∙ lines_length (length b / 120) (records_of b) (omega arith) (records_long b)

-- an answer that tells n: nothing was denied, and n bytes are written
told_fits : (t : Bool) (m n : ℕ) → ◌≡◌ {A = Result ℕ Denial} (cond t (Err ShortBuffer) (Ok m)) (Ok n) → m ≡ n
told_fits true m n e = let z : ◌≡◌ {A = ℕ} 0 1 = cc in absurd (omega arith)
told_fits false m n e = cc

told_fine : (d : Option Denial) (m places n : ℕ) → unless_denied d m places ≡ Ok n → (d ≡ None) × (m ≡ n)
told_fine (Some d) m places n e = let z : ◌≡◌ {A = ℕ} 0 1 = cc in absurd (omega arith)
told_fine None m places n e = (refl, told_fits (ltb places m) m n e)

module _ (b old out : Bytes) (told : Result ℕ Denial) (answered : told ≡ pack_answer b (length old)) (left : out ≡ pack_buffer b old) where
  module _ (plain : Plain b) (n : ℕ) (is : told ≡ Ok n) where
    answer_is : pack_answer b (length old) ≡ Ok n
    answer_is = sym answered ∙ is

    fine : length_denial (length b) ≡ None
    fine = (told_fine (length_denial (length b)) (length b / 120 * 122) (length old) n answer_is).0

    front : take n out ≡ packed b
    front =
        let long = (told_fine (length_denial (length b)) (length b / 120 * 122) (length old) n answer_is).1 in
        ap (take n) (left ∙ ap (λ r. buffer_after r (packed b) old) answer_is) ∙ take_at (packed b) (drop (length (packed b)) old) n (packed_length b ∙ long)

    bare_again : bare (take n out) ≡ b
    bare_again = ap bare front ∙ packed_bare b fine plain

    module _ (other : Bytes) (room : length b ≤ length other) where
      answer_again : unpack_answer (take n out) (length other) ≡ Ok (length b)
      answer_again =
          ap (λ l. unless_denied (length_denial (length l)) (length l) (length other)) bare_again
          ∙ ap (λ d. unless_denied d (length b) (length other)) fine
          ∙ ap (λ (t : Bool). cond t (Err ShortBuffer) (Ok (length b))) (le-ltb (length other) (length b) room)

  -- a file with no byte of a line end
  pub plain_restores : Plain b → Restores b told out
  plain_restores plain = record {
    answer = answer_again plain;
    buffer = λ n is other room i. buffer_after (answer_again plain n is other room i) (bare_again plain n is i) other;
  }

  pub lawful_restores : Lawful b → Restores b told out
  lawful_restores lawful = plain_restores (lawful_plain b lawful)

-- a lawful file is packed wherever there is room for it
pub lawful_packs : (b old : Bytes) (r : Result ℕ Denial) → r ≡ pack_answer b (length old) → Lawful b → length b / 120 * 122 ≤ length old → r ≡ Ok (length b / 120 * 122)
lawful_packs b old r told lawful room =
    let l = lawful.asking in
    let fine : length_denial (length b) ≡ None = ap length_denial l.whole ∙ fine_length (l.end + 1) l.least l.most in
    told
    ∙ ap (λ o. unless_denied o (length b / 120 * 122) (length old)) fine
    ∙ ap (λ (t : Bool). cond t (Err ShortBuffer) (Ok (length b / 120 * 122))) (le-ltb (length old) (length b / 120 * 122) room)
