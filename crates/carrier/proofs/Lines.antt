-- The lines of a packed file, one by one.
use Rattle.std.proofs.Common.{◌≡◌, ℕ, zero, suc, ◌+◌, ◌*◌, ◌/◌, ◌<◌, ◌≤◌, List, [], ◌∷◌, ◌++◌, length, get_or, take, drop, sym, refl, ap, ◌∙◌, arith}
use Rattle.std.specs.Simd.{first_chunks}
use Rattle.std.specs.List.{flat_map}
use Rattle.std.proofs.lemmas.List.{append_assoc, flat_map_more, length-append, length-drop, length-take-le, take_more}
use Rattle.records.specs.Fields.{Bytes}
use Rattle.zengin.specs.Files.{records_of}
use Rattle.zengin.proofs.Walks.{record_item}
use Rattle.carrier.specs.Carrier.{line_end, line, over, put}
use Rattle.carrier.proofs.Buffers.{over_put}

-- as many records as are whole
pub length_chunked : (n : ℕ) (b : Bytes) → length (first_chunks 120 n b) ≡ n
length_chunked zero b = refl
length_chunked (suc n) b = ap suc (length_chunked n (drop 120 b))

-- lines are 122 bytes long
pub lines_length : (n : ℕ) (rs : List Bytes) → n ≤ length rs → ((i : ℕ) → i < length rs → length (get_or rs i []) ≡ 120) → length (flat_map line (take n rs)) ≡ n * 122
lines_length zero rs most long = refl
lines_length (suc n) [] most long = absurd (omega arith)
lines_length (suc n) (x ∷ rs) most long =
    let rest = lines_length n rs (omega arith) (λ i h. long (suc i) (omega arith)) in
    omega (arith, long 0 (omega arith), rest, length-append (line x) (flat_map line (take n rs)), length-append x line_end)

-- the records of a file are 120 bytes long
pub records_long : (b : Bytes) (i : ℕ) → i < length (records_of b) → length (get_or (records_of b) i []) ≡ 120
records_long b i h =
    let on : i < length b / 120 = omega (arith, length_chunked (length b / 120) b) in
    ap length (record_item b (records_of b) i refl on) ∙ length-take-le 120 (drop (i * 120) b) (omega (arith, length-drop (i * 120) b))

-- one line more over the front
pub lines_more : (b old out : Bytes) (rs : List Bytes) (i : ℕ) → rs ≡ records_of b → i < length rs → out ≡ over (flat_map line (take i (records_of b))) old
    → put (i * 122 + 120) line_end (put (i * 122) (get_or rs i []) out) ≡ over (flat_map line (take (i + 1) (records_of b))) old
lines_more b old out rs i all on is =
    let new = flat_map line (take i (records_of b)) in
    let x = get_or (records_of b) i [] in
    let there : i < length (records_of b) = omega (arith, ap length all) in
    let here = lines_length i (records_of b) (omega arith) (records_long b) in
    (λ j. put (i * 122 + 120) line_end (put (i * 122) (get_or (all j) i []) (is j)))
    ∙ ap (put (i * 122 + 120) line_end) (over_put new x old (i * 122) here)
    ∙ over_put (new ++ x) line_end old (i * 122 + 120) (omega (arith, length-append new x, here, records_long b i there))
    ∙ ap (λ l. over l old) (append_assoc new x line_end ∙ flat_map_more line [] (take i (records_of b)) x ∙ ap (flat_map line) (sym (take_more (records_of b) i [] there)))
